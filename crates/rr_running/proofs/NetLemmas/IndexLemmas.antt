-- Indices by keys: the first place that passes is found among those noted at its key.
use Rattle.std.specs.Prelude.{◌≡◌, ℕ, suc, ◌+◌, ◌<◌, ◌%◌, Bool, true, false, not, Some, unwrap_or, find, List, [], ◌∷◌, ◌++◌, map, length, refl}
use Rattle.std.specs.List.{position_or_len}
use Rattle.std.proofs.Common.{◌∙◌, ap, sym, cond, get_or, take, length-take, inl, inr, add-zero, zero-add, append-nil, arith}
use Rattle.std.proofs.lemmas.Bool.{false≢true, eq-eqb}
use Rattle.std.proofs.lemmas.Bool.Decides.{eqb_tells}
use Rattle.std.proofs.lemmas.List.{take_more}
use Rattle.std.proofs.lemmas.Slice.Eq.{bytes_eq-Decides}
use Rattle.rr_kit.specs.declared.board.hex.Hex.{Hex}
use Rattle.rr_kit.specs.Board.Plan.{has_name}
use Rattle.rr_network.specs.declared.network.Stop.{Stop}
use Rattle.rr_network.specs.declared.node.CentreAt.{CentreAt}
use Rattle.rr_network.specs.declared.node.Hexside.{Hexside}
use Rattle.rr_network.specs.Keys.{centre_key, hexside_key, name_key}
use Rattle.rr_network.specs.Node.{same_hexside}
use Rattle.rr_network.proofs.FacingLemmas.{is_test_of_hexsides}
use Rattle.rr_routes.specs.Reachability.Index.{noted, noted_at, nothing_noted}
use Rattle.rr_routes.proofs.ReachabilityLemmas.IndexLemmas.{as_many_rows, none_at, row_of_another, row_of_key, some_rows}
use Rattle.rr_running.specs.Net.Centres.{places, places_from}
use Rattle.rr_running.specs.Net.Indexing.{IsIndexOf, hex_key, passes_at, share_row, stop_key}
use Rattle.rr_running.specs.Net.Joining.{centre_place, hex_place, is_stop_at, side_place}
use Rattle.rr_running.proofs.NetLemmas.TellingLemmas.{same_centre-tells}

push-cond : (b : Bool) (a : ℕ) (us vs : List ℕ) → cond b (a ∷ us ++ vs) (us ++ vs) ≡ cond b (a ∷ us) us ++ vs
push-cond true a us vs = refl
push-cond false a us vs = refl

-- the first of them that passes another test, which none but they pass
first_step : (a : ℕ) (t u : Bool) (q : ℕ → Bool) (rest : List ℕ) (n m : ℕ) → (u ≡ true → t ≡ true) → q a ≡ u → unwrap_or (find q rest) n ≡ (a + 1) + m
    → unwrap_or (find q (cond t (a ∷ rest) rest)) n ≡ a + cond (not u) (1 + m) 0
first_step a true true q rest n m only is later = ap (λ (b : Bool). unwrap_or (cond b (Some a) (find q rest)) n) is ∙ sym (add-zero a)
first_step a true false q rest n m only is later = ap (λ (b : Bool). unwrap_or (cond b (Some a) (find q rest)) n) is ∙ later ∙ omega arith
first_step a false true q rest n m only is later = absurd (false≢true (only refl))
first_step a false false q rest n m only is later = later ∙ omega arith

module _ {X : Type 0} where
  -- one item more behind the others
  places_push : (a : ℕ) (test : X → Bool) (xs : List X) (x : X) → places_from a test (xs ++ x ∷ []) ≡ places_from a test xs ++ cond (test x) ((a + length xs) ∷ []) []
  unfolding places_from
  places_push a test [] x = ap (λ (n : ℕ). cond (test x) (n ∷ []) []) (sym (add-zero a))
  places_push a test (y ∷ ys) x =
      ap (λ (rest : List ℕ). cond (test y) (a ∷ rest) rest) (places_push (a + 1) test ys x)
      ∙ push-cond (test y) a (places_from (a + 1) test ys) (cond (test x) ((a + 1 + length ys) ∷ []) [])
      ∙ ap (λ (n : ℕ). cond (test y) (a ∷ places_from (a + 1) test ys) (places_from (a + 1) test ys) ++ cond (test x) (n ∷ []) []) (omega arith)

  first_along : (a : ℕ) (test is : X → Bool) (q : ℕ → Bool) (xs : List X) → ((x : X) → is x ≡ true → test x ≡ true) → ((i : ℕ) → q (a + i) ≡ passes_at is xs i)
      → unwrap_or (find q (places_from a test xs)) (a + length xs) ≡ a + position_or_len is xs
  unfolding places_from
  first_along a test is q [] only same = refl
  first_along a test is q (x ∷ xs) only same =
      ap (λ (n : ℕ). unwrap_or (find q (places_from a test (x ∷ xs))) n) (omega arith)
      ∙ first_step a (test x) (is x) q (places_from (a + 1) test xs) ((a + 1) + length xs) (position_or_len is xs) (only x) (ap q (sym (add-zero a)) ∙ same 0)
      (first_along (a + 1) test is q xs only (λ i. ap q (omega arith) ∙ same (suc i)))

  first_of_places : (test is : X → Bool) (xs : List X) → ((x : X) → is x ≡ true → test x ≡ true)
      → unwrap_or (find (passes_at is xs) (places test xs)) (length xs) ≡ position_or_len is xs
  first_of_places test is xs only =
      ap (λ (n : ℕ). unwrap_or (find (passes_at is xs) (places test xs)) n) (sym (zero-add (length xs)))
      ∙ first_along 0 test is (passes_at is xs) xs only (λ i. ap (passes_at is xs) (zero-add i))
      ∙ zero-add (position_or_len is xs)

  places_of_keys : (a : ℕ) (key : X → ℕ) (test : ℕ → Bool) (xs : List X) → places_from a test (map key xs) ≡ places_from a (λ x. test (key x)) xs
  unfolding places_from
  places_of_keys a key test [] = refl
  places_of_keys a key test (x ∷ xs) = ap (λ (rest : List ℕ). cond (test (key x)) (a ∷ rest) rest) (places_of_keys (a + 1) key test xs)

  -- where only items of one key pass, the first that passes is the first that is noted at the key
  first_noted : (key : X → ℕ) (is : X → Bool) (xs : List X) (index : List (List ℕ)) (of : ℕ) → ((x : X) → is x ≡ true → key x ≡ of) → IsIndexOf (map key xs) index
      → unwrap_or (find (passes_at is xs) (noted_at index of)) (length xs) ≡ position_or_len is xs
  first_noted key is xs index of only ix =
      let shares = share_row (length index) of in
      ap (λ (row : List ℕ). unwrap_or (find (passes_at is xs) row) (length xs)) (ix.rows of ∙ places_of_keys 0 key shares xs)
      ∙ first_of_places (λ x. shares (key x)) is xs (λ x e. eq-eqb (key x % length index) (of % length index) (ap (λ (k : ℕ). k % length index) (only x e)))

-- no key is noted
pub index_first : (count : ℕ) (index : List (List ℕ)) → index ≡ nothing_noted count → IsIndexOf [] index
unfolding places_from
index_first count index e = rw e (record { some = some_rows count; rows = none_at count })

-- one key more
index_next : (keys : List ℕ) (index : List (List ℕ)) (key place : ℕ) → place ≡ length keys → IsIndexOf keys index → IsIndexOf (keys ++ key ∷ []) (noted index key place)
index_next keys index key place is ix = record { some = omega (arith, ix.some, as_long); rows = rows }
  where
    as_long : length (noted index key place) ≡ length index
    as_long = as_many_rows index key place

    row : (other : ℕ) → noted_at (noted index key place) other ≡ noted_at index other ++ cond (share_row (length index) other key) (place ∷ []) []
    row other = elim (eqb_tells (key % length index) (other % length index)) [
      | inl same ↦
          row_of_key index key place other ix.some (sym same.1)
          ∙ ap (λ (b : Bool). noted_at index other ++ cond b (place ∷ []) []) (sym same.0)
      | inr differ ↦
          row_of_another index key place other (λ e. differ.1 (sym e))
          ∙ sym (append-nil (noted_at index other))
          ∙ ap (λ (b : Bool). noted_at index other ++ cond b (place ∷ []) []) (sym differ.0)
    ]

    rows : (other : ℕ) → noted_at (noted index key place) other ≡ places (share_row (length (noted index key place)) other) (keys ++ key ∷ [])
    rows other =
        row other
        ∙ ap (λ (old : List ℕ). old ++ cond (share_row (length index) other key) (place ∷ []) []) (ix.rows other)
        ∙ ap (λ (p : ℕ). places (share_row (length index) other) keys ++ cond (share_row (length index) other key) (p ∷ []) []) (is ∙ sym (zero-add (length keys)))
        ∙ sym (places_push 0 (share_row (length index) other) keys key)
        ∙ ap (λ (n : ℕ). places (share_row n other) (keys ++ key ∷ [])) (sym as_long)

pub index_more : (keys : List ℕ) (i : ℕ) (index new : List (List ℕ)) → i < length keys → IsIndexOf (take i keys) index → new ≡ noted index (get_or keys i 0) i
    → IsIndexOf (take (i + 1) keys) new
index_more keys i index new within ix is =
    rw (take_more keys i 0 within, is) (index_next (take i keys) index (get_or keys i 0) i (omega (arith, length-take i keys, within)) ix)

-- what is found by its key is the first that passes
pub hex_found : (hexes : List Hex) (index : List (List ℕ)) (name : List ℕ) → IsIndexOf (map hex_key hexes) index
    → unwrap_or (find (passes_at (has_name name) hexes) (noted_at index (name_key name))) (length hexes) ≡ hex_place hexes name
hex_found hexes index name ix =
    first_noted hex_key (has_name name) hexes index (name_key name) (λ hex e. ap name_key ((bytes_eq-Decides hex.name name).0 e)) ix

pub side_found : (sides : List Hexside) (index : List (List ℕ)) (side : Hexside) → IsIndexOf (map hexside_key sides) index
    → unwrap_or (find (passes_at (same_hexside side) sides) (noted_at index (hexside_key side))) (length sides) ≡ side_place sides side
side_found sides index side ix =
    first_noted hexside_key (same_hexside side) sides index (hexside_key side) (λ other e. ap hexside_key (sym ((is_test_of_hexsides side other).0 e))) ix

pub stop_found : (stops : List Stop) (index : List (List ℕ)) (at : CentreAt) → IsIndexOf (map stop_key stops) index
    → unwrap_or (find (passes_at (is_stop_at at) stops) (noted_at index (centre_key at))) (length stops) ≡ centre_place stops at
stop_found stops index at ix =
    first_noted stop_key (is_stop_at at) stops index (centre_key at) (λ stop e. ap centre_key (same_centre-tells stop.at at e)) ix
