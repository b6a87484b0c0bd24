-- Equal nodes have one key, and what is noted at keys is found by them.
use Rattle.std.proofs.Common.{◌≡◌, ◌≢◌, ℕ, ◌+◌, ◌<◌, ◌≤◌, ◌%◌, Bool, true, false, cond, Option, None, Some, List, [], ◌∷◌, ◌++◌, length, get_or, take, reverse, refl, sym, ◌∙◌, ap, subst, inl, inr, arith}
use Rattle.std.specs.List.{fold, find, slice_get}
use Rattle.std.specs.Option.{option_map, option_or}
use Rattle.std.specs.Str.{bytes_eq}
use Rattle.std.proofs.lemmas.Bool.{and_parts, cases_eq, eqb-true, false≢true}
use Rattle.std.proofs.lemmas.List.{reverse-append, take_all, take_more}
use Rattle.std.proofs.lemmas.List.Folds.{find-append}
use Rattle.std.proofs.lemmas.List.Sums.{fold-append}
use Rattle.std.proofs.lemmas.Option.{slice_get-get_or}
use Rattle.std.proofs.lemmas.Slice.Eq.{bytes_eq-Decides}
use Rattle.rr_tiles.specs.declared.part.Kind.{Kind}
use Rattle.rr_desk.specs.declared.layout.layout.Lay.{Lay}
use Rattle.rr_desk.specs.Layout.Layout.{last_lay}
use Rattle.rr_routes.specs.Reachability.Index.{noted, noted_at, nothing_noted}
use Rattle.rr_routes.proofs.ReachabilityLemmas.IndexLemmas.{as_many_rows, none_at, row_of_another, row_of_key, some_rows}
use Rattle.rr_network.specs.declared.network.Stop.{Stop}
use Rattle.rr_network.specs.declared.node.CentreAt.{CentreAt}
use Rattle.rr_network.specs.declared.node.Node.{Node}
use Rattle.rr_network.specs.declared.node.Node.TheVariants.{Hexside as OfHexside, Centre as OfCentre}
use Rattle.rr_network.specs.Indexes.{FindsKinds, FindsLays, first_kind, kind_if, later_lay, lay_or}
use Rattle.rr_network.specs.Keys.{centre_key, hexside_key, joined, name_key, node_key}
use Rattle.rr_network.specs.Node.{same_centre, same_node}
use Rattle.rr_network.specs.Walk.{kind_at}
use Rattle.rr_network.proofs.FacingLemmas.{is_test_of_hexsides}

pub same_name_key : (name other : List ℕ) → bytes_eq name other ≡ true → name_key name ≡ name_key other
same_name_key name other passed = ap name_key ((bytes_eq-Decides name other).0 passed)

pub same_centre_key : (centre other : CentreAt) → same_centre centre other ≡ true → centre_key centre ≡ centre_key other
same_centre_key centre other passed =
    let both = and_parts _ _ passed in
    ap (λ (key : ℕ). joined key centre.number) (same_name_key centre.hex other.hex both.0) ∙ ap (λ (n : ℕ). joined (name_key other.hex) n) (eqb-true _ _ both.1)

pub same_node_key : (node other : Node) → same_node node other ≡ true → node_key node ≡ node_key other
same_node_key (OfHexside side) (OfHexside other) passed = ap hexside_key ((is_test_of_hexsides side other).0 passed)
same_node_key (OfHexside side) (OfCentre other) passed = absurd (false≢true passed)
same_node_key (OfCentre centre) (OfHexside other) passed = absurd (false≢true passed)
same_node_key (OfCentre centre) (OfCentre other) passed = same_centre_key centre other passed

-- one place more, in a row or in another: a step that passes over the places of other keys has gone over it in turn
pub fold_noted : {A : Type 0} (step : A → ℕ → A) (start : A) (index : List (List ℕ)) (at place key : ℕ) → 0 < length index
    → (at ≢ key → (before : A) → step before place ≡ before)
    → fold step start (noted_at (noted index at place) key) ≡ step (fold step start (noted_at index key)) place
fold_noted {A} step start index at place key some other = elim (cases_eq (key % length index) (at % length index)) [
  | inl same ↦ ap (fold step start) (row_of_key index at place key some same) ∙ fold-append step start (noted_at index key) (place ∷ [])
  | inr differ ↦
      let differs : at ≢ key = λ e. differ (ap (λ (k : ℕ). k % length index) (sym e)) in
      ap (fold step start) (row_of_another index at place key differ) ∙ sym (other differs (fold step start (noted_at index key)))
]

-- an index of the first n items, in which a fold over each row gives what it would over all of them
pub record IsFoldedTo {K A : Type 0} (step : K → A → ℕ → A) (start : A) (key_of : K → ℕ) (target : K → A) (index : List (List ℕ)) : Type 0 where
  pub some : 0 < length index
  pub found : (sought : K) → fold (step sought) start (noted_at index (key_of sought)) ≡ target sought

pub folded_first : {K A : Type 0} (step : K → A → ℕ → A) (start : A) (key_of : K → ℕ) (target : K → A) (count : ℕ) (index : List (List ℕ)) → index ≡ nothing_noted count
    → ((sought : K) → start ≡ target sought) → IsFoldedTo step start key_of target index
folded_first {K} {A} step start key_of target count index e first =
    subst (λ (rows : List (List ℕ)). IsFoldedTo step start key_of target rows) (sym e) (record {
      some = some_rows count;
      found = λ sought. ap (fold (step sought) start) (none_at count (key_of sought)) ∙ first sought;
    })

pub folded_next : {K A : Type 0} (step : K → A → ℕ → A) (start : A) (key_of : K → ℕ) (target after : K → A) (index new : List (List ℕ)) (at place : ℕ)
    → IsFoldedTo step start key_of target index → new ≡ noted index at place → ((sought : K) → at ≢ key_of sought → (before : A) → step sought before place ≡ before)
    → ((sought : K) → step sought (target sought) place ≡ after sought) → IsFoldedTo step start key_of after new
folded_next {K} {A} step start key_of target after index new at place so_far is other next =
    subst (λ (rows : List (List ℕ)). IsFoldedTo step start key_of after rows) (sym is) (record {
      some = omega (arith, so_far.some, as_many_rows index at place);
      found = λ sought.
          fold_noted (step sought) start index at place (key_of sought) so_far.some (other sought) ∙ ap (λ (a : A). step sought a place) (so_far.found sought) ∙ next sought;
    })

-- the lays
abbrev pub LaysSoFar : List Lay → ℕ → List (List ℕ) → Type 0
LaysSoFar lays n index = IsFoldedTo (later_lay lays) None name_key (last_lay (take n lays)) index

pub lays_next : (lays : List Lay) (n : ℕ) (index new : List (List ℕ)) (lay : Lay) → n < length lays → lay ≡ get_or lays n lay → LaysSoFar lays n index
    → new ≡ noted index (name_key lay.hex) n → LaysSoFar lays (n + 1) new
lays_next lays n index new lay inside here so_far is =
    folded_next (later_lay lays) None name_key (last_lay (take n lays)) (last_lay (take (n + 1) lays)) index new (name_key lay.hex) n so_far is other next
  where
    there : slice_get lays n ≡ Some lay
    there = slice_get-get_or lays n lay inside ∙ ap (λ (l : Lay). Some l) (sym here)

    other : (hex : List ℕ) → name_key lay.hex ≢ name_key hex → (before : Option Lay) → later_lay lays hex before n ≡ before
    other hex differ before = ap (lay_or hex before) there ∙ unlike (bytes_eq lay.hex hex) refl
      where
        unlike : (b : Bool) → bytes_eq lay.hex hex ≡ b → lay_or hex before (Some lay) ≡ before
        unlike true e = absurd (differ (same_name_key lay.hex hex e))
        unlike false e = rw e refl

    next : (hex : List ℕ) → later_lay lays hex (last_lay (take n lays) hex) n ≡ last_lay (take (n + 1) lays) hex
    next hex =
        let on_it : Lay → Bool = λ l. bytes_eq l.hex hex in
        ap (lay_or hex (last_lay (take n lays) hex)) there
        ∙ sym (ap (find on_it) (ap reverse (take_more lays n lay inside ∙ ap (λ (l : Lay). take n lays ++ l ∷ []) (sym here)) ∙ reverse-append (take n lays) (lay ∷ [])))

pub lays_first : (lays : List Lay) (count : ℕ) (index : List (List ℕ)) → index ≡ nothing_noted count → LaysSoFar lays 0 index
lays_first lays count index e = folded_first (later_lay lays) None name_key (last_lay []) count index e (λ hex. refl)

pub lays_done : (lays : List Lay) (n : ℕ) (index : List (List ℕ)) → length lays ≤ n → LaysSoFar lays n index → FindsLays lays index
lays_done lays n index all so_far hex = so_far.found hex ∙ ap (λ (ls : List Lay). last_lay ls hex) (take_all n lays all)

-- the stops
abbrev pub KindsSoFar : List Stop → ℕ → List (List ℕ) → Type 0
KindsSoFar stops n index = IsFoldedTo (first_kind stops) None centre_key (kind_at (take n stops)) index

pub kinds_next : (stops : List Stop) (n : ℕ) (index new : List (List ℕ)) (stop : Stop) → n < length stops → stop ≡ get_or stops n stop → KindsSoFar stops n index
    → new ≡ noted index (centre_key stop.at) n → KindsSoFar stops (n + 1) new
kinds_next stops n index new stop inside here so_far is =
    folded_next (first_kind stops) None centre_key (kind_at (take n stops)) (kind_at (take (n + 1) stops)) index new (centre_key stop.at) n so_far is other next
  where
    there : slice_get stops n ≡ Some stop
    there = slice_get-get_or stops n stop inside ∙ ap (λ (s : Stop). Some s) (sym here)

    other : (at : CentreAt) → centre_key stop.at ≢ centre_key at → (before : Option Kind) → first_kind stops at before n ≡ before
    other at differ (Some kind) = refl
    other at differ None = ap (kind_if at) there ∙ unlike (same_centre stop.at at) refl
      where
        unlike : (b : Bool) → same_centre stop.at at ≡ b → kind_if at (Some stop) ≡ None
        unlike true e = absurd (differ (same_centre_key stop.at at e))
        unlike false e = rw e refl

    next : (at : CentreAt) → first_kind stops at (kind_at (take n stops) at) n ≡ kind_at (take (n + 1) stops) at
    next at = found_then (find is_at (take n stops)) refl ∙ sym (ap (kind_of) (ap (find is_at) all ∙ find-append is_at (take n stops) (stop ∷ [])))
      where
        is_at : Stop → Bool
        is_at s = same_centre s.at at

        kind_of : Option Stop → Option Kind
        kind_of o = option_map (λ s. s.kind) o

        all : take (n + 1) stops ≡ take n stops ++ stop ∷ []
        all = take_more stops n stop inside ∙ ap (λ (s : Stop). take n stops ++ s ∷ []) (sym here)

        one_stop : (b : Bool) → same_centre stop.at at ≡ b → kind_if at (Some stop) ≡ kind_of (cond b (Some stop) None)
        one_stop true e = rw e refl
        one_stop false e = rw e refl

        found_then : (o : Option Stop) → find is_at (take n stops) ≡ o → first_kind stops at (kind_of o) n ≡ kind_of (option_or o (find is_at (stop ∷ [])))
        found_then (Some s) e = refl
        found_then None e = ap (kind_if at) there ∙ one_stop (same_centre stop.at at) refl

pub kinds_first : (stops : List Stop) (count : ℕ) (index : List (List ℕ)) → index ≡ nothing_noted count → KindsSoFar stops 0 index
kinds_first stops count index e = folded_first (first_kind stops) None centre_key (kind_at []) count index e (λ at. refl)

pub kinds_done : (stops : List Stop) (n : ℕ) (index : List (List ℕ)) → length stops ≤ n → KindsSoFar stops n index → FindsKinds stops index
kinds_done stops n index all so_far at = so_far.found at ∙ ap (λ (ss : List Stop). kind_at ss at) (take_all n stops all)
