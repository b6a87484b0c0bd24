-- Lemmas on the room that the names of a table's players are read into.
use Rattle.std.proofs.Common.{◌≡◌, ◌≢◌, ℕ, ◌+◌, ◌-◌, ◌<◌, ◌≤◌, true, false, List, [], ◌∷◌, length, drop, set, replicate, zero, suc, refl, sym, ap, ◌∙◌, arith, append_assoc, length-set, get_or}
use Rattle.std.specs.List.{AllPairs}
use Rattle.std.specs.Str.{bytes_eq}
use Rattle.std.proofs.lemmas.Bool.Decides.{nat_tests}
use Rattle.std.proofs.lemmas.Slice.Eq.{bytes_eq-Decides}
use Rattle.std.proofs.lemmas.List.{take_more_set, drop-set-lt, drop-replicate, drop-drop}
use Rattle.std.proofs.lemmas.List.Folds.{list_all-append}
use Rattle.rr_words.specs.Name.{is_player_name}
use Rattle.rr_code.specs.Players.{ArePlayers, all_different, is_among, first_of, IsReadSoFar}

first_of-set : (names : List (List ℕ)) (at : ℕ) (name : List ℕ) → 1 ≤ at → first_of (set names at name) ≡ first_of names
first_of-set [] at name h = refl
first_of-set (first ∷ others) zero name h = absurd (omega (arith, h))
first_of-set (first ∷ others) (suc at) name h = refl

-- one more name
pub IsReadSoFar-more : (all : List (List ℕ)) (count : ℕ) (names words : List (List ℕ)) (name word : List ℕ) (left : List (List ℕ)) → IsReadSoFar all count names words → words ≡ word ∷ left → name ≡ word → is_player_name word ≡ true → count ≢ 6 → IsReadSoFar all (count + 1) (set names count name) left
IsReadSoFar-more all count names words name word left so_far next same player room =
    let within : count < length names = omega (arith, so_far.room.names_fill) in
    let after : count < count + 1 = omega arith in
    record {
      room = record {
        one = omega arith;
        count_fits = omega arith;
        names_fill = length-set names count name ∙ so_far.room.names_fill;
        others =
            drop-set-lt (count + 1) names count name after
            ∙ sym (drop-drop 1 count names)
            ∙ ap (drop 1) so_far.room.others
            ∙ drop-replicate 1 (6 - count) (first_of names)
            ∙ ap (λ n. replicate n (first_of names)) (omega arith)
            ∙ ap (replicate (6 - (count + 1))) (sym (first_of-set names count name so_far.room.one));
      };
      players = rw (take_more_set names count name within, list_all-append, so_far.players, same, player) refl;
      so_far = rw (take_more_set names count name within, append_assoc, same, ← next) so_far.so_far;
    }

-- no name is among those that come after it
different-later : (name : List ℕ) (others : List (List ℕ)) (j : ℕ) (d : List ℕ) → is_among name others ≡ false → j < length others → name ≢ get_or others j d
different-later name [] j d none within = absurd (omega (arith, within))
different-later name (other ∷ others) zero d none within = λ same.
    let equal : bytes_eq other name ≡ true = (bytes_eq-Decides other name).1 (sym same) in
    let among : is_among name (other ∷ others) ≡ true = rw equal refl in
    cc
different-later name (other ∷ others) (suc j) d none within =
    different-later name others j d (grind (arith, nat_tests)) (omega (arith, within))

different-pairs : (name : List ℕ) (others : List (List ℕ)) → is_among name others ≡ false → AllPairs (λ a b. a ≢ b) others → (i j : ℕ) (d : List ℕ) → i < j → j < length (name ∷ others) → get_or (name ∷ others) i d ≢ get_or (name ∷ others) j d
different-pairs name others none pairs i zero d before within = absurd (omega (arith, before))
different-pairs name others none pairs zero (suc j) d before within = different-later name others j d none (omega (arith, within))
different-pairs name others none pairs (suc i) (suc j) d before within = pairs i j d (omega (arith, before)) (omega (arith, within))

pub AllPairs-different : (names : List (List ℕ)) → all_different names ≡ true → AllPairs (λ name other. name ≢ other) names
AllPairs-different [] h = λ i j d before within. absurd (omega (arith, within))
AllPairs-different (name ∷ others) h =
    let none : is_among name others ≡ false = grind (arith, nat_tests) in
    let more : all_different others ≡ true = grind (arith, nat_tests) in
    λ i j d before within. different-pairs name others none (AllPairs-different others more) i j d before within

pub different-players : (names : List (List ℕ)) → ArePlayers names → AllPairs (λ name other. name ≢ other) names
different-players names h = AllPairs-different names (grind (arith, nat_tests))
