-- The counts of a set by their places: one more, those up to one, and the greatest.
use Rattle.std.proofs.Common.{◌≡◌, ◌≢◌, ℕ, zero, suc, ◌+◌, ◌-◌, ◌<◌, ◌≤◌, true, false, List, [], ◌∷◌, ◌++◌, length, take, get_or, refl, sym, ap, ◌∙◌, subst, arith, length-append}
use Rattle.std.specs.Prelude.{Some, slice_get}
use Rattle.std.specs.List.{All, filter, range_with_len}
use Rattle.std.proofs.lemmas.Bool.{false_from_ne_true}
use Rattle.std.proofs.lemmas.List.{get_or_at, take_at}
use Rattle.std.proofs.lemmas.List.Elements.{All-from_get_or}
use Rattle.std.proofs.lemmas.Option.{get_or_from_slice_get}
use Rattle.rr_turns.specs.Counts.{AreEnds, IsPlaceOf, RiseWithin, counts_of, is_held, numbers_with}
use Rattle.rr_turns.specs.Sets.{numbers_with-same}
use Rattle.rr_turns.proofs.CountLemmas.{length-passes, none-above, numbers_with-split, passes-at, passes-last}

seam : (xs : List ℕ) (y : ℕ) (ys : List ℕ) → slice_get (xs ++ y ∷ ys) (length xs) ≡ Some y
seam [] y ys = refl
seam (x ∷ xs) y ys = seam xs y ys

-- the count of a place
pub place-get : (words : List ℕ) (rank place : ℕ) → IsPlaceOf words rank place → slice_get (counts_of words) rank ≡ Some (place + 1)
place-get words rank place h =
    let front = numbers_with (is_held words) place in
    let behind = filter (is_held words) (range_with_len (place + 1 + 1) (4096 - (place + 1))) in
    ap (λ (xs : List ℕ). slice_get xs rank) (passes-at (is_held words) place 4096 h.within h.held)
    ∙ ap (λ (k : ℕ). slice_get (front ++ (place + 1) ∷ behind) k) (sym h.before)
    ∙ seam front (place + 1) behind

pub place-take : (words : List ℕ) (rank place : ℕ) → IsPlaceOf words rank place → take (rank + 1) (counts_of words) ≡ numbers_with (is_held words) (place + 1)
place-take words rank place h =
    let within : place < 4096 = h.within in
    let whole : 4096 ≡ place + 1 + (4096 - (place + 1)) = omega (arith, within) in
    let behind = filter (is_held words) (range_with_len (place + 1 + 1) (4096 - (place + 1))) in
    ap (λ (n : ℕ). take (rank + 1) (numbers_with (is_held words) n)) whole
    ∙ ap (take (rank + 1)) (numbers_with-split (is_held words) (place + 1) (4096 - (place + 1)))
    ∙ take_at (numbers_with (is_held words) (place + 1)) behind (rank + 1) (omega (arith, length-passes (is_held words) place h.held, h.before))

-- the last count, where none above its place is held
pub last-get : (words : List ℕ) (place : ℕ) → place < 4096 → is_held words (place + 1) ≡ true
    → ((other : ℕ) → place < other → other < 4096 → is_held words (other + 1) ≡ false)
    → slice_get (counts_of words) (length (counts_of words) - 1) ≡ Some (place + 1)
last-get words place within held above =
    let all : counts_of words ≡ numbers_with (is_held words) (place + 1) =
    none-above (is_held words) (place + 1) 4096 (omega (arith, within)) (λ other low high. above other (omega (arith, low)) high) in
    let many : length (counts_of words) ≡ length (numbers_with (is_held words) place) + 1 = ap length all ∙ length-passes (is_held words) place held in
    place-get words (length (counts_of words) - 1) place (record { within = within; held = held; before = omega (arith, many) })

-- without those above a place
pub kept-counts : (words kept : List ℕ) (place : ℕ) → place < 4096
    → ((other : ℕ) → other ≤ place → is_held kept (other + 1) ≡ is_held words (other + 1))
    → ((other : ℕ) → place < other → is_held kept (other + 1) ≡ false)
    → counts_of kept ≡ numbers_with (is_held words) (place + 1)
kept-counts words kept place within below above =
    none-above (is_held kept) (place + 1) 4096 (omega (arith, within)) (λ other low high. above other (omega (arith, low)))
    ∙ numbers_with-same (is_held kept) (is_held words) (place + 1) (λ c low high.
    subst (λ (k : ℕ). is_held kept k ≡ is_held words k) (let e : c - 1 + 1 ≡ c = omega (arith, low) in e) (below (c - 1) (omega (arith, high))))

-- with the count of a place above all others
none-held : (words : List ℕ) (place other : ℕ) → All (λ earlier. earlier < place + 1) (counts_of words) → place ≤ other → other < 4096 → is_held words (other + 1) ≢ true
none-held words place other h low high held =
    let front = numbers_with (is_held words) other in
    let behind = filter (is_held words) (range_with_len (other + 1 + 1) (4096 - (other + 1))) in
    let all : counts_of words ≡ front ++ (other + 1) ∷ behind = passes-at (is_held words) other 4096 high held in
    let here : get_or (counts_of words) (length front) 0 ≡ other + 1 =
    ap (λ (xs : List ℕ). get_or xs (length front) 0) all ∙ get_or_at front (other + 1) behind 0 (length front) refl in
    let many : length (counts_of words) ≡ length front + length ((other + 1) ∷ behind) = ap length all ∙ length-append front ((other + 1) ∷ behind) in
    let less : get_or (counts_of words) (length front) 0 < place + 1 = h (length front) 0 (omega (arith, many)) in
    omega (arith, here, less, low)

pub added-counts : (words more : List ℕ) (place : ℕ) → place < 4096 → All (λ earlier. earlier < place + 1) (counts_of words)
    → is_held more (place + 1) ≡ true
    → ((other : ℕ) → other ≢ place → is_held more (other + 1) ≡ is_held words (other + 1))
    → counts_of more ≡ counts_of words ++ (place + 1) ∷ []
added-counts words more place within later held others =
    let unheld : (other : ℕ) → place ≤ other → other < 4096 → is_held words (other + 1) ≡ false =
    λ other low high. false_from_ne_true (is_held words (other + 1)) (none-held words place other later low high) in
    none-above (is_held more) (place + 1) 4096 (omega (arith, within))
    (λ other low high. others other (λ e. omega (arith, low, e)) ∙ unheld other (omega (arith, low)) high)
    ∙ passes-last (is_held more) place held
    ∙ ap (λ (xs : List ℕ). xs ++ (place + 1) ∷ [])
    (numbers_with-same (is_held more) (is_held words) place (λ c low high.
    subst (λ (k : ℕ). is_held more k ≡ is_held words k) (let e : c - 1 + 1 ≡ c = omega (arith, low) in e) (others (c - 1) (λ e. omega (arith, low, high, e))))
    ∙ sym (none-above (is_held words) place 4096 (omega (arith, within)) unheld))

-- what is always so of counts at the ends of turns
pub ends-some : (counts : List ℕ) → AreEnds counts → 1 ≤ length counts
ends-some [] h = absurd h
ends-some (first ∷ others) h = omega arith

pub later-positive : (counts : List ℕ) (count : ℕ) → AreEnds counts → All (λ earlier. earlier < count) counts → 1 ≤ count
later-positive [] count h later = absurd h
later-positive (first ∷ others) count h later = let less : first < count = later 0 0 (omega arith) in omega (arith, less)

rise-last : (x : ℕ) (xs : List ℕ) (least most k : ℕ) → RiseWithin least most (x ∷ xs) → k < length (x ∷ xs) → get_or (x ∷ xs) k 0 ≤ get_or (x ∷ xs) (length xs) 0
rise-last x [] least most zero h within = omega arith
rise-last x [] least most (suc k) h within = absurd (omega (arith, within))
rise-last x (y ∷ ys) least most zero h within = let rest = rise-last y ys (x + 1) most 0 h.2 (omega arith) in omega (arith, rest, h.2.0)
rise-last x (y ∷ ys) least most (suc k) h within = rise-last y ys (x + 1) most k h.2 (omega (arith, within))

pub greatest-last : (counts : List ℕ) (last : ℕ) → AreEnds counts → slice_get counts (length counts - 1) ≡ Some last → All (λ count. count ≤ last) counts
greatest-last [] last h is = absurd h
greatest-last (first ∷ others) last h is =
    let rising : RiseWithin 0 4096 (first ∷ others) =
    (omega arith, omega (arith, h.0), subst (λ (k : ℕ). RiseWithin (k + 1) 4096 others) (sym h.0) h.1) in
    let at : get_or (first ∷ others) (length (first ∷ others) - 1) 0 ≡ last = get_or_from_slice_get (first ∷ others) (length (first ∷ others) - 1) last 0 is in
    let end : length (first ∷ others) - 1 ≡ length others = omega arith in
    let same : get_or (first ∷ others) (length others) 0 ≡ last = ap (λ (k : ℕ). get_or (first ∷ others) k 0) (sym end) ∙ at in
    All-from_get_or (λ (count : ℕ). count ≤ last) (first ∷ others) 0 (λ k within. omega (arith, same, rise-last first others 0 4096 k rising within))
