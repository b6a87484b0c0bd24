-- How the counts at the ends of turns grow, and that they tell the commands of the first turns.
use Rattle.std.specs.Prelude.{◌≡◌, ℕ, zero, suc, ◌+◌, ◌-◌, ◌<◌, ◌≤◌, Bool, true, false, List, [], ◌∷◌, ◌++◌, length, take, get_or, if◌then◌else◌, refl}
use Rattle.std.proofs.Common.{sym, ◌∙◌, ap, subst, append_assoc, append-nil, arith, length-append, inl, inr}
use Rattle.std.proofs.Math.Seq.{take-nil}
use Rattle.rr_turns.specs.Turns.{ended_turns, first_turns, turns_in, next_turns}
use Rattle.std.specs.Prelude.{Option, None, Some, MatchOption, slice_get}
use Rattle.std.specs.List.{All}
use Rattle.std.proofs.lemmas.Bool.{cases_lt}
use Rattle.std.proofs.lemmas.List.Elements.{All-append, All-cons, All-nil, All-weaker}
use Rattle.std.proofs.lemmas.Option.{get_or_from_slice_get, slice_get-get_or, slice_get_within}
use Rattle.rr_turns.specs.Ends.{ends_in, turn_ends, kept_at, BackKeepsItsCount, BackKeepsItsEnds, EachTurnHasItsEnd, EndsAreWithinTheCommands, EndsGrowAtTheEnd, TellsOneEndMore, TellsTheCountOfABack, TellsTheEndedTurns, TellsTheEndsOfABack}

one_more : {C : Type 0} (before : List C) (c : C) → length (before ++ c ∷ []) ≡ length before + 1
one_more before c = length-append before (c ∷ [])

-- the count of the turn k behind some commands: that of the commands themselves for turn 0
abbrev count_behind : {C : Type 0} → (List C → C → Bool) → List C → List C → ℕ → ℕ
count_behind ends before cs k = get_or (length before ∷ ends_in ends before cs) k 0

-- the count of a later turn is one behind the first command
step_count : {C : Type 0} (ends : List C → C → Bool) (before cs : List C) (c : C) (k : ℕ) (b : Bool) → ends before c ≡ b
    → count_behind ends before (c ∷ cs) (suc k) ≡ count_behind ends (before ++ c ∷ []) cs (if b then k else suc k)
step_count ends before cs c k true e =
    rw (e, one_more before c) refl
step_count ends before cs c k false e =
    rw e refl

fewer : {C : Type 0} (ends : List C → C → Bool) (before cs : List C) (c : C) (k : ℕ) (b : Bool) → ends before c ≡ b
    → suc k ≤ turns_in ends before (c ∷ cs) → (if b then k else suc k) ≤ turns_in ends (before ++ c ∷ []) cs
fewer ends before cs c k true e h =
    let here : suc k ≤ 1 + turns_in ends (before ++ c ∷ []) cs = subst (λ (b : Bool). suc k ≤ (if b then 1 else 0) + turns_in ends (before ++ c ∷ []) cs) e h in
    omega (arith, here)
fewer ends before cs c k false e h =
    let here : suc k ≤ 0 + turns_in ends (before ++ c ∷ []) cs = subst (λ (b : Bool). suc k ≤ (if b then 1 else 0) + turns_in ends (before ++ c ∷ []) cs) e h in
    omega (arith, here)

-- no count is less than what stands before
not_less : {C : Type 0} (ends : List C → C → Bool) (before cs : List C) (k : ℕ) → k ≤ turns_in ends before cs → length before ≤ count_behind ends before cs k
not_less ends before [] zero h = omega arith
not_less ends before [] (suc k) h = absurd (omega (arith, h))
not_less ends before (c ∷ cs) zero h = omega arith
not_less ends before (c ∷ cs) (suc k) h =
    let b = ends before c in
    let rest = not_less ends (before ++ c ∷ []) cs (if b then k else suc k) (fewer ends before cs c k b refl h) in
    omega (arith, rest, step_count ends before cs c k b refl, one_more before c)

take_next : {C : Type 0} (n m : ℕ) (c : C) (cs : List C) → m + 1 ≤ n → take (n - m) (c ∷ cs) ≡ c ∷ take (n - (m + 1)) cs
take_next n m c cs h =
    ap (λ (j : ℕ). take j (c ∷ cs)) (let e : n - m ≡ suc (n - (m + 1)) = omega (arith, h) in e)

pub next_turns_are : {C : Type 0} (ends : List C → C → Bool) (before cs : List C) (k : ℕ) → k ≤ turns_in ends before cs
    → next_turns ends before k cs ≡ take (count_behind ends before cs k - length before) cs
next_turns_are ends before [] k h = sym (take-nil (count_behind ends before [] k - length before))
next_turns_are ends before (c ∷ cs) zero h = ap (λ (j : ℕ). take j (c ∷ cs)) (let e : 0 ≡ length before - length before = omega arith in e)
next_turns_are {C = C} ends before (c ∷ cs) (suc k) h =
    let b = ends before c in
    let few = fewer ends before cs c k b refl h in
    let rest = next_turns_are ends (before ++ c ∷ []) cs (if b then k else suc k) few in
    let least = not_less ends (before ++ c ∷ []) cs (if b then k else suc k) few in
    let same = step_count ends before cs c k b refl in
    let more = one_more before c in
    ap (λ (xs : List C). c ∷ xs) rest
    ∙ ap (λ (m : ℕ). c ∷ take (count_behind ends (before ++ c ∷ []) cs (if b then k else suc k) - m) cs) more
    ∙ sym (take_next (count_behind ends (before ++ c ∷ []) cs (if b then k else suc k)) (length before) c cs (omega (arith, least, more)))
    ∙ ap (λ (n : ℕ). take (n - length before) (c ∷ cs)) (sym same)

pub back_keeps_its_count : (C : Type 0) → BackKeepsItsCount C
back_keeps_its_count C ends [] k h = sym (take-nil (kept_at [] k))
back_keeps_its_count C ends (opening ∷ cs) k h =
    let least = not_less ends (opening ∷ []) cs k h in
    ap (λ (xs : List C). opening ∷ xs) (next_turns_are ends (opening ∷ []) cs k h)
    ∙ sym (take_next (count_behind ends (opening ∷ []) cs k) 0 opening cs (omega (arith, least)))
    ∙ ap (λ (n : ℕ). take n (opening ∷ cs)) (let e : count_behind ends (opening ∷ []) cs k - 0 ≡ kept_at (turn_ends ends (opening ∷ cs)) k = omega arith in e)

-- with one command more
pub ends_in-push : {C : Type 0} (ends : List C → C → Bool) (before cs : List C) (c : C) → ends_in ends before (cs ++ c ∷ []) ≡ ends_in ends before cs ++ (if ends (before ++ cs) c then (length (before ++ cs) + 1) ∷ [] else [])
ends_in-push {C = C} ends before [] c =
    append-nil (if ends before c then (length before + 1) ∷ [] else [])
    ∙ ap (λ (bs : List C). if ends bs c then (length bs + 1) ∷ [] else []) (sym (append-nil before))
ends_in-push {C = C} ends before (d ∷ cs) c =
    let here = if ends before d then (length before + 1) ∷ [] else [] in
    ap (λ (xs : List ℕ). here ++ xs) (ends_in-push ends (before ++ d ∷ []) cs c)
    ∙ ap (λ (bs : List C). here ++ (ends_in ends (before ++ d ∷ []) cs ++ (if ends bs c then (length bs + 1) ∷ [] else []))) (append_assoc before (d ∷ []) cs)
    ∙ sym (append_assoc here (ends_in ends (before ++ d ∷ []) cs) (if ends (before ++ d ∷ cs) c then (length (before ++ d ∷ cs) + 1) ∷ [] else []))

pub ends_grow : (C : Type 0) → EndsGrowAtTheEnd C
ends_grow C ends opening others last = ap (λ (xs : List ℕ). 1 ∷ xs) (ends_in-push ends (opening ∷ []) others last)

-- one end for each turn
one_or_none : (b : Bool) (n : ℕ) (rest : List ℕ) → length ((if b then n ∷ [] else []) ++ rest) ≡ (if b then 1 else 0) + length rest
one_or_none true n rest = omega arith
one_or_none false n rest = omega arith

length-ends_in : {C : Type 0} (ends : List C → C → Bool) (before cs : List C) → length (ends_in ends before cs) ≡ turns_in ends before cs
length-ends_in ends before [] = refl
length-ends_in ends before (c ∷ cs) =
    one_or_none (ends before c) (length before + 1) (ends_in ends (before ++ c ∷ []) cs)
    ∙ ap (λ (n : ℕ). (if ends before c then 1 else 0) + n) (length-ends_in ends (before ++ c ∷ []) cs)

pub each_turn_has_its_end : (C : Type 0) → EachTurnHasItsEnd C
each_turn_has_its_end C ends opening others = omega (arith, length-ends_in ends (opening ∷ []) others)

-- of the first turns, the first ends
take_with : (b : Bool) (n k : ℕ) (rest : List ℕ) → (if b then n ∷ [] else []) ++ take (if b then k else suc k) rest ≡ take (suc k) ((if b then n ∷ [] else []) ++ rest)
take_with true n k rest = refl
take_with false n k rest = refl

ends_in-next_turns : {C : Type 0} (ends : List C → C → Bool) (before cs : List C) (k : ℕ) → ends_in ends before (next_turns ends before k cs) ≡ take k (ends_in ends before cs)
ends_in-next_turns ends before [] k = sym (take-nil k)
ends_in-next_turns ends before (c ∷ cs) zero = refl
ends_in-next_turns ends before (c ∷ cs) (suc k) =
    let b = ends before c in
    let n = length before + 1 in
    ap (λ (xs : List ℕ). (if b then n ∷ [] else []) ++ xs) (ends_in-next_turns ends (before ++ c ∷ []) cs (if b then k else suc k))
    ∙ take_with b n k (ends_in ends (before ++ c ∷ []) cs)

pub back_keeps_its_ends : (C : Type 0) → BackKeepsItsEnds C
back_keeps_its_ends C ends [] k = sym (take-nil (k + 1))
back_keeps_its_ends C ends (opening ∷ cs) k =
    ap (λ (xs : List ℕ). 1 ∷ xs) (ends_in-next_turns ends (opening ∷ []) cs k)
    ∙ ap (λ (n : ℕ). take n (turn_ends ends (opening ∷ cs))) (let e : suc k ≡ k + 1 = omega arith in e)

-- no end keeps more than there are
one_within : (b : Bool) (n most : ℕ) → n ≤ most → All (λ (count : ℕ). count ≤ most) (if b then n ∷ [] else [])
one_within true n most h = All-cons (λ (count : ℕ). count ≤ most) n [] h (All-nil (λ (count : ℕ). count ≤ most))
one_within false n most h = All-nil (λ (count : ℕ). count ≤ most)

ends_in-within : {C : Type 0} (ends : List C → C → Bool) (before cs : List C) → All (λ (count : ℕ). count ≤ length before + length cs) (ends_in ends before cs)
ends_in-within ends before [] = All-nil (λ (count : ℕ). count ≤ length before + 0)
ends_in-within ends before (c ∷ cs) =
    let most : ℕ = length before + length (c ∷ cs) in
    All-append (λ (count : ℕ). count ≤ most) (if ends before c then (length before + 1) ∷ [] else []) (ends_in ends (before ++ c ∷ []) cs)
    (one_within (ends before c) (length before + 1) most (omega arith))
    (All-weaker (λ (count : ℕ). count ≤ length (before ++ c ∷ []) + length cs) (λ (count : ℕ). count ≤ most) (λ count h. omega (arith, h, one_more before c))
    (ends_in ends (before ++ c ∷ []) cs) (ends_in-within ends (before ++ c ∷ []) cs))

pub ends_within : (C : Type 0) → EndsAreWithinTheCommands C
ends_within C ends [] = All-nil (λ (count : ℕ). count ≤ 0)
ends_within C ends (opening ∷ cs) =
    All-cons (λ (count : ℕ). count ≤ length (opening ∷ cs)) 1 (ends_in ends (opening ∷ []) cs) (omega arith)
    (All-weaker (λ (count : ℕ). count ≤ length (opening ∷ []) + length cs) (λ (count : ℕ). count ≤ length (opening ∷ cs)) (λ count h. omega (arith, h))
    (ends_in ends (opening ∷ []) cs) (ends_in-within ends (opening ∷ []) cs))

-- what counts tell of a table
pub tells_one_more : (C : Type 0) (old : List ℕ) (count : ℕ) (new : List ℕ) → new ≡ old ++ count ∷ [] → TellsOneEndMore C old count new
tells_one_more C old count new h ends opening others last is so_many ended =
    h ∙ ap (λ (xs : List ℕ). xs ++ count ∷ []) is
    ∙ ap (λ (n : ℕ). turn_ends ends (opening ∷ others) ++ n ∷ []) so_many
    ∙ ap (λ (b : Bool). turn_ends ends (opening ∷ others) ++ (if b then (length (opening ∷ others) + 1) ∷ [] else [])) (sym ended)
    ∙ sym (ends_grow C ends opening others last)

pub tells_back : (C : Type 0) (old : List ℕ) (k : ℕ) (new : List ℕ) → new ≡ take (k + 1) old → TellsTheEndsOfABack C old k new
tells_back C old k new h ends commands is = h ∙ ap (take (k + 1)) is ∙ sym (back_keeps_its_ends C ends commands k)

pub tells_turns : (C : Type 0) (counts : List ℕ) (turns : ℕ) → turns + 1 ≡ length counts → TellsTheEndedTurns C counts turns
tells_turns C counts turns h ends opening others is = omega (arith, h, ap length is, each_turn_has_its_end C ends opening others)

count_at : (counts : List ℕ) (k : ℕ) (r : Option ℕ) → slice_get counts k ≡ r
    → MatchOption r (length counts ≤ k) (λ count. (k < length counts) × (kept_at counts k ≡ count))
count_at counts k None e = elim (cases_lt k (length counts)) [
  | inl within ↦ let found = slice_get-get_or counts k 0 within in absurd cc
  | inr past ↦ past
]
count_at counts k (Some count) e = (slice_get_within counts k count e, get_or_from_slice_get counts k count 0 e)

told_by : {C : Type 0} (ends : List C → C → Bool) (opening : C) (others : List C) (counts : List ℕ) (k : ℕ) (r : Option ℕ) → counts ≡ turn_ends ends (opening ∷ others)
    → MatchOption r (length counts ≤ k) (λ count. (k < length counts) × (kept_at counts k ≡ count))
    → MatchOption r (ended_turns ends (opening ∷ others) < k) (λ count. (k ≤ ended_turns ends (opening ∷ others)) × (first_turns ends k (opening ∷ others) ≡ take count (opening ∷ others)))
told_by {C = C} ends opening others counts k None is h = omega (arith, h, ap length is, each_turn_has_its_end C ends opening others)
told_by {C = C} ends opening others counts k (Some count) is h =
    let ended : k ≤ ended_turns ends (opening ∷ others) = omega (arith, h.0, ap length is, each_turn_has_its_end C ends opening others) in
    (ended, back_keeps_its_count C ends (opening ∷ others) k ended ∙ ap (λ (n : ℕ). take n (opening ∷ others)) (ap (λ (xs : List ℕ). kept_at xs k) (sym is) ∙ h.1))

pub tells_count : (C : Type 0) (counts : List ℕ) (k : ℕ) (r : Option ℕ) → r ≡ slice_get counts k → TellsTheCountOfABack C counts k r
tells_count C counts k r h ends opening others is = told_by ends opening others counts k r is (count_at counts k r (sym h))
