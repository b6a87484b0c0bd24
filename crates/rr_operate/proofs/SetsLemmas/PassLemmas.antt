-- Rounds pass.
use Rattle.std.specs.Prelude.{◌≡◌, ℕ, zero, suc, ◌+◌, ◌<◌, ◌≤◌, Bool, true, false, not, ◌&&◌, ◌⊎◌, List, [], ◌∷◌, ◌++◌, Option, None, Some, is_some, map, refl, if◌then◌else◌}
use Rattle.std.proofs.Common.{sym, ◌∙◌, ap, append_assoc, append-nil, arith, inl, inr, subst}
use Rattle.std.proofs.lemmas.Bool.{and_parts, false≢true, ltb-true}
use Rattle.rr_roster.specs.declared.company.Private.{Private}
use Rattle.rr_roster.specs.Terms.{Terms, income_of}
use Rattle.rr_roster.specs.Chart.Chart.{Row}
use Rattle.rr_books.specs.declared.parties.Party.{Party}
use Rattle.rr_books.specs.declared.certificates.Cert.TheVariants as C
use Rattle.rr_books.specs.declared.entries.Entry.TheVariants as E
use Rattle.rr_books.specs.declared.entries.Marker.TheVariants as M
use Rattle.rr_books.specs.Book.{Book, holder, players, train_holder}
use Rattle.rr_books.specs.Shares.{privates}
use Rattle.rr_desk.specs.Effects.{adds, in_turn}
use Rattle.rr_desk.specs.Incomes.{owner, pay_incomes_of, pays_if, pays_income}
use Rattle.rr_market.specs.Operations.Phases.{phase}
use Rattle.rr_market.specs.Operations.Progress.{Progress, after_first_round, after_next_round, bank_owed, follow, has_more_rounds, is_operating, progress}
use Rattle.rr_market.specs.Operations.Due.{due}
use Rattle.rr_market.proofs.OperationsLemmas.ProgressLemmas.{follow-append, progress-append, progress-push}
use Rattle.rr_operate.specs.Sets.Rounds.{begins_round, ends_round, ends_set, passes_round, passes_rounds, round_is_over}
use Rattle.rr_operate.specs.Sets.SetLaws.{GameIsOver, RoundsPass}

-- the same round of the same set
record IsSameRound (old new : Progress) : Type 0 where
  stage : new.stage ≡ old.stage
  length : new.set_length ≡ old.set_length
  round : new.round ≡ old.round

same : (p : Progress) → IsSameRound p p
same p = record { stage = refl; length = refl; round = refl }

after_both : (a b c : Progress) → IsSameRound a b → IsSameRound b c → IsSameRound a c
after_both a b c h k = record { stage = k.stage ∙ h.stage; length = k.length ∙ h.length; round = k.round ∙ h.round }

paid_same : (book : Book) (party : Option Party) (amount : ℕ) (p : Progress) → IsSameRound p (follow book p (pays_if party amount book))
paid_same book None amount p = same p
paid_same book (Some party) amount p = record { stage = refl; length = refl; round = refl }

income_same : (roster : Terms) (private : Private) (book : Book) (p : Progress) → IsSameRound p (follow book p (pays_income roster private book))
unfolding pays_income
income_same roster private book p = paid_same book (owner (players book) (holder book (C.Private private))) (income_of roster private) p

incomes_same : (roster : Terms) (ps : List Private) (book : Book) (p : Progress) → IsSameRound p (follow book p (in_turn (map (pays_income roster) ps) book))
incomes_same roster [] book p = same p
incomes_same roster (x ∷ xs) book p =
    let paid = pays_income roster x book in
    let rest = in_turn (map (pays_income roster) xs) (book ++ paid) in
    let first = income_same roster x book p in
    let others = incomes_same roster xs (book ++ paid) (follow book p paid) in
    subst (λ (q : Progress). IsSameRound p q) (sym (follow-append book paid rest p)) (after_both p (follow book p paid) (follow (book ++ paid) (follow book p paid) rest) first others)

incomes_paid : (roster : Terms) (ps : List Private) (book : Book) (p : Progress) → IsSameRound p (follow book p (pay_incomes_of roster ps book))
unfolding pay_incomes_of
incomes_paid roster ps book p = incomes_same roster ps book p

-- the next round of the same set
record IsNextRound (old new : Progress) : Type 0 where
  stage : is_operating new.stage ≡ true
  length : new.set_length ≡ old.set_length
  round : new.round ≡ old.round + 1

begun : (p : Progress) (b : Bool) → is_operating p.stage ≡ b → b ≡ true → (first : Progress) → IsNextRound p (if b then after_next_round p else first)
begun p true h t first = record { stage = h; length = refl; round = refl }
begun p false h t first = absurd (false≢true t)

then_same : (a b c : Progress) → IsNextRound a b → IsSameRound b c → IsNextRound a c
then_same a b c h k = record { stage = ap is_operating k.stage ∙ h.stage; length = k.length ∙ h.length; round = k.round ∙ h.round }

next_round : (roster : Terms) (book : Book) → is_operating (progress book).stage ≡ true → IsNextRound (progress book) (progress (book ++ begins_round roster book))
unfolding begins_round
next_round roster book h =
    let e = E.Step M.Operating in
    let started = book ++ e ∷ [] in
    let paid = pay_incomes_of roster privates started in
    let p = progress book in
    let once = follow book p (e ∷ []) in
    let one : IsNextRound p once = begun p (is_operating p.stage) refl h (after_first_round (phase (train_holder book)) p) in
    let rest : IsSameRound once (follow started once (paid ++ [])) = subst (λ (xs : Book). IsSameRound once (follow started once xs)) (sym (append-nil paid)) (incomes_paid roster privates started once) in
    let told : progress (book ++ ((e ∷ []) ++ (paid ++ []))) ≡ follow started once (paid ++ []) = progress-append book ((e ∷ []) ++ (paid ++ [])) ∙ follow-append book (e ∷ []) (paid ++ []) p in
    subst (λ (x : Progress). IsNextRound p x) (sym told) (then_same p once (follow started once (paid ++ [])) one rest)

-- a set has so many rounds less one left at most
abbrev Left : ℕ → Progress → Type 0
Left zero p = ⊥
Left (suc n) p = p.set_length ≤ p.round + n

-- where the round is over, so many rounds less one are left at most, or the game is over
abbrev Passes : Terms → List Row → ℕ → Book → Type 0
Passes roster rows n book = round_is_over rows book ≡ true → Left n (progress book) ⊎ GameIsOver roster book

one_less : (n : ℕ) (old new : Progress) → IsNextRound old new → old.round < old.set_length → Left (suc n) old → Left n new
one_less zero old new h more left = absurd (omega arith)
one_less (suc n) old new h more left =
    let length = h.length in
    let round = h.round in
    omega arith

stock_begins : (rows : List Row) (book : Book) → round_is_over rows (book ++ E.Step M.Stock ∷ []) ≡ false
stock_begins rows book =
    ap (λ (p : Progress). is_operating p.stage && not (is_some (due rows (book ++ E.Step M.Stock ∷ [])))) (progress-push book (E.Step M.Stock))

set_ends : (roster : Terms) (rows : List Row) (n : ℕ) (book : Book) (owed : Bool) → bank_owed roster (progress book) ≡ owed → has_more_rounds (progress book) ≡ false
    → Passes roster rows n (book ++ (if owed then in_turn [] else adds (E.Step M.Stock)) book)
set_ends roster rows n book true h m over = subst (λ (x : Book). Left n (progress x) ⊎ GameIsOver roster x) (sym (append-nil book)) (inr (record { owed = h; last = m }))
set_ends roster rows n book false h m over = absurd (false≢true (sym (stock_begins rows book) ∙ over))

round_ends : (roster : Terms) (rows : List Row) (n : ℕ) (book : Book) (more : Bool) → has_more_rounds (progress book) ≡ more → is_operating (progress book).stage ≡ true
    → Left (suc n) (progress book) ⊎ GameIsOver roster book
    → Passes roster rows n (book ++ (if more then begins_round roster else ends_set roster) book)
unfolding ends_set
round_ends roster rows n book true m h (inl left) over = inl (one_less n (progress book) (progress (book ++ begins_round roster book)) (next_round roster book h) (ltb-true (progress book).round (progress book).set_length m) left)
round_ends roster rows n book true m h (inr ended) over = absurd (false≢true (sym ended.last ∙ m))
round_ends roster rows n book false m h left over = set_ends roster rows n book (bank_owed roster (progress book)) refl m over

passes_by : (roster : Terms) (rows : List Row) (n : ℕ) (book : Book) (is_over : Bool) → round_is_over rows book ≡ is_over → Passes roster rows (suc n) book
    → Passes roster rows n (book ++ (if is_over then ends_round roster else in_turn []) book)
passes_by roster rows n book true h left over =
    round_ends roster rows n book (has_more_rounds (progress book)) refl (and_parts (is_operating (progress book).stage) (not (is_some (due rows book))) h).0 (left h) over
passes_by roster rows n book false h left over = absurd (false≢true (sym h ∙ subst (λ (x : Book). round_is_over rows x ≡ true) (append-nil book) over))

passes_once : (roster : Terms) (rows : List Row) (n : ℕ) (book : Book) → Passes roster rows (suc n) book → Passes roster rows n (book ++ passes_round roster rows book)
unfolding passes_round
passes_once roster rows n book left = passes_by roster rows n book (round_is_over rows book) refl left

over_at_last : (roster : Terms) (book : Book) → Left 0 (progress book) ⊎ GameIsOver roster book → GameIsOver roster book
over_at_last roster book (inl none) = absurd none
over_at_last roster book (inr over) = over

pub rounds_pass : RoundsPass
unfolding passes_rounds
rounds_pass roster rows book two over =
    let f = passes_round roster rows in
    let first = book ++ f book in
    let second = first ++ f first in
    let third = second ++ f second in
    let joined : book ++ passes_rounds roster rows book ≡ third =
    ap (λ (x : Book). book ++ (f book ++ (f first ++ x))) (append-nil (f second))
    ∙ sym (append_assoc book (f book) (f first ++ f second))
    ∙ sym (append_assoc (book ++ f book) (f first) (f second)) in
    let passed : Passes roster rows 0 third = passes_once roster rows 0 second (passes_once roster rows 1 first (passes_once roster rows 2 book (λ _. inl two))) in
    subst (λ (x : Book). GameIsOver roster x) (sym joined) (over_at_last roster third (passed (subst (λ (x : Book). round_is_over rows x ≡ true) joined over)))
