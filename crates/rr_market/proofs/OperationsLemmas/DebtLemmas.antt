-- The bank's debts over a book.
use Rattle.std.specs.Prelude.{◌≡◌, ℕ, ℤ, pos, ◌+ℤ◌, ◌-ℤ◌, int_lt, Bool, true, false, ◌||◌, ◌⊎◌, [], ◌∷◌, ◌++◌, if◌then◌else◌, refl}
use Rattle.std.specs.Int.{int_min}
use Rattle.std.proofs.Common.{sym, ◌∙◌, ap, append_assoc, append-nil, inl, inr, arith}
use Rattle.std.proofs.Math.Bool.{or-true}
use Rattle.std.proofs.lemmas.Bool.{or_cases}
use Rattle.std.proofs.lemmas.Int.{ints}
use Rattle.rr_roster.specs.declared.company.Kind.{Kind}
use Rattle.rr_roster.specs.Terms.{Terms, bank_of}
use Rattle.rr_books.specs.declared.parties.Party.TheVariants as P
use Rattle.rr_books.specs.declared.entries.Entry.{Entry}
use Rattle.rr_books.specs.declared.entries.Entry.TheVariants as E
use Rattle.rr_books.specs.declared.entries.Marker.{Marker}
use Rattle.rr_books.specs.declared.entries.Marker.TheVariants as M
use Rattle.rr_books.specs.declared.acts.Act.{Act}
use Rattle.rr_books.specs.declared.acts.Act.TheVariants as A
use Rattle.rr_books.specs.Book.{Book, balance, balance-push, balance_after, train_holder}
use Rattle.rr_market.specs.Operations.Phases.{phase}
use Rattle.rr_market.specs.Operations.Progress.{Progress, after, after_act, after_entry, after_first_round, after_next_round, after_step, bank_owed, beginning, follow, is_operating, progress}
use Rattle.rr_market.specs.Operations.OperatingLaws.{DebtsAreRemembered}
use Rattle.rr_market.proofs.OperationsLemmas.ProgressLemmas.{follow-append}

-- so much less than the bank began with is a debt
abbrev is_debt : Terms → ℤ → Bool
is_debt roster n = int_lt (pos (bank_of roster) +ℤ n) (pos 0)

nothing_paid : (x : ℤ) → (x +ℤ pos 0) -ℤ pos 0 ≡ x
nothing_paid x = omega (arith, ints)

-- the lesser of two amounts is a debt where one of them is
lesser : (m : ℕ) (a b : ℤ) → int_lt (pos m +ℤ int_min a b) (pos 0) ≡ int_lt (pos m +ℤ a) (pos 0) || int_lt (pos m +ℤ b) (pos 0)
lesser m a b =
    apart (int_lt b a) ∙ both (int_lt b a) (int_lt (pos m +ℤ a) (pos 0)) (int_lt (pos m +ℤ b) (pos 0)) refl refl refl
  where
    apart : (t : Bool) → int_lt (pos m +ℤ (if t then b else a)) (pos 0) ≡ (if t then int_lt (pos m +ℤ b) (pos 0) else int_lt (pos m +ℤ a) (pos 0))
    apart true = refl
    apart false = refl

    both : (t x y : Bool) → int_lt b a ≡ t → int_lt (pos m +ℤ a) (pos 0) ≡ x → int_lt (pos m +ℤ b) (pos 0) ≡ y → (if t then y else x) ≡ x || y
    both true true true e f g = refl
    both true true false e f g = absurd (omega (arith, ints))
    both true false y e f g = refl
    both false true y e f g = refl
    both false false true e f g = absurd (omega (arith, ints))
    both false false false e f g = refl

-- a step leaves the least balance
act_lowest : (act : Act) (p : Progress) → (after_act act p).lowest ≡ p.lowest
act_lowest (A.Lay c hex tile turn) p = refl
act_lowest (A.Station c hex centre) p = refl
act_lowest (A.Run c sheet) p = refl
act_lowest (A.RunBest c sheet certificate) p = refl
act_lowest (A.PayOut c) p = refl
act_lowest (A.Hold c) p = refl
act_lowest (A.End c) p = refl
act_lowest (A.Bankrupt s) p = refl
act_lowest _ p = refl

round_lowest : (now : Kind) (p : Progress) (b : Bool) → (if b then after_next_round p else after_first_round now p).lowest ≡ p.lowest
round_lowest now p true = refl
round_lowest now p false = refl

step_lowest : (now : Kind) (marker : Marker) (p : Progress) → (after_step now marker p).lowest ≡ p.lowest
step_lowest now (M.Act act) p = act_lowest act p
step_lowest now M.Operating p = round_lowest now p (is_operating p.stage)
step_lowest now M.Stock p = refl
step_lowest now (M.Auction names) p = refl
step_lowest now (M.Float c) p = refl

module _ (roster : Terms) where
  -- a debt is remembered
  owed_once : (now : Kind) (bank : ℤ) (p : Progress) (e : Entry) → bank_owed roster p ≡ true → bank_owed roster (after_entry now bank p e) ≡ true
  owed_once now bank p (E.Step marker) h = ap (is_debt roster) (step_lowest now marker p) ∙ h
  owed_once now bank p (E.Pay from to amount) h =
      let after = balance_after P.Bank bank (E.Pay from to amount) in
      lesser (bank_of roster) p.lowest after ∙ ap (λ (b : Bool). b || is_debt roster after) h
  owed_once now bank p _ h = h

  owed_through : (book es : Book) (p : Progress) → bank_owed roster p ≡ true → bank_owed roster (follow book p es) ≡ true
  owed_through book [] p h = h
  owed_through book (e ∷ es) p h = owed_through (book ++ e ∷ []) es (after book p e) (owed_once (phase (train_holder book)) (balance book P.Bank) p e h)

  -- what an entry makes of the bank's balance is told
  told_once : (now : Kind) (bank : ℤ) (p : Progress) (e : Entry) → (is_debt roster bank ≡ true → bank_owed roster p ≡ true)
      → is_debt roster (balance_after P.Bank bank e) ≡ true → bank_owed roster (after_entry now bank p e) ≡ true
  told_once now bank p (E.Pay from to amount) before h =
      lesser (bank_of roster) p.lowest (balance_after P.Bank bank (E.Pay from to amount))
      ∙ ap (λ (b : Bool). is_debt roster p.lowest || b) h ∙ or-true (is_debt roster p.lowest)
  told_once now bank p (E.Step marker) before h =
      ap (is_debt roster) (step_lowest now marker p) ∙ before (ap (is_debt roster) (sym (nothing_paid bank)) ∙ h)
  told_once now bank p _ before h = before (ap (is_debt roster) (sym (nothing_paid bank)) ∙ h)

  told_through : (book es : Book) (p : Progress) → (is_debt roster (balance book P.Bank) ≡ true → bank_owed roster p ≡ true)
      → is_debt roster (balance (book ++ es) P.Bank) ≡ true → bank_owed roster (follow book p es) ≡ true
  told_through book [] p before h = before (ap (λ (b : Book). is_debt roster (balance b P.Bank)) (sym (append-nil book)) ∙ h)
  told_through book (e ∷ es) p before h =
      told_through (book ++ e ∷ []) es (after book p e)
      (λ k. told_once (phase (train_holder book)) (balance book P.Bank) p e before (ap (is_debt roster) (sym (balance-push book e P.Bank)) ∙ k))
      (ap (λ (b : Book). is_debt roster (balance b P.Bank)) (append_assoc book (e ∷ []) es) ∙ h)

  no_debt : (m : ℕ) → int_lt (pos m +ℤ pos 0) (pos 0) ≡ true → ⊥
  no_debt m h = omega (arith, ints)

  nothing_at_first : balance [] P.Bank ≡ pos 0
  unfolding balance
  nothing_at_first = refl

  told : (front rest : Book) → is_debt roster (balance front P.Bank) ≡ true → bank_owed roster (progress (front ++ rest)) ≡ true
  unfolding progress
  told front rest h =
      ap (bank_owed roster) (follow-append [] front rest beginning)
      ∙ owed_through front rest (follow [] beginning front)
      (told_through [] front beginning (λ k. ap (is_debt roster) (sym nothing_at_first) ∙ k) h)

  -- a front of the entries that follow on a book, after which the bank owed
  abbrev SomeFront : Book → Book → Type 0
  SomeFront book es = (front : Book) × (rest : Book) × (front ++ rest ≡ es) × (is_debt roster (balance (book ++ front) P.Bank) ≡ true)

  -- a debt that is told was there before, or comes with the entry
  new_once : (now : Kind) (bank : ℤ) (p : Progress) (e : Entry) → bank_owed roster (after_entry now bank p e) ≡ true
      → (bank_owed roster p ≡ true) ⊎ (is_debt roster (balance_after P.Bank bank e) ≡ true)
  new_once now bank p (E.Pay from to amount) h =
      let after = balance_after P.Bank bank (E.Pay from to amount) in
      or_cases (is_debt roster p.lowest) (is_debt roster after) (sym (lesser (bank_of roster) p.lowest after) ∙ h)
  new_once now bank p (E.Step marker) h = inl (sym (ap (is_debt roster) (step_lowest now marker p)) ∙ h)
  new_once now bank p _ h = inl h

  some_front : (book es : Book) (p : Progress) → bank_owed roster (follow book p es) ≡ true → (bank_owed roster p ≡ true) ⊎ SomeFront book es
  some_front book [] p h = inl h
  some_front book (e ∷ es) p h = elim (some_front (book ++ e ∷ []) es (after book p e) h) [
    | inr later ↦
        inr (e ∷ later.0, later.1, ap (λ (b : Book). e ∷ b) later.2, ap (λ (b : Book). is_debt roster (balance b P.Bank)) (sym (append_assoc book (e ∷ []) later.0)) ∙ later.3)
    | inl before ↦ elim (new_once (phase (train_holder book)) (balance book P.Bank) p e before) [
      | inl owed ↦ inl owed
      | inr now ↦ inr (e ∷ [], es, refl, ap (is_debt roster) (balance-push book e P.Bank) ∙ now)
    ]
  ]

  only : (book : Book) → bank_owed roster (progress book) ≡ true → SomeFront [] book
  unfolding progress
  only book h = elim (some_front [] book beginning h) [
    | inl first ↦ absurd (no_debt (bank_of roster) first)
    | inr later ↦ later
  ]

pub debts_remembered : DebtsAreRemembered
debts_remembered = record { told = told; only = only }
