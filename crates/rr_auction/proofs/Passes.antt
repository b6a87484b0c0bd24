-- The passes in a row, by counts over a whole book.
use Rattle.std.specs.Prelude.{◌≡◌, ℕ, ◌+◌, ◌-◌, ◌%◌, ◌<◌, ◌≤◌, Bool, true, false, cond, not, [], ◌∷◌, ◌++◌, Option, None, Some, unwrap_or, if◌then◌else◌, ◌==◌, ◌&&◌, refl}
use Rattle.std.proofs.Common.{sym, ◌∙◌, ap, arith, inl, inr}
use Rattle.std.proofs.Math.Nat.{mod-eq_of_lt, mod-lt, mod-zero, mod_self, suc-mod, zero-mod}
use Rattle.std.proofs.Math.Numerals.{suc-eq-add-one}
use Rattle.std.proofs.lemmas.Bool.{cases_eq, eq-eqb, eqb-true, false≢true, ne_eqb}
use Rattle.rr_roster.specs.declared.company.Private.{Private}
use Rattle.rr_books.specs.declared.entries.Entry.{Entry}
use Rattle.rr_books.specs.declared.entries.Entry.TheVariants as E
use Rattle.rr_books.specs.declared.entries.Marker.TheVariants as M
use Rattle.rr_books.specs.declared.acts.Act.TheVariants as A
use Rattle.rr_books.specs.declared.parties.Seat.{Seat}
use Rattle.rr_books.specs.Book.{Book, holder, players}
use Rattle.rr_auction.specs.AuctionLaws.{all_passed, all_passed_on_first, buys_or_bids, for_sale, is_raised, passes, passes_before, passes_elsewhere, passes_in_a_row}
use Rattle.rr_auction.specs.Effects.{brings_incomes}
use Rattle.rr_auction.specs.History.{last_told, times}
use Rattle.rr_rounds.specs.Bids.Progress.{Progress, progress}
use Rattle.rr_rounds.specs.Bids.Unsold.{is_private}
use Rattle.rr_rounds.specs.Bids.ProgressLaws.{progress-none, progress-push}
use Rattle.rr_auction.proofs.Entries.{counted_once, no_pass, raised-shown, table_of}
use Rattle.rr_auction.proofs.Histories.{by_entries, last_told-none, last_told-push, times-none, times-push, unwrap_either}

-- no more passes came before the row than in all
row_within : (book : Book) → unwrap_or (last_told passes_before book) 0 ≤ times passes book
row_within book = by_entries (λ b. unwrap_or (last_told passes_before b) 0 ≤ times passes b) none step book
  where
    none : unwrap_or (last_told passes_before []) 0 ≤ times passes []
    none = let e : unwrap_or (last_told passes_before []) 0 ≡ 0 = ap (λ (o : Option ℕ). unwrap_or o 0) (last_told-none passes_before) in omega arith

    one : (b : Bool) (before total : ℕ) → before ≤ total → unwrap_or (if b then Some total else None) before ≤ total
    one true before total h = omega arith
    one false before total h = h

    step : (b : Book) (e : Entry) → unwrap_or (last_told passes_before b) 0 ≤ times passes b → unwrap_or (last_told passes_before (b ++ e ∷ [])) 0 ≤ times passes (b ++ e ∷ [])
    step b e h =
        let last = ap (λ (o : Option ℕ). unwrap_or o 0) (last_told-push passes_before b e) ∙ unwrap_either (passes_before b e) (last_told passes_before b) 0 in
        let more = times-push passes b e in
        let within = one (buys_or_bids b e) (unwrap_or (last_told passes_before b) 0) (times passes b) h in
        omega arith

-- the row after an entry
row_once : (book : Book) (e : Entry) → passes_in_a_row (book ++ e ∷ []) ≡ cond (buys_or_bids book e) 0 (passes_in_a_row book + cond (passes book e) 1 0)
row_once book e =
    let last = ap (λ (o : Option ℕ). unwrap_or o 0) (last_told-push passes_before book e) ∙ unwrap_either (passes_before book e) (last_told passes_before book) 0 in
    let more = times-push passes book e in
    let within = row_within book in
    ap (λ (x : ℕ). x - unwrap_or (last_told passes_before (book ++ e ∷ [])) 0) more
    ∙ ap (λ (x : ℕ). (times passes book + cond (passes book e) 1 0) - x) last
    ∙ by_test (buys_or_bids book e) (passes book e) (times passes book) (unwrap_or (last_told passes_before book) 0) within (no_pass book e)
  where
    by_test : (breaks pass : Bool) (total before : ℕ) → before ≤ total → (breaks ≡ true → pass ≡ false) → (total + cond pass 1 0) - unwrap_or (if breaks then Some total else None) before ≡ cond breaks 0 ((total - before) + cond pass 1 0)
    by_test true true total before h k = absurd (false≢true (sym (k refl)))
    by_test true false total before h k = omega arith
    by_test false true total before h k = omega arith
    by_test false false total before h k = omega arith

-- a row by its length and a number of players goes on to nothing, or one further
next_row : (row n : ℕ) → (row + 1) % n ≡ cond (row % n + 1 == n) 0 (row % n + 1)
next_row row n = elim (cases_eq n 0) [
  | inl none ↦
      let here : row % n ≡ row = ap (λ (m : ℕ). row % m) none ∙ mod-zero row in
      let there : (row + 1) % n ≡ row + 1 = ap (λ (m : ℕ). (row + 1) % m) none ∙ mod-zero (row + 1) in
      there ∙ by_test (row % n + 1 == n) refl (omega arith) (λ e. let k = eqb-true (row % n + 1) n e in omega arith)
  | inr some ↦
      let positive : 0 < n = omega arith in
      let below : row % n < n = mod-lt row positive in
      let next : (row + 1) % n ≡ (row % n + 1) % n =
      ap (λ (m : ℕ). m % n) (sym (suc-eq-add-one row)) ∙ suc-mod row n ∙ ap (λ (m : ℕ). m % n) (suc-eq-add-one (row % n)) in
      elim (cases_eq (row % n + 1) n) [
        | inl last ↦ next ∙ ap (λ (m : ℕ). m % n) last ∙ mod_self n ∙ sym (ap (λ (b : Bool). cond b 0 (row % n + 1)) (eq-eqb (row % n + 1) n last))
        | inr less ↦
            let low : row % n + 1 < n = omega arith in
            next ∙ mod-eq_of_lt low ∙ sym (ap (λ (b : Bool). cond b 0 (row % n + 1)) (ne_eqb (row % n + 1) n less))
      ]
]
  where
    by_test : (b : Bool) → (row % n + 1 == n) ≡ b → row + 1 ≡ row % n + 1 → ((row % n + 1 == n) ≡ true → ⊥) → row + 1 ≡ cond b 0 (row % n + 1)
    by_test true e h k = absurd (k e)
    by_test false e h k = h

-- the pass that ends a round of passes, told by the whole row
ends_row : (row n : ℕ) → (row % n + 1 == n) ≡ ((row + 1) % n == 0)
ends_row row n = by_test (row % n + 1 == n) ∙ ap (λ (m : ℕ). m == 0) (sym (next_row row n))
  where
    by_test : (b : Bool) → b ≡ (cond b 0 (row % n + 1) == 0)
    by_test true = refl
    by_test false = sym (ne_eqb (row % n + 1) 0 (λ e. omega arith))

-- the passes that count, and the falls of the first price
pub record IsCountedSoFar (n : ℕ) (book : Book) : Type 0 where
  pub passes : (progress book).passes ≡ passes_in_a_row book % n
  pub falls : (progress book).falls ≡ times (all_passed_on_first n) book

nothing_elsewhere : (b : Bool) → cond {A = ℕ} b 1 0 ≡ 0 → b ≡ false
nothing_elsewhere true h = absurd (omega arith)
nothing_elsewhere false h = refl

same_table : (n m : ℕ) → (true && not (m == n)) ≡ false → m ≡ n
same_table n m h = by_test (m == n) refl h
  where
    by_test : (b : Bool) → (m == n) ≡ b → not b ≡ false → m ≡ n
    by_test true e k = eqb-true m n e
    by_test false e k = absurd (false≢true (sym k))

passes_step : (breaks pass : Bool) (n m row x : ℕ) → x ≡ row % n → (pass && not (m == n)) ≡ false → (breaks ≡ true → pass ≡ false) → cond breaks 0 (cond pass (cond (x + 1 == m) 0 (x + 1)) x) ≡ cond breaks 0 (row + cond pass 1 0) % n
passes_step true pass n m row x is here apart = sym (zero-mod n)
passes_step false true n m row x is here apart =
    let there = same_table n m here in
    ap (λ (k : ℕ). cond (x + 1 == k) 0 (x + 1)) there
    ∙ ap (λ (k : ℕ). cond (k + 1 == n) 0 (k + 1)) is
    ∙ sym (next_row row n)
passes_step false false n m row x is here apart = is ∙ ap (λ (k : ℕ). k % n) (omega arith)

falls_step : (pass first : Bool) (n m row x : ℕ) → x ≡ row % n → (pass && not (m == n)) ≡ false → cond {A = ℕ} (pass && (x + 1 == m) && first) 1 0 ≡ cond ((pass && ((row + 1) % n == 0)) && first) 1 0
falls_step false first n m row x is here = refl
falls_step true first n m row x is here =
    let there = same_table n m here in
    ap (λ (k : ℕ). cond {A = ℕ} ((x + 1 == k) && first) 1 0) there
    ∙ ap (λ (k : ℕ). cond {A = ℕ} ((k + 1 == n) && first) 1 0) is
    ∙ ap (λ (b : Bool). cond {A = ℕ} (b && first) 1 0) (ends_row row n)

-- so many passes count, where the table had so many players at each
pub counted_so_far : (n : ℕ) (book : Book) → times (passes_elsewhere n) book ≡ 0 → IsCountedSoFar n book
counted_so_far n book = by_entries (λ b. times (passes_elsewhere n) b ≡ 0 → IsCountedSoFar n b) (λ _. none) step book
  where
    none : IsCountedSoFar n []
    none =
        let row : passes_in_a_row [] ≡ 0 = let e = times-none passes in omega arith in
        record {
          passes = ap (λ (a : Progress). a.passes) progress-none ∙ sym (ap (λ (x : ℕ). x % n) row ∙ zero-mod n);
          falls = ap (λ (a : Progress). a.falls) progress-none ∙ sym (times-none (all_passed_on_first n));
        }

    step : (b : Book) (e : Entry) → (times (passes_elsewhere n) b ≡ 0 → IsCountedSoFar n b) → times (passes_elsewhere n) (b ++ e ∷ []) ≡ 0 → IsCountedSoFar n (b ++ e ∷ [])
    step b e so_far there =
        let more = times-push (passes_elsewhere n) b e in
        let before = so_far (omega arith) in
        let here : passes_elsewhere n b e ≡ false = nothing_elsewhere (passes_elsewhere n b e) (omega arith) in
        let once = counted_once b e in
        let pushed = progress-push b e in
        let row = passes_in_a_row b in
        record {
          passes =
              ap (λ (a : Progress). a.passes) pushed
              ∙ once.passes
              ∙ passes_step (buys_or_bids b e) (passes b e) n (players b) row (progress b).passes before.passes here (no_pass b e)
              ∙ ap (λ (x : ℕ). x % n) (sym (row_once b e));
          falls =
              ap (λ (a : Progress). a.falls) pushed
              ∙ once.falls
              ∙ ap (λ (x : ℕ). (progress b).falls + x) (falls_step (passes b e) (is_private Private.Sv (for_sale b)) n (players b) row (progress b).passes before.passes here)
              ∙ ap (λ (x : ℕ). x + cond (all_passed_on_first n b e) 1 0) before.falls
              ∙ sym (times-push (all_passed_on_first n) b e);
        }

-- a pass that ends a round of passes brings the incomes, but for the first private
pub incomes_by_row : (book : Book) (s : Seat) → times (passes_elsewhere (players book)) book ≡ 0
    → brings_incomes (players book) (holder book) (progress book) ≡ (all_passed (players book) book (E.Step (M.Act (A.Pass s))) && not (is_private Private.Sv (for_sale book)))
incomes_by_row book s there =
    let n = players book in
    let a = progress book in
    let other = not (is_private Private.Sv (for_sale book)) in
    ap (λ (b : Bool). not b && (a.passes + 1 == n) && other) (raised-shown a.bids (for_sale book) (table_of book))
    ∙ ap (λ (k : ℕ). not (is_raised book) && (k + 1 == n) && other) (counted_so_far n book there).passes
    ∙ ap (λ (b : Bool). not (is_raised book) && b && other) (ends_row (passes_in_a_row book) n)
