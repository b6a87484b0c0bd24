-- The balances after a dividend.
use Rattle.std.specs.Prelude.{◌≡◌, ℕ, zero, suc, ◌+◌, ◌*◌, ◌/◌, ◌<◌, ◌≤◌, ◌==◌, ℤ, pos, ◌+ℤ◌, ◌-ℤ◌, Bool, true, false, cond, List, [], ◌∷◌, ◌++◌, Option, None, Some, fold, map, sum_by, count_by, option_and_then, ◌⊎◌, refl}
use Rattle.std.specs.List.{range_with_len}
use Rattle.std.proofs.Common.{sym, ◌∙◌, ap, inl, inr, arith}
use Rattle.std.proofs.lemmas.Bool.{cases_Bool, eqb-true}
use Rattle.std.proofs.lemmas.Bool.Decides.{nat_tests}
use Rattle.std.proofs.lemmas.Int.{ints}
use Rattle.std.proofs.lemmas.Nat.{div-mul-add}
use Rattle.std.proofs.lemmas.List.Sums.{fold-append, sum_by-cons}
use Rattle.rr_roster.specs.declared.company.Corp.{Corp}
use Rattle.rr_roster.specs.Company.{corp_index}
use Rattle.rr_roster.specs.Chart.Chart.{Row}
use Rattle.rr_books.specs.declared.parties.Money.{Money}
use Rattle.rr_books.specs.declared.parties.Seat.{Seat}
use Rattle.rr_books.specs.declared.parties.Party.{Party}
use Rattle.rr_books.specs.declared.parties.Party.TheVariants as P
use Rattle.rr_books.specs.declared.parties.Place.{Place}
use Rattle.rr_books.specs.declared.parties.Place.TheVariants as L
use Rattle.rr_books.specs.declared.certificates.Cert.TheVariants as C
use Rattle.rr_books.specs.declared.acts.Act.TheVariants as A
use Rattle.rr_books.specs.declared.entries.Cell.{Cell}
use Rattle.rr_books.specs.declared.entries.Entry.{Entry}
use Rattle.rr_books.specs.declared.entries.Entry.TheVariants as E
use Rattle.rr_books.specs.declared.entries.Marker.{Marker}
use Rattle.rr_books.specs.declared.entries.Marker.TheVariants as M
use Rattle.rr_books.specs.Book.{Book, balance, balance_after, balance-append, holder, players}
use Rattle.rr_books.specs.Same.{same_corp}
use Rattle.rr_books.specs.Shares.{Holders, is_at, share, share_numbers}
use Rattle.rr_books.specs.ShareLaws.{share-parts}
use Rattle.rr_desk.specs.Incomes.{dollars}
use Rattle.rr_market.specs.Marks.{mark_of}
use Rattle.rr_market.specs.Moves.{cell_after_paying, cell_after_withholding, mark_at}
use Rattle.rr_operate.specs.Dividends.Dividends.{pays_out, withholds}
use Rattle.rr_operate.specs.Dividends.DividendLaws.{PaysEachHolder, WithholdingPaysTheCorporation, percent_paid}
use Rattle.rr_operate.proofs.DividendsLemmas.Flat.{entries_are_these, withheld_flat}

nothing : (x : ℤ) → (x +ℤ pos 0) -ℤ pos 0 ≡ x
nothing x = omega (arith, ints)

-- a token's mark pays nothing
marks_pay_nothing : (p : Party) (x : ℤ) (c : Corp) (cell : Option Cell) → fold (balance_after p) x (mark_at c cell) ≡ x
marks_pay_nothing p x c None = refl
marks_pay_nothing p x c (Some cell) = nothing x

-- the bank pays a seat so much
abbrev pays : (Seat → ℕ) → Seat → Entry
pays f s = E.Pay P.Bank (P.Seat s) (dollars (f s))

bank_pays : (f : Seat → ℕ) (ss : List Seat) (x : ℤ) → fold (balance_after P.Bank) x (map (pays f) ss) ≡ x -ℤ pos (sum_by f ss)
bank_pays f [] x = omega (arith, ints)
bank_pays f (s ∷ ss) x =
    let rest = bank_pays f ss ((x +ℤ pos 0) -ℤ pos (f s)) in
    let all = sum_by-cons f s ss in
    rest ∙ less x (f s) (sum_by f ss) (sum_by f (s ∷ ss)) all
  where
    less : (y : ℤ) (a b n : ℕ) → n ≡ a + b → ((y +ℤ pos 0) -ℤ pos a) -ℤ pos b ≡ y -ℤ pos n
    less y a b n e = omega (arith, ints)

corporation_stays : (f : Seat → ℕ) (d : Corp) (ss : List Seat) (x : ℤ) → fold (balance_after (P.Corp d)) x (map (pays f) ss) ≡ x
corporation_stays f d [] x = refl
corporation_stays f d (s ∷ ss) x = corporation_stays f d ss ((x +ℤ pos 0) -ℤ pos 0) ∙ nothing x

abbrev seat_at : ℕ → Seat
seat_at k = record { 0 = k }

-- the seats from one number on, so many
abbrev from : ℕ → ℕ → List Seat
from a n = map seat_at (range_with_len a n)

another : (t k : ℕ) → (t < k) ⊎ (k < t) → (t == k) ≡ false
another t k (inl h) = grind (arith, nat_tests)
another t k (inr h) = grind (arith, nat_tests)

got_if : (b : Bool) (x : ℤ) (a : ℕ) → b ≡ false → (x +ℤ cond b (pos a) (pos 0)) -ℤ pos 0 ≡ x
got_if true x a e = absurd (true≢false e)
  where
    true≢false : true ≡ false → ⊥
    true≢false h = cc
got_if false x a e = nothing x

-- a seat that isn't among those that are paid
seat_stays : (f : Seat → ℕ) (s : Seat) (a n : ℕ) (x : ℤ) → (s.0 < a) ⊎ (a + n ≤ s.0) → fold (balance_after (P.Seat s)) x (map (pays f) (from a n)) ≡ x
seat_stays f s a zero x out = refl
seat_stays f s a (suc n) x out =
    seat_stays f s (a + 1) n _ (past out) ∙ got_if (s.0 == a) x (f (seat_at a)) (another s.0 a (here out))
  where
    past : (s.0 < a) ⊎ (a + suc n ≤ s.0) → (s.0 < a + 1) ⊎ (a + 1 + n ≤ s.0)
    past (inl h) = inl (omega arith)
    past (inr h) = inr (omega arith)

    here : (s.0 < a) ⊎ (a + suc n ≤ s.0) → (s.0 < a) ⊎ (a < s.0)
    here (inl h) = inl h
    here (inr h) = inr (omega arith)

-- a seat among them
seat_paid : (f : Seat → ℕ) (s : Seat) (a n : ℕ) (x : ℤ) → a ≤ s.0 → s.0 < a + n → fold (balance_after (P.Seat s)) x (map (pays f) (from a n)) ≡ x +ℤ pos (f s)
seat_paid f s a zero x low high = absurd (omega arith)
seat_paid f s a (suc n) x low high =
    elim (cases_Bool (s.0 == a)) [
      | inl same ↦
          let here : s.0 ≡ a = eqb-true s.0 a same in
          seat_stays f s (a + 1) n _ (inl (omega arith)) ∙ got (s.0 == a) x (f (seat_at a)) (f s) same (ap (λ (k : ℕ). f (seat_at k)) (sym here))
      | inr other ↦
          let later : a + 1 ≤ s.0 = beyond s.0 a other low in
          seat_paid f s (a + 1) n _ later (omega arith) ∙ ap (λ (y : ℤ). y +ℤ pos (f s)) (got_if (s.0 == a) x (f (seat_at a)) other)
    ]
  where
    got : (b : Bool) (y : ℤ) (m k : ℕ) → b ≡ true → m ≡ k → (y +ℤ cond b (pos m) (pos 0)) -ℤ pos 0 ≡ y +ℤ pos k
    got true y m k e f = omega (arith, ints)
    got false y m k e f = absurd (true≢false (sym e))
      where
        true≢false : true ≡ false → ⊥
        true≢false h = cc

    beyond : (t k : ℕ) → (t == k) ≡ false → k ≤ t → k + 1 ≤ t
    beyond t k e h = grind (arith, nat_tests)

-- what tens of a revenue and of a percentage come to
pub tens_of : (t k : ℕ) → 10 * t * (10 * k) / 100 ≡ t * k
tens_of t k = ap (λ (n : ℕ). n / 100) (hundred t k) ∙ div-mul-add (t * k) 100 0 (omega arith)
  where
    hundred : (t k : ℕ) → 10 * t * (10 * k) ≡ t * k * 100 + 0
    hundred t k = grind (arith)

-- how many tenths of a corporation are at a place
pub tenths : Holders → Place → Corp → ℕ
tenths H place c = cond (is_at (H (C.President c)) place) 2 0 + count_by (λ n. is_at (H (C.Share c n)) place) share_numbers

pub share_tens : (H : Holders) (place : Place) (c : Corp) → share H place c ≡ 10 * tenths H place c
unfolding tenths
share_tens H place c = share-parts H place c ∙ twenty (is_at (H (C.President c)) place) (count_by (λ n. is_at (H (C.Share c n)) place) share_numbers)
  where
    twenty : (b : Bool) (k : ℕ) → cond b 20 0 + 10 * k ≡ 10 * (cond b 2 0 + k)
    twenty true k = omega arith
    twenty false k = omega arith

-- sums of shares and of their parts
pub sum_tens : {X : Type 0} (f : X → ℕ) (g : X → ℕ) → ((x : X) → f x ≡ 10 * g x) → (xs : List X) → sum_by f xs ≡ 10 * sum_by g xs
sum_tens f g e [] = refl
sum_tens f g e (x ∷ xs) =
    let rest = sum_tens f g e xs in
    let one = sum_by-cons f x xs in
    let other = sum_by-cons g x xs in
    let here = e x in
    omega arith

sum_parts : {X : Type 0} (t : ℕ) (f : X → ℕ) (g : X → ℕ) → ((x : X) → f x ≡ 10 * g x) → (xs : List X) → sum_by (λ x. 10 * t * f x / 100) xs ≡ t * sum_by g xs
sum_parts t f g e [] = omega arith
sum_parts t f g e (x ∷ xs) =
    sum_by-cons (λ y. 10 * t * f y / 100) x xs
    ∙ ap (λ (n : ℕ). 10 * t * n / 100 + sum_by (λ y. 10 * t * f y / 100) xs) (e x)
    ∙ ap (λ (n : ℕ). n + sum_by (λ y. 10 * t * f y / 100) xs) (tens_of t (g x))
    ∙ ap (λ (n : ℕ). t * g x + n) (sum_parts t f g e xs)
    ∙ whole t (g x) (sum_by g xs) (sum_by g (x ∷ xs)) (sum_by-cons g x xs)
  where
    whole : (t a b n : ℕ) → n ≡ a + b → t * a + t * b ≡ t * n
    whole t a b n e = rw e (grind (arith))

-- the parts of the seats and of the pool together are the part of what they have together
parts_add : {X : Type 0} (t : ℕ) (f : X → ℕ) (g : X → ℕ) → ((x : X) → f x ≡ 10 * g x) → (xs : List X) (p q : ℕ) → p ≡ 10 * q → sum_by (λ x. 10 * t * f x / 100) xs + 10 * t * p / 100 ≡ 10 * t * (sum_by f xs + p) / 100
parts_add t f g e xs p q pool =
    ap (λ (n : ℕ). n + 10 * t * p / 100) (sum_parts t f g e xs)
    ∙ ap (λ (n : ℕ). t * sum_by g xs + 10 * t * n / 100) pool
    ∙ ap (λ (n : ℕ). t * sum_by g xs + n) (tens_of t q)
    ∙ grouped t (sum_by g xs) q
    ∙ sym (tens_of t (sum_by g xs + q))
    ∙ ap (λ (n : ℕ). 10 * t * n / 100) (sym (together (sum_by f xs) (sum_by g xs) p q (sum_tens f g e xs) pool))
  where
    grouped : (t a b : ℕ) → t * a + t * b ≡ t * (a + b)
    grouped t a b = grind (arith)

    together : (a b p q : ℕ) → a ≡ 10 * b → p ≡ 10 * q → a + p ≡ 10 * (b + q)
    together a b p q e f = omega arith

-- the command's words, payments, one payment more, and the mark of a token
spread : (p : Party) (x : ℤ) (words : Marker) (es : Book) (pay : Entry) (c : Corp) (cell : Option Cell) → fold (balance_after p) x (E.Step words ∷ (es ++ pay ∷ mark_at c cell)) ≡ balance_after p (fold (balance_after p) x es) pay
spread p x words es pay c cell =
    ap (λ (y : ℤ). fold (balance_after p) y (es ++ pay ∷ mark_at c cell)) (nothing x)
    ∙ fold-append (balance_after p) x es (pay ∷ mark_at c cell)
    ∙ marks_pay_nothing p (balance_after p (fold (balance_after p) x es) pay) c cell

same_itself : (k : ℕ) → (k == k) ≡ true
same_itself k = grind (arith, nat_tests)

got_all : (b : Bool) (x a : ℤ) → b ≡ true → (x +ℤ cond b a (pos 0)) -ℤ pos 0 ≡ x +ℤ a
got_all true x a e = nothing_more x a
  where
    nothing_more : (x a : ℤ) → (x +ℤ a) -ℤ pos 0 ≡ x +ℤ a
    nothing_more x a = omega (arith, ints)
got_all false x a e = absurd (true≢false (sym e))
  where
    true≢false : true ≡ false → ⊥
    true≢false h = cc

got_none : (b : Bool) (x a : ℤ) → b ≡ false → (x +ℤ cond b a (pos 0)) -ℤ pos 0 ≡ x
got_none true x a e = absurd (true≢false e)
  where
    true≢false : true ≡ false → ⊥
    true≢false h = cc
got_none false x a e = nothing x

-- what a seat gets of a revenue of so many tens, and what the pool's part is
abbrev seat_part : Book → Corp → ℕ → Seat → ℕ
seat_part book c t s = 10 * t * share (holder book) (L.Seat s) c / 100

abbrev pool_part : Book → Corp → ℕ → ℕ
pool_part book c t = 10 * t * share (holder book) L.Pool c / 100

-- a balance after a dividend
total : (rows : List Row) (book : Book) (c : Corp) (t : ℕ) (p : Party) → balance (book ++ pays_out rows c (dollars (10 * t)) book) p ≡ balance_after p (fold (balance_after p) (balance book p) (map (pays (seat_part book c t)) (from 0 (players book)))) (E.Pay P.Bank (P.Corp c) (dollars (pool_part book c t)))
total rows book c t p =
    balance-append book (pays_out rows c (dollars (10 * t)) book) p
    ∙ ap (λ (es : Book). fold (balance_after p) (balance book p) es) (entries_are_these rows c (dollars (10 * t)) book)
    ∙ spread p (balance book p) (M.Act (A.PayOut c)) (map (pays (seat_part book c t)) (from 0 (players book))) (E.Pay P.Bank (P.Corp c) (dollars (pool_part book c t))) c (option_and_then (cell_after_paying rows) (mark_of book c))

bank_after : (rows : List Row) (book : Book) (c : Corp) (t : ℕ) → balance (book ++ pays_out rows c (dollars (10 * t)) book) P.Bank ≡ balance book P.Bank -ℤ pos (10 * t * percent_paid book c / 100)
bank_after rows book c t =
    let seats = from 0 (players book) in
    let added = parts_add t (λ (s : Seat). share (holder book) (L.Seat s) c) (λ (s : Seat). tenths (holder book) (L.Seat s) c) (λ s. share_tens (holder book) (L.Seat s) c) seats (share (holder book) L.Pool c) (tenths (holder book) L.Pool c) (share_tens (holder book) L.Pool c) in
    total rows book c t P.Bank
    ∙ ap (λ (y : ℤ). (y +ℤ pos 0) -ℤ pos (pool_part book c t)) (bank_pays (seat_part book c t) seats (balance book P.Bank))
    ∙ less (balance book P.Bank) (sum_by (seat_part book c t) seats) (pool_part book c t) (10 * t * percent_paid book c / 100) added
  where
    less : (y : ℤ) (a b n : ℕ) → a + b ≡ n → ((y -ℤ pos a) +ℤ pos 0) -ℤ pos b ≡ y -ℤ pos n
    less y a b n e = omega (arith, ints)

seat_after : (rows : List Row) (book : Book) (c : Corp) (t : ℕ) (s : Seat) → s.0 < players book → balance (book ++ pays_out rows c (dollars (10 * t)) book) (P.Seat s) ≡ balance book (P.Seat s) +ℤ pos (seat_part book c t s)
seat_after rows book c t s here =
    total rows book c t (P.Seat s)
    ∙ nothing (fold (balance_after (P.Seat s)) (balance book (P.Seat s)) (map (pays (seat_part book c t)) (from 0 (players book))))
    ∙ seat_paid (seat_part book c t) s 0 (players book) (balance book (P.Seat s)) (omega arith) (omega arith)

corporation_after : (rows : List Row) (book : Book) (c : Corp) (t : ℕ) → balance (book ++ pays_out rows c (dollars (10 * t)) book) (P.Corp c) ≡ balance book (P.Corp c) +ℤ pos (pool_part book c t)
corporation_after rows book c t =
    total rows book c t (P.Corp c)
    ∙ got_all (same_corp c c) (fold (balance_after (P.Corp c)) (balance book (P.Corp c)) (map (pays (seat_part book c t)) (from 0 (players book)))) (pos (pool_part book c t)) (same_itself (corp_index c))
    ∙ ap (λ (y : ℤ). y +ℤ pos (pool_part book c t)) (corporation_stays (seat_part book c t) c (from 0 (players book)) (balance book (P.Corp c)))

other_after : (rows : List Row) (book : Book) (c : Corp) (t : ℕ) (d : Corp) → same_corp d c ≡ false → balance (book ++ pays_out rows c (dollars (10 * t)) book) (P.Corp d) ≡ balance book (P.Corp d)
other_after rows book c t d other =
    total rows book c t (P.Corp d)
    ∙ got_none (same_corp d c) (fold (balance_after (P.Corp d)) (balance book (P.Corp d)) (map (pays (seat_part book c t)) (from 0 (players book)))) (pos (pool_part book c t)) other
    ∙ corporation_stays (seat_part book c t) d (from 0 (players book)) (balance book (P.Corp d))

pub pays_each_holder : PaysEachHolder
pays_each_holder rows book c t = record {
  bank = bank_after rows book c t;
  seats = λ s here. seat_after rows book c t s here;
  corporation = corporation_after rows book c t;
  others = λ d other. other_after rows book c t d other;
}

-- a balance after a revenue was withheld
total_withheld : (rows : List Row) (book : Book) (c : Corp) (revenue : Money) (p : Party) → balance (book ++ withholds rows c revenue book) p ≡ balance_after p (balance book p) (E.Pay P.Bank (P.Corp c) revenue)
total_withheld rows book c revenue p =
    balance-append book (withholds rows c revenue book) p
    ∙ ap (λ (es : Book). fold (balance_after p) (balance book p) es) (withheld_flat rows c revenue book)
    ∙ spread p (balance book p) (M.Act (A.Hold c)) [] (E.Pay P.Bank (P.Corp c) revenue) c (option_and_then (cell_after_withholding rows) (mark_of book c))

pub withholding_pays_the_corporation : WithholdingPaysTheCorporation
withholding_pays_the_corporation rows book c revenue = record {
  bank = total_withheld rows book c revenue P.Bank ∙ lost (balance book P.Bank) revenue.0;
  corporation = total_withheld rows book c revenue (P.Corp c) ∙ got_all (same_corp c c) (balance book (P.Corp c)) revenue.0 (same_itself (corp_index c));
  seats = λ s. total_withheld rows book c revenue (P.Seat s) ∙ nothing (balance book (P.Seat s));
  others = λ d other. total_withheld rows book c revenue (P.Corp d) ∙ got_none (same_corp d c) (balance book (P.Corp d)) revenue.0 other;
}
  where
    lost : (x a : ℤ) → (x +ℤ pos 0) -ℤ a ≡ x -ℤ a
    lost x a = omega (arith, ints)
