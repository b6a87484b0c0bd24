-- The tokens of two corporations never arrive at once: an entry marks one of them.
use Rattle.std.proofs.Common.{◌≡◌, ◌≢◌, ℕ, ◌+◌, ◌≤◌, Bool, true, false, [], ◌∷◌, Option, None, Some, refl, sym, ◌∙◌, ap, inl, inr, arith}
use Rattle.std.specs.Prelude.{fold, is_some, if◌then◌else◌}
use Rattle.std.proofs.lemmas.Bool.{cases_Bool, false≢true, eqb-true, eq-eqb}
use Rattle.rr_roster.specs.declared.company.Corp.{Corp}
use Rattle.rr_roster.specs.Company.{corp_index}
use Rattle.rr_books.specs.declared.entries.Cell.{Cell}
use Rattle.rr_books.specs.declared.entries.Entry.{Entry}
use Rattle.rr_books.specs.declared.entries.Entry.TheVariants as E
use Rattle.rr_books.specs.Book.{Book}
use Rattle.rr_books.specs.Same.{same_corp}
use Rattle.rr_market.specs.Marks.{Arrival, is_mark_of, cell_after, arrival_after, mark_of, arrival, ArrivalsDiffer}

marks_one : (c d : Corp) (e : Entry) → same_corp c d ≡ false → is_mark_of c e ≡ true → is_mark_of d e ≡ true → ⊥
marks_one c d (E.Mark corp cell) other one two =
    let p = eqb-true (corp_index c) (corp_index corp) one in
    let q = eqb-true (corp_index d) (corp_index corp) two in
    false≢true (sym other ∙ eq-eqb (corp_index c) (corp_index d) (p ∙ sym q))
marks_one c d _ other one two = false≢true one

-- a token that an entry doesn't mark was there before
there_before : (c : Corp) (cell : Option Cell) (e : Entry) → is_mark_of c e ≡ false → is_some (cell_after c cell e) ≡ true → is_some cell ≡ true
there_before c cell (E.Mark corp to) other some = ap (λ (b : Bool). is_some (if b then Some to else cell)) (sym other) ∙ some
there_before c cell (E.Pay from to amount) other some = some
there_before c cell (E.Move cert to) other some = some
there_before c cell (E.Lay hex tile turn) other some = some
there_before c cell (E.Station corp hex centre) other some = some
there_before c cell (E.Train train to) other some = some
there_before c cell (E.Best corp sheet certificate) other some = some
there_before c cell (E.Step marker) other some = some

-- two arrivals after equally many entries, each within them and from 1 on where its token is there, and different then
record AreApart (a b : Arrival) (x y : Option Cell) : Type 0 where
  entries : a.entries ≡ b.entries
  one_within : a.last ≤ a.entries
  two_within : b.last ≤ b.entries
  one_there : is_some x ≡ true → 1 ≤ a.last
  two_there : is_some y ≡ true → 1 ≤ b.last
  differ : 1 ≤ a.last → 1 ≤ b.last → a.last ≢ b.last

last-true : (b : Bool) (m n k : ℕ) → b ≡ true → k ≡ (if b then m else n) → k ≡ m
last-true b m n k h e = rw h at e

last-false : (b : Bool) (m n k : ℕ) → b ≡ false → k ≡ (if b then m else n) → k ≡ n
last-false b m n k h e = rw h at e

AreApart-more : (c d : Corp) (a b p q : Arrival) (x y : Option Cell) (e : Entry) → same_corp c d ≡ false → p ≡ arrival_after c a e → q ≡ arrival_after d b e → AreApart a b x y → AreApart p q (cell_after c x e) (cell_after d y e)
AreApart-more c d a b p q x y e other pe qe h =
    let pn : p.entries ≡ a.entries + 1 = ap (λ (z : Arrival). z.entries) pe in
    let qn : q.entries ≡ b.entries + 1 = ap (λ (z : Arrival). z.entries) qe in
    let pl : p.last ≡ (if is_mark_of c e then a.entries + 1 else a.last) = ap (λ (z : Arrival). z.last) pe in
    let ql : q.last ≡ (if is_mark_of d e then b.entries + 1 else b.last) = ap (λ (z : Arrival). z.last) qe in
    let same = h.entries in
    let low = h.one_within in
    let high = h.two_within in
    elim (cases_Bool (is_mark_of c e)) [
      | inl one ↦
          let at : p.last ≡ a.entries + 1 = last-true (is_mark_of c e) (a.entries + 1) a.last p.last one pl in
          elim (cases_Bool (is_mark_of d e)) [
            | inl two ↦ absurd (marks_one c d e other one two)
            | inr two ↦
                let stays : q.last ≡ b.last = last-false (is_mark_of d e) (b.entries + 1) b.last q.last two ql in
                record {
                  entries = omega arith;
                  one_within = omega arith;
                  two_within = omega arith;
                  one_there = λ s. omega arith;
                  two_there = λ s. let was = h.two_there (there_before d y e two s) in omega arith;
                  differ = λ m n. omega arith;
                }
          ]
      | inr one ↦
          let stays : p.last ≡ a.last = last-false (is_mark_of c e) (a.entries + 1) a.last p.last one pl in
          elim (cases_Bool (is_mark_of d e)) [
            | inl two ↦
                let at : q.last ≡ b.entries + 1 = last-true (is_mark_of d e) (b.entries + 1) b.last q.last two ql in
                record {
                  entries = omega arith;
                  one_within = omega arith;
                  two_within = omega arith;
                  one_there = λ s. let was = h.one_there (there_before c x e one s) in omega arith;
                  two_there = λ s. omega arith;
                  differ = λ m n. omega arith;
                }
            | inr two ↦
                let still : q.last ≡ b.last = last-false (is_mark_of d e) (b.entries + 1) b.last q.last two ql in
                record {
                  entries = omega arith;
                  one_within = omega arith;
                  two_within = omega arith;
                  one_there = λ s. let was = h.one_there (there_before c x e one s) in omega arith;
                  two_there = λ s. let was = h.two_there (there_before d y e two s) in omega arith;
                  differ = λ m n. let apart = h.differ (omega arith) (omega arith) in omega arith;
                }
          ]
    ]

AreApart-fold : (c d : Corp) (book : Book) (a b : Arrival) (x y : Option Cell) → same_corp c d ≡ false → AreApart a b x y → AreApart (fold (arrival_after c) a book) (fold (arrival_after d) b book) (fold (cell_after c) x book) (fold (cell_after d) y book)
AreApart-fold c d [] a b x y other h = h
AreApart-fold c d (e ∷ es) a b x y other h =
    AreApart-fold c d es (arrival_after c a e) (arrival_after d b e) (cell_after c x e) (cell_after d y e) other (AreApart-more c d a b (arrival_after c a e) (arrival_after d b e) x y e other refl refl h)

pub arrivals-differ : ArrivalsDiffer
unfolding mark_of arrival
arrivals-differ book c d other one two =
    let start : Arrival = record { entries = 0; last = 0 } in
    let none : AreApart start start None None = record {
      entries = refl;
      one_within = omega arith;
      two_within = omega arith;
      one_there = λ s. absurd (false≢true s);
      two_there = λ s. absurd (false≢true s);
      differ = λ m n. absurd (omega arith);
    } in
    let h = AreApart-fold c d book start start None None other none in
    h.differ (h.one_there one) (h.two_there two)
