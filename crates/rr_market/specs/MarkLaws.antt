-- What a book says of the tokens after one entry more.
use Rattle.std.specs.Prelude.{◌≡◌, ℕ, ◌+◌, ◌≤◌, Bool, true, false, not, ◌&&◌, [], ◌∷◌, ◌++◌, length, Option, None, fold, if◌then◌else◌, refl}
use Rattle.std.proofs.Common.{sym, ◌∙◌, ap, arith}
use Rattle.std.proofs.lemmas.Bool.{false≢true}
use Rattle.std.proofs.lemmas.List.Sums.{fold-append}
use Rattle.rr_roster.specs.declared.company.Corp.{Corp}
use Rattle.rr_books.specs.declared.entries.Cell.{Cell}
use Rattle.rr_books.specs.declared.entries.Entry.{Entry}
use Rattle.rr_books.specs.declared.entries.Entry.TheVariants as E
use Rattle.rr_books.specs.Book.{Book}
use Rattle.rr_market.specs.Marks.{Arrival, is_mark_of, cell_after, first_after, arrival_after, mark_of, first_mark_of, arrival}

pub mark_of-push : (book : Book) (e : Entry) (c : Corp) → mark_of (book ++ e ∷ []) c ≡ cell_after c (mark_of book c) e
unfolding mark_of
mark_of-push book e c = fold-append (cell_after c) None book (e ∷ [])

pub first_mark_of-push : (book : Book) (e : Entry) (c : Corp) → first_mark_of (book ++ e ∷ []) c ≡ first_after c (first_mark_of book c) e
unfolding first_mark_of
first_mark_of-push book e c = fold-append (first_after c) None book (e ∷ [])

at_first : Arrival
at_first = record { entries = 0; last = 0 }

entries-counted : (c : Corp) (a : Arrival) (book : Book) → (fold (arrival_after c) a book).entries ≡ a.entries + length book
entries-counted c a [] = omega arith
entries-counted c a (e ∷ es) = let rest = entries-counted c (arrival_after c a e) es in omega arith

last_by : (b : Bool) (n m : ℕ) → m ≤ n → (if b then n + 1 else m) ≤ n + 1
last_by true n m h = omega arith
last_by false n m h = omega arith

last-le : (c : Corp) (a : Arrival) (book : Book) → a.last ≤ a.entries → (fold (arrival_after c) a book).last ≤ (fold (arrival_after c) a book).entries
last-le c a [] h = h
last-le c a (e ∷ es) h = last-le c (arrival_after c a e) es (last_by (is_mark_of c e) a.entries a.last h)

-- a mark arrives at the end of the book, and at another entry nothing arrives
pub arrival-push : (book : Book) (e : Entry) (c : Corp) → arrival (book ++ e ∷ []) c ≡ (if is_mark_of c e then length book + 1 else arrival book c)
unfolding arrival
arrival-push book e c =
    let start : Arrival = record { entries = 0; last = 0 } in
    let counted : (fold (arrival_after c) start book).entries ≡ length book = omega (arith, entries-counted c start book) in
    ap (λ (a : Arrival). a.last) (fold-append (arrival_after c) start book (e ∷ []))
    ∙ ap (λ (n : ℕ). if is_mark_of c e then n + 1 else (fold (arrival_after c) start book).last) counted

-- a token arrived within the book
pub arrival-le : (book : Book) (c : Corp) → arrival book c ≤ length book
unfolding arrival
arrival-le book c =
    let start : Arrival = record { entries = 0; last = 0 } in
    let counted : (fold (arrival_after c) start book).entries ≡ length book = omega (arith, entries-counted c start book) in
    let late : (fold (arrival_after c) start book).last ≤ (fold (arrival_after c) start book).entries = last-le c start book (omega arith) in
    omega arith

-- the entry marks a token
abbrev pub is_mark : Entry → Bool
is_mark (E.Mark corp cell) = true
is_mark _ = false

-- no entry marks a token
abbrev pub has_no_mark : Book → Bool
has_no_mark [] = true
has_no_mark (e ∷ es) = not (is_mark e) && has_no_mark es

-- an entry of another kind leaves each token where it is
pub record IsOther (e : Entry) : Type 0 where
  pub cells : (c : Corp) (cell : Option Cell) → cell_after c cell e ≡ cell
  pub firsts : (c : Corp) (cell : Option Cell) → first_after c cell e ≡ cell
  pub arrivals : (c : Corp) → is_mark_of c e ≡ false

pub IsOther-from : (e : Entry) → is_mark e ≡ false → IsOther e
IsOther-from (E.Mark corp cell) h = absurd (false≢true (sym h))
IsOther-from (E.Pay from to amount) h = record { cells = λ c cell. refl; firsts = λ c cell. refl; arrivals = λ c. refl }
IsOther-from (E.Move cert to) h = record { cells = λ c cell. refl; firsts = λ c cell. refl; arrivals = λ c. refl }
IsOther-from (E.Lay hex tile turn) h = record { cells = λ c cell. refl; firsts = λ c cell. refl; arrivals = λ c. refl }
IsOther-from (E.Station corp hex centre) h = record { cells = λ c cell. refl; firsts = λ c cell. refl; arrivals = λ c. refl }
IsOther-from (E.Train train to) h = record { cells = λ c cell. refl; firsts = λ c cell. refl; arrivals = λ c. refl }
IsOther-from (E.Best corp sheet certificate) h = record { cells = λ c cell. refl; firsts = λ c cell. refl; arrivals = λ c. refl }
IsOther-from (E.Step marker) h = record { cells = λ c cell. refl; firsts = λ c cell. refl; arrivals = λ c. refl }
