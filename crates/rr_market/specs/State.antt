-- The running tables of the market, and what it is to stand for a book.
use Rattle.std.specs.Prelude.{◌≡◌, ℕ, true, false, nat_lt, List, ◌++◌, Option, None, Some, is_some, option_map, slice_index, slice_index_or, slice_set, if◌then◌else◌}
use Rattle.rr_roster.specs.declared.company.Corp.{Corp}
use Rattle.rr_roster.specs.Company.{corp_index}
use Rattle.rr_books.specs.declared.entries.Cell.{Cell}
use Rattle.rr_books.specs.declared.entries.Entry.{Entry}
use Rattle.rr_books.specs.declared.entries.Entry.TheVariants as E
use Rattle.rr_books.specs.Book.{Book}
use Rattle.rr_books.specs.Same.{same_corp}
use Rattle.rr_market.specs.declared.market.Token.{Token}
use Rattle.rr_market.specs.Arrivals.{ranks_after}
use Rattle.rr_market.specs.Marks.{mark_of, first_mark_of, arrival}

-- each corporation's token, and which moved more recently than which
pub record State : Type 0 where
  pub tokens : List (Option Token)
  pub arrivals : List ℕ

-- a corporation's token, its cell, the cell where it was put first, and its arrival, as the tables have them
abbrev pub token_in : State → Corp → Option Token
token_in s c = slice_index_or s.tokens (corp_index c) None

abbrev pub cell_in : State → Corp → Option Cell
cell_in s c = option_map (λ t. t.cell) (token_in s c)

abbrev pub first_in : State → Corp → Option Cell
first_in s c = option_map (λ t. t.first) (token_in s c)

abbrev pub arrival_in : State → Corp → ℕ
arrival_in s c = slice_index s.arrivals (corp_index c)

-- the tables say what the book says; of the arrivals, in which order they came
pub record IsMarketOf (book : Book) (s : State) : Type 0 where
  pub cells : (c : Corp) → mark_of book c ≡ cell_in s c
  pub firsts : (c : Corp) → first_mark_of book c ≡ first_in s c
  pub arrivals : (c d : Corp) → is_some (mark_of book c) ≡ true → is_some (mark_of book d) ≡ true → nat_lt (arrival book c) (arrival book d) ≡ nat_lt (arrival_in s c) (arrival_in s d)

-- the new tables stand for every book that the old ones stood for, with the entries of an effect more
abbrev pub Follows : State → State → (Book → Book) → Type 0
Follows old new effect = (book : Book) → IsMarketOf book old → IsMarketOf (book ++ effect book) new

-- the token of a corporation after it was put on a cell
abbrev pub token_on : Option Token → Cell → Token
token_on None cell = record { first = cell; cell = cell }
token_on (Some token) cell = record { first = token.first; cell = cell }

-- one corporation's token was put on a cell, after all the others
pub record IsMarked (old new : State) (corp : Corp) (cell : Cell) : Type 0 where
  pub tokens : (c : Corp) → token_in new c ≡ (if same_corp c corp then Some (token_on (token_in old corp) cell) else token_in old c)
  pub last : (c : Corp) → same_corp c corp ≡ false → nat_lt (arrival_in new c) (arrival_in new corp) ≡ true
  pub others : (c d : Corp) → same_corp c corp ≡ false → same_corp d corp ≡ false → nat_lt (arrival_in new c) (arrival_in new d) ≡ nat_lt (arrival_in old c) (arrival_in old d)

-- the tables after one entry more: a mark puts a corporation's token on a cell, after all the others
abbrev pub after : State → Entry → State
after s (E.Mark corp cell) = record {
  tokens = slice_set s.tokens (corp_index corp) (Some (token_on (token_in s corp) cell));
  arrivals = ranks_after s.arrivals (corp_index corp);
}
after s _ = s
