-- What the entries of a book tell, each judged by the book before it.
use Rattle.std.specs.Prelude.{ℕ, ◌+◌, Bool, cond, [], ◌∷◌, ◌++◌, Option, None}
use Rattle.std.specs.Option.{option_or}
use Rattle.rr_books.specs.declared.entries.Entry.{Entry}
use Rattle.rr_books.specs.Book.{Book}

-- what the last entry tells, of those behind a book that tell anything
abbrev pub last_behind : {A : Type 0} → (Book → Entry → Option A) → Book → Book → Option A
last_behind tells before [] = None
last_behind tells before (e ∷ es) = option_or (last_behind tells (before ++ e ∷ []) es) (tells before e)

-- what the last entry of a book tells, of those that tell anything
unfoldable pub last_told : {A : Type 0} → (Book → Entry → Option A) → Book → Option A
last_told tells book = last_behind tells [] book

-- how many entries behind a book are so
abbrev pub times_behind : (Book → Entry → Bool) → Book → Book → ℕ
times_behind is before [] = 0
times_behind is before (e ∷ es) = cond (is before e) 1 0 + times_behind is (before ++ e ∷ []) es

-- how many entries of a book are so
unfoldable pub times : (Book → Entry → Bool) → Book → ℕ
times is book = times_behind is [] book
