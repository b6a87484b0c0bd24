-- A table in good order, whatever its commands were.
use Rattle.std.specs.Prelude.{◌≡◌, ℕ, pos}
use Rattle.rr_books.specs.Book.{Book, balance}
use Rattle.rr_books.specs.Totals.{parties, sum_over}
use Rattle.rr_laws.specs.Soundness.Presidencies.{HasGreatestPresidents, IsGoverned}
use Rattle.rr_laws.specs.Soundness.Sound.{IsSound}

-- the book of a table of n that is in good order: what bank, seats and corporations were paid is what they paid, and no one
-- but the bank has less than nothing; each certificate has a place of the table; the pool has at most half of each corporation;
-- and each corporation awaits its par, or is led by its president
pub record IsInGoodOrder (n : ℕ) (book : Book) : Type 0 where
  pub together : sum_over (balance book) (parties n) ≡ pos 0
  pub sound : IsSound n book
  pub governed : IsGoverned n book

-- nobody has more of a corporation than its president
abbrev pub GoodOrderHasGreatestPresidents : Type 0
GoodOrderHasGreatestPresidents = (n : ℕ) (book : Book) → IsInGoodOrder n book → HasGreatestPresidents n book
