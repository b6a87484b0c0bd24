-- A table whose bids are covered is solvent.
use Rattle.std.specs.Prelude.{ℕ, ℤ, pos, ◌≤ℤ◌}
use Rattle.std.proofs.Common.{arith}
use Rattle.std.proofs.lemmas.Int.{ints}
use Rattle.rr_books.specs.declared.parties.Party.TheVariants as P
use Rattle.rr_books.specs.Book.{Book, balance}
use Rattle.rr_auction.proofs.Covers.{IsCoveredBook}
use Rattle.rr_laws.specs.Soundness.Sound.{IsSolvent}

no_less : (m : ℕ) (cash : ℤ) → pos m ≤ℤ cash → pos 0 ≤ℤ cash
no_less m cash h = omega (arith, ints)

pub solvent_by_cover : (n : ℕ) (book : Book) → IsCoveredBook n book → IsSolvent n book
solvent_by_cover n book h = record {
  seated = h.players;
  seats = λ s. no_less _ (balance book (P.Seat s)) (h.covered.seats s);
  corporations = λ c. h.covered.corporations c;
}
