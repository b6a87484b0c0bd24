-- Who takes over a presidency among four, by what they hold.
use Rattle.std.specs.Prelude.{◌≡◌, ℕ, [], ◌∷◌, None, Some}
use Rattle.rr_books.specs.declared.parties.Seat.{Seat}
use Rattle.rr_shares.specs.Holdings.{Percents, heir}

abbrev pub seat : ℕ → Seat
seat n = record { 0 = n }

-- the first and the third have the most
abbrev pub worked_row : Percents
worked_row = 30 ∷ 20 ∷ 30 ∷ 20 ∷ 0 ∷ 0 ∷ []

-- of two with equally many it is the nearer one on the president's left, and a president with as many stays
pub record WorkedHeirs : Type 0 where
  pub left_of_the_second : heir worked_row 4 (seat 1) ≡ Some (seat 2)
  pub left_of_the_last : heir worked_row 4 (seat 3) ≡ Some (seat 0)
  pub equal : heir worked_row 4 (seat 0) ≡ None
