-- What the seats of a table hold of a corporation, and who holds the most.
use Rattle.std.specs.Prelude.{ℕ, ◌+◌, ◌-◌, ◌*◌, ◌%◌, Bool, ◌&&◌, nat_lt, nat_le, List, [], ◌∷◌, Option, map, find, take, slice_index, if◌then◌else◌}
use Rattle.std.specs.List.{range_with_len, list_all}
use Rattle.rr_roster.specs.declared.company.Corp.{Corp}
use Rattle.rr_books.specs.declared.parties.Seat.{Seat}
use Rattle.rr_books.specs.declared.parties.Place.TheVariants as L
use Rattle.rr_books.specs.Same.{same_seat}
use Rattle.rr_books.specs.Shares.{Holders, share}

-- the seats that a table may have
abbrev pub seats : List Seat
seats = record { 0 = 0 } ∷ record { 0 = 1 } ∷ record { 0 = 2 } ∷ record { 0 = 3 } ∷ record { 0 = 4 } ∷ record { 0 = 5 } ∷ []

-- how much of a corporation each seat holds, in percent, by seat
abbrev pub Percents : Type 0
Percents = List ℕ

abbrev pub percent_in : Percents → Seat → ℕ
percent_in row s = slice_index row s.0

-- what the seats hold of a corporation
unfoldable pub percents : Holders → Corp → Percents
percents holder c = map (λ s. share holder (L.Seat s) c) seats

-- what a seat holds of a corporation once a seller has sold n shares of it
abbrev pub share_after_sale : Holders → Corp → Seat → ℕ → Seat → ℕ
share_after_sale holder c seller n s = if same_seat s seller then share holder (L.Seat s) c - 10 * n else share holder (L.Seat s) c

-- what the seats hold of a corporation once a seller has sold n shares of it
unfoldable pub percents_after_sale : Holders → Corp → Seat → ℕ → Percents
percents_after_sale holder c seller n = map (share_after_sale holder c seller n) seats

-- the other seats of a table of n, the nearest on the left first
abbrev pub seats_left_of : ℕ → Seat → List Seat
seats_left_of n s = map (λ steps. record { 0 = (s.0 + steps) % n }) (range_with_len 1 (n - 1))

-- no seat of a table of n has more
abbrev pub has_most : Percents → ℕ → Seat → Bool
has_most row n s = list_all (λ percent. nat_le percent (percent_in row s)) (take n row)

-- a seat has more than the president, and no other seat has more than it
abbrev pub succeeds : Percents → ℕ → Seat → Seat → Bool
succeeds row n president s = nat_lt (percent_in row president) (percent_in row s) && has_most row n s

-- who takes over from a president: the nearest on its left that has the most, where that is more than it has itself
unfoldable pub heir : Percents → ℕ → Seat → Option Seat
heir row n president = find (succeeds row n president) (seats_left_of n president)
