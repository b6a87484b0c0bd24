-- One share can be sold for a train wherever several can.
use Rattle.std.specs.Prelude.{◌≡◌, ◌≤◌, Option, None, Some}
use Rattle.std.specs.Bool.{Decides}
use Rattle.rr_books.specs.declared.parties.Seat.{Seat}
use Rattle.rr_books.specs.Shares.{president}
use Rattle.rr_shares.specs.Limits.Holdings.{Holdings}
use Rattle.rr_shares.specs.Succession.{at_table}
use Rattle.rr_rules.specs.declared.forced.needs.Need.{Need}
use Rattle.rr_rules.specs.Forced.Sales.{CanRaise, can_raise}

-- what a corporation needs names the seat of the table that is its president
abbrev pub IsLed : Holdings → Option Need → Type 0
IsLed h None = Unit {0}
IsLed h (Some need) = need.president ≡ at_table h.players (president h.holders need.corp)

-- some sale is lawful exactly where a sale of one share is
abbrev pub OneShareSuffices : Type 0
OneShareSuffices = (h : Holdings) (need : Option Need) (s : Seat) → h.players ≤ 6 → IsLed h need → Decides (can_raise h need s) (CanRaise h need s)
