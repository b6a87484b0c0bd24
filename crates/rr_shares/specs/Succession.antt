-- When the presidency of a corporation changes hands.
use Rattle.std.specs.Prelude.{ℕ, nat_lt, Option, None, Some, if◌then◌else◌}
use Rattle.rr_roster.specs.declared.company.Corp.{Corp}
use Rattle.rr_books.specs.declared.parties.Seat.{Seat}
use Rattle.rr_books.specs.Shares.{Holders, president}
use Rattle.rr_shares.specs.declared.succession.Handover.{Handover}
use Rattle.rr_shares.specs.Holdings.{Percents, heir, percents, percents_after_sale}

-- the seat, where it is one of a table of n
abbrev pub at_table : ℕ → Option Seat → Option Seat
at_table n None = None
at_table n (Some s) = if nat_lt s.0 n then Some s else None

abbrev pub handover_from : Seat → Option Seat → Option Handover
handover_from old None = None
handover_from old (Some new) = Some (record { from = old; to = new })

-- the presidency changes hands where some seat is president and another is its heir
abbrev pub handover_by : Percents → ℕ → Option Seat → Option Handover
handover_by row n None = None
handover_by row n (Some president) = handover_from president (heir row n president)

-- who gives up the presidency and who takes it over, by what the seats of a table of n hold
unfoldable pub handover_due : Holders → ℕ → Corp → Option Handover
handover_due holder n c = handover_by (percents holder c) n (at_table n (president holder c))

-- the same by what they hold once a seller has sold so many shares
unfoldable pub handover_after_sale : Holders → ℕ → Corp → Seat → ℕ → Option Handover
handover_after_sale holder n c seller count = handover_by (percents_after_sale holder c seller count) n (at_table n (president holder c))
