-- How much a seat may hold.
use Rattle.std.specs.Prelude.{ℕ, ◌+◌, Bool, true, false, not, nat_lt, Option, Some, sum_by, count_by, if◌then◌else◌, ◌&&◌, ◌||◌}
use Rattle.std.specs.List.{list_any}
use Rattle.rr_roster.specs.declared.company.Corp.{Corp}
use Rattle.rr_roster.specs.Company.{corps}
use Rattle.rr_roster.specs.declared.chart.cell.Zone.{Zone}
use Rattle.rr_roster.specs.declared.chart.cell.Zone.TheVariants as Z
use Rattle.rr_books.specs.declared.parties.Seat.{Seat}
use Rattle.rr_books.specs.declared.parties.Place.TheVariants as L
use Rattle.rr_books.specs.declared.certificates.Cert.TheVariants as C
use Rattle.rr_books.specs.Opening.{certificate_limit}
use Rattle.rr_books.specs.Shares.{Holders, counted, is_at, privates}
use Rattle.rr_shares.specs.Limits.Holdings.{Holdings, percent_of}

-- shares in a coloured zone don't count against the certificate limit
abbrev pub is_coloured : Option Zone → Bool
is_coloured (Some Z.Yellow) = true
is_coloured (Some Z.Orange) = true
is_coloured (Some Z.Brown) = true
is_coloured _ = false

-- in orange and brown a seat may hold any percentage
abbrev pub is_unlimited : Option Zone → Bool
is_unlimited (Some Z.Orange) = true
is_unlimited (Some Z.Brown) = true
is_unlimited _ = false

-- how many open privates a seat holds: a closed one is out of the game, and nobody's
abbrev pub privates_held : Holders → Seat → ℕ
privates_held holders s = count_by (λ p. is_at (holders (C.Private p)) (L.Seat s)) privates

-- how many certificates of a corporation that a seat holds count against the limit; the president's counts as one
abbrev pub counted_of : Holdings → Seat → Corp → ℕ
counted_of h s c = if is_coloured (h.zones c) then 0 else counted h.holders (L.Seat s) c

-- how many of a seat's certificates count against the limit
unfoldable pub certificates_counted : Holdings → Seat → ℕ
certificates_counted h s = privates_held h.holders s + sum_by (counted_of h s) corps

-- what one certificate more of a corporation adds to them
abbrev pub certificate_added : Holdings → Corp → ℕ
certificate_added h c = if is_coloured (h.zones c) then 0 else 1

abbrev pub is_over_certificates : Holdings → Seat → Bool
is_over_certificates h s = nat_lt (certificate_limit h.players) (certificates_counted h s)

-- the seat would be over the certificate limit with one certificate more of the corporation
abbrev pub would_be_over_certificates : Holdings → Seat → Corp → Bool
would_be_over_certificates h s c = nat_lt (certificate_limit h.players) (certificates_counted h s + certificate_added h c)

-- the seat would hold too much of a corporation with so many percent more
abbrev pub would_be_over_sixty : Holdings → Seat → Corp → ℕ → Bool
would_be_over_sixty h s c added = not (is_unlimited (h.zones c)) && nat_lt 60 (percent_of h s c + added)

-- the seat holds more than 60% of a corporation outside orange and brown
abbrev pub is_over_sixty : Holdings → Seat → Corp → Bool
is_over_sixty h s c = not (is_unlimited (h.zones c)) && nat_lt 60 (percent_of h s c)

-- the seat holds more than 60% of some corporation outside orange and brown
unfoldable pub is_over_sixty_of_any : Holdings → Seat → Bool
is_over_sixty_of_any h s = list_any (is_over_sixty h s) corps

-- the seat holds too many certificates, or too much of some corporation
abbrev pub is_over_limit : Holdings → Seat → Bool
is_over_limit h s = is_over_certificates h s || is_over_sixty_of_any h s
