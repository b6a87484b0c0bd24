-- The verdict on a president's sale of shares for a train, and on its bankruptcy.
use Rattle.std.specs.Prelude.{◌≡◌, ℕ, ◌≤◌, ◌==◌, Bool, false, not, ◌&&◌, Option, None, Some, is_some, if◌then◌else◌}
use Rattle.std.specs.List.{list_any}
use Rattle.std.specs.Option.{option_or}
use Rattle.rr_roster.specs.declared.company.Corp.{Corp}
use Rattle.rr_roster.specs.Company.{corps}
use Rattle.rr_books.specs.declared.parties.Seat.{Seat}
use Rattle.rr_books.specs.Same.{same_corp, same_seat}
use Rattle.rr_books.specs.Shares.{Holders}
use Rattle.rr_shares.specs.Limits.Holdings.{Holdings}
use Rattle.rr_shares.specs.Limits.Sales.{sale_verdict}
use Rattle.rr_shares.specs.Succession.{handover_after_sale}
use Rattle.rr_books.specs.declared.refusal.Refusal.{Refusal}
use Rattle.rr_books.specs.declared.refusal.Refusal.TheVariants as F
use Rattle.rr_rules.specs.declared.forced.needs.Need.{Need}

-- the seat is this one
abbrev pub is_seat : Option Seat → Seat → Bool
is_seat None s = false
is_seat (Some other) s = same_seat other s

-- a sale of the corporation due by which another seat becomes its president
abbrev pub changes_president : Holders → ℕ → Corp → Seat → Corp → ℕ → Bool
changes_president holders players due s c n = same_corp c due && is_some (handover_after_sale holders players c s n)

abbrev pub president_verdict : Holders → ℕ → Corp → Seat → Corp → ℕ → Option Refusal
president_verdict holders players due s c n = if changes_president holders players due s c n then Some F.PresidencyWouldChange else None

-- why so many 10% shares can't be sold for a train, if they can't, whatever money there is
unfoldable pub share_verdict : Holdings → Corp → Seat → Corp → ℕ → Option Refusal
share_verdict h due s c n = option_or (sale_verdict h s c n) (president_verdict h.holders h.players due s c n)

-- why a sale is refused, where the corporation due needs this: the seat isn't its president, or the money suffices; then
-- what the shares say
abbrev pub raise_verdict : Holdings → Option Need → Seat → Corp → ℕ → Option Refusal
raise_verdict h None s c n = Some F.NotYourTurn
raise_verdict h (Some need) s c n =
    if not (is_seat need.president s) then Some F.NotYourTurn
    else if need.shortfall == 0 then Some F.SaleNotNeeded
    else share_verdict h need.corp s c n

-- some sale of the seat's is lawful, of whatever corporation and however many shares
pub record CanRaise (h : Holdings) (need : Option Need) (s : Seat) : Type 0 where
  pub corp : Corp
  pub shares : ℕ
  pub some : 1 ≤ shares
  pub lawful : raise_verdict h need s corp shares ≡ None

-- why a seat isn't bankrupt, if it isn't: it isn't the president, the money suffices, or some sale is lawful
abbrev pub bankrupt_verdict : Option Need → Seat → Bool → Option Refusal
bankrupt_verdict None s can_raise = Some F.NotYourTurn
bankrupt_verdict (Some need) s can_raise =
    if not (is_seat need.president s) then Some F.NotYourTurn
    else if need.shortfall == 0 then Some F.NotBankrupt
    else if can_raise then Some F.NotBankrupt
    else None

-- one share of the corporation can be sold
abbrev pub raises_one : Holdings → Option Need → Seat → Corp → Bool
raises_one h need s c = not (is_some (raise_verdict h need s c 1))

-- one share of some corporation can be sold, which is so wherever any sale is lawful
unfoldable pub can_raise : Holdings → Option Need → Seat → Bool
can_raise h need s = list_any (raises_one h need s) corps
