-- What a seat may sell.
use Rattle.std.specs.Prelude.{◌≡◌, ℕ, ◌+◌, ◌-◌, ◌*◌, ◌==◌, Bool, not, nat_lt, nat_le, Option, None, Some, is_some, if◌then◌else◌, ◌&&◌}
use Rattle.std.specs.List.{list_any, range_with_len}
use Rattle.rr_roster.specs.declared.company.Corp.{Corp}
use Rattle.rr_roster.specs.Company.{corps}
use Rattle.rr_books.specs.declared.parties.Seat.{Seat}
use Rattle.rr_books.specs.declared.parties.Place.TheVariants as L
use Rattle.rr_books.specs.declared.certificates.Cert.TheVariants as C
use Rattle.rr_books.specs.Same.{same_seat}
use Rattle.rr_books.specs.Shares.{Holders, is_at, share}
use Rattle.rr_books.specs.declared.refusal.Refusal.{Refusal}
use Rattle.rr_books.specs.declared.refusal.Refusal.TheVariants as F
use Rattle.rr_shares.specs.Limits.Holdings.{Holdings, percent_of}
use Rattle.rr_shares.specs.Limits.Limits.{is_over_limit}

-- the seat is another one, and holds at least 20% of the corporation
abbrev pub is_successor : Holders → Seat → Corp → Seat → Bool
is_successor holders s c other = not (same_seat other s) && nat_le 20 (share holders (L.Seat other) c)

-- one of so many players other than the seat holds at least 20% of the corporation
unfoldable pub has_successor : ℕ → Holders → Seat → Corp → Bool
has_successor players holders s c = list_any (λ k. is_successor holders s c (record { 0 = k })) (range_with_len 0 players)

-- the seat is the corporation's president, and with so many percent it is left with less than 20% though no other
-- player has as much
abbrev pub leaves_no_president : ℕ → Holders → Seat → Corp → ℕ → Bool
leaves_no_president players holders s c left =
    is_at (holders (C.President c)) (L.Seat s) && nat_lt left 20 && not (has_successor players holders s c)

-- why a sale of so many 10% shares is refused in any round, if it is
abbrev pub sale_verdict : Holdings → Seat → Corp → ℕ → Option Refusal
sale_verdict h s c n =
    if not (is_some (h.prices c)) then Some F.NotForSale
    else if n == 0 then Some F.NotForSale
    else if nat_lt (percent_of h s c) (10 * n) then Some F.NotForSale
    else if leaves_no_president h.players h.holders s c (percent_of h s c - 10 * n) then Some F.NotForSale
    else if nat_lt 50 (share h.holders L.Pool c + 10 * n) then Some F.PoolOverHalf
    else None

-- why a seat can't sell so many 10% shares in a stock round, if it can't: nothing is sold in the first one
abbrev pub sell_verdict : Holdings → Bool → Seat → Corp → ℕ → Option Refusal
sell_verdict h is_first s c n = if is_first then Some F.FirstStockRound else sale_verdict h s c n

-- some sale of the seat's is lawful in a stock round, of whatever corporation and however many shares
pub record HasLawfulSale (h : Holdings) (is_first : Bool) (s : Seat) : Type 0 where
  pub corp : Corp
  pub shares : ℕ
  pub lawful : sell_verdict h is_first s corp shares ≡ None

-- one share of the corporation can be sold
abbrev pub sells_one : Holdings → Bool → Seat → Corp → Bool
sells_one h is_first s c = not (is_some (sell_verdict h is_first s c 1))

-- one share of some corporation can be sold, which is so wherever any sale is lawful
unfoldable pub has_lawful_sale : Holdings → Bool → Seat → Bool
has_lawful_sale h is_first s = list_any (sells_one h is_first s) corps

-- the seat holds too much, and can sell some of it
abbrev pub must_sell_first : Holdings → Bool → Seat → Bool
must_sell_first h is_first s = is_over_limit h s && has_lawful_sale h is_first s
