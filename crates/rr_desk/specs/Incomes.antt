-- What the privates pay their owners.
use Rattle.std.specs.Prelude.{ℕ, pos, nat_lt, List, [], Option, None, Some, map, if◌then◌else◌}
use Rattle.rr_roster.specs.declared.company.Private.{Private}
use Rattle.rr_roster.specs.Terms.{Terms, income_of}
use Rattle.rr_books.specs.declared.parties.Money.{Money}
use Rattle.rr_books.specs.declared.parties.Party.{Party}
use Rattle.rr_books.specs.declared.parties.Party.TheVariants as P
use Rattle.rr_books.specs.declared.parties.Place.{Place}
use Rattle.rr_books.specs.declared.parties.Place.TheVariants as L
use Rattle.rr_books.specs.declared.certificates.Cert.TheVariants as C
use Rattle.rr_books.specs.declared.entries.Entry.TheVariants as E
use Rattle.rr_books.specs.Book.{holder, players}
use Rattle.rr_books.specs.Shares.{privates}
use Rattle.rr_desk.specs.Effects.{Effect, adds, in_turn}

abbrev pub dollars : ℕ → Money
dollars n = record { 0 = pos n }

-- who gets a private's income: the seat or corporation that has it
abbrev pub owner : ℕ → Option Place → Option Party
owner n (Some (L.Seat s)) = if nat_lt s.0 n then Some (P.Seat s) else None
owner n (Some (L.Corp c)) = Some (P.Corp c)
owner n _ = None

abbrev pub pays_if : Option Party → ℕ → Effect
pays_if None amount = in_turn []
pays_if (Some party) amount = adds (E.Pay P.Bank party (dollars amount))

-- a private pays its owner
unfoldable pub pays_income : Terms → Private → Effect
pays_income roster p book = pays_if (owner (players book) (holder book (C.Private p))) (income_of roster p) book

-- these privates pay their owners, one after another
unfoldable pub pay_incomes_of : Terms → List Private → Effect
pay_incomes_of roster ps = in_turn (map (pays_income roster) ps)

-- the privates pay their owners, in the order of every roster
abbrev pub pay_incomes : Terms → Effect
pay_incomes roster = pay_incomes_of roster privates
