-- What follows on the end of a turn: incomes, rounds, a first token.
use Rattle.std.specs.Prelude.{◌≡◌, ℕ, pos, ◌≤ℤ◌, nat_lt, Bool, true, false, List, [], Option, None, Some, find, refl}
use Rattle.std.proofs.Common.{sym, ◌∙◌, ap, arith, cond}
use Rattle.std.proofs.lemmas.Int.{ints}
use Rattle.rr_roster.specs.declared.company.Private.{Private}
use Rattle.rr_roster.specs.declared.company.Corp.{Corp}
use Rattle.rr_roster.specs.Terms.{Terms, income_of}
use Rattle.rr_roster.specs.Chart.Chart.{Row}
use Rattle.rr_books.specs.declared.parties.Party.TheVariants as P
use Rattle.rr_books.specs.declared.parties.Place.{Place}
use Rattle.rr_books.specs.declared.parties.Place.TheVariants as L
use Rattle.rr_books.specs.declared.certificates.Cert.TheVariants as C
use Rattle.rr_books.specs.declared.entries.Entry.TheVariants as E
use Rattle.rr_books.specs.declared.entries.Marker.TheVariants as M
use Rattle.rr_books.specs.Book.{holder, players}
use Rattle.rr_books.specs.Shares.{privates}
use Rattle.rr_kit.specs.declared.kit.Kit.{Kit}
use Rattle.rr_kit.specs.declared.board.hex.Home.{Home}
use Rattle.rr_desk.specs.Effects.{adds, in_turn}
use Rattle.rr_desk.specs.Incomes.{dollars, owner, pay_incomes, pay_incomes_of, pays_if, pays_income}
use Rattle.rr_desk.specs.Layout.Layout.{stations}
use Rattle.rr_market.specs.Operations.Progress.{bank_owed, has_more_rounds, progress}
use Rattle.rr_market.specs.Operations.Due.{due}
use Rattle.rr_operate.specs.Sets.Following.{goes_on_in_operating_round}
use Rattle.rr_operate.specs.Sets.Rounds.{begins_round, ends_round, ends_set, passes_round, passes_rounds, round_is_over}
use Rattle.rr_operate.specs.Sets.Tokens.{has_token, is_home_of, places_at, places_first_token, places_first_token_if, places_first_token_of}
use Rattle.rr_laws.proofs.TurnsLemmas.Turning.{Stays, stays_each, stays_either, stays_none, stays_three, stays_two}
use Rattle.rr_laws.proofs.TurnsLemmas.Quiet.{stays_paid, stays_station, stays_step}

some_dollars : (m : ℕ) → pos 0 ≤ℤ pos m
some_dollars m = omega (arith, ints)

-- incomes
owner_stays : (n k : ℕ) (place : Option Place) (amount : ℕ) → k ≡ n → Stays n (pays_if (owner k place) amount)
owner_stays n k (Some (L.Seat s)) amount same = by_test (nat_lt s.0 k) refl
  where
    by_test : (b : Bool) → nat_lt s.0 k ≡ b → Stays n (pays_if (cond b (Some (P.Seat s)) None) amount)
    by_test true e = stays_paid n (P.Seat s) (dollars amount) (some_dollars amount) (ap (λ (m : ℕ). nat_lt s.0 m) (sym same) ∙ e)
    by_test false e = stays_none n
owner_stays n k (Some (L.Corp c)) amount same = stays_paid n (P.Corp c) (dollars amount) (some_dollars amount) refl
owner_stays n k _ amount same = stays_none n

income_stays : (n : ℕ) (roster : Terms) (p : Private) → Stays n (pays_income roster p)
unfolding pays_income
income_stays n roster p o book h = owner_stays n (players book) (holder book (C.Private p)) (income_of roster p) h.seated o book h

pub incomes_stay : (n : ℕ) (roster : Terms) (ps : List Private) → Stays n (pay_incomes_of roster ps)
unfolding pay_incomes_of
incomes_stay n roster ps = stays_each n (pays_income roster) ps (λ p. income_stays n roster p)

-- rounds
round_begins : (n : ℕ) (roster : Terms) → Stays n (begins_round roster)
unfolding begins_round
round_begins n roster = stays_two n (adds (E.Step M.Operating)) (pay_incomes roster) (stays_step n M.Operating) (incomes_stay n roster privates)

set_ends : (n : ℕ) (roster : Terms) → Stays n (ends_set roster)
unfolding ends_set
set_ends n roster o book h = stays_either n (bank_owed roster (progress book)) (in_turn []) (adds (E.Step M.Stock)) (stays_none n) (stays_step n M.Stock) o book h

round_ends : (n : ℕ) (roster : Terms) → Stays n (ends_round roster)
round_ends n roster o book h = stays_either n (has_more_rounds (progress book)) (begins_round roster) (ends_set roster) (round_begins n roster) (set_ends n roster) o book h

round_passes : (n : ℕ) (roster : Terms) (rows : List Row) → Stays n (passes_round roster rows)
unfolding passes_round
round_passes n roster rows o book h = stays_either n (round_is_over rows book) (ends_round roster) (in_turn []) (round_ends n roster) (stays_none n) o book h

rounds_pass : (n : ℕ) (roster : Terms) (rows : List Row) → Stays n (passes_rounds roster rows)
unfolding passes_rounds
rounds_pass n roster rows =
    let passes = passes_round roster rows in
    let stays = round_passes n roster rows in
    stays_three n passes passes passes stays stays stays

-- a first token
home_stays : (n : ℕ) (c : Corp) (home : Option Home) → Stays n (places_at c home)
home_stays n c None = stays_none n
home_stays n c (Some home) = stays_station n c home.hex home.centre

token_stays : (n : ℕ) (homes : List Home) (c : Corp) → Stays n (places_first_token_of homes c)
unfolding places_first_token_of
token_stays n homes c o book h =
    stays_either n (has_token (stations book) c) (in_turn []) (places_at c (find (is_home_of c) homes)) (stays_none n) (home_stays n c (find (is_home_of c) homes)) o book h

token_stays_if : (n : ℕ) (homes : List Home) (c : Option Corp) → Stays n (places_first_token_if homes c)
token_stays_if n homes None = stays_none n
token_stays_if n homes (Some c) = token_stays n homes c

first_token_stays : (n : ℕ) (rows : List Row) (homes : List Home) → Stays n (places_first_token rows homes)
unfolding places_first_token
first_token_stays n rows homes o book h = token_stays_if n homes (due rows book) o book h

pub round_goes_on : (n : ℕ) (kit : Kit) → Stays n (goes_on_in_operating_round kit)
unfolding goes_on_in_operating_round
round_goes_on n kit = stays_two n (passes_rounds kit.roster kit.chart) (places_first_token kit.chart kit.board.homes) (rounds_pass n kit.roster kit.chart) (first_token_stays n kit.chart kit.board.homes)
