-- What follows by itself on a command leaves an auction that is over as it is, is of no corporation's turn, and moves no train.
use Rattle.std.specs.Prelude.{◌≡◌, Bool, true, false, List, [], ◌∷◌, Option, None, Some, find, refl, if◌then◌else◌}
use Rattle.std.specs.List.{list_all}
use Rattle.rr_roster.specs.declared.company.Corp.{Corp}
use Rattle.rr_roster.specs.Terms.{Terms}
use Rattle.rr_roster.specs.Chart.Chart.{Row}
use Rattle.rr_books.specs.declared.acts.Act.{Act}
use Rattle.rr_books.specs.declared.entries.Entry.TheVariants as E
use Rattle.rr_books.specs.declared.entries.Marker.TheVariants as M
use Rattle.rr_books.specs.Book.{Book}
use Rattle.rr_books.specs.Shares.{privates}
use Rattle.rr_kit.specs.declared.board.hex.Home.{Home}
use Rattle.rr_kit.specs.declared.kit.Kit.{Kit}
use Rattle.rr_desk.specs.Effects.{Effect, adds, in_turn}
use Rattle.rr_desk.specs.Incomes.{pay_incomes}
use Rattle.rr_desk.specs.Layout.Layout.{stations}
use Rattle.rr_market.specs.Operations.Progress.{bank_owed, has_more_rounds, progress}
use Rattle.rr_market.specs.Operations.Due.{due}
use Rattle.rr_rounds.specs.Round as rounds
use Rattle.rr_rules.specs.Playing.{stock_entries}
use Rattle.rr_operate.specs.Sets.Following.{begins_set, goes_on_in_operating_round, goes_on_in_stock_round}
use Rattle.rr_operate.specs.Sets.Rounds.{begins_round, ends_round, ends_set, passes_round, passes_rounds, round_is_over}
use Rattle.rr_operate.specs.Sets.Tokens.{has_token, is_home_of, places_at, places_first_token, places_first_token_if, places_first_token_of}
use Rattle.rr_stock.specs.Effects as stock
use Rattle.rr_laws.proofs.Adding.{then_adds, three_add}
use Rattle.rr_laws.proofs.LeavesAuction.{is_calm, still_calm}
use Rattle.rr_laws.proofs.StockLeaves.{Calms, act_calm, incomes_leave, none_calms, two_calm}

pub one_calms : (f : Effect) → Calms f → Calms (in_turn (f ∷ []))
one_calms f h = then_adds is_calm f [] h none_calms

incomes_calm : (roster : Terms) → Calms (pay_incomes roster)
incomes_calm roster book = still_calm (pay_incomes roster book) (incomes_leave roster privates book)

either_calm : (b : Bool) (f g : Book → Book) → Calms f → Calms g → Calms (λ book. (if b then f else g) book)
either_calm true f g h k = h
either_calm false f g h k = k

-- rounds
round_begins : (roster : Terms) → Calms (begins_round roster)
unfolding begins_round
round_begins roster = two_calm (adds (E.Step M.Operating)) (pay_incomes roster) (λ book. refl) (incomes_calm roster)

set_ends : (roster : Terms) → Calms (ends_set roster)
unfolding ends_set
set_ends roster book = either_calm (bank_owed roster (progress book)) (in_turn []) (adds (E.Step M.Stock)) none_calms (λ b. refl) book

round_ends : (roster : Terms) → Calms (ends_round roster)
round_ends roster book = either_calm (has_more_rounds (progress book)) (begins_round roster) (ends_set roster) (round_begins roster) (set_ends roster) book

round_passes : (roster : Terms) (rows : List Row) → Calms (passes_round roster rows)
unfolding passes_round
round_passes roster rows book = either_calm (round_is_over rows book) (ends_round roster) (in_turn []) (round_ends roster) none_calms book

rounds_pass : (roster : Terms) (rows : List Row) → Calms (passes_rounds roster rows)
unfolding passes_rounds
rounds_pass roster rows =
    let passes = passes_round roster rows in
    let calms = round_passes roster rows in
    three_add is_calm passes passes passes calms calms calms

-- a first token
home_calms : (c : Corp) (home : Option Home) → Calms (places_at c home)
home_calms c None = none_calms
home_calms c (Some home) = λ book. refl

token_calms : (homes : List Home) (c : Corp) → Calms (places_first_token_of homes c)
unfolding places_first_token_of
token_calms homes c book =
    either_calm (has_token (stations book) c) (in_turn []) (places_at c (find (is_home_of c) homes)) none_calms (home_calms c (find (is_home_of c) homes)) book

token_calms_if : (homes : List Home) (c : Option Corp) → Calms (places_first_token_if homes c)
token_calms_if homes None = none_calms
token_calms_if homes (Some c) = token_calms homes c

first_token_calms : (rows : List Row) (homes : List Home) → Calms (places_first_token rows homes)
unfolding places_first_token
first_token_calms rows homes book = token_calms_if homes (due rows book) book

pub round_goes_on : (kit : Kit) → Calms (goes_on_in_operating_round kit)
unfolding goes_on_in_operating_round
round_goes_on kit = two_calm (passes_rounds kit.roster kit.chart) (places_first_token kit.chart kit.board.homes) (rounds_pass kit.roster kit.chart) (first_token_calms kit.chart kit.board.homes)

-- behind a stock round
set_begins : (kit : Kit) → Calms (begins_set kit)
unfolding begins_set
set_begins kit = two_calm (pay_incomes kit.roster) (goes_on_in_operating_round kit) (incomes_calm kit.roster) (round_goes_on kit)

stock_goes_on : (kit : Kit) → Calms (goes_on_in_stock_round kit)
unfolding goes_on_in_stock_round
stock_goes_on kit book = either_calm (rounds.progress book).under_way (in_turn []) (begins_set kit) none_calms (set_begins kit) book

pub stock_calms : (kit : Kit) (book : Book) (act : Act) → list_all is_calm (stock_entries kit book act) ≡ true
stock_calms kit book act =
    two_calm (λ so_far. stock.entries_of kit.chart so_far act) (goes_on_in_stock_round kit) (act_calm kit.chart act) (stock_goes_on kit) book
