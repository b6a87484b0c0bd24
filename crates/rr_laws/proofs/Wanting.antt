-- No rule refuses a command for want of memory.
use Rattle.std.specs.Prelude.{◌≡◌, ℕ, ℤ, Bool, true, false, not, List, Option, None, Some, nat_le, refl}
use Rattle.std.proofs.Common.{◌∙◌, inl, inr, sym}
use Rattle.rr_roster.specs.declared.company.Corp.{Corp}
use Rattle.rr_roster.specs.Terms.{tokens_of}
use Rattle.rr_kit.specs.declared.board.hex.Hex.{Hex}
use Rattle.rr_kit.specs.declared.board.hex.Home.{Home}
use Rattle.rr_kit.specs.Board.Plan.{Plan, hex_named, slots_at}
use Rattle.rr_tiles.specs.declared.supply.Supply.{Supply}
use Rattle.rr_tiles.specs.Supply.{supply_at}
use Rattle.rr_books.specs.declared.acts.Act.{Act}
use Rattle.rr_books.specs.declared.acts.Act.TheVariants as A
use Rattle.rr_books.specs.declared.parties.Money.{Money}
use Rattle.rr_books.specs.declared.parties.Party.{Party}
use Rattle.rr_books.specs.declared.parties.Seat.{Seat}
use Rattle.rr_books.specs.Book.{Book}
use Rattle.rr_code.specs.declared.command.Command.{Command}
use Rattle.rr_code.specs.declared.command.Command.TheVariants.{Open}
use Rattle.rr_kit.specs.declared.kit.Kit.{Kit}
use Rattle.rr_desk.specs.declared.layout.layout.Lay.{Lay}
use Rattle.rr_desk.specs.declared.layout.layout.Station.{Station}
use Rattle.rr_network.specs.Network.{face_on}
use Rattle.rr_books.specs.declared.refusal.Refusal.{Refusal}
use Rattle.rr_books.specs.declared.refusal.Refusal.TheVariants as V
use Rattle.rr_auction.specs.Rules as auction
use Rattle.rr_stock.specs.Rules as stock
use Rattle.rr_lay.specs.Costs.{cost_verdict}
use Rattle.rr_lay.specs.Judging as checks
use Rattle.rr_lay.specs.Laying as laying
use Rattle.rr_lay.specs.Phase.{is_open}
use Rattle.rr_lay.specs.Placing as placing
use Rattle.rr_lay.specs.Tiles.{hexes_with, is_blocked, is_next_colour, laid_colour}
use Rattle.rr_lay.specs.Position.{Position, position_of}
use Rattle.rr_shares.specs.Limits.Holdings.{Holdings, holdings_of}
use Rattle.rr_shares.specs.Limits.Sales.{sale_verdict}
use Rattle.rr_market.specs.Operations.Due.{due}
use Rattle.rr_market.specs.Operations.Phases.{phase}
use Rattle.rr_market.specs.declared.operations.turn.Stage.{Stage}
use Rattle.rr_market.specs.declared.operations.turn.Stage.TheVariants as G
use Rattle.rr_routes.specs.Net.{Net}
use Rattle.rr_running.specs.Running.{IsBestVerdictOn, IsVerdictOn, is_best, is_broken, is_refused, is_run, is_unread, is_unshown, net_now}
use Rattle.rr_operate.specs.Order as order
use Rattle.rr_operate.specs.Rows as rows
use Rattle.rr_rules.specs.declared.forced.needs.Need.{Need}
use Rattle.rr_rules.specs.Forced.Rules as force
use Rattle.rr_rules.specs.Forced.Sales.{bankrupt_verdict, president_verdict, raise_verdict, share_verdict}
use Rattle.rr_rules.specs.Judging.{force_judgement, game_is_over, judgement, judgement_in, name_verdict, operating_judgement, stage, turn_judgement}
use Rattle.rr_rules.specs.State.{GameState}
use Rattle.rr_game.specs.Names.{act_of}
use Rattle.rr_game.specs.Verdict.{act_judgement, command_judgement_in_play, over_verdict}
use Rattle.rr_turns.specs.Judgement.{IsFirstOrBehind, IsVerdict, Judgement, judgement_behind, settled}
use Rattle.rr_laws.specs.Verdicts.{NoRuleWantsMemory}
use Rattle.rr_laws.proofs.Sparing.{Spares, auction_spares, depot_spares, dividend_spares, if_spares, is_of_rule, none_spares, or_spares, sale_spares, some_spares, stock_spares, unless_spares, want}

-- judgements

abbrev Never : Judgement Refusal → Type 0
Never j = ¬ IsVerdict j (Some want)

first_never : (first : Option Refusal) (Behind : Option Refusal → Type 0) → Spares first → ¬ Behind (Some want) → ¬ IsFirstOrBehind first Behind (Some want)
first_never None Behind h k = k
first_never (Some f) Behind h k = h

settled_never : (o : Option Refusal) → Spares o → Never (settled o)
settled_never o h = first_never o (λ other. other ≡ None) h (λ same. cc)

behind_never : (check : Option Refusal) (j : Judgement Refusal) → Spares check → Never j → Never (judgement_behind check j)
behind_never None j h k = k
behind_never (Some f) j h k = h

-- tiles and tokens

cost_spares : (cash : Party → ℤ) (c : Corp) (cost : Option ℕ) → Spares (cost_verdict cash c cost)
cost_spares cash c None = none_spares
cost_spares cash c (Some cost) = if_spares _ V.TooLittleCash None refl none_spares

supply_spares : (plan : Plan) (tiles : List Supply) (now : Position) (hex : Hex) (supply : Supply) → Spares (laying.supply_verdict plan tiles now hex supply)
supply_spares plan tiles now hex supply =
    if_spares (not (is_open (phase now.trains) supply.colour)) V.ColourNotOpen _ refl
    (if_spares (not (is_next_colour hex.colour (laid_colour tiles now.lays hex.name) supply.colour)) V.ColourNotOpen _ refl
    (if_spares (nat_le supply.count (hexes_with now.lays supply.number plan.hexes)) V.TileGone _ refl
    (if_spares (is_blocked now.holders plan.blocks hex.name supply.colour) V.BlockedHex None refl none_spares)))

first_lay_spares : (plan : Plan) (tiles : List Supply) (now : Position) (hex : Option Hex) (supply : Option Supply) → Spares (laying.first_verdict plan tiles now hex supply)
first_lay_spares plan tiles now None supply = some_spares V.NoSuchName refl
first_lay_spares plan tiles now (Some hex) None = some_spares V.NoSuchName refl
first_lay_spares plan tiles now (Some hex) (Some supply) = supply_spares plan tiles now hex supply

city_spares : (homes : List Home) (all : List Station) (s : Station) (slots : Option ℕ) → Spares (placing.city_verdict homes all s slots)
city_spares homes all s None = some_spares V.NoSlot refl
city_spares homes all s (Some slots) =
    if_spares _ V.NoSlot _ refl (if_spares _ V.NoSlot None refl none_spares)

first_station_spares : (tokens : ℕ) (all : List Station) (c : Corp) (hex : Option Hex) → Spares (placing.first_verdict tokens all c hex)
first_station_spares tokens all c None = some_spares V.NoSuchName refl
first_station_spares tokens all c (Some hex) = if_spares _ V.NoTokenLeft None refl none_spares

slot_spares : (plan : Plan) (tiles : List Supply) (tokens : ℕ) (now : Position) (hex : Hex) (s : Station)
    → Spares (placing.slot_verdict plan tiles tokens (record { lays = now.lays; stations = now.stations }) hex s)
slot_spares plan tiles tokens now hex s =
    if_spares _ V.NoTokenLeft _ refl (city_spares plan.homes now.stations s (slots_at (face_on tiles now.lays hex).parts s.centre))

after_spares : (early : Option Refusal) (Next : Option Refusal → Type 0) → Spares early → ¬ Next (Some want) → ¬ checks.After early Next (Some want)
after_spares None Next h k = k
after_spares (Some f) Next h k = h

needs_spare : (Needed : Type 0) (lacking : Refusal) (Next : Option Refusal → Type 0) → is_of_rule lacking ≡ true → ¬ Next (Some want) → ¬ checks.Needs Needed lacking Next (Some want)
needs_spare Needed lacking Next rule h (inl lacks) = some_spares lacking rule lacks.1
needs_spare Needed lacking Next rule h (inr has) = h has.1

lay_spares : (plan : Plan) (tiles : List Supply) (now : Position) (c : Corp) (l : Lay) (hex : Option Hex) (supply : Option Supply) → ¬ laying.IsVerdictAt plan tiles now c l hex supply (Some want)
lay_spares plan tiles now c l None supply = some_spares V.NoSuchName refl
lay_spares plan tiles now c l (Some hex) None = some_spares V.NoSuchName refl
lay_spares plan tiles now c l (Some hex) (Some supply) =
    let cost = laying.lay_cost now.lays hex in
    let Last : Option Refusal → Type 0 = λ verdict. verdict ≡ cost_verdict now.cash c cost in
    let Reaches : Type 0 = laying.ReachesNewLink (laying.net_now plan tiles now) (laying.net_with plan tiles now l) c in
    after_spares (laying.supply_verdict plan tiles now hex supply) _ (supply_spares plan tiles now hex supply)
    (needs_spare _ V.NotAnUpgrade (checks.Needs Reaches V.NotReached Last) refl (needs_spare Reaches V.NotReached Last refl (cost_spares now.cash c cost)))

station_spares : (plan : Plan) (tiles : List Supply) (tokens : ℕ) (now : Position) (s : Station) (hex : Option Hex) → ¬ placing.IsVerdictAt plan tiles tokens now s hex (Some want)
station_spares plan tiles tokens now s None = some_spares V.NoSuchName refl
station_spares plan tiles tokens now s (Some hex) =
    let cost = Some (placing.token_cost (placing.placed_by now.stations s.corp)) in
    after_spares (placing.slot_verdict plan tiles tokens (record { lays = now.lays; stations = now.stations }) hex s) _ (slot_spares plan tiles tokens now hex s)
    (needs_spare _ V.NotReached (λ verdict. verdict ≡ cost_verdict now.cash s.corp cost) refl (cost_spares now.cash s.corp cost))

-- runs

words_spare : (net : Net) (words : List ℕ) (verdict : Option Refusal) → verdict ≡ Some want → ¬ IsVerdictOn net words verdict
words_spare net words verdict is (is_run sheet revenue spelled legal same) = cc
words_spare net words verdict is (is_broken sheet clause spelled broken same) = cc
words_spare net words verdict is (is_unread unspelled same) = cc

best_spares : (net : Net) (words text : List ℕ) (verdict : Option Refusal) → verdict ≡ Some want → ¬ IsBestVerdictOn net words text verdict
best_spares net words text verdict is (is_best sheet revenue spelled legal shows same) = cc
best_spares net words text verdict is (is_unshown sheet revenue spelled legal shows same) = cc
best_spares net words text verdict is (is_refused fault told same) = words_spare net words (Some fault) (sym same ∙ is) told

-- a corporation's turn

revenue_spares : (revenue : Money) (act : Act) → Spares (order.revenue_verdict revenue act)
revenue_spares revenue (A.PayOut c) = dividend_spares revenue
revenue_spares revenue _ = none_spares

order_spares : (kit : Kit) (book : Book) (revenue : Money) (act : Act) → Spares (order.order_verdict kit book revenue act)
unfolding order.verdict_at order.step_verdict
order_spares kit book revenue act =
    if_spares _ V.MustDiscardFirst _ refl
    (or_spares (order.step_verdict (order.turn_of kit book) revenue act) _ (if_spares _ V.WrongStep _ refl (revenue_spares revenue act))
    (if_spares _ V.NotYourTurn None refl none_spares))

row_first_spares : (kit : Kit) (book : Book) (act : Act) → Spares (rows.row_first kit book act)
row_first_spares kit book (A.Lay c hex tile turn) =
    first_lay_spares kit.board kit.tiles (position_of book) (hex_named kit.board.hexes hex) (supply_at kit.tiles tile)
row_first_spares kit book (A.Station c hex centre) =
    first_station_spares (tokens_of kit.roster c) (position_of book).stations c (hex_named kit.board.hexes hex)
row_first_spares kit book (A.BuyTrain c kind source) = depot_spares kit.roster book (A.BuyTrain c kind source)
row_first_spares kit book (A.BuyTrainFrom c kind seller price s t) = depot_spares kit.roster book (A.BuyTrainFrom c kind seller price s t)
row_first_spares kit book (A.Trade c kind) = depot_spares kit.roster book (A.Trade c kind)
row_first_spares kit book (A.Discard c kind) = depot_spares kit.roster book (A.Discard c kind)
row_first_spares kit book (A.TakePrivate c p price) = depot_spares kit.roster book (A.TakePrivate c p price)
row_first_spares kit book _ = none_spares

row_spares : (kit : Kit) (book : Book) (act : Act) → ¬ rows.IsRowVerdict kit book act (Some want)
row_spares kit book (A.Lay c hex tile turn) =
    lay_spares kit.board kit.tiles (position_of book) c (rows.lay_of hex tile turn) (hex_named kit.board.hexes hex) (supply_at kit.tiles tile)
row_spares kit book (A.Station c hex centre) =
    station_spares kit.board kit.tiles (tokens_of kit.roster c) (position_of book) (rows.station_of c hex centre) (hex_named kit.board.hexes hex)
row_spares kit book (A.Run c sheet) = words_spare (net_now kit.board kit.tiles book c) sheet (Some want) refl
row_spares kit book (A.RunBest c sheet certificate) = best_spares (net_now kit.board kit.tiles book c) sheet certificate (Some want) refl
row_spares kit book (A.End c) = λ is. elim is [ inl owes_not ↦ none_spares owes_not.1 | inr owes ↦ some_spares V.MustOwnTrain refl owes.1 ]
row_spares kit book _ = λ same. cc

turn_never : (kit : Kit) (state : GameState) (act : Act) → Never (turn_judgement kit state act)
turn_never kit state act =
    first_never (rows.first_verdict kit state.book state.revenue act) (rows.IsRowVerdict kit state.book act)
    (or_spares (order.order_verdict kit state.book state.revenue act) (rows.row_first kit state.book act) (order_spares kit state.book state.revenue act)
    (row_first_spares kit state.book act))
    (row_spares kit state.book act)

-- a corporation that must own a train and can't pay it

forced_order_spares : (kit : Kit) (book : Book) (act : Act) → Spares (force.order_verdict kit book act)
unfolding force.order_verdict
forced_order_spares kit book act =
    if_spares _ V.MustDiscardFirst _ refl (if_spares _ V.WrongStep None refl none_spares)

forced_first_spares : (kit : Kit) (book : Book) (act : Act) → Spares (force.row_first kit book act)
forced_first_spares kit book (A.Force c) = unless_spares _ V.WrongStep refl
forced_first_spares kit book (A.Raise s c n) = unless_spares _ V.NotYourTurn refl
forced_first_spares kit book (A.Bankrupt s) = unless_spares _ V.NotYourTurn refl
forced_first_spares kit book _ = some_spares V.WrongStep refl

force_spares : (due : Option Corp) (need : Option Need) → Spares (force.force_verdict due need)
force_spares due None = some_spares V.WrongStep refl
force_spares due (Some need) =
    if_spares _ V.WrongStep _ refl
    (if_spares _ V.NotYourTurn _ refl (if_spares _ V.TooLittleCash None refl none_spares))

share_spares : (h : Holdings) (c : Corp) (s : Seat) (d : Corp) (n : ℕ) → Spares (share_verdict h c s d n)
unfolding share_verdict
share_spares h c s d n =
    or_spares (sale_verdict h s d n) (president_verdict h.holders h.players c s d n)
    (sale_spares h s d n) (if_spares _ V.PresidencyWouldChange None refl none_spares)

raise_spares : (h : Holdings) (need : Option Need) (s : Seat) (c : Corp) (n : ℕ) → Spares (raise_verdict h need s c n)
raise_spares h None s c n = some_spares V.NotYourTurn refl
raise_spares h (Some need) s c n =
    if_spares _ V.NotYourTurn _ refl (if_spares _ V.SaleNotNeeded _ refl (share_spares h need.corp s c n))

bankrupt_spares : (need : Option Need) (s : Seat) (can_raise : Bool) → Spares (bankrupt_verdict need s can_raise)
bankrupt_spares None s can_raise = some_spares V.NotYourTurn refl
bankrupt_spares (Some need) s can_raise =
    if_spares _ V.NotYourTurn _ refl
    (if_spares _ V.NotBankrupt _ refl (if_spares can_raise V.NotBankrupt None refl none_spares))

forced_spares : (kit : Kit) (book : Book) (act : Act) → ¬ force.IsRowVerdict kit book act (Some want)
forced_spares kit book (A.Force c) = λ is. force_spares (due kit.chart book) is.0 is.2
forced_spares kit book (A.Raise s c n) = λ is. raise_spares (holdings_of kit.chart book) is.0 s c n is.2
forced_spares kit book (A.Bankrupt s) = λ is. bankrupt_spares is.0 s is.1 is.4
forced_spares kit book _ = λ same. cc

force_never : (kit : Kit) (state : GameState) (act : Act) → Never (force_judgement kit state act)
force_never kit state act =
    first_never (force.first_verdict kit state.book act) (force.IsRowVerdict kit state.book act)
    (or_spares (force.order_verdict kit state.book act) (force.row_first kit state.book act) (forced_order_spares kit state.book act) (forced_first_spares kit state.book act))
    (forced_spares kit state.book act)

-- the rules in force

operating_never : (is_forced : Bool) (kit : Kit) (state : GameState) (act : Act) → Never (operating_judgement is_forced kit state act)
operating_never true kit state act = force_never kit state act
operating_never false kit state act = turn_never kit state act

stage_never : (s : Stage) (kit : Kit) (state : GameState) (act : Act) → Never (judgement_in s kit state act)
stage_never G.Auction kit state act = settled_never (auction.verdict kit.roster kit.chart state.book act) (auction_spares kit.roster kit.chart state.book act)
stage_never G.Stock kit state act = settled_never (stock.verdict kit.chart state.book act) (stock_spares kit.chart state.book act)
stage_never G.Operating kit state act = operating_never (force.is_forced act) kit state act

name_spares : (kit : Kit) (act : Act) → Spares (name_verdict kit act)
name_spares kit (A.Lay c hex tile turn) = unless_spares _ V.NoSuchName refl
name_spares kit (A.Station c hex centre) = unless_spares _ V.NoSuchName refl
name_spares kit _ = none_spares

act_never : (kit : Kit) (state : GameState) (act : Act) → Never (judgement kit state act)
unfolding judgement
act_never kit state act = behind_never (name_verdict kit act) (judgement_in (stage state.book) kit state act) (name_spares kit act) (stage_never (stage state.book) kit state act)

-- a command

named_never : (kit : Kit) (state : GameState) (named : Option Act) → Never (act_judgement kit state named)
named_never kit state None = settled_never (Some V.NoSuchName) (some_spares V.NoSuchName refl)
named_never kit state (Some act) = act_never kit state act

in_play_never : (kit : Kit) (players : List (List ℕ)) (state : GameState) (command : Command) → Never (command_judgement_in_play kit players state command)
in_play_never kit players state (Open others) = settled_never (Some V.WrongStep) (some_spares V.WrongStep refl)
in_play_never kit players state command = named_never kit state (act_of players command)

pub none_wants : NoRuleWantsMemory
none_wants kit players state command =
    behind_never (over_verdict kit state) (command_judgement_in_play kit players state command)
    (if_spares (game_is_over kit state.book) V.GameOver None refl none_spares) (in_play_never kit players state command)
