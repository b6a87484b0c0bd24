-- There is a verdict on each command.
use Rattle.std.specs.Prelude.{◌≡◌, ℕ, Bool, true, false, List, Option, None, Some, option_map, refl}
use Rattle.std.proofs.Common.{inl, inr}
use Rattle.std.proofs.lemmas.Bool.{false≢true}
use Rattle.rr_roster.specs.declared.company.Corp.{Corp}
use Rattle.rr_roster.specs.Terms.{tokens_of}
use Rattle.rr_kit.specs.declared.board.hex.Hex.{Hex}
use Rattle.rr_kit.specs.Board.Plan.{Plan, hex_named}
use Rattle.rr_tiles.specs.declared.supply.Supply.{Supply}
use Rattle.rr_tiles.specs.Supply.{supply_at}
use Rattle.rr_books.specs.declared.acts.Act.{Act}
use Rattle.rr_books.specs.declared.acts.Act.TheVariants as A
use Rattle.rr_books.specs.declared.parties.Seat.{Seat}
use Rattle.rr_books.specs.Book.{Book}
use Rattle.rr_code.specs.declared.command.Command.{Command}
use Rattle.rr_code.specs.declared.command.Command.TheVariants.{Open}
use Rattle.rr_kit.specs.declared.kit.Kit.{Kit}
use Rattle.rr_desk.specs.declared.layout.layout.Lay.{Lay}
use Rattle.rr_desk.specs.declared.layout.layout.Station.{Station}
use Rattle.rr_books.specs.declared.refusal.Refusal.{Refusal}
use Rattle.rr_books.specs.declared.refusal.Refusal.TheVariants as L
use Rattle.rr_lay.specs.Costs.{cost_verdict}
use Rattle.rr_lay.specs.Judging as checks
use Rattle.rr_lay.specs.Laying as laying
use Rattle.rr_lay.specs.Placing as placing
use Rattle.rr_lay.specs.Position.{Position, position_of}
use Rattle.rr_network.specs.Walk.{ReachesNode, node_of}
use Rattle.rr_shares.specs.Limits.Holdings.{holdings_of}
use Rattle.rr_market.specs.Operations.Due.{due}
use Rattle.rr_market.specs.declared.operations.turn.Stage.{Stage}
use Rattle.rr_market.specs.declared.operations.turn.Stage.TheVariants as G
use Rattle.rr_running.specs.Running.{net_now}
use Rattle.rr_operate.specs.Rows as rows
use Rattle.rr_rules.specs.Forced.Needs.{IsNeedOf}
use Rattle.rr_rules.specs.Forced.Rules as force
use Rattle.rr_rules.specs.Forced.Sales.{CanRaise, bankrupt_verdict, raise_verdict}
use Rattle.rr_rules.specs.Judging.{force_judgement, judgement, judgement_in, name_verdict, operating_judgement, stage, turn_judgement}
use Rattle.rr_rules.specs.State.{GameState}
use Rattle.rr_game.specs.History.Fault.{of_game}
use Rattle.rr_game.specs.History.Playing.{game_judgement}
use Rattle.rr_game.specs.History.Verdict.{own_judgement, request_judgement, room_verdict, stamp_verdict, turn_verdict}
use Rattle.rr_game.specs.Names.{act_of}
use Rattle.rr_game.specs.Play.{play, players_of}
use Rattle.rr_game.specs.Verdict.{act_judgement, command_judgement, command_judgement_in_play, over_verdict}
use Rattle.rr_turns.specs.declared.request.Request.{Request}
use Rattle.rr_turns.specs.declared.request.Request.TheVariants.{Back, Forget, Play}
use Rattle.rr_turns.specs.Judgement.{IsFirstOrBehind, IsVerdict, Judgement, judgement_behind, judgement_map, settled}
use Rattle.rr_turns.specs.Kept.{Kept}
use Rattle.rr_laws.specs.Verdicts.{EachCommandHasAVerdict, EachRequestHasAVerdict, HasAVerdict}
use Rattle.rr_laws.proofs.SheetVerdicts.{best_judged, words_judged}

-- something has the property: it can't be that nothing has it
abbrev Something : {X : Type 0} → (X → Type 0) → Type 0
Something {X} P = ¬ ((x : X) → ¬ P x)

this_is : {X : Type 0} (P : X → Type 0) (x : X) → P x → Something P
this_is P x h = λ none. none x h

-- judgements

abbrev Judged : {F : Type 0} → Judgement F → Type 0
Judged {F} j = Something (IsVerdict j)

first_or : {F : Type 0} (first : Option F) (Behind : Option F → Type 0) → Something Behind → Something (IsFirstOrBehind first Behind)
first_or None Behind h = h
first_or (Some fault) Behind h = λ none. none (Some fault) refl

settled_has : {F : Type 0} (o : Option F) → Judged (settled o)
settled_has o = first_or o (λ other. other ≡ None) (λ none. none None refl)

behind_has : {F : Type 0} (check : Option F) (j : Judgement F) → Judged j → Judged (judgement_behind check j)
behind_has None j h = h
behind_has (Some fault) j h = λ none. none (Some fault) refl

-- (behind the map of a verdict stands the map of what was found)
map_has : {F G : Type 0} (f : F → G) (first : Option F) (Behind : Option F → Type 0) → Judged (record { first = first; Behind = Behind })
    → Judged (judgement_map f (record { first = first; Behind = Behind }))
map_has f None Behind h = λ none. h (λ found is. none (option_map f found) (found, is, refl))
map_has f (Some fault) Behind h = λ none. none (Some (f fault)) refl

-- tiles and tokens

needs_has : (Needed : Type 0) (lacking : Refusal) (Next : Option Refusal → Type 0) → Something Next → Something (checks.Needs Needed lacking Next)
needs_has Needed lacking Next h = λ none. none (Some lacking) (inl (λ needed. h (λ verdict is. none verdict (inr (needed, is))), refl))

after_has : (early : Option Refusal) (Next : Option Refusal → Type 0) → Something Next → Something (checks.After early Next)
after_has None Next h = h
after_has (Some fault) Next h = λ none. none (Some fault) refl

lay_has_at : (plan : Plan) (tiles : List Supply) (now : Position) (c : Corp) (l : Lay) (hex : Option Hex) (supply : Option Supply) → Something (laying.IsVerdictAt plan tiles now c l hex supply)
lay_has_at plan tiles now c l None supply = λ none. none (Some L.NoSuchName) refl
lay_has_at plan tiles now c l (Some hex) None = λ none. none (Some L.NoSuchName) refl
lay_has_at plan tiles now c l (Some hex) (Some supply) =
    let cost = cost_verdict now.cash c (laying.lay_cost now.lays hex) in
    let Last : Option Refusal → Type 0 = λ verdict. verdict ≡ cost in
    let Reaches : Type 0 = laying.ReachesNewLink (laying.net_now plan tiles now) (laying.net_with plan tiles now l) c in
    let Fits : Type 0 = laying.IsUpgrade plan tiles now.lays hex supply l.turn in
    after_has (laying.supply_verdict plan tiles now hex supply) (checks.Needs Fits L.NotAnUpgrade (checks.Needs Reaches L.NotReached Last))
    (needs_has Fits L.NotAnUpgrade (checks.Needs Reaches L.NotReached Last) (needs_has Reaches L.NotReached Last (this_is Last cost refl)))

station_has_at : (plan : Plan) (tiles : List Supply) (tokens : ℕ) (now : Position) (s : Station) (hex : Option Hex) → Something (placing.IsVerdictAt plan tiles tokens now s hex)
station_has_at plan tiles tokens now s None = λ none. none (Some L.NoSuchName) refl
station_has_at plan tiles tokens now s (Some hex) =
    let cost = cost_verdict now.cash s.corp (Some (placing.token_cost (placing.placed_by now.stations s.corp))) in
    let Last : Option Refusal → Type 0 = λ verdict. verdict ≡ cost in
    let Reaches : Type 0 = ReachesNode (laying.net_now plan tiles now) s.corp (node_of s) in
    after_has (placing.slot_verdict plan tiles tokens (record { lays = now.lays; stations = now.stations }) hex s) (checks.Needs Reaches L.NotReached Last)
    (needs_has Reaches L.NotReached Last (this_is Last cost refl))

-- a corporation's turn

row_has : (kit : Kit) (book : Book) (act : Act) → Something (rows.IsRowVerdict kit book act)
row_has kit book (A.Lay c hex tile turn) =
    lay_has_at kit.board kit.tiles (position_of book) c (rows.lay_of hex tile turn) (hex_named kit.board.hexes hex) (supply_at kit.tiles tile)
row_has kit book (A.Station c hex centre) =
    station_has_at kit.board kit.tiles (tokens_of kit.roster c) (position_of book) (rows.station_of c hex centre) (hex_named kit.board.hexes hex)
row_has kit book (A.Run c sheet) = words_judged (net_now kit.board kit.tiles book c) sheet
row_has kit book (A.RunBest c sheet certificate) = best_judged (net_now kit.board kit.tiles book c) sheet certificate
row_has kit book (A.End c) = λ none. none None (inl (λ owes. none (Some L.MustOwnTrain) (inr (owes, refl)), refl))
row_has kit book _ = λ none. none None refl

turn_has : (kit : Kit) (state : GameState) (act : Act) → Judged (turn_judgement kit state act)
turn_has kit state act = first_or (rows.first_verdict kit state.book state.revenue act) (rows.IsRowVerdict kit state.book act) (row_has kit state.book act)

-- a corporation that must own a train and can't pay it

need_has : (kit : Kit) (book : Book) (buyer : Option Corp) → Something (IsNeedOf kit book buyer)
need_has kit book None = λ none. none None refl
need_has kit book (Some c) = λ none. none None (inl (λ owes. none _ (inr (owes, refl)), refl))

-- a bankruptcy, by what is needed
bankrupt_has : (kit : Kit) (book : Book) (s : Seat) → Something (force.IsBankruptVerdict kit book s)
bankrupt_has kit book s none =
    need_has kit book (due kit.chart book) (λ need is.
    let Raises : Type 0 = CanRaise (holdings_of kit.chart book) need s in
    let lacks : ¬ Raises = λ raises. none (bankrupt_verdict need s true) (need, true, is, (λ yes. raises, λ can. refl), refl) in
    none (bankrupt_verdict need s false) (need, false, is, (λ yes. absurd (false≢true yes), λ can. absurd (lacks can)), refl))

forced_has : (kit : Kit) (book : Book) (act : Act) → Something (force.IsRowVerdict kit book act)
forced_has kit book (A.Force c) = λ none. need_has kit book (Some c) (λ need is. none (force.force_verdict (due kit.chart book) need) (need, is, refl))
forced_has kit book (A.Raise s c n) = λ none. need_has kit book (due kit.chart book) (λ need is. none (raise_verdict (holdings_of kit.chart book) need s c n) (need, is, refl))
forced_has kit book (A.Bankrupt s) = bankrupt_has kit book s
forced_has kit book _ = λ none. none (Some L.WrongStep) refl

force_has : (kit : Kit) (state : GameState) (act : Act) → Judged (force_judgement kit state act)
force_has kit state act = first_or (force.first_verdict kit state.book act) (force.IsRowVerdict kit state.book act) (forced_has kit state.book act)

-- the rules in force

operating_has : (is_forced : Bool) (kit : Kit) (state : GameState) (act : Act) → Judged (operating_judgement is_forced kit state act)
operating_has true kit state act = force_has kit state act
operating_has false kit state act = turn_has kit state act

stage_has : (s : Stage) (kit : Kit) (state : GameState) (act : Act) → Judged (judgement_in s kit state act)
stage_has G.Auction kit state act = settled_has _
stage_has G.Stock kit state act = settled_has _
stage_has G.Operating kit state act = operating_has (force.is_forced act) kit state act

act_has : (kit : Kit) (state : GameState) (act : Act) → Judged (judgement kit state act)
unfolding judgement
act_has kit state act = behind_has (name_verdict kit act) (judgement_in (stage state.book) kit state act) (stage_has (stage state.book) kit state act)

named_has : (kit : Kit) (state : GameState) (named : Option Act) → Judged (act_judgement kit state named)
named_has kit state None = settled_has (Some L.NoSuchName)
named_has kit state (Some act) = act_has kit state act

in_play_has : (kit : Kit) (players : List (List ℕ)) (state : GameState) (command : Command) → Judged (command_judgement_in_play kit players state command)
in_play_has kit players state (Open others) = settled_has (Some L.WrongStep)
in_play_has kit players state command = named_has kit state (act_of players command)

command_has : (kit : Kit) (players : List (List ℕ)) (state : GameState) (command : Command) → Judged (command_judgement kit players state command)
command_has kit players state command = behind_has (over_verdict kit state) (command_judgement_in_play kit players state command) (in_play_has kit players state command)

lawful_or_refused : {F : Type 0} (j : Judgement F) → Judged j → HasAVerdict j
lawful_or_refused {F} j h neither = h each
  where
    each : (verdict : Option F) → ¬ IsVerdict j verdict
    each None = neither.0
    each (Some fault) = neither.1 fault

pub each_has : EachCommandHasAVerdict
each_has kit players state command = lawful_or_refused (command_judgement kit players state command) (command_has kit players state command)

own_has : (kit : Kit) (table : Kept Command) (request : Request Command) → Judged (own_judgement kit table request)
own_has kit table (Play command) =
    let j = game_judgement kit table.commands command in
    behind_has (room_verdict table) (judgement_map of_game j)
    (map_has of_game j.first j.Behind (command_has kit (players_of table.commands) (play kit table.commands) command))
own_has kit table (Back k) = settled_has (turn_verdict kit table k)
own_has kit table (Forget k) = settled_has (turn_verdict kit table k)

pub each_request_has : EachRequestHasAVerdict
each_request_has kit table stamp request =
    lawful_or_refused (request_judgement kit table stamp request)
    (behind_has (stamp_verdict table stamp) (own_judgement kit table request) (own_has kit table request))
