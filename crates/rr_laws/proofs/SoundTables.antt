-- What stays true of a table's book, whatever commands the table accepts.
use Rattle.std.specs.Prelude.{◌≡◌, ℕ, ◌≤◌, ◌<◌, Bool, true, false, List, [], ◌∷◌, ◌++◌, Option, None, Some, fold, length, refl}
use Rattle.std.specs.List.{list_all}
use Rattle.std.proofs.Common.{sym, ◌∙◌, subst, arith}
use Rattle.std.proofs.lemmas.Bool.{false≢true}
use Rattle.std.proofs.lemmas.Int.{ints}
use Rattle.rr_books.specs.declared.acts.Act.{Act}
use Rattle.rr_books.specs.declared.acts.Act.TheVariants as A
use Rattle.rr_books.specs.declared.entries.Entry.TheVariants as E
use Rattle.rr_books.specs.declared.entries.Marker.TheVariants as M
use Rattle.rr_books.specs.declared.parties.Money.{Money}
use Rattle.rr_books.specs.Book.{Book}
use Rattle.rr_roster.specs.Terms.{Terms}
use Rattle.rr_books.proofs.TotalLemmas.{money_kept, opening_among, sum_of_balances}
use Rattle.rr_auction.specs.Effects.{is_over}
use Rattle.rr_auction.specs.Effects as auction
use Rattle.rr_auction.specs.Opening.{opened}
use Rattle.rr_auction.specs.Rules as bidding
use Rattle.rr_auction.proofs.Covers.{IsCoveredBook}
use Rattle.rr_auction.proofs.Dealing.{dealt_after, dealt_opened}
use Rattle.rr_auction.proofs.LawfulActs as bids
use Rattle.rr_auction.proofs.OpenedTable.{covered_opened}
use Rattle.rr_books.specs.declared.refusal.Refusal.{Refusal}
use Rattle.rr_operate.specs.Rows as rows
use Rattle.rr_market.specs.declared.operations.turn.Stage.{Stage}
use Rattle.rr_market.specs.declared.operations.turn.Stage.TheVariants as G
use Rattle.rr_rounds.specs.Round as rounds
use Rattle.rr_laws.specs.Soundness.GoodOrder.{IsInGoodOrder}
use Rattle.rr_laws.specs.Soundness.Presidencies.{IsGovernedInAuction}
use Rattle.rr_laws.proofs.SoundnessLemmas.AuctionPresidents.{governed_by_act}
use Rattle.rr_laws.proofs.SoundnessLemmas.Auctioned.{half_after_act}
use Rattle.rr_laws.proofs.SoundnessLemmas.GoodOrder.{sum_kept}
use Rattle.rr_laws.proofs.SoundnessLemmas.PoolOpened.{half_at_first}
use Rattle.rr_laws.proofs.SoundnessLemmas.PresidentsGoverned.{governed_at_first, greatest_where_governed}
use Rattle.rr_laws.proofs.SoundnessLemmas.Covered.{solvent_by_cover}
use Rattle.rr_laws.specs.Turns.Turns.{IsEarned}
use Rattle.rr_laws.proofs.TurnsLemmas.Commands.{earned_behind, order_by_act}
use Rattle.rr_stock.specs.Rules as trading
use Rattle.rr_stock.specs.Situation as stock
use Rattle.rr_code.specs.declared.command.Command.{Command}
use Rattle.rr_code.specs.declared.command.Command.TheVariants.{Open}
use Rattle.rr_kit.specs.declared.kit.Kit.{Kit}
use Rattle.rr_trains.specs.Depot.Situation.{situation_of}
use Rattle.rr_rules.specs.Forced.Effects.{forces_if, raises}
use Rattle.rr_rules.specs.Forced.Needs.{cheapest_need}
use Rattle.rr_rules.specs.Forced.Rules as force
use Rattle.rr_rules.specs.Judging.{judgement, judgement_in, name_verdict, operating_judgement, stage, stage_once}
use Rattle.rr_rules.specs.Playing.{operating_entries, state_after, state_in, stock_entries}
use Rattle.rr_rules.specs.State.{GameState}
use Rattle.rr_rules.proofs.Judging.{at_stage}
use Rattle.rr_game.specs.Names.{act_of}
use Rattle.rr_game.specs.Play.{opened_state, play, played_on, players_of, state_with}
use Rattle.rr_game.specs.Verdict.{act_judgement, command_judgement, command_judgement_in_play, over_verdict}
use Rattle.rr_turns.specs.Judgement.{IsFirstOrBehind, IsVerdict, Judgement}
use Rattle.rr_turns.proofs.JudgementLemmas.{is-settled, lawful-behind}
use Rattle.rr_laws.specs.Sound.{AreAccepted, ArePlayed, IsSoundTable, NamesCorporations}
use Rattle.rr_laws.proofs.ForcedLeaves.{need_goes}
use Rattle.rr_laws.proofs.ForcedOrder.{order_by_bankruptcy, order_by_force}
use Rattle.rr_laws.proofs.RaiseOrder.{order_by_raise}
use Rattle.rr_laws.proofs.LeavesAuction.{calm_leave, leaves_auction, plain_leave}
use Rattle.rr_laws.proofs.Leaving.{auction_left}
use Rattle.rr_laws.proofs.RoundLeaves.{stock_calms}
use Rattle.rr_laws.proofs.StockOrder.{StockLaws, order_by_stock}
use Rattle.rr_laws.proofs.TurnLeaves.{turn_leaves}

abbrev auction_is_over : Book → Bool
auction_is_over book = is_over (bidding.due book)

-- until the auction is over each seat has the money for its bids, and whatever step it is, the table is in good order
record Stands (n : ℕ) (state : GameState) : Type 0 where
  order : IsInGoodOrder n state.book
  earned : IsEarned state.revenue
  covered : auction_is_over state.book ≡ false → IsCoveredBook n state.book
  bidding : auction_is_over state.book ≡ false → IsGovernedInAuction n state.book

-- an act of the auction
by_bid : (n : ℕ) (kit : Kit) (state : GameState) (act : Act) → auction_is_over state.book ≡ false → bidding.verdict kit.roster kit.chart state.book act ≡ None
    → Stands n state → Stands n (state_in G.Auction kit state act)
by_bid n kit state act going lawful h =
    let book = state.book in
    let order = h.order in
    let sound = order.sound in
    let es = auction.entries_of kit.roster kit.chart book act in
    let on = bids.goes_by_lawful n kit.roster kit.chart book act (h.covered going) lawful in
    let ruled = governed_by_act n kit.roster kit.chart book act lawful (h.covered going) (h.bidding going) in
    record {
      order = record {
        together = sum_kept n book es on.among ∙ order.together;
        sound = record {
          solvent = solvent_by_cover n (book ++ es) on.later;
          dealt = dealt_after n book es on sound.dealt;
          pool = half_after_act kit.roster kit.chart book act sound.pool;
        };
        governed = ruled.governed;
      };
      earned = h.earned;
      covered = λ still. on.later;
      bidding = λ still. ruled;
    }

-- an auction that is over stays so
stands_over : (n : ℕ) (book es : Book) (revenue : Money) → auction_is_over book ≡ true → list_all leaves_auction es ≡ true → IsInGoodOrder n (book ++ es) → IsEarned revenue
    → Stands n (record { book = book ++ es; revenue = revenue })
stands_over n book es revenue over leaves order earned =
    let left = auction_left book es over leaves in
    record {
      order = order;
      earned = earned;
      covered = λ going. absurd (false≢true (sym going ∙ left.over));
      bidding = λ going. absurd (false≢true (sym going ∙ left.over));
    }

-- a command of a stock round
by_trade : StockLaws → (n : ℕ) → 0 < n → n ≤ 6 → (kit : Kit) (state : GameState) (act : Act) → auction_is_over state.book ≡ true → trading.verdict kit.chart state.book act ≡ None
    → Stands n state → Stands n (state_in G.Stock kit state act)
by_trade laws n some few kit state act over lawful h =
    stands_over n state.book _ state.revenue over (calm_leave (stock_entries kit state.book act) (stock_calms kit state.book act)) (order_by_stock laws n some few kit state.book act lawful h.order) h.earned

-- a command of a corporation's turn
by_turn : (n : ℕ) (kit : Kit) (state : GameState) (act : Act) → auction_is_over state.book ≡ true → force.is_forced act ≡ false → rows.IsVerdict kit state.book state.revenue act None
    → Stands n state → Stands n (state_in G.Operating kit state act)
by_turn n kit state act over plain lawful h =
    let after = state_in G.Operating kit state act in
    let own : GameState = record { book = state.book ++ operating_entries false kit state act; revenue = after.revenue } in
    let stands : Stands n own =
    stands_over n state.book _ _ over (turn_leaves kit state.revenue state.book act) (order_by_act n kit state.revenue state.book act h.earned lawful h.order) (earned_behind kit state.revenue state.book act h.earned) in
    let StandsWith : Bool → Type 0 = λ b. Stands n (record { book = state.book ++ operating_entries b kit state act; revenue = after.revenue }) in
    subst StandsWith (sym plain) stands

-- a forced purchase, a sale for it, or a bankruptcy
by_need : StockLaws → (n : ℕ) → 0 < n → n ≤ 6 → (kit : Kit) (state : GameState) (act : Act) → auction_is_over state.book ≡ true → force.is_forced act ≡ true → force.IsRowVerdict kit state.book act None
    → Stands n state → Stands n (state_in G.Operating kit state act)
by_need laws n some few kit state (A.Force c) over is lawful h =
    stands_over n state.book _ state.revenue over (plain_leave (forces_if (cheapest_need kit.roster (situation_of state.book) c) state.book) (need_goes kit.roster kit.chart state.book (A.Force c)).plain) (order_by_force n kit state.book c lawful h.order) h.earned
by_need laws n some few kit state (A.Raise s c m) over is lawful h =
    stands_over n state.book _ state.revenue over (plain_leave (raises kit.chart (stock.situation_of kit.chart state.book) s c m state.book) (need_goes kit.roster kit.chart state.book (A.Raise s c m)).plain)
    (order_by_raise laws.shares n some few kit state.book s c m lawful h.order) h.earned
by_need laws n some few kit state (A.Bankrupt s) over is lawful h =
    stands_over n state.book _ state.revenue over refl (order_by_bankruptcy n state.book s h.order) h.earned
by_need laws n some few kit state _ over is lawful h = absurd (false≢true is)

-- an act, by the rules in force

turn_from : (first : Option Refusal) (Next : Option Refusal → Type 0) → IsFirstOrBehind first Next None → rows.After first Next None
turn_from None Next h = h
turn_from (Some fault) Next h = absurd cc

pub turn_lawful : (kit : Kit) (state : GameState) (act : Act) → IsVerdict (operating_judgement false kit state act) None → rows.IsVerdict kit state.book state.revenue act None
turn_lawful kit state act lawful =
    let first = rows.first_verdict kit state.book state.revenue act in
    turn_from first (rows.IsRowVerdict kit state.book act) lawful

pub row_from : (first : Option Refusal) (Next : Option Refusal → Type 0) → IsFirstOrBehind first Next None → Next None
row_from None Next h = h
row_from (Some fault) Next h = absurd cc

need_lawful : (kit : Kit) (state : GameState) (act : Act) → IsVerdict (operating_judgement true kit state act) None → force.IsRowVerdict kit state.book act None
need_lawful kit state act lawful =
    row_from (force.first_verdict kit state.book act) (force.IsRowVerdict kit state.book act) lawful

-- an act in an operating round
by_operation : StockLaws → (n : ℕ) → 0 < n → n ≤ 6 → (kit : Kit) (state : GameState) (act : Act) (needs : Bool) → force.is_forced act ≡ needs → auction_is_over state.book ≡ true
    → IsVerdict (operating_judgement needs kit state act) None → Stands n state → Stands n (state_in G.Operating kit state act)
by_operation laws n some few kit state act true is over lawful h = by_need laws n some few kit state act over is (need_lawful kit state act lawful) h
by_operation laws n some few kit state act false is over lawful h = by_turn n kit state act over is (turn_lawful kit state act lawful) h

by_stage : StockLaws → (n : ℕ) → 0 < n → n ≤ 6 → (kit : Kit) (state : GameState) (act : Act) (over under_way : Bool) → auction_is_over state.book ≡ over
    → IsVerdict (judgement_in (stage_once over under_way) kit state act) None → Stands n state → Stands n (state_in (stage_once over under_way) kit state act)
by_stage laws n some few kit state act false under_way e lawful h =
    by_bid n kit state act e (sym (is-settled (bidding.verdict kit.roster kit.chart state.book act) None lawful)) h
by_stage laws n some few kit state act true true e lawful h =
    by_trade laws n some few kit state act e (sym (is-settled (trading.verdict kit.chart state.book act) None lawful)) h
by_stage laws n some few kit state act true false e lawful h =
    by_operation laws n some few kit state act (force.is_forced act) refl e lawful h

staged : (book : Book) → stage book ≡ stage_once (auction_is_over book) (rounds.progress book).under_way
unfolding stage
staged book = refl

by_act : StockLaws → (n : ℕ) → 0 < n → n ≤ 6 → (kit : Kit) (state : GameState) (act : Act) → IsVerdict (judgement kit state act) None
    → Stands n state → Stands n (state_after kit state act)
by_act laws n some few kit state act lawful h =
    let over = auction_is_over state.book in
    let under_way = (rounds.progress state.book).under_way in
    let s = stage_once over under_way in
    let judged = judgement_in s kit state act in
    let IsLawful : Judgement Refusal → Type 0 = λ j. IsVerdict j None in
    let StandsAt : Stage → Type 0 = λ g. Stands n (state_in g kit state act) in
    let behind = lawful-behind (name_verdict kit act) judged (subst IsLawful (at_stage s kit state act (staged state.book)) lawful) in
    subst StandsAt (sym (staged state.book))
    (by_stage laws n some few kit state act over under_way refl behind h)

-- an act, if names stand for one
by_named : StockLaws → (n : ℕ) → 0 < n → n ≤ 6 → (kit : Kit) (state : GameState) (named : Option Act) → IsVerdict (act_judgement kit state named) None
    → Stands n state → Stands n (state_with kit state named)
by_named laws n some few kit state None lawful h = h
by_named laws n some few kit state (Some act) lawful h = by_act laws n some few kit state act lawful h

pub in_play : (kit : Kit) (players : List (List ℕ)) (state : GameState) (command : Command) → IsVerdict (command_judgement_in_play kit players state command) None
    → IsVerdict (act_judgement kit state (act_of players command)) None
in_play kit players state (Open others) lawful = absurd cc
in_play kit players state command lawful = lawful

by_command : StockLaws → (n : ℕ) → 0 < n → n ≤ 6 → (kit : Kit) (players : List (List ℕ)) (state : GameState) (command : Command)
    → IsVerdict (command_judgement kit players state command) None → Stands n state → Stands n (played_on kit players state command)
by_command laws n some few kit players state command lawful h =
    by_named laws n some few kit state (act_of players command)
    (in_play kit players state command (lawful-behind (over_verdict kit state) (command_judgement_in_play kit players state command) lawful)) h

by_commands : StockLaws → (n : ℕ) → 0 < n → n ≤ 6 → (kit : Kit) (players : List (List ℕ)) (commands : List Command) (state : GameState) → AreAccepted kit players state commands
    → Stands n state → Stands n (fold (played_on kit players) state commands)
by_commands laws n some few kit players [] state lawful h = h
by_commands laws n some few kit players (c ∷ cs) state lawful h =
    by_commands laws n some few kit players cs (played_on kit players state c) lawful.1 (by_command laws n some few kit players state c lawful.0 h)

-- a table that opens
stands_opened : (names : List (List ℕ)) (kit : Kit) → NamesCorporations kit → 2 ≤ length names → Stands (length names) (opened_state names kit.roster)
stands_opened names kit order two =
    let n = length names in
    let book = opened names kit.roster in
    let covered = covered_opened names kit.roster two in
    let ruled = governed_at_first n names kit.roster order in
    record {
      order = record {
        together = sum_of_balances n book (opening_among n kit.roster (E.Step (M.Auction names) ∷ []) refl);
        sound = record {
          solvent = solvent_by_cover n book covered;
          dealt = dealt_opened names kit.roster order;
          pool = half_at_first names kit.roster;
        };
        governed = ruled.governed;
      };
      earned = omega (arith, ints);
      covered = λ going. covered;
      bidding = λ going. ruled;
    }

sound_if : (roster : Terms) (n : ℕ) (state : GameState) → Stands n state → IsSoundTable roster n state.book
sound_if roster n state h =
    let order = h.order in
    let sound = order.sound in
    let solvent = sound.solvent in
    record {
      money = record {
        together = money_kept n roster state.book order.together;
        seats = λ s. solvent.seats s;
        corporations = λ corp. solvent.corporations corp;
      };
      dealt = sound.dealt;
      presidents = greatest_where_governed n state.book order.governed;
      pool = sound.pool;
    }

pub sound_along : StockLaws → (kit : Kit) (commands : List Command) → NamesCorporations kit → ArePlayed kit commands
    → IsSoundTable kit.roster (length (players_of commands)) (play kit commands).book
sound_along laws kit (Open players ∷ commands) order played =
    let n = length players in
    sound_if kit.roster n _ (by_commands laws n (omega arith) played.1 kit players commands (opened_state players kit.roster) played.2 (stands_opened players kit order played.0))
sound_along laws kit _ order played = absurd played

-- one command more that isn't refused

accepted_on : (kit : Kit) (players : List (List ℕ)) (commands : List Command) (command : Command) (state : GameState) → AreAccepted kit players state commands
    → IsVerdict (command_judgement kit players (fold (played_on kit players) state commands) command) None → AreAccepted kit players state (commands ++ command ∷ [])
accepted_on kit players [] command state lawful next = (next, tt)
accepted_on kit players (c ∷ cs) command state lawful next = (lawful.0, accepted_on kit players cs command (played_on kit players state c) lawful.1 next)

pub played_more : (kit : Kit) (commands : List Command) (command : Command) → ArePlayed kit commands
    → IsVerdict (command_judgement kit (players_of commands) (play kit commands) command) None → ArePlayed kit (commands ++ command ∷ [])
played_more kit (Open players ∷ commands) command played next =
    (played.0, played.1, accepted_on kit players commands command (opened_state players kit.roster) played.2 next)
played_more kit _ command played next = absurd played
