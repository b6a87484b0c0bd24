-- Whatever commands a table is played with, the phase is the greatest kind of which a train was sold.
use Rattle.std.specs.Prelude.{ℕ, Bool, true, false, List, [], ◌∷◌, ◌++◌, Option, None, Some, fold, refl}
use Rattle.rr_books.specs.declared.acts.Act.{Act}
use Rattle.rr_auction.specs.Effects as auction
use Rattle.rr_auction.specs.Opening.{opened}
use Rattle.rr_code.specs.declared.command.Command.{Command}
use Rattle.rr_code.specs.declared.command.Command.TheVariants.{Open}
use Rattle.rr_kit.specs.declared.kit.Kit.{Kit}
use Rattle.rr_market.specs.declared.operations.turn.Stage.{Stage}
use Rattle.rr_market.specs.declared.operations.turn.Stage.TheVariants as G
use Rattle.rr_rules.specs.Forced.Rules.{is_forced}
use Rattle.rr_rules.specs.Judging.{stage}
use Rattle.rr_rules.specs.Playing.{operating_entries, state_in, stock_entries}
use Rattle.rr_rules.specs.State.{GameState}
use Rattle.rr_game.specs.Names.{act_of}
use Rattle.rr_game.specs.Play.{opened_state, play, played_on, state_with}
use Rattle.rr_laws.specs.SoldTrains.{PhasesAreGreatestSold}
use Rattle.rr_laws.proofs.AuctionAdds.{auction_adds}
use Rattle.rr_laws.proofs.ForcedLeaves.{need_goes}
use Rattle.rr_laws.proofs.LeavesAuction.{bare_move_none, calm_move_none}
use Rattle.rr_laws.proofs.Opened.{opening_meets}
use Rattle.rr_laws.proofs.RoundLeaves.{stock_calms}
use Rattle.rr_laws.proofs.TrainSales.{IsTold, greatest_sold, offers, told_offered, told_on}
use Rattle.rr_laws.proofs.TurnLeaves.{turn_tells}

by_operation : (needs : Bool) (kit : Kit) (state : GameState) (act : Act) → IsTold state.book → IsTold (state.book ++ operating_entries needs kit state act)
by_operation true kit state act h = (need_goes kit.roster kit.chart state.book act).told h
by_operation false kit state act h = turn_tells kit state.revenue state.book act h

by_stage : (s : Stage) (kit : Kit) (state : GameState) (act : Act) → IsTold state.book → IsTold (state_in s kit state act).book
by_stage G.Auction kit state act h =
    let es = auction.entries_of kit.roster kit.chart state.book act in
    told_on state.book es (bare_move_none es (auction_adds kit.roster kit.chart state.book act)) h
by_stage G.Stock kit state act h =
    let es = stock_entries kit state.book act in told_on state.book es (calm_move_none es (stock_calms kit state.book act)) h
by_stage G.Operating kit state act h = by_operation (is_forced act) kit state act h

by_named : (kit : Kit) (state : GameState) (named : Option Act) → IsTold state.book → IsTold (state_with kit state named).book
by_named kit state None h = h
by_named kit state (Some act) h = by_stage (stage state.book) kit state act h

by_commands : (kit : Kit) (players : List (List ℕ)) (commands : List Command) (state : GameState) → IsTold state.book → IsTold (fold (played_on kit players) state commands).book
by_commands kit players [] state h = h
by_commands kit players (command ∷ commands) state h =
    by_commands kit players commands (played_on kit players state command) (by_named kit state (act_of players command) h)

told_opened : (players : List (List ℕ)) (kit : Kit) → IsTold (opened players kit.roster)
told_opened players kit =
    told_offered (opened players kit.roster)
    (opening_meets offers (record { payments = λ n seat. refl; moves = λ cert. refl; trains = λ t. refl; begins = λ names. refl }) players kit.roster)

told_along : (kit : Kit) (commands : List Command) → IsTold (play kit commands).book
told_along kit (Open players ∷ commands) = by_commands kit players commands (opened_state players kit.roster) (told_opened players kit)
told_along kit _ = told_offered [] refl

pub phases_are_greatest_sold : PhasesAreGreatestSold
phases_are_greatest_sold kit commands = greatest_sold (play kit commands).book (told_along kit commands)
