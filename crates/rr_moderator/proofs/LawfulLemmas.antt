-- No rule refuses a best run that is found.
use Rattle.std.proofs.Common.{◌≡◌, ◌∙◌, ℕ, List, Option, None, Some, option_map, refl, sym, subst}
use Rattle.std.specs.Option.{option_or}
use Rattle.rr_books.specs.declared.acts.Act.TheVariants as A
use Rattle.rr_code.specs.declared.command.Command.TheVariants.{Order}
use Rattle.rr_game.specs.Play.{play, players_of}
use Rattle.rr_game.specs.Verdict.{act_judgement, over_verdict}
use Rattle.rr_game.specs.History.Fault.{of_game}
use Rattle.rr_game.specs.History.Playing.{game_judgement}
use Rattle.rr_game.specs.History.Verdict.{own_judgement, request_judgement, room_verdict, stamp_verdict}
use Rattle.rr_kit.specs.declared.kit.Kit.{Kit}
use Rattle.rr_market.specs.declared.operations.turn.Stage.{Stage}
use Rattle.rr_market.specs.declared.operations.turn.Stage.TheVariants as G
use Rattle.rr_orders.specs.declared.order.Order.TheVariants as O
use Rattle.rr_roster.specs.declared.company.Corp.{Corp}
use Rattle.rr_rules.specs.Judging.{judgement, judgement_in, stage}
use Rattle.rr_rules.specs.Runs as runs
use Rattle.rr_rules.specs.State.{GameState}
use Rattle.rr_rules.proofs.RunLemmas.{best_run_alike}
use Rattle.rr_running.specs.Running.{IsBestRunVerdict}
use Rattle.rr_tables.specs.Records.Fault.{of_table}
use Rattle.rr_tables.specs.Records.World.{TableState, step_judgement}
use Rattle.rr_turns.specs.Judgement.{IsFirstOrBehind, IsVerdict, judgement_map}
use Rattle.rr_turns.proofs.JudgementLemmas.{behind-is, map-is}
use Rattle.rr_moderator.specs.BestLaws.{BestRunsAreLawful}
use Rattle.rr_moderator.specs.Best.{best_run, run_verdict}

-- what passes all of several checks passes each

map_none : {F G : Type 0} (f : F → G) (o : Option F) → option_map f o ≡ None → o ≡ None
map_none f None h = refl
map_none f (Some x) h = absurd cc

first_none : {F : Type 0} (check rest : Option F) → option_or check rest ≡ None → check ≡ None
first_none None rest h = refl
first_none (Some x) rest h = absurd cc

rest_none : {F : Type 0} (check rest : Option F) → option_or check rest ≡ None → rest ≡ None
rest_none None rest h = h
rest_none (Some x) rest h = absurd cc

from_behind : {F : Type 0} (first : Option F) (Behind : Option F → Type 0) (verdict : Option F) → first ≡ None → Behind verdict → IsFirstOrBehind first Behind verdict
from_behind None Behind verdict h is = is
from_behind (Some fault) Behind verdict h is = absurd cc

-- by the rules in force

in_stage : (s : Stage) (kit : Kit) (state : GameState) (c : Corp) (sheet certificate : List ℕ) → (judgement_in s kit state (A.RunBest c sheet certificate)).first ≡ None
    → IsBestRunVerdict kit state.book c sheet certificate None → IsVerdict (judgement_in s kit state (A.RunBest c sheet certificate)) None
in_stage G.Auction kit state c sheet certificate h best = absurd cc
in_stage G.Stock kit state c sheet certificate h best = absurd cc
in_stage G.Operating kit state c sheet certificate h best =
    from_behind (judgement_in G.Operating kit state (A.RunBest c sheet certificate)).first (judgement_in G.Operating kit state (A.RunBest c sheet certificate)).Behind None h
    best

by_rules : (kit : Kit) (state : GameState) (c : Corp) (sheet certificate : List ℕ) → (judgement kit state (A.RunBest c sheet certificate)).first ≡ None
    → IsBestRunVerdict kit state.book c sheet certificate None → IsVerdict (judgement kit state (A.RunBest c sheet certificate)) None
unfolding judgement
by_rules kit state c sheet certificate h best = in_stage (stage state.book) kit state c sheet certificate h best

-- at a table

at_table : (kit : Kit) (table : TableState) (stamp : ℕ) (c : Corp) (sheet certificate : List ℕ) → run_verdict kit (Some table) stamp c ≡ None
    → IsBestRunVerdict kit (play kit table.commands).book c sheet certificate None → IsVerdict (step_judgement kit (Some table) stamp (best_run c sheet certificate)) None
at_table kit table stamp c sheet certificate h best =
    let state = play kit table.commands in
    let players = players_of table.commands in
    let ruled = runs.run_verdict kit state c in
    let gamed = option_map of_game (option_or (over_verdict kit state) ruled) in
    let all = map_none of_table (option_or (stamp_verdict table stamp) (option_or (room_verdict table) gamed)) h in
    let stamped = first_none (stamp_verdict table stamp) (option_or (room_verdict table) gamed) all in
    let own = rest_none (stamp_verdict table stamp) (option_or (room_verdict table) gamed) all in
    let roomed = first_none (room_verdict table) gamed own in
    let game = map_none of_game (option_or (over_verdict kit state) ruled) (rest_none (room_verdict table) gamed own) in
    let going_on = first_none (over_verdict kit state) ruled game in
    let free = rest_none (over_verdict kit state) ruled game in
    let act = A.RunBest c sheet certificate in
    let command = Order (O.RunBest c sheet certificate) in
    let lawful = by_rules kit state c sheet certificate (best_run_alike kit state c sheet certificate ∙ free) best in
    let by_game = behind-is (over_verdict kit state) (act_judgement kit state (Some act)) None going_on lawful in
    let by_own = behind-is (room_verdict table) (judgement_map of_game (game_judgement kit table.commands command)) None roomed (map-is of_game (game_judgement kit table.commands command) None by_game) in
    let by_stamp = behind-is (stamp_verdict table stamp) (own_judgement kit table (best_run c sheet certificate)) None stamped by_own in
    map-is of_table (request_judgement kit table stamp (best_run c sheet certificate)) None by_stamp

pub lawful_best : BestRunsAreLawful
lawful_best kit t stamp name c sheet certificate is =
    let Free : Option TableState → Type 0 = λ o. run_verdict kit o stamp c ≡ None in
    let Lawful : Option TableState → Type 0 = λ o. IsVerdict (step_judgement kit o stamp (best_run c sheet certificate)) None in
    subst Lawful (sym is.is_there) (at_table kit is.table stamp c sheet certificate (subst Free is.is_there is.may_run) is.is_best)
