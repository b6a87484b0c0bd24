-- How far a turn has come, by the commands that a table was played with.
use Rattle.std.specs.Prelude.{◌≡◌, ℕ, Bool, true, false, ◌||◌, List, [], ◌∷◌, ◌++◌, Option, Some, is_some, refl}
use Rattle.std.specs.List.{list_any}
use Rattle.std.proofs.Common.{◌∙◌, ap, append_assoc, arith, sym}
use Rattle.std.proofs.lemmas.Bool.{true≢false}
use Rattle.std.proofs.lemmas.List.Folds.{list_any-append}
use Rattle.std.proofs.lemmas.List.Sums.{fold-append}
use Rattle.rr_roster.specs.declared.company.Corp.{Corp}
use Rattle.rr_code.specs.declared.command.Command.{Command}
use Rattle.rr_code.specs.declared.command.Command.TheVariants.{Open, Order}
use Rattle.rr_orders.specs.declared.order.Order.TheVariants as O
use Rattle.rr_desk.specs.Incomes.{dollars}
use Rattle.rr_kit.specs.declared.kit.Kit.{Kit}
use Rattle.rr_market.specs.declared.operations.turn.Stage.TheVariants as G
use Rattle.rr_market.specs.declared.operations.turn.TurnStep.{TurnStep}
use Rattle.rr_market.specs.declared.operations.turn.TurnStep.TheVariants as T
use Rattle.rr_market.specs.Operations.Due.{due}
use Rattle.rr_market.specs.Operations.Turn.{is_at, is_up_to}
use Rattle.rr_routes.specs.Routes.{Optimal}
use Rattle.rr_running.specs.Running.{net_now, run_revenue}
use Rattle.rr_rules.specs.Judging.{stage}
use Rattle.rr_rules.specs.State.{GameState}
use Rattle.rr_game.specs.Play.{opened_state, play, played_on}
use Rattle.rr_laws.specs.Dividends.{IsLegalRun, run_of, runs_after, runs_in_turn, runs_or_ends}
use Rattle.rr_laws.proofs.KeptTurn.{step_of}

-- The corporation that is due has run its trains once in this turn.
pub record HasRun (kit : Kit) (commands : List Command) (state : GameState) : Type 0 where
  pub corp : Corp
  pub before : List Command
  pub words : List ℕ
  pub certificate : Option (List ℕ)
  pub since : List Command
  pub stands : commands ≡ before ++ run_of corp words certificate ∷ since
  pub none_before : runs_in_turn before ≡ 0
  pub none_since : list_any runs_or_ends since ≡ false
  pub legal : IsLegalRun kit (play kit before).book corp words
  pub best : is_some certificate ≡ true → Optimal (net_now kit.board kit.tiles (play kit before).book corp) legal.run
  pub earns : state.revenue ≡ run_revenue kit (play kit before).book corp words
  pub is_due : due kit.chart state.book ≡ Some corp
  pub once : runs_in_turn commands ≡ 1

-- The state after the commands: a corporation whose trains may still run hasn't run; when its dividend is due it has run once;
-- outside operating rounds no trains have run since the last turn's end; and trains that haven't run have earned nothing.
pub record TurnSoFar (kit : Kit) (commands : List Command) (state : GameState) : Type 0 where
  pub is : state ≡ play kit commands
  pub fresh : is_up_to (step_of state.book) T.Run ≡ true → runs_in_turn commands ≡ 0
  pub ran : is_at (step_of state.book) T.Pay ≡ true → HasRun kit commands state
  pub outside : ((stage state.book ≡ G.Operating) → ⊥) → runs_in_turn commands ≡ 0
  pub idle : runs_in_turn commands ≡ 0 → state.revenue ≡ dollars 0

-- one command more

pub runs-push : (commands : List Command) (command : Command) → runs_in_turn (commands ++ command ∷ []) ≡ runs_after (runs_in_turn commands) command
unfolding runs_in_turn
runs-push commands command = fold-append runs_after 0 commands (command ∷ [])

other_runs : (n : ℕ) (command : Command) → runs_or_ends command ≡ false → runs_after n command ≡ n
other_runs n (Order (O.Run c words)) other = absurd (true≢false other)
other_runs n (Order (O.RunBest c words certificate)) other = absurd (true≢false other)
other_runs n (Order (O.End c)) other = absurd (true≢false other)
other_runs n _ other = refl

same_runs : (commands : List Command) (command : Command) → runs_or_ends command ≡ false → runs_in_turn (commands ++ command ∷ []) ≡ runs_in_turn commands
same_runs commands command other = runs-push commands command ∙ other_runs (runs_in_turn commands) command other

pub play-push : (kit : Kit) (players : List (List ℕ)) (acc : List Command) (command : Command)
    → play kit (Open players ∷ (acc ++ command ∷ [])) ≡ played_on kit players (play kit (Open players ∷ acc)) command
play-push kit players acc command = fold-append (played_on kit players) (opened_state players kit.roster) acc (command ∷ [])

-- the state after a command that runs no trains and ends no turn

-- the dividend that was due is still due
ran_on : (kit : Kit) (commands : List Command) (state new : GameState) (command : Command) → runs_or_ends command ≡ false
    → new.revenue ≡ state.revenue → due kit.chart new.book ≡ due kit.chart state.book → HasRun kit commands state → HasRun kit (commands ++ command ∷ []) new
ran_on kit commands state new command other earned same h = record {
  corp = h.corp;
  before = h.before;
  words = h.words;
  certificate = h.certificate;
  since = h.since ++ command ∷ [];
  stands = ap (λ (cs : List Command). cs ++ command ∷ []) h.stands ∙ append_assoc h.before (run_of h.corp h.words h.certificate ∷ h.since) (command ∷ []);
  none_before = h.none_before;
  none_since = list_any-append runs_or_ends h.since (command ∷ [])
      ∙ ap (λ (b : Bool). b || (runs_or_ends command || false)) h.none_since ∙ ap (λ (b : Bool). b || false) other;
  legal = h.legal;
  best = h.best;
  earns = earned ∙ h.earns;
  is_due = same ∙ h.is_due;
  once = same_runs commands command other ∙ h.once;
}

-- what it leaves as it was
pub record StaysInTurn (kit : Kit) (state new : GameState) : Type 0 where
  pub revenue : new.revenue ≡ state.revenue
  pub step : step_of new.book ≡ step_of state.book
  pub is_due : due kit.chart new.book ≡ due kit.chart state.book
  pub stage : stage state.book ≡ G.Operating → stage new.book ≡ G.Operating

pub turn_stays : (kit : Kit) (commands : List Command) (state new : GameState) (command : Command) → runs_or_ends command ≡ false → new ≡ play kit (commands ++ command ∷ [])
    → StaysInTurn kit state new → TurnSoFar kit commands state → TurnSoFar kit (commands ++ command ∷ []) new
turn_stays kit commands state new command other is stays h =
    let count = same_runs commands command other in
    record {
      is = is;
      fresh = λ early. count ∙ h.fresh (ap (λ (s : TurnStep). is_up_to s T.Run) (sym stays.step) ∙ early);
      ran = λ pays. ran_on kit commands state new command other stays.revenue stays.is_due (h.ran (ap (λ (s : TurnStep). is_at s T.Pay) (sym stays.step) ∙ pays));
      outside = λ away. count ∙ h.outside (λ operating. away (stays.stage operating));
      idle = λ none. stays.revenue ∙ h.idle (sym count ∙ none);
    }

-- before a run, and outside operating rounds
pub turn_idles : (kit : Kit) (commands : List Command) (state new : GameState) (command : Command) → runs_or_ends command ≡ false → new ≡ play kit (commands ++ command ∷ [])
    → runs_in_turn commands ≡ 0 → new.revenue ≡ state.revenue → is_at (step_of new.book) T.Pay ≡ false → TurnSoFar kit commands state → TurnSoFar kit (commands ++ command ∷ []) new
turn_idles kit commands state new command other is none earned unpaid h =
    let count = same_runs commands command other in
    record {
      is = is;
      fresh = λ early. count ∙ none;
      ran = λ pays. absurd (true≢false (sym pays ∙ unpaid));
      outside = λ away. count ∙ none;
      idle = λ still. earned ∙ h.idle none;
    }

-- after a dividend
pub turn_pays : (kit : Kit) (commands : List Command) (state new : GameState) (command : Command) → runs_or_ends command ≡ false → new ≡ play kit (commands ++ command ∷ [])
    → new.revenue ≡ state.revenue → step_of new.book ≡ T.Train → stage new.book ≡ G.Operating → TurnSoFar kit commands state → TurnSoFar kit (commands ++ command ∷ []) new
turn_pays kit commands state new command other is earned step operating h =
    let count = same_runs commands command other in
    record {
      is = is;
      fresh = λ early. absurd (true≢false (sym early ∙ ap (λ (s : TurnStep). is_up_to s T.Run) step));
      ran = λ pays. absurd (true≢false (sym pays ∙ ap (λ (s : TurnStep). is_at s T.Pay) step));
      outside = λ away. absurd (away operating);
      idle = λ none. earned ∙ h.idle (sym count ∙ none);
    }

-- after a run
pub turn_runs : (kit : Kit) (commands : List Command) (new : GameState) (command : Command) → new ≡ play kit (commands ++ command ∷ [])
    → step_of new.book ≡ T.Pay → stage new.book ≡ G.Operating → HasRun kit (commands ++ command ∷ []) new → TurnSoFar kit (commands ++ command ∷ []) new
turn_runs kit commands new command is step operating ran = record {
  is = is;
  fresh = λ early. absurd (true≢false (sym early ∙ ap (λ (s : TurnStep). is_up_to s T.Run) step));
  ran = λ pays. ran;
  outside = λ away. absurd (away operating);
  idle = λ none. let once : 1 ≡ 0 = sym ran.once ∙ none in absurd (omega (arith, once));
}

-- after the end of a turn
pub turn_ends : (kit : Kit) (commands : List Command) (new : GameState) (command : Command) → new ≡ play kit (commands ++ command ∷ [])
    → runs_in_turn (commands ++ command ∷ []) ≡ 0 → new.revenue ≡ dollars 0 → is_at (step_of new.book) T.Pay ≡ false → TurnSoFar kit (commands ++ command ∷ []) new
turn_ends kit commands new command is none earned unpaid = record {
  is = is;
  fresh = λ early. none;
  ran = λ pays. absurd (true≢false (sym pays ∙ unpaid));
  outside = λ away. none;
  idle = λ still. earned;
}
