-- What is asked of a run before its words are looked at.
use Rattle.std.proofs.Common.{◌≡◌, ◌∙◌, ℕ, List, [], Option, ap, refl}
use Rattle.rr_books.specs.declared.acts.Act.TheVariants as A
use Rattle.rr_kit.specs.declared.kit.Kit.{Kit}
use Rattle.rr_operate.specs.Order.{step_verdict, verdict_at}
use Rattle.rr_market.specs.declared.operations.turn.Stage.{Stage}
use Rattle.rr_market.specs.declared.operations.turn.Stage.TheVariants as G
use Rattle.rr_roster.specs.declared.company.Corp.{Corp}
use Rattle.rr_books.specs.declared.refusal.Refusal.{Refusal}
use Rattle.rr_rules.specs.Judging.{judgement, judgement_in, stage}
use Rattle.rr_rules.specs.Runs.{run_verdict}
use Rattle.rr_rules.specs.State.{GameState}

-- by the rules in force

pub at_its_stage : (s : Stage) (kit : Kit) (state : GameState) (c : Corp) (verdict : Option Refusal) → stage state.book ≡ s
    → (judgement_in s kit state (A.Run c [])).first ≡ verdict → run_verdict kit state c ≡ verdict
unfolding judgement
at_its_stage s kit state c verdict e h = ap (λ (g : Stage). (judgement_in g kit state (A.Run c [])).first) e ∙ h

-- whatever its words are

alike : (s : Stage) (kit : Kit) (state : GameState) (c : Corp) (sheet : List ℕ)
    → (judgement_in s kit state (A.Run c sheet)).first ≡ (judgement_in s kit state (A.Run c [])).first
unfolding verdict_at step_verdict
alike G.Auction kit state c sheet = refl
alike G.Stock kit state c sheet = refl
alike G.Operating kit state c sheet = refl

best_alike : (s : Stage) (kit : Kit) (state : GameState) (c : Corp) (sheet certificate : List ℕ)
    → (judgement_in s kit state (A.RunBest c sheet certificate)).first ≡ (judgement_in s kit state (A.Run c [])).first
unfolding verdict_at step_verdict
best_alike G.Auction kit state c sheet certificate = refl
best_alike G.Stock kit state c sheet certificate = refl
best_alike G.Operating kit state c sheet certificate = refl

pub run_alike : (kit : Kit) (state : GameState) (c : Corp) (sheet : List ℕ) → (judgement kit state (A.Run c sheet)).first ≡ run_verdict kit state c
unfolding judgement
run_alike kit state c sheet = alike (stage state.book) kit state c sheet

pub best_run_alike : (kit : Kit) (state : GameState) (c : Corp) (sheet certificate : List ℕ)
    → (judgement kit state (A.RunBest c sheet certificate)).first ≡ run_verdict kit state c
unfolding judgement
best_run_alike kit state c sheet certificate = best_alike (stage state.book) kit state c sheet certificate
