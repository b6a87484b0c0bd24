-- Steps that are read, and steps that go on.
use Rattle.std.proofs.Common.{◌≡◌, ℕ, ◌<◌, true, false, List, length, get_or, refl}
use Rattle.std.proofs.lemmas.List.{get_or_default}
use Rattle.rr_routes.specs.declared.net.Node.TheVariants.{Hexside}
use Rattle.rr_routes.specs.Net.{Net}
use Rattle.rr_checker.specs.declared.step.Step.{Step}
use Rattle.rr_checker.specs.Steps.{goes_on, is_terminal, may_follow}

-- the step that stands for one past the end
abbrev pub no_step : Step
no_step = record { link = 0; hex = 0; from = Hexside 0; to = Hexside 0 }

-- a step that is read is the one at its place, whatever stands for one past the end
pub step_read : (steps : List Step) (n : ℕ) → n < length steps → get_or steps n no_step ≡ get_or steps n (get_or steps n no_step)
step_read steps n h = get_or_default steps n no_step (get_or steps n no_step) h

-- a step at a terminal node goes on by none
pub goes_on-terminal : (net : Net) (step : Step) → is_terminal net step.to ≡ true → (next : Step) → goes_on net step next ≡ false
goes_on-terminal net step h next = rw h refl

pub goes_on-open : (net : Net) (step next : Step) → is_terminal net step.to ≡ false → goes_on net step next ≡ may_follow step next
goes_on-open net step next h = rw h refl
