-- Steps that go on.
use Rattle.std.proofs.Common.{◌≡◌, true, false, refl}
use Rattle.rr_roster.specs.declared.company.Corp.{Corp}
use Rattle.rr_network.specs.declared.step.Step.{Step}
use Rattle.rr_network.specs.Network.{Net}
use Rattle.rr_network.specs.Walk.{goes_on, is_terminal, may_follow}

-- a step at a terminal node goes on by none
pub goes_on-terminal : (net : Net) (corp : Corp) (step : Step) → is_terminal net.stops net.stations corp step.to ≡ true → (next : Step) → goes_on net corp step next ≡ false
goes_on-terminal net corp step h next = rw h refl

pub goes_on-open : (net : Net) (corp : Corp) (step next : Step) → is_terminal net.stops net.stations corp step.to ≡ false → goes_on net corp step next ≡ may_follow step next
goes_on-open net corp step next h = rw h refl
