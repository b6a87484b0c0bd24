use Rattle.std.proofs.Common.{◌≡◌, ℕ, ◌+◌, ◌-◌, ◌<◌, List, length, set}
use Rattle.rr_routes.specs.declared.certificate.Fate.{Fate}
use Rattle.rr_routes.specs.Routes.{Trip, Run, earned}
use Rattle.rr_routes.specs.Certificates.{Keeps}
use Rattle.rr_checker.specs.Choices.{choice_at}
use Rattle.rr_search.specs.Found.{EarnsAtLeast, IsSound}
use Rattle.rr_search.proofs.whole.+explore.Given as goal

abbrev pub decreases-explore : goal.decreases-explore
decreases-explore l = length l.net.now.links - l.link

-- only the fate of the link has changed, and the find earns what the runs under the choices so far earn
abbrev pub invariant-loop-place : goal.invariant-loop-place
invariant-loop-place l = record {
  as_long : length l.fates.items ≡ length l.fn.fates.items;
  elsewhere : (choice : Fate) → set l.fates.items l.link choice ≡ set l.fn.fates.items l.link choice;
  sound : IsSound l.net l.found;
  no_less : (amount : ℕ) → EarnsAtLeast l.fn.found amount → EarnsAtLeast l.found amount;
  most : (k : ℕ) → k < l.place → (run : List Trip) → Run l.net run → Keeps (set l.fn.fates.items l.link (choice_at k)) run → EarnsAtLeast l.found (earned l.net run);
}
