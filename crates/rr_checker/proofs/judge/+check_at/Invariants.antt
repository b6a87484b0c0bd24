use Rattle.std.proofs.Common.{◌≡◌, ℕ, ◌<◌, get_or, set, length}
use Rattle.rr_routes.specs.declared.certificate.Fate.{Fate}
use Rattle.rr_routes.specs.declared.certificate.Fate.TheVariants.{Denied}
use Rattle.rr_routes.specs.declared.certificate.CertTree.{CertTree}
use Rattle.rr_routes.specs.Certificates.{AcceptsUnder, node_count}
use Rattle.rr_checker.specs.Choices.{choice_at}
use Rattle.rr_checker.specs.Known.{AreKnown}
use Rattle.rr_checker.proofs.judge.+check_at.Given as goal

abbrev pub decreases-check_at : goal.decreases-check_at
decreases-check_at l = node_count l.tree.now

-- the children so far are accepted, and only the fate of the link has changed; what is known is right before the split, and where the
-- link is denied
abbrev pub invariant-loop-place : goal.invariant-loop-place
invariant-loop-place l = record {
  as_long : length l.fates.items ≡ length l.fn.fates.items;
  elsewhere : (choice : Fate) → set l.fates.items l.link choice ≡ set l.fn.fates.items l.link choice;
  known : AreKnown l.net l.fn.fates.items l.known.items;
  without : AreKnown l.net (set l.fn.fates.items l.link Denied) l.without.items;
  accepted : (k : ℕ) (d : CertTree) → k < l.place → AcceptsUnder l.net l.claim (set l.fn.fates.items l.link (choice_at k)) (get_or l.child-items k d);
}
