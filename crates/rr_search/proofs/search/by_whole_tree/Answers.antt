use Rattle.std.proofs.Common.{rules, ◌≡◌, ◌≤◌, ◌-◌, None, Some, List, length, replicate, refl, ap, sym, subst, ◌∙◌, arith}
use Rattle.rr_routes.specs.declared.certificate.Fate.{Fate}
use Rattle.rr_routes.specs.declared.certificate.Fate.TheVariants.{Open}
use Rattle.rr_routes.specs.declared.net.Link.{Link}
use Rattle.rr_routes.specs.Certificates.{all_open}
use Rattle.rr_search.specs.Found.{IsBestUnder}
use Rattle.rr_search.proofs.FoundLemmas.{found_some, certified_by}
use Rattle.rr_search.proofs.search.by_whole_tree.Goals as goal

pub unreachable-requires : goal.unreachable-requires
unreachable-requires c =
    let opened : c.in_ok-fates.fates.items ≡ all_open c.args.net.now =
    (c.in_ok-fates.ensures {u = tt}).items_if_clones_equal (λ y e. search rules) ∙ ap (λ (ls : List Link). replicate (length ls) Open) c.links.ensures in
    found_some c.args.net.now c.in_ok-fates.fates.items opened (rw c.in-None.is at ((c.in_ok-explore.ensures {u = tt}).best))

pub returns : goal.returns
returns c =
    let opened : c.in_ok-fates.fates.items ≡ all_open c.args.net.now =
    (c.in_ok-fates.ensures {u = tt}).items_if_clones_equal (λ y e. search rules) ∙ ap (λ (ls : List Link). replicate (length ls) Open) c.links.ensures in
    certified_by c.args.net.now c.args.limit c.in_ok-fates.fates.items opened c.in-Some.found c.in_ok-tree.tree (rw c.in-Some.is at ((c.in_ok-explore.ensures {u = tt}).best))
    (c.in_ok-tree.ensures {u = tt}).shows (c.in_ok-tree.ensures {u = tt}).counted c.requires.fits c.requires.small
