use Rattle.std.proofs.Common.{◌≡◌, false, map, ap, sym, ◌∙◌}
use Rattle.rr_tiles.specs.Supply.{has_number}
use Rattle.rr_tiles.proofs.SupplyLemmas.{IsManifest-push, supply_of-found}
use Rattle.rr_tiles.proofs.manifest.Manifest.take.Goals as goal

pub invariant_of-self-2 : goal.invariant_of-self-2
invariant_of-self-2 c =
    let spelled = supply_of-found (map (λ word. word.now) c.args.words.now) c.in-Some.supply (sym c.in_ok-supply.ensures ∙ c.in-Some.is) in
    let new : has_number c.self.inside.supplies.items c.in-Some.supply.number ≡ false = ap (λ supplies. has_number supplies c.in-Some.supply.number) c.self.view_is ∙ sym c.has_number.ensures ∙ c.if-has_number.false in
    rw c.in_ok-push.ensures.items (IsManifest-push c.self.inside.supplies.items c.in-Some.supply c.self.invariant spelled.is_supply new)
