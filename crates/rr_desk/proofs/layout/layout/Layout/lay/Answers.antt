use Rattle.std.proofs.Common.{arith, ap, length, ◌<◌}
use Rattle.rr_desk.specs.Layout.Layout.{Placed}
use Rattle.rr_desk.specs.Layout.Slots.{length-take-filled, no_lay}
use Rattle.rr_desk.proofs.LayoutLemmas.SlotLemmas.{filled_more}
use Rattle.rr_desk.proofs.layout.layout.Layout.lay.Goals as goal

pub invariant_of-self : goal.invariant_of-self
invariant_of-self c =
    let inside = c.self.inside in
    let count = length-take-filled no_lay 600 inside.lay_count inside.lays c.self.invariant.0 in
    let shown = ap (λ (p : Placed). length p.lays) c.self.view_is in
    let room : inside.lay_count < 600 = omega (arith, count, shown, c.requires) in
    (filled_more no_lay 600 inside.lay_count inside.lays c.args.lay room c.self.invariant.0, c.self.invariant.1)
