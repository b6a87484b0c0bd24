use Rattle.std.proofs.Common.{◌≡◌, map, ap, ◌∙◌, arith}
use Rattle.std.proofs.lemmas.List.{take_all}
use Rattle.rr_tiles.specs.Tile.{turned_part}
use Rattle.rr_tiles.proofs.TileLemmas.{IsTile-turned}
use Rattle.rr_tiles.proofs.tile.Tile.turned.Goals as goal

pub invariant_of-result : goal.invariant_of-result
invariant_of-result c =
    let whole : c.loop-part.parts.items ≡ map (turned_part c.args.turn) c.self.inside.parts.items =
    c.loop-part.invariant
    ∙ ap (map (turned_part c.args.turn)) (take_all c.loop-part.part-index c.deref-part-items.result.now (omega arith))
    ∙ ap (map (turned_part c.args.turn)) c.deref-part-items.ensures.value in
    rw whole (IsTile-turned c.args.turn (record { parts = c.self.inside.parts.items; label = c.self.inside.label }) c.self.invariant)
