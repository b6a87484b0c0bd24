use Rattle.std.proofs.Common.{Some, sym, ap, ◌∙◌}
use Rattle.rr_tiles.proofs.TileLemmas.{element_of-part, element_of-label_sound}
use Rattle.rr_tiles.proofs.tile.Tile.take.Goals as goal

pub take_part-requires : goal.take_part-requires
take_part-requires c = element_of-part c.args.word.now c.in-Part.part (ap (λ element. Some element) (sym c.in-Part.is) ∙ sym c.in-Some.is ∙ c.in_ok-element.ensures)

pub take_label-requires : goal.take_label-requires
take_label-requires c = element_of-label_sound c.args.word.now c.in-Label.label (ap (λ element. Some element) (sym c.in-Label.is) ∙ sym c.in-Some.is ∙ c.in_ok-element.ensures)
