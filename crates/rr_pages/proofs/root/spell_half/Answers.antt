use Rattle.std.proofs.Common.{◌-◌, ◌∷◌, length, ◌∙◌, arith}
use Rattle.std.proofs.lemmas.List.{length-set}
use Rattle.std.proofs.Math.ListN.{set}
use Rattle.rr_pages.proofs.Slices.{put_first}
use Rattle.rr_pages.proofs.root.spell_half.Goals as goal

pub returns : goal.returns
returns c =
    put_first (length (set c.args.room.now 0 c.half_byte.result) - 1) c.args.room.now c.spell_first.new.room c.half_byte.result (omega arith) (omega (arith, length-set c.args.room.now 0 c.half_byte.result))
    ∙ (λ i. c.half_byte.ensures i ∷ c.spell_first.ensures i)
