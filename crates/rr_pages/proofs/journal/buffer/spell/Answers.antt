use Rattle.std.proofs.Common.{ℕ, ◌-◌, List, ◌∷◌, length, slice_set, ◌∙◌, ap, arith}
use Rattle.std.proofs.lemmas.List.{length-set}
use Rattle.std.proofs.lemmas.Grind.{common_steps}
use Rattle.rr_pages.proofs.JournalLemmas.Lists.{put_first}
use Rattle.rr_pages.proofs.journal.buffer.spell.Goals as goal

pub returns : goal.returns
returns c =
    put_first (length (slice_set c.args.room.now 0 165) - 1) c.args.room.now c.spell_numbered.new.room 165 (omega (arith, c.requires.fits)) (omega (arith, length-set c.args.room.now 0 165))
    ∙ ap (λ (rest : List ℕ). 165 ∷ rest) (grind (arith, common_steps))
