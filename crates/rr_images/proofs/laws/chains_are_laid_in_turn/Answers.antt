use Rattle.rr_images.proofs.Laid.{nothing_laid, one_more_laid, laid_are_free}
use Rattle.rr_images.proofs.laws.chains_are_laid_in_turn.Goals as goal

pub returns : goal.returns
returns c = record { none = nothing_laid; more = one_more_laid; free = laid_are_free }
