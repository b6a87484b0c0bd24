use Rattle.std.proofs.Common.{◌∙◌, ap}
use Rattle.rr_books.specs.declared.entries.Entry.TheVariants as E
use Rattle.rr_books.specs.declared.entries.Marker.TheVariants as M
use Rattle.rr_rounds.specs.Round.{Round}
use Rattle.rr_rounds.specs.RoundLaws.{progress-push}
use Rattle.rr_laws.proofs.SoundnessLemmas.Priorities.{one_before}
use Rattle.rr_laws.proofs.soundness.laws.first_turn_is_of_priority.Goals as goal

pub returns : goal.returns
returns c before none = ap (λ (r : Round). r.turn) (progress-push before (E.Step M.Stock)) ∙ one_before before none
