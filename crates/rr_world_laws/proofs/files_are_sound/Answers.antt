use Rattle.rr_world_laws.proofs.Sounding.{files_are_sound as proved}
use Rattle.rr_world_laws.proofs.files_are_sound.Goals as goal

pub returns : goal.returns
returns c = proved c.sound.ensures c.best_runs_were_best.ensures.entries c.never_pays_a_wrong_dividend.ensures c.kits_name_corporations.ensures
