use Rattle.rr_world_laws.proofs.Sounding.{whatever_comes}
use Rattle.rr_world_laws.proofs.whatever_comes_is_sound.Goals as goal

pub returns : goal.returns
returns c = whatever_comes c.sound.ensures c.best_runs_were_best.ensures.entries c.never_pays_a_wrong_dividend.ensures c.plays_go_on.ensures c.kits_name_corporations.ensures c.prefix.ensures.sound
