use Rattle.rr_roster.proofs.Sound.{sound}
use Rattle.rr_laws.proofs.kits_name_corporations.Goals as goal

pub returns : goal.returns
returns c texts kit spelled = (sound kit.roster spelled.roster.spelled.keeps_all spelled.roster.spelled.complete).order
