use Rattle.rr_laws.proofs.SoundTables.{played_more}
use Rattle.rr_laws.proofs.plays_go_on.Goals as goal

pub returns : goal.returns
returns c kit commands command played next = played_more kit commands command played next
