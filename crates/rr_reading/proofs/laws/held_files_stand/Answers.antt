use Rattle.rr_reading.proofs.Standing.{held_is_read, held_stands}
use Rattle.rr_reading.proofs.laws.held_files_stand.Goals as goal

pub returns-clause-read : goal.returns-clause-read
returns-clause-read g _ = held_is_read g.C.Codec.codec

pub returns-clause-stands : goal.returns-clause-stands
returns-clause-stands g _ = held_stands g.C.Codec.codec
