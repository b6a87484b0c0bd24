-- The refusals of a judge: those of a table among them.
use Rattle.rr_game.specs.declared.history.fault.Fault as table
use Rattle.rr_game.specs.declared.history.fault.Fault.TheVariants as H
use Rattle.rr_tables.specs.declared.records.fault.Fault.{Fault}
use Rattle.rr_tables.specs.declared.records.fault.Fault.TheVariants as F

abbrev pub of_table : table.Fault → Fault
of_table (H.Game fault) = F.Game fault
of_table (H.StaleStamp stamp) = F.StaleStamp stamp
of_table H.TurnNotKept = F.TurnNotKept
of_table H.TooManyCommands = F.TooManyCommands
of_table H.OutOfMemory = F.OutOfMemory
