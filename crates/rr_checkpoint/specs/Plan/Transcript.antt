-- What a transcript holds.
use Rattle.std.specs.Prelude.{ℕ, List, map}
use Rattle.rr_reading.specs.Dir.Kept.{first_commands}
use Rattle.rr_checkpoint.specs.declared.plan.transcript.Transcript.{Transcript}
use Rattle.rr_checkpoint.specs.declared.plan.table.TableTranscript.{TableTranscript}
use Rattle.rr_checkpoint.specs.Plan.Snapshots.{snapshot_of}
use Rattle.rr_reading.specs.Worlds.World.{Snapshot, Table}

-- the commands that its bytes spell
abbrev pub commands_of : TableTranscript → List (List ℕ)
commands_of table = first_commands table.kept table.bytes.items

-- the table as a world has it
abbrev pub table_of : TableTranscript → Table
table_of table =
    record { name = table.name; kept = record { commands = commands_of table; floor = table.floor; stamp = table.stamp } }

-- the tables of a world, in order of opening
abbrev pub tables_of : Transcript → List Table
tables_of transcript = map table_of transcript.tables.items

-- the snapshots of their games
abbrev pub snapshots_of : Transcript → List Snapshot
snapshots_of transcript = map snapshot_of transcript.snapshots.items

-- the table of this name, stamp and floor that keeps these commands
abbrev pub table_with : List ℕ → ℕ → ℕ → List (List ℕ) → Table
table_with name stamp floor commands =
    record { name = name; kept = record { commands = commands; floor = floor; stamp = stamp } }
