-- What a checkpoint can write of a table.
use Rattle.std.specs.Prelude.{◌^◌, ◌<◌}
use Rattle.rr_tables.specs.Records.World.{TableState}

-- a directory has room for its floor
pub record IsWritable (table : TableState) : Type 0 where
  pub floored : table.floor < 2 ^ 32
