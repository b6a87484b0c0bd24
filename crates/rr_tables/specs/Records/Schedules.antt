-- What the law over schedules speaks of here.
use Rattle.rr_code.specs.Request.{record_text}
use Rattle.rr_images.specs.Layout.{Keeps, Stands}
use Rattle.rr_images.specs.Schedules.Worlds.{Worlds}
use Rattle.rr_reading.specs.Worlds.World as words
use Rattle.rr_tables.specs.Records.Taking.{Takes, table_files}
use Rattle.rr_tables.specs.Records.World.{IsOfForm, TableRequest}

-- the record of a request leads from one world to another
abbrev pub LeadsTo : TableRequest → words.World → words.World → Type 0
LeadsTo asked old new = IsOfForm asked × Takes (record_text asked.name asked.request) old new

-- requests, and the worlds and files of tables
abbrev pub of_tables : Worlds
of_tables =
    record {
      Command = TableRequest;
      World = words.World;
      Leads = LeadsTo;
      Stands = λ image world. Stands table_files image world;
      Keeps = λ image world. Keeps table_files image world;
    }
