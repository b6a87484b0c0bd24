-- What an opened file carries.
use Rattle.std.specs.Prelude.{◌≡◌, ◌≢◌, ◌++◌}
use Rattle.rr_checkpoint.specs.Writer.{Carries}
use Rattle.rr_disk.specs.Disk.{DiskState}
use Rattle.rr_images.specs.Codec.{Codec, Replays}
use Rattle.rr_images.specs.Holding.{texts_of}
use Rattle.rr_images.specs.Layout.{Layout, far_lines}
use Rattle.rr_pages.specs.declared.journal.reading.RunEnd.TheVariants.{Closed, Damaged}
use Rattle.rr_log.specs.declared.opening.opened.Opened.{Opened}
use Rattle.rr_log.specs.Opening.Opened.{held_by}
use Rattle.rr_reading.specs.Held.{Held, chains_of, holding_of}

-- The layout is what was read of a file that keeps this world: its root and what this holds, the near records and the
-- far ones. So its base is spelled by the chains that were read, the near records lead from it to the world before the
-- far ones, and these to the file's world. No record is damaged.
pub record IsReadAs {codec : Codec} (layout : Layout codec) (has : Held) (world : codec.World) : Type 0 where
  pub side : layout.side ≡ has.side
  pub root : layout.root ≡ has.root
  pub holding : layout.holding ≡ holding_of has
  pub near : layout.near ≡ has.near
  pub far : far_lines layout.far ≡ has.far
  pub spells : codec.Spells has.root.version has.chain.text (texts_of (chains_of has.texts (has.tables ++ has.snapshots))) layout.base
  pub leads : Replays codec layout.base has.near layout.middle
  pub leads_on : Replays codec layout.middle has.far world
  pub near_whole : has.near_end ≡ Closed
  pub far_whole : has.far_end ≢ Damaged

-- the writer carries this world, by a layout that is what was read
pub record CarriesRead {C : Type 0} (codec : Codec) (opened : Opened C) (state : DiskState) (world : codec.World) : Type 0 where
  pub carries : Carries codec opened.writer state world
  pub is_read : IsReadAs carries.layout (held_by state.content opened) world
