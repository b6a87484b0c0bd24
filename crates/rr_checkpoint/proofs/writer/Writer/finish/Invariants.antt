use Rattle.std.proofs.Common.{◌≡◌, ◌+◌, ◌<◌, ◌≤◌, None}
use Rattle.rr_disk.specs.Moments.{EachImage}
use Rattle.rr_images.specs.Calls.{TakesNewer}
use Rattle.rr_images.specs.Layout.{IsEitherRoot}
use Rattle.rr_checkpoint.proofs.Writers.{HoldsSoFar}
use Rattle.rr_checkpoint.specs.Calls.{LeavesKept}
use Rattle.rr_checkpoint.specs.Growing.{AreReclaimed, GrowsWhereFull}
use Rattle.rr_checkpoint.specs.Writer.{Carries, free_of, place_of, ticks_left_of}
use Rattle.rr_pages.specs.FreePages.{present_of, coming_of}
use Rattle.rr_checkpoint.proofs.writer.Writer.finish.Given as goal

abbrev pub invariant-loop-self : goal.invariant-loop-self
invariant-loop-self g l =
    record {
      honest : g.D.Disk.Honest l.disk → g.D.Disk.Honest l.fn.disk;
      works : g.D.Disk.Works l.disk → g.D.Disk.Works l.fn.disk;
      carries : g.D.Disk.Honest l.disk → (world : g.C.Codec.codec.World) → (carries : Carries g.C.Codec.codec l.fn.self (g.D.Disk.state l.fn.disk) world)
          → (then : Carries g.C.Codec.codec l.self (g.D.Disk.state l.disk) world)
          × HoldsSoFar (ticks_left_of l.fn.self) (ticks_left_of l.self) carries.layout carries.holding then.layout then.holding;
      stops : g.D.Disk.Honest l.disk → (world : g.C.Codec.codec.World) → (carries : Carries g.C.Codec.codec l.fn.self (g.D.Disk.state l.fn.disk) world)
          → LeavesKept g.C.Codec.codec (IsEitherRoot carries.layout carries.holding) (g.D.Disk.past l.fn.disk) (g.D.Disk.state l.fn.disk) (g.D.Disk.past l.disk) (g.D.Disk.state l.disk) world;
      renews : g.D.Disk.Honest l.disk → (world : g.C.Codec.codec.World) → (carries : Carries g.C.Codec.codec l.fn.self (g.D.Disk.state l.fn.disk) world) → 0 < ticks_left_of l.fn.self → ticks_left_of l.self ≡ 0
          → EachImage (g.D.Disk.state l.disk) (TakesNewer g.C.Codec.codec carries.layout world);
      grows : g.D.Disk.Honest l.disk → (world : g.C.Codec.codec.World) → Carries g.C.Codec.codec l.fn.self (g.D.Disk.state l.fn.disk) world
          → GrowsWhereFull (present_of (free_of l.fn.self)) (coming_of (free_of l.fn.self)) (g.D.Disk.file_len l.fn.disk) (g.D.Disk.file_len l.disk);
      free : 0 < ticks_left_of l.self → free_of l.self ≡ free_of l.fn.self;
      frees : 0 < ticks_left_of l.fn.self → ticks_left_of l.self ≡ 0 → AreReclaimed (free_of l.fn.self) (free_of l.self);
      rests : 0 < ticks_left_of l.fn.self → ticks_left_of l.self ≡ 0 → (place_of l.self).begun ≡ None;
      number : (place_of l.self).number ≡ (place_of l.fn.self).number;
      half : (place_of l.self).half ≡ (place_of l.fn.self).half;
      faults : g.D.Disk.fault_count l.disk ≡ g.D.Disk.fault_count l.fn.disk;
      writes : g.D.Disk.write_count l.disk + ticks_left_of l.self ≤ g.D.Disk.write_count l.fn.disk + ticks_left_of l.fn.self;
      syncs : g.D.Disk.sync_count l.disk + ticks_left_of l.self ≤ g.D.Disk.sync_count l.fn.disk + ticks_left_of l.fn.self;
    }

abbrev pub decreases-loop-self : goal.decreases-loop-self
decreases-loop-self g l = ticks_left_of l.self
