use Rattle.std.proofs.Common.{◌≡◌, ◌+◌, length}
use Rattle.rr_pages.specs.FreePages.{present_of, coming_of}
use Rattle.rr_pages.proofs.Lists.{LaysOn}
use Rattle.rr_pages.specs.Laying.{pages_for}
use Rattle.rr_pages.proofs.chain.chain_write.Given as goal

abbrev pub invariant-loop-rest : goal.invariant-loop-rest
invariant-loop-rest l =
    record {
      lays : LaysOn (present_of l.fn.free) (coming_of l.fn.free) (coming_of l.free) l.fn.bytes l.fn.fresh.items l.fresh.items l.head l.page l.rest;
      present : present_of l.free ≡ present_of l.fn.free;
      whole : length (coming_of l.fn.free) ≡ 65536;
      count : length l.fresh.items + pages_for (length l.rest) ≡ length l.fn.fresh.items + pages_for (length l.fn.bytes);
    }

abbrev pub decreases-loop-rest : goal.decreases-loop-rest
decreases-loop-rest l = length l.rest
