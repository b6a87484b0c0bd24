use Rattle.std.proofs.Common.{◌≡◌, ℕ, ◌||◌, ltb, false, get_or, length}
use Rattle.rr_pages.specs.PageSet.{marks_of}
use Rattle.rr_pages.proofs.free_pages.take_front.Given as goal

abbrev pub invariant-loop-page : goal.invariant-loop-page
invariant-loop-page l =
    record {
      whole : length (marks_of l.taken) ≡ 65536;
      marks : (other : ℕ) → get_or (marks_of l.taken) other false ≡ (ltb other l.page || get_or (marks_of l.fn.taken) other false);
    }
