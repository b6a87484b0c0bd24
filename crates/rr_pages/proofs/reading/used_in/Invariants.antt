use Rattle.std.proofs.Common.{◌≡◌, ◌*◌, ◌≤◌, sum_by, take}
use Rattle.rr_pages.proofs.reading.used_in.Given as goal

abbrev pub invariant-loop-link : goal.invariant-loop-link
invariant-loop-link l =
    record {
      total : l.total ≡ sum_by (λ link. link.used) (take l.link-index l.links);
      small : l.total ≤ 65535 * l.link-index;
    }
