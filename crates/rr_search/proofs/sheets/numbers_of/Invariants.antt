use Rattle.std.proofs.Common.{◌≡◌, suc, map, take}
use Rattle.rr_search.proofs.sheets.numbers_of.Given as goal

abbrev pub invariant-loop-link : goal.invariant-loop-link
invariant-loop-link l = l.numbers ≡ map suc (take l.link-index l.link-items)
