use Rattle.std.proofs.Common.{◌≡◌, ◌∷◌, ◌++◌, map, take, get_or}
use Rattle.std.specs.Prelude.{decimal}
use Rattle.std.specs.List.{join_with_byte}
use Rattle.rr_routes.proofs.sheets.sheet.LinkNumbers.write.Given as goal

-- the numbers so far are written, with a hyphen between each two
abbrev pub invariant-loop-number : goal.invariant-loop-number
invariant-loop-number l = l.out.items ≡ l.fn.out.items ++ join_with_byte 45 (map decimal (get_or l.self 0 0 ∷ take l.number-index l.rest))
