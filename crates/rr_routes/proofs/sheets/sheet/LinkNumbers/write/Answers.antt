use Rattle.std.proofs.Common.{◌≡◌, ℕ, ◌-◌, List, [], ◌∷◌, ◌++◌, get_or, take, drop, length, refl}
use Rattle.std.specs.Prelude.{decimal}
use Rattle.rr_routes.proofs.SheetsLemmas.JoinedLemmas.{joined-next}
use Rattle.rr_routes.proofs.sheets.sheet.LinkNumbers.write.Goals as goal

pub loop-number-preserved : goal.loop-number-preserved
loop-number-preserved c =
    let behind : List ℕ = take (length c.as_slice.result.now - 1) (drop 1 c.as_slice.result.now) in
    let apart : c.push-in-loop-number.new.self.items ≡ c.loop-number.out.items ++ 45 ∷ [] = (c.in_ok-push-2.ensures {u = tt}).items in
    joined-next 45 decimal c.args.out.now.items c.loop-number.out.items c.push-in-loop-number.new.self.items c.write_number-in-loop-number.new.out.items
    (get_or c.args.self.now 0 0) behind c.loop-number.number-index (get_or behind c.loop-number.number-index 0) 0
    c.loop-number-test.true refl c.loop-number.invariant apart (c.in_ok-write_number-2.ensures {u = tt})
