use Rattle.std.proofs.Common.{◌≡◌, ◌∷◌, [], ◌++◌}
use Rattle.rr_routes.specs.Sheets.Sheet.{train_text}
use Rattle.rr_routes.proofs.SheetsLemmas.JoinedLemmas.{joined-next}
use Rattle.rr_routes.proofs.sheets.sheet.write_words.Goals as goal

pub loop-word-preserved : goal.loop-word-preserved
loop-word-preserved c =
    let apart : c.push.new.self.items ≡ c.loop-word.out.items ++ 32 ∷ [] = (c.in_ok-push.ensures {u = tt}).items in
    joined-next 32 train_text c.args.out.now.items c.loop-word.out.items c.push.new.self.items c.write-in-loop-word.new.out.items
    c.args.first.now c.args.rest.now c.loop-word.word-index c.word-item.result c.word-item.result
    c.loop-word-test.true c.word-item.is c.loop-word.invariant apart (c.in_ok-write-2.ensures {u = tt})
