use Rattle.std.proofs.Common.{List, [], ap, arith, take_all, ◌∙◌}
use Rattle.rr_books.specs.Book.{Book}
use Rattle.rr_entries.specs.Words.{joined}
use Rattle.rr_entries.specs.Writing.{with_entries}
use Rattle.rr_entries.proofs.WritingLemmas.{whole}
use Rattle.rr_entries.proofs.entries.text_of.Goals as goal

pub returns : goal.returns
returns c =
    let players = c.args.players.now in
    let books = c.args.books.now in
    c.loop-entries.invariant
    ∙ ap (λ (bs : List Book). with_entries players [] (joined bs)) (take_all c.loop-entries.entries-index books (omega (arith, c.loop-entries-test.false)))
    ∙ whole players (joined books)
