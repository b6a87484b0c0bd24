use Rattle.std.proofs.Common.{◌≡◌, [], take}
use Rattle.rr_entries.specs.Words.{joined}
use Rattle.rr_entries.specs.Writing.{with_entries}
use Rattle.rr_entries.proofs.entries.text_of.Given as goal

abbrev pub invariant-loop-entries : goal.invariant-loop-entries
invariant-loop-entries l = l.text.items ≡ with_entries l.players [] (joined (take l.entries-index l.books))
