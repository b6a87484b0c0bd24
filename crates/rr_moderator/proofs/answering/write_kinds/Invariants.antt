use Rattle.std.proofs.Common.{◌≡◌, ◌+◌, ◌*◌, ◌≤◌, ◌++◌, length, replicate}
use Rattle.rr_roster.specs.Company.{kind_name}
use Rattle.rr_entries.specs.Words.{spaced}
use Rattle.rr_moderator.proofs.answering.write_kinds.Given as goal

abbrev pub invariant-loop-written : goal.invariant-loop-written
invariant-loop-written l = record {
  bounded : length l.reply ≤ length l.fn.reply + 3 * l._written;
  text : l.reply ≡ l.fn.reply ++ spaced (replicate l._written (kind_name l.kind));
}
