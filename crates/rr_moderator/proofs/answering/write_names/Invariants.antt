use Rattle.std.proofs.Common.{◌≡◌, ◌+◌, ◌*◌, ◌≤◌, ◌++◌, length, take, codes}
use Rattle.rr_store.specs.Holding.{held_of}
use Rattle.rr_store.specs.World.{names}
use Rattle.rr_entries.specs.Words.{spaced}
use Rattle.rr_moderator.proofs.answering.write_names.Given as goal

abbrev pub invariant-loop-place : goal.invariant-loop-place
invariant-loop-place g l = record {
  bounded : length l.reply ≤ 1 + 17 * l.place;
  text : l.reply ≡ codes "=" ++ spaced (take l.place (names (held_of l.store).tables));
}
