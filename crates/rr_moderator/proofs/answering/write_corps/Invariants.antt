use Rattle.std.proofs.Common.{◌≡◌, ◌+◌, ◌*◌, ◌≤◌, ◌++◌, length, map, take, codes}
use Rattle.rr_roster.specs.Company.{corp_name}
use Rattle.rr_entries.specs.Words.{spaced}
use Rattle.rr_moderator.proofs.answering.write_corps.Given as goal

abbrev pub invariant-loop-corp : goal.invariant-loop-corp
invariant-loop-corp l = record {
  bounded : length l.reply ≤ 1 + 5 * l.corp-index;
  text : l.reply ≡ codes "=" ++ spaced (map corp_name (take l.corp-index l.corps));
}
