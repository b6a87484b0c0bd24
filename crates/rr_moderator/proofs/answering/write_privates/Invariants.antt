use Rattle.std.proofs.Common.{◌≡◌, ◌+◌, ◌*◌, ◌≤◌, ◌++◌, length, map, filter, take, codes}
use Rattle.rr_roster.specs.Company.{private_name}
use Rattle.rr_books.specs.declared.certificates.Cert.TheVariants as C
use Rattle.rr_books.specs.Shares.{is_at, privates}
use Rattle.rr_books.specs.State.{holder_in}
use Rattle.rr_entries.specs.Words.{spaced}
use Rattle.rr_moderator.proofs.answering.write_privates.Given as goal

abbrev pub invariant-loop-private : goal.invariant-loop-private
invariant-loop-private l = record {
  bounded : length l.reply ≤ 1 + 5 * l.private-index;
  text : l.reply ≡ codes "=" ++ spaced (map private_name (filter (λ p. is_at (holder_in l.game.standing.position.books (C.Private p)) l.place) (take l.private-index privates)));
}
