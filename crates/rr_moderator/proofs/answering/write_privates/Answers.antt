use Rattle.std.proofs.Common.{arith, rules, codes}
use Rattle.rr_roster.specs.declared.company.Private.TheVariants.{Sv}
use Rattle.rr_books.specs.Shares.{is_at, privates}
use Rattle.rr_books.specs.State.{holder_in}
use Rattle.rr_books.specs.declared.certificates.Cert.TheVariants as C
use Rattle.rr_moderator.proofs.Listing.{written_more}
use Rattle.rr_moderator.proofs.answering.write_privates.Goals as goal

pub loop-private-preserved : goal.loop-private-preserved
loop-private-preserved c = record {
  bounded = omega arith;
  text = written_more (λ p. is_at (holder_in c.args.game.now.standing.position.books (C.Private p)) c.args.place) privates c.loop-private.private-index Sv (codes "=") c.loop-private.reply _ (search rules) c.loop-private.invariant.text c.write_owned.ensures.text;
}
