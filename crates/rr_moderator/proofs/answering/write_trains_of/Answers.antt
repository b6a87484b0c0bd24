use Rattle.std.proofs.Common.{◌++◌, get_or, arith, rules, codes, ap, ◌∙◌, replicate}
use Rattle.rr_roster.specs.declared.company.Kind.TheVariants.{Two}
use Rattle.rr_roster.specs.Company.{kinds, kind_name}
use Rattle.rr_books.specs.Book.{train_holder}
use Rattle.rr_game.specs.Names.{trains_place}
use Rattle.rr_entries.specs.Words.{spaced}
use Rattle.rr_moderator.specs.Queries.{trains_of}
use Rattle.rr_moderator.proofs.Listing.{words_more}
use Rattle.rr_moderator.proofs.Telling.{told_again}
use Rattle.rr_moderator.proofs.answering.write_trains_of.Goals as goal

pub loop-kind-preserved : goal.loop-kind-preserved
loop-kind-preserved c = record {
  bounded = omega arith;
  text = λ book is. words_more (trains_of (train_holder book) (trains_place c.args.of)) kinds c.loop-kind.kind-index Two (codes "=") c.loop-kind.reply _ (search rules)
      (c.loop-kind.invariant.text book is) (c.write_kinds.ensures.text ∙ ap (λ n. c.loop-kind.reply ++ spaced (replicate n (kind_name (get_or kinds c.loop-kind.kind-index Two)))) (c.trains.ensures.book book is));
  front = told_again c.loop-kind.reply _ _ c.loop-kind.invariant.front c.write_kinds.ensures.text;
}

pub returns-clause-front : goal.returns-clause-front
returns-clause-front c = c.write_nothing.ensures.front c.loop-kind.invariant.front
