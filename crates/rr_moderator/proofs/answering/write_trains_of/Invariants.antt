use Rattle.std.proofs.Common.{◌≡◌, true, ◌+◌, ◌*◌, ◌≤◌, ◌++◌, length, take, codes}
use Rattle.std.specs.List.{flat_map}
use Rattle.rr_roster.specs.Company.{kinds}
use Rattle.rr_books.specs.Book.{Book, train_holder}
use Rattle.rr_desk.specs.Position.Position.{IsPositionOf}
use Rattle.rr_game.specs.Names.{trains_place}
use Rattle.rr_entries.specs.Words.{spaced}
use Rattle.rr_moderator.specs.Durability.{tells_answer}
use Rattle.rr_moderator.specs.Queries.{trains_of}
use Rattle.rr_moderator.proofs.answering.write_trains_of.Given as goal

abbrev pub invariant-loop-kind : goal.invariant-loop-kind
invariant-loop-kind l = record {
  bounded : length l.reply ≤ 1 + 60 * l.kind-index;
  text : (book : Book) → IsPositionOf book l.game.standing.position
      → l.reply ≡ codes "=" ++ spaced (flat_map (trains_of (train_holder book) (trains_place l.of)) (take l.kind-index kinds));
  front : tells_answer l.reply ≡ true;
}
