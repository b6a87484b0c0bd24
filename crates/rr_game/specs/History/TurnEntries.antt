-- The entries that the commands of a turn added to a table's book, and the turns whose entries can be read.
use Rattle.std.specs.Prelude.{ℕ, ◌-◌, ◌==◌, Bool, List, drop, length, Option, None, Some, if◌then◌else◌}
use Rattle.rr_kit.specs.declared.kit.Kit.{Kit}
use Rattle.rr_books.specs.Book.{Book}
use Rattle.rr_code.specs.declared.command.Command.{Command}
use Rattle.rr_turns.specs.Kept.{Kept}
use Rattle.rr_turns.specs.Turns.{first_turns}
use Rattle.rr_game.specs.declared.history.fault.Fault.{Fault}
use Rattle.rr_game.specs.declared.history.fault.Fault.TheVariants as F
use Rattle.rr_game.specs.History.Verdict.{is_kept_turn}
use Rattle.rr_game.specs.Play.{play}
use Rattle.rr_game.specs.Turning.{ends_turn}

-- the book after the first n turns
abbrev pub book_at : Kit → List Command → ℕ → Book
book_at kit commands turn = (play kit (first_turns (ends_turn kit) turn commands)).book

-- the entries of a turn: the book at its end, without the book at the end of the turn before; those of turn 0 are the
-- opening's
abbrev pub turn_entries : Kit → List Command → ℕ → Book
turn_entries kit commands turn =
    if turn == 0 then book_at kit commands 0
    else drop (length (book_at kit commands (turn - 1))) (book_at kit commands turn)

-- a turn's entries can be read if the table can be taken back to the turn before; those of turn 0, if no turn is
-- forgotten
abbrev pub is_readable_turn : Kit → Kept Command → ℕ → Bool
is_readable_turn kit table turn = if turn == 0 then table.floor == 0 else is_kept_turn kit table (turn - 1)

-- why a turn's entries can't be read, if they can't
abbrev pub book_verdict : Kit → Kept Command → ℕ → Option Fault
book_verdict kit table turn = if is_readable_turn kit table turn then None else Some F.TurnNotKept
