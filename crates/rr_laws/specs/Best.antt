-- Runs paid as best than which no run earned more.
use Rattle.std.specs.Prelude.{◌≡◌, ℕ, List, ◌∷◌, ◌++◌}
use Rattle.rr_roster.specs.declared.company.Corp.{Corp}
use Rattle.rr_books.specs.declared.entries.Entry.TheVariants as E
use Rattle.rr_books.specs.Book.{Book}
use Rattle.rr_code.specs.declared.command.Command.{Command}
use Rattle.rr_code.specs.declared.command.Command.TheVariants.{Order}
use Rattle.rr_orders.specs.declared.order.Order.TheVariants.{RunBest}
use Rattle.rr_kit.specs.declared.kit.Kit.{Kit}
use Rattle.rr_routes.specs.Routes.{Optimal, Trip, earned}
use Rattle.rr_routes.specs.declared.sheets.sheet.TrainWord.{TrainWord}
use Rattle.rr_routes.specs.Sheets.Sheet.{SpellsSheet}
use Rattle.rr_referee.specs.Sheets.{IsSheetOf}
use Rattle.rr_running.specs.Running.{earned_on, net_now}
use Rattle.rr_game.specs.Play.{play}
use Rattle.rr_laws.specs.Sound.{ArePlayed}

-- The words are the sheet of a run of the corporation's trains over the board as this book tells it, no run of them earns
-- more, and it earns what is paid for the words.
pub record IsBestRun (kit : Kit) (book : Book) (c : Corp) (words : List ℕ) : Type 0 where
  pub sheet : List TrainWord
  pub spelled : SpellsSheet words sheet
  pub run : List Trip
  pub written : IsSheetOf (net_now kit.board kit.tiles book c) sheet run
  pub optimal : Optimal (net_now kit.board kit.tiles book c) run
  pub pays : earned_on (net_now kit.board kit.tiles book c) words ≡ earned (net_now kit.board kit.tiles book c) run

-- each run that the book has as best was best in the book before it
abbrev pub HasBestRuns : Kit → Book → Type 0
HasBestRuns kit book =
    (before after : Book) (c : Corp) (sheet certificate : List ℕ)
    → book ≡ before ++ E.Best c sheet certificate ∷ after → IsBestRun kit before c sheet

-- so has a table's book, whatever commands it was played with
abbrev pub BestRunsWereBest : Type 0
BestRunsWereBest = (kit : Kit) (commands : List Command) → ArePlayed kit commands → HasBestRuns kit (play kit commands).book

-- and each command among them that says so was a best run in the book that the commands before it made
abbrev pub BestCommandsWereBest : Type 0
BestCommandsWereBest =
    (kit : Kit) (front rest : List Command) (c : Corp) (sheet certificate : List ℕ)
    → ArePlayed kit (front ++ Order (RunBest c sheet certificate) ∷ rest) → IsBestRun kit (play kit front).book c sheet
