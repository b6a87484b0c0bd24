-- What a corporation's trains earned in the turn under way, by the book alone.
use Rattle.std.specs.Prelude.{◌≡◌, ℕ, Bool, true, false, List, [], ◌∷◌, ◌++◌, Option, None, Some, unwrap_or}
use Rattle.std.specs.List.{list_any}
use Rattle.std.specs.Option.{option_or}
use Rattle.rr_roster.specs.declared.company.Corp.{Corp}
use Rattle.rr_books.specs.declared.acts.Act.TheVariants as A
use Rattle.rr_books.specs.declared.entries.Entry.{Entry}
use Rattle.rr_books.specs.declared.entries.Entry.TheVariants as E
use Rattle.rr_books.specs.declared.entries.Marker.TheVariants as M
use Rattle.rr_books.specs.declared.parties.Money.{Money}
use Rattle.rr_books.specs.Book.{Book}
use Rattle.rr_code.specs.declared.command.Command.{Command}
use Rattle.rr_desk.specs.Incomes.{dollars}
use Rattle.rr_kit.specs.declared.kit.Kit.{Kit}
use Rattle.rr_running.specs.Running.{run_revenue}
use Rattle.rr_game.specs.Play.{play}

-- What trains have earned by an entry. By a run: what its sheet earns on the board and with the trains as the book before
-- it has them. By the end of a turn: nothing. A run as best is the entry with its certificate, which its command follows.
abbrev pub earned_by : Kit → Book → Entry → Option Money
earned_by kit before (E.Step (M.Act (A.Run c words))) = Some (run_revenue kit before c words)
earned_by kit before (E.Best c words certificate) = Some (run_revenue kit before c words)
earned_by kit before (E.Step (M.Act (A.End c))) = Some (dollars 0)
earned_by kit before _ = None

-- what trains have earned by the last of these entries that says so, each judged by the entries before it
abbrev pub last_earned : Kit → Book → Book → Option Money
last_earned kit before [] = None
last_earned kit before (entry ∷ after) = option_or (last_earned kit (before ++ entry ∷ []) after) (earned_by kit before entry)

-- what trains have earned in the turn under way: what the book's last run earned if no turn has ended since, or nothing
unfoldable pub revenue_of : Kit → Book → Money
revenue_of kit book = unwrap_or (last_earned kit [] book) (dollars 0)

-- the entry is a run or the end of a turn
abbrev pub is_run_or_end : Entry → Bool
is_run_or_end (E.Step (M.Act (A.Run c words))) = true
is_run_or_end (E.Best c words certificate) = true
is_run_or_end (E.Step (M.Act (A.End c))) = true
is_run_or_end _ = false

-- It is what the last run earned by the book before that run, if neither a run nor the end of a turn comes after it. It is
-- nothing if a turn has ended since, or if no trains ever ran.
pub record RevenueIsOfTheLastRun : Type 0 where
  pub run : (kit : Kit) (before since : Book) (c : Corp) (words : List ℕ) → list_any is_run_or_end since ≡ false
      → revenue_of kit (before ++ E.Step (M.Act (A.Run c words)) ∷ since) ≡ run_revenue kit before c words
  pub best : (kit : Kit) (before since : Book) (c : Corp) (words certificate : List ℕ) → list_any is_run_or_end since ≡ false
      → revenue_of kit (before ++ E.Best c words certificate ∷ since) ≡ run_revenue kit before c words
  pub ended : (kit : Kit) (before since : Book) (c : Corp) → list_any is_run_or_end since ≡ false
      → revenue_of kit (before ++ E.Step (M.Act (A.End c)) ∷ since) ≡ dollars 0
  pub none : (kit : Kit) (book : Book) → list_any is_run_or_end book ≡ false → revenue_of kit book ≡ dollars 0

-- whatever commands come, lawful or not, what a game keeps as earned is what its book says
abbrev pub RevenuesAreOfTheBook : Type 0
RevenuesAreOfTheBook = (kit : Kit) (commands : List Command) → (play kit commands).revenue ≡ revenue_of kit (play kit commands).book
