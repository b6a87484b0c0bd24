-- What trains earned, and dividends that a table paid or withheld, in whole games.
use Rattle.std.specs.Prelude.{◌≡◌, ◌⊎◌, ℕ, ◌+◌, ◌*◌, Bool, true, false, List, [], ◌∷◌, ◌++◌, Option, None, Some, fold, is_some}
use Rattle.std.specs.List.{list_any}
use Rattle.rr_roster.specs.declared.company.Corp.{Corp}
use Rattle.rr_books.specs.declared.parties.Money.{Money}
use Rattle.rr_books.specs.Book.{Book}
use Rattle.rr_desk.specs.Incomes.{dollars}
use Rattle.rr_operate.specs.Dividends.DividendLaws.{IsPaidOut, IsWithheld, OfferingIsNotPaid}
use Rattle.rr_code.specs.declared.command.Command.{Command}
use Rattle.rr_code.specs.declared.command.Command.TheVariants.{Order}
use Rattle.rr_orders.specs.declared.order.Order.TheVariants.{End, Hold, PayOut, Run as RunTrains, RunBest}
use Rattle.rr_kit.specs.declared.kit.Kit.{Kit}
use Rattle.rr_kit.specs.Kits.{KitTexts, SpellsKit}
use Rattle.rr_routes.specs.Routes.{Optimal, Run, Trip, earned}
use Rattle.rr_routes.specs.declared.sheets.sheet.TrainWord.{TrainWord}
use Rattle.rr_routes.specs.Sheets.Sheet.{SpellsSheet}
use Rattle.rr_referee.specs.Sheets.{IsSheetOf}
use Rattle.rr_running.specs.Running.{net_now, run_revenue}
use Rattle.rr_game.specs.Play.{play}
use Rattle.rr_laws.specs.Revenue.{revenue_of}
use Rattle.rr_laws.specs.Sound.{ArePlayed}

-- a revenue is a number of tens
abbrev pub IsInTens : Money → Type 0
IsInTens revenue = (tens : ℕ) × (revenue ≡ dollars (10 * tens))

-- with a right kit, what trains earned in the turn under way is so after any commands, lawful or not
abbrev pub RevenuesAreInTens : Type 0
RevenuesAreInTens = (texts : KitTexts) (kit : Kit) (commands : List Command) → SpellsKit texts kit → IsInTens (play kit commands).revenue

-- A revenue, a multiple of ten, was shared by percentage: the bank lost just what seats and pool were due, each seat
-- gained its part and the corporation the pool's, and nobody the offering's.
pub record IsShared (before after : Book) (c : Corp) (revenue : Money) : Type 0 where
  pub tens : ℕ
  pub is_tens : revenue ≡ dollars (10 * tens)
  pub paid : IsPaidOut before after c (10 * tens)
  pub offering : OfferingIsNotPaid before c (10 * tens)

-- with such a kit, each dividend that a table paid shared so what the trains had earned in that turn, by the book
abbrev pub DividendsWereRight : Type 0
DividendsWereRight =
    (texts : KitTexts) (kit : Kit) (front rest : List Command) (c : Corp) → SpellsKit texts kit → ArePlayed kit (front ++ Order (PayOut c) ∷ rest)
    → IsShared (play kit front).book (play kit (front ++ Order (PayOut c) ∷ [])).book c (revenue_of kit (play kit front).book)

-- and with every kit, if a corporation kept what they had earned, it got that whole
abbrev pub HeldRevenuesWereWithheld : Type 0
HeldRevenuesWereWithheld =
    (kit : Kit) (front rest : List Command) (c : Corp) → ArePlayed kit (front ++ Order (Hold c) ∷ rest)
    → IsWithheld (play kit front).book (play kit (front ++ Order (Hold c) ∷ [])).book c (revenue_of kit (play kit front).book)

-- the command that runs a corporation's trains by the words of a sheet; for a run as best, also with those of a certificate
abbrev pub run_of : Corp → List ℕ → Option (List ℕ) → Command
run_of c words None = Order (RunTrains c words)
run_of c words (Some certificate) = Order (RunBest c words certificate)

-- the command runs trains, or ends a corporation's turn
abbrev pub runs_or_ends : Command → Bool
runs_or_ends (Order (RunTrains c words)) = true
runs_or_ends (Order (RunBest c words certificate)) = true
runs_or_ends (Order (End c)) = true
runs_or_ends _ = false

-- how often trains have run in a turn, after one command more
abbrev pub runs_after : ℕ → Command → ℕ
runs_after n (Order (RunTrains c words)) = n + 1
runs_after n (Order (RunBest c words certificate)) = n + 1
runs_after n (Order (End c)) = 0
runs_after n _ = n

-- how often they have since the last end of a turn
unfoldable pub runs_in_turn : List Command → ℕ
runs_in_turn commands = fold runs_after 0 commands

-- the words are the sheet of a legal run of the corporation's trains over the board as this book has it, and they earn
-- what that run earns there
pub record IsLegalRun (kit : Kit) (book : Book) (c : Corp) (words : List ℕ) : Type 0 where
  pub sheet : List TrainWord
  pub spelled : SpellsSheet words sheet
  pub run : List Trip
  pub is_run : Run (net_now kit.board kit.tiles book c) run
  pub written : IsSheetOf (net_now kit.board kit.tiles book c) sheet run
  pub pays : run_revenue kit book c words ≡ dollars (earned (net_now kit.board kit.tiles book c) run)

-- The corporation's trains have run exactly once in the turn under way: the commands are those before the run, the run,
-- and those since. No trains ran in that turn before it; none have run, and no turn has ended, since. The run was legal on
-- the board as it lay then, and if it was run as best, no legal run earned more. What the trains have earned by the book
-- now is what that run earned there.
pub record HasRunOnce (kit : Kit) (commands : List Command) (c : Corp) : Type 0 where
  pub before : List Command
  pub words : List ℕ
  pub certificate : Option (List ℕ)
  pub since : List Command
  pub stands : commands ≡ before ++ run_of c words certificate ∷ since
  pub none_before : runs_in_turn before ≡ 0
  pub none_since : list_any runs_or_ends since ≡ false
  pub legal : IsLegalRun kit (play kit before).book c words
  pub best : is_some certificate ≡ true → Optimal (net_now kit.board kit.tiles (play kit before).book c) legal.run
  pub earns : revenue_of kit (play kit commands).book ≡ dollars (earned (net_now kit.board kit.tiles (play kit before).book c) legal.run)

-- no trains have run in the turn under way, and by the book they have earned nothing
pub record HasNotRun (kit : Kit) (commands : List Command) : Type 0 where
  pub none : runs_in_turn commands ≡ 0
  pub earns : revenue_of kit (play kit commands).book ≡ dollars 0

-- a dividend that a corporation pays after these commands: its trains have run once in this turn, and what that run
-- earned is shared
pub record IsRightDividend (kit : Kit) (front : List Command) (c : Corp) : Type 0 where
  pub ran : HasRunOnce kit front c
  pub shared : IsShared (play kit front).book (play kit (front ++ Order (PayOut c) ∷ [])).book c (revenue_of kit (play kit front).book)

-- one that it withholds: its trains have run once in this turn, or not at all; it gets what that run earned, or nothing
pub record IsRightlyWithheld (kit : Kit) (front : List Command) (c : Corp) : Type 0 where
  pub ran : HasRunOnce kit front c ⊎ HasNotRun kit front
  pub withheld : IsWithheld (play kit front).book (play kit (front ++ Order (Hold c) ∷ [])).book c (revenue_of kit (play kit front).book)

-- each dividend that stands in the commands is right, and so is each that is withheld
pub record HasRightDividends (kit : Kit) (commands : List Command) : Type 0 where
  pub paid : (front rest : List Command) (c : Corp) → commands ≡ front ++ Order (PayOut c) ∷ rest → IsRightDividend kit front c
  pub held : (front rest : List Command) (c : Corp) → commands ≡ front ++ Order (Hold c) ∷ rest → IsRightlyWithheld kit front c

-- with a right kit, whatever commands a table is played with, it never pays a wrong dividend
abbrev pub NeverPaysAWrongDividend : Type 0
NeverPaysAWrongDividend = (texts : KitTexts) (kit : Kit) (commands : List Command) → SpellsKit texts kit → ArePlayed kit commands → HasRightDividends kit commands
