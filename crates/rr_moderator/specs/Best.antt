-- The best run of a corporation: when it is searched, which runs may be found, and why there may be none.
use Rattle.std.specs.Prelude.{◌≡◌, ℕ, ◌+◌, ◌-◌, ◌≤◌, List, [], length, Option, None, Some, decimal}
use Rattle.rr_search.specs.BestRun.Worded.{MayLackRun}
use Rattle.rr_books.specs.Book.{Book}
use Rattle.rr_code.specs.declared.command.Command.{Command}
use Rattle.rr_code.specs.declared.command.Command.TheVariants.{Order}
use Rattle.rr_code.specs.declared.line.Line.TheVariants as L
use Rattle.rr_code.specs.Line.{line_text}
use Rattle.rr_code.specs.Request.{IsRequest}
use Rattle.rr_game.specs.Play.{play}
use Rattle.rr_kit.specs.declared.kit.Kit.{Kit}
use Rattle.rr_orders.specs.declared.order.Order.TheVariants as O
use Rattle.rr_roster.specs.declared.company.Corp.{Corp}
use Rattle.rr_running.specs.Running.{IsBestRunVerdict, net_now}
use Rattle.rr_tables.specs.declared.records.fault.Fault as judge
use Rattle.rr_tables.specs.Records.World.{TableState, step_judgement}
use Rattle.rr_turns.specs.declared.request.Request.{Request}
use Rattle.rr_turns.specs.declared.request.Request.TheVariants.{Play}
use Rattle.rr_moderator.specs.declared.fault.Fault.{Fault}
use Rattle.rr_moderator.specs.declared.fault.Fault.TheVariants as F
use Rattle.rr_moderator.specs.Fault.{of_rules}
use Rattle.rr_words.specs.declared.line.TheConstants.{LONGEST_LINE}

-- the request that runs a corporation's trains by a sheet, with a certificate that no run earns more
abbrev pub best_run : Corp → List ℕ → List ℕ → Request Command
best_run c sheet certificate = Play (Order (O.RunBest c sheet certificate))

-- what refuses a run of the corporation, by checks that take no memory and ask nothing of its sheet and its certificate
abbrev pub run_verdict : Kit → Option TableState → ℕ → Corp → Option judge.Fault
run_verdict kit t stamp c = (step_judgement kit t stamp (Play (Order (O.Run c [])))).first

-- the book of a table
abbrev pub book_of : Kit → TableState → Book
book_of kit t = (play kit t.commands).book

-- how many bytes of a line are left to a run's words, behind the stamp and the table's name
abbrev pub room_behind : ℕ → List ℕ → ℕ
room_behind stamp name = LONGEST_LINE - (length (decimal stamp) + length name + 2)

-- The corporation may run now, these words are a sheet and a certificate with which its run is accepted, so that no run earns
-- more, and they fit into a line.
pub record IsBestRun (kit : Kit) (t : Option TableState) (stamp : ℕ) (name : List ℕ) (c : Corp) (sheet certificate : List ℕ) : Type 0 where
  pub table : TableState
  pub is_there : t ≡ Some table
  pub may_run : run_verdict kit t stamp c ≡ None
  pub of_form : IsRequest (best_run c sheet certificate)
  pub is_best : IsBestRunVerdict kit (book_of kit table) c sheet certificate None
  pub fits : length (line_text (L.Request stamp name (best_run c sheet certificate))) ≤ LONGEST_LINE

-- why no best run is found
pub data LacksRun (kit : Kit) (t : Option TableState) (stamp : ℕ) (name : List ℕ) (c : Corp) : Fault → Type 0 where
  -- the corporation may not run now, whatever the sheet
  MayNotRun : (fault : judge.Fault) → run_verdict kit t stamp c ≡ Some fault → LacksRun kit t stamp name c (of_rules fault)
  -- it may, but the whole tree is too large for a certificate, or a best run has too many words for a line
  HasNone : (table : TableState) → t ≡ Some table → run_verdict kit t stamp c ≡ None
      → MayLackRun (net_now kit.board kit.tiles (book_of kit table) c) c (room_behind stamp name) → LacksRun kit t stamp name c F.NoCertificate
  -- it may, but memory is wanted for the search
  LacksMemory : run_verdict kit t stamp c ≡ None → LacksRun kit t stamp name c F.OutOfMemory
