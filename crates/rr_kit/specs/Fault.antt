-- The refusals: their numbers, and the refusals of the layers below as refusals of the game.
use Rattle.std.specs.Prelude.{ℕ}
use Rattle.rr_roster.specs.declared.chart.fault.Fault as chart
use Rattle.rr_roster.specs.declared.chart.fault.Fault.TheVariants as H
use Rattle.rr_roster.specs.declared.fault.Fault as roster
use Rattle.rr_roster.specs.declared.fault.Fault.TheVariants as R
use Rattle.rr_roster.specs.Rules.{rule_number}
use Rattle.rr_tiles.specs.declared.fault.Fault as tiles
use Rattle.rr_tiles.specs.declared.fault.Fault.TheVariants as T
use Rattle.rr_kit.specs.declared.board.fault.Fault as board
use Rattle.rr_kit.specs.declared.board.fault.Fault.TheVariants as B
use Rattle.rr_kit.specs.declared.fault.Fault.{Fault}
use Rattle.rr_kit.specs.declared.fault.Fault.TheVariants as F

-- the number that a reply gives
abbrev pub number_of : Fault → ℕ
number_of (F.BadChart line word) = 3
number_of F.BadRoster = 4
number_of (F.RosterRule rule) = 5
number_of (F.BadManifest line) = 6
number_of (F.BadBoard line) = 7
number_of F.OutOfMemory = 70

abbrev pub of_chart : chart.Fault → Fault
of_chart (H.BadChart line word) = F.BadChart line word
of_chart H.OutOfMemory = F.OutOfMemory

abbrev pub of_roster : roster.Fault → Fault
of_roster R.Shape = F.BadRoster
of_roster (R.Broken rule) = F.RosterRule (rule_number rule)
of_roster R.OutOfMemory = F.OutOfMemory

abbrev pub of_manifest : tiles.Fault → Fault
of_manifest (T.BadManifest line) = F.BadManifest line
of_manifest T.OutOfMemory = F.OutOfMemory

abbrev pub of_board : board.Fault → Fault
of_board (B.BadBoard line) = F.BadBoard line
of_board B.OutOfMemory = F.OutOfMemory
