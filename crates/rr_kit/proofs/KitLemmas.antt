-- Kit texts that are no text.
use Rattle.std.proofs.Common.{ℕ, List, inl, inr}
use Rattle.std.specs.Str.{IsUtf8}
use Rattle.std.proofs.lemmas.Str.{IsUtf8-from_ascii}
use Rattle.rr_words.specs.Text.{IsSmallAscii}
use Rattle.rr_roster.specs.declared.chart.fault.Fault.TheVariants as H
use Rattle.rr_roster.specs.Chart.Reading as chart
use Rattle.rr_tiles.specs.declared.fault.Fault.TheVariants as T
use Rattle.rr_tiles.specs.Manifest as manifest
use Rattle.rr_kit.specs.declared.board.fault.Fault.TheVariants as B
use Rattle.rr_kit.specs.Board.Reading as board
use Rattle.rr_kit.specs.declared.fault.Fault.TheVariants as F
use Rattle.rr_kit.specs.Kits.{IsShortText, RefusesBoard, RefusesChart, RefusesManifest, RefusesRoster}

-- what is no text is not ASCII
not_ascii : (text : List ℕ) → ¬ IsUtf8 text → ¬ IsSmallAscii text
not_ascii text none small = none (IsUtf8-from_ascii text small.ascii)

-- and spells no chart, no manifest and no board
pub no_chart : (text : List ℕ) → ¬ IsUtf8 text → chart.IsRefusal text (H.BadChart 0 0)
no_chart text none = (chart.NotSmallAscii (not_ascii text none), λ rows spells. not_ascii text none spells.small_ascii)

pub no_manifest : (text : List ℕ) → ¬ IsUtf8 text → manifest.IsRefusal text (T.BadManifest 0)
no_manifest text none = (manifest.NotSmallAscii (not_ascii text none), λ supplies spells. not_ascii text none spells.small_ascii)

pub no_board : (text : List ℕ) → ¬ IsUtf8 text → board.IsRefusal text (B.BadBoard 0)
no_board text none = (board.NotSmallAscii (not_ascii text none), λ plan spells. not_ascii text none spells.small_ascii)

-- memory is wanted for texts alone
pub chart_memory : (text : List ℕ) → RefusesChart text F.OutOfMemory → IsSmallAscii text
chart_memory text (H.BadChart line word, is, refused) = absurd (cc)
chart_memory text (H.OutOfMemory, is, small) = small

pub manifest_memory : (text : List ℕ) → RefusesManifest text F.OutOfMemory → IsSmallAscii text
manifest_memory text (T.BadManifest line, is, refused) = absurd (cc)
manifest_memory text (T.OutOfMemory, is, small) = small

pub board_memory : (text : List ℕ) → RefusesBoard text F.OutOfMemory → IsSmallAscii text
board_memory text (B.BadBoard line, is, refused) = absurd (cc)
board_memory text (B.OutOfMemory, is, small) = small

pub roster_memory : (text : List ℕ) → RefusesRoster text F.OutOfMemory → IsShortText text
roster_memory text (inl long) = let is = long.1 in absurd (cc)
roster_memory text (inr (inl none)) = let is = none.1 in absurd (cc)
roster_memory text (inr (inr answer)) = answer.0
