-- Which texts of a kit are right, what they spell, and why others are refused.
use Rattle.std.specs.Prelude.{◌≡◌, ◌≢◌, ℕ, ◌<◌, ◌≤◌, ◌⊎◌, List, length, Err}
use Rattle.std.specs.Str.{IsUtf8}
use Rattle.rr_words.specs.declared.text.TheConstants.{TEXT_BYTES}
use Rattle.rr_roster.specs.Chart.Chart.{Row}
use Rattle.rr_roster.specs.Chart.Reading as chart
use Rattle.rr_roster.specs.declared.chart.fault.Fault as chart_fault
use Rattle.rr_roster.specs.Terms.{Terms}
use Rattle.rr_roster.specs.Reading as roster
use Rattle.rr_roster.specs.Reading.{IsAnswer}
use Rattle.rr_roster.specs.declared.fault.Fault as roster_fault
use Rattle.rr_tiles.specs.Manifest as manifest
use Rattle.rr_tiles.specs.declared.supply.Supply.{Supply}
use Rattle.rr_tiles.specs.declared.fault.Fault as manifest_fault
use Rattle.rr_kit.specs.Board.Reading as board
use Rattle.rr_kit.specs.Board.Plan.{Plan}
use Rattle.rr_kit.specs.declared.board.fault.Fault as board_fault
use Rattle.rr_kit.specs.declared.kit.Kit.{Kit}
use Rattle.rr_kit.specs.declared.fault.Fault.{Fault}
use Rattle.rr_kit.specs.declared.fault.Fault.TheVariants as F
use Rattle.rr_kit.specs.Fault.{of_board, of_chart, of_manifest, of_roster}

-- the four texts of a kit
pub record KitTexts : Type 0 where
  pub chart : List ℕ
  pub roster : List ℕ
  pub tiles : List ℕ
  pub board : List ℕ

abbrev pub texts_of : List ℕ → List ℕ → List ℕ → List ℕ → KitTexts
texts_of chart_text roster_text tiles_text board_text = record { chart = chart_text; roster = roster_text; tiles = tiles_text; board = board_text }

-- the text spells a chart
abbrev pub IsChartText : List ℕ → Type 0
IsChartText text = (rows : List Row) × chart.Spells text rows

-- the text spells this roster, which keeps every rule, and is no longer than a kit's text may be
pub record IsRosterText (text : List ℕ) (terms : Terms) : Type 0 where
  pub spelled : roster.SpellsRoster text terms
  pub short : length text ≤ TEXT_BYTES

-- the text spells a manifest
abbrev pub IsManifestText : List ℕ → Type 0
IsManifestText text = (supplies : List Supply) × manifest.Spells text supplies

-- the text spells a board
abbrev pub IsBoardText : List ℕ → Type 0
IsBoardText text = (plan : Plan) × board.Spells text plan

-- why a chart's text is refused: by its first wrong word, if one is wrong. Memory may be wanting only for ASCII
abbrev pub RefusesChart : List ℕ → Fault → Type 0
RefusesChart text fault = (cause : chart_fault.Fault) × (fault ≡ of_chart cause) × chart.IsRefusal text cause

-- bytes that are a text, no longer than a kit's text may be
pub record IsShortText (text : List ℕ) : Type 0 where
  pub short : length text ≤ TEXT_BYTES
  pub is_text : IsUtf8 text

-- why a roster's text is refused: it is too long, or no text, or else of another shape, or breaks a rule, or memory is wanting
abbrev pub RefusesRoster : List ℕ → Fault → Type 0
RefusesRoster text fault =
    ((TEXT_BYTES < length text) × (fault ≡ F.BadRoster))
    ⊎ ((¬ IsUtf8 text) × (fault ≡ F.BadRoster))
    ⊎ (IsShortText text × (cause : roster_fault.Fault) × (fault ≡ of_roster cause) × IsAnswer text (Err cause))

-- why a manifest's text is refused: by its first wrong line, if one is wrong. Memory may be wanting only for ASCII
abbrev pub RefusesManifest : List ℕ → Fault → Type 0
RefusesManifest text fault = (cause : manifest_fault.Fault) × (fault ≡ of_manifest cause) × manifest.IsRefusal text cause

-- why a board's text is refused: by its first wrong line, if one is wrong. Memory may be wanting only for ASCII
abbrev pub RefusesBoard : List ℕ → Fault → Type 0
RefusesBoard text fault = (cause : board_fault.Fault) × (fault ≡ of_board cause) × board.IsRefusal text cause

-- the four texts spell the kit
pub record SpellsKit (texts : KitTexts) (kit : Kit) : Type 0 where
  pub chart : chart.Spells texts.chart kit.chart
  pub roster : IsRosterText texts.roster kit.roster
  pub tiles : manifest.Spells texts.tiles kit.tiles
  pub board : board.Spells texts.board kit.board

-- texts spell one kit
abbrev pub OneKit : Type 0
OneKit = (texts : KitTexts) (kit other : Kit) → SpellsKit texts kit → SpellsKit texts other → kit ≡ other

-- each of the four texts is right
abbrev pub IsRightKit : KitTexts → Type 0
IsRightKit texts = (kit : Kit) × SpellsKit texts kit

-- chart and roster are right
abbrev pub HasRoster : KitTexts → Type 0
HasRoster texts = IsChartText texts.chart × (terms : Terms) × IsRosterText texts.roster terms

-- why a kit is refused: the first text that is refused, in the order chart, roster, tiles, board
abbrev pub RefusesKit : KitTexts → Fault → Type 0
RefusesKit texts fault =
    RefusesChart texts.chart fault
    ⊎ (IsChartText texts.chart × RefusesRoster texts.roster fault)
    ⊎ (HasRoster texts × RefusesManifest texts.tiles fault)
    ⊎ (HasRoster texts × IsManifestText texts.tiles × RefusesBoard texts.board fault)

-- a text of the kit is wrong
abbrev pub IsWrongKit : KitTexts → Type 0
IsWrongKit texts = (fault : Fault) × (fault ≢ F.OutOfMemory) × RefusesKit texts fault
