-- Why a formatting is refused.
use Rattle.std.specs.Prelude.{◌≡◌, ℕ, ◌<◌, ◌⊎◌, List, length}
use Rattle.rr_kit.specs.declared.fault.Fault as kit
use Rattle.rr_kit.specs.declared.fault.Fault.TheVariants as K
use Rattle.rr_kit.specs.Kits.{IsChartText, IsRightKit, KitTexts, RefusesKit}
use Rattle.rr_log.specs.Formatting.Calls.{data_pages, laying_writes}
use Rattle.rr_reading.specs.declared.dir.version.TheConstants.{NEWEST}
use Rattle.rr_reading.specs.declared.dir.version.Version.{Version}
use Rattle.rr_reading.specs.declared.dir.version.Version.TheVariants.{One, Two}
use Rattle.rr_roster.specs.Reading.{NamesBank}
use Rattle.rr_store.specs.declared.fault.Fault.{Fault}
use Rattle.rr_store.specs.declared.fault.Fault.TheVariants as F
use Rattle.rr_store.specs.Fault.{of_kit}

-- a text of the kit is refused
abbrev pub RefusesTexts : KitTexts → Fault → Type 0
RefusesTexts texts fault = (cause : kit.Fault) × (fault ≡ of_kit cause) × RefusesKit texts cause

-- faults of a kit that are answered before it is asked whether the roster names a bank
abbrev pub ComesFirst : Fault → Type 0
ComesFirst (F.Kit (K.BadChart line place)) = Unit {0}
ComesFirst (F.Kit K.BadRoster) = Unit {0}
ComesFirst F.OutOfMemory = Unit {0}
ComesFirst fault = ⊥

-- the same for a file of this version. Version 1 has no place for a bank, so for it a roster that names one is no roster
abbrev pub RefusesAs : Version → KitTexts → Fault → Type 0
RefusesAs Two texts fault = RefusesTexts texts fault
RefusesAs One texts fault =
    (RefusesTexts texts fault × (NamesBank texts.roster → ComesFirst fault))
    ⊎ (IsChartText texts.chart × NamesBank texts.roster × (fault ≡ F.Kit K.BadRoster))

-- each of the four texts is right, for a file of this version
abbrev pub IsRightAs : Version → KitTexts → Type 0
IsRightAs Two texts = IsRightKit texts
IsRightAs One texts = IsRightKit texts × (NamesBank texts.roster → ⊥)

-- why a formatting is refused, of an honest disk with this file. The kit is judged once the file was found empty
abbrev pub RefusesFormatAs : Version → Type 0 → List ℕ → KitTexts → Fault → Type 0
RefusesFormatAs version Honest file texts fault =
    ((fault ≡ F.NotEmpty) × (Honest → 0 < length file))
    ⊎ RefusesAs version texts fault
    ⊎ (IsRightAs version texts × ((fault ≡ F.DeviceFailed) ⊎ (fault ≡ F.OutOfMemory)))

-- of the newest version
abbrev pub RefusesFormat : Type 0 → List ℕ → KitTexts → Fault → Type 0
RefusesFormat = RefusesFormatAs NEWEST

-- how many writes make a new store of these texts
abbrev pub format_writes : KitTexts → ℕ
format_writes texts = laying_writes (data_pages texts.chart texts.roster texts.tiles texts.board)
