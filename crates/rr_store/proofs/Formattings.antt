-- What a formatting leaves.
use Rattle.std.proofs.Common.{◌≡◌, ◌⊎◌, inl, inr, ℕ, List, [], Ok, subst}
use Rattle.rr_disk.specs.Disk.{DiskState}
use Rattle.rr_disk.specs.Moments.{EachImage, LeavesOnly}
use Rattle.rr_disk.proofs.MomentLemmas.{weaker}
use Rattle.rr_kit.specs.Kits.{IsRightKit, KitTexts}
use Rattle.rr_log.proofs.FormattingLemmas.Moments.{new_keeps}
use Rattle.rr_pages.specs.Choosing.{IsNoStore}
use Rattle.rr_reading.proofs.DirLemmas.VersionLemmas.{one_version}
use Rattle.rr_reading.specs.Dir.Version.{version_number}
use Rattle.rr_reading.specs.declared.dir.version.Version.{Version}
use Rattle.rr_tables.specs.Records.Headline.{KeepsTables}
use Rattle.rr_tables.specs.Records.Taking.{table_files}
use Rattle.rr_tables.specs.Records.Words.{in_words}
use Rattle.rr_store.specs.Allowing.{FormatAllowsAs}
use Rattle.rr_store.specs.declared.fault.Fault.{Fault}
use Rattle.rr_store.specs.Files.{IsNewStoreOf}
use Rattle.rr_store.specs.Formatting.{RefusesFormatAs}
use Rattle.rr_store.proofs.Worlds.{kept_stand}

-- a new store keeps no table
new_store : (version : Version) (texts : KitTexts) (image : List ℕ) → IsNewStoreOf version texts image → KeepsTables texts [] image
new_store version texts image new = new_keeps table_files (version_number version) (in_words texts []) image new

pub format_done : (version : Version) (texts : KitTexts) (old new : DiskState) → IsRightKit texts → EachImage new (IsNewStoreOf version texts) → FormatAllowsAs version texts old new (Ok tt)
format_done version texts old new right each = (
  right,
  each,
  λ image is. new_store version texts image (each image is),
  λ image is. kept_stand texts right.0 [] right.1 (record { spelled = tt; played = tt }) image (new_store version texts image (each image is)),
)

-- what a stop leaves keeps no table, where it is a new store
none_or_tables : (version : Version) (texts : KitTexts) (image : List ℕ) → IsNoStore image ⊎ IsNewStoreOf version texts image → IsNoStore image ⊎ KeepsTables texts [] image
none_or_tables version texts image (inl none) = inl none
none_or_tables version texts image (inr new) = inr (new_store version texts image new)

pub leaves_tables : (version : Version) (texts : KitTexts) {past past_new : List DiskState} {old new : DiskState} → LeavesOnly past old past_new new (λ image. IsNoStore image ⊎ IsNewStoreOf version texts image)
    → LeavesOnly past old past_new new (λ image. IsNoStore image ⊎ KeepsTables texts [] image)
leaves_tables version texts leaves = weaker leaves (λ image. IsNoStore image ⊎ KeepsTables texts [] image) (none_or_tables version texts)

-- a number is one version's, so what is refused for that one is refused for each of this number
pub refused_of : (version of : Version) (Honest : Type 0) (file : List ℕ) (texts : KitTexts) (fault : Fault) → version_number version ≡ version_number of
    → RefusesFormatAs version Honest file texts fault → RefusesFormatAs of Honest file texts fault
refused_of version of Honest file texts fault same refuses = subst (λ (v : Version). RefusesFormatAs v Honest file texts fault) (one_version version of same) refuses
