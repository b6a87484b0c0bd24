-- Files and worlds.
use Rattle.std.proofs.Common.{◌≡◌, ℕ, List, ap, subst}
use Rattle.rr_images.proofs.OneWorld as images
use Rattle.rr_images.proofs.OneWorld.{kept_stands}
use Rattle.rr_kit.specs.declared.kit.Kit.{Kit}
use Rattle.rr_kit.specs.Kits.{KitTexts, SpellsKit}
use Rattle.rr_tables.specs.Records.Headline.{KeepsTables}
use Rattle.rr_tables.specs.Records.Taking.{table_files}
use Rattle.rr_tables.specs.Records.Words.{IsInWords, in_words, kit_texts}
use Rattle.rr_tables.proofs.RecordLemmas.TakingLemmas.{files_are_exact}
use Rattle.rr_tables.proofs.RecordLemmas.WordLemmas.{are_in_words, one_of_commands}
use Rattle.rr_reading.specs.Worlds.World as words
use Rattle.rr_store.specs.Files.{AreTablesOf, StandsFor}
use Rattle.rr_store.specs.Laws.{OneWorld}
use Rattle.rr_store.specs.World.{World}

-- a file that keeps tables of a kit stands for them
pub kept_stand : (texts : KitTexts) (kit : Kit) (tables : World) → SpellsKit texts kit → AreTablesOf kit tables
    → (image : List ℕ) → KeepsTables texts tables image → StandsFor image texts tables
kept_stand texts kit tables right of_kit image keeps =
    record { kit = kit; right = right; tables_of_kit = of_kit; stands = kept_stands table_files keeps.layout image (in_words texts tables) keeps.kept }

pub one_world : OneWorld
one_world file texts others a b one other =
    let same : in_words others b ≡ in_words texts a = images.one_world table_files files_are_exact file (in_words others b) (in_words texts a) other.stands one.stands in
    let there = subst (λ (w : words.World). IsInWords b w) same (are_in_words others b other.tables_of_kit.spelled) in
    (ap kit_texts same, one_of_commands b a (in_words texts a) there (are_in_words texts a one.tables_of_kit.spelled))
