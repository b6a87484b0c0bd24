-- The version of a root that is taken.
use Rattle.std.proofs.Common.{◌≡◌, ◌≢◌, ℕ, Bool, List, Option, None, Some, MatchOption, refl}
use Rattle.rr_reading.specs.Dir.Version.{version_number}
use Rattle.rr_reading.specs.declared.dir.version.Version.{Version}
use Rattle.rr_pages.specs.declared.root.Root.{Root}
use Rattle.rr_reading.specs.Reading.{TakesRoot}
use Rattle.rr_reading.proofs.DirLemmas.VersionLemmas.{version_of}

pub none_found : (found : Option Version) (number : ℕ) → ((version : Version) → found ≡ Some version → ⊥) → MatchOption found ((version : Version) → version_number version ≢ number) (λ version. version_number version ≡ number)
    → (version : Version) → version_number version ≢ number
none_found None number none told = told
none_found (Some version) number none told = absurd (none version refl)

pub version_known : (file : List ℕ) (side : Bool) (root : Root) → TakesRoot file side root → ((version : Version) → version_number version ≢ root.version) → ⊥
version_known file side root taken unknown =
    let known = version_of root.version taken.1.sound.version in
    unknown known.0 known.1
