-- A new file that stands whole keeps its world.
use Rattle.std.proofs.Common.{ℕ, ◌*◌, ◌<◌, false, List, [], ◌∷◌, ◌++◌, arith}
use Rattle.rr_images.specs.Holding.{pages_of}
use Rattle.rr_images.specs.Layout.{Spelled}
use Rattle.rr_images.proofs.OneWorld.{formatted_keep}
use Rattle.rr_pages.specs.Journal.Layout.{IsOpen, other_half}
use Rattle.rr_pages.specs.declared.chain.FreshPage.{FreshPage}
use Rattle.rr_pages.specs.declared.root.Root.{Root}
use Rattle.rr_pages.specs.Chains.{Chain}
use Rattle.rr_pages.specs.Pages.{AreData}
use Rattle.rr_pages.specs.Roots.{Shut, IsSound, IsTaken, FitsFields}
use Rattle.rr_pages.proofs.RootSpelling.{root_stands}
use Rattle.rr_pages.proofs.Versions.{known_fits}
use Rattle.rr_reading.specs.Worlds.Spelling.{worlds}
use Rattle.rr_reading.specs.Worlds.World.{World, WorldRules}
use Rattle.rr_log.specs.Formatting.Formatted.{HasNewBytes, IsFormatted}
use Rattle.rr_log.specs.Formatting.NewFile.{IsNewFile}
use Rattle.rr_pages.specs.declared.journal.layout.HalfIndex.TheVariants.{First, Second}
use Rattle.rr_pages.specs.declared.journal.layout.HalfIndex.{HalfIndex}

-- a chain in the data pages begins under their count
first_under : (file : List ℕ) (head count : ℕ) (pages text more : List ℕ) → Chain file head pages text → AreData count (pages ++ more) → head < count
first_under file head count [] text more chain in_data = absurd (chain.0 chain.1.0)
first_under file head count (page ∷ pages) text more chain in_data = omega (arith, chain.1.0, in_data.1)

module _ (root : Root) (fresh : List FreshPage) (file : List ℕ) (has : HasNewBytes root fresh file) where
  -- slot 0 of each half is shut
  half_shut : (half : HalfIndex) → IsOpen file half 0 → ⊥
  half_shut First open_gate = omega (arith, has.zeros (4096 * 2) (omega arith) (omega arith), open_gate)
  half_shut Second open_gate = omega (arith, has.zeros (4096 * 258) (omega arith) (omega arith), open_gate)

  pub new_file_kept : (rules : WorldRules) (world : World) → (is : IsNewFile rules root fresh world) → IsFormatted rules root fresh is.holding world file
  new_file_kept rules world is =
      let sound : IsSound file root = is.sound file (omega (arith, has.ends)) in
      let spelled : Spelled (worlds rules) file root is.holding world = is.spells file has.pages in
      let directory : root.directory < root.pages =
      first_under file root.directory root.pages is.holding.directory.pages is.holding.directory.text (pages_of is.holding.chains) spelled.directory spelled.in_data in
      let fits : FitsFields root =
      record {
        number = omega (arith, is.first_root.number);
        directory = omega (arith, directory, sound.pages_high);
        first = omega (arith, is.first_root.first);
        pages = omega (arith, sound.pages_high);
        version = known_fits root.version is.first_root.version;
      } in
      let taken : IsTaken file false root Shut =
      record {
        open_gate = has.open_gate;
        fields = root_stands file false root fits has.root_there;
        sound = sound;
        other = λ open_gate. absurd (omega (arith, has.zeros 4096 (omega arith) (omega arith), open_gate));
      } in
      record {
        bytes = has;
        kept = formatted_keep (worlds rules) file false root is.holding world taken spelled (half_shut root.half) (half_shut (other_half root.half));
      }
