-- What a file holds, and the least clause that it breaks. The clauses that the bytes alone decide are the fields of the
-- roots, and then the chains that can be found: their page numbers, pages reached twice, used bytes, and the forms of
-- the directory and of the tables' chains. Records are read last, and tell no damage here: a kit that is refused and
-- commands that aren't lawful come before them.
use Rattle.std.specs.Prelude.{◌≡◌, ℕ, ◌+◌, ◌≤◌, Bool, List, [], ◌∷◌, ◌++◌, length, None, Result, Ok, Err}
use Rattle.rr_pages.specs.declared.page.TheConstants.{MOST_PAGES}
use Rattle.rr_reading.specs.Dir.Directory.{Directory, Spells}
use Rattle.rr_reading.specs.Dir.Heads.{heads_of}
use Rattle.rr_reading.specs.Dir.Version.{version_number}
use Rattle.rr_reading.specs.declared.dir.version.Version.{Version}
use Rattle.rr_images.specs.Following.{AllRead}
use Rattle.rr_images.specs.Holding.{HeldChain}
use Rattle.rr_pages.specs.Journal.Run.{Run}
use Rattle.rr_pages.specs.Choosing.{IsNoStore, HasBadField}
use Rattle.rr_pages.specs.Journal.Layout.{other_half}
use Rattle.rr_pages.specs.declared.root.Root.{Root}
use Rattle.rr_pages.specs.Reading.{IsWhole}
use Rattle.rr_pages.specs.Roots.{Stale, IsTaken}
use Rattle.rr_pages.specs.Sets.{IsEmpty}
use Rattle.rr_pages.specs.Walk.{Walk}
use Rattle.rr_reading.specs.declared.contents.Contents.{Contents}
use Rattle.rr_pages.specs.declared.fault.Damage.{Damage}
use Rattle.rr_pages.specs.declared.fault.Damage.TheVariants.{RootField, PageOutside, PageTwice, UsedBytes, Form}
use Rattle.rr_reading.specs.declared.fault.Fault.{Fault}
use Rattle.rr_reading.specs.declared.fault.Fault.TheVariants.{Damaged, NotAStore, Disk, OutOfMemory}
use Rattle.rr_reading.specs.Chains.{FoundChain, AllFollowed, HasOne, LeadsOutside, ReachesTwice, IsOverfull, HasOtherLength, AreOfForm}
use Rattle.rr_pages.specs.Faults.{clause_of}
use Rattle.rr_reading.specs.Held.{TextChains, chains_of, Held, held_of}

-- the root on this side is taken
abbrev pub TakesRoot : List ℕ → Bool → Root → Type 0
TakesRoot file side root = (stale : Stale) × IsTaken file side root stale

-- one of the roots is taken
abbrev pub HasRoot : List ℕ → Type 0
HasRoot file = (side : Bool) × (root : Root) × TakesRoot file side root

-- no page is reached
pub record NoneReached (marks : List Bool) : Type 0 where
  pub empty : IsEmpty marks
  pub whole : length marks ≡ MOST_PAGES

-- the chain of a root's directory is whole, and reaches these pages
pub record ReadsDirectory (file : List ℕ) (root : Root) (reached : List Bool) (chain : HeldChain) : Type 0 where
  pub before : List Bool
  pub none : NoneReached before
  pub whole : IsWhole file root.pages before root.directory None reached chain.pages chain.text

-- or it is followed as far as it goes
pub record FollowsDirectory (file : List ℕ) (root : Root) (chain : FoundChain) : Type 0 where
  pub before : List Bool
  pub none : NoneReached before
  pub unstated : chain.stated ≡ None
  pub walk : Walk file root.pages before root.directory chain.pages chain.end

-- a directory's chain that is whole, as it was followed
abbrev pub directory_chain : HeldChain → FoundChain
directory_chain chain = record { pages = chain.pages; end = None; stated = None }

-- in a file of this version these bytes are this directory
pub record IsDirectory (number : ℕ) (bytes : List ℕ) (directory : Directory) : Type 0 where
  pub version : Version
  pub numbered : version_number version ≡ number
  pub spelled : Spells version bytes directory

-- a root that is taken has a directory, which is read so far
pub record HasDirectory (file : List ℕ) (side : Bool) (root : Root) (reached : List Bool) (chain : HeldChain)
    (directory : Directory) : Type 0 where
  pub taken : TakesRoot file side root
  pub read : ReadsDirectory file root reached chain
  pub form : IsDirectory root.version chain.text directory

-- a root that is taken reaches its directory and the chains that this names, and the tables' chains are of their form
pub record HoldsChains (file : List ℕ) (side : Bool) (root : Root) (directory : Directory) (chain : HeldChain)
    (texts : TextChains) (tables snapshots : List HeldChain) (reached : List Bool) : Type 0 where
  pub of_directory : List Bool
  pub has_directory : HasDirectory file side root of_directory chain directory
  pub whole : AllRead file root.pages of_directory (heads_of directory) reached (chains_of texts (tables ++ snapshots))
  pub counted : length tables ≡ length directory.tables
  pub forms : AreOfForm directory.tables tables

-- the file holds this
pub record Holds (file : List ℕ) (has : Held) : Type 0 where
  pub chains : HoldsChains file has.side has.root has.directory has.chain has.texts has.tables has.snapshots has.reached
  pub near_run : Run file has.root.half 0 has.root.first has.near has.near_end
  pub far_run : Run file (other_half has.root.half) 0 (has.root.first + length has.near) has.far has.far_end

-- all chains that a directory names are whole, and those of the tables aren't all of their form
pub record HasBadTable (file : List ℕ) : Type 0 where
  pub side : Bool
  pub root : Root
  pub of_directory : List Bool
  pub chain : HeldChain
  pub directory : Directory
  pub has_directory : HasDirectory file side root of_directory chain directory
  pub reached : List Bool
  pub texts : TextChains
  pub others : List HeldChain
  pub whole : AllRead file root.pages of_directory (heads_of directory) reached (chains_of texts others)
  pub formless : AreOfForm directory.tables others → ⊥

-- All chains that can be found: that of the directory of the root that is taken, and where a directory can be read the
-- chains that it names.
pub data AreFound (file : List ℕ) (found : List FoundChain) : Type 0 where
  Directory_alone : (side : Bool) (root : Root) (chain : FoundChain) → found ≡ chain ∷ [] → TakesRoot file side root
      → FollowsDirectory file root chain
      → ((reached : List Bool) (held : HeldChain) (directory : Directory) → HasDirectory file side root reached held directory → ⊥)
      → AreFound file found
  With_named : (side : Bool) (root : Root) (reached after : List Bool) (chain : HeldChain) (directory : Directory)
      → (named : List FoundChain) → found ≡ directory_chain chain ∷ named
      → HasDirectory file side root reached chain directory
      → AllFollowed file root.pages reached (heads_of directory) after named → AreFound file found

-- one of the chains that can be found has this
abbrev pub HasFound : List ℕ → (FoundChain → Type 0) → Type 0
HasFound file P = (found : List FoundChain) × AreFound file found × HasOne P found

-- The bytes of the directory spell none, or a chain has another length than the directory says, or a table's chain
-- isn't as many commands as it says. That is judged once all chains are whole: where one isn't, a clause that is no
-- higher is broken.
pub data IsOfNoForm (file : List ℕ) : Type 0 where
  Of_directory : (side : Bool) (root : Root) (reached : List Bool) (chain : HeldChain) → TakesRoot file side root
      → ReadsDirectory file root reached chain
      → ((directory : Directory) → IsDirectory root.version chain.text directory → ⊥) → IsOfNoForm file
  Of_length : HasFound file (HasOtherLength file) → IsOfNoForm file
  Of_table : HasBadTable file → IsOfNoForm file

-- the file breaks the clause, of those that its bytes alone decide
abbrev pub Breaks : List ℕ → Damage → Type 0
Breaks file RootField = HasBadField file
Breaks file PageOutside = HasFound file LeadsOutside
Breaks file PageTwice = HasFound file ReachesTwice
Breaks file UsedBytes = HasFound file (IsOverfull file)
Breaks file Form = IsOfNoForm file
Breaks file _ = ⊥

-- the file is a damaged store: it breaks this clause, and none that is lower
pub record IsDamage (file : List ℕ) (damage : Damage) : Type 0 where
  pub store : IsNoStore file → ⊥
  pub broken : Breaks file damage
  pub least : (other : Damage) → Breaks file other → clause_of damage ≤ clause_of other

-- why a file isn't read. The device may fail at any file, and memory is wanted only where a root is taken
abbrev pub Refuses : List ℕ → Fault → Type 0
Refuses file (Damaged damage) = IsDamage file damage
Refuses file NotAStore = IsNoStore file
Refuses file (Disk fault) = Unit {0}
Refuses file OutOfMemory = HasRoot file

-- what reading a file answers
abbrev pub Reads : List ℕ → Result Contents Fault → Type 0
Reads file (Ok contents) = Holds file (held_of file contents)
Reads file (Err fault) = Refuses file fault
