-- The laws of layouts: what files stand for, and what each step of a commit and of a checkpoint leaves of them.
use Rattle.std.specs.Prelude.{◌≡◌, ℕ, ◌+◌, ◌^◌, ◌<◌, ◌≤◌, Bool, not, List, [], ◌∷◌, ◌++◌, length}
use Rattle.rr_pages.specs.declared.page.TheConstants.{MOST_PAGES}
use Rattle.rr_disk.specs.Disk.{DiskState, IsImage, after_sync}
use Rattle.rr_disk.specs.Moments.{EachImage}
use Rattle.rr_pages.specs.declared.journal.half.Half.{Half}
use Rattle.rr_pages.specs.Journal.Layout.{IsOpen, HasRoom, other_half}
use Rattle.rr_pages.specs.Journal.Run.{slots_of}
use Rattle.rr_pages.specs.Journal.Stops as journal
use Rattle.rr_pages.specs.declared.chain.FreshPage.{FreshPage}
use Rattle.rr_pages.specs.declared.root.Root.{Root}
use Rattle.rr_pages.specs.Chains.{Chain}
use Rattle.rr_pages.specs.Laying.{head_of, joined}
use Rattle.rr_pages.specs.Roots.{Stale, Shut, IsTaken}
use Rattle.rr_pages.specs.Sets.{Has, AreFree}
use Rattle.rr_pages.specs.Writing.{IsLaid}
use Rattle.rr_images.specs.Codec.{Codec, IsExact}
use Rattle.rr_images.specs.Calls.{Begins, WritesPage, ShutsStale, FillsRoot, OpensRoot, FlipsRoots, Appends}
use Rattle.rr_images.specs.Following.{IsRead}
use Rattle.rr_images.specs.Framing.{IsReadTheSame}
use Rattle.rr_images.specs.Holding.{Holding, texts_of, pages_of, reached_of}
use Rattle.rr_images.specs.Layout.{Spelled, Stands, Layout, Begun, far_lines, KeepsAt, formatted, reading_of, reading_at, opened_far}
use Rattle.rr_images.specs.Plans.{LaidChain, Draft, kept_of, laid_pages, AreLaid, written_chains, plan_made, IsMade}
use Rattle.rr_images.specs.Progress.{Plan, IsPlan, IsBegun, IsNotBegun, Progress, Resting, Writing, Shutting, Filling, IsBetween}
use Rattle.rr_images.specs.Refusing.{IsRefused}
use Rattle.rr_images.specs.Steps.{with_stale, with_far, flipped, ComesNext, lines_at, first_at, GoesOnAt, read_half, read_lines}

module _ (codec : Codec) where
  -- what a file keeps, it stands for
  abbrev pub KeptStands : Type 0
  KeptStands =
      (layout : Layout codec) (file : List ℕ) (world : codec.World) → KeepsAt codec layout file world
      → Stands codec file world

  -- a file stands for one world
  abbrev pub OneWorld : Type 0
  OneWorld =
      IsExact codec → (file : List ℕ) (first second : codec.World) → Stands codec file first → Stands codec file second
      → first ≡ second

  -- an opening reads the same of a file in any way
  abbrev pub OneReading : Type 0
  OneReading =
      IsExact codec → (file : List ℕ) (first second : codec.World)
      → (one : Stands codec file first) (other : Stands codec file second) → reading_of other ≡ reading_of one

  -- and of a file with a layout that layout
  abbrev pub LayoutIsRead : Type 0
  LayoutIsRead =
      IsExact codec → (layout : Layout codec) (file : List ℕ) (world found : codec.World)
      → KeepsAt codec layout file world → (stands : Stands codec file found)
      → (found ≡ world) × (reading_of stands ≡ reading_at layout)

  -- it goes on with what it read
  abbrev pub OpeningGoesOn : Type 0
  OpeningGoesOn =
      (layout : Layout codec) (file : List ℕ) (world : codec.World) → KeepsAt codec layout file world
      → KeepsAt codec (with_far layout (opened_far layout.far)) file world

  -- and after its sync it is between two calls
  abbrev pub OpenedIsBetween : Type 0
  OpenedIsBetween =
      (layout : Layout codec) (state : DiskState) (world : codec.World) → KeepsAt codec layout state.content world
      → IsBetween codec (with_far layout (opened_far layout.far)) (after_sync state) Resting world

  -- what an opening read of a root is spelled there, if it spells a world, and is all that the root reaches
  abbrev pub ReadIsSpelled : Type 0
  ReadIsSpelled =
      (file : List ℕ) (root : Root) (holding : Holding) (after : List Bool) (world : codec.World) → root.pages ≤ MOST_PAGES
      → IsRead codec file root holding after
      → codec.Spells root.version holding.directory.text (texts_of holding.chains) world
      → Spelled codec file root holding world × Has after (reached_of holding)

  -- a file that is refused stands for nothing
  abbrev pub RefusedStandsForNothing : Type 0
  RefusedStandsForNothing =
      IsExact codec → (file : List ℕ) (world : codec.World) → Stands codec file world → IsRefused codec file → ⊥

  -- with no record in the other half the next one goes in the root's half, else behind those
  abbrev pub GoOnOpened : Type 0
  GoOnOpened =
      (layout : Layout codec) (half : Half) (number : ℕ)
      → half.index ≡ read_half layout.root.half (far_lines layout.far)
      → half.next_slot ≡ slots_of (read_lines layout.near (far_lines layout.far))
      → number ≡ layout.root.first + length layout.near + length (far_lines layout.far)
      → GoesOnAt (with_far layout (opened_far layout.far)) half number

  -- a file with one root, and both halves shut, keeps the world that the root's chains spell
  abbrev pub FormattedKeep : Type 0
  FormattedKeep =
      (file : List ℕ) (side : Bool) (root : Root) (holding : Holding) (world : codec.World)
      → IsTaken file side root Shut → Spelled codec file root holding world
      → (IsOpen file root.half 0 → ⊥) → (IsOpen file (other_half root.half) 0 → ⊥)
      → KeepsAt codec (formatted side root holding world) file world

  -- a file keeps the same where it has the same bytes in the places at which its layout looks
  abbrev pub ReadTheSame : Type 0
  ReadTheSame =
      (layout : Layout codec) (other : Stale) (old new : List ℕ) (world : codec.World)
      → IsReadTheSame layout other old new → KeepsAt codec layout old world
      → KeepsAt codec (with_stale layout other) new world

  -- The steps of a checkpoint. The disk's content is one of the files that a stop may leave now.
  abbrev pub CheckpointsBegin : Type 0
  CheckpointsBegin =
      (layout : Layout codec) (state : DiskState) (world : codec.World) → IsImage state state.content
      → IsNotBegun layout.far → EachImage state (λ image. KeepsAt codec layout image world)
      → Begins codec layout state world

  -- an opening found the checkpoint begun: its plan is made then
  abbrev pub BegunAreFound : Type 0
  BegunAreFound =
      (layout : Layout codec) (state : DiskState) (world : codec.World) (plan : Plan)
      → IsPlan codec layout plan → IsBegun layout.far → EachImage state (λ image. KeepsAt codec layout image world)
      → IsBetween codec layout state (Writing plan [] plan.fresh) world

  abbrev pub PagesAreWritten : Type 0
  PagesAreWritten =
      (layout : Layout codec) (state : DiskState) (world : codec.World) (plan : Plan)
      → (written left : List (ℕ × List ℕ)) (fresh : ℕ × List ℕ) → IsImage state state.content
      → IsBetween codec layout state (Writing plan written (fresh ∷ left)) world
      → WritesPage codec layout state plan written fresh left world

  abbrev pub StaleRootsAreShut : Type 0
  StaleRootsAreShut =
      (layout : Layout codec) (state : DiskState) (world : codec.World) (plan : Plan) → IsImage state state.content
      → IsBetween codec layout state (Writing plan plan.fresh []) world → ShutsStale codec layout state plan world

  abbrev pub RootsAreFilled : Type 0
  RootsAreFilled =
      (layout : Layout codec) (state : DiskState) (world : codec.World) (plan : Plan) → IsImage state state.content
      → IsBetween codec layout state (Shutting plan) world → FillsRoot codec layout state plan world

  abbrev pub RootsAreOpened : Type 0
  RootsAreOpened =
      (layout : Layout codec) (state : DiskState) (world : codec.World) (plan : Plan) (lines : List (List ℕ))
      → IsImage state state.content → layout.far ≡ Begun lines → IsBetween codec layout state (Filling plan) world
      → OpensRoot codec layout state plan lines world

  abbrev pub RootsAreFlipped : Type 0
  RootsAreFlipped =
      (layout : Layout codec) (state : DiskState) (world : codec.World) (plan : Plan) (lines : List (List ℕ))
      → IsImage state state.content → layout.far ≡ Begun lines
      → IsBetween codec layout state (Writing plan plan.fresh []) world
      → FlipsRoots codec layout state plan lines world

  -- a record whose line is lawful is appended
  abbrev pub RecordsAreAppended : Type 0
  RecordsAreAppended =
      (layout : Layout codec) (state : DiskState) (progress : Progress) (half : Half) (number : ℕ) (line : List ℕ)
      → (old new : codec.World) → IsImage state state.content → codec.Takes line old new
      → HasRoom half.next_slot (length line) → number < 2 ^ 63 → GoesOnAt layout half number
      → IsBetween codec layout state progress old → Appends codec layout state progress half number line old new

  -- what the journal asks of the half, at any time
  abbrev pub PartsAreKept : Type 0
  PartsAreKept =
      (layout : Layout codec) (state : DiskState) (world : codec.World) (half : Half) (number : ℕ)
      → GoesOnAt layout half number → EachImage state (λ image. KeepsAt codec layout image world)
      → journal.Keeps half state (first_at layout.root.first layout.near layout.far) (lines_at layout.near layout.far)

  -- where records go on after the steps of a checkpoint
  abbrev pub GoOnBegun : Type 0
  GoOnBegun =
      (layout : Layout codec) (half : Half) (number : ℕ) → IsNotBegun layout.far → GoesOnAt layout half number
      → GoesOnAt (with_far layout (Begun []))
      (record { index = other_half layout.root.half; next_slot = 0 }) number

  abbrev pub GoOnShut : Type 0
  GoOnShut =
      (layout : Layout codec) (half : Half) (number : ℕ) → GoesOnAt layout half number
      → GoesOnAt (with_stale layout Shut) half number

  abbrev pub GoOnFlipped : Type 0
  GoOnFlipped =
      (layout : Layout codec) (half : Half) (number : ℕ) (plan : Plan) (lines : List (List ℕ)) (world : codec.World)
      → layout.far ≡ Begun lines → ComesNext layout plan.root → GoesOnAt layout half number
      → GoesOnAt (flipped layout plan.root plan.holding lines world) half number

  -- chains that were laid into free pages, beside chains that are kept, are a plan
  abbrev pub MadeArePlans : Type 0
  MadeArePlans =
      (layout : Layout codec) (file : List ℕ) (world : codec.World)
      → (root : Root) (directory : LaidChain) (drafts : List Draft) → KeepsAt codec layout file world
      → IsMade codec layout root directory drafts → IsPlan codec layout (plan_made root directory drafts)

-- a chain begins with the first of its pages
abbrev pub ChainsBegin : Type 0
ChainsBegin = (file : List ℕ) (head : ℕ) (pages text : List ℕ) → Chain file head pages text → head ≡ head_of pages

-- chains are laid one after another
abbrev pub NothingLaid : Type 0
NothingLaid = (present coming : List Bool) → AreLaid present coming coming [] []

pub record OneLaid (present coming after : List Bool) (more : List FreshPage) (chains : List LaidChain)
    (bytes : List ℕ) (head : ℕ) : Type 0 where
  pub chain : LaidChain
  pub whole : joined chain.pieces ≡ bytes
  pub first : head ≡ head_of chain.pages
  pub laid : AreLaid present coming after more (chains ++ chain ∷ [])

abbrev pub OneMoreLaid : Type 0
OneMoreLaid =
    (present coming between after : List Bool) (fresh more : List FreshPage) (chains : List LaidChain)
    → (bytes : List ℕ) (head : ℕ) → AreLaid present coming between fresh chains
    → IsLaid present between after bytes fresh more head → OneLaid present coming after more chains bytes head

-- and their pages are free, beside those that are kept
abbrev pub LaidAreFree : Type 0
LaidAreFree =
    (present coming after : List Bool) (reached kept : List ℕ) (fresh : List FreshPage) (chains : List LaidChain)
    → length coming ≡ MOST_PAGES → Has present reached → Has coming kept → AreLaid present coming after fresh chains
    → AreFree reached (laid_pages chains) × Has after (kept ++ laid_pages chains)

-- what the next root of a plan reaches is what is kept and what was laid
abbrev pub PlansReach : Type 0
PlansReach =
    (root : Root) (directory : LaidChain) (drafts : List Draft) (marks : List Bool)
    → Has marks (pages_of (kept_of drafts) ++ laid_pages (written_chains directory drafts))
    → Has marks (reached_of (plan_made root directory drafts).holding)
