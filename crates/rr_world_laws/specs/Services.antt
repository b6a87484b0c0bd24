-- Lines that a moderator serves are commits on its store, one for a line or none. So a service is a session of the store's calls,
-- wherever a stop falls in it, and whatever lines come is within the law over schedules.
use Rattle.std.specs.Prelude.{◌≡◌, ◌<◌, ℕ, zero, suc, List, [], ◌∷◌, ◌++◌, length, slice_get, Bool, true, false, Option, None, Some, Ok}
use Rattle.rr_disk.specs.Disk.{DiskState}
use Rattle.rr_disk.specs.Moments.{EachImage, EachImageOf}
use Rattle.rr_disk.specs.Replay.{settled_state}
use Rattle.rr_kit.specs.declared.kit.Kit.{Kit}
use Rattle.rr_kit.specs.Kits.{KitTexts, SpellsKit}
use Rattle.rr_moderator.specs.Durability.{MayPend, SpeaksAndLasts, Told, tells_acceptance, told}
use Rattle.rr_moderator.specs.Serving.{AsksFor}
use Rattle.rr_tables.specs.Records.Headline.{KeepsTables, KeepsTablesOr}
use Rattle.rr_tables.specs.Records.Schedules.{of_tables}
use Rattle.rr_tables.specs.Records.Words.{in_words}
use Rattle.rr_tables.specs.Records.World.{Follows, TableRequest, World}
use Rattle.rr_images.specs.Schedules.Laws.{at_first}
use Rattle.rr_images.specs.Schedules.Schedule.{EventOf, IsImageOfOne, Opened, Opening, Runs, SystemOf}
use Rattle.rr_serve.specs.Lines.{taken}
use Rattle.rr_serve.specs.Serving.{Served}
use Rattle.rr_store.specs.Events.{Opens, Passes, world_in}
use Rattle.rr_store.specs.Files.{AreTablesOf}
use Rattle.rr_store.specs.Holding.{Carries, disk_of, held_of}
use Rattle.rr_store.specs.Sessions.{Has, IsLeftIn, IsSafeSession, Left, Lies, Owner, Session, state_under}
use Rattle.rr_world_laws.specs.Sessions.{left_by}

-- what a line adds to the accepted requests: where its reply is `ok`, the one that was pending
abbrev pub accepted_of : Bool → Option TableRequest → List TableRequest
accepted_of true (Some asked) = asked ∷ []
accepted_of true None = []
accepted_of false pending = []

module _ {D : Type 0} (Honest Works : D → Type 0) (state : D → DiskState) (past : D → List DiskState) (faults writes syncs : D → ℕ) where
  -- lines are answered one after another, with these replies
  abbrev pub AreServed : Told D → List (List ℕ) → List (List ℕ) → Told D → Type 0
  AreServed = Served (SpeaksAndLasts Honest Works state past faults writes syncs) told

  -- the store behind the first n of them
  abbrev pub behind : ℕ → (old : Told D) (lines replies : List (List ℕ)) (new : Told D) → AreServed old lines replies new → Told D
  behind zero old lines replies new way = old
  behind (suc n) old (line ∷ lines) (reply ∷ replies) new way = behind n way.0 lines replies new way.3
  behind (suc n) old lines replies new way = old

  -- the requests among the first n that were answered `ok`, in turn
  abbrev pub accepted : ℕ → (old : Told D) (lines replies : List (List ℕ)) (new : Told D) → AreServed old lines replies new → List TableRequest
  accepted zero old lines replies new way = []
  accepted (suc n) old (line ∷ lines) (reply ∷ replies) new way =
      accepted_of (tells_acceptance reply) way.1.1.pending ++ accepted n way.0 lines replies new way.3
  accepted (suc n) old lines replies new way = []

  module _ (old : Told D) (lines replies : List (List ℕ)) (new : Told D) (way : AreServed old lines replies new) where
    -- the disk's states while the line behind the first n is answered
    abbrev pub AreMomentsOf : ℕ → List DiskState → Type 0
    AreMomentsOf n moments =
        Passes state past (disk_of (behind n old lines replies new way).0) (disk_of (behind (suc n) old lines replies new way).0) moments

    -- the states through which the disk goes in a service are those while one of its lines is answered
    pub record AreOfLines : Type 0 where
      pub moments : List DiskState
      pub passes : Passes state past (disk_of old.0) (disk_of new.0) moments
      pub of_one : (image : List ℕ) → IsImageOfOne moments image → (n : ℕ) × (n < length lines)
          × ((own : List DiskState) → AreMomentsOf n own → IsImageOfOne own image)

    -- what was held at first leads, by the requests that were answered `ok`, to what is held behind the first n lines
    abbrev pub LeadsTo : ℕ → Type 0
    LeadsTo n =
        Follows (held_of old.0).kit (held_of old.0).tables (accepted n old lines replies new way) (held_of (behind n old lines replies new way).0).tables

    module _ (texts : KitTexts) where
      -- At each moment while that line is answered each file that a stop may leave keeps just the tables to which the requests
      -- lead that were answered `ok` by then, or those with the request that is pending of the line.
      pub record KeepsInTime (n : ℕ) : Type 0 where
        pub line : List ℕ
        pub under_way : slice_get lines n ≡ Some line
        pub moments : List DiskState
        pub are : AreMomentsOf n moments
        pub led : LeadsTo n
        pub pending : Option TableRequest
        pub pends : MayPend (held_of (behind n old lines replies new way).0) (taken line) pending
        pub each : EachImageOf moments (KeepsTablesOr texts (held_of old.0).kit (held_of (behind n old lines replies new way).0).tables pending)

      -- Between two lines the disk carries just the former, unless the device failed.
      pub record CarriesInTime (n : ℕ) : Type 0 where
        pub led : LeadsTo n
        pub carries : (held_of (behind n old lines replies new way).0).broken ≡ false → Carries state (behind n old lines replies new way).0 texts

      -- So it is while each line is answered, and between any two.
      pub record IsInTime : Type 0 where
        pub within : (n : ℕ) → n < length lines → KeepsInTime n
        pub between : (n : ℕ) → CarriesInTime n
        pub moments : AreOfLines

  -- whatever lines come to a moderator whose disk carries what it holds
  abbrev pub ServicesKeepInTime : Type 0
  ServicesKeepInTime =
      (texts : KitTexts) (old new : Told D) (lines replies : List (List ℕ)) → (way : AreServed old lines replies new)
      → Honest (disk_of new.0) → Carries state old.0 texts → IsInTime old lines replies new way texts

  module _ (texts : KitTexts) (kit : Kit) (first : World) (start : DiskState) (so_far : List (EventOf of_tables)) where
    -- The calls on the store, from the begin of a service to where the disk is this owner's, are a session, and a safe one behind
    -- the events before: each file that a stop may leave now keeps the tables of the acknowledged requests or, where one is
    -- pending, those with it. And acknowledged are those from before and, behind them, just these.
    pub record IsSafeService (old : Told D) (requests : List TableRequest) (last : Owner D) : Type 0 where
      pub events : List (EventOf of_tables)
      pub session : Session Honest Works state past faults writes syncs texts (Has old.0) events last
      pub safe : IsSafeSession Honest Works state past faults writes syncs texts kit first start (so_far ++ events) last
      pub before : SystemOf of_tables
      pub reached : Runs of_tables (in_words texts first) (at_first of_tables start) so_far before
      pub acknowledged : safe.system.acknowledged ≡ before.acknowledged ++ requests

    module _ (old : Told D) (lines replies : List (List ℕ)) (new : Told D) (way : AreServed old lines replies new) where
      -- A service is cut off while the line behind the first n is answered: acknowledged are the requests that were answered `ok`
      -- by then, and the pending one is one for which that line asks.
      pub record IsCutOff (n : ℕ) (last : Owner D) : Type 0 where
        pub line : List ℕ
        pub under_way : slice_get lines n ≡ Some line
        pub service : IsSafeService old (accepted n old lines replies new way) last
        pub stamp : ℕ
        pub sheet : List ℕ
        pub asked : TableRequest
        pub asks : AsksFor (held_of (behind n old lines replies new way).0) (taken line) stamp asked sheet
        pub pending : service.safe.system.pending ≡ Some asked

      -- So it is of a whole service, and between any two of its lines; and of one that is cut off at any moment of any of them, by
      -- a stop, which leaves a file, or as its program is killed.
      pub record AreSafeServices : Type 0 where
        pub whole : IsSafeService old (accepted (length lines) old lines replies new way) (Has new.0)
        pub between : (n : ℕ) → IsSafeService old (accepted n old lines replies new way) (Has (behind n old lines replies new way).0)
        pub stopped : (n : ℕ) → n < length lines → (moments : List DiskState) → AreMomentsOf old lines replies new way n moments
            → (image : List ℕ) → IsImageOfOne moments image → IsCutOff n (Lies (settled_state image))
        pub killed : (n : ℕ) → n < length lines → (moments : List DiskState) → AreMomentsOf old lines replies new way n moments
            → (now : DiskState) → IsLeftIn moments now → IsCutOff n (Left now)
        pub moments : AreOfLines old lines replies new way

-- sessions that follow one another are one, as where a program serves again behind a checkpoint
abbrev pub SessionsJoin : {D : Type 0} → (Honest Works : D → Type 0) → (state : D → DiskState) → (past : D → List DiskState)
    → (faults writes syncs : D → ℕ) → Type 0
SessionsJoin {D} Honest Works state past faults writes syncs =
    (texts : KitTexts) (old between new : Owner D) (front rest : List (EventOf of_tables))
    → Session Honest Works state past faults writes syncs texts old front between
    → Session Honest Works state past faults writes syncs texts between rest new
    → Session Honest Works state past faults writes syncs texts old (front ++ rest) new

-- So it is of whatever lines come to a moderator whose store was opened in a session that goes on behind others, however many
-- programs ran before, and however these ended.
module _ {D : Type 0} (Honest Works : D → Type 0) (state : D → DiskState) (past : D → List DiskState) (faults writes syncs : D → ℕ)
    {E : Type 0} (Honest_then Works_then : E → Type 0) (state_then : E → DiskState) (past_then : E → List DiskState)
    (faults_then writes_then syncs_then : E → ℕ) where
  abbrev pub ServicesGoOn : Type 0
  ServicesGoOn =
      (texts : KitTexts) (kit : Kit) (first : World) (start : DiskState) (events more : List (EventOf of_tables)) (last : Owner D)
      → (old new : Told E) (lines replies : List (List ℕ))
      → SpellsKit texts kit → AreTablesOf kit first → EachImage start (KeepsTables texts first)
      → IsSafeSession Honest Works state past faults writes syncs texts kit first start events last
      → Session Honest_then Works_then state_then past_then faults_then writes_then syncs_then texts (left_by state last) more (Has old.0)
      → (way : AreServed Honest_then Works_then state_then past_then faults_then writes_then syncs_then old lines replies new)
      → Honest_then (disk_of new.0)
      → AreSafeServices Honest_then Works_then state_then past_then faults_then writes_then syncs_then texts kit first start (events ++ more)
      old lines replies new way

  -- and of a program that opens what was left, and then serves
  abbrev pub ProgramsGoOn : Type 0
  ProgramsGoOn =
      (texts : KitTexts) (kit : Kit) (first : World) (start : DiskState) (events : List (EventOf of_tables)) (last : Owner D)
      → (disk : E) (old new : Told E) (lines replies : List (List ℕ))
      → SpellsKit texts kit → AreTablesOf kit first → EachImage start (KeepsTables texts first)
      → IsSafeSession Honest Works state past faults writes syncs texts kit first start events last
      → state_then disk ≡ state_under state last → Opens Honest_then state_then past_then disk (Ok old.0)
      → (way : AreServed Honest_then Works_then state_then past_then faults_then writes_then syncs_then old lines replies new)
      → Honest_then (disk_of new.0)
      → (moments : List DiskState)
      × AreSafeServices Honest_then Works_then state_then past_then faults_then writes_then syncs_then texts kit first start
      (events ++ Opening moments (state_then (disk_of old.0)) (Opened (world_in texts old.0)) ∷ []) old lines replies new way
