-- Sessions on a new file are sound, and sessions go on behind one another.
use Rattle.std.proofs.Common.{◌≡◌, ◌∙◌, ℕ, Bool, List, [], ◌∷◌, ◌++◌, Option, None, Some, inl, inr, refl, sym, ap, subst}
use Rattle.rr_disk.specs.Disk.{DiskState, IsImage}
use Rattle.rr_disk.specs.Moments.{EachImage}
use Rattle.rr_kit.specs.declared.kit.Kit.{Kit}
use Rattle.rr_kit.specs.Kits.{KitTexts, SpellsKit}
use Rattle.rr_tables.specs.Records.Headline.{KeepsTablesOr, KeepsTables}
use Rattle.rr_tables.specs.Records.Schedules.{of_tables}
use Rattle.rr_tables.specs.Records.Words.{IsInWords, KeepCommands, in_words}
use Rattle.rr_tables.specs.Records.World.{Follows, TableRequest, World, world_after}
use Rattle.rr_tables.proofs.RecordLemmas.WordLemmas.{are_in_words, one_of_commands}
use Rattle.rr_tables.proofs.RecordLemmas.WorldLemmas.{keep_after}
use Rattle.rr_images.specs.Schedules.Laws.{at_first}
use Rattle.rr_images.specs.Schedules.Schedule as schedule
use Rattle.rr_images.specs.Schedules.Schedule.{EventOf, SystemOf}
use Rattle.rr_reading.specs.Worlds.World as words
use Rattle.rr_store.specs.Events.{world_in}
use Rattle.rr_store.specs.Files.{AreTablesOf}
use Rattle.rr_store.specs.Holding.{Carries, disk_of, held_of}
use Rattle.rr_store.proofs.Sessions.{Ends, goes_behind}
use Rattle.rr_store.specs.Sessions.{Has, IsSafeSession, Left, Lies, Owner, Session, SessionsAreSafe, serving}
use Rattle.rr_store.specs.declared.store.Store.{Store}
use Rattle.rr_world_laws.specs.Sessions.{HoldsSoundTables, IsSoundSession, KeepsSoundTables, SafeSessionsGoOn, SessionsAreSound, SessionsGoOn, SoundSessionsGoOn, left_by}
use Rattle.rr_world_laws.specs.Worlds.{IsSafeAndSound, IsSoundWorld, WhateverComesIsSound}

-- tables keep commands that words spell, whatever lawful requests follow
follow_spelled : (kit : Kit) (requests : List TableRequest) (old new : World) → KeepCommands old → Follows kit old requests new → KeepCommands new
follow_spelled kit [] old new spelled same = subst (λ (w : World). KeepCommands w) (sym same) spelled
follow_spelled kit (asked ∷ requests) old new spelled follows =
    follow_spelled kit requests (world_after kit old asked.name asked.request) new (keep_after kit old asked.name asked.request follows.0.0.1 spelled) follows.1

module _ (texts : KitTexts) (kit : Kit) (system : SystemOf of_tables) (sound : IsSafeAndSound texts kit system) where
  kept : (pending : Option TableRequest) (image : List ℕ) → system.pending ≡ pending → KeepsTablesOr texts kit sound.safe.tables pending image
      → KeepsSoundTables texts kit image
  kept None image is keeps = (sound.safe.tables, keeps, sound.sound)
  kept (Some asked) image is (inl keeps) = (sound.safe.tables, keeps, sound.sound)
  kept (Some asked) image is (inr (lawful, keeps)) =
      (world_after kit sound.safe.tables asked.name asked.request, keeps, sound.sound_with asked is lawful)

  -- a store that serves holds just the tables of the acknowledged requests
  module _ {D : Type 0} (state : D → DiskState) (store : Store D) (carries : Carries state store texts) where
    holds : system.holder ≡ schedule.Serving (world_in texts store) → IsSoundWorld kit (held_of store).tables
    holds serves =
        let same = (sound.safe.serves (world_in texts store) serves).0 in
        let here = subst (λ (w : words.World). IsInWords (held_of store).tables w) same (are_in_words texts (held_of store).tables carries.tables_of_kit.spelled) in
        let there = are_in_words texts sound.safe.tables (follow_spelled kit system.acknowledged [] sound.safe.tables tt sound.safe.followed) in
        subst (λ (w : World). IsSoundWorld kit w) (sym (one_of_commands (held_of store).tables sound.safe.tables (in_words texts sound.safe.tables) here there)) sound.sound

module _ {D : Type 0} (Honest Works : D → Type 0) (state : D → DiskState) (past : D → List DiskState) (faults writes syncs : D → ℕ)
    (stays : (disk : D) → Honest disk → IsImage (state disk) (state disk).content) where
  module _ (texts : KitTexts) (kit : Kit) (start : DiskState) (events : List (EventOf of_tables)) (right : SpellsKit texts kit)
      (each : EachImage start (KeepsTables texts [])) where
    abbrev NewEnds : Owner D → Type 0
    NewEnds last = Ends Honest Works state past faults writes syncs stays texts kit [] right (record { spelled = tt; played = tt }) start each events last

    held : (last : Owner D) → (end : NewEnds last) → IsSafeAndSound texts kit end.session.system → HoldsSoundTables kit last
    held (Lies now) end sound = tt
    held (Left now) end sound = tt
    held (Has store) end sound = λ whole.
        holds texts kit end.session.system sound state store (end.carries whole) (end.session.holder ∙ ap (λ (b : Bool). serving b (world_in texts store)) whole)

    -- whatever comes to a new file is sound, and so is such a session
    pub sound_behind : WhateverComesIsSound → (last : Owner D) → NewEnds last → IsSoundSession Honest Works state past faults writes syncs texts kit start events last
    sound_behind comes last end =
        let sound = comes texts kit start events end.session.system right each end.session.runs in
        record {
          safe = end.session;
          sound = sound;
          left = λ image is. kept texts kit end.session.system sound end.session.system.pending image refl
              (sound.safe.each image (subst (λ (now : DiskState). IsImage now image) (sym end.session.disk) is));
          held = held last end sound;
        }

  pub sessions_are_sound : WhateverComesIsSound → SessionsAreSound Honest Works state past faults writes syncs
  sessions_are_sound comes texts kit start events last right each session =
      sound_behind texts kit start events right each comes last
      (goes_behind Honest Works state past faults writes syncs stays texts kit [] right (record { spelled = tt; played = tt }) start each [] events (at_first of_tables start) (Lies start) last (schedule.Ended (at_first of_tables start)) refl refl tt session)

-- a session behind another one
module _ {D : Type 0} (Honest Works : D → Type 0) (state : D → DiskState) (past : D → List DiskState) (faults writes syncs : D → ℕ)
    {E : Type 0} (Honest_then Works_then : E → Type 0) (state_then : E → DiskState) (past_then : E → List DiskState)
    (faults_then writes_then syncs_then : E → ℕ)
    (stays_then : (disk : E) → Honest_then disk → IsImage (state_then disk) (state_then disk).content) where
  -- the schedule asks nothing of who had the disk before
  pub on_behind : (texts : KitTexts) (kit : Kit) (first : World) (start : DiskState) (events more : List (EventOf of_tables)) (last : Owner D) (last_then : Owner E)
      → (right : SpellsKit texts kit) (of_kit : AreTablesOf kit first) (each : EachImage start (KeepsTables texts first))
      → IsSafeSession Honest Works state past faults writes syncs texts kit first start events last
      → Session Honest_then Works_then state_then past_then faults_then writes_then syncs_then texts (left_by state last) more last_then
      → Ends Honest_then Works_then state_then past_then faults_then writes_then syncs_then stays_then texts kit first right of_kit start each (events ++ more) last_then
  on_behind texts kit first start events more (Lies now) last_then right of_kit each was session =
      goes_behind Honest_then Works_then state_then past_then faults_then writes_then syncs_then stays_then texts kit first right of_kit start each
      events more was.system (Lies now) last_then was.runs was.disk was.holder tt session
  on_behind texts kit first start events more (Left now) last_then right of_kit each was session =
      goes_behind Honest_then Works_then state_then past_then faults_then writes_then syncs_then stays_then texts kit first right of_kit start each
      events more was.system (Left now) last_then was.runs was.disk tt tt session
  on_behind texts kit first start events more (Has store) last_then right of_kit each was session =
      goes_behind Honest_then Works_then state_then past_then faults_then writes_then syncs_then stays_then texts kit first right of_kit start each
      events more was.system (Left (state (disk_of store))) last_then was.runs was.disk tt tt session

  pub safe_sessions_go_on : SafeSessionsGoOn Honest Works state past faults writes syncs Honest_then Works_then state_then past_then faults_then writes_then syncs_then
  safe_sessions_go_on texts kit first start events last right of_kit each was more last_then session =
      (on_behind texts kit first start events more last last_then right of_kit each was session).session

  pub sessions_go_on : SessionsAreSafe Honest Works state past faults writes syncs
      → SessionsGoOn Honest Works state past faults writes syncs Honest_then Works_then state_then past_then faults_then writes_then syncs_then
  sessions_go_on safe texts kit first start events last right of_kit each session =
      safe_sessions_go_on texts kit first start events last right of_kit each (safe texts kit first start events last right of_kit each session)

  pub sound_sessions_go_on : WhateverComesIsSound
      → SoundSessionsGoOn Honest Works state past faults writes syncs Honest_then Works_then state_then past_then faults_then writes_then syncs_then
  sound_sessions_go_on comes texts kit start events more last last_then each right was session =
      sound_behind Honest_then Works_then state_then past_then faults_then writes_then syncs_then stays_then texts kit start (events ++ more) right each comes last_then
      (on_behind texts kit [] start events more last last_then right (record { spelled = tt; played = tt }) each was session)
