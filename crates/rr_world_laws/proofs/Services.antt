-- A service is a session of the store's calls, and goes on with a schedule.
use Rattle.std.proofs.Common.{◌≡◌, ◌<◌, ◌⊎◌, ◌∙◌, ℕ, zero, suc, length, slice_get, arith, Bool, true, false, List, [], ◌∷◌, ◌++◌, Option, None, Some, Result, Ok, Err, inl, inr, refl, sym, ap, subst}
use Rattle.std.proofs.lemmas.List.{append-nil, append_assoc, append_cancel_right}
use Rattle.rr_disk.specs.Disk.{DiskState, IsImage}
use Rattle.rr_disk.specs.Moments.{EachImage}
use Rattle.rr_disk.specs.Replay.{settled_state}
use Rattle.rr_kit.specs.declared.kit.Kit.{Kit}
use Rattle.rr_kit.specs.Kits.{KitTexts, SpellsKit}
use Rattle.rr_log.specs.declared.log.Log.{Log}
use Rattle.rr_log.specs.Log as log
use Rattle.rr_moderator.specs.Durability.{CommitsOnce, IsToldOf, Makes_none, Makes_one, SpeaksAndLasts, Told, tells_acceptance, told}
use Rattle.rr_moderator.specs.Serving.{AsksFor}
use Rattle.rr_tables.specs.declared.records.rules.TableRules.{TableRules}
use Rattle.rr_tables.specs.Records.Headline.{KeepsTables}
use Rattle.rr_tables.specs.Records.Schedules.{of_tables}
use Rattle.rr_tables.specs.Records.Words.{in_words}
use Rattle.rr_tables.specs.Records.World.{TableRequest, World}
use Rattle.rr_images.specs.Schedules.Laws.{at_first}
use Rattle.rr_images.specs.Schedules.Schedule.{Again, Commit, Cut, Done, Ending, EventOf, Failed, Happens, IsImageOfOne, Opened, Opening, Refused, Runs, SystemOf, acknowledged_after, pending_after}
use Rattle.rr_images.specs.Schedules.Schedule as schedule
use Rattle.rr_serve.specs.Lines.{taken}
use Rattle.rr_store.specs.declared.fault.Fault.{Fault}
use Rattle.rr_store.specs.declared.fault.Fault.TheVariants as F
use Rattle.rr_store.specs.declared.store.Store.{Store}
use Rattle.rr_store.specs.Committing.{Commits}
use Rattle.rr_store.specs.Events.{Passes, ending_of, world_in}
use Rattle.rr_store.specs.Files.{AreTablesOf}
use Rattle.rr_store.specs.Held.{Held}
use Rattle.rr_store.specs.Holding.{Carries, IsUnchanged, disk_of, held_of}
use Rattle.rr_store.specs.Sessions.{By_commit, By_open, Ended, Goes_on, Has, Is_cut, Is_killed, IsLeftIn, IsSafeSession, Left, Lies, Makes, Owner, Returns, Session, state_under}
use Rattle.rr_store.proofs.Sessions.{Ends, goes_behind}
use Rattle.rr_reading.specs.Worlds.World as words
use Rattle.rr_world_laws.specs.Sessions.{left_by}
use Rattle.rr_world_laws.specs.Services.{AreOfLines, AreSafeServices, AreServed, IsCutOff, IsSafeService, ProgramsGoOn, ServicesGoOn, SessionsJoin, accepted, accepted_of, behind}
use Rattle.rr_world_laws.proofs.Sessions.{on_behind}

-- the requests that events acknowledge: those of the commits that were done
abbrev acknowledged_by : EventOf of_tables → List TableRequest
acknowledged_by (Commit asked moments now Done) = asked ∷ []
acknowledged_by event = []

abbrev acknowledged_in : List (EventOf of_tables) → List TableRequest
acknowledged_in [] = []
acknowledged_in (event ∷ events) = acknowledged_by event ++ acknowledged_in events

abbrev IsCommit : EventOf of_tables → Type 0
IsCommit (Commit asked moments now ending) = Unit {0}
IsCommit event = ⊥

abbrev AreCommits : List (EventOf of_tables) → Type 0
AreCommits [] = Unit {0}
AreCommits (event ∷ events) = IsCommit event × AreCommits events

-- a commit that didn't return, and its request
abbrev IsWithin : EventOf of_tables → Type 0
IsWithin (Commit asked moments now Failed) = Unit {0}
IsWithin (Commit asked moments now (Cut image)) = Unit {0}
IsWithin event = ⊥

abbrev asked_by : EventOf of_tables → Option TableRequest
asked_by (Commit asked moments now ending) = Some asked
asked_by event = None

three : {a b c d : List TableRequest} → a ≡ b → b ≡ c → c ≡ d → a ≡ d
three one two more = one ∙ (two ∙ more)

acknowledged_append : (front rest : List (EventOf of_tables)) → acknowledged_in (front ++ rest) ≡ acknowledged_in front ++ acknowledged_in rest
acknowledged_append [] rest = refl
acknowledged_append (event ∷ front) rest =
    ap (λ (r : List TableRequest). acknowledged_by event ++ r) (acknowledged_append front rest)
    ∙ sym (append_assoc (acknowledged_by event) (acknowledged_in front) (acknowledged_in rest))

commits_append : (front rest : List (EventOf of_tables)) → AreCommits front → AreCommits rest → AreCommits (front ++ rest)
commits_append [] rest here there = there
commits_append (event ∷ front) rest here there = (here.0, commits_append front rest here.1 there)

-- what the schedule makes of commits

acknowledged_so : (before : List TableRequest) (asked : TableRequest) (moments : List DiskState) (now : DiskState) (ending : Ending)
    → acknowledged_after of_tables before asked ending ≡ before ++ acknowledged_by (Commit asked moments now ending)
acknowledged_so before asked moments now Done = refl
acknowledged_so before asked moments now Refused = sym (append-nil before)
acknowledged_so before asked moments now Failed = sym (append-nil before)
acknowledged_so before asked moments now Again = sym (append-nil before)
acknowledged_so before asked moments now (Cut image) = sym (append-nil before)

pending_so : (before : List TableRequest) (asked : TableRequest) (moments : List DiskState) (now : DiskState) (ending : Ending) → IsWithin (Commit asked moments now ending)
    → (pending_after of_tables asked ending ≡ Some asked) × (acknowledged_after of_tables before asked ending ≡ before)
pending_so before asked moments now Done within = absurd within
pending_so before asked moments now Refused within = absurd within
pending_so before asked moments now Failed within = (refl, refl)
pending_so before asked moments now Again within = absurd within
pending_so before asked moments now (Cut image) within = (refl, refl)

module _ (first : words.World) where
  one_acknowledges : (old new : SystemOf of_tables) (event : EventOf of_tables) → Happens of_tables first old event new → IsCommit event
      → new.acknowledged ≡ old.acknowledged ++ acknowledged_by event
  one_acknowledges old new event (schedule.Commits world held asked moments now ending serving may leads) is =
      acknowledged_so old.acknowledged asked moments now ending
  one_acknowledges old new event (schedule.Ticks world moments now ending serving may) is = absurd is
  one_acknowledges old new event (schedule.Commits_again asked broken) is = sym (append-nil old.acknowledged)
  one_acknowledges old new event (schedule.Ticks_again broken) is = absurd is
  one_acknowledges old new event (schedule.Opens world moments now acknowledged may settles) is = absurd is
  one_acknowledges old new event (schedule.Opens_not moments now ended which may) is = absurd is
  one_acknowledges old new event (schedule.Opens_cut moments now image may) is = absurd is
  one_acknowledges old new event (schedule.Stops image may) is = absurd is

  one_pends : (old new : SystemOf of_tables) (event : EventOf of_tables) → Happens of_tables first old event new → IsWithin event
      → (new.pending ≡ asked_by event) × (new.acknowledged ≡ old.acknowledged)
  one_pends old new event (schedule.Commits world held asked moments now ending serving may leads) within =
      pending_so old.acknowledged asked moments now ending within
  one_pends old new event (schedule.Ticks world moments now ending serving may) within = absurd within
  one_pends old new event (schedule.Commits_again asked broken) within = absurd within
  one_pends old new event (schedule.Ticks_again broken) within = absurd within
  one_pends old new event (schedule.Opens world moments now acknowledged may settles) within = absurd within
  one_pends old new event (schedule.Opens_not moments now ended which may) within = absurd within
  one_pends old new event (schedule.Opens_cut moments now image may) within = absurd within
  one_pends old new event (schedule.Stops image may) within = absurd within

  all_acknowledge : (old new : SystemOf of_tables) (events : List (EventOf of_tables)) → Runs of_tables first old events new → AreCommits events
      → new.acknowledged ≡ old.acknowledged ++ acknowledged_in events
  all_acknowledge old new events (schedule.Ended system) are = sym (append-nil old.acknowledged)
  all_acknowledge old new events (schedule.Goes_on was between end one rest here runs) are =
      all_acknowledge between end rest runs are.1
      ∙ ap (λ (r : List TableRequest). r ++ acknowledged_in rest) (one_acknowledges was between one here are.0)
      ∙ append_assoc was.acknowledged (acknowledged_by one) (acknowledged_in rest)

  -- a schedule comes apart
  apart : (front rest : List (EventOf of_tables)) (old new : SystemOf of_tables) → Runs of_tables first old (front ++ rest) new
      → (between : SystemOf of_tables) × Runs of_tables first old front between × Runs of_tables first between rest new
  apart [] rest old new runs = (old, schedule.Ended old, runs)
  apart (event ∷ front) rest old new (schedule.Goes_on was between end one events here runs) =
      let then = apart front rest between new runs in
      (then.0, schedule.Goes_on old between then.0 event front here then.1, then.2)

  -- and its last event
  the_last : (event : EventOf of_tables) (old new : SystemOf of_tables) → Runs of_tables first old (event ∷ []) new → Happens of_tables first old event new
  the_last event old new (schedule.Goes_on was between end one events here (schedule.Ended system)) = here

-- a stop at one of two calls' moments
pub image_of_two : (front rest : List DiskState) (image : List ℕ) → IsImageOfOne (front ++ rest) image → IsImageOfOne front image ⊎ IsImageOfOne rest image
image_of_two [] rest image is = inr is
image_of_two (now ∷ front) rest image (inl here) = inl (inl here)
image_of_two (now ∷ front) rest image (inr later) = elim (image_of_two front rest image later) [ inl one ↦ inl (inr one) | inr other ↦ inr other ]

-- a commit that is refused acknowledges nothing
none_acknowledged : (asked : TableRequest) (moments : List DiskState) (now : DiskState) (fault : Fault)
    → acknowledged_in (Commit asked moments now (ending_of {T = ℕ} (Err fault)) ∷ []) ≡ []
none_acknowledged asked moments now F.DeviceFailed = refl
none_acknowledged asked moments now F.OpenAgain = refl
none_acknowledged asked moments now _ = refl

-- and one that was done the request that the reply tells of
told_acknowledged : (asked : TableRequest) (moments : List DiskState) (now : DiskState) (result : Result ℕ Fault) (pending : Option TableRequest) (reply : List ℕ)
    → IsToldOf asked pending result reply
    → acknowledged_in (Commit asked moments now (ending_of result) ∷ []) ≡ accepted_of (tells_acceptance reply) pending
told_acknowledged asked moments now (Ok value) pending reply tells =
    sym (ap (λ (b : Bool). accepted_of b pending) tells.1 ∙ ap (λ (p : Option TableRequest). accepted_of true p) tells.0)
told_acknowledged asked moments now (Err fault) pending reply tells =
    none_acknowledged asked moments now fault ∙ sym (ap (λ (b : Bool). accepted_of b pending) tells)

module _ {D : Type 0} (Honest Works : D → Type 0) (state : D → DiskState) (past : D → List DiskState) (faults writes syncs : D → ℕ) (texts : KitTexts) where
  abbrev pub One : Told D → List ℕ → Told D → Type 0
  One = SpeaksAndLasts Honest Works state past faults writes syncs

  abbrev pub All : Told D → List (List ℕ) → List (List ℕ) → Told D → Type 0
  All = AreServed Honest Works state past faults writes syncs

  abbrev pub oks : ℕ → (old : Told D) (lines replies : List (List ℕ)) (new : Told D) → All old lines replies new → List TableRequest
  oks = accepted Honest Works state past faults writes syncs

  -- and what stands behind so many
  abbrev pub there : ℕ → (old : Told D) (lines replies : List (List ℕ)) (new : Told D) → All old lines replies new → Told D
  there = behind Honest Works state past faults writes syncs

  abbrev pub disk : Told D → D
  disk s = disk_of s.0

  abbrev pub Moments : Told D → Told D → List DiskState → Type 0
  Moments s t moments = Passes state past (disk s) (disk t) moments

  abbrev Called : Owner D → List (EventOf of_tables) → Owner D → Type 0
  Called = Session Honest Works state past faults writes syncs texts

  -- a store that isn't broken has all that its next call rests on
  abbrev pub Carried : Told D → Type 0
  Carried s = (held_of s.0).broken ≡ false → Carries state s.0 texts

  joined : (old between new : Owner D) (front rest : List (EventOf of_tables)) → Called old front between → Called between rest new → Called old (front ++ rest) new
  joined old between new front rest (Ended owner) then = then
  joined old between new front rest (Goes_on was mid end one events now more) then =
      Goes_on was mid new one (events ++ rest) now (joined mid between new events rest more then)

  pub same_moments : (s t : Told D) → disk t ≡ disk s → Moments s t []
  same_moments s t same = λ i. state (same i) ∷ past (same i)

  -- one line
  module _ (s t : Told D) (line : List ℕ) (one : One s line t) (h : Honest (disk t)) where
    pub still : (held_of s.0).broken ≡ true → IsUnchanged s.0 t.0
    still broken = one.1.untouched one.0.1 (λ may. let both : true ≡ false = sym broken ∙ may.1.whole in cc both)

    pub carries_on : Carried s → Carried t
    carries_on carried = λ whole. by_broken whole (held_of s.0).broken refl
      where
        by_broken : (held_of t.0).broken ≡ false → (b : Bool) → (held_of s.0).broken ≡ b → Carries state t.0 texts
        by_broken whole false was = one.1.carries h whole texts (carried was)
        by_broken whole true was =
            let both : true ≡ false = sym was ∙ (sym (ap (λ (x : Held). x.broken) (still was).same_held) ∙ whole) in absurd (cc both)

    pub line_moments : Carried s → (moments : List DiskState) × Moments s t moments
    line_moments carried = by_broken (held_of s.0).broken refl
      where
        by_broken : (b : Bool) → (held_of s.0).broken ≡ b → (moments : List DiskState) × Moments s t moments
        by_broken false was = let leaves = one.1.keeps h texts (carried was) in (leaves.since, leaves.goes_on)
        by_broken true was = ([], same_moments s t (ap (λ (l : Log D TableRules). log.disk_of l) (still was).same_file))

    -- its event, if it makes one
    record Made : Type 0 where
      pub events : List (EventOf of_tables)
      pub called : Called (Has s.0) events (Has t.0)
      pub commits : AreCommits events
      pub takes : acknowledged_in events ≡ accepted_of (tells_acceptance (told t)) one.1.pending

    module _ (moments : List DiskState) (passes : Moments s t moments) where
      made_by : CommitsOnce Honest Works state past faults writes syncs s.0 line one.1.pending t.0 t.1 → Made
      made_by (Makes_none idle same calm) =
          record {
            events = [];
            called = subst (λ (x : Store D). Called (Has s.0) [] (Has x)) (sym same) (Ended (Has s.0));
            commits = tt;
            takes = sym (ap (λ (b : Bool). accepted_of b one.1.pending) calm);
          }
      made_by (Makes_one asked stamp sheet result spells asks commits tells text) =
          record {
            events = Commit asked moments (state (disk t)) (ending_of result) ∷ [];
            called = Goes_on _ _ _ _ _ (Returns _ _ _ _ _ _ (By_commit s.0 t.0 asked.name stamp asked.request result moments commits h passes)) (Ended (Has t.0));
            commits = (tt, tt);
            takes = told_acknowledged asked moments (state (disk t)) result one.1.pending t.1 tells;
          }

      made : Made
      made = made_by one.1.commits

  -- lines, one after another
  pub honest_before : (s : Told D) (lines replies : List (List ℕ)) (t : Told D) → All s lines replies t → Honest (disk t) → Honest (disk s)
  honest_before s [] [] t way h = subst (λ (x : Told D). Honest (disk x)) way h
  honest_before s (line ∷ lines) (reply ∷ replies) t way h = way.1.1.honest (honest_before way.0 lines replies t way.3 h)
  honest_before s [] (reply ∷ replies) t way h = absurd way
  honest_before s (line ∷ lines) [] t way h = absurd way

  pub all_moments : (s : Told D) (lines replies : List (List ℕ)) (t : Told D) → All s lines replies t → Honest (disk t) → Carried s
      → (moments : List DiskState) × Moments s t moments
  all_moments s [] [] t way h carried = ([], same_moments s t (ap (λ (x : Told D). disk x) way))
  all_moments s (line ∷ lines) (reply ∷ replies) t way h carried =
      let between = honest_before way.0 lines replies t way.3 h in
      let here = line_moments s way.0 (taken line) way.1 between carried in
      let then = all_moments way.0 lines replies t way.3 h (carries_on s way.0 (taken line) way.1 between carried) in (
        then.0 ++ here.0,
        then.1 ∙ (ap (λ (m : List DiskState). then.0 ++ m) here.1 ∙ sym (append_assoc then.0 here.0 (state (disk s) ∷ past (disk s)))),
      )
  all_moments s [] (reply ∷ replies) t way h carried = absurd way
  all_moments s (line ∷ lines) [] t way h carried = absurd way

  -- the first n lines
  record Comes (n : ℕ) (s : Told D) (lines replies : List (List ℕ)) (t : Told D) (way : All s lines replies t) : Type 0 where
    pub events : List (EventOf of_tables)
    pub called : Called (Has s.0) events (Has (there n s lines replies t way).0)
    pub commits : AreCommits events
    pub takes : acknowledged_in events ≡ oks n s lines replies t way

  -- what a line adds to what the others take
  takes_more : (events rest : List (EventOf of_tables)) (reply spoken : List ℕ) (pending : Option TableRequest) (others : List TableRequest) → reply ≡ spoken
      → acknowledged_in events ≡ accepted_of (tells_acceptance spoken) pending → acknowledged_in rest ≡ others
      → acknowledged_in (events ++ rest) ≡ accepted_of (tells_acceptance reply) pending ++ others
  takes_more events rest reply spoken pending others same here there =
      acknowledged_append events rest
      ∙ (ap (λ (r : List TableRequest). r ++ acknowledged_in rest) (here ∙ ap (λ (r : List ℕ). accepted_of (tells_acceptance r) pending) (sym same))
      ∙ ap (λ (r : List TableRequest). accepted_of (tells_acceptance reply) pending ++ r) there)

  comes : (n : ℕ) (s : Told D) (lines replies : List (List ℕ)) (t : Told D) (way : All s lines replies t) → Honest (disk t) → Carried s → Comes n s lines replies t way
  comes zero s lines replies t way h carried = record { events = []; called = Ended (Has s.0); commits = tt; takes = refl }
  comes (suc n) s [] [] t way h carried = record { events = []; called = Ended (Has s.0); commits = tt; takes = refl }
  comes (suc n) s (line ∷ lines) (reply ∷ replies) t way h carried =
      let between = honest_before way.0 lines replies t way.3 h in
      let moments = line_moments s way.0 (taken line) way.1 between carried in
      let here = made s way.0 (taken line) way.1 between moments.0 moments.1 in
      let then = comes n way.0 lines replies t way.3 h (carries_on s way.0 (taken line) way.1 between carried) in
      record {
        events = here.events ++ then.events;
        called = joined (Has s.0) (Has way.0.0) (Has (there n way.0 lines replies t way.3).0) here.events then.events here.called then.called;
        commits = commits_append here.events then.events here.commits then.commits;
        takes = takes_more here.events then.events reply (told way.0) way.1.1.pending _ way.2 here.takes then.takes;
      }
  comes (suc n) s [] (reply ∷ replies) t way h carried = absurd way
  comes (suc n) s (line ∷ lines) [] t way h carried = absurd way

  -- behind all of them stands the last
  all_there : (s : Told D) (lines replies : List (List ℕ)) (t : Told D) (way : All s lines replies t) → there (length lines) s lines replies t way ≡ t
  all_there s [] [] t way = sym way
  all_there s (line ∷ lines) (reply ∷ replies) t way = all_there way.0 lines replies t way.3
  all_there s [] (reply ∷ replies) t way = absurd way
  all_there s (line ∷ lines) [] t way = absurd way

  -- each moment is one of a line
  abbrev OfOne : (s : Told D) (lines replies : List (List ℕ)) (t : Told D) → All s lines replies t → List ℕ → Type 0
  OfOne s lines replies t way image =
      (n : ℕ) × (n < length lines) × ((own : List DiskState) → Moments (there n s lines replies t way) (there (suc n) s lines replies t way) own → IsImageOfOne own image)

  one_of_two : (s : Told D) (line : List ℕ) (lines : List (List ℕ)) (reply : List ℕ) (replies : List (List ℕ)) (t : Told D)
      → (way : All s (line ∷ lines) (reply ∷ replies) t) (image : List ℕ) → OfOne way.0 lines replies t way.3 image
      → OfOne s (line ∷ lines) (reply ∷ replies) t way image
  one_of_two s line lines reply replies t way image (n, below, is) = (suc n, omega (arith, below), is)

  of_lines : (s : Told D) (lines replies : List (List ℕ)) (t : Told D) → (way : All s lines replies t) → Honest (disk t) → Carried s
      → (moments : List DiskState) → Moments s t moments → (image : List ℕ) → IsImageOfOne moments image → OfOne s lines replies t way image
  of_lines s [] [] t way h carried moments passes image is =
      let none : moments ≡ [] = append_cancel_right moments [] (state (disk s) ∷ past (disk s))
      (sym passes ∙ same_moments s t (ap (λ (x : Told D). disk x) way)) in
      let P : List DiskState → Type 0 = λ m. IsImageOfOne m image in absurd (subst P none is)
  of_lines s (line ∷ lines) (reply ∷ replies) t way h carried moments passes image is =
      let between = honest_before way.0 lines replies t way.3 h in
      let now = carries_on s way.0 (taken line) way.1 between carried in
      let here = line_moments s way.0 (taken line) way.1 between carried in
      let then = all_moments way.0 lines replies t way.3 h now in
      let both = then.1 ∙ (ap (λ (m : List DiskState). then.0 ++ m) here.1 ∙ sym (append_assoc then.0 here.0 (state (disk s) ∷ past (disk s)))) in
      let are : moments ≡ then.0 ++ here.0 = append_cancel_right moments (then.0 ++ here.0) (state (disk s) ∷ past (disk s)) (sym passes ∙ both) in
      let P : List DiskState → Type 0 = λ m. IsImageOfOne m image in
      elim (image_of_two then.0 here.0 image (subst P are is)) [
        | inl later ↦ one_of_two s line lines reply replies t way image (of_lines way.0 lines replies t way.3 h now then.0 then.1 image later)
        | inr within ↦ (
          0,
          omega arith,
          λ own passed. subst P (append_cancel_right here.0 own (state (disk s) ∷ past (disk s)) (sym here.1 ∙ passed)) within,
        )
      ]
  of_lines s [] (reply ∷ replies) t way h carried moments passes image is = absurd way
  of_lines s (line ∷ lines) [] t way h carried moments passes image is = absurd way

  pub are_of_lines : (s : Told D) (lines replies : List (List ℕ)) (t : Told D) → (way : All s lines replies t) → Honest (disk t) → Carried s
      → AreOfLines Honest Works state past faults writes syncs s lines replies t way
  are_of_lines s lines replies t way h carried =
      let all = all_moments s lines replies t way h carried in
      record { moments = all.0; passes = all.1; of_one = of_lines s lines replies t way h carried all.0 all.1 }

  -- Lines that are cut off at one of some moments, as a stop or a kill does it, so that the disk is `last`'s.
  module _ (P : List DiskState → Type 0) (last : Owner D) (none : P [] → ⊥)
      (cuts : (old new : Store D) (asked : TableRequest) (stamp : ℕ) (result : Result ℕ Fault) (moments : List DiskState)
      → Commits Honest Works state past faults writes syncs old asked.name stamp asked.request new result → Honest (disk_of new)
      → Passes state past (disk_of old) (disk_of new) moments → P moments
      → (event : EventOf of_tables) × IsWithin event × (asked_by event ≡ Some asked)
      × Makes Honest Works state past faults writes syncs texts (Has old) event last) where
    record CutAt (n : ℕ) (s : Told D) (lines replies : List (List ℕ)) (t : Told D) (way : All s lines replies t) : Type 0 where
      pub line : List ℕ
      pub under_way : slice_get lines n ≡ Some line
      pub stamp : ℕ
      pub sheet : List ℕ
      pub asked : TableRequest
      pub asks : AsksFor (held_of (there n s lines replies t way).0) (taken line) stamp asked sheet
      pub front : List (EventOf of_tables)
      pub commits : AreCommits front
      pub takes : acknowledged_in front ≡ oks n s lines replies t way
      pub event : EventOf of_tables
      pub within : IsWithin event
      pub pends : asked_by event ≡ Some asked
      pub called : Called (Has s.0) (front ++ event ∷ []) last

    -- a call without moments isn't cut off
    not_empty : (s t : Told D) (moments : List DiskState) → disk t ≡ disk s → Moments s t moments → P moments → ⊥
    not_empty s t moments same passes p =
        none (subst P (append_cancel_right moments [] (state (disk s) ∷ past (disk s)) (sym passes ∙ same_moments s t same)) p)

    -- in the first line
    module _ (s : Told D) (line : List ℕ) (lines : List (List ℕ)) (reply : List ℕ) (replies : List (List ℕ)) (t : Told D)
        (way : All s (line ∷ lines) (reply ∷ replies) t) (h : Honest (disk way.0)) (moments : List DiskState) (passes : Moments s way.0 moments) (p : P moments) where
      cut_by : CommitsOnce Honest Works state past faults writes syncs s.0 (taken line) way.1.1.pending way.0.0 way.0.1 → CutAt 0 s (line ∷ lines) (reply ∷ replies) t way
      cut_by (Makes_none idle same calm) = absurd (not_empty s way.0 moments (ap (λ (x : Store D). disk_of x) same) passes p)
      cut_by (Makes_one asked stamp sheet result spells asks commits tells text) =
          let cut = cuts s.0 way.0.0 asked stamp result moments commits h passes p in
          record {
            line = line;
            under_way = refl;
            stamp = stamp;
            sheet = sheet;
            asked = asked;
            asks = asks way.1.0.1;
            front = [];
            commits = tt;
            takes = refl;
            event = cut.0;
            within = cut.1;
            pends = cut.2;
            called = Goes_on (Has s.0) last last cut.0 [] cut.3 (Ended last);
          }

    -- behind the first line
    later : (n : ℕ) (s : Told D) (line : List ℕ) (lines : List (List ℕ)) (reply : List ℕ) (replies : List (List ℕ)) (t : Told D)
        → (way : All s (line ∷ lines) (reply ∷ replies) t) → (h : Honest (disk way.0)) → Made s way.0 (taken line) way.1 h
        → CutAt n way.0 lines replies t way.3 → CutAt (suc n) s (line ∷ lines) (reply ∷ replies) t way
    later n s line lines reply replies t way h here then =
        record {
          line = then.line;
          under_way = then.under_way;
          stamp = then.stamp;
          sheet = then.sheet;
          asked = then.asked;
          asks = then.asks;
          front = here.events ++ then.front;
          commits = commits_append here.events then.front here.commits then.commits;
          takes = takes_more here.events then.front reply (told way.0) way.1.1.pending _ way.2 here.takes then.takes;
          event = then.event;
          within = then.within;
          pends = then.pends;
          called = subst (λ (es : List (EventOf of_tables)). Called (Has s.0) es last) (sym (append_assoc here.events then.front (then.event ∷ [])))
              (joined (Has s.0) (Has way.0.0) last here.events (then.front ++ then.event ∷ []) here.called then.called);
        }

    cut_off : (n : ℕ) (s : Told D) (lines replies : List (List ℕ)) (t : Told D) → (way : All s lines replies t) → Honest (disk t) → Carried s → n < length lines
        → (moments : List DiskState) → Moments (there n s lines replies t way) (there (suc n) s lines replies t way) moments → P moments → CutAt n s lines replies t way
    cut_off zero s [] replies t way h carried below moments passes p = absurd (omega (arith, below))
    cut_off zero s (line ∷ lines) [] t way h carried below moments passes p = absurd way
    cut_off zero s (line ∷ lines) (reply ∷ replies) t way h carried below moments passes p =
        cut_by s line lines reply replies t way (honest_before way.0 lines replies t way.3 h) moments passes p way.1.1.commits
    cut_off (suc n) s [] replies t way h carried below moments passes p = absurd (omega (arith, below))
    cut_off (suc n) s (line ∷ lines) [] t way h carried below moments passes p = absurd way
    cut_off (suc n) s (line ∷ lines) (reply ∷ replies) t way h carried below moments passes p =
        let between = honest_before way.0 lines replies t way.3 h in
        let now = carries_on s way.0 (taken line) way.1 between carried in
        let here = line_moments s way.0 (taken line) way.1 between carried in
        later n s line lines reply replies t way between (made s way.0 (taken line) way.1 between here.0 here.1)
        (cut_off n way.0 lines replies t way.3 h now (omega (arith, below)) moments passes p)

  -- behind events that were safe
  module _ (stays : (disk : D) → Honest disk → IsImage (state disk) (state disk).content) (kit : Kit) (first : World) (start : DiskState)
      (so_far : List (EventOf of_tables)) (right : SpellsKit texts kit) (of_first : AreTablesOf kit first) (each : EachImage start (KeepsTables texts first))
      (old : Told D) (end : Ends Honest Works state past faults writes syncs stays texts kit first right of_first start each so_far (Has old.0)) where
    goes_on : (more : List (EventOf of_tables)) (last : Owner D) → Called (Has old.0) more last
        → IsSafeSession Honest Works state past faults writes syncs texts kit first start (so_far ++ more) last
    goes_on more last called =
        (goes_behind Honest Works state past faults writes syncs stays texts kit first right of_first start each so_far more
        end.session.system (Has old.0) last end.session.runs end.session.disk end.session.holder end.carries called).session

    between : (lines replies : List (List ℕ)) (new : Told D) → (way : All old lines replies new) → Honest (disk new) → (n : ℕ)
        → IsSafeService Honest Works state past faults writes syncs texts kit first start so_far old (oks n old lines replies new way) (Has (there n old lines replies new way).0)
    between lines replies new way h n =
        let c = comes n old lines replies new way h end.carries in
        let safe = goes_on c.events (Has (there n old lines replies new way).0) c.called in
        let parts = apart (in_words texts first) so_far c.events (at_first of_tables start) safe.system safe.runs in
        record {
          events = c.events;
          session = c.called;
          safe = safe;
          before = parts.0;
          reached = parts.1;
          acknowledged = all_acknowledge (in_words texts first) parts.0 safe.system c.events parts.2 c.commits
              ∙ ap (λ (r : List TableRequest). parts.0.acknowledged ++ r) c.takes;
        }

    whole : (lines replies : List (List ℕ)) (new : Told D) → (way : All old lines replies new) → Honest (disk new)
        → IsSafeService Honest Works state past faults writes syncs texts kit first start so_far old (oks (length lines) old lines replies new way) (Has new.0)
    whole lines replies new way h =
        subst (λ (x : Told D). IsSafeService Honest Works state past faults writes syncs texts kit first start so_far old (oks (length lines) old lines replies new way) (Has x.0))
        (all_there old lines replies new way) (between lines replies new way h (length lines))

    module _ (P : List DiskState → Type 0) (last : Owner D) (none : P [] → ⊥)
        (cuts : (old new : Store D) (asked : TableRequest) (stamp : ℕ) (result : Result ℕ Fault) (moments : List DiskState)
        → Commits Honest Works state past faults writes syncs old asked.name stamp asked.request new result → Honest (disk_of new)
        → Passes state past (disk_of old) (disk_of new) moments → P moments
        → (event : EventOf of_tables) × IsWithin event × (asked_by event ≡ Some asked)
        × Makes Honest Works state past faults writes syncs texts (Has old) event last) where
      ends_safely : (lines replies : List (List ℕ)) (new : Told D) (way : All old lines replies new) (n : ℕ) → CutAt P last none cuts n old lines replies new way
          → IsCutOff Honest Works state past faults writes syncs texts kit first start so_far old lines replies new way n last
      ends_safely lines replies new way n c =
          let safe = goes_on (c.front ++ c.event ∷ []) last c.called in
          let parts = apart (in_words texts first) so_far (c.front ++ c.event ∷ []) (at_first of_tables start) safe.system safe.runs in
          let more = apart (in_words texts first) c.front (c.event ∷ []) parts.0 safe.system parts.2 in
          let ends = one_pends (in_words texts first) more.0 safe.system c.event (the_last (in_words texts first) c.event more.0 safe.system more.2) c.within in
          let reached : more.0.acknowledged ≡ parts.0.acknowledged ++ acknowledged_in c.front = all_acknowledge (in_words texts first) parts.0 more.0 c.front more.1 c.commits in
          record {
            line = c.line;
            under_way = c.under_way;
            service = record {
              events = c.front ++ c.event ∷ [];
              session = c.called;
              safe = safe;
              before = parts.0;
              reached = parts.1;
              acknowledged = three ends.1 reached (ap (λ (r : List TableRequest). parts.0.acknowledged ++ r) c.takes);
            };
            stamp = c.stamp;
            sheet = c.sheet;
            asked = c.asked;
            asks = c.asks;
            pending = ends.0 ∙ c.pends;
          }

    -- what a stop, or a kill, makes of the commit in which it comes

    is_stopped : (lines replies : List (List ℕ)) (new : Told D) → (way : All old lines replies new) → Honest (disk new) → (n : ℕ) → n < length lines
        → (moments : List DiskState) → Moments (there n old lines replies new way) (there (suc n) old lines replies new way) moments → (image : List ℕ) → IsImageOfOne moments image
        → IsCutOff Honest Works state past faults writes syncs texts kit first start so_far old lines replies new way n (Lies (settled_state image))
    is_stopped lines replies new way h n below moments passes image is =
        ends_safely P last none cuts lines replies new way n (cut_off P last none cuts n old lines replies new way h end.carries below moments passes is)
      where
        P : List DiskState → Type 0
        P = λ m. IsImageOfOne m image

        last : Owner D
        last = Lies (settled_state image)

        none : P [] → ⊥
        none absent = absent

        cuts : (was then : Store D) (asked : TableRequest) (stamp : ℕ) (result : Result ℕ Fault) (since : List DiskState)
            → Commits Honest Works state past faults writes syncs was asked.name stamp asked.request then result → Honest (disk_of then)
            → Passes state past (disk_of was) (disk_of then) since → P since
            → (event : EventOf of_tables) × IsWithin event × (asked_by event ≡ Some asked)
            × Makes Honest Works state past faults writes syncs texts (Has was) event last
        cuts was then asked stamp result since commits honest passed within = (
          Commit asked since (state (disk_of then)) (Cut image),
          tt,
          refl,
          Is_cut _ _ _ _ _ _ image (By_commit was then asked.name stamp asked.request result since commits honest passed) within,
        )

    is_killed : (lines replies : List (List ℕ)) (new : Told D) → (way : All old lines replies new) → Honest (disk new) → (n : ℕ) → n < length lines
        → (moments : List DiskState) → Moments (there n old lines replies new way) (there (suc n) old lines replies new way) moments → (now : DiskState) → IsLeftIn moments now
        → IsCutOff Honest Works state past faults writes syncs texts kit first start so_far old lines replies new way n (Left now)
    is_killed lines replies new way h n below moments passes now left =
        ends_safely P last none cuts lines replies new way n (cut_off P last none cuts n old lines replies new way h end.carries below moments passes left)
      where
        P : List DiskState → Type 0
        P = λ m. IsLeftIn m now

        last : Owner D
        last = Left now

        none : P [] → ⊥
        none absent = absent

        cuts : (was then : Store D) (asked : TableRequest) (stamp : ℕ) (result : Result ℕ Fault) (since : List DiskState)
            → Commits Honest Works state past faults writes syncs was asked.name stamp asked.request then result → Honest (disk_of then)
            → Passes state past (disk_of was) (disk_of then) since → P since
            → (event : EventOf of_tables) × IsWithin event × (asked_by event ≡ Some asked)
            × Makes Honest Works state past faults writes syncs texts (Has was) event last
        cuts was then asked stamp result since commits honest passed within = (
          Commit asked since now Failed,
          tt,
          refl,
          Is_killed _ _ _ _ _ _ now (By_commit was then asked.name stamp asked.request result since commits honest passed) within,
        )

    pub are_safe : (lines replies : List (List ℕ)) (new : Told D) → (way : All old lines replies new) → Honest (disk new)
        → AreSafeServices Honest Works state past faults writes syncs texts kit first start so_far old lines replies new way
    are_safe lines replies new way h =
        record {
          whole = whole lines replies new way h;
          between = between lines replies new way h;
          stopped = is_stopped lines replies new way h;
          killed = is_killed lines replies new way h;
          moments = are_of_lines old lines replies new way h end.carries;
        }

module _ {D : Type 0} (Honest Works : D → Type 0) (state : D → DiskState) (past : D → List DiskState) (faults writes syncs : D → ℕ)
    {E : Type 0} (Honest_then Works_then : E → Type 0) (state_then : E → DiskState) (past_then : E → List DiskState)
    (faults_then writes_then syncs_then : E → ℕ)
    (stays_then : (disk : E) → Honest_then disk → IsImage (state_then disk) (state_then disk).content) where
  pub services_go_on : ServicesGoOn Honest Works state past faults writes syncs Honest_then Works_then state_then past_then faults_then writes_then syncs_then
  services_go_on texts kit first start events more last old new lines replies right of_kit each was session way h =
      are_safe Honest_then Works_then state_then past_then faults_then writes_then syncs_then texts stays_then kit first start (events ++ more) right of_kit each old
      (on_behind Honest Works state past faults writes syncs Honest_then Works_then state_then past_then faults_then writes_then syncs_then stays_then
      texts kit first start events more last (Has old.0) right of_kit each was session)
      lines replies new way h

  same_state : (last : Owner D) → state_under state last ≡ state_under state_then (left_by state last)
  same_state (Lies now) = refl
  same_state (Left now) = refl
  same_state (Has store) = refl

  pub programs_go_on : ProgramsGoOn Honest Works state past faults writes syncs Honest_then Works_then state_then past_then faults_then writes_then syncs_then
  programs_go_on texts kit first start events last disk old new lines replies right of_kit each was at opens way h =
      let before = honest_before Honest_then Works_then state_then past_then faults_then writes_then syncs_then texts old lines replies new way h in
      let told = opens.opened before in (
        told.1.moments,
        services_go_on texts kit first start events (Opening told.1.moments (state_then (disk_of old.0)) (Opened (world_in texts old.0)) ∷ []) last old new lines replies right of_kit each was
            (Goes_on _ _ _ _ _ (Returns _ _ _ _ _ _ (By_open (left_by state last) disk (Ok old.0) told.1.moments (at ∙ same_state last) opens before told.1.passed)) (Ended _))
            way h,
      )

pub sessions_join : {D : Type 0} (Honest Works : D → Type 0) (state : D → DiskState) (past : D → List DiskState) (faults writes syncs : D → ℕ)
    → SessionsJoin Honest Works state past faults writes syncs
sessions_join Honest Works state past faults writes syncs texts old between new front rest one other =
    joined Honest Works state past faults writes syncs texts old between new front rest one other
