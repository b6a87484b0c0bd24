-- A session is a schedule, so it is safe.
use Rattle.std.proofs.Common.{◌≡◌, ℕ, zero, suc, ◌+◌, ◌≤◌, max, length, arith, Bool, true, false, List, [], ◌∷◌, ◌++◌, Option, None, Some, Result, Ok, Err, inl, inr, refl, sym, ap, subst, ◌∙◌}
use Rattle.std.proofs.lemmas.List.{append-nil, append_assoc, append_cancel_right}
use Rattle.rr_code.specs.declared.command.Command.{Command}
use Rattle.rr_disk.specs.Disk.{DiskState, IsImage, IsOutside, after_failed_write, after_write, furthest_end}
use Rattle.rr_disk.specs.Moments.{EachImage, EachImageOf}
use Rattle.rr_disk.specs.Replay.{settled_state}
use Rattle.rr_disk.proofs.ImageLemmas.{furthest_end-append}
use Rattle.rr_kit.specs.declared.kit.Kit.{Kit}
use Rattle.rr_kit.specs.Kits.{KitTexts, SpellsKit}
use Rattle.rr_log.specs.declared.log.Log.{Log}
use Rattle.rr_log.specs.Log as file
use Rattle.rr_tables.specs.declared.records.rules.TableRules.{TableRules}
use Rattle.rr_tables.specs.Records.Headline.{IsSafe, KeepsTables, KeepsTablesOr}
use Rattle.rr_tables.specs.Records.Schedules.{LeadsTo, of_tables}
use Rattle.rr_tables.specs.Records.Words.{in_words}
use Rattle.rr_tables.specs.Records.World.{Follows}
use Rattle.rr_tables.proofs.RecordLemmas.PlayedLemmas.{played_after}
use Rattle.rr_tables.proofs.RecordLemmas.Schedules.{are_worlds, whatever_comes}
use Rattle.rr_tables.proofs.RecordLemmas.WorldLemmas.{keep_after}
use Rattle.rr_images.specs.Schedules.Laws.{at_first}
use Rattle.rr_images.specs.Schedules.Schedule.{Again, Commit, Cut, Done, Ending, EventOf, Failed, Folds, Happens, IsImageOfOne, KeepsThe, KeepsWith, MayCommit, MayOpen, MayTick, OpenCut, OpenEnding, Opened, Opening, Refused, Runs, Settles, Stop, SystemOf, TurnedAway, Unread, after_commit, after_tick, disk_after, held_after, let_go}
use Rattle.rr_images.specs.Schedules.Schedule as schedule
use Rattle.rr_images.proofs.ScheduleLemmas.Schedules.{one_fold}
use Rattle.rr_turns.specs.declared.request.Request.{Request}
use Rattle.rr_reading.specs.Worlds.World as words
use Rattle.rr_store.specs.declared.fault.Fault.{Fault}
use Rattle.rr_store.specs.declared.fault.Fault.TheVariants as F
use Rattle.rr_store.specs.declared.opening.Refused as opening
use Rattle.rr_store.specs.declared.store.Store.{Store}
use Rattle.rr_store.specs.Committing.{Commits}
use Rattle.rr_store.specs.Events.{Opens, Passes, disk_behind, ending_of, open_ending_of, refusal_of, world_in}
use Rattle.rr_store.specs.Files.{AreTablesOf}
use Rattle.rr_store.specs.Held.{Held}
use Rattle.rr_store.specs.Holding.{Carries, IsUnchanged, disk_of, held_of}
use Rattle.rr_store.specs.Sessions.{By_checkpoint, By_commit, By_open, By_tick, Calls, Ended, Goes_on, Has, Is_cut, Is_killed, IsHolder, IsLeftIn, IsSafeSession, Left, Lies, Makes, OpeningsAndRequestsAreSessions, Owner, PartsOfWritesAreLeft, Returns, Session, SessionsAreSafe, Stops, owner_behind, serving, state_under}
use Rattle.rr_store.specs.Committing.{Spares}
use Rattle.rr_store.specs.Ticking.{Steps}
use Rattle.rr_store.specs.World.{TableRequest, World, for_table, world_after}
use Rattle.rr_store.proofs.Events.{Outcome, commit_is_event, leads_on, open_is_event, outcome, step_is_event, unread}

-- no moment has no image
none_of_none : (moments : List DiskState) (image : List ℕ) → [] ≡ moments → IsImageOfOne moments image → ⊥
none_of_none moments image none is = let P : List DiskState → Type 0 = λ m. IsImageOfOne m image in subst P (sym none) is

cut_not_done : (image : List ℕ) → Cut image ≡ Done → ⊥
cut_not_done image is = cc is

failed_not_done : Failed ≡ Done → ⊥
failed_not_done is = cc is

-- what a killed program leaves: what is so of each image of each moment is so of each of its images
left_so : (moments : List DiskState) (now : DiskState) (P : List ℕ → Type 0) → IsLeftIn moments now → EachImageOf moments P → EachImage now P
left_so [] now P is each = absurd is
left_so (moment ∷ moments) now P (inl here) each = λ image is. each.0 image (here image is)
left_so (moment ∷ moments) now P (inr later) each = left_so moments now P later each.1

none_left : (moments : List DiskState) (now : DiskState) → [] ≡ moments → IsLeftIn moments now → ⊥
none_left moments now none is = let P : List DiskState → Type 0 = λ m. IsLeftIn m now in subst P (sym none) is

-- what is so within a call, however it ends
within_commit : (world : words.World) (asked : TableRequest) (moments : List DiskState) (now : DiskState) (ending : Ending)
    → MayCommit of_tables world asked moments now ending → EachImageOf moments (KeepsWith of_tables world asked)
within_commit world asked moments now Done may = may.0
within_commit world asked moments now Refused may = may.0
within_commit world asked moments now Failed may = may.0
within_commit world asked moments now Again may = absurd may
within_commit world asked moments now (Cut image) may = may.0

within_tick : (world : words.World) (moments : List DiskState) (now : DiskState) (ending : Ending)
    → MayTick of_tables world moments now ending → EachImageOf moments (KeepsThe of_tables world)
within_tick world moments now Done may = may.0
within_tick world moments now Refused may = may.0
within_tick world moments now Failed may = may.0
within_tick world moments now Again may = absurd may
within_tick world moments now (Cut image) may = may.0

within_opening : (old : DiskState) (moments : List DiskState) (now : DiskState) (ending : OpenEnding words.World)
    → MayOpen of_tables old moments now ending → EachImageOf moments (IsImage old)
within_opening old moments now (Opened world) may = may.0
within_opening old moments now Unread may = may.0
within_opening old moments now TurnedAway may = may.0
within_opening old moments now (OpenCut image) may = may.0

-- a schedule with one event more
one_more : (first : words.World) (old between new : SystemOf of_tables) (events : List (EventOf of_tables)) (event : EventOf of_tables)
    → Runs of_tables first old events between → Happens of_tables first between event new → Runs of_tables first old (events ++ event ∷ []) new
one_more first old between new events event (schedule.Ended system) happens = schedule.Goes_on _ _ _ event [] happens (schedule.Ended new)
one_more first old between new events event (schedule.Goes_on was mid end one rest here runs) happens =
    schedule.Goes_on _ _ _ one (rest ++ event ∷ []) here (one_more first mid end new rest event runs happens)

-- requests that follow one another lead on, in words
module _ (texts : KitTexts) (kit : Kit) (right : SpellsKit texts kit) where
  after_one : (tables : World) (asked : TableRequest) → AreTablesOf kit tables → (f : Follows kit tables (asked ∷ []) (world_after kit tables asked.name asked.request))
      → AreTablesOf kit (world_after kit tables asked.name asked.request)
  after_one tables asked of_kit f =
      record { spelled = keep_after kit tables asked.name asked.request f.0.0.1 of_kit.spelled; played = played_after kit tables asked.name asked.request f.0.1 of_kit.played }

  follow_on : (requests : List TableRequest) (old new : World) → AreTablesOf kit old → Follows kit old requests new
      → AreTablesOf kit new × Folds of_tables (in_words texts old) requests (in_words texts new)
  follow_on [] old new of_kit same = (subst (λ (w : World). AreTablesOf kit w) (sym same) of_kit, ap (in_words texts) (sym same))
  follow_on (asked ∷ requests) old new of_kit f =
      let after = world_after kit old asked.name asked.request in
      let then = follow_on requests after new (after_one old asked of_kit (f.0, refl)) f.1 in
      (then.0, (in_words texts after, leads_on texts kit old asked right of_kit f.0, then.1))

-- what a file of a schedule keeps: the tables of the acknowledged requests, which an opening settles then
pub record Found (texts : KitTexts) (kit : Kit) (first : World) (system : SystemOf of_tables) (content : List ℕ) : Type 0 where
  pub tables : World
  pub of_kit : AreTablesOf kit tables
  pub keeps : KeepsTables texts tables content
  pub settled : List TableRequest
  pub settles : Settles of_tables (in_words texts first) system.acknowledged (in_words texts tables) system.pending settled

module _ (texts : KitTexts) (kit : Kit) (first : World) (right : SpellsKit texts kit) (of_first : AreTablesOf kit first)
    (system : SystemOf of_tables) (safe : IsSafe texts kit first system) where
  on : AreTablesOf kit safe.tables × Folds of_tables (in_words texts first) system.acknowledged (in_words texts safe.tables)
  on = follow_on texts kit right system.acknowledged first safe.tables of_first safe.followed

  kept_before : (content : List ℕ) → KeepsTables texts safe.tables content → Found texts kit first system content
  kept_before content keeps =
      record {
        tables = safe.tables;
        of_kit = on.0;
        keeps = keeps;
        settled = system.acknowledged;
        settles = record { without = λ folds. refl; with = λ none command is. absurd (none on.1) };
      }

  found_by : (pending : Option TableRequest) (content : List ℕ) → system.pending ≡ pending → KeepsTablesOr texts kit safe.tables pending content
      → Found texts kit first system content
  found_by None content is keeps = kept_before content keeps
  found_by (Some asked) content is (inl keeps) = kept_before content keeps
  found_by (Some asked) content is (inr (lawful, keeps)) =
      let after = world_after kit safe.tables asked.name asked.request in
      let leads : LeadsTo asked (in_words texts safe.tables) (in_words texts after) = leads_on texts kit safe.tables asked right on.0 lawful in
      let apart : Folds of_tables (in_words texts first) system.acknowledged (in_words texts after) → ⊥ = λ folds.
      are_worlds.moves asked (in_words texts after)
      (subst (λ (w : words.World). LeadsTo asked w (in_words texts after))
      (one_fold of_tables are_worlds.stands are_worlds.one are_worlds.moves system.acknowledged (in_words texts first) (in_words texts safe.tables) (in_words texts after) on.1 folds) leads) in
      record {
        tables = after;
        of_kit = after_one texts kit right safe.tables asked on.0 (lawful, refl);
        keeps = keeps;
        settled = system.acknowledged ++ asked ∷ [];
        settles = record {
          without = λ folds. absurd (apart folds);
          with = λ none command other.
              let both : Some asked ≡ Some command = sym is ∙ other in
              let same : asked ≡ command = cc both in
              ap (λ (c : TableRequest). system.acknowledged ++ c ∷ []) same;
        };
      }

  pub found : (content : List ℕ) → IsImage system.disk content → Found texts kit first system content
  found content is = found_by system.pending content refl (safe.each content is)

module _ {D : Type 0} (Honest Works : D → Type 0) (state : D → DiskState) (past : D → List DiskState) (faults writes syncs : D → ℕ)
    (stays : (disk : D) → Honest disk → IsImage (state disk) (state disk).content)
    (texts : KitTexts) (kit : Kit) (first : World) (right : SpellsKit texts kit) (of_first : AreTablesOf kit first) where
  -- a store that isn't broken has all that its next call rests on
  abbrev pub IsCarried : Owner D → Type 0
  IsCarried (Lies now) = Unit {0}
  IsCarried (Left now) = Unit {0}
  IsCarried (Has store) = (held_of store).broken ≡ false → Carries state store texts

  -- the owner of the disk, and the system of a schedule
  record Matches (owner : Owner D) (system : SystemOf of_tables) : Type 0 where
    pub disk : system.disk ≡ state_under state owner
    pub holder : IsHolder texts owner system.holder
    pub carries : IsCarried owner

  -- an event leads from one system to the next
  abbrev Step : SystemOf of_tables → EventOf of_tables → Owner D → Type 0
  Step system event then = (next : SystemOf of_tables) × Happens of_tables (in_words texts first) system event next × Matches then next

  module _ (system : SystemOf of_tables) (safe : IsSafe texts kit first system) where
    let_lie : (image : List ℕ) → Matches (Lies (settled_state image)) (let_go of_tables system (settled_state image))
    let_lie image = record { disk = refl; holder = refl; carries = tt }

    let_be : (now : DiskState) → Matches (Left now) (let_go of_tables system now)
    let_be now = record { disk = refl; holder = tt; carries = tt }

    -- an opening
    module _ (disk : D) (owner : Owner D) (at : state disk ≡ state_under state owner) (m : Matches owner system) where
      here : state disk ≡ system.disk
      here = at ∙ sym m.disk

      now_found : Honest disk → Found texts kit first system (state disk).content
      now_found honest =
          found texts kit first right of_first system safe (state disk).content
          (subst (λ (now : DiskState). IsImage now (state disk).content) here (stays disk honest))

      opened : (result : Result (Store D) (opening.Refused D)) (moments : List DiskState) → Opens Honest state past disk result → Honest (disk_behind result)
          → Passes state past disk (disk_behind result) moments
          → Step system (Opening moments (state (disk_behind result)) (open_ending_of texts result)) (owner_behind state result)
      opened (Ok store) moments o h passes =
          let f = now_found (o.honest h) in
          let e = open_is_event Honest Works state past faults writes syncs texts stays kit f.tables disk right f.of_kit f.keeps (Ok store) moments o h passes in
          let may = subst (λ (now : DiskState). MayOpen of_tables now moments (state (disk_of store)) (Opened (world_in texts store))) here e.ends in
          let settles = subst (λ (w : World). Settles of_tables (in_words texts first) system.acknowledged (in_words texts w) system.pending f.settled) (sym e.opened.1) f.settles in (
            record { acknowledged = f.settled; pending = None; holder = schedule.Serving (world_in texts store); disk = state (disk_of store) },
            schedule.Opens (world_in texts store) moments (state (disk_of store)) f.settled may settles,
            record {
              disk = refl;
              holder = ap (λ (b : Bool). serving b (world_in texts store)) (sym e.opened.0);
              carries = λ whole. e.opened.2;
            },
          )
      opened (Err refused) moments o h passes =
          let f = now_found (o.honest_left h) in
          let e = open_is_event Honest Works state past faults writes syncs texts stays kit f.tables disk right f.of_kit f.keeps (Err refused) moments o h passes in
          let may = subst (λ (now : DiskState). MayOpen of_tables now moments (state refused.disk) (refusal_of refused.fault)) here e.ends in (
            let_go of_tables system (state refused.disk),
            schedule.Opens_not moments (state refused.disk) (refusal_of refused.fault) (inl (unread refused.fault e.left)) may,
            record { disk = refl; holder = refl; carries = tt },
          )

      honest_before : (result : Result (Store D) (opening.Refused D)) → Opens Honest state past disk result → Honest (disk_behind result) → Honest disk
      honest_before (Ok store) o h = o.honest h
      honest_before (Err refused) o h = o.honest_left h

      opening_cut : (result : Result (Store D) (opening.Refused D)) (moments : List DiskState) (image : List ℕ) → Opens Honest state past disk result → Honest (disk_behind result)
          → Passes state past disk (disk_behind result) moments → IsImageOfOne moments image
          → Step system (Opening moments (state (disk_behind result)) (OpenCut image)) (Lies (settled_state image))
      opening_cut result moments image o h passes is =
          let f = now_found (honest_before result o h) in
          let e = open_is_event Honest Works state past faults writes syncs texts stays kit f.tables disk right f.of_kit f.keeps result moments o h passes in
          let may = subst (λ (now : DiskState). MayOpen of_tables now moments (state (disk_behind result)) (OpenCut image)) here (e.cut image is) in
          (let_go of_tables system (settled_state image), schedule.Opens_cut moments (state (disk_behind result)) image may, let_lie image)

      opening_killed : (result : Result (Store D) (opening.Refused D)) (moments : List DiskState) (now : DiskState) → Opens Honest state past disk result → Honest (disk_behind result)
          → Passes state past disk (disk_behind result) moments → IsLeftIn moments now
          → Step system (Opening moments now Unread) (Left now)
      opening_killed result moments now o h passes left =
          let f = now_found (honest_before result o h) in
          let e = open_is_event Honest Works state past faults writes syncs texts stays kit f.tables disk right f.of_kit f.keeps result moments o h passes in
          let each = within_opening (state disk) moments (state (disk_behind result)) (open_ending_of texts result) e.ends in
          let may = subst (λ (before : DiskState). MayOpen of_tables before moments now Unread) here (each, left_so moments now (IsImage (state disk)) left each) in
          (let_go of_tables system now, schedule.Opens_not moments now Unread (inl refl) may, let_be now)

    -- calls on a store
    module _ (old new : Store D) (m : Matches (Has old) system) where
      serves : (held_of old).broken ≡ false → system.holder ≡ schedule.Serving (world_in texts old)
      serves whole = m.holder ∙ ap (λ (b : Bool). serving b (world_in texts old)) whole

      is_broken : (held_of old).broken ≡ true → system.holder ≡ schedule.Broken
      is_broken broken = m.holder ∙ ap (λ (b : Bool). serving b (world_in texts old)) broken

      carried : (held_of old).broken ≡ false → Carries state old texts
      carried whole = m.carries whole

      -- a store that is broken stays as it is
      no_moments : (moments : List DiskState) → Passes state past (disk_of old) (disk_of new) moments → IsUnchanged old new → [] ≡ moments
      no_moments moments passes same =
          let same_disk : disk_of new ≡ disk_of old = ap (λ (f : Log D TableRules). file.disk_of f) same.same_file in
          append_cancel_right [] moments (state (disk_of old) ∷ past (disk_of old)) ((λ i. state (sym same_disk i) ∷ past (sym same_disk i)) ∙ passes)

      still : (held_of old).broken ≡ true → IsUnchanged old new → Matches (Has new) system
      still broken same =
          record {
            disk = m.disk ∙ ap (λ (f : Log D TableRules). state (file.disk_of f)) (sym same.same_file);
            holder = m.holder ∙ ap (λ (x : Held). serving x.broken (in_words texts x.tables)) (sym same.same_held);
            carries = λ whole. let both : true ≡ false = sym broken ∙ (sym (ap (λ (x : Held). x.broken) same.same_held) ∙ whole) in absurd (cc both);
          }

      module _ (name : List ℕ) (stamp : ℕ) (request : Request Command) (result : Result ℕ Fault) (moments : List DiskState)
          (c : Commits Honest Works state past faults writes syncs old name stamp request new result)
          (h : Honest (disk_of new)) (passes : Passes state past (disk_of old) (disk_of new) moments) where
        again : (held_of old).broken ≡ true → result ≡ Err F.OpenAgain
        again broken = c.again.1 broken

        unchanged : (held_of old).broken ≡ true → IsUnchanged old new
        unchanged broken = subst (λ (r : Result ℕ Fault). Spares old r new) (again broken) c.spares

        matches : Outcome (held_of old) name request (held_of new) result → (held_of old).broken ≡ false
            → Matches (Has new) (after_commit of_tables system (for_table name request) (world_in texts new) (state (disk_of new)) (ending_of result))
        matches (inl (done, is)) whole =
            record {
              disk = ap (λ (e : Ending). disk_after of_tables (state (disk_of new)) e) done;
              holder = ap (λ (e : Ending). held_after of_tables system.holder (world_in texts new) e) done
                  ∙ ap (λ (b : Bool). serving b (world_in texts new)) (sym (ap (λ (x : Held). x.broken) is ∙ whole));
              carries = λ then. c.carries h then texts (carried whole);
            }
        matches (inr (inl (refused, is))) whole =
            record {
              disk = ap (λ (e : Ending). disk_after of_tables (state (disk_of new)) e) refused;
              holder = ap (λ (e : Ending). held_after of_tables system.holder (world_in texts new) e) refused
                  ∙ (m.holder ∙ ap (λ (x : Held). serving x.broken (in_words texts x.tables)) (sym is));
              carries = λ then. c.carries h then texts (carried whole);
            }
        matches (inr (inr (failed, is))) whole =
            record {
              disk = ap (λ (e : Ending). disk_after of_tables (state (disk_of new)) e) failed;
              holder = ap (λ (e : Ending). held_after of_tables system.holder (world_in texts new) e) failed
                  ∙ ap (λ (x : Held). serving x.broken (world_in texts new)) (sym is);
              carries = λ then. c.carries h then texts (carried whole);
            }

        committed : (b : Bool) → (held_of old).broken ≡ b → Step system (Commit (for_table name request) moments (state (disk_of new)) (ending_of result)) (Has new)
        committed false whole =
            let e = commit_is_event Honest Works state past faults writes syncs texts old new name stamp request result moments c h (carried whole) whole passes in (
              after_commit of_tables system (for_table name request) (world_in texts new) (state (disk_of new)) (ending_of result),
              schedule.Commits (world_in texts old) (world_in texts new) (for_table name request) moments (state (disk_of new)) (ending_of result) (serves whole) e.ends e.leads,
              matches (outcome (held_of old) stamp name request (held_of new) result whole (c.takes (carried whole).played)) whole,
            )
        committed true broken =
            let same = unchanged broken in
            let none = no_moments moments passes same in
            let there = still broken same in
            let is = again broken in (
              system,
              subst (λ (event : EventOf of_tables). Happens of_tables (in_words texts first) system event system)
                  (λ i. Commit (for_table name request) (none i) (there.disk i) (ending_of (sym is i))) (schedule.Commits_again (for_table name request) (is_broken broken)),
              there,
            )

        commit_cut : (b : Bool) (image : List ℕ) → (held_of old).broken ≡ b → IsImageOfOne moments image
            → Step system (Commit (for_table name request) moments (state (disk_of new)) (Cut image)) (Lies (settled_state image))
        commit_cut false image whole is =
            let e = commit_is_event Honest Works state past faults writes syncs texts old new name stamp request result moments c h (carried whole) whole passes in (
              after_commit of_tables system (for_table name request) (world_in texts new) (state (disk_of new)) (Cut image),
              schedule.Commits (world_in texts old) (world_in texts new) (for_table name request) moments (state (disk_of new)) (Cut image) (serves whole) (e.cut image is) (λ done. absurd (cut_not_done image done)),
              record { disk = refl; holder = refl; carries = tt },
            )
        commit_cut true image broken is = absurd (none_of_none moments image (no_moments moments passes (unchanged broken)) is)

        commit_killed : (b : Bool) (now : DiskState) → (held_of old).broken ≡ b → IsLeftIn moments now
            → Step system (Commit (for_table name request) moments now Failed) (Left now)
        commit_killed false now whole left =
            let e = commit_is_event Honest Works state past faults writes syncs texts old new name stamp request result moments c h (carried whole) whole passes in
            let each = within_commit (world_in texts old) (for_table name request) moments (state (disk_of new)) (ending_of result) e.ends in
            let then = left_so moments now (KeepsWith of_tables (world_in texts old) (for_table name request)) left each in (
              after_commit of_tables system (for_table name request) (world_in texts new) now Failed,
              schedule.Commits (world_in texts old) (world_in texts new) (for_table name request) moments now Failed (serves whole) (each, then) (λ done. absurd (failed_not_done done)),
              record { disk = refl; holder = tt; carries = tt },
            )
        commit_killed true now broken left = absurd (none_left moments now (no_moments moments passes (unchanged broken)) left)

      module _ (T : Type 0) (h : Honest (disk_of new)) where
        is_again : (result : Result T Fault) → Steps Honest Works state past faults old result new → (held_of old).broken ≡ true
            → (result ≡ Err F.OpenAgain) × IsUnchanged old new
        is_again (Ok value) c broken = absurd (let is = c.again.1 broken in cc is)
        is_again (Err F.OpenAgain) c broken = (refl, c.refused)
        is_again (Err _) c broken = absurd (let is = c.again.1 broken in cc is)

        -- a store that isn't broken goes on with what it holds, or breaks
        goes_on : (result : Result T Fault) → Steps Honest Works state past faults old result new → (held_of old).broken ≡ false
            → Matches (Has new) (after_tick of_tables system (world_in texts old) (state (disk_of new)) (ending_of result))
        goes_on (Ok value) c whole =
            record {
              disk = refl;
              holder = sym (ap (λ (x : Held). serving x.broken (in_words texts x.tables)) c.held ∙ ap (λ (b : Bool). serving b (world_in texts old)) whole);
              carries = λ then. c.carries h then texts (carried whole);
            }
        goes_on (Err F.DeviceFailed) c whole =
            record {
              disk = refl;
              holder = sym (ap (λ (x : Held). serving x.broken (in_words texts x.tables)) c.held);
              carries = λ then. c.carries h then texts (carried whole);
            }
        goes_on (Err F.OpenAgain) c whole = let both : true ≡ false = sym (c.again.0 refl) ∙ whole in absurd (cc both)
        goes_on (Err _) c whole =
            record {
              disk = refl;
              holder = m.holder ∙ ap (λ (x : Held). serving x.broken (in_words texts x.tables)) (sym c.held);
              carries = λ then. c.carries h then texts (carried whole);
            }

        module _ (result : Result T Fault) (moments : List DiskState) (c : Steps Honest Works state past faults old result new)
            (passes : Passes state past (disk_of old) (disk_of new) moments) where
          stepped : (b : Bool) → (held_of old).broken ≡ b → Step system (schedule.Tick moments (state (disk_of new)) (ending_of result)) (Has new)
          stepped false whole =
              let e = step_is_event Honest Works state past faults writes syncs texts old new moments h (carried whole) whole passes result c in (
                after_tick of_tables system (world_in texts old) (state (disk_of new)) (ending_of result),
                schedule.Ticks (world_in texts old) moments (state (disk_of new)) (ending_of result) (serves whole) e.ends,
                goes_on result c whole,
              )
          stepped true broken =
              let is = is_again result c broken in
              let none = no_moments moments passes is.1 in
              let there = still broken is.1 in (
                system,
                subst (λ (event : EventOf of_tables). Happens of_tables (in_words texts first) system event system)
                    (λ i. schedule.Tick (none i) (there.disk i) (ending_of (sym is.0 i))) (schedule.Ticks_again (is_broken broken)),
                there,
              )

          step_cut : (b : Bool) (image : List ℕ) → (held_of old).broken ≡ b → IsImageOfOne moments image
              → Step system (schedule.Tick moments (state (disk_of new)) (Cut image)) (Lies (settled_state image))
          step_cut false image whole is =
              let e = step_is_event Honest Works state past faults writes syncs texts old new moments h (carried whole) whole passes result c in (
                after_tick of_tables system (world_in texts old) (state (disk_of new)) (Cut image),
                schedule.Ticks (world_in texts old) moments (state (disk_of new)) (Cut image) (serves whole) (e.cut image is),
                record { disk = refl; holder = refl; carries = tt },
              )
          step_cut true image broken is = absurd (none_of_none moments image (no_moments moments passes (is_again result c broken).1) is)

          step_killed : (b : Bool) (now : DiskState) → (held_of old).broken ≡ b → IsLeftIn moments now
              → Step system (schedule.Tick moments now Failed) (Left now)
          step_killed false now whole left =
              let e = step_is_event Honest Works state past faults writes syncs texts old new moments h (carried whole) whole passes result c in
              let each = within_tick (world_in texts old) moments (state (disk_of new)) (ending_of result) e.ends in
              let then = left_so moments now (KeepsThe of_tables (world_in texts old)) left each in (
                after_tick of_tables system (world_in texts old) now Failed,
                schedule.Ticks (world_in texts old) moments now Failed (serves whole) (each, then),
                record { disk = refl; holder = tt; carries = tt },
              )
          step_killed true now broken left = absurd (none_left moments now (no_moments moments passes (is_again result c broken).1) left)

    returned : (owner then : Owner D) (moments : List DiskState) (ends : EventOf of_tables) (cut : List ℕ → EventOf of_tables) (killed : DiskState → EventOf of_tables)
        → Calls Honest Works state past faults writes syncs texts owner moments ends cut killed then → Matches owner system → Step system ends then
    returned owner then moments ends cut killed (By_open by disk result since at o h passes) m = opened disk by at m result since o h passes
    returned owner then moments ends cut killed (By_commit old new name stamp request result since c h passes) m =
        committed old new m name stamp request result since c h passes (held_of old).broken refl
    returned owner then moments ends cut killed (By_tick old new result since c h passes) m = stepped old new m _ h result since c passes (held_of old).broken refl
    returned owner then moments ends cut killed (By_checkpoint old new result since c h passes) m = stepped old new m _ h result since c passes (held_of old).broken refl

    was_cut : (owner then : Owner D) (moments : List DiskState) (ends : EventOf of_tables) (cut : List ℕ → EventOf of_tables) (killed : DiskState → EventOf of_tables) (image : List ℕ)
        → Calls Honest Works state past faults writes syncs texts owner moments ends cut killed then → IsImageOfOne moments image → Matches owner system
        → Step system (cut image) (Lies (settled_state image))
    was_cut owner then moments ends cut killed image (By_open by disk result since at o h passes) is m = opening_cut disk by at m result since image o h passes is
    was_cut owner then moments ends cut killed image (By_commit old new name stamp request result since c h passes) is m =
        commit_cut old new m name stamp request result since c h passes (held_of old).broken image refl is
    was_cut owner then moments ends cut killed image (By_tick old new result since c h passes) is m = step_cut old new m _ h result since c passes (held_of old).broken image refl is
    was_cut owner then moments ends cut killed image (By_checkpoint old new result since c h passes) is m = step_cut old new m _ h result since c passes (held_of old).broken image refl is

    was_killed : (owner then : Owner D) (moments : List DiskState) (ends : EventOf of_tables) (cut : List ℕ → EventOf of_tables) (killed : DiskState → EventOf of_tables) (now : DiskState)
        → Calls Honest Works state past faults writes syncs texts owner moments ends cut killed then → IsLeftIn moments now → Matches owner system
        → Step system (killed now) (Left now)
    was_killed owner then moments ends cut killed now (By_open by disk result since at o h passes) left m = opening_killed disk by at m result since now o h passes left
    was_killed owner then moments ends cut killed now (By_commit old new name stamp request result since c h passes) left m =
        commit_killed old new m name stamp request result since c h passes (held_of old).broken now refl left
    was_killed owner then moments ends cut killed now (By_tick old new result since c h passes) left m = step_killed old new m _ h result since c passes (held_of old).broken now refl left
    was_killed owner then moments ends cut killed now (By_checkpoint old new result since c h passes) left m = step_killed old new m _ h result since c passes (held_of old).broken now refl left

    makes : (owner then : Owner D) (event : EventOf of_tables) → Makes Honest Works state past faults writes syncs texts owner event then → Matches owner system
        → Step system event then
    makes owner then event (Returns by behind moments ends cut killed call) m = returned by behind moments ends cut killed call m
    makes owner then event (Is_cut by behind moments ends cut killed image call is) m = was_cut by behind moments ends cut killed image call is m
    makes owner then event (Is_killed by behind moments ends cut killed now call left) m = was_killed by behind moments ends cut killed now call left m
    makes owner then event (Stops by image is) m =
        (let_go of_tables system (settled_state image), schedule.Stops image (subst (λ (now : DiskState). IsImage now image) (sym m.disk) is), let_lie image)

  -- a whole session
  module _ (start : DiskState) (each : EachImage start (KeepsTables texts first)) where
    abbrev Run : List (EventOf of_tables) → SystemOf of_tables → Type 0
    Run events system = Runs of_tables (in_words texts first) (at_first of_tables start) events system

    safe_then : (events : List (EventOf of_tables)) (system : SystemOf of_tables) → Run events system → IsSafe texts kit first system
    safe_then events system runs = whatever_comes texts kit first start events system right of_first.spelled each runs

    runs_on : (so_far events : List (EventOf of_tables)) (system : SystemOf of_tables) (owner last : Owner D) → Run so_far system → Matches owner system
        → Session Honest Works state past faults writes syncs texts owner events last
        → (end : SystemOf of_tables) × Run (so_far ++ events) end × Matches last end
    runs_on so_far events system owner last runs m (Ended by) =
        (system, subst (λ (es : List (EventOf of_tables)). Run es system) (sym (append-nil so_far)) runs, m)
    runs_on so_far events system owner last runs m (Goes_on by between behind one rest now then) =
        let step = makes system (safe_then so_far system runs) by between one now m in
        let more = runs_on (so_far ++ one ∷ []) rest step.0 between behind (one_more (in_words texts first) (at_first of_tables start) system step.0 so_far one runs step.1) step.2 then in
        (more.0, subst (λ (es : List (EventOf of_tables)). Run es more.0) (append_assoc so_far (one ∷ []) rest) more.1, more.2)

    -- what a session leads to that begins where the schedule has come to
    pub record Ends (events : List (EventOf of_tables)) (last : Owner D) : Type 0 where
      pub session : IsSafeSession Honest Works state past faults writes syncs texts kit first start events last
      pub carries : IsCarried last

    pub goes_behind : (so_far more : List (EventOf of_tables)) (system : SystemOf of_tables) (from last : Owner D)
        → Run so_far system → system.disk ≡ state_under state from → IsHolder texts from system.holder → IsCarried from
        → Session Honest Works state past faults writes syncs texts from more last → Ends (so_far ++ more) last
    goes_behind so_far more system from last runs disk holder carries session =
        let end = runs_on so_far more system from last runs (record { disk = disk; holder = holder; carries = carries }) session in
        let safe = safe_then (so_far ++ more) end.0 end.1 in
        record {
          session = record {
            system = end.0;
            runs = end.1;
            disk = end.2.disk;
            holder = end.2.holder;
            safe = safe;
            opens = λ disk refused at o h.
                let f = now_found end.0 safe disk last at end.2 (o.honest_left h) in
                o.only h texts kit f.tables right f.of_kit f.keeps;
          };
          carries = end.2.carries;
        }

    pub session_is_safe : (events : List (EventOf of_tables)) (last : Owner D) → Session Honest Works state past faults writes syncs texts (Lies start) events last
        → IsSafeSession Honest Works state past faults writes syncs texts kit first start events last
    session_is_safe events last session =
        (goes_behind [] events (at_first of_tables start) (Lies start) last (schedule.Ended (at_first of_tables start)) refl refl tt session).session

pub sessions_are_safe : {D : Type 0} (Honest Works : D → Type 0) (state : D → DiskState) (past : D → List DiskState) (faults writes syncs : D → ℕ)
    → ((disk : D) → Honest disk → IsImage (state disk) (state disk).content) → SessionsAreSafe Honest Works state past faults writes syncs
sessions_are_safe Honest Works state past faults writes syncs stays texts kit first start events last right of_first each session =
    session_is_safe Honest Works state past faults writes syncs stays texts kit first right of_first start each events last session

-- an opening of such a file and a request make a session
pub opening_and_request : {D : Type 0} (Honest Works : D → Type 0) (state : D → DiskState) (past : D → List DiskState) (faults writes syncs : D → ℕ)
    → ((disk : D) → Honest disk → IsImage (state disk) (state disk).content) → OpeningsAndRequestsAreSessions Honest Works state past faults writes syncs
opening_and_request Honest Works state past faults writes syncs stays disk opened last name stamp request result o c h texts kit tables right of_kit keeps =
    let then = c.honest h in
    let told = o.opened then in
    let e = open_is_event Honest Works state past faults writes syncs texts stays kit tables disk right of_kit keeps (Ok opened) told.1.moments o then told.1.passed in
    let leaves = c.keeps h texts e.opened.2 in (
      Opening told.1.moments (state (disk_of opened)) (Opened (world_in texts opened)) ∷ Commit (for_table name request) leaves.since (state (disk_of last)) (ending_of result) ∷ [],
      Goes_on _ _ _ _ _ (Returns _ _ _ _ _ _ (By_open (Lies (state disk)) disk (Ok opened) told.1.moments refl o then told.1.passed))
          (Goes_on _ _ _ _ _ (Returns _ _ _ _ _ _ (By_commit opened last name stamp request result leaves.since c h leaves.goes_on)) (Ended _)),
    )

-- a write made in part is on the way to the whole write: its range is a front of that one's

in_front : (ranges : List (ℕ × ℕ)) (range : ℕ × ℕ) (i : ℕ) → IsOutside (ranges ++ range ∷ []) i → IsOutside ranges i
in_front [] range i out = tt
in_front (one ∷ ranges) range i out = (out.0, in_front ranges range i out.1)

in_shorter : (ranges : List (ℕ × ℕ)) (at m n i : ℕ) → m ≤ n → IsOutside (ranges ++ (at, at + n) ∷ []) i → IsOutside (ranges ++ (at, at + m) ∷ []) i
in_shorter [] at m n i less (inl before, none) = (inl before, tt)
in_shorter [] at m n i less (inr behind, none) = (inr (omega arith), tt)
in_shorter (one ∷ ranges) at m n i less out = (out.0, in_shorter ranges at m n i less out.1)

module _ (old : DiskState) (at : ℕ) (front : List ℕ) where
  none_out : (bytes image : List ℕ) → IsImage old image → IsImage (after_write old at bytes) image
  none_out [] image is = is
  none_out (byte ∷ bytes) image is =
      let n = length (byte ∷ bytes) in
      let end : furthest_end (old.ranges ++ (at, at + n) ∷ []) ≡ max (furthest_end old.ranges) (max (at + n) 0) = furthest_end-append old.ranges ((at, at + n) ∷ []) in
      record {
        no_shorter = is.no_shorter;
        no_longer = omega (arith, is.no_longer);
        kept = λ i below out. is.kept i below (in_front old.ranges (at, at + n) i out);
      }

  part_out : (upto : ℕ) (bytes image : List ℕ) → upto ≤ length bytes → IsImage (after_failed_write old at upto front) image → IsImage (after_write old at bytes) image
  part_out zero bytes image less is = none_out bytes image is
  part_out (suc upto) [] image less is = absurd (omega (arith, less))
  part_out (suc upto) (byte ∷ bytes) image less is =
      let m = suc upto in
      let n = length (byte ∷ bytes) in
      let end : furthest_end (old.ranges ++ (at, at + n) ∷ []) ≡ max (furthest_end old.ranges) (max (at + n) 0) = furthest_end-append old.ranges ((at, at + n) ∷ []) in
      let sooner : furthest_end (old.ranges ++ (at, at + m) ∷ []) ≡ max (furthest_end old.ranges) (max (at + m) 0) = furthest_end-append old.ranges ((at, at + m) ∷ []) in
      record {
        no_shorter = is.no_shorter;
        no_longer = omega (arith, is.no_longer, less);
        kept = λ i below out. is.kept i below (in_shorter old.ranges at m n i less out);
      }

pub parts_are_left : PartsOfWritesAreLeft
parts_are_left old at upto front bytes less = inl (λ image is. part_out old at front upto bytes image less is)
