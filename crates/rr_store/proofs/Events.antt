-- The calls on a store are events of the law over schedules.
use Rattle.std.proofs.Common.{◌≡◌, ◌⊎◌, ℕ, true, false, List, [], ◌∷◌, ◌++◌, Option, None, Some, option_map, Result, Ok, Err, IsErrOf, inl, inr, refl, sym, ap, subst, ◌∙◌}
use Rattle.std.proofs.lemmas.List.{append_cancel_right}
use Rattle.rr_code.specs.declared.command.Command.{Command}
use Rattle.rr_disk.specs.Disk.{DiskState, IsImage, after_sync}
use Rattle.rr_disk.specs.Moments.{EachImage, EachImageOf, LeavesOnly}
use Rattle.rr_disk.proofs.ImageLemmas.{each_synced}
use Rattle.rr_disk.proofs.MomentLemmas.{EachImageOf-weaker}
use Rattle.rr_images.proofs.OneWorld as images
use Rattle.rr_kit.specs.declared.kit.Kit.{Kit}
use Rattle.rr_kit.specs.Kits.{KitTexts, SpellsKit}
use Rattle.rr_tables.specs.declared.records.fault.Fault as rules
use Rattle.rr_tables.specs.declared.records.fault.Fault.TheVariants as R
use Rattle.rr_tables.specs.Records.Headline.{KeepsTables, KeepsTablesOr}
use Rattle.rr_tables.specs.Records.Schedules.{LeadsTo, of_tables}
use Rattle.rr_tables.specs.Records.Taking.{table_files}
use Rattle.rr_tables.specs.Records.Words.{in_words}
use Rattle.rr_tables.specs.Records.World as ruled
use Rattle.rr_tables.specs.Records.World.{IsLawfulIn}
use Rattle.rr_tables.proofs.RecordLemmas.TakingLemmas.{files_are_exact, lawful_are_taken}
use Rattle.rr_tables.proofs.RecordLemmas.WordLemmas.{are_in_words}
use Rattle.rr_images.specs.Schedules.Schedule.{Done, Failed, KeepsThe, KeepsWith, MayCommit, MayOpen, MayTick, Refused, StandsOnlyFor, Unread}
use Rattle.rr_images.proofs.ScheduleLemmas.Schedules.{leaves_now}
use Rattle.rr_turns.specs.declared.request.Request.{Request}
use Rattle.rr_turns.proofs.JudgementLemmas.{is-map}
use Rattle.rr_store.specs.declared.fault.Fault.{Fault}
use Rattle.rr_store.specs.declared.fault.Fault.TheVariants as F
use Rattle.rr_store.specs.declared.opening.Refused as opening
use Rattle.rr_store.specs.declared.store.Store.{Store}
use Rattle.rr_store.specs.Allowing.{CommitEnds, IsLawful}
use Rattle.rr_store.specs.Committing.{Commits}
use Rattle.rr_store.specs.Events.{CommitIsEvent, OpenIsEvent, Opens, Passes, StepIsEvent, disk_behind, ending_of, refusal_of, world_in}
use Rattle.rr_store.specs.Fault.{of_rules}
use Rattle.rr_store.specs.Files.{AreTablesOf, StandsFor}
use Rattle.rr_store.specs.Held.{Held, Takes, with_failure, with_tables}
use Rattle.rr_store.specs.Held as comes
use Rattle.rr_store.specs.Holding.{Carries, disk_of, file_of, held_of}
use Rattle.rr_store.specs.Opening.{IsNoVerdict, SyncsAtMost}
use Rattle.rr_store.specs.Ticking.{Steps}
use Rattle.rr_store.specs.World.{TableRequest, World, for_table, world_after}
use Rattle.rr_store.proofs.Openings.{syncs_at_most}
use Rattle.rr_store.proofs.Standing.{carried_now, lawful_now}
use Rattle.rr_store.proofs.Steps.{ends_so, first_of}
use Rattle.rr_store.proofs.Worlds.{kept_stand}

-- the moments of a call are those of which its contract tells
pub same_moments : (told moments past_old past_new : List DiskState) (old new : DiskState) → new ∷ past_new ≡ told ++ old ∷ past_old → new ∷ past_new ≡ moments ++ old ∷ past_old → told ≡ moments
same_moments told moments past_old past_new old new one other = append_cancel_right told moments (old ∷ past_old) (sym one ∙ other)

pub each_moment : (past_old past_new : List DiskState) (old new : DiskState) (P : List ℕ → Type 0) → LeavesOnly past_old old past_new new P
    → (moments : List DiskState) → new ∷ past_new ≡ moments ++ old ∷ past_old → EachImageOf moments P
each_moment past_old past_new old new P leaves moments passes =
    subst (λ (m : List DiskState). EachImageOf m P) (same_moments leaves.since moments past_old past_new old new leaves.goes_on passes) leaves.each

-- a lawful request leads on, in words
module _ (texts : KitTexts) (kit : Kit) (tables : World) (asked : TableRequest) (right : SpellsKit texts kit) (of_kit : AreTablesOf kit tables) where
  pub leads_on : IsLawfulIn kit tables asked → LeadsTo asked (in_words texts tables) (in_words texts (world_after kit tables asked.name asked.request))
  leads_on lawful = (lawful.0, lawful_are_taken kit tables (in_words texts tables) asked right (are_in_words texts tables of_kit.spelled) of_kit.played lawful)

  kept_with : (image : List ℕ) → KeepsTablesOr texts kit tables (Some asked) image → KeepsWith of_tables (in_words texts tables) asked image
  kept_with image (inl keeps) = inl keeps
  kept_with image (inr (lawful, keeps)) = inr (in_words texts (world_after kit tables asked.name asked.request), leads_on lawful, keeps)

-- how a commit ends, by what comes of its request

ends_refused : (fault : rules.Fault) → ending_of {T = ℕ} (Err (of_rules fault)) ≡ Refused
ends_refused (R.Game fault) = refl
ends_refused (R.StaleStamp stamp) = refl
ends_refused R.TurnNotKept = refl
ends_refused R.TooManyCommands = refl
ends_refused R.TooManyTables = refl
ends_refused R.NoSuchTable = refl
ends_refused R.OutOfMemory = refl

ruled_out : (found : Option rules.Fault) (fault : Fault) → Some fault ≡ option_map of_rules found → ending_of {T = ℕ} (Err fault) ≡ Refused
ruled_out None fault is = absurd cc
ruled_out (Some found) fault is =
    let same : fault ≡ of_rules found = cc is in
    subst (λ (f : Fault). ending_of {T = ℕ} (Err f) ≡ Refused) (sym same) (ends_refused found)

not_done : (fault : Fault) → ending_of {T = ℕ} (Err fault) ≡ Done → ⊥
not_done F.DeviceFailed is = cc is
not_done F.OpenAgain is = cc is
not_done _ is = cc is

done_lawful : (texts : KitTexts) (kit : Kit) (tables : World) (stamp : ℕ) (r : TableRequest) (moments : List DiskState) (new : DiskState) (result : Result ℕ Fault)
    → ending_of result ≡ Done → CommitEnds texts kit tables stamp r moments new result → IsLawful texts kit tables stamp r
done_lawful texts kit tables stamp r moments new (Ok value) is ends = ends.0
done_lawful texts kit tables stamp r moments new (Err fault) is ends = absurd (not_done fault is)

-- the request was taken; it was refused; the device failed
abbrev pub Outcome : Held → List ℕ → Request Command → Held → Result ℕ Fault → Type 0
Outcome old name request new result =
    ((ending_of result ≡ Done) × (new ≡ with_tables old (world_after old.kit old.tables name request)))
    ⊎ ((ending_of result ≡ Refused) × (new ≡ old))
    ⊎ ((ending_of result ≡ Failed) × (new ≡ with_failure old))

pub outcome : (old : Held) (stamp : ℕ) (name : List ℕ) (request : Request Command) (new : Held) (result : Result ℕ Fault) → old.broken ≡ false
    → Takes old stamp name request new result → Outcome old name request new result
outcome old stamp name request new result whole (comes.Accepted was lawful is) = inl (refl, is)
outcome old stamp name request new result whole (comes.Refused fault was verdict is) =
    let found = is-map of_rules (ruled.judgement_in old.kit old.tables stamp name request) (Some fault) verdict in
    inr (inl (ruled_out found.0 fault found.2, is))
outcome old stamp name request new result whole (comes.Wants was lawful is) = inr (inl (refl, is))
outcome old stamp name request new result whole (comes.NoRoom was lawful is) = inr (inl (refl, is))
outcome old stamp name request new result whole (comes.Fails was lawful is) = inr (inr (refl, is))
outcome old stamp name request new result whole (comes.Again broken is) = let both : true ≡ false = sym broken ∙ whole in absurd (cc both)

pub unread : (fault : Fault) → IsNoVerdict fault → refusal_of fault ≡ Unread
unread fault (inl is) = ap refusal_of is
unread fault (inr is) = ap refusal_of is

module _ {D : Type 0} (Honest Works : D → Type 0) (state : D → DiskState) (past : D → List DiskState) (faults writes syncs : D → ℕ) (texts : KitTexts) where
  module _ (old new : Store D) (name : List ℕ) (stamp : ℕ) (request : Request Command) (result : Result ℕ Fault) (moments : List DiskState)
      (c : Commits Honest Works state past faults writes syncs old name stamp request new result)
      (h : Honest (disk_of new)) (s : Carries state old texts) (whole : (held_of old).broken ≡ false)
      (passes : Passes state past (disk_of old) (disk_of new) moments) where
    abbrev asked : TableRequest
    asked = for_table name request

    abbrev Or : List ℕ → Type 0
    Or = KeepsTablesOr texts (held_of old).kit (held_of old).tables (Some asked)

    abbrev With : List ℕ → Type 0
    With = KeepsWith of_tables (world_in texts old) asked

    with : (image : List ℕ) → Or image → With image
    with = kept_with texts (held_of old).kit (held_of old).tables asked s.right s.tables_of_kit

    each : EachImageOf moments With
    each =
        EachImageOf-weaker moments Or With with
        (each_moment (past (disk_of old)) (past (disk_of new)) (state (disk_of old)) (state (disk_of new)) Or (c.keeps h texts s) moments passes)

    now : EachImage (state (disk_of new)) With
    now = λ image is. with image (leaves_now (past (disk_of old)) (past (disk_of new)) (state (disk_of old)) (state (disk_of new)) Or (c.keeps h texts s) image is)

    carried : (held_of new).broken ≡ false → EachImage (state (disk_of new)) (KeepsThe of_tables (world_in texts new))
    carried still = carried_now (file_of new) (state (disk_of new)) texts (held_of new).tables (c.carries h still texts s).file

    by_outcome : Outcome (held_of old) name request (held_of new) result → CommitIsEvent state texts old name request result new moments
    by_outcome (inl (done, is)) =
        let told = c.allowed h texts s in
        let lawful = done_lawful texts (held_of old).kit (held_of old).tables stamp asked told.moments (state (disk_of new)) result done told.allowed.ends in
        let leads : LeadsTo asked (world_in texts old) (world_in texts new) =
        subst (λ (x : Held). LeadsTo asked (world_in texts old) (in_words texts x.tables)) (sym is)
        (leads_on texts (held_of old).kit (held_of old).tables asked s.right s.tables_of_kit
        (lawful_now texts (held_of old).kit (held_of old).tables stamp asked lawful s.tables_of_kit)) in
        record {
          ends = subst (λ (e : _). MayCommit of_tables (world_in texts old) asked moments (state (disk_of new)) e) (sym done)
              (each, (world_in texts new, leads, carried (ap (λ (x : Held). x.broken) is ∙ whole)));
          leads = λ is_done. leads;
          cut = λ image of_one. (each, of_one);
        }
    by_outcome (inr (inl (refused, is))) =
        record {
          ends = subst (λ (e : _). MayCommit of_tables (world_in texts old) asked moments (state (disk_of new)) e) (sym refused)
              (each, subst (λ (x : Held). EachImage (state (disk_of new)) (KeepsThe of_tables (in_words texts x.tables))) is (carried (ap (λ (x : Held). x.broken) is ∙ whole)));
          leads = λ is_done. let both : Refused ≡ Done = sym refused ∙ is_done in absurd (cc both);
          cut = λ image of_one. (each, of_one);
        }
    by_outcome (inr (inr (failed, is))) =
        record {
          ends = subst (λ (e : _). MayCommit of_tables (world_in texts old) asked moments (state (disk_of new)) e) (sym failed) (each, now);
          leads = λ is_done. let both : Failed ≡ Done = sym failed ∙ is_done in absurd (cc both);
          cut = λ image of_one. (each, of_one);
        }

    pub commit_is_event : CommitIsEvent state texts old name request result new moments
    commit_is_event = by_outcome (outcome (held_of old) stamp name request (held_of new) result whole (c.takes s.played))

  module _ (old new : Store D) (moments : List DiskState) (h : Honest (disk_of new)) (s : Carries state old texts) (whole : (held_of old).broken ≡ false)
      (passes : Passes state past (disk_of old) (disk_of new) moments) where
    abbrev The : List ℕ → Type 0
    The = KeepsTables texts (held_of old).tables

    module _ (keeps : LeavesOnly (past (disk_of old)) (state (disk_of old)) (past (disk_of new)) (state (disk_of new)) The) where
      each_kept : EachImageOf moments The
      each_kept = each_moment (past (disk_of old)) (past (disk_of new)) (state (disk_of old)) (state (disk_of new)) The keeps moments passes

      kept_now : EachImage (state (disk_of new)) The
      kept_now = leaves_now (past (disk_of old)) (past (disk_of new)) (state (disk_of old)) (state (disk_of new)) The keeps

      step_ends : {T : Type 0} (result : Result T Fault) → (IsErrOf result F.OpenAgain → ⊥) → MayTick of_tables (world_in texts old) moments (state (disk_of new)) (ending_of result)
      step_ends (Ok value) other = (each_kept, kept_now)
      step_ends (Err F.DeviceFailed) other = (each_kept, kept_now)
      step_ends (Err F.OpenAgain) other = absurd (other refl)
      step_ends (Err _) other = (each_kept, kept_now)

    pub step_is_event : {T : Type 0} (result : Result T Fault) → Steps Honest Works state past faults old result new → StepIsEvent state texts old result new moments
    step_is_event result c =
        record {
          ends = step_ends (c.keeps h texts s) result (λ is. let both : true ≡ false = sym (c.again.0 is) ∙ whole in cc both);
          cut = λ image of_one. (each_kept (c.keeps h texts s), of_one);
        }

  module _ (stays : (disk : D) → Honest disk → IsImage (state disk) (state disk).content) (kit : Kit) (tables : World) (disk : D) (right : SpellsKit texts kit)
      (of_kit : AreTablesOf kit tables) (keeps : KeepsTables texts tables (state disk).content) where
    mine : StandsFor (state disk).content texts tables
    mine = kept_stand texts kit tables right of_kit (state disk).content keeps

    synced : (moments : List DiskState) → Honest disk → SyncsAtMost (state disk) moments → EachImageOf moments (IsImage (state disk))
    synced moments honest (inl none) = subst (λ (m : List DiskState). EachImageOf m (IsImage (state disk))) (sym none) tt
    synced moments honest (inr one) = subst (λ (m : List DiskState). EachImageOf m (IsImage (state disk))) (sym one) (each_synced (state disk) (IsImage (state disk)) (stays disk honest), tt)

    pub open_is_event : (result : Result (Store D) (opening.Refused D)) (moments : List DiskState) → Opens Honest state past disk result → Honest (disk_behind result)
        → Passes state past disk (disk_behind result) moments → OpenIsEvent state texts tables disk result moments
    open_is_event (Ok store) moments o h passes =
        let told = o.opened h in
        let found = told.1.allowed.2 texts tables mine in
        let same : (held_of store).tables ≡ tables = ap (λ (read : KitTexts × World). read.1) found.same in
        let told_are = same_moments told.1.moments moments (past disk) (past (disk_of store)) (state disk) (state (disk_of store)) told.1.passed passes in
        let are : moments ≡ after_sync (state disk) ∷ [] = sym told_are ∙ told.1.allowed.0 in
        let passed : state (disk_of store) ∷ past (disk_of store) ≡ after_sync (state disk) ∷ state disk ∷ past disk =
        subst (λ (m : List DiskState). state (disk_of store) ∷ past (disk_of store) ≡ m ++ state disk ∷ past disk) are passes in
        let honest = o.honest h in
        let each = synced moments honest (inr are) in
        let stands : StandsFor (state disk).content texts (held_of store).tables = subst (λ (w : World). StandsFor (state disk).content texts w) (sym same) mine in
        let only : StandsOnlyFor of_tables (world_in texts store) (state disk).content =
        λ other there. images.one_world table_files files_are_exact (state disk).content other (world_in texts store) there stands.stands in
        record {
          ends = (
            each,
            ((state (disk_of store)).content, stays (disk_of store) h),
            subst (λ (now : DiskState). EachImage now (λ image. IsImage (state disk) image × StandsOnlyFor of_tables (world_in texts store) image)) (first_of passed)
                (each_synced (state disk) (λ image. IsImage (state disk) image × StandsOnlyFor of_tables (world_in texts store) image) (stays disk honest, only)),
          );
          cut = λ image of_one. (each, of_one);
          opened = (o.whole, same, o.carries h texts (subst (λ (w : World). KeepsTables texts w (state disk).content) (sym same) keeps));
          left = tt;
        }
    open_is_event (Err refused) moments o h passes =
        let none = o.only h texts kit tables right of_kit keeps in
        let told = o.left h in
        let told_are = same_moments told.moments moments (past disk) (past refused.disk) (state disk) (state refused.disk) told.passed passes in
        let each = synced moments (o.honest_left h) (subst (λ (m : List DiskState). SyncsAtMost (state disk) m) told_are (syncs_at_most refused.fault (state disk) told.moments told.allowed.0)) in
        record {
          ends = subst (λ (e : _). MayOpen of_tables (state disk) moments (state refused.disk) e) (sym (unread refused.fault none))
              (each, ends_so moments (past disk) (past refused.disk) (state disk) (state refused.disk) (IsImage (state disk)) passes (λ image is. is) each);
          cut = λ image of_one. (each, of_one);
          opened = tt;
          left = none;
        }
