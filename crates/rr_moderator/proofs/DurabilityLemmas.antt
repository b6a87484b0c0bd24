-- What answering a line does to the file, from what the store's commit does.
use Rattle.std.proofs.Common.{◌≡◌, ◌⊎◌, ◌∙◌, ℕ, ◌+◌, ◌≤◌, Bool, false, true, List, Option, None, Some, Result, Ok, Err, inl, inr, refl, sym, ap, subst, length, arith}
use Rattle.rr_disk.specs.Disk.{DiskState}
use Rattle.rr_disk.specs.Moments.{EachImage, LeavesOnly}
use Rattle.rr_images.specs.Calls.{TakesNewer}
use Rattle.rr_disk.proofs.MomentLemmas.{started, weaker}
use Rattle.rr_kit.specs.Kits.{KitTexts}
use Rattle.rr_code.specs.declared.command.Command.{Command}
use Rattle.rr_code.specs.declared.line.Line.TheVariants as L
use Rattle.rr_code.specs.Line.{SpellsLine}
use Rattle.rr_log.specs.declared.log.Log.{Log}
use Rattle.rr_log.specs.Log as log
use Rattle.rr_tables.specs.declared.records.rules.TableRules.{TableRules}
use Rattle.rr_tables.specs.declared.records.fault.Fault as judge
use Rattle.rr_tables.specs.Records.Headline.{KeepsTablesOr}
use Rattle.rr_tables.specs.Records.Taking.{table_files}
use Rattle.rr_tables.specs.Records.Words.{in_words}
use Rattle.rr_roster.specs.declared.company.Corp.{Corp}
use Rattle.rr_serve.specs.Serving.{tells_failure}
use Rattle.rr_store.specs.declared.fault.Fault as store
use Rattle.rr_store.specs.declared.fault.Fault.TheVariants as T
use Rattle.rr_store.specs.declared.store.Store.{Store}
use Rattle.rr_store.specs.Fault as stored
use Rattle.rr_store.specs.Allowing.{BeforeOrAfter}
use Rattle.rr_store.specs.Committing.{Commits, Spares}
use Rattle.rr_store.specs.Held.{Held, Takes, Accepted, Refused, Wants, NoRoom, Fails, Again, with_tables}
use Rattle.rr_store.specs.Holding.{Carries, GamesArePlayed, HasNoRoom, IsFull, IsFullFor, IsUnchanged, disk_of, file_of, held_of, lent_of, number_of_next, ticks_left}
use Rattle.rr_store.specs.Keeping.{ComesOn, MakesAtMost}
use Rattle.rr_store.specs.World.{TableRequest, TableState, for_table, judgement_in, state_after, table_named, world_after}
use Rattle.rr_store.proofs.Standing.{carried_keeps, carried_now, stands_either}
use Rattle.rr_store.proofs.Worlds.{kept_stand}
use Rattle.rr_store.proofs.Verdicts.{no_failure, no_full}
use Rattle.rr_turns.specs.declared.request.Request.{Request}
use Rattle.rr_turns.specs.Judgement.{IsVerdict}
use Rattle.rr_moderator.specs.declared.fault.Fault.{Fault}
use Rattle.rr_moderator.specs.declared.fault.Fault.TheVariants as F
use Rattle.rr_moderator.specs.Answer.{accepted_text, accepted_with}
use Rattle.rr_moderator.specs.Best.{best_run}
use Rattle.rr_moderator.specs.Choosing.{CommitsBest, Stays, Goes_on}
use Rattle.rr_moderator.specs.Durability.{CannotKeep, CommitsOnce, CountsTold, HasNoPlace, IsIdle, IsReplyTo, IsRuled, IsTaken, IsToldOf, Lacks_run, Lasts, Makes_none, Makes_one, SaysNeither, layout_behind, number_behind, reaches_file, tells_acceptance, tells_full}
use Rattle.rr_moderator.specs.Serving.{Asks, AsksFor, AsBest, Gives, OfRun, Spells, reply_to, text_of}
use Rattle.rr_moderator.proofs.Telling.{accepted_calm, accepted_reaches, accepted_told, counts_told, failure_calm, failure_reaches, failure_told, full_calm, full_reaches, memory_calm, memory_reaches, refusal_calm, store_calm}
use Rattle.rr_moderator.proofs.Verdicts.{refused_by_rules}
use Rattle.rr_words.specs.declared.line.TheConstants.{LONGEST_LINE}

-- a reply can't say a thing and not say it
pub both_ways : {A : Type 0} (b : Bool) → b ≡ true → b ≡ false → A
both_ways b told calm = let both : true ≡ false = sym told ∙ calm in absurd (cc both)

-- a refusal by a rule leaves all as it was
unchanged_by : {D : Type 0} (old new : Store D) (fault : store.Fault) → (fault ≡ T.DeviceFailed → ⊥) → (fault ≡ T.FileFull → ⊥) → (fault ≡ T.OutOfMemory → ⊥)
    → Spares old (Err fault) new → IsUnchanged old new
unchanged_by old new T.DeviceFailed device full memory h = absurd (device refl)
unchanged_by old new T.FileFull device full memory h = absurd (full refl)
unchanged_by old new T.OutOfMemory device full memory h = absurd (memory refl)
unchanged_by old new _ device full memory h = h

-- which refusal it is: of the device, of a full file, for want of memory, or another
data IsOther (fault : store.Fault) : Type 0 where
  Device : fault ≡ T.DeviceFailed → IsOther fault
  Full : fault ≡ T.FileFull → IsOther fault
  Memory : fault ≡ T.OutOfMemory → IsOther fault
  Other : (fault ≡ T.DeviceFailed → ⊥) → (fault ≡ T.FileFull → ⊥) → (fault ≡ T.OutOfMemory → ⊥) → IsOther fault

which : (fault : store.Fault) → IsOther fault
which T.DeviceFailed = Device refl
which T.FileFull = Full refl
which T.OutOfMemory = Memory refl
which _ = Other (λ e. absurd (cc e)) (λ e. absurd (cc e)) (λ e. absurd (cc e))

module _ {D : Type 0} (Honest Works : D → Type 0) (state : D → DiskState) (past : D → List DiskState) (faults writes syncs : D → ℕ) (old new : Store D) (line reply : List ℕ) where
  abbrev pub Lasting : Type 0
  Lasting = Lasts Honest Works state past faults writes syncs old line new reply

  -- the line makes one commit at most
  abbrev Once : Option TableRequest → Type 0
  Once pending = CommitsOnce Honest Works state past faults writes syncs old line pending new reply

  abbrev GoesOn : Type 0
  GoesOn = Honest (disk_of new) → (held_of new).broken ≡ false → (texts : KitTexts) → Carries state old texts → Carries state new texts

  abbrev Leaves : (List ℕ → Type 0) → Type 0
  Leaves P = LeavesOnly (past (disk_of old)) (state (disk_of old)) (past (disk_of new)) (state (disk_of new)) P

  same_disk : IsUnchanged old new → disk_of new ≡ disk_of old
  same_disk same = ap (λ (l : Log D TableRules). log.disk_of l) same.same_file

  at_most : (count : D → ℕ) → disk_of new ≡ disk_of old → count (disk_of new) ≤ count (disk_of old) + 3
  at_most count is = let e : count (disk_of new) ≡ count (disk_of old) = ap count is in omega arith

  -- nor two
  at_most_two : (count : D → ℕ) → disk_of new ≡ disk_of old → count (disk_of new) ≤ count (disk_of old) + 2
  at_most_two count is = let e : count (disk_of new) ≡ count (disk_of old) = ap count is in omega arith

  -- nor any number of such calls
  within : (count : D → ℕ) → disk_of new ≡ disk_of old → MakesAtMost count (lent_of old) (file_of old) (file_of new)
  within count is = let few = at_most count is in record { under_way = λ some. omega (arith, few); begun = λ none. omega (arith, few) }

  -- what is known of the root behind the last step of a checkpoint, by whether the reply tells of an acceptance
  abbrev Renewed : Option TableRequest → Bool → Type 0
  Renewed pending told =
      (held_of new).broken ≡ false → ticks_left old ≡ 1 → ticks_left new ≡ 0 → Honest (disk_of new) → (texts : KitTexts) → (carries : Carries state old texts)
      → EachImage (state (disk_of new)) (TakesNewer table_files (layout_behind told pending carries.file.carried.layout (in_words texts (held_of new).tables)) (in_words texts (held_of new).tables))

  -- the disk counted no fault, and the reply says nothing of one
  counts_none : tells_failure reply ≡ false → faults (disk_of new) ≡ faults (disk_of old) → CountsTold (faults (disk_of old)) (faults (disk_of new)) (tells_failure reply)
  counts_none calm same = subst (λ (b : Bool). CountsTold (faults (disk_of old)) (faults (disk_of new)) b) (sym calm) same

  -- nor of an acceptance, and the number stays
  same_number : tells_acceptance reply ≡ false → number_of_next new ≡ number_of_next old → number_of_next new ≡ number_behind (tells_acceptance reply) (number_of_next old)
  same_number refused same = subst (λ (b : Bool). number_of_next new ≡ number_behind b (number_of_next old)) (sym refused) same

  -- a call that did nothing leaves only what was there
  at_rest : (P : List ℕ → Type 0) → disk_of new ≡ disk_of old → LeavesOnly (past (disk_of old)) (state (disk_of old)) (past (disk_of old)) (state (disk_of old)) P → Leaves P
  at_rest P same here = subst (λ (d : D). LeavesOnly (past (disk_of old)) (state (disk_of old)) (past d) (state d) P) (sym same) here

  -- all is as it was, and the reply tells neither of an acceptance, nor of a fault, nor of a full file
  lasts_unchanged : IsUnchanged old new → GoesOn → SaysNeither reply → Once None → Lasting
  lasts_unchanged same goes_on calm commits =
      record {
        pending = None;
        asks = tt;
        pends = λ played. tt;
        accepted = λ played told. both_ways (tells_acceptance reply) told calm.2;
        ruled = λ told. both_ways (tells_acceptance reply) told calm.2;
        honest = λ h. subst Honest (same_disk same) h;
        stops = λ h texts s. at_rest (BeforeOrAfter texts (held_of old).kit (held_of old).tables None) (same_disk same)
            (started (past (disk_of old)) (state (disk_of old)) (BeforeOrAfter texts (held_of old).kit (held_of old).tables None) (λ image is. inl (carried_keeps state old texts s image is)));
        keeps = λ h texts s. at_rest (KeepsTablesOr texts (held_of old).kit (held_of old).tables None) (same_disk same)
            (started (past (disk_of old)) (state (disk_of old)) (KeepsTablesOr texts (held_of old).kit (held_of old).tables None)
            (carried_now (file_of old) (state (disk_of old)) texts (held_of old).tables s.file));
        carries = goes_on;
        renews = λ whole one none h texts s. let left : ticks_left new ≡ ticks_left old = ap (λ (l : Log D TableRules). log.ticks_left l) same.same_file in absurd (omega (arith, one, none, left));
        number = λ _. same_number calm.2 (ap (λ (l : Log D TableRules). log.next_number l) same.same_file);
        spares = λ _. same;
        unasked = λ _. same;
        untouched = λ _ _. same;
        same_kit = ap (λ (h : Held). h.kit) same.same_held;
        same_tables = λ _. ap (λ (h : Held). h.tables) same.same_held;
        breaks = λ _. ap (λ (h : Held). h.broken) same.same_held;
        counts = counts_none calm.0 (ap faults (same_disk same));
        works = λ w. subst Works (same_disk same) w;
        device = λ told. both_ways (tells_failure reply) told calm.0;
        few_writes = λ _. at_most writes (same_disk same);
        few_syncs = λ _. at_most syncs (same_disk same);
        own_writes = λ _ _. at_most_two writes (same_disk same);
        own_syncs = λ _ _. at_most_two syncs (same_disk same);
        most_writes = within writes (same_disk same);
        most_syncs = within syncs (same_disk same);
        comes_on = λ told. both_ways (tells_acceptance reply) told calm.2;
        makes_room = λ told. both_ways (tells_acceptance reply) told calm.2;
        full = λ told. both_ways (tells_full reply) told calm.1;
        commits = commits;
      }

  -- the store stays, and the reply says nothing of it
  pub lasts_alone : new ≡ old → SaysNeither reply → IsIdle (held_of old) line reply → Lasting
  lasts_alone same calm idle =
      lasts_unchanged (record { same_file = ap (λ (x : Store D). file_of x) same; same_held = ap (λ (x : Store D). held_of x) same })
      (λ h whole texts s. subst (λ (x : Store D). Carries state x texts) (sym same) s) calm (Makes_none idle same calm.2)

  module _ (stamp : ℕ) (name : List ℕ) (c : Request Command) (sheet : List ℕ) (short : length line ≤ LONGEST_LINE) (spells : Spells line stamp (for_table name c) sheet)
      (given : GamesArePlayed old → AsksFor (held_of old) line stamp (for_table name c) sheet) (whole : (held_of old).broken ≡ false) where
    abbrev asked : TableRequest
    asked = for_table name c

    abbrev Played : Type 0
    Played = GamesArePlayed old

    abbrev Lawful : Type 0
    Lawful = IsVerdict (judgement_in (held_of old).kit (held_of old).tables stamp name c) None

    abbrev asks_so : Asks (held_of old) line asked
    asks_so = record { stamp = stamp; sheet = sheet; short = short; spells = spells; whole = whole }

    abbrev gives : (Played → Lawful) → Played → Gives (held_of old) line asked
    gives lawful played = record { stamp = stamp; sheet = sheet; short = short; asks = given played; whole = whole; lawful = lawful played }

    abbrev Committed : Result ℕ store.Fault → Type 0
    Committed taking = Commits Honest Works state past faults writes syncs old name stamp c new taking

    abbrev Replied : Result ℕ store.Fault → Type 0
    Replied taking = IsReplyTo asked sheet taking reply

    by_commit : (taking : Result ℕ store.Fault) (pending : Option TableRequest) → Committed taking → IsToldOf asked pending taking reply → Replied taking → Once pending
    by_commit taking pending k tells told = Makes_one asked stamp sheet taking spells given k tells told

    no_place : (Played → Lawful) → (at : Store D) → IsFull at name c → HasNoPlace old line at
    no_place lawful at full = record { asked = asked; asks = asks_so; lawful = gives lawful; full = full }

    cannot_keep : (Played → Lawful) → (at : Store D) → IsFullFor at (lent_of old) name c → CannotKeep old line at
    cannot_keep lawful at full = record { asked = asked; asks = asks_so; lawful = gives lawful; full = full }

    -- a file that keeps what was held, or that with the lawful request, stands for it
    stands : (texts : KitTexts) → Carries state old texts → Lawful → (image : List ℕ)
        → KeepsTablesOr texts (held_of old).kit (held_of old).tables (Some asked) image → BeforeOrAfter texts (held_of old).kit (held_of old).tables (Some asked) image
    stands texts s lawful image (inl keeps) = inl (kept_stand texts (held_of old).kit (held_of old).tables s.right s.tables_of_kit image keeps)
    stands texts s lawful image (inr keeps) =
        stands_either texts (held_of old).kit (held_of old).tables stamp asked (record { right = s.right; of_form = keeps.0.0; lawful = lawful }) s.tables_of_kit image (inr keeps.1)

    -- the table behind the request
    abbrev behind : TableState
    behind = state_after (held_of old).kit (table_named (held_of old).tables name) c

    abbrev HeldNow : Type 0
    HeldNow = held_of new ≡ with_tables (held_of old) (world_after (held_of old).kit (held_of old).tables name c)

    abbrev Takes_so : Result ℕ store.Fault → Type 0
    Takes_so taking = Takes (held_of old) stamp name c (held_of new) taking

    -- what was played and was taken, or reached the file, is lawful

    taken_lawful : {taking : Result ℕ store.Fault} (n : ℕ) → Takes_so taking → taking ≡ Ok n → Lawful × HeldNow
    taken_lawful n (Accepted was lawful held_is) is = (lawful, held_is)
    taken_lawful n (Refused fault was verdict held_is) is = absurd (cc is)
    taken_lawful n (Wants was first held_is) is = absurd (cc is)
    taken_lawful n (NoRoom was lawful held_is) is = absurd (cc is)
    taken_lawful n (Fails was lawful held_is) is = absurd (cc is)
    taken_lawful n (Again broken held_is) is = absurd (cc is)

    one_fault : (a b : store.Fault) → ◌≡◌ {A = Result ℕ store.Fault} (Err a) (Err b) → a ≡ b
    one_fault a b is = cc

    no_rule : (fault : store.Fault) (told : store.Fault) → IsVerdict (judgement_in (held_of old).kit (held_of old).tables stamp name c) (Some fault)
        → ((cause : judge.Fault) → stored.of_rules cause ≡ told → ⊥) → fault ≡ told → Lawful
    no_rule fault told verdict never is =
        let by_rule = refused_by_rules (held_of old).kit (held_of old).tables stamp name c fault verdict in absurd (never by_rule.0 (sym by_rule.2 ∙ is))

    failed_lawful : {taking : Result ℕ store.Fault} → Takes_so taking → taking ≡ Err T.DeviceFailed → Lawful
    failed_lawful (Accepted was lawful held_is) is = lawful
    failed_lawful (Refused fault was verdict held_is) is = no_rule fault T.DeviceFailed verdict no_failure (one_fault fault T.DeviceFailed is)
    failed_lawful (Wants was first held_is) is = absurd (cc is)
    failed_lawful (NoRoom was lawful held_is) is = lawful
    failed_lawful (Fails was lawful held_is) is = lawful
    failed_lawful (Again broken held_is) is = absurd (cc is)

    full_lawful : {taking : Result ℕ store.Fault} → Takes_so taking → taking ≡ Err T.FileFull → Lawful
    full_lawful (Accepted was lawful held_is) is = lawful
    full_lawful (Refused fault was verdict held_is) is = no_rule fault T.FileFull verdict no_full (one_fault fault T.FileFull is)
    full_lawful (Wants was first held_is) is = absurd (cc is)
    full_lawful (NoRoom was lawful held_is) is = lawful
    full_lawful (Fails was lawful held_is) is = lawful
    full_lawful (Again broken held_is) is = absurd (cc is)

    -- what remains to be told of a request that reached the file, by what the reply says
    record Ends : Type 0 where
      pub accepted : Played → tells_acceptance reply ≡ true → IsTaken (held_of old) line (Some asked) (held_of new) reply
      pub ruled : tells_acceptance reply ≡ true → IsRuled old line (Some asked)
      pub reaches : reaches_file reply ≡ true
      pub same_kit : (held_of new).kit ≡ (held_of old).kit
      pub same_tables : tells_acceptance reply ≡ false → (held_of new).tables ≡ (held_of old).tables
      pub renews : Renewed (Some asked) (tells_acceptance reply)
      pub number : tells_failure reply ≡ false → number_of_next new ≡ number_behind (tells_acceptance reply) (number_of_next old)
      pub breaks : tells_failure reply ≡ false → (held_of new).broken ≡ (held_of old).broken
      pub counts : CountsTold (faults (disk_of old)) (faults (disk_of new)) (tells_failure reply)
      pub device : tells_failure reply ≡ true → Honest (disk_of new) → (texts : KitTexts) → Carries state old texts → Works (disk_of new) → ⊥
      pub comes_on : tells_acceptance reply ≡ true → (IsFull old name c → ⊥) → ComesOn (file_of old) (file_of new)
      pub makes_room : tells_acceptance reply ≡ true → HasNoRoom old name c → 4 ≤ ticks_left new
      pub full : tells_full reply ≡ true → IsFullFor new (lent_of old) name c

    reached : (taking : Result ℕ store.Fault) → (Played → Lawful) → Committed taking → IsToldOf asked (Some asked) taking reply → Replied taking → Ends → Lasting
    reached taking lawful k tells told ends =
        record {
          pending = Some asked;
          asks = asks_so;
          pends = gives lawful;
          accepted = ends.accepted;
          ruled = ends.ruled;
          honest = k.honest;
          stops = λ h texts s. weaker (k.keeps h texts s) (BeforeOrAfter texts (held_of old).kit (held_of old).tables (Some asked)) (stands texts s (lawful s.played));
          keeps = k.keeps;
          carries = k.carries;
          renews = ends.renews;
          number = ends.number;
          spares = λ alone. both_ways (reaches_file reply) ends.reaches alone;
          unasked = λ none. absurd (none asked asks_so);
          untouched = λ played unlawful. absurd (unlawful (asked, gives lawful played));
          same_kit = ends.same_kit;
          same_tables = ends.same_tables;
          breaks = ends.breaks;
          counts = ends.counts;
          works = k.works;
          device = ends.device;
          few_writes = λ room. k.few_writes (λ full. room (no_place lawful old full));
          few_syncs = λ room. k.few_syncs (λ full. room (no_place lawful old full));
          own_writes = λ room. k.own_writes (λ full. room (no_place lawful old full));
          own_syncs = λ room. k.own_syncs (λ full. room (no_place lawful old full));
          most_writes = k.most_writes;
          most_syncs = k.most_syncs;
          comes_on = λ told room. ends.comes_on told (λ full. room (no_place lawful old full));
          makes_room = ends.makes_room;
          full = λ told. cannot_keep lawful new (ends.full told);
          commits = by_commit taking (Some asked) k tells told;
        }

    taken : (n : ℕ) → (Played → reply ≡ accepted_text (held_of old).kit name behind c sheet) → Replied (Ok n) → Committed (Ok n) → Lasting
    taken n said told k =
        reached (Ok n) lawful k (refl, acceptance) told
        (record {
          accepted = λ played _. record { asked = asked; pends = refl; gives = gives lawful played; held = (taken_lawful n (k.takes played) refl).1; told = said played };
          ruled = λ _. record { asked = asked; pends = refl; asks = asks_so; lawful = k.judged };
          reaches = ap reaches_file text ∙ accepted_reaches name n told.0 sheet;
          same_kit = k.holds.0;
          same_tables = λ none. both_ways (tells_acceptance reply) acceptance none;
          renews = subst (λ (b : Bool). Renewed (Some asked) b) (sym acceptance) k.renews;
          number = λ _. subst (λ (b : Bool). number_of_next new ≡ number_behind b (number_of_next old)) (sym acceptance) k.number;
          breaks = λ _. k.holds.1;
          counts = counts_none calm.0 k.counts;
          device = λ is. both_ways (tells_failure reply) is calm.0;
          comes_on = λ _. k.comes_on;
          makes_room = λ _. k.makes_room;
          full = λ is. both_ways (tells_full reply) is calm.1;
        })
      where
        lawful : Played → Lawful
        lawful played = (taken_lawful n (k.takes played) refl).0

        text : reply ≡ accepted_with name n told.0 sheet
        text = told.2

        acceptance : tells_acceptance reply ≡ true
        acceptance = ap tells_acceptance text ∙ accepted_told name n told.0 sheet

        calm : (tells_failure reply ≡ false) × (tells_full reply ≡ false)
        calm = (ap tells_failure text ∙ (accepted_calm name n told.0 sheet).0, ap tells_full text ∙ (accepted_calm name n told.0 sheet).1)

    failed : Replied (Err T.DeviceFailed) → Committed (Err T.DeviceFailed) → Lasting
    failed told k =
        reached (Err T.DeviceFailed) (λ played. failed_lawful (k.takes played) refl) k refused told
        (record {
          accepted = λ played is. both_ways (tells_acceptance reply) is refused;
          ruled = λ is. both_ways (tells_acceptance reply) is refused;
          reaches = ap reaches_file told ∙ failure_reaches;
          same_kit = ap (λ (h : Held). h.kit) k.holds;
          same_tables = λ _. ap (λ (h : Held). h.tables) k.holds;
          renews = subst (λ (b : Bool). Renewed (Some asked) b) (sym refused) k.renews;
          number = λ calm. both_ways (tells_failure reply) (ap tells_failure told ∙ failure_told) calm;
          breaks = λ calm. both_ways (tells_failure reply) (ap tells_failure told ∙ failure_told) calm;
          counts = subst (λ (r : List ℕ). CountsTold (faults (disk_of old)) (faults (disk_of new)) (tells_failure r)) (sym told)
              (counts_told (faults (disk_of old)) (faults (disk_of new)) T.DeviceFailed k.counts);
          device = λ _. k.device;
          comes_on = λ is. both_ways (tells_acceptance reply) is refused;
          makes_room = λ is. both_ways (tells_acceptance reply) is refused;
          full = λ is. both_ways (tells_full reply) is (ap tells_full told ∙ failure_calm);
        })
      where
        refused : tells_acceptance reply ≡ false
        refused = ap tells_acceptance told ∙ refusal_calm F.DeviceFailed

    -- there was no room in the file
    no_space : Replied (Err T.FileFull) → Committed (Err T.FileFull) → Lasting
    no_space told k =
        reached (Err T.FileFull) (λ played. full_lawful (k.takes played) refl) k refused told
        (record {
          accepted = λ played is. both_ways (tells_acceptance reply) is refused;
          ruled = λ is. both_ways (tells_acceptance reply) is refused;
          reaches = ap reaches_file told ∙ full_reaches;
          same_kit = ap (λ (h : Held). h.kit) k.holds;
          same_tables = λ _. ap (λ (h : Held). h.tables) k.holds;
          renews = subst (λ (b : Bool). Renewed (Some asked) b) (sym refused) k.renews;
          number = λ _. same_number refused k.number;
          breaks = λ _. ap (λ (h : Held). h.broken) k.holds;
          counts = counts_none calm k.counts;
          device = λ is. both_ways (tells_failure reply) is calm;
          comes_on = λ is. both_ways (tells_acceptance reply) is refused;
          makes_room = λ is. both_ways (tells_acceptance reply) is refused;
          full = λ _. k.full refl;
        })
      where
        calm : tells_failure reply ≡ false
        calm = ap tells_failure told ∙ full_calm

        refused : tells_acceptance reply ≡ false
        refused = ap tells_acceptance told ∙ refusal_calm F.FileFull

    -- memory was wanted
    wanting : Replied (Err T.OutOfMemory) → Committed (Err T.OutOfMemory) → IsUnchanged old new ⊎ ((Played → Lawful) × HasNoRoom new name c) → Lasting
    wanting told k (inl unchanged) =
        let calm = subst SaysNeither (sym told) memory_calm in
        lasts_unchanged unchanged k.carries calm (by_commit (Err T.OutOfMemory) None k calm.2 told)
    wanting told k (inr wants) =
        reached (Err T.OutOfMemory) wants.0 k calm.2 told
        (record {
          accepted = λ played is. both_ways (tells_acceptance reply) is calm.2;
          ruled = λ is. both_ways (tells_acceptance reply) is calm.2;
          reaches = ap reaches_file told ∙ memory_reaches;
          same_kit = ap (λ (h : Held). h.kit) k.holds;
          same_tables = λ _. ap (λ (h : Held). h.tables) k.holds;
          renews = subst (λ (b : Bool). Renewed (Some asked) b) (sym calm.2) k.renews;
          number = λ _. same_number calm.2 k.number;
          breaks = λ _. ap (λ (h : Held). h.broken) k.holds;
          counts = counts_none calm.0 k.counts;
          device = λ is. both_ways (tells_failure reply) is calm.0;
          comes_on = λ is. both_ways (tells_acceptance reply) is calm.2;
          makes_room = λ is. both_ways (tells_acceptance reply) is calm.2;
          full = λ is. both_ways (tells_full reply) is calm.1;
        })
      where
        calm : SaysNeither reply
        calm = subst SaysNeither (sym told) memory_calm

    -- a rule refused it
    ruled_out : (fault : store.Fault) → (fault ≡ T.DeviceFailed → ⊥) → (fault ≡ T.FileFull → ⊥) → (fault ≡ T.OutOfMemory → ⊥) → Replied (Err fault) → Committed (Err fault) → Lasting
    ruled_out fault device full memory told k =
        let own = subst SaysNeither (sym told) (store_calm fault device full) in
        lasts_unchanged (unchanged_by old new fault device full memory k.spares) k.carries own (by_commit (Err fault) None k own.2 told)

    refused_so : (fault : store.Fault) → IsOther fault → Replied (Err fault) → Committed (Err fault) → Lasting
    refused_so fault (Device is) told k =
        let own : Committed (Err T.DeviceFailed) = subst (λ (f : store.Fault). Committed (Err f)) is k in
        failed (subst (λ (f : store.Fault). Replied (Err f)) is told) own
    refused_so fault (Full is) told k =
        let own : Committed (Err T.FileFull) = subst (λ (f : store.Fault). Committed (Err f)) is k in
        no_space (subst (λ (f : store.Fault). Replied (Err f)) is told) own
    refused_so fault (Memory is) told k =
        let own : Committed (Err T.OutOfMemory) = subst (λ (f : store.Fault). Committed (Err f)) is k in
        wanting (subst (λ (f : store.Fault). Replied (Err f)) is told) own (own.wanting refl)
    refused_so fault (Other device full memory) told k = ruled_out fault device full memory told k

    pub request_lasts : (taking : Result ℕ store.Fault) → (Played → reply ≡ reply_to (text_of (held_of old) name c sheet taking)) → Replied taking → Committed taking → Lasting
    request_lasts (Ok n) said told k = taken n said told k
    request_lasts (Err fault) said told k = refused_so fault (which fault) told k

  module _ (stamp : ℕ) (name : List ℕ) (corp : Corp) (short : length line ≤ LONGEST_LINE) (spells : SpellsLine line (L.Best stamp name corp)) (whole : (held_of old).broken ≡ false) where
    abbrev CommittedBest : Result (List ℕ) Fault → Type 0
    CommittedBest outcome = CommitsBest Honest Works state past faults writes syncs old name stamp corp new outcome

    -- no best run is found, or one is, whose request is committed
    pub best_lasts : (outcome : Result (List ℕ) Fault) → reply ≡ reply_to outcome → CommittedBest outcome → Lasting
    best_lasts outcome told (Stays fault calm lacks same) =
        lasts_alone same (subst SaysNeither (sym told) calm) (subst (λ (r : List ℕ). IsIdle (held_of old) line r) (sym told) (Lacks_run stamp name corp fault short spells whole calm))
    best_lasts outcome told (Goes_on sheet certificate taking result is commits replies text) =
        request_lasts stamp name (best_run corp sheet certificate) sheet short (OfRun corp sheet certificate spells refl) (λ played. AsBest corp sheet certificate spells (is played) refl) whole
        taking (λ played. told ∙ ap reply_to (text played)) (subst (λ (r : List ℕ). IsReplyTo (for_table name (best_run corp sheet certificate)) sheet taking r) (sym told) replies) commits
