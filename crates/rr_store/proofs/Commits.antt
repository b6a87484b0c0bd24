-- What a commit does, from what the tables and the keeping of its record did.
use Rattle.std.proofs.Common.{◌≡◌, ◌⊎◌, ◌↔◌, ℕ, ◌+◌, ◌≤◌, Bool, false, true, List, [], ◌∷◌, None, Some, Result, Ok, Err, IsErrOf, IsTrue, OnErr, Option, length, option_map, inl, inr, refl, sym, ap, subst, ◌∙◌, arith}
use Rattle.rr_disk.specs.Disk.{DiskState}
use Rattle.rr_disk.specs.Moments.{EachImage, LeavesOnly}
use Rattle.rr_images.specs.Calls.{TakesNewer}
use Rattle.rr_disk.proofs.MomentLemmas.{EachImageOf-weaker, weaker}
use Rattle.rr_kit.specs.declared.kit.Kit.{Kit}
use Rattle.rr_kit.specs.Kits.{KitTexts, SpellsKit}
use Rattle.rr_code.specs.declared.command.Command.{Command}
use Rattle.rr_code.specs.Request.{IsRequest, record_text}
use Rattle.rr_turns.specs.declared.request.Request.{Request}
use Rattle.rr_turns.specs.Judgement.{IsVerdict, Judgement, MayFind}
use Rattle.rr_turns.proofs.JudgementLemmas.{lawful-first, map-is}
use Rattle.rr_words.specs.Name.{IsTableName}
use Rattle.rr_log.specs.declared.fault.Fault as log
use Rattle.rr_log.specs.declared.fault.Fault.TheVariants as L
use Rattle.rr_log.specs.declared.keeping.PutOff.{PutOff}
use Rattle.rr_log.specs.declared.log.Log.{Log}
use Rattle.rr_log.specs.Log.{is_broken, next_number}
use Rattle.rr_log.specs.Log as file
use Rattle.rr_log.specs.Carrying as carrying
use Rattle.rr_log.specs.Growing.{Grows}
use Rattle.rr_log.specs.Lent.{Lent}
use Rattle.rr_log.proofs.Growing.{pages_still, stays_long}
use Rattle.rr_tables.specs.Records.Taking.{table_files, table_rules}
use Rattle.rr_tables.specs.Records.Taking.{Takes as Takes_line}
use Rattle.rr_tables.specs.declared.records.fault.Fault as rules
use Rattle.rr_tables.specs.declared.records.fault.Fault.TheVariants as R
use Rattle.rr_tables.specs.declared.records.rules.TableRules.{TableRules}
use Rattle.rr_tables.specs.Records.Headline.{KeepsTables, KeepsTablesOr}
use Rattle.rr_tables.specs.Records.Words.{in_words}
use Rattle.rr_tables.specs.Records.World as ruled
use Rattle.rr_tables.specs.declared.fault.Fault as table
use Rattle.rr_tables.specs.declared.fault.Fault.TheVariants.{File, Rules}
use Rattle.rr_tables.specs.Tables.{world_of}
use Rattle.rr_game.proofs.HistoryLemmas.Seeing.{refuses_map, refuses_wanting}
use Rattle.rr_tables.specs.Seeing.{HeedsIn, MayRefuseSeen, world_judgement_at}
use Rattle.rr_tables.specs.Seeing as seen_in
use Rattle.rr_tables.proofs.SeeingLemmas.{heeds_map}
use Rattle.rr_tables.specs.Taking.{MayRefuse, Passed}
use Rattle.rr_store.specs.declared.fault.Fault.{Fault}
use Rattle.rr_store.specs.declared.fault.Fault.TheVariants as F
use Rattle.rr_store.specs.declared.journal.FileJournal.{FileJournal}
use Rattle.rr_store.specs.declared.store.Store.{Store}
use Rattle.rr_store.specs.Allowing.{BeforeOrAfter, Between, CommitAllows, CommitEnds, IsLawful, Keeps}
use Rattle.rr_store.specs.Committing.{Commits, HoldsBehind, NumberBehind, Spares, layout_behind}
use Rattle.rr_store.specs.Fault.{CountsEnd, OnDeviceFault, of_log, of_rules, of_tables}
use Rattle.rr_store.specs.Files.{AreTablesOf}
use Rattle.rr_store.specs.Held.{Accepted, Again, Fails, Held, NoRoom, Refused, Takes, Wants, stamp_after, with_failure, with_tables}
use Rattle.rr_store.specs.Holding.{Carries, GamesArePlayed, GamesHaveSnapshots, HasNoRoom, IsFull, IsUnchanged, disk_of, file_of, held_of, lent_of, number_of_next, put_off_of, replayed_of, ticks_left}
use Rattle.rr_store.specs.Keeping.{GrowsInAll, Keeping, MakesAtMost, length_on, with_reason}
use Rattle.rr_store.specs.Named.{KeepsNames, LendsNamed, NamesComing, NamesRoots, NamesSnapshots}
use Rattle.rr_store.specs.Seeing.{Heeds, IsJudgedBy, IsSeenAt, IsToldPlainly, MayRefuseBy, Seen, judgement_at, plain_verdict}
use Rattle.rr_store.specs.World.{World, for_table, judgement_in, world_after}
use Rattle.rr_store.proofs.Keepings.{grown_not}
use Rattle.rr_store.proofs.NamedRoots.{images_named, names_there, names_unchanged, root_named, roots_there, store_named}
use Rattle.rr_store.proofs.Standing.{carried_keeps, carried_lent, carried_now, keeps_either, record_leads, stands_either, tables_after}
use Rattle.rr_store.proofs.Verdicts.{no_again, no_failure, no_full}

abbrev held : Kit → World → Bool → Held
held kit tables broken = record { kit = kit; tables = tables; broken = broken }

held_same : (r r' : Kit) (t t' : World) (b b' : Bool) → r' ≡ r → t' ≡ t → b' ≡ b → held r' t' b' ≡ held r t b
held_same r r' t t' b b' p q s = cc

-- refusals that aren't of the file leave it alone

spares_same : {D : Type 0} (old new : Store D) (fault : Fault) → IsUnchanged old new → Spares old (Err fault) new
spares_same old new F.DeviceFailed same = tt
spares_same old new F.FileFull same = tt
spares_same old new F.OutOfMemory same = tt
spares_same old new _ same = same

number_same : (fault : Fault) (old new : ℕ) → new ≡ old → NumberBehind (Err fault) old new
number_same F.DeviceFailed old new same = tt
number_same _ old new same = same

holds_same : (old new : Held) (name : List ℕ) (c : Request Command) (fault : Fault) → (fault ≡ F.DeviceFailed → ⊥) → new ≡ old → HoldsBehind old name c (Err fault) new
holds_same old new name c F.DeviceFailed other same = absurd (other refl)
holds_same old new name c _ other same = same

-- a refusal by the rules is one by their judgement
judged_so : (j : Judgement Fault) (c : Request Command) (fault : rules.Fault) → MayRefuseBy j F.OutOfMemory c (of_rules fault) → IsJudgedBy j c (Err (of_rules fault))
judged_so j c (R.Game fault) h = h
judged_so j c _ h = h

plain_so : (o : Option Fault) (fault : rules.Fault) → Heeds o (of_rules fault) → IsToldPlainly o (Err (of_rules fault))
plain_so o (R.Game fault) h = h
plain_so o _ h = h

counts_same : (fault : Fault) (old new : ℕ) → (fault ≡ F.DeviceFailed → ⊥) → new ≡ old → CountsEnd {T = ℕ} old new (Err fault)
counts_same F.DeviceFailed old new other same = absurd (other refl)
counts_same _ old new other same = same

-- nor do they say that the device failed
device_same : (P : Type 0) (fault : Fault) → (fault ≡ F.DeviceFailed → ⊥) → OnDeviceFault {T = ℕ} (Err fault) P
device_same P F.DeviceFailed other = absurd (other refl)
device_same P _ other = tt

-- how a commit ends that left a disk alone
ends_same : (texts : KitTexts) (kit : Kit) (tables : World) (stamp : ℕ) (name : List ℕ) (c : Request Command) (new : DiskState) (fault : Fault) → (fault ≡ F.DeviceFailed → ⊥)
    → Keeps new texts tables → CommitEnds texts kit tables stamp (for_table name c) [] new (Err fault)
ends_same texts kit tables stamp name c new F.DeviceFailed other keeps = absurd (other refl)
ends_same texts kit tables stamp name c new F.FileFull other keeps = keeps
ends_same texts kit tables stamp name c new F.OutOfMemory other keeps = keeps
ends_same texts kit tables stamp name c new _ other keeps = refl

abbrev Kept : Type 0
Kept = Result (Option PutOff) log.Fault

module _ {D : Type 0} (Honest Works : D → Type 0) (state : D → DiskState) (past : D → List DiskState) (faults writes syncs : D → ℕ)
    (old new : Store D) (stamp : ℕ) (name : List ℕ) (c : Request Command) (counted_on : replayed_of new ≡ replayed_of old) where
  abbrev bytes_of : List ℕ
  bytes_of = record_text name c

  abbrev Done : Result ℕ Fault → Type 0
  Done result = Commits Honest Works state past faults writes syncs old name stamp c new result

  abbrev kit_now : Kit
  kit_now = (held_of old).kit

  abbrev tables_now : World
  tables_now = (held_of old).tables

  abbrev behind : World
  behind = world_after kit_now tables_now name c

  abbrev Lawful : Type 0
  Lawful = IsVerdict (judgement_in kit_now tables_now stamp name c) None

  abbrev Played : Type 0
  Played = GamesArePlayed old

  abbrev PlayedOn : Type 0
  PlayedOn = Played → GamesArePlayed new

  abbrev ShownOn : Type 0
  ShownOn = Played → GamesHaveSnapshots old → GamesHaveSnapshots new

  abbrev Told : Result ℕ Fault → Type 0
  Told result = Played → Takes (held_of old) stamp name c (held_of new) result

  abbrev JudgedOn : Result ℕ Fault → Type 0
  JudgedOn result = (seen : Option Seen) → IsSeenAt old name seen → IsJudgedBy (judgement_at kit_now seen (length tables_now) stamp c) c result

  -- by the position in memory no rule refuses it
  abbrev LawfulSeen : Type 0
  LawfulSeen = (seen : Option Seen) → IsSeenAt old name seen → IsVerdict (judgement_at kit_now seen (length tables_now) stamp c) None

  -- what the checks say that look at no position
  abbrev ruled_plainly : Option rules.Fault
  ruled_plainly = seen_in.plain_verdict (ruled.table_named tables_now name) (length tables_now) stamp c

  abbrev Plain : Result ℕ Fault → Type 0
  Plain result = IsToldPlainly (plain_verdict tables_now stamp name c) result

  abbrev Passes_plainly : Type 0
  Passes_plainly = plain_verdict tables_now stamp name c ≡ None

  abbrev KeptBy : Log D TableRules → Kept → Log D TableRules → Type 0
  KeptBy before kept after = Keeping Honest Works state past faults writes syncs before (lent_of old) bytes_of kept after

  abbrev StaysPutOff : Type 0
  StaysPutOff = put_off_of new ≡ put_off_of old

  -- all is as it was
  spared : (fault : Fault) → (fault ≡ F.DeviceFailed → ⊥) → (fault ≡ F.FileFull → ⊥) → IsErrOf {T = ℕ} (Err fault) F.OpenAgain ↔ IsTrue (held_of old).broken → PlayedOn → ShownOn
      → Told (Err fault) → JudgedOn (Err fault) → Plain (Err fault) → StaysPutOff → IsUnchanged old new → Done (Err fault)
  spared fault other room again played_on shown_on takes judged plain put_off same =
      record {
        takes = takes;
        played = played_on;
        snapshots = shown_on;
        judged = judged;
        plain = plain;
        holds = holds_same (held_of old) (held_of new) name c fault other same.same_held;
        again = again;
        honest = λ h. subst Honest same_disk h;
        allowed = λ h texts s. record {
          moments = [];
          passed = λ i. state (same_disk i) ∷ past (same_disk i);
          allowed = record {
            pending = None;
            pends = tt;
            before = carried_keeps state old texts s;
            each = tt;
            ends = ends_same texts kit_now tables_now stamp name c (state (disk_of new)) fault other
                (subst (λ (d : D). Keeps (state d) texts tables_now) (sym same_disk) (carried_keeps state old texts s));
          };
        };
        keeps = λ h texts s. record {
          since = [];
          goes_on = λ i. state (same_disk i) ∷ past (same_disk i);
          first = λ image is. inl (carried_now (file_of old) (state (disk_of old)) texts tables_now s.file image is);
          each = tt;
        };
        carries = λ h whole texts s. carried texts s;
        renews = λ whole one none h texts s. let left : ticks_left new ≡ ticks_left old = ap (λ (f : Log D TableRules). file.ticks_left f) same.same_file in absurd (omega (arith, one, none, left));
        names = λ h whole texts s lends. names_unchanged state old new texts same;
        names_stops = λ h texts s lends names. record {
          since = [];
          goes_on = λ i. state (same_disk i) ∷ past (same_disk i);
          first = images_named state old texts names;
          each = tt;
        };
        renews_names = λ h whole one none texts s names. let left : ticks_left new ≡ ticks_left old = ap (λ (f : Log D TableRules). file.ticks_left f) same.same_file in absurd (omega (arith, one, none, left));
        number = number_same fault (number_of_next old) (number_of_next new) (ap (λ (f : Log D TableRules). next_number f) same.same_file);
        spares = spares_same old new fault same;
        wanting = λ is. inl same;
        counts = counts_same fault (faults (disk_of old)) (faults (disk_of new)) other (ap faults same_disk);
        works = λ w. subst Works same_disk w;
        few_writes = λ room. at_most writes 3;
        few_syncs = λ room. at_most syncs 3;
        own_writes = λ room rests. at_most writes 2;
        own_syncs = λ room rests. at_most syncs 2;
        most_writes = within writes;
        most_syncs = within syncs;
        comes_on = tt;
        makes_room = tt;
        begins_due = tt;
        put_off = put_off;
        grows = λ room h texts s. stays_long (length_on state) (file_of old) (file_of new) same_length;
        pages = λ room. pages_still (file_of old) (file_of new) (ap (λ (f : Log D TableRules). file.free_of f) same.same_file) (λ one none whole.
            let left : ticks_left new ≡ ticks_left old = ap (λ (f : Log D TableRules). file.ticks_left f) same.same_file in omega (arith, one, none, left));
        grows_in_all = λ h texts s. let length = same_length in grown_not state (file_of old) (file_of new) (omega (arith, length));
        replayed = counted_on;
        full = λ is. absurd (room (let one : fault ≡ F.FileFull = cc is in one));
        device = device_same _ fault other;
      }
    where
      same_disk : disk_of new ≡ disk_of old
      same_disk = ap (λ (f : Log D TableRules). file.disk_of f) same.same_file

      same_length : length_on state (disk_of new) ≡ length_on state (disk_of old)
      same_length = ap (length_on state) same_disk

      at_most : (count : D → ℕ) (more : ℕ) → count (disk_of new) ≤ count (disk_of old) + more
      at_most count more = let e : count (disk_of new) ≡ count (disk_of old) = ap count same_disk in omega arith

      within : (count : D → ℕ) → MakesAtMost count (lent_of old) (file_of old) (file_of new)
      within count = let few = at_most count 3 in record { under_way = λ some. omega (arith, few); begun = λ none. omega (arith, few) }

      carried : (texts : KitTexts) → Carries state old texts → Carries state new texts
      carried texts s = record {
        right = subst (λ (x : Held). SpellsKit texts x.kit) (sym same.same_held) s.right;
        tables_of_kit = subst (λ (x : Held). AreTablesOf x.kit x.tables) (sym same.same_held) s.tables_of_kit;
        played = played_on s.played;
        file = subst (λ (x : Held). carrying.Carries table_rules (file_of new) (state (disk_of new)) (in_words texts x.tables)) (sym same.same_held)
            (subst (λ (f : Log D TableRules). carrying.Carries table_rules f (state (file.disk_of f)) (in_words texts tables_now)) (sym same.same_file) s.file);
      }

  -- a store whose device failed before
  pub commits_again : new ≡ old → (held_of old).broken ≡ true → Done (Err F.OpenAgain)
  commits_again still broken =
      spared F.OpenAgain (λ is. absurd (cc is)) (λ is. absurd (cc is)) (λ is. broken, λ is. refl) (λ played. subst GamesArePlayed (sym still) played) (λ played had. subst GamesHaveSnapshots (sym still) had)
      (λ played. Again broken (ap held_of still)) (λ seen is. tt) tt
      (ap put_off_of still)
      (record { same_file = ap file_of still; same_held = ap held_of still })

  module _ (form : IsTableName name × IsRequest c) (was : is_broken (file_of old) ≡ false) (played_on : PlayedOn) (shown_on : ShownOn) where
    -- a store that isn't broken isn't told to be
    not_again : (result : Result ℕ Fault) → (IsErrOf result F.OpenAgain → ⊥) → IsErrOf result F.OpenAgain ↔ IsTrue (held_of old).broken
    not_again result other = (λ is. absurd (other is), λ broken. let both : true ≡ false = sym broken ∙ was in absurd (cc both))

    lawful_in : (texts : KitTexts) → Carries state old texts → Lawful → IsLawful texts kit_now tables_now stamp (for_table name c)
    lawful_in texts s lawful = record { right = s.right; of_form = form; lawful = lawful }

    -- the moments of a keeping
    passed_by : (kept : Kept) (result : Result ℕ Fault) → (Played → Lawful) → KeptBy (file_of old) kept (file_of new) → (h : Honest (disk_of new)) (texts : KitTexts) → Carries state old texts
        → ((moments : List DiskState) → CommitEnds texts kit_now tables_now stamp (for_table name c) moments (state (disk_of new)) result)
        → Between (past (disk_of old)) (state (disk_of old)) (past (disk_of new)) (state (disk_of new))
        (λ moments. CommitAllows texts kit_now tables_now stamp (for_table name c) (state (disk_of old)) moments (state (disk_of new)) result)
    passed_by kept result lawful k h texts s ends =
        let is_lawful = lawful_in texts s (lawful s.played) in
        let stops = k.stops h (in_words texts tables_now) (in_words texts behind) (record_leads texts kit_now tables_now stamp (for_table name c) is_lawful s.tables_of_kit) (carried_lent state old texts s) s.file in
        record {
          moments = stops.since;
          passed = stops.goes_on;
          allowed = record {
            pending = Some (for_table name c);
            pends = (refl, is_lawful);
            before = carried_keeps state old texts s;
            each = EachImageOf-weaker stops.since (λ image. KeepsTables texts tables_now image ⊎ KeepsTables texts behind image) (BeforeOrAfter texts kit_now tables_now (Some (for_table name c)))
                (stands_either texts kit_now tables_now stamp (for_table name c) is_lawful s.tables_of_kit) stops.each;
            ends = ends stops.since;
          };
        }

    kept_by : (kept : Kept) → (Played → Lawful) → KeptBy (file_of old) kept (file_of new) → Honest (disk_of new) → (texts : KitTexts) → Carries state old texts
        → LeavesOnly (past (disk_of old)) (state (disk_of old)) (past (disk_of new)) (state (disk_of new)) (KeepsTablesOr texts kit_now tables_now (Some (for_table name c)))
    kept_by kept lawful k h texts s =
        let is_lawful = lawful_in texts s (lawful s.played) in
        weaker (k.stops h (in_words texts tables_now) (in_words texts behind) (record_leads texts kit_now tables_now stamp (for_table name c) is_lawful s.tables_of_kit) (carried_lent state old texts s) s.file)
        (KeepsTablesOr texts kit_now tables_now (Some (for_table name c))) (keeps_either texts kit_now tables_now stamp (for_table name c) is_lawful s.tables_of_kit)

    named_by : (kept : Kept) → (Played → Lawful) → KeptBy (file_of old) kept (file_of new) → Honest (disk_of new) → (texts : KitTexts) → Carries state old texts
        → ((ticks_left old ≡ 0) ⊎ IsFull old name c → LendsNamed old) → NamesRoots state old texts
        → LeavesOnly (past (disk_of old)) (state (disk_of old)) (past (disk_of new)) (state (disk_of new)) (NamesSnapshots kit_now)
    named_by kept lawful k h texts s lends names =
        let before = in_words texts tables_now in
        let after = in_words texts behind in
        weaker
        (k.names_stops h kit_now before after (record_leads texts kit_now tables_now stamp (for_table name c) (lawful_in texts s (lawful s.played)) s.tables_of_kit) (carried_lent state old texts s)
        (λ may. store_named state old texts s (lends may)) names)
        (NamesSnapshots kit_now)
        (λ image left. elim left [
          | inl kept ↦ root_named image kit_now kept.layout before kept.kept kept.is_root
          | inr kept ↦ root_named image kit_now kept.layout after kept.kept kept.is_root
        ])

    grown_by : (kept : Kept) → KeptBy (file_of old) kept (file_of new) → (IsFull old name c → ⊥) → Honest (disk_of new) → (texts : KitTexts) → Carries state old texts
        → Grows (length_on state) (file_of old) (file_of new)
    grown_by kept k room h texts s = k.grows room h (in_words texts tables_now) (carried_lent state old texts s) s.file

    grown_in_all : (kept : Kept) → (Played → Lawful) → KeptBy (file_of old) kept (file_of new) → Honest (disk_of new) → (texts : KitTexts) → Carries state old texts
        → GrowsInAll state (file_of old) (file_of new)
    grown_in_all kept lawful k h texts s =
        k.grows_in_all h (in_words texts tables_now) (in_words texts behind) (record_leads texts kit_now tables_now stamp (for_table name c) (lawful_in texts s (lawful s.played)) s.tables_of_kit) (carried_lent state old texts s) s.file

    -- the request was taken
    taken : (n : ℕ) → Told (Ok n) → (Played → Lawful) → (Played → held_of new ≡ with_tables (held_of old) behind)
        → HoldsBehind (held_of old) name c (Ok n) (held_of new) → LawfulSeen → Passes_plainly → KeptBy (file_of old) (Ok (put_off_of new)) (file_of new) → Done (Ok n)
    taken n takes lawful held_is holds lawful_seen plain k =
        record {
          takes = takes;
          played = played_on;
          snapshots = shown_on;
          judged = lawful_seen;
          plain = plain;
          holds = holds;
          again = not_again (Ok n) (λ is. cc is);
          honest = k.honest;
          allowed = λ h texts s. passed_by (Ok (put_off_of new)) (Ok n) lawful k h texts s
              (λ moments. (lawful_in texts s (lawful s.played), subst (λ (w : World). Keeps (state (disk_of new)) texts w) (ap (λ (x : Held). x.tables) (held_is s.played)) (carried_keeps state new texts (on h texts s))));
          keeps = kept_by (Ok (put_off_of new)) lawful k;
          names_stops = named_by (Ok (put_off_of new)) lawful k;
          carries = λ h whole texts s. on h texts s;
          renews = λ whole one none h texts s.
              subst (λ (x : Held). EachImage (state (disk_of new)) (TakesNewer table_files (layout_behind (Ok n) s.file.carried.layout bytes_of (in_words texts x.tables)) (in_words texts x.tables))) (sym (held_is s.played))
              (k.renews k.broken one none h (in_words texts tables_now) (in_words texts behind) (record_leads texts kit_now tables_now stamp (for_table name c) (lawful_in texts s (lawful s.played)) s.tables_of_kit) s.file);
          names = λ h whole texts s lends.
              names_there state old new texts behind (held_of old).broken (held_is s.played)
              (k.names h k.broken kit_now (in_words texts tables_now) (in_words texts behind) (leads texts s) (carried_lent state old texts s)
              (λ may. store_named state old texts s (lends may)));
          renews_names = λ h whole one none texts s names.
              roots_there state old new texts behind (held_of old).broken (held_is s.played)
              (k.renews_names h k.broken one none kit_now (in_words texts tables_now) (in_words texts behind) (leads texts s) (carried_lent state old texts s) names);
          number = k.number;
          spares = tt;
          wanting = λ is. absurd (cc is);
          counts = k.counts;
          works = k.works;
          few_writes = k.few_writes;
          few_syncs = k.few_syncs;
          own_writes = k.own_writes;
          own_syncs = k.own_syncs;
          most_writes = k.most_writes;
          most_syncs = k.most_syncs;
          comes_on = k.comes_on;
          makes_room = k.makes_room;
          begins_due = k.begins_due;
          put_off = tt;
          grows = grown_by (Ok (put_off_of new)) k;
          grows_in_all = grown_in_all (Ok (put_off_of new)) lawful k;
          pages = k.pages;
          replayed = counted_on;
          full = λ is. absurd (cc is);
          device = tt;
        }
      where
        leads : (texts : KitTexts) → Carries state old texts → Takes_line bytes_of (in_words texts tables_now) (in_words texts behind)
        leads texts s = record_leads texts kit_now tables_now stamp (for_table name c) (lawful_in texts s (lawful s.played)) s.tables_of_kit

        on : Honest (disk_of new) → (texts : KitTexts) → Carries state old texts → Carries state new texts
        on h texts s =
            let is_lawful = lawful_in texts s (lawful s.played) in
            let is = held_is s.played in record {
              right = subst (λ (x : Held). SpellsKit texts x.kit) (sym is) s.right;
              tables_of_kit = subst (λ (x : Held). AreTablesOf x.kit x.tables) (sym is) (tables_after texts kit_now tables_now stamp (for_table name c) is_lawful s.tables_of_kit);
              played = played_on s.played;
              file = subst (λ (x : Held). carrying.Carries table_rules (file_of new) (state (disk_of new)) (in_words texts x.tables)) (sym is)
                  (k.carries h k.broken (in_words texts tables_now) (in_words texts behind) (record_leads texts kit_now tables_now stamp (for_table name c) is_lawful s.tables_of_kit) (carried_lent state old texts s) s.file);
            }

    -- the device failed
    failed : Told (Err F.DeviceFailed) → (Played → Lawful) → held_of new ≡ with_failure (held_of old) → LawfulSeen → Passes_plainly → KeptBy (file_of old) (Err L.DeviceFailed) (file_of new) → StaysPutOff → Done (Err F.DeviceFailed)
    failed takes lawful held_is lawful_seen plain k put_off =
        record {
          takes = takes;
          played = played_on;
          snapshots = shown_on;
          judged = lawful_seen;
          plain = inr plain;
          holds = held_is;
          again = not_again (Err F.DeviceFailed) (λ is. cc is);
          honest = k.honest;
          allowed = λ h texts s. passed_by (Err L.DeviceFailed) (Err F.DeviceFailed) lawful k h texts s (λ moments. lawful_in texts s (lawful s.played));
          keeps = kept_by (Err L.DeviceFailed) lawful k;
          names_stops = named_by (Err L.DeviceFailed) lawful k;
          carries = λ h whole texts s. let both : true ≡ false = sym k.broken ∙ whole in absurd (cc both);
          renews = λ whole one none h texts s. let both : true ≡ false = sym k.broken ∙ whole in absurd (cc both);
          names = λ h whole texts s lends. let both : true ≡ false = sym k.broken ∙ whole in absurd (cc both);
          renews_names = λ h whole one none texts s names. let both : true ≡ false = sym k.broken ∙ whole in absurd (cc both);
          number = tt;
          spares = tt;
          wanting = λ is. absurd (cc is);
          counts = k.counts;
          works = k.works;
          few_writes = k.few_writes;
          few_syncs = k.few_syncs;
          own_writes = k.own_writes;
          own_syncs = k.own_syncs;
          most_writes = k.most_writes;
          most_syncs = k.most_syncs;
          comes_on = tt;
          makes_room = tt;
          begins_due = tt;
          put_off = put_off;
          grows = grown_by (Err L.DeviceFailed) k;
          grows_in_all = grown_in_all (Err L.DeviceFailed) lawful k;
          pages = k.pages;
          replayed = counted_on;
          full = λ is. absurd (cc is);
          device = λ h texts s.
              k.device h (in_words texts tables_now) (in_words texts behind) (record_leads texts kit_now tables_now stamp (for_table name c) (lawful_in texts s (lawful s.played)) s.tables_of_kit) (carried_lent state old texts s) s.file;
        }

    -- it wasn't taken, and the file carries on what was held
    module _ (kept : log.Fault) (lawful : Played → Lawful) (k : KeptBy (file_of old) (Err kept) (file_of new)) (whole : is_broken (file_of new) ≡ false) (held_is : held_of new ≡ held_of old) where
      goes_on : Honest (disk_of new) → (texts : KitTexts) → Carries state old texts → Carries state new texts
      goes_on h texts s =
          let is_lawful = lawful_in texts s (lawful s.played) in record {
            right = subst (λ (x : Held). SpellsKit texts x.kit) (sym held_is) s.right;
            tables_of_kit = subst (λ (x : Held). AreTablesOf x.kit x.tables) (sym held_is) s.tables_of_kit;
            played = played_on s.played;
            file = subst (λ (x : Held). carrying.Carries table_rules (file_of new) (state (disk_of new)) (in_words texts x.tables)) (sym held_is)
                (k.carries h whole (in_words texts tables_now) (in_words texts behind) (record_leads texts kit_now tables_now stamp (for_table name c) is_lawful s.tables_of_kit) (carried_lent state old texts s) s.file);
          }

      renews_on : ticks_left old ≡ 1 → ticks_left new ≡ 0 → Honest (disk_of new) → (texts : KitTexts) → (s : Carries state old texts)
          → EachImage (state (disk_of new)) (TakesNewer table_files s.file.carried.layout (in_words texts (held_of new).tables))
      renews_on one none h texts s =
          subst (λ (x : Held). EachImage (state (disk_of new)) (TakesNewer table_files s.file.carried.layout (in_words texts x.tables))) (sym held_is)
          (k.renews whole one none h (in_words texts tables_now) (in_words texts behind) (record_leads texts kit_now tables_now stamp (for_table name c) (lawful_in texts s (lawful s.played)) s.tables_of_kit) s.file)

      names_on : Honest (disk_of new) → (texts : KitTexts) → Carries state old texts → ((ticks_left old ≡ 0) ⊎ IsFull old name c → LendsNamed old)
          → KeepsNames state old new texts
      names_on h texts s lends =
          names_there state old new texts tables_now (held_of old).broken held_is
          (k.names h whole kit_now (in_words texts tables_now) (in_words texts behind) (record_leads texts kit_now tables_now stamp (for_table name c) (lawful_in texts s (lawful s.played)) s.tables_of_kit)
          (carried_lent state old texts s) (λ may. store_named state old texts s (lends may)))

      renews_names_on : ticks_left old ≡ 1 → ticks_left new ≡ 0 → Honest (disk_of new) → (texts : KitTexts) → Carries state old texts → NamesComing state old texts → NamesRoots state new texts
      renews_names_on one none h texts s names =
          roots_there state old new texts tables_now (held_of old).broken held_is
          (k.renews_names h whole one none kit_now (in_words texts tables_now) (in_words texts behind) (record_leads texts kit_now tables_now stamp (for_table name c) (lawful_in texts s (lawful s.played)) s.tables_of_kit)
          (carried_lent state old texts s) names)

      keeps_on : Honest (disk_of new) → (texts : KitTexts) → Carries state old texts → Keeps (state (disk_of new)) texts tables_now
      keeps_on h texts s = subst (λ (w : World). Keeps (state (disk_of new)) texts w) (ap (λ (x : Held). x.tables) held_is) (carried_keeps state new texts (goes_on h texts s))

    file_full : Told (Err F.FileFull) → (Played → Lawful) → held_of new ≡ held_of old → LawfulSeen → Passes_plainly → KeptBy (file_of old) (Err L.FileFull) (file_of new) → StaysPutOff → Done (Err F.FileFull)
    file_full takes lawful held_is lawful_seen plain k put_off =
        record {
          takes = takes;
          played = played_on;
          snapshots = shown_on;
          judged = lawful_seen;
          plain = inr plain;
          holds = held_is;
          again = not_again (Err F.FileFull) (λ is. cc is);
          honest = k.honest;
          allowed = λ h texts s. passed_by (Err L.FileFull) (Err F.FileFull) lawful k h texts s (λ moments. keeps_on L.FileFull lawful k k.broken held_is h texts s);
          keeps = kept_by (Err L.FileFull) lawful k;
          names_stops = named_by (Err L.FileFull) lawful k;
          carries = λ h whole texts s. goes_on L.FileFull lawful k whole held_is h texts s;
          renews = λ whole one none h texts s. renews_on L.FileFull lawful k whole held_is one none h texts s;
          names = λ h whole texts s lends. names_on L.FileFull lawful k whole held_is h texts s lends;
          renews_names = λ h whole one none texts s names. renews_names_on L.FileFull lawful k whole held_is one none h texts s names;
          number = k.number;
          spares = tt;
          wanting = λ is. absurd (cc is);
          counts = k.counts;
          works = k.works;
          few_writes = k.few_writes;
          few_syncs = k.few_syncs;
          own_writes = k.own_writes;
          own_syncs = k.own_syncs;
          most_writes = k.most_writes;
          most_syncs = k.most_syncs;
          comes_on = tt;
          makes_room = tt;
          begins_due = tt;
          put_off = put_off;
          grows = grown_by (Err L.FileFull) k;
          grows_in_all = grown_in_all (Err L.FileFull) lawful k;
          pages = k.pages;
          replayed = counted_on;
          full = λ is. k.full refl;
          device = tt;
        }

    no_memory : Told (Err F.OutOfMemory) → (Played → Lawful) → held_of new ≡ held_of old → LawfulSeen → Passes_plainly → KeptBy (file_of old) (Err L.OutOfMemory) (file_of new) → StaysPutOff → Done (Err F.OutOfMemory)
    no_memory takes lawful held_is lawful_seen plain k put_off =
        record {
          takes = takes;
          played = played_on;
          snapshots = shown_on;
          judged = λ seen is. refuses_wanting (judgement_at kit_now seen (length tables_now) stamp c) F.OutOfMemory c F.OutOfMemory (lawful_seen seen is) refl;
          plain = inr plain;
          holds = held_is;
          again = not_again (Err F.OutOfMemory) (λ is. cc is);
          honest = k.honest;
          allowed = λ h texts s. passed_by (Err L.OutOfMemory) (Err F.OutOfMemory) lawful k h texts s (λ moments. keeps_on L.OutOfMemory lawful k k.broken held_is h texts s);
          keeps = kept_by (Err L.OutOfMemory) lawful k;
          names_stops = named_by (Err L.OutOfMemory) lawful k;
          carries = λ h whole texts s. goes_on L.OutOfMemory lawful k whole held_is h texts s;
          renews = λ whole one none h texts s. renews_on L.OutOfMemory lawful k whole held_is one none h texts s;
          names = λ h whole texts s lends. names_on L.OutOfMemory lawful k whole held_is h texts s lends;
          renews_names = λ h whole one none texts s names. renews_names_on L.OutOfMemory lawful k whole held_is one none h texts s names;
          number = k.number;
          spares = tt;
          wanting = λ is. wants (k.memory refl);
          counts = k.counts;
          works = k.works;
          few_writes = k.few_writes;
          few_syncs = k.few_syncs;
          own_writes = k.own_writes;
          own_syncs = k.own_syncs;
          most_writes = k.most_writes;
          most_syncs = k.most_syncs;
          comes_on = tt;
          makes_room = tt;
          begins_due = tt;
          put_off = put_off;
          grows = grown_by (Err L.OutOfMemory) k;
          grows_in_all = grown_in_all (Err L.OutOfMemory) lawful k;
          pages = k.pages;
          replayed = counted_on;
          full = λ is. absurd (cc is);
          device = tt;
        }
      where
        wants : (file_of new ≡ file_of old) ⊎ HasNoRoom new name c → IsUnchanged old new ⊎ ((Played → Lawful) × HasNoRoom new name c)
        wants (inl same) = inl (record { same_file = same; same_held = held_is })
        wants (inr none) = inr (lawful, none)

    -- by the position in memory no rule refuses it, as its judge says
    abbrev SeenBy : Type 0
    SeenBy = (seen : Option Seen) → IsSeenAt old name seen → IsVerdict (world_judgement_at kit_now seen (length tables_now) stamp c) None

    passes : ruled_plainly ≡ None → Passes_plainly
    passes none = ap (option_map of_rules) none

    lawful_by : SeenBy → LawfulSeen
    lawful_by by seen is = map-is of_rules (world_judgement_at kit_now seen (length tables_now) stamp c) None (by seen is)

    module _ (kit_is : new.tables.kit ≡ old.tables.kit) where
      pub commits : (n : ℕ) → (Played → IsVerdict (ruled.judgement_in kit_now tables_now stamp name c) None)
          → SeenBy → ruled_plainly ≡ None → (Played → world_of new.tables ≡ behind) → n ≡ stamp_after kit_now tables_now name c → KeptBy (file_of old) (Ok (put_off_of new)) (file_of new) → Done (Ok n)
      commits n by_rules seen plain world counted k = taken n takes lawful held_is (kit_is, k.broken ∙ sym was, counted) (lawful_by seen) (passes plain) k
        where
          lawful : Played → Lawful
          lawful played = map-is of_rules (ruled.judgement_in kit_now tables_now stamp name c) None (by_rules played)

          held_is : Played → held_of new ≡ with_tables (held_of old) behind
          held_is played =
              held_same kit_now new.tables.kit behind (world_of new.tables) (is_broken (file_of old)) (is_broken (file_of new)) kit_is (world played) (k.broken ∙ sym was)

          takes : Told (Ok n)
          takes played =
              subst (λ (x : ℕ). Takes (held_of old) stamp name c (held_of new) (Ok x)) (sym counted) (Accepted was (lawful played) (held_is played))

      module _ (world : world_of new.tables ≡ tables_now) where
        held_is_if : (b : Bool) → is_broken (file_of new) ≡ b → held_of new ≡ held kit_now tables_now b
        held_is_if b is = held_same kit_now new.tables.kit tables_now (world_of new.tables) b (is_broken (file_of new)) kit_is world is

        by_rule : (fault : rules.Fault) → (Played → MayFind (ruled.judgement_in kit_now tables_now stamp name c) R.OutOfMemory fault)
            → ((seen : Option Seen) → IsSeenAt old name seen → MayRefuseBy (world_judgement_at kit_now seen (length tables_now) stamp c) R.OutOfMemory c fault)
            → Heeds ruled_plainly fault → file_of new ≡ file_of old → StaysPutOff → Done (Err (of_rules fault))
        by_rule fault found seen plain still put_off =
            let same = held_is_if (is_broken (file_of old)) (ap (λ (f : Log D TableRules). is_broken f) still) in
            spared (of_rules fault) (no_failure fault) (no_full fault) (not_again (Err (of_rules fault)) (λ is. no_again fault (let one : of_rules fault ≡ F.OpenAgain = cc is in one))) played_on shown_on
            (λ played. refused_by (found played) same)
            (λ other is. judged_so (judgement_at kit_now other (length tables_now) stamp c) c fault
            (refuses_map of_rules (world_judgement_at kit_now other (length tables_now) stamp c) R.OutOfMemory c fault (seen other is)))
            (plain_so (plain_verdict tables_now stamp name c) fault (heeds_map of_rules ruled_plainly fault plain))
            put_off
            (record { same_file = still; same_held = same })
          where
            refused_by : MayFind (ruled.judgement_in kit_now tables_now stamp name c) R.OutOfMemory fault → held_of new ≡ held_of old → Takes (held_of old) stamp name c (held_of new) (Err (of_rules fault))
            refused_by (inl verdict) same = Refused (of_rules fault) was (map-is of_rules (ruled.judgement_in kit_now tables_now stamp name c) (Some fault) verdict) same
            refused_by (inr wants) same =
                subst (λ (f : rules.Fault). Takes (held_of old) stamp name c (held_of new) (Err (of_rules f))) (sym wants.1) (Wants was (ap (option_map of_rules) wants.0) same)

        by_file : (fault : log.Fault) → (Played → IsVerdict (ruled.judgement_in kit_now tables_now stamp name c) None) → SeenBy → ruled_plainly ≡ None → KeptBy (file_of old) (Err fault) (file_of new) → StaysPutOff → Done (Err (of_log fault))
        by_file L.DeviceFailed by_rules seen plain k put_off =
            let lawful : Played → Lawful = λ played. map-is of_rules (ruled.judgement_in kit_now tables_now stamp name c) None (by_rules played) in
            failed (λ played. Fails was (lawful played) (held_is_if true k.broken)) lawful (held_is_if true k.broken) (lawful_by seen) (passes plain) k put_off
        by_file L.HalfFull by_rules seen plain k put_off = absurd (k.room refl)
        by_file L.FileFull by_rules seen plain k put_off =
            let lawful : Played → Lawful = λ played. map-is of_rules (ruled.judgement_in kit_now tables_now stamp name c) None (by_rules played) in
            let same = held_is_if (is_broken (file_of old)) (k.broken ∙ sym was) in
            file_full (λ played. NoRoom was (lawful played) same) lawful same (lawful_by seen) (passes plain) k put_off
        by_file L.OpenAgain by_rules seen plain k put_off = let both : true ≡ false = sym (k.again.0 refl) ∙ was in absurd (cc both)
        by_file L.OutOfMemory by_rules seen plain k put_off =
            let lawful : Played → Lawful = λ played. map-is of_rules (ruled.judgement_in kit_now tables_now stamp name c) None (by_rules played) in
            let same = held_is_if (is_broken (file_of old)) (k.broken ∙ sym was) in
            no_memory (λ played. Wants was (lawful-first (judgement_in kit_now tables_now stamp name c) (lawful played)) same) lawful same (lawful_by seen) (passes plain) k put_off

        pub commits_not : (fault : table.Fault) → (Played → MayRefuse (ruled.judgement_in kit_now tables_now stamp name c) fault)
            → ((seen : Option Seen) → IsSeenAt old name seen → MayRefuseSeen (world_judgement_at kit_now seen (length tables_now) stamp c) c fault)
            → HeedsIn ruled_plainly fault
            → Passed {A = ℕ} (λ (before : FileJournal D) (lent : Lent) (bytes : List ℕ) (kept : Result (Unit {0}) log.Fault) (after : FileJournal D).
            Keeping Honest Works state past faults writes syncs before.file lent bytes (with_reason kept after.put_off) after.file × OnErr kept (after.put_off ≡ before.put_off))
            old.journal (lent_of old) bytes_of new.journal (Err fault)
            → Done (Err (of_tables fault))
        commits_not (Rules fault) verdict seen plain passed = by_rule fault verdict seen plain (ap (λ (j : FileJournal D). j.file) passed) (ap (λ (j : FileJournal D). j.put_off) passed)
        commits_not (File fault) verdict seen plain passed = by_file fault verdict seen plain passed.0 passed.1
