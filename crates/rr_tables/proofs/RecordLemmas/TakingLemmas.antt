-- Lines that are taken.
use Rattle.std.proofs.Common.{◌≡◌, ℕ, List, [], ◌∷◌, None, refl, sym, ap, subst, ◌∙◌, arith}
use Rattle.rr_code.specs.declared.command.Command.{Command}
use Rattle.rr_code.specs.Request.{SpellsRecord, record_text}
use Rattle.rr_code.proofs.TextLemmas.{record-unique}
use Rattle.rr_kit.specs.declared.kit.Kit.{Kit}
use Rattle.rr_kit.specs.Kits.{KitTexts, SpellsKit}
use Rattle.rr_kit.proofs.OneKit.{one_kit}
use Rattle.rr_turns.specs.declared.request.Request.{Request}
use Rattle.rr_turns.specs.Judgement.{IsVerdict}
use Rattle.rr_reading.specs.Worlds.World as words
use Rattle.rr_reading.proofs.WorldLemmas.Exact.{are_exact}
use Rattle.rr_tables.specs.Records.Laws.{FilesAreExact, LawfulAreTaken, LeadToOneWorld, MoveOn, RecordsAreOfRequests, RequestsAreReplayed, TakenAreLawful, UnlawfulLeadNowhere}
use Rattle.rr_tables.specs.Records.Lines.{TakesRecord, record_judgement}
use Rattle.rr_tables.specs.Records.Taking.{Takes, table_rules}
use Rattle.rr_tables.specs.Records.Words.{IsInWords, in_words, kit_texts}
use Rattle.rr_tables.specs.Records.World.{Follows, World, for_table, requests_in, world_after}
use Rattle.rr_tables.proofs.RecordLemmas.PlayedLemmas.{played_after, taken_were_played, tables_of_played_are_played}
use Rattle.rr_tables.proofs.RecordLemmas.WordLemmas.{are_in_words, of_form, one_in_words, one_of_commands}
use Rattle.rr_tables.proofs.RecordLemmas.WorldLemmas.{keep_after, requests_after}

-- a record is taken in one way
same_step : (kit : Kit) (old first second : World) (line : List ℕ) → TakesRecord kit old line first → TakesRecord kit old line second → first ≡ second
same_step kit old first second line a b =
    let same = record-unique a.name b.name a.request b.request line a.spelled b.spelled in
    a.taken ∙ ((λ i. world_after kit old (same.0 i) (same.1 i)) ∙ sym b.taken)

-- and by the one kit and the one world of commands of the world in words
pub taken_there : (kit : Kit) (tables : World) (old new : words.World) (line : List ℕ) → SpellsKit (kit_texts old) kit → IsInWords tables old
    → (takes : Takes line old new) → TakesRecord kit tables line takes.after
taken_there kit tables old new line right was takes =
    let kits = one_kit (kit_texts old) takes.kit kit takes.right right in
    let tables_too = one_of_commands takes.before tables old takes.was was in
    subst (λ (k : Kit). TakesRecord k tables line takes.after) kits
    (subst (λ (w : World). TakesRecord takes.kit w line takes.after) tables_too takes.taken)

pub lead_to_one_world : LeadToOneWorld
lead_to_one_world line old first second a b =
    let after = same_step a.kit a.before a.after b.after line a.taken (taken_there a.kit a.before old second line a.right a.was b) in
    one_in_words a.after first second a.becomes (subst (λ (w : World). IsInWords w second) (sym after) b.becomes) (a.same_texts ∙ sym b.same_texts)

pub files_are_exact : FilesAreExact
files_are_exact = are_exact table_rules lead_to_one_world

pub move_on : MoveOn
move_on line world takes =
    let same = one_of_commands takes.before takes.after world takes.was takes.becomes in
    let stays = ap requests_in (same ∙ takes.taken.taken) in
    let rises = requests_after takes.kit takes.before takes.taken.name takes.taken.request in
    absurd (omega (arith, stays, rises))

pub lawful_are_taken : LawfulAreTaken
lawful_are_taken kit tables old asked right was played lawful =
    let after = world_after kit tables asked.name asked.request in
    record {
      kit = kit;
      right = right;
      before = tables;
      after = after;
      was = was;
      played = played;
      taken = record {
        name = asked.name;
        request = asked.request;
        spelled = record { name = lawful.0.0; request = lawful.0.1; spelled = refl };
        lawful = lawful.1;
        taken = refl;
      };
      becomes = are_in_words (kit_texts old) after (keep_after kit tables asked.name asked.request lawful.0.1 (of_form tables old was));
      same_texts = refl;
    }

pub taken_are_lawful : TakenAreLawful
taken_are_lawful kit tables old new asked right was is takes =
    let line = record_text asked.name asked.request in
    let taken = taken_there kit tables old new line right was takes in
    let spelled : SpellsRecord line asked.name asked.request = record { name = is.0; request = is.1; spelled = refl } in
    let same = record-unique taken.name asked.name taken.request asked.request line taken.spelled spelled in
    let there = subst (λ (name : List ℕ). IsVerdict (record_judgement kit tables name taken.request) None) same.0 taken.lawful in
    let after : takes.after ≡ world_after kit tables asked.name asked.request =
    taken.taken ∙ (λ i. world_after kit tables (same.0 i) (same.1 i)) in
    record {
      played = tables_of_played_are_played kit tables old right was (taken_were_played line old new takes);
      lawful = (is, subst (λ (r : Request Command). IsVerdict (record_judgement kit tables asked.name r) None) same.1 there);
      spelled = subst (λ (w : World). IsInWords w new) after takes.becomes;
      same_texts = takes.same_texts;
    }

pub unlawful_lead_nowhere : UnlawfulLeadNowhere
unlawful_lead_nowhere kit tables old new line right was unlawful takes =
    let taken = taken_there kit tables old new line right was takes in
    unlawful taken.name taken.request taken.spelled taken.lawful

-- records in turn

pub records_are_of_requests : RecordsAreOfRequests
records_are_of_requests kit tables old new [] right was same =
    record {
      requests = [];
      written = refl;
      after = tables;
      followed = refl;
      spelled = subst (λ (w : words.World). IsInWords tables w) same was;
      same_texts = ap kit_texts (sym same);
    }
records_are_of_requests kit tables old new (line ∷ lines) right was replays =
    let takes = replays.1 in
    let taken = taken_there kit tables old replays.0 line right was takes in
    let right_then = subst (λ (texts : KitTexts). SpellsKit texts kit) (sym takes.same_texts) right in
    let more = records_are_of_requests kit takes.after replays.0 new lines right_then takes.becomes replays.2 in
    record {
      requests = for_table taken.name taken.request ∷ more.requests;
      written = λ i. taken.spelled.spelled i ∷ more.written i;
      after = more.after;
      followed = (((taken.spelled.name, taken.spelled.request), taken.lawful), subst (λ (w : World). Follows kit w more.requests more.after) taken.taken more.followed);
      spelled = more.spelled;
      same_texts = more.same_texts ∙ takes.same_texts;
    }

pub requests_are_replayed : RequestsAreReplayed
requests_are_replayed kit tables after old [] right was played same =
    one_in_words tables old (in_words (kit_texts old) tables) was (are_in_words (kit_texts old) tables (of_form tables old was)) refl
    ∙ ap (λ (w : World). in_words (kit_texts old) w) (sym same)
requests_are_replayed kit tables after old (asked ∷ requests) right was played follows =
    let next = world_after kit tables asked.name asked.request in
    let then : words.World = in_words (kit_texts old) next in
    let keep = keep_after kit tables asked.name asked.request follows.0.0.1 (of_form tables old was) in
    let played_then = played_after kit tables asked.name asked.request follows.0.1 played in
    let more = requests_are_replayed kit next after then requests right (are_in_words (kit_texts old) next keep) played_then follows.1 in
    (then, lawful_are_taken kit tables old asked right was played follows.0, more)
