-- A table's replies depend on the table alone.
use Rattle.std.proofs.Common.{◌≡◌, ◌⊎◌, ℕ, ◌<◌, ◌≤◌, Bool, true, false, cond, List, [], ◌∷◌, length, map, Option, None, Some, Result, Ok, Err, inl, inr, bytes_eq, if◌then◌else◌, refl, sym, ap, subst, ◌∙◌, arith}
use Rattle.std.proofs.lemmas.Slice.Eq.{bytes_eq-Decides}
use Rattle.indexmap.specs.IndexMap.{insert_entry}
use Rattle.rr_kit.specs.declared.kit.Kit.{Kit}
use Rattle.rr_code.specs.declared.command.Command.{Command}
use Rattle.rr_code.specs.declared.command.Command.TheVariants.{Open}
use Rattle.rr_turns.specs.declared.request.Request.{Request}
use Rattle.rr_turns.specs.declared.request.Request.TheVariants.{Play}
use Rattle.rr_code.specs.declared.query.Query.{Query}
use Rattle.rr_code.specs.declared.query.Query.TheVariants as Q
use Rattle.rr_code.specs.declared.line.Line.{Line}
use Rattle.rr_code.specs.declared.line.Line.TheVariants as L
use Rattle.rr_code.specs.Line.{SpellsLine}
use Rattle.rr_moderator.specs.declared.fault.Fault.{Fault}
use Rattle.rr_moderator.specs.declared.fault.Fault.TheVariants as F
use Rattle.rr_moderator.specs.Answer.{accepted_text}
use Rattle.rr_moderator.specs.Fault.{of_rules, of_store, refusal_of}
use Rattle.rr_moderator.specs.Queries.{Answer, MayRefuse, MeetsQuery, answer_of_table, asked_answer, book_answer, cash_answer, due_answer, holds_answer, iou_answer, limit_answer, order_answer, phase_answer, price_answer, privates_answer, query_answer, query_text, reply_of, stamp_answer, trains_answer, turns_answer, allocates, worth_answer}
use Rattle.rr_roster.specs.declared.company.Corp.{Corp}
use Rattle.rr_moderator.specs.Best.{LacksRun, MayNotRun, HasNone, LacksMemory, best_run, run_verdict}
use Rattle.rr_moderator.specs.Serving.{Meets, MeetsBest, Lacks, Finds, Responds, TooLong, Malformed, Broken, Read, reply_to, text_of}
use Rattle.rr_store.specs.declared.fault.Fault as store
use Rattle.rr_tables.specs.declared.records.fault.Fault as judge
use Rattle.rr_tables.specs.declared.records.fault.Fault.TheVariants as J
use Rattle.rr_tables.specs.Records.World as rules
use Rattle.rr_tables.specs.Records.World.{opening_verdict, world_judgement}
use Rattle.rr_store.specs.Fault as stored
use Rattle.rr_store.specs.Held.{Held, Takes, Accepted, Refused, Wants, NoRoom, Fails, Again}
use Rattle.rr_store.specs.World.{TableState, World, state_after, table_named}
use Rattle.rr_game.specs.History.Laws.{RequestsHaveOneVerdict}
use Rattle.rr_turns.specs.Judgement.{IsVerdict}
use Rattle.rr_turns.proofs.JudgementLemmas.{is-settled, lawful-map, settled-is}
use Rattle.rr_moderator.proofs.ServingLemmas.{one_line, reply_refused}
use Rattle.rr_moderator.proofs.Verdicts.{refused_by_rules, world_one}
use Rattle.rr_moderator.specs.Alone.{Alone, Exchange, Found, IsCalm, IsDisturbed, Names, Picks, Runs, found_best, found_for, found_in, line_table, query_table, sent}
use Rattle.rr_words.specs.declared.line.TheConstants.{LONGEST_LINE}

-- a table in the world after another entry

named_step : (b : Bool) (e : List ℕ × TableState) (es rest : World) (name : List ℕ) (v : TableState) → bytes_eq name e.0 ≡ b
    → table_named rest name ≡ Some v → table_named (if b then (e.0, v) ∷ es else e ∷ rest) name ≡ Some v
named_step true e es rest name v is more = ap (λ c. cond c (Some v) (table_named es name)) is
named_step false e es rest name v is more = ap (λ c. cond c (Some e.1) (table_named rest name)) is ∙ more

pub named_after : (tables : World) (name : List ℕ) (v : TableState) → table_named (insert_entry bytes_eq tables name v) name ≡ Some v
named_after [] name v = let empty : Option TableState = None in ap (λ c. cond c (Some v) empty) ((bytes_eq-Decides name name).1 refl)
named_after (e ∷ es) name v =
    named_step (bytes_eq name e.0) e es (insert_entry bytes_eq es name v) name v refl (named_after es name v)

other_step : (b : Bool) (e : List ℕ × TableState) (es rest : World) (name other : List ℕ) (v : TableState) → bytes_eq name e.0 ≡ b
    → bytes_eq other name ≡ false → table_named rest other ≡ table_named es other
    → table_named (if b then (e.0, v) ∷ es else e ∷ rest) other ≡ table_named (e ∷ es) other
other_step true e es rest name other v is apart more =
    let same : name ≡ e.0 = (bytes_eq-Decides name e.0).0 is in
    let off : bytes_eq other e.0 ≡ false = subst (λ k. bytes_eq other k ≡ false) same apart in
    ap (λ c. cond c (Some v) (table_named es other)) off ∙ sym (ap (λ c. cond c (Some e.1) (table_named es other)) off)
other_step false e es rest name other v is apart more = ap (λ o. cond (bytes_eq other e.0) (Some e.1) o) more

named_other : (tables : World) (name other : List ℕ) (v : TableState) → bytes_eq other name ≡ false
    → table_named (insert_entry bytes_eq tables name v) other ≡ table_named tables other
named_other [] name other v apart = let empty : Option TableState = None in ap (λ c. cond c (Some v) empty) apart
named_other (e ∷ es) name other v apart =
    other_step (bytes_eq name e.0) e es (insert_entry bytes_eq es name v) name other v refl apart (named_other es name other v apart)

-- a verdict doesn't depend on the number of tables, unless it tells of it

opening_step : (first room : Bool) → let v : Option judge.Fault = if first then Some (J.StaleStamp 0) else if room then Some J.TooManyTables else None in
    (v ≡ Some J.TooManyTables → ⊥) → v ≡ (if first then Some (J.StaleStamp 0) else None)
opening_step true room few = refl
opening_step false true few = absurd (few refl)
opening_step false false few = refl

uncounted : (kit : Kit) (t : Option TableState) (n stamp : ℕ) (c : Request Command) (verdict : Option judge.Fault) → (verdict ≡ Some J.TooManyTables → ⊥)
    → IsVerdict (world_judgement kit t n stamp c) verdict → IsVerdict (world_judgement kit t 0 stamp c) verdict
uncounted kit (Some t) n stamp (Play (Open players)) verdict few is = is
uncounted kit None n stamp (Play (Open players)) verdict few is =
    let found : verdict ≡ opening_verdict None n stamp = is-settled (opening_verdict None n stamp) verdict is in
    settled-is (opening_verdict None 0 stamp) verdict (found ∙ opening_step _ _ (λ e. few (found ∙ e)))
uncounted kit t n stamp c verdict few is = is

-- what a line that names a table comes to, from the table alone

abbrev alone_with : List ℕ → Option TableState → World
alone_with name None = []
alone_with name (Some t) = (name, t) ∷ []

named_alone : (name : List ℕ) (t : Option TableState) → table_named (alone_with name t) name ≡ t
named_alone name None = refl
named_alone name (Some t) = let empty : Option TableState = None in ap (λ c. cond c (Some t) empty) ((bytes_eq-Decides name name).1 refl)

abbrev Outcome : Type 0
Outcome = List ℕ × Option TableState

abbrev request_alone : Kit → List ℕ → Option TableState → Request Command → List ℕ → Option judge.Fault → Outcome
request_alone kit name t c sheet None = (accepted_text kit name (state_after kit t c) c sheet, Some (state_after kit t c))
request_alone kit name t c sheet (Some fault) = (refusal_of (of_rules fault), t)

-- the outcome of a request is that of its verdict
abbrev RequestAlone : Kit → List ℕ → Option TableState → ℕ → Request Command → List ℕ → Outcome → Type 0
RequestAlone kit name t stamp c sheet outcome =
    (verdict : Option judge.Fault) × IsVerdict (world_judgement kit t 0 stamp c) verdict × (outcome ≡ request_alone kit name t c sheet verdict)

-- where no best run is found, the corporation may not run, or it may
abbrev NoneAlone : Kit → Option TableState → ℕ → Corp → Outcome → Type 0
NoneAlone kit t stamp c outcome =
    ((fault : judge.Fault) × (run_verdict kit t stamp c ≡ Some fault) × (outcome ≡ (refusal_of (of_rules fault), t)))
    ⊎ ((run_verdict kit t stamp c ≡ None) × (outcome ≡ (refusal_of F.NoCertificate, t)))

-- the outcome of asking for a best run is that of the run that was found
abbrev BestAlone : Kit → List ℕ → Option TableState → ℕ → Corp → Found → Outcome → Type 0
BestAlone kit name t stamp c None outcome = NoneAlone kit t stamp c outcome
BestAlone kit name t stamp c (Some run) outcome = RequestAlone kit name t stamp (best_run c run.0 run.1) run.0 outcome

abbrev LineAlone : Kit → List ℕ → Option TableState → Line → Found → Outcome → Type 0
LineAlone kit name t (L.Request stamp table c) found outcome = RequestAlone kit name t stamp c [] outcome
LineAlone kit name t (L.Query query) found outcome = outcome ≡ (query_text kit (alone_with name t) query, t)
LineAlone kit name t (L.Best stamp table corp) found outcome = BestAlone kit name t stamp corp found outcome

some_same : {X : Type 0} (x y : X) → Some x ≡ Some y → x ≡ y
some_same x y e = cc

one_request : RequestsHaveOneVerdict → (kit : Kit) (name : List ℕ) (t : Option TableState) (stamp : ℕ) (c : Request Command) (sheet : List ℕ) (x y : Outcome)
    → RequestAlone kit name t stamp c sheet x → RequestAlone kit name t stamp c sheet y → x ≡ y
one_request one kit name t stamp c sheet x y a b =
    a.2 ∙ ap (λ (o : Option judge.Fault). request_alone kit name t c sheet o) (world_one one kit t 0 stamp c a.0 b.0 a.1 b.1) ∙ sym b.2

one_refusal : (t : Option TableState) (verdict : Option judge.Fault) (one other : judge.Fault) (x y : Outcome) → verdict ≡ Some one → verdict ≡ Some other
    → x ≡ (refusal_of (of_rules one), t) → y ≡ (refusal_of (of_rules other), t) → x ≡ y
one_refusal t verdict one other x y first second a b =
    let same = some_same one other (sym first ∙ second) in
    let Refusal : judge.Fault → Outcome = λ f. (refusal_of (of_rules f), t) in
    a ∙ ap Refusal same ∙ sym b

refused_and_free : {A : Type 0} (verdict : Option judge.Fault) (fault : judge.Fault) → verdict ≡ Some fault → verdict ≡ None → A
refused_and_free verdict fault refused free = let both : Some fault ≡ None = sym refused ∙ free in absurd (cc both)

one_none : (kit : Kit) (t : Option TableState) (stamp : ℕ) (c : Corp) (x y : Outcome) → NoneAlone kit t stamp c x → NoneAlone kit t stamp c y → x ≡ y
one_none kit t stamp c x y (inl a) (inl b) = one_refusal t (run_verdict kit t stamp c) a.0 b.0 x y a.1 b.1 a.2 b.2
one_none kit t stamp c x y (inl a) (inr b) = refused_and_free (run_verdict kit t stamp c) a.0 a.1 b.0
one_none kit t stamp c x y (inr a) (inl b) = refused_and_free (run_verdict kit t stamp c) b.0 b.1 a.0
one_none kit t stamp c x y (inr a) (inr b) = a.1 ∙ sym b.1

one_best : RequestsHaveOneVerdict → (kit : Kit) (name : List ℕ) (t : Option TableState) (stamp : ℕ) (c : Corp) (found : Found) (x y : Outcome)
    → BestAlone kit name t stamp c found x → BestAlone kit name t stamp c found y → x ≡ y
one_best one kit name t stamp c None x y a b = one_none kit t stamp c x y a b
one_best one kit name t stamp c (Some run) x y a b = one_request one kit name t stamp (best_run c run.0 run.1) run.0 x y a b

one_outcome : RequestsHaveOneVerdict → (kit : Kit) (name : List ℕ) (t : Option TableState) (l : Line) (found : Found) (x y : Outcome)
    → LineAlone kit name t l found x → LineAlone kit name t l found y → x ≡ y
one_outcome one kit name t (L.Request stamp table c) found x y a b = one_request one kit name t stamp c [] x y a b
one_outcome one kit name t (L.Query query) found x y a b = a ∙ sym b
one_outcome one kit name t (L.Best stamp table corp) found x y a b = one_best one kit name t stamp corp found x y a b

abbrev ReplyAlone : Kit → List ℕ → Option TableState → List ℕ → Line → Found → List ℕ → Option TableState → Type 0
ReplyAlone kit name t line l found reply after =
    ((LONGEST_LINE < length line) × (reply ≡ refusal_of F.LineTooLong) × (after ≡ t))
    ⊎ ((length line ≤ LONGEST_LINE) × LineAlone kit name t l found (reply, after))

one_reply : RequestsHaveOneVerdict → (kit : Kit) (name : List ℕ) (t : Option TableState) (line : List ℕ) (l : Line) (found : Found) (reply other : List ℕ) (after behind : Option TableState)
    → ReplyAlone kit name t line l found reply after → ReplyAlone kit name t line l found other behind → (reply ≡ other) × (after ≡ behind)
one_reply one kit name t line l found reply other after behind (inl a) (inl b) = (a.1 ∙ sym b.1, a.2 ∙ sym b.2)
one_reply one kit name t line l found reply other after behind (inl a) (inr b) = absurd (omega (arith, a.0, b.0))
one_reply one kit name t line l found reply other after behind (inr a) (inl b) = absurd (omega (arith, a.0, b.0))
one_reply one kit name t line l found reply other after behind (inr a) (inr b) =
    let same = one_outcome one kit name t l found (reply, after) (other, behind) a.1 b.1 in
    (ap (λ (o : Outcome). o.0) same, ap (λ (o : Outcome). o.1) same)

-- a query that names the table
ask_alone : (ask : TableState → Answer) (tables : World) (name table : List ℕ) → table ≡ name
    → answer_of_table ask (table_named tables table) ≡ answer_of_table ask (table_named (alone_with name (table_named tables name)) table)
ask_alone ask tables name table same =
    ap (λ k. answer_of_table ask (table_named tables k)) same
    ∙ ap (answer_of_table ask) (sym (named_alone name (table_named tables name)))
    ∙ ap (λ k. answer_of_table ask (table_named (alone_with name (table_named tables name)) k)) (sym same)

query_alone : (kit : Kit) (tables : World) (name : List ℕ) (query : Query) → query_table query ≡ Some name
    → query_text kit tables query ≡ query_text kit (alone_with name (table_named tables name)) query
query_alone kit tables name Q.Tables about = cc
query_alone kit tables name (Q.Stamp table) about = ap reply_of (ask_alone stamp_answer tables name table (some_same table name about))
query_alone kit tables name (Q.Turns table) about = ap reply_of (ask_alone (turns_answer kit) tables name table (some_same table name about))
query_alone kit tables name (Q.Due table) about = ap reply_of (ask_alone (due_answer kit) tables name table (some_same table name about))
query_alone kit tables name (Q.Cash table of) about = ap reply_of (ask_alone (cash_answer kit of) tables name table (some_same table name about))
query_alone kit tables name (Q.Limit table) about = ap reply_of (ask_alone (limit_answer kit) tables name table (some_same table name about))
query_alone kit tables name (Q.Asked table) about = ap reply_of (ask_alone (asked_answer kit) tables name table (some_same table name about))
query_alone kit tables name (Q.Holds table player corp) about = ap reply_of (ask_alone (holds_answer kit player corp) tables name table (some_same table name about))
query_alone kit tables name (Q.Price table corp) about = ap reply_of (ask_alone (price_answer kit corp) tables name table (some_same table name about))
query_alone kit tables name (Q.Order table) about = ap reply_of (ask_alone (order_answer kit) tables name table (some_same table name about))
query_alone kit tables name (Q.Phase table) about = ap reply_of (ask_alone (phase_answer kit) tables name table (some_same table name about))
query_alone kit tables name (Q.Trains table of) about = ap reply_of (ask_alone (trains_answer kit of) tables name table (some_same table name about))
query_alone kit tables name (Q.Iou table) about = ap reply_of (ask_alone (iou_answer kit) tables name table (some_same table name about))
query_alone kit tables name (Q.Worth table player) about = ap reply_of (ask_alone (worth_answer kit player) tables name table (some_same table name about))
query_alone kit tables name (Q.Book table turn) about = ap reply_of (ask_alone (book_answer kit turn) tables name table (some_same table name about))
query_alone kit tables name (Q.Privates table of) about = ap reply_of (ask_alone (privates_answer kit of) tables name table (some_same table name about))

-- a reply that isn't `out of memory` is the text of the answer
query_answered : (kit : Kit) (tables : World) (query : Query) (outcome : Result (List ℕ) Fault) → MeetsQuery kit tables query outcome
    → ¬ IsDisturbed (reply_to outcome) → reply_to outcome ≡ query_text kit tables query
query_answered kit tables query (Ok text) meets calm = meets.1
query_answered kit tables query (Err fault) meets calm = by_memory (allocates query) meets
  where
    by_memory : (b : Bool) → MayRefuse b (query_answer kit tables query) fault → refusal_of fault ≡ query_text kit tables query
    by_memory true (inl is) = reply_refused (query_answer kit tables query) fault is
    by_memory true (inr wants) = absurd (calm (F.OutOfMemory, refl, ap refusal_of wants.1))
    by_memory false is = reply_refused (query_answer kit tables query) fault is

abbrev Same : Held → Held → List ℕ → (Outcome → Type 0) → List ℕ → Type 0
Same old new name Comes reply = Comes (reply, table_named new.tables name) × (new.kit ≡ old.kit)

-- a request that names the table
takes_alone : (old new : Held) (stamp : ℕ) (name : List ℕ) (c : Request Command) (sheet : List ℕ) {result : Result ℕ store.Fault} → Takes old stamp name c new result
    → ¬ IsDisturbed (reply_to (text_of old name c sheet result))
    → Same old new name (RequestAlone old.kit name (table_named old.tables name) stamp c sheet) (reply_to (text_of old name c sheet result))
takes_alone old new stamp name c sheet (Accepted whole lawful after) calm =
    let t = table_named old.tables name in
    let there : table_named new.tables name ≡ Some (state_after old.kit t c) =
    ap (λ h. table_named h.tables name) after ∙ named_after old.tables name (state_after old.kit t c) in (
      (
        None,
        uncounted old.kit t (length old.tables) stamp c None (λ e. absurd (cc e)) (lawful-map stored.of_rules (rules.judgement_in old.kit old.tables stamp name c) lawful),
        ap (λ (o : Option TableState). (accepted_text old.kit name (state_after old.kit t c) c sheet, o)) there,
      ),
      ap (λ h. h.kit) after,
    )
takes_alone old new stamp name c sheet (Refused fault whole refused same) calm =
    let t = table_named old.tables name in
    let by_rule = refused_by_rules old.kit old.tables stamp name c fault refused in
    let told : refusal_of (of_store fault) ≡ refusal_of (of_rules by_rule.0) = ap (λ (f : store.Fault). refusal_of (of_store f)) by_rule.2 in
    let few : Some by_rule.0 ≡ Some J.TooManyTables → ⊥ =
    λ e. calm (F.TooManyTables, refl, told ∙ ap (λ (f : judge.Fault). refusal_of (of_rules f)) (some_same by_rule.0 J.TooManyTables e)) in (
      (
        Some by_rule.0,
        uncounted old.kit t (length old.tables) stamp c (Some by_rule.0) few by_rule.1,
        ap (λ (r : List ℕ). (r, table_named new.tables name)) told
            ∙ ap (λ (o : Option TableState). (refusal_of (of_rules by_rule.0), o)) (ap (λ h. table_named h.tables name) same),
      ),
      ap (λ h. h.kit) same,
    )
takes_alone old new stamp name c sheet (Wants whole first same) calm = absurd (calm (F.OutOfMemory, refl, refl))
takes_alone old new stamp name c sheet (NoRoom whole lawful same) calm = absurd (calm (F.FileFull, refl, refl))
takes_alone old new stamp name c sheet (Fails whole lawful after) calm = absurd (calm (F.DeviceFailed, refl, refl))
takes_alone old new stamp name c sheet (Again broken same) calm = absurd (calm (F.OpenAgain, refl, refl))

-- a corporation for which no best run is found
lacks_alone : (kit : Kit) (t after : Option TableState) (stamp : ℕ) (name : List ℕ) (c : Corp) {fault : Fault} → LacksRun kit t stamp name c fault
    → ¬ IsDisturbed (refusal_of fault) → after ≡ t → NoneAlone kit t stamp c (refusal_of fault, after)
lacks_alone kit t after stamp name c (MayNotRun fault refused) calm same =
    inl (fault, refused, ap (λ (o : Option TableState). (refusal_of (of_rules fault), o)) same)
lacks_alone kit t after stamp name c (HasNone table is_there free lacks) calm same =
    inr (free, ap (λ (o : Option TableState). (refusal_of F.NoCertificate, o)) same)
lacks_alone kit t after stamp name c (LacksMemory free) calm same = absurd (calm (F.OutOfMemory, refl, refl))

best_alone : (old new : Held) (stamp : ℕ) (name : List ℕ) (c : Corp) {outcome : Result (List ℕ) Fault} (meets : MeetsBest old stamp name c new outcome)
    → ¬ IsDisturbed (reply_to outcome)
    → Same old new name (BestAlone old.kit name (table_named old.tables name) stamp c (found_best meets)) (reply_to outcome)
best_alone old new stamp name c (Lacks fault lacks same) calm = (
  lacks_alone old.kit (table_named old.tables name) (table_named new.tables name) stamp name c lacks calm (ap (λ h. table_named h.tables name) same),
  ap (λ h. h.kit) same,
)
best_alone old new stamp name c (Finds sheet certificate result is takes) calm = takes_alone old new stamp name (best_run c sheet certificate) sheet takes calm

meets_alone : (old new : Held) (name : List ℕ) (l : Line) (outcome : Result (List ℕ) Fault) → line_table l ≡ Some name → (meets : Meets old l new outcome)
    → ¬ IsDisturbed (reply_to outcome)
    → Same old new name (LineAlone old.kit name (table_named old.tables name) l (found_for old new l outcome meets)) (reply_to outcome)
meets_alone old new name (L.Request stamp table c) outcome about meets calm =
    let named = some_same table name about in
    let takes = subst (λ k. Takes old stamp k c new meets.0) named meets.1 in
    let told : outcome ≡ text_of old name c [] meets.0 = subst (λ k. outcome ≡ text_of old k c [] meets.0) named meets.2 in
    subst (λ (o : Result (List ℕ) Fault). Same old new name (RequestAlone old.kit name (table_named old.tables name) stamp c []) (reply_to o)) (sym told)
    (takes_alone old new stamp name c [] takes (subst (λ (o : Result (List ℕ) Fault). ¬ IsDisturbed (reply_to o)) told calm))
meets_alone old new name (L.Query query) outcome about meets calm =
    let text = query_answered old.kit old.tables query outcome meets.1 calm ∙ query_alone old.kit old.tables name query about in
    let there = ap (λ h. table_named h.tables name) meets.0 in
    (λ i. (text i, there i), ap (λ h. h.kit) meets.0)
meets_alone old new name (L.Best stamp table corp) outcome about meets calm =
    let P : List ℕ → Type 0 = λ k. Same old new k (BestAlone old.kit k (table_named old.tables k) stamp corp (found_best meets)) (reply_to outcome) in
    subst P (some_same table name about) (best_alone old new stamp table corp meets calm)

-- a line that names the table
responds_alone : (old new : Held) (line name : List ℕ) (l : Line) → SpellsLine line l → line_table l ≡ Some name
    → {outcome : Result (List ℕ) Fault} (responds : Responds old line new outcome) → ¬ IsDisturbed (reply_to outcome)
    → ReplyAlone old.kit name (table_named old.tables name) line l (found_in responds) (reply_to outcome) (table_named new.tables name) × (new.kit ≡ old.kit)
responds_alone old new line name l spells about (TooLong long same) calm =
    (inl (long, refl, ap (λ h. table_named h.tables name) same), ap (λ h. h.kit) same)
responds_alone old new line name l spells about (Malformed short none same) calm = absurd (none l spells)
responds_alone old new line name l spells about (Broken m short other broken same) calm = absurd (calm (F.OpenAgain, refl, refl))
responds_alone old new line name l spells about (Read m outcome short other whole meets) calm =
    let e = one_line line m l other spells in
    let P : Line → Type 0 = λ x. Same old new name (LineAlone old.kit name (table_named old.tables name) x (found_for old new m outcome meets)) (reply_to outcome) in
    let r = subst P e (meets_alone old new name m outcome (ap line_table e ∙ about) meets calm) in
    (inr (short, r.0), r.1)

-- a line that doesn't

abbrev Unmoved : Held → Held → List ℕ → Type 0
Unmoved old new name = (table_named new.tables name ≡ table_named old.tables name) × (new.kit ≡ old.kit)

unmoved : (old new : Held) (name : List ℕ) → new ≡ old → Unmoved old new name
unmoved old new name same = (ap (λ h. table_named h.tables name) same, ap (λ h. h.kit) same)

takes_other : (old new : Held) (stamp : ℕ) (name table : List ℕ) (c : Request Command) {result : Result ℕ store.Fault} → bytes_eq name table ≡ false
    → Takes old stamp table c new result → Unmoved old new name
takes_other old new stamp name table c apart (Accepted whole lawful after) =
    (ap (λ h. table_named h.tables name) after ∙ named_other old.tables table name (state_after old.kit (table_named old.tables table) c) apart, ap (λ h. h.kit) after)
takes_other old new stamp name table c apart (Refused fault whole refused same) = unmoved old new name same
takes_other old new stamp name table c apart (Wants whole first same) = unmoved old new name same
takes_other old new stamp name table c apart (NoRoom whole lawful same) = unmoved old new name same
takes_other old new stamp name table c apart (Again broken same) = unmoved old new name same
takes_other old new stamp name table c apart (Fails whole lawful after) = (ap (λ h. table_named h.tables name) after, ap (λ h. h.kit) after)

apart_from : (b : Bool) (name table : List ℕ) → bytes_eq name table ≡ b → (name ≡ table → ⊥) → bytes_eq name table ≡ false
apart_from true name table is apart = absurd (apart ((bytes_eq-Decides name table).0 is))
apart_from false name table is apart = is

best_other : (old new : Held) (stamp : ℕ) (name table : List ℕ) (c : Corp) {outcome : Result (List ℕ) Fault} → bytes_eq name table ≡ false
    → MeetsBest old stamp table c new outcome → Unmoved old new name
best_other old new stamp name table c apart (Lacks fault lacks same) = unmoved old new name same
best_other old new stamp name table c apart (Finds sheet certificate result is takes) = takes_other old new stamp name table (best_run c sheet certificate) apart takes

meets_other : (old new : Held) (line name : List ℕ) (l : Line) (outcome : Result (List ℕ) Fault) → SpellsLine line l → ¬ Names name line
    → Meets old l new outcome → Unmoved old new name
meets_other old new line name (L.Request stamp table c) outcome spells none meets =
    takes_other old new stamp name table c (apart_from (bytes_eq name table) name table refl (λ e. none (L.Request stamp table c, spells, ap Some (sym e)))) meets.1
meets_other old new line name (L.Query query) outcome spells none meets = unmoved old new name meets.0
meets_other old new line name (L.Best stamp table corp) outcome spells none meets =
    best_other old new stamp name table corp (apart_from (bytes_eq name table) name table refl (λ e. none (L.Best stamp table corp, spells, ap Some (sym e)))) meets

responds_other : (old new : Held) (line name : List ℕ) {outcome : Result (List ℕ) Fault} → ¬ Names name line → Responds old line new outcome → Unmoved old new name
responds_other old new line name none (TooLong long same) = unmoved old new name same
responds_other old new line name none (Malformed short no_form same) = unmoved old new name same
responds_other old new line name none (Broken m short other broken same) = unmoved old new name same
responds_other old new line name none (Read m outcome short spells whole meets) = meets_other old new line name m outcome spells none meets

-- whole runs

abbrev RunsAlone : Kit → List ℕ → Option TableState → List Exchange → Type 0
RunsAlone kit name t [] = Unit {0}
RunsAlone kit name t (exchange ∷ picked) =
    (after : Option TableState) × (l : Line) × SpellsLine exchange.line l × ReplyAlone kit name t exchange.line l exchange.found exchange.reply after
    × RunsAlone kit name after picked

gathered : (name : List ℕ) (old new : Held) (run picked : List Exchange) → Runs old run new → IsCalm run → Picks name run picked
    → RunsAlone old.kit name (table_named old.tables name) picked
gathered name old new [] picked runs calm none = subst (λ p. RunsAlone old.kit name (table_named old.tables name) p) (sym none) tt
gathered name old new (exchange ∷ run) picked runs calm (inl names) =
    let mid = runs.0 in
    let answers = runs.1.0 in
    let calm_here = subst (λ r. ¬ IsDisturbed r) answers.2 calm.0 in
    let l = names.1.0 in
    let t = table_named old.tables name in
    let r = responds_alone old mid exchange.line name l names.1.1 names.1.2 answers.1 calm_here in
    let told = subst (λ x. ReplyAlone old.kit name t exchange.line l (found_in answers.1) x (table_named mid.tables name)) (sym answers.2) r.0 in
    let reply = subst (λ (x : Found). ReplyAlone old.kit name t exchange.line l x exchange.reply (table_named mid.tables name)) (sym runs.1.1) told in
    let more = subst (λ x. RunsAlone x name (table_named mid.tables name) names.0) r.1 (gathered name mid new run names.0 runs.2 calm.1 names.3) in
    subst (λ p. RunsAlone old.kit name t p) (sym names.2) (table_named mid.tables name, l, names.1.1, reply, more)
gathered name old new (exchange ∷ run) picked runs calm (inr other) =
    let mid = runs.0 in
    let r = responds_other old mid exchange.line name other.0 runs.1.0.1 in
    let more = gathered name mid new run picked runs.2 calm.1 other.1 in
    subst (λ x. RunsAlone x name (table_named old.tables name) picked) r.1 (subst (λ t. RunsAlone mid.kit name t picked) r.0 more)

one_exchange : (a b : Exchange) → a.line ≡ b.line → a.found ≡ b.found → a.reply ≡ b.reply → a ≡ b
one_exchange a b p q r = λ i. record { line = p i; found = q i; reply = r i }

one_run : (a b : Exchange) (p q : List Exchange) → a ≡ b → p ≡ q → a ∷ p ≡ b ∷ q
one_run a b p q e f = cc

agreed : RequestsHaveOneVerdict → (kit : Kit) (name : List ℕ) (t : Option TableState) (picked others : List Exchange) → RunsAlone kit name t picked → RunsAlone kit name t others
    → map sent picked ≡ map sent others → picked ≡ others
agreed verdicts kit name t [] [] one two same = refl
agreed verdicts kit name t [] (b ∷ others) one two same = absurd cc
agreed verdicts kit name t (a ∷ picked) [] one two same = absurd cc
agreed verdicts kit name t (a ∷ picked) (b ∷ others) one two same =
    let first : sent b ≡ sent a = cc in
    let line : b.line ≡ a.line = ap (λ (s : List ℕ × Found). s.0) first in
    let found : b.found ≡ a.found = ap (λ (s : List ℕ × Found). s.1) first in
    let lines : map sent picked ≡ map sent others = cc in
    let spelled = subst (λ x. SpellsLine x two.1) line two.2 in
    let again = subst (λ x. ReplyAlone kit name t x two.1 b.found b.reply two.0) line two.3 in
    let same_run = subst (λ (x : Found). ReplyAlone kit name t a.line two.1 x b.reply two.0) found again in
    let meant = subst (λ x. ReplyAlone kit name t a.line x a.found b.reply two.0) (one_line a.line two.1 one.1 spelled one.2) same_run in
    let r = one_reply verdicts kit name t a.line one.1 a.found a.reply b.reply one.0 two.0 one.3 meant in
    one_run a b picked others (one_exchange a b (sym line) (sym found) r.0)
    (agreed verdicts kit name one.0 picked others one.4 (subst (λ x. RunsAlone kit name x others) (sym r.1) two.4) lines)

pub is_alone : RequestsHaveOneVerdict → Alone
is_alone verdicts name one two one_end two_end run other picked others runs runs_other kit table calm calm_other picks picks_other same =
    let there = gathered name two two_end other others runs_other calm_other picks_other in
    let moved = subst (λ t. RunsAlone two.kit name t others) (sym table) there in
    agreed verdicts one.kit name (table_named one.tables name) picked others (gathered name one one_end run picked runs calm picks)
    (subst (λ x. RunsAlone x name (table_named one.tables name) others) (sym kit) moved) same
