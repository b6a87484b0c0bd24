-- What a service has in the file at each of its moments.
use Rattle.std.proofs.Common.{◌≡◌, ◌<◌, ◌∙◌, ℕ, zero, suc, length, arith, Bool, true, false, List, [], ◌∷◌, ◌++◌, Option, Result, Ok, Err, refl, sym, ap, subst}
use Rattle.rr_disk.specs.Disk.{DiskState}
use Rattle.rr_disk.specs.Moments.{EachImageOf}
use Rattle.rr_kit.specs.declared.kit.Kit.{Kit}
use Rattle.rr_kit.specs.Kits.{KitTexts}
use Rattle.rr_log.specs.declared.log.Log.{Log}
use Rattle.rr_log.specs.Log as log
use Rattle.rr_moderator.specs.Durability.{CommitsOnce, IsToldOf, Makes_none, Makes_one, Told, tells_acceptance, told}
use Rattle.rr_tables.specs.declared.records.rules.TableRules.{TableRules}
use Rattle.rr_tables.specs.Records.Headline.{KeepsTablesOr}
use Rattle.rr_tables.specs.Records.World.{Follows, TableRequest, World, world_after}
use Rattle.rr_serve.specs.Lines.{taken}
use Rattle.rr_store.specs.declared.fault.Fault.{Fault}
use Rattle.rr_store.specs.declared.store.Store.{Store}
use Rattle.rr_store.specs.Committing.{Commits}
use Rattle.rr_store.specs.Held.{Held, Takes, with_tables}
use Rattle.rr_store.specs.Held as comes
use Rattle.rr_store.specs.Holding.{disk_of, held_of}
use Rattle.rr_store.proofs.Standing.{lawful_now}
use Rattle.rr_world_laws.specs.Services.{KeepsInTime, ServicesKeepInTime, accepted_of}
use Rattle.rr_world_laws.proofs.Services.{All, are_of_lines, Carried, One, carries_on, honest_before, oks, same_moments, still, there}

followed : (kit : Kit) (front rest : List TableRequest) (old between new : World) → Follows kit old front between → Follows kit between rest new
    → Follows kit old (front ++ rest) new
followed kit [] rest old between new one other = subst (λ (w : World). Follows kit w rest new) one other
followed kit (asked ∷ front) rest old between new one other =
    (one.0, followed kit front rest (world_after kit old asked.name asked.request) between new one.1 other)

-- what is held behind a request
abbrev HeldBehind : Held → TableRequest → Held → Result ℕ Fault → Type 0
HeldBehind old asked new (Ok stamp) = (old.broken ≡ false) × (new ≡ with_tables old (world_after old.kit old.tables asked.name asked.request))
HeldBehind old asked new (Err fault) = (new.kit ≡ old.kit) × (new.tables ≡ old.tables)

held_behind : (old : Held) (stamp : ℕ) (asked : TableRequest) (new : Held) (result : Result ℕ Fault) → Takes old stamp asked.name asked.request new result
    → HeldBehind old asked new result
held_behind old stamp asked new result (comes.Accepted whole lawful is) = (whole, is)
held_behind old stamp asked new result (comes.Refused fault whole verdict is) = (ap (λ (h : Held). h.kit) is, ap (λ (h : Held). h.tables) is)
held_behind old stamp asked new result (comes.Wants whole verdict is) = (ap (λ (h : Held). h.kit) is, ap (λ (h : Held). h.tables) is)
held_behind old stamp asked new result (comes.NoRoom whole lawful is) = (ap (λ (h : Held). h.kit) is, ap (λ (h : Held). h.tables) is)
held_behind old stamp asked new result (comes.Fails whole lawful is) = (ap (λ (h : Held). h.kit) is, ap (λ (h : Held). h.tables) is)
held_behind old stamp asked new result (comes.Again broken is) = (ap (λ (h : Held). h.kit) is, ap (λ (h : Held). h.tables) is)

module _ {D : Type 0} (Honest Works : D → Type 0) (state : D → DiskState) (past : D → List DiskState) (faults writes syncs : D → ℕ) (texts : KitTexts) where
  abbrev Line : Told D → List ℕ → Told D → Type 0
  Line = One Honest Works state past faults writes syncs texts

  abbrev Lines : Told D → List (List ℕ) → List (List ℕ) → Told D → Type 0
  Lines = All Honest Works state past faults writes syncs texts

  abbrev tables : Told D → World
  tables s = (held_of s.0).tables

  abbrev kit : Told D → Kit
  kit s = (held_of s.0).kit

  -- what is held behind a line is what its accepted request leads to
  abbrev Led : Told D → List TableRequest → Told D → Type 0
  Led s requests t = (kit t ≡ kit s) × Follows (kit s) (tables s) requests (tables t)

  led_on : (s between t : Told D) (front rest : List TableRequest) → Led s front between → Led between rest t → Led s (front ++ rest) t
  led_on s between t front rest one other = (
    other.0 ∙ one.0,
    followed (kit s) front rest (tables s) (tables between) (tables t) one.1
        (subst (λ (k : Kit). Follows k (tables between) rest (tables t)) one.0 other.1),
  )

  module _ (s t : Told D) (line : List ℕ) (one : Line s line t) (h : Honest (disk_of t.0)) (carried : Carried Honest Works state past faults writes syncs texts s) where
    led_by_commit : (asked : TableRequest) (stamp : ℕ) (result : Result ℕ Fault)
        → Commits Honest Works state past faults writes syncs s.0 asked.name stamp asked.request t.0 result
        → IsToldOf asked one.1.pending result (told t) → HeldBehind (held_of s.0) asked (held_of t.0) result
        → Led s (accepted_of (tells_acceptance (told t)) one.1.pending) t
    led_by_commit asked stamp (Ok value) commits tells held =
        let c = carried held.0 in
        let lawful = (commits.allowed h texts c).allowed.ends.0 in
        let are = ap (λ (b : Bool). accepted_of b one.1.pending) tells.1 ∙ ap (λ (p : Option TableRequest). accepted_of true p) tells.0 in (
          ap (λ (x : Held). x.kit) held.1,
          subst (λ (rs : List TableRequest). Follows (kit s) (tables s) rs (tables t)) (sym are)
              (lawful_now texts (kit s) (tables s) stamp asked lawful c.tables_of_kit, ap (λ (x : Held). x.tables) held.1),
        )
    led_by_commit asked stamp (Err fault) commits tells held = (
      held.0,
      subst (λ (b : Bool). Follows (kit s) (tables s) (accepted_of b one.1.pending) (tables t)) (sym tells) held.1,
    )

    -- what is held behind the commit of a line: where the device failed before, what was held
    held_by : (broken : Bool) → (held_of s.0).broken ≡ broken → (asked : TableRequest) (stamp : ℕ) (result : Result ℕ Fault)
        → Commits Honest Works state past faults writes syncs s.0 asked.name stamp asked.request t.0 result → HeldBehind (held_of s.0) asked (held_of t.0) result
    held_by false whole asked stamp result commits = held_behind (held_of s.0) stamp asked (held_of t.0) result (commits.takes (carried whole).played)
    held_by true was asked stamp result commits =
        let same = (still Honest Works state past faults writes syncs texts s t line one h was).same_held in
        subst (HeldBehind (held_of s.0) asked (held_of t.0)) (sym (commits.again.1 was)) (ap (λ (x : Held). x.kit) same, ap (λ (x : Held). x.tables) same)

    led_by : CommitsOnce Honest Works state past faults writes syncs s.0 line one.1.pending t.0 t.1 → Led s (accepted_of (tells_acceptance (told t)) one.1.pending) t
    led_by (Makes_none idle same calm) = (
      ap (λ (x : Store D). (held_of x).kit) same,
      subst (λ (b : Bool). Follows (kit s) (tables s) (accepted_of b one.1.pending) (tables t)) (sym calm) (ap (λ (x : Store D). (held_of x).tables) same),
    )
    led_by (Makes_one asked stamp sheet result spells asks commits tells text) =
        led_by_commit asked stamp result commits tells (held_by (held_of s.0).broken refl asked stamp result commits)

    line_leads : Led s (accepted_of (tells_acceptance (told t)) one.1.pending) t
    line_leads = led_by one.1.commits

  abbrev Oks : ℕ → (s : Told D) (lines replies : List (List ℕ)) (t : Told D) → Lines s lines replies t → List TableRequest
  Oks = oks Honest Works state past faults writes syncs texts

  abbrev There : ℕ → (s : Told D) (lines replies : List (List ℕ)) (t : Told D) → Lines s lines replies t → Told D
  There = there Honest Works state past faults writes syncs texts

  abbrev Whole : Told D → Type 0
  Whole = Carried Honest Works state past faults writes syncs texts

  -- what a first line leads to, by its reply
  first_leads : (s : Told D) (line : List ℕ) (lines : List (List ℕ)) (reply : List ℕ) (replies : List (List ℕ)) (t : Told D)
      → (way : Lines s (line ∷ lines) (reply ∷ replies) t) → Honest (disk_of way.0.0) → Whole s → Led s (accepted_of (tells_acceptance reply) way.1.1.pending) way.0
  first_leads s line lines reply replies t way h carried =
      subst (λ (r : List ℕ). Led s (accepted_of (tells_acceptance r) way.1.1.pending) way.0) (sym way.2) (line_leads s way.0 (taken line) way.1 h carried)

  -- and what is held behind lines what theirs lead to
  leads : (n : ℕ) (s : Told D) (lines replies : List (List ℕ)) (t : Told D) (way : Lines s lines replies t) → Honest (disk_of t.0) → Whole s
      → Led s (Oks n s lines replies t way) (There n s lines replies t way) × Whole (There n s lines replies t way)
  leads zero s lines replies t way h carried = ((refl, refl), carried)
  leads (suc n) s [] [] t way h carried = ((refl, refl), carried)
  leads (suc n) s (line ∷ lines) (reply ∷ replies) t way h carried =
      let between = honest_before Honest Works state past faults writes syncs texts way.0 lines replies t way.3 h in
      let then = leads n way.0 lines replies t way.3 h (carries_on Honest Works state past faults writes syncs texts s way.0 (taken line) way.1 between carried) in
      let here = first_leads s line lines reply replies t way between carried in
      (led_on s way.0 (There n way.0 lines replies t way.3) (accepted_of (tells_acceptance reply) way.1.1.pending) (Oks n way.0 lines replies t way.3) here then.0, then.1)
  leads (suc n) s [] (reply ∷ replies) t way h carried = absurd way
  leads (suc n) s (line ∷ lines) [] t way h carried = absurd way

  abbrev Timely : ℕ → (s : Told D) (lines replies : List (List ℕ)) (t : Told D) → Lines s lines replies t → Type 0
  Timely n s lines replies t way = KeepsInTime Honest Works state past faults writes syncs s lines replies t way texts n

  -- while the first line is answered
  module _ (s : Told D) (line : List ℕ) (lines : List (List ℕ)) (reply : List ℕ) (replies : List (List ℕ)) (t : Told D)
      (way : Lines s (line ∷ lines) (reply ∷ replies) t) (h : Honest (disk_of way.0.0)) (carried : Whole s) where
    at_first_line : (broken : Bool) → (held_of s.0).broken ≡ broken → Timely 0 s (line ∷ lines) (reply ∷ replies) t way
    at_first_line false was =
        let leaves = way.1.1.keeps h texts (carried was) in
        record {
          line = line;
          under_way = refl;
          moments = leaves.since;
          are = leaves.goes_on;
          led = refl;
          pending = way.1.1.pending;
          pends = way.1.1.pends way.1.0.1;
          each = leaves.each;
        }
    at_first_line true was =
        let same : disk_of way.0.0 ≡ disk_of s.0 = ap (λ (l : Log D TableRules). log.disk_of l)
        (still Honest Works state past faults writes syncs texts s way.0 (taken line) way.1 h was).same_file in
        record {
          line = line;
          under_way = refl;
          moments = [];
          are = same_moments Honest Works state past faults writes syncs texts s way.0 same;
          led = refl;
          pending = way.1.1.pending;
          pends = way.1.1.pends way.1.0.1;
          each = tt;
        }

  -- while a later line is answered
  at_later_line : (n : ℕ) (s : Told D) (line : List ℕ) (lines : List (List ℕ)) (reply : List ℕ) (replies : List (List ℕ)) (t : Told D)
      → (way : Lines s (line ∷ lines) (reply ∷ replies) t)
      → Led s (accepted_of (tells_acceptance reply) way.1.1.pending) way.0 → Timely n way.0 lines replies t way.3
      → Timely (suc n) s (line ∷ lines) (reply ∷ replies) t way
  at_later_line n s line lines reply replies t way here then =
      let at = There n way.0 lines replies t way.3 in
      let K : Kit → Type 0 = λ k. Follows k (tables way.0) (Oks n way.0 lines replies t way.3) (tables at) in
      record {
        line = then.line;
        under_way = then.under_way;
        moments = then.moments;
        are = then.are;
        led = followed (kit s) (accepted_of (tells_acceptance reply) way.1.1.pending) (Oks n way.0 lines replies t way.3)
            (tables s) (tables way.0) (tables at) here.1 (subst K here.0 then.led);
        pending = then.pending;
        pends = then.pends;
        each = subst (λ (k : Kit). EachImageOf then.moments (KeepsTablesOr texts k (tables at) then.pending)) here.0 then.each;
      }

  in_time : (n : ℕ) (s : Told D) (lines replies : List (List ℕ)) (t : Told D) → (way : Lines s lines replies t) → Honest (disk_of t.0) → Whole s → n < length lines
      → Timely n s lines replies t way
  in_time zero s [] replies t way h carried below = absurd (omega (arith, below))
  in_time zero s (line ∷ lines) [] t way h carried below = absurd way
  in_time zero s (line ∷ lines) (reply ∷ replies) t way h carried below =
      let between = honest_before Honest Works state past faults writes syncs texts way.0 lines replies t way.3 h in
      at_first_line s line lines reply replies t way between carried (held_of s.0).broken refl
  in_time (suc n) s [] replies t way h carried below = absurd (omega (arith, below))
  in_time (suc n) s (line ∷ lines) [] t way h carried below = absurd way
  in_time (suc n) s (line ∷ lines) (reply ∷ replies) t way h carried below =
      let between = honest_before Honest Works state past faults writes syncs texts way.0 lines replies t way.3 h in
      let now = carries_on Honest Works state past faults writes syncs texts s way.0 (taken line) way.1 between carried in
      at_later_line n s line lines reply replies t way (first_leads s line lines reply replies t way between carried)
      (in_time n way.0 lines replies t way.3 h now (omega (arith, below)))

pub services_keep_in_time : {D : Type 0} (Honest Works : D → Type 0) (state : D → DiskState) (past : D → List DiskState) (faults writes syncs : D → ℕ)
    → ServicesKeepInTime Honest Works state past faults writes syncs
services_keep_in_time Honest Works state past faults writes syncs texts old new lines replies way h carries =
    record {
      within = λ n below. in_time Honest Works state past faults writes syncs texts n old lines replies new way h (λ whole. carries) below;
      between = λ n. let led = leads Honest Works state past faults writes syncs texts n old lines replies new way h (λ whole. carries) in
          record { led = led.0.1; carries = led.1 };
      moments = are_of_lines Honest Works state past faults writes syncs texts old lines replies new way h (λ whole. carries);
    }
