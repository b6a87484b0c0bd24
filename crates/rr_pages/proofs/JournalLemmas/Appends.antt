-- What each device call of an append leaves.
use Rattle.std.proofs.Common.{◌≡◌, inl, inr, ℕ, zero, suc, ◌+◌, ◌-◌, ◌<◌, ◌≤◌, max, List, [], ◌∷◌, length, slice_index, refl, sym, ap, ◌∙◌, subst, arith}
use Rattle.std.proofs.lemmas.Bool.{cases_lt, cases_eq}
use Rattle.std.proofs.lemmas.List.{ext_get_or}
use Rattle.rr_disk.specs.Disk.{DiskState, IsImage, written, after_write, after_failed_write, after_sync, Torn}
use Rattle.rr_disk.specs.Moments.{EachImage}
use Rattle.rr_disk.proofs.ImageLemmas.{length-written, written_before, written_inside, written_behind, torn_whole, torn_same, each_torn, each_failed, each_synced}
use Rattle.rr_pages.specs.declared.journal.half.Half.{Half}
use Rattle.rr_pages.specs.Journal.Layout.{IsOpen, StandsAt, spelling_behind_gate, spelling}
use Rattle.rr_pages.specs.Journal.Stops.{next_gate, IsReady, MayLeave}
use Rattle.rr_pages.proofs.JournalLemmas.Bytes.{at_same}
use Rattle.rr_pages.proofs.JournalLemmas.Runs.{some_slot}
use Rattle.rr_pages.proofs.JournalLemmas.Spelling.{length_behind}

-- the gate's write behind the body's makes one write of both
pub written_twice : (file : List ℕ) (gate byte : ℕ) (body : List ℕ) → written (written file (gate + 1) body) gate (byte ∷ []) ≡ written file gate (byte ∷ body)
written_twice file gate byte body =
    let first = written file (gate + 1) body in
    let len_first : length first ≡ max (length file) (gate + 1 + length body) = length-written file (gate + 1) body in
    let len : length (written first gate (byte ∷ [])) ≡ max (length first) (gate + 1) = length-written first gate (byte ∷ []) in
    let len_whole : length (written file gate (byte ∷ body)) ≡ max (length file) (gate + suc (length body)) = length-written file gate (byte ∷ body) in
    ext_get_or 0 (written first gate (byte ∷ [])) (written file gate (byte ∷ body)) (omega arith)
    (λ i h. elim (cases_lt i gate) [
      | inl before ↦ written_before first gate (byte ∷ []) i before ∙ (written_before file (gate + 1) body i (omega arith) ∙ sym (written_before file gate (byte ∷ body) i before))
      | inr low ↦ elim (cases_eq i gate) [
        | inl at_gate ↦
            written_inside first gate (byte ∷ []) i low (omega arith) ∙ (at_same (byte ∷ []) (i - gate) 0 (omega arith)
            ∙ sym (written_inside file gate (byte ∷ body) i low (omega arith) ∙ at_same (byte ∷ body) (i - gate) 0 (omega arith)))
        | inr apart ↦ elim (cases_lt i (gate + 1 + length body)) [
          | inl high ↦
              written_behind first gate (byte ∷ []) i (omega arith) ∙ (written_inside file (gate + 1) body i (omega arith) high
              ∙ sym (written_inside file gate (byte ∷ body) i low (omega arith) ∙ at_same (byte ∷ body) (i - gate) (suc (i - (gate + 1))) (omega arith)))
          | inr behind ↦
              written_behind first gate (byte ∷ []) i (omega arith) ∙ (written_behind file (gate + 1) body i behind
              ∙ sym (written_behind file gate (byte ∷ body) i (omega arith)))
        ]
      ]
    ])

-- the content after a write of some bytes
pub content_written : (state : DiskState) (at : ℕ) (bytes : List ℕ) → 0 < length bytes → (after_write state at bytes).content ≡ written state.content at bytes
content_written state at [] some = absurd (omega arith)
content_written state at (byte ∷ bytes) some = refl

-- a tear within the range of an earlier one
torn_again : (at n a m : ℕ) (old mid new : List ℕ) → at ≤ a → a + m ≤ at + n → Torn at n old mid → Torn a m mid new → Torn at n old new
torn_again at n a m old mid new low high first then =
    record {
      no_shorter = omega (arith, first.no_shorter, then.no_shorter);
      no_longer = omega (arith, first.no_longer, then.no_longer);
      same = λ i h apart.
          then.same i (omega (arith, first.no_shorter)) (elim apart [ inl before ↦ inl (omega arith) | inr behind ↦ inr (omega arith) ])
          ∙ first.same i h apart;
    }

module _ (half : Half) (before : DiskState) (number : ℕ) (bytes : List ℕ) (ready : IsReady half before) where
  abbrev pub body : List ℕ
  body = spelling_behind_gate number bytes

  abbrev pub gate : ℕ
  gate = next_gate half

  some_body : 0 < length body
  some_body = omega (arith, length_behind number bytes, some_slot (length bytes))

  -- before the record's own gate is written, its slot is shut
  pub record Shut (image : List ℕ) : Type 0 where
    pub earlier : List ℕ
    pub was : IsImage before earlier
    pub elsewhere : Torn gate (suc (length body)) earlier image
    pub shut : IsOpen image half.index half.next_slot → ⊥

  pub at_first : EachImage before Shut
  at_first image is = record { earlier = image; was = is; elsewhere = torn_same gate (suc (length body)) image; shut = ready.shut image is }

  shut_torn : (old new : List ℕ) → Shut old → Torn (gate + 1) (length body) old new → Shut new
  shut_torn old new had torn =
      let there : gate < length old = omega (arith, ready.within, had.was.no_shorter, had.elsewhere.no_shorter) in
      record {
        earlier = had.earlier;
        was = had.was;
        elsewhere = torn_again gate (suc (length body)) (gate + 1) (length body) had.earlier old new (omega arith) (omega arith) had.elsewhere torn;
        shut = λ open_gate. had.shut (sym (torn.same gate there (inl (omega arith))) ∙ open_gate);
      }

  pub shut_may : (image : List ℕ) → Shut image → MayLeave half before number bytes image
  shut_may image had = record { earlier = had.earlier; was = had.was; elsewhere = had.elsewhere; whole = inl had.shut }

  -- from then on the body stands behind it
  pub record Staged (image : List ℕ) : Type 0 where
    pub earlier : List ℕ
    pub was : IsImage before earlier
    pub elsewhere : Torn gate (suc (length body)) earlier image
    pub long : gate + 1 + length body ≤ length image
    pub stands : StandsAt image (gate + 1) body

  staged_torn : (old new : List ℕ) → Staged old → Torn gate 1 old new → Staged new
  staged_torn old new had torn =
      record {
        earlier = had.earlier;
        was = had.was;
        elsewhere = torn_again gate (suc (length body)) gate 1 had.earlier old new (omega arith) (omega arith) had.elsewhere torn;
        long = omega (arith, had.long, torn.no_shorter);
        stands = λ i h. torn.same (gate + 1 + i) (omega (arith, had.long)) (inr (omega arith)) ∙ had.stands i h;
      }

  whole_record : (image : List ℕ) → slice_index image gate ≡ 165 → StandsAt image (gate + 1) body → StandsAt image gate (spelling number bytes)
  whole_record image open_gate stands zero h = at_same image (gate + 0) gate (omega arith) ∙ open_gate
  whole_record image open_gate stands (suc i) h = at_same image (gate + suc i) (gate + 1 + i) (omega arith) ∙ stands i (omega arith)

  staged_may : (image : List ℕ) → Staged image → MayLeave half before number bytes image
  staged_may image had =
      record {
        earlier = had.earlier;
        was = had.was;
        elsewhere = had.elsewhere;
        whole = elim (cases_eq (slice_index image gate) 165) [
          | inl open_gate ↦ inr (whole_record image open_gate had.stands)
          | inr shut ↦ inl shut
        ];
      }

  -- after the first write, and where it failed
  pub first : EachImage (after_write before (gate + 1) body) (MayLeave half before number bytes)
  first image is = shut_may image (each_torn before (gate + 1) body Shut at_first shut_torn image is)

  pub first_failed : (upto : ℕ) (front : List ℕ) → upto ≤ length body → EachImage (after_failed_write before (gate + 1) upto front) (MayLeave half before number bytes)
  first_failed upto front no_more image is = shut_may image (each_failed before (gate + 1) (length body) Shut at_first shut_torn upto front no_more image is)

  module _ (stays : IsImage before before.content) where
    abbrev pub middle : DiskState
    middle = after_sync (after_write before (gate + 1) body)

    staged : Staged middle.content
    staged =
        let is = content_written before (gate + 1) body some_body in
        let had = shut_torn before.content (written before.content (gate + 1) body) (at_first before.content stays) (torn_whole before.content (gate + 1) body) in
        let here : Staged (written before.content (gate + 1) body) = record {
          earlier = had.earlier;
          was = had.was;
          elsewhere = had.elsewhere;
          long = omega (arith, length-written before.content (gate + 1) body);
          stands = λ i h. written_inside before.content (gate + 1) body (gate + 1 + i) (omega arith) (omega arith) ∙ at_same body (gate + 1 + i - (gate + 1)) i (omega arith);
        } in
        subst Staged (sym is) here

    each_staged : EachImage middle Staged
    each_staged = each_synced (after_write before (gate + 1) body) Staged staged

    pub middle_may : EachImage middle (MayLeave half before number bytes)
    middle_may image is = staged_may image (each_staged image is)

    -- after the second, and where it failed
    pub second : EachImage (after_write middle gate (165 ∷ [])) (MayLeave half before number bytes)
    second image is = staged_may image (each_torn middle gate (165 ∷ []) Staged each_staged staged_torn image is)

    pub second_failed : (upto : ℕ) (front : List ℕ) → upto ≤ 1 → EachImage (after_failed_write middle gate upto front) (MayLeave half before number bytes)
    second_failed upto front no_more image is = staged_may image (each_failed middle gate 1 Staged each_staged staged_torn upto front no_more image is)

    pub last : EachImage (after_sync (after_write middle gate (165 ∷ []))) (MayLeave half before number bytes)
    last =
        each_synced (after_write middle gate (165 ∷ [])) (MayLeave half before number bytes)
        (staged_may (written middle.content gate (165 ∷ [])) (staged_torn middle.content (written middle.content gate (165 ∷ [])) staged (torn_whole middle.content gate (165 ∷ []))))

-- the state in the end is that after one write of the whole record, and a sync
pub whole_written : (before : DiskState) (half : Half) (number : ℕ) (bytes : List ℕ)
    → after_sync (after_write (after_sync (after_write before (next_gate half + 1) (spelling_behind_gate number bytes))) (next_gate half) (165 ∷ [])) ≡ after_sync (after_write before (next_gate half) (spelling number bytes))
whole_written before half number bytes =
    let body = spelling_behind_gate number bytes in
    let some : 0 < length body = omega (arith, length_behind number bytes, some_slot (length bytes)) in
    let same : written (after_write before (next_gate half + 1) body).content (next_gate half) (165 ∷ []) ≡ written before.content (next_gate half) (165 ∷ body) =
    ap (λ (file : List ℕ). written file (next_gate half) (165 ∷ [])) (content_written before (next_gate half + 1) body some) ∙ written_twice before.content (next_gate half) 165 body in
    λ i. record { content = same i; settled = same i; ranges = [] }
