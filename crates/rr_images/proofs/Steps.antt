-- What each step of a checkpoint leaves, by the bytes.
use Rattle.std.proofs.Common.{◌≡◌, ◌⊎◌, inl, inr, ℕ, ◌+◌, ◌*◌, ◌<◌, ◌≤◌, Bool, true, false, not, List, [], ◌∷◌, slice_index, length, refl, sym, ◌∙◌, ap, subst, arith}
use Rattle.std.proofs.lemmas.Bool.{cases_eq, cases_lt}
use Rattle.rr_disk.specs.Disk.{Torn}
use Rattle.rr_pages.specs.declared.journal.layout.HalfIndex.{HalfIndex}
use Rattle.rr_pages.specs.declared.journal.reading.RunEnd.TheVariants.{Closed}
use Rattle.rr_pages.specs.Journal.Layout.{gate_place, number_at, IsOpen, other_half}
use Rattle.rr_pages.specs.Journal.Run.{Run}
use Rattle.rr_pages.proofs.JournalLemmas.Bytes.{big_from-same}
use Rattle.rr_pages.proofs.JournalLemmas.Runs.{run_same}
use Rattle.rr_images.specs.Codec.{Codec, Replays}
use Rattle.rr_pages.specs.declared.root.Root.{Root}
use Rattle.rr_pages.specs.Roots.{Stale, Shut, Older, root_page, root_gate, IsRootOpen, IsStale, IsTaken}
use Rattle.rr_pages.specs.Pages.{IsIn}
use Rattle.rr_images.specs.Holding.{Holding, reached_of}
use Rattle.rr_images.specs.Layout.{Layout, FarHalf, Unused, Old, Begun, KeepsFar, KeepsAt, far_lines}
use Rattle.rr_images.specs.Steps.{with_stale, with_far, with_near, flipped, behind_flip, ComesNext, IsPrepared}
use Rattle.rr_images.specs.Framing.{Same, SamePages}
use Rattle.rr_images.proofs.Places.{root_low, roots_apart, half_low, half_high, halves_apart, other_other}
use Rattle.rr_images.proofs.Framing.{keeps_same, stale_same, fields_same, sound_longer, spelled_same, far_same, reached_in}

-- what a tear leaves of a file that is long enough
pub torn_same : (at n : ℕ) (a b : List ℕ) (low high : ℕ) → Torn at n a b → high ≤ length a → (high ≤ at) ⊎ (at + n ≤ low) → Same a b low high
torn_same at n a b low high torn there apart i above below =
    torn.same i (omega arith) (elim apart [ inl before ↦ inl (omega arith) | inr behind ↦ inr (omega arith) ])

pub not_not : (x : Bool) → not (not x) ≡ x
not_not false = refl
not_not true = refl

-- behind the flip the old half's slot 0 is shut, or has an older record
pub old_behind : (file : List ℕ) (half : HalfIndex) (first number : ℕ) (near : List (List ℕ)) → first + length near ≤ number → Run file half 0 first near Closed → KeepsFar file half number (behind_flip near)
old_behind file half first number [] later run = run
old_behind file half first number (line ∷ near) later run = (run.0.open_gate, omega (arith, run.0.numbered, later))

pub nothing_behind : (codec : Codec) (world : codec.World) (near : List (List ℕ)) → Replays codec world (far_lines (behind_flip near)) world
nothing_behind codec world [] = refl
nothing_behind codec world (line ∷ near) = refl

module _ (codec : Codec) (layout : Layout codec) (world : codec.World) (a b : List ℕ) (keeps : KeepsAt codec layout a world) where
  -- the file has all pages that the root counts, one data page at least
  pub long : 4096 * 515 ≤ length a
  long = omega (arith, keeps.taken.sound.within, keeps.taken.sound.pages_low)

  pub reached_there : (p : ℕ) → IsIn p (reached_of layout.holding) → (514 ≤ p) × (4096 * p + 4096 ≤ length a)
  reached_there p inside =
      let there = reached_in layout.root.pages p (reached_of layout.holding) keeps.spelled.in_data inside in
      (there.0, omega (arith, there.1, keeps.taken.sound.within))

  -- a tear below the data pages leaves those that are reached
  pub pages_above : (at n : ℕ) → Torn at n a b → at + n ≤ 4096 * 514 → SamePages a b (reached_of layout.holding)
  pages_above at n torn below p inside = torn_same at n a b (4096 * p) (4096 * p + 4096) torn (reached_there p inside).1 (inr (omega (arith, (reached_there p inside).0)))

  -- a tear between the roots and the data pages leaves the root that is taken
  pub taken_beside : (at n : ℕ) → Torn at n a b → 8192 ≤ at → IsTaken b layout.side layout.root layout.stale
  taken_beside at n torn low =
      let side = root_low layout.side in
      let other = root_low (not layout.side) in
      let same = torn_same at n a b (root_gate layout.side) (root_gate layout.side + 36) torn (omega (arith, long)) (inl (omega arith)) in
      record {
        open_gate = same (root_gate layout.side) (omega arith) (omega arith) ∙ keeps.taken.open_gate;
        fields = fields_same a b layout.side layout.root (λ i low high. same i (omega arith) (omega arith)) keeps.taken.fields;
        sound = sound_longer a b layout.root torn.no_shorter keeps.taken.sound;
        other = stale_same a b (not layout.side) layout.root.number layout.stale torn.no_shorter (torn_same at n a b (root_gate (not layout.side)) (root_gate (not layout.side) + 36) torn (omega (arith, long)) (inl (omega arith))) keeps.taken.other;
      }

  -- a page that isn't reached
  pub fresh_page : (page n : ℕ) → Torn (4096 * page) n a b → n ≤ 4096 → 514 ≤ page → (IsIn page (reached_of layout.holding) → ⊥) → KeepsAt codec layout b world
  fresh_page page n torn short above apart =
      let near_high = half_high layout.root.half in
      let far_high = half_high (other_half layout.root.half) in
      let side = root_low layout.side in
      let other = root_low (not layout.side) in
      keeps_same codec layout layout.stale world a b torn.no_shorter
      (torn_same (4096 * page) n a b (root_gate layout.side) (root_gate layout.side + 36) torn (omega (arith, long)) (inl (omega arith)))
      (stale_same a b (not layout.side) layout.root.number layout.stale torn.no_shorter (torn_same (4096 * page) n a b (root_gate (not layout.side)) (root_gate (not layout.side) + 36) torn (omega (arith, long)) (inl (omega arith))) keeps.taken.other)
      (torn_same (4096 * page) n a b (gate_place layout.root.half 0) (gate_place layout.root.half 256) torn (omega (arith, long)) (inl (omega arith)))
      (torn_same (4096 * page) n a b (gate_place (other_half layout.root.half) 0) (gate_place (other_half layout.root.half) 256) torn (omega (arith, long)) (inl (omega arith)))
      (λ p inside. torn_same (4096 * page) n a b (4096 * p) (4096 * p + 4096) torn (reached_there p inside).1 (elim (cases_lt p page) [
        | inl less ↦ inl (omega arith)
        | inr not_less ↦ elim (cases_eq p page) [
          | inl is ↦ absurd (apart (subst (λ (q : ℕ). IsIn q (reached_of layout.holding)) is inside))
          | inr differs ↦ inr (omega arith)
        ]
      ]))
      keeps

  -- a tear within the page of the root that isn't taken leaves all else
  module _ (at n : ℕ) (torn : Torn at n a b) (low : root_gate (not layout.side) ≤ at) (high : at + n ≤ root_gate (not layout.side) + 4096) where
    pub beside : (stale : Stale) → IsStale b (not layout.side) layout.root.number stale → KeepsAt codec (with_stale layout stale) b world
    beside stale other =
        let near_low = half_low layout.root.half in
        let far_low = half_low (other_half layout.root.half) in
        let near_high = half_high layout.root.half in
        let far_high = half_high (other_half layout.root.half) in
        let sides = roots_apart layout.side in
        keeps_same codec layout stale world a b torn.no_shorter
        (torn_same at n a b (root_gate layout.side) (root_gate layout.side + 36) torn (omega (arith, long)) (elim (cases_lt (root_page layout.side) (root_page (not layout.side))) [ inl less ↦ inl (omega arith) | inr more ↦ inr (omega arith) ]))
        other
        (torn_same at n a b (gate_place layout.root.half 0) (gate_place layout.root.half 256) torn (omega (arith, long)) (inr (omega arith)))
        (torn_same at n a b (gate_place (other_half layout.root.half) 0) (gate_place (other_half layout.root.half) 256) torn (omega (arith, long)) (inr (omega arith)))
        (pages_above at n torn (omega arith))
        keeps

  -- the stale root's gate is closed: it is an older root still, or shut
  abbrev pub stale_gate : ℕ
  stale_gate = root_gate (not layout.side)

  pub shut_now : (n : ℕ) → Torn stale_gate n a b → n ≤ 1 → (IsRootOpen b (not layout.side) → ⊥) → KeepsAt codec (with_stale layout Shut) b world
  shut_now n torn one shut = beside stale_gate n torn (omega arith) (omega arith) Shut shut

  pub stale_gate_torn : (n : ℕ) (older : Root) → layout.stale ≡ Older older → Torn stale_gate n a b → n ≤ 1 → KeepsAt codec layout b world ⊎ KeepsAt codec (with_stale layout Shut) b world
  stale_gate_torn n older is torn one =
      let was : IsStale a (not layout.side) layout.root.number (Older older) = subst (λ (s : Stale). IsStale a (not layout.side) layout.root.number s) is keeps.taken.other in
      let side = root_low (not layout.side) in
      elim (cases_eq (slice_index b stale_gate) 0xa5) [
        | inl open_gate ↦ inl (beside stale_gate n torn (omega arith) (omega arith) layout.stale (subst (λ (s : Stale). IsStale b (not layout.side) layout.root.number s) (sym is)
            (open_gate, fields_same a b (not layout.side) older (torn_same stale_gate n a b (stale_gate + 1) (stale_gate + 36) torn (omega (arith, long)) (inr (omega arith))) was.1, sound_longer a b older torn.no_shorter was.2, was.3)))
        | inr shut ↦ inr (shut_now n torn one shut)
      ]

  -- the stale root is filled behind its shut gate
  pub filled : (at n : ℕ) → layout.stale ≡ Shut → Torn at n a b → stale_gate < at → at + n ≤ stale_gate + 4096 → KeepsAt codec layout b world
  filled at n is torn low high =
      let side = root_low (not layout.side) in
      let was : IsRootOpen a (not layout.side) → ⊥ = subst (λ (s : Stale). IsStale a (not layout.side) layout.root.number s) is keeps.taken.other in
      beside at n torn (omega arith) high layout.stale (subst (λ (s : Stale). IsStale b (not layout.side) layout.root.number s) (sym is)
      (λ open_gate. was (sym (torn.same stale_gate (omega (arith, long)) (inl low)) ∙ open_gate)))

  -- its gate is opened: nothing, or the new root is taken
  module _ (root : Root) (holding : Holding) (lines : List (List ℕ)) (prepared : IsPrepared codec layout root holding a) (next : ComesNext layout root) (shut : layout.stale ≡ Shut) (begun : layout.far ≡ Begun lines) (n : ℕ) (torn : Torn stale_gate n a b) (one : n ≤ 1) where
    side_there : stale_gate + 4096 ≤ 8192
    side_there = omega (arith, root_low (not layout.side))

    flipped_taken : IsRootOpen b (not layout.side) → IsTaken b (not layout.side) root (Older layout.root)
    flipped_taken open_gate =
        let sides = roots_apart layout.side in
        let low = root_low layout.side in
        let high = side_there in
        let same = torn_same stale_gate n a b (root_gate layout.side) (root_gate layout.side + 36) torn (omega (arith, long)) (elim (cases_lt (root_page layout.side) (root_page (not layout.side))) [ inl less ↦ inl (omega arith) | inr more ↦ inr (omega arith) ]) in
        let old : IsStale b layout.side root.number (Older layout.root) = (
          same (root_gate layout.side) (omega arith) (omega arith) ∙ keeps.taken.open_gate,
          fields_same a b layout.side layout.root (λ i low high. same i (omega arith) (omega arith)) keeps.taken.fields,
          sound_longer a b layout.root torn.no_shorter keeps.taken.sound,
          next.number,
        ) in
        record {
          open_gate = open_gate;
          fields = fields_same a b (not layout.side) root (torn_same stale_gate n a b (stale_gate + 1) (stale_gate + 36) torn (omega (arith, long)) (inr (omega arith))) prepared.fields;
          sound = sound_longer a b root torn.no_shorter prepared.sound;
          other = subst (λ (s : Bool). IsStale b s root.number (Older layout.root)) (sym (not_not layout.side)) old;
        }

    near_there : Run b (other_half layout.root.half) 0 (layout.root.first + length layout.near) lines Closed
    near_there =
        let low = half_low (other_half layout.root.half) in
        let high = half_high (other_half layout.root.half) in
        let below = side_there in
        run_same a b (other_half layout.root.half) (layout.root.first + length layout.near) lines Closed
        (torn_same stale_gate n a b (gate_place (other_half layout.root.half) 0) (gate_place (other_half layout.root.half) 256) torn (omega (arith, long)) (inr (omega arith)))
        (subst (λ (far : FarHalf). KeepsFar a (other_half layout.root.half) (layout.root.first + length layout.near) far) begun keeps.far_kept)

    old_there : Run b layout.root.half 0 layout.root.first layout.near Closed
    old_there =
        let low = half_low layout.root.half in
        let high = half_high layout.root.half in
        let below = side_there in
        run_same a b layout.root.half layout.root.first layout.near Closed
        (torn_same stale_gate n a b (gate_place layout.root.half 0) (gate_place layout.root.half 256) torn (omega (arith, long)) (inr (omega arith)))
        keeps.near_run

    pub flips : IsRootOpen b (not layout.side) → KeepsAt codec (flipped layout root holding lines world) b world
    flips open_gate =
        let below = side_there in
        record {
          taken = flipped_taken open_gate;
          spelled = spelled_same a b codec root holding layout.middle (λ p inside.
              let there = reached_in root.pages p (reached_of holding) prepared.spelled.in_data inside in
              torn_same stale_gate n a b (4096 * p) (4096 * p + 4096) torn (omega (arith, there.1, prepared.sound.within)) (inr (omega (arith, there.0)))) prepared.spelled;
          near_run = subst (λ (half : HalfIndex). Run b half 0 root.first lines Closed) (sym next.half) (subst (λ (first : ℕ). Run b (other_half layout.root.half) 0 first lines Closed) (sym next.first) near_there);
          near_replayed = subst (λ (far : FarHalf). Replays codec layout.middle (far_lines far) world) begun keeps.far_replayed;
          far_kept = subst (λ (half : HalfIndex). KeepsFar b half (root.first + length lines) (behind_flip layout.near)) (sym (ap other_half next.half ∙ other_other layout.root.half))
              (old_behind b layout.root.half layout.root.first (root.first + length lines) layout.near (omega (arith, next.first)) old_there);
          far_replayed = nothing_behind codec world layout.near;
        }

    pub opened : KeepsAt codec layout b world ⊎ KeepsAt codec (flipped layout root holding lines world) b world
    opened = elim (cases_eq (slice_index b stale_gate) 0xa5) [
      | inl open_gate ↦ inr (flips open_gate)
      | inr closed ↦ inl (let side = side_there in beside stale_gate n torn (omega arith) (omega arith) layout.stale (subst (λ (s : Stale). IsStale b (not layout.side) layout.root.number s) (sym shut) closed))
    ]

  -- a tear within the other half
  module _ (at n : ℕ) (torn : Torn at n a b) (low : gate_place (other_half layout.root.half) 0 ≤ at) (high : at + n ≤ gate_place (other_half layout.root.half) 256) where
    pub far_changed : (far : FarHalf) (after : codec.World) → KeepsFar b (other_half layout.root.half) (layout.root.first + length layout.near) far → Replays codec layout.middle (far_lines far) after → KeepsAt codec (with_far layout far) b after
    far_changed far after kept replayed =
        let side = root_low layout.side in
        let other = root_low (not layout.side) in
        let near_low = half_low layout.root.half in
        let near_high = half_high layout.root.half in
        let far_low = half_low (other_half layout.root.half) in
        let far_high = half_high (other_half layout.root.half) in
        record {
          taken = taken_beside at n torn (omega arith);
          spelled = spelled_same a b codec layout.root layout.holding layout.base (pages_above at n torn (omega arith)) keeps.spelled;
          near_run = run_same a b layout.root.half layout.root.first layout.near Closed
              (torn_same at n a b (gate_place layout.root.half 0) (gate_place layout.root.half 256) torn (omega (arith, long)) (elim (halves_apart layout.root.half) [ inl before ↦ inl (omega arith) | inr behind ↦ inr (omega arith) ]))
              keeps.near_run;
          near_replayed = keeps.near_replayed;
          far_kept = kept;
          far_replayed = replayed;
        }

  -- a tear within the root's half
  module _ (at n : ℕ) (torn : Torn at n a b) (low : gate_place layout.root.half 0 ≤ at) (high : at + n ≤ gate_place layout.root.half 256) where
    pub near_changed : (near : List (List ℕ)) (middle after : codec.World) → Run b layout.root.half 0 layout.root.first near Closed → Replays codec layout.base near middle → length layout.near ≤ length near → (KeepsFar b (other_half layout.root.half) (layout.root.first + length layout.near) layout.far → KeepsFar b (other_half layout.root.half) (layout.root.first + length near) layout.far)
        → Replays codec middle (far_lines layout.far) after → KeepsAt codec (with_near layout near middle) b after
    near_changed near middle after run replayed more later goes_on =
        let side = root_low layout.side in
        let other = root_low (not layout.side) in
        let near_low = half_low layout.root.half in
        let near_high = half_high layout.root.half in
        let far_low = half_low (other_half layout.root.half) in
        let far_high = half_high (other_half layout.root.half) in
        record {
          taken = taken_beside at n torn (omega arith);
          spelled = spelled_same a b codec layout.root layout.holding layout.base (pages_above at n torn (omega arith)) keeps.spelled;
          near_run = run;
          near_replayed = replayed;
          far_kept = later (far_same a b (other_half layout.root.half) (layout.root.first + length layout.near) layout.far
              (torn_same at n a b (gate_place (other_half layout.root.half) 0) (gate_place (other_half layout.root.half) 256) torn (omega (arith, long)) (elim (halves_apart layout.root.half) [ inl before ↦ inr (omega arith) | inr behind ↦ inl (omega arith) ]))
              keeps.far_kept);
          far_replayed = goes_on;
        }

  -- the other half's slot 0 is shut: an older record is in it still, or it is shut
  abbrev pub far_gate : ℕ
  far_gate = gate_place (other_half layout.root.half) 0

  pub far_gate_torn : (n : ℕ) → layout.far ≡ Old → Torn far_gate n a b → n ≤ 1 → KeepsAt codec layout b world ⊎ KeepsAt codec (with_far layout Unused) b world
  unfolding number_at
  far_gate_torn n is torn one =
      let was : KeepsFar a (other_half layout.root.half) (layout.root.first + length layout.near) Old = subst (λ (far : FarHalf). KeepsFar a (other_half layout.root.half) (layout.root.first + length layout.near) far) is keeps.far_kept in
      let none : Replays codec layout.middle [] world = subst (λ (far : FarHalf). Replays codec layout.middle (far_lines far) world) is keeps.far_replayed in
      let far_low = half_low (other_half layout.root.half) in
      let far_high = half_high (other_half layout.root.half) in
      let numbers : number_at b (other_half layout.root.half) 0 ≡ number_at a (other_half layout.root.half) 0 =
      big_from-same (far_gate + 1) (far_gate + 1) 8 b a (λ j h. torn.same (far_gate + 1 + j) (omega (arith, long)) (inr (omega arith))) in
      elim (cases_eq (slice_index b far_gate) 0xa5) [
        | inl open_gate ↦ inl (far_changed far_gate n torn (omega arith) (omega arith) layout.far world
            (subst (λ (far : FarHalf). KeepsFar b (other_half layout.root.half) (layout.root.first + length layout.near) far) (sym is) (open_gate, subst (λ (m : ℕ). m < layout.root.first + length layout.near) (sym numbers) was.1))
            keeps.far_replayed)
        | inr shut ↦ inr (far_changed far_gate n torn (omega arith) (omega arith) Unused world (λ in_part. shut) none)
      ]

  pub far_shut_now : (n : ℕ) → layout.far ≡ Old → Torn far_gate n a b → n ≤ 1 → (IsOpen b (other_half layout.root.half) 0 → ⊥) → KeepsAt codec (with_far layout Unused) b world
  far_shut_now n is torn one shut =
      let far_low = half_low (other_half layout.root.half) in
      let far_high = half_high (other_half layout.root.half) in
      far_changed far_gate n torn (omega arith) (omega arith) Unused world (λ in_part. shut) (subst (λ (far : FarHalf). Replays codec layout.middle (far_lines far) world) is keeps.far_replayed)

  -- from then on records go there, and with none there an opening goes back
  pub begins : layout.far ≡ Unused → KeepsAt codec (with_far layout (Begun [])) a world
  begins is =
      record {
        taken = keeps.taken;
        spelled = keeps.spelled;
        near_run = keeps.near_run;
        near_replayed = keeps.near_replayed;
        far_kept = subst (λ (far : FarHalf). KeepsFar a (other_half layout.root.half) (layout.root.first + length layout.near) far) is keeps.far_kept;
        far_replayed = subst (λ (far : FarHalf). Replays codec layout.middle (far_lines far) world) is keeps.far_replayed;
      }

  pub goes_back : layout.far ≡ Begun [] → KeepsAt codec (with_far layout Unused) a world
  goes_back is =
      record {
        taken = keeps.taken;
        spelled = keeps.spelled;
        near_run = keeps.near_run;
        near_replayed = keeps.near_replayed;
        far_kept = subst (λ (far : FarHalf). KeepsFar a (other_half layout.root.half) (layout.root.first + length layout.near) far) is keeps.far_kept;
        far_replayed = subst (λ (far : FarHalf). Replays codec layout.middle (far_lines far) world) is keeps.far_replayed;
      }
