-- What a stop leaves of a new file before its root's gate is opened: both gates are shut.
use Rattle.std.proofs.Common.{◌≡◌, ◌⊎◌, inl, inr, ℕ, ◌+◌, ◌*◌, ◌≤◌, List, length, slice_index, sym, ◌∙◌, arith}
use Rattle.std.proofs.lemmas.Bool.{cases_lt}
use Rattle.rr_disk.specs.Disk.{Torn}
use Rattle.rr_images.proofs.Framing.{field_same}
use Rattle.rr_images.proofs.Places.{root_low}
use Rattle.rr_pages.specs.Choosing.{IsNoStore, Too_short, Both_shut, Another_version}
use Rattle.rr_pages.proofs.Versions.{known_same}
use Rattle.rr_pages.specs.Roots.{root_gate, root_page}

pub record AreGatesShut (file : List ℕ) : Type 0 where
  pub long : 4097 ≤ length file
  pub first : slice_index file 0 ≡ 0
  pub second : slice_index file 4096 ≡ 0

pub shut_is_none : (file : List ℕ) → AreGatesShut file → IsNoStore file
shut_is_none file shut =
    Both_shut (λ open_gate. absurd (omega (arith, shut.first, open_gate))) (λ open_gate. absurd (omega (arith, shut.second, open_gate)))

-- a tear between the gates, or behind them, leaves them shut
pub shut_torn : (at n : ℕ) (old new : List ℕ) → ((1 ≤ at) × (at + n ≤ 4096)) ⊎ (4097 ≤ at) → AreGatesShut old → Torn at n old new → AreGatesShut new
shut_torn at n old new (inl between) shut torn =
    record {
      long = omega (arith, shut.long, torn.no_shorter);
      first = torn.same 0 (omega (arith, shut.long)) (inl (omega (arith, between.0))) ∙ shut.first;
      second = torn.same 4096 (omega (arith, shut.long)) (inr between.1) ∙ shut.second;
    }
shut_torn at n old new (inr behind) shut torn =
    record {
      long = omega (arith, shut.long, torn.no_shorter);
      first = torn.same 0 (omega (arith, shut.long)) (inl (omega (arith, behind))) ∙ shut.first;
      second = torn.same 4096 (omega (arith, shut.long)) (inl (omega (arith, behind))) ∙ shut.second;
    }

-- A file that is no store stays none where it is torn up to the first data page: it is too short, or has the roots that
-- it had.
pub none_torn : (at n : ℕ) (old new : List ℕ) → at + n ≡ 4096 * 514 → 8192 ≤ at → IsNoStore old → Torn at n old new → IsNoStore new
none_torn at n old new ends behind none torn = elim (cases_lt (length new) (4096 * 515)) [
  | inl short ↦ Too_short short
  | inr long ↦ elim none [
    | Too_short short ↦ absurd (omega (arith, short, long, torn.no_longer, ends))
    | Both_shut first second ↦
        Both_shut (λ open_gate. first (sym (torn.same 0 (omega (arith, long, torn.no_longer, ends)) (inl (omega (arith, behind)))) ∙ open_gate))
        (λ open_gate. second (sym (torn.same 4096 (omega (arith, long, torn.no_longer, ends)) (inl (omega (arith, behind)))) ∙ open_gate))
    | Another_version side open_gate other ↦
        let low : root_page side ≤ 1 = root_low side in
        Another_version side
        (torn.same (root_gate side) (omega (arith, long, torn.no_longer, ends, low)) (inl (omega (arith, behind, low))) ∙ open_gate)
        (λ is. other (known_same _ _ (field_same old new side 34 2 (omega arith) (omega arith)
        (λ i above below. torn.same i (omega (arith, long, torn.no_longer, ends, low, below)) (inl (omega (arith, behind, low, below))))) is))
  ]
]
