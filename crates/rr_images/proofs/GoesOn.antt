-- Where records go on after each step.
use Rattle.std.proofs.Common.{◌≡◌, ◌⊎◌, inl, inr, ℕ, ◌+◌, Bool, not, List, [], ◌∷◌, ◌++◌, length, refl, sym, ◌∙◌, ap, arith, length-append}
use Rattle.rr_pages.specs.declared.journal.half.Half.{Half}
use Rattle.rr_pages.specs.Journal.Layout.{slots_for, other_half}
use Rattle.rr_pages.specs.Journal.Run.{slots_of}
use Rattle.rr_pages.proofs.JournalLemmas.Runs.{slots_of-append}
use Rattle.rr_images.specs.Codec.{Codec}
use Rattle.rr_pages.specs.declared.root.Root.{Root}
use Rattle.rr_pages.specs.Roots.{Stale}
use Rattle.rr_images.specs.Holding.{Holding}
use Rattle.rr_images.specs.Layout.{Layout, FarHalf, Unused, Old, Begun, far_lines, opened_far}
use Rattle.rr_images.specs.Steps.{with_stale, with_far, with_line, with_line_at, flipped, behind_flip, ComesNext, half_at, lines_at, first_at, GoesOnAt, read_half, read_lines}
use Rattle.rr_pages.specs.declared.journal.layout.HalfIndex.{HalfIndex}

module _ (codec : Codec) (layout : Layout codec) (half : Half) (number : ℕ) (goes_on : GoesOnAt layout half number) where
  pub goes_stale : (stale : Stale) → GoesOnAt (with_stale layout stale) half number
  goes_stale stale = record { index = goes_on.index; slot = goes_on.slot; numbered = goes_on.numbered }

  module _ (line : List ℕ) (after : codec.World) where
    half_after : (far : FarHalf) → layout.far ≡ far → half_at layout.root.half (with_line_at layout far line after).far ≡ half_at layout.root.half layout.far
    half_after Unused is = refl
    half_after Old is = refl
    half_after (Begun lines) is = sym (ap (λ (far : FarHalf). half_at layout.root.half far) is)

    lines_after : (far : FarHalf) → layout.far ≡ far → lines_at (with_line_at layout far line after).near (with_line_at layout far line after).far ≡ lines_at layout.near layout.far ++ line ∷ []
    lines_after Unused is = ap (λ (far : FarHalf). lines_at (layout.near ++ line ∷ []) far) is ∙ sym (ap (λ (far : FarHalf). lines_at layout.near far ++ line ∷ []) is)
    lines_after Old is = ap (λ (far : FarHalf). lines_at (layout.near ++ line ∷ []) far) is ∙ sym (ap (λ (far : FarHalf). lines_at layout.near far ++ line ∷ []) is)
    lines_after (Begun lines) is = sym (ap (λ (far : FarHalf). lines_at layout.near far ++ line ∷ []) is)

    first_after : (far : FarHalf) → layout.far ≡ far → first_at layout.root.first (with_line_at layout far line after).near (with_line_at layout far line after).far ≡ first_at layout.root.first layout.near layout.far
    first_after Unused is = ap (λ (far : FarHalf). first_at layout.root.first (layout.near ++ line ∷ []) far) is ∙ sym (ap (λ (far : FarHalf). first_at layout.root.first layout.near far) is)
    first_after Old is = ap (λ (far : FarHalf). first_at layout.root.first (layout.near ++ line ∷ []) far) is ∙ sym (ap (λ (far : FarHalf). first_at layout.root.first layout.near far) is)
    first_after (Begun lines) is = sym (ap (λ (far : FarHalf). first_at layout.root.first layout.near far) is)

    same_root : (far : FarHalf) → (with_line_at layout far line after).root ≡ layout.root
    same_root Unused = refl
    same_root Old = refl
    same_root (Begun lines) = refl

    goes_line_at : (far : FarHalf) → layout.far ≡ far → GoesOnAt (with_line_at layout far line after) (record { index = half.index; next_slot = half.next_slot + slots_for (length line) }) (number + 1)
    goes_line_at far is =
        let lines = lines_after far is in
        record {
          index = goes_on.index ∙ (sym (half_after far is) ∙ ap (λ (r : Root). half_at r.half (with_line_at layout far line after).far) (sym (same_root far)));
          slot = omega (arith, goes_on.slot, ap slots_of lines, slots_of-append (lines_at layout.near layout.far) (line ∷ []));
          numbered = omega (arith, goes_on.numbered, first_after far is, ap (λ (r : Root). first_at r.first (with_line_at layout far line after).near (with_line_at layout far line after).far) (same_root far), ap (λ (ls : List (List ℕ)). length ls) lines, length-append (lines_at layout.near layout.far) (line ∷ []));
        }

    pub goes_line : GoesOnAt (with_line layout line after) (record { index = half.index; next_slot = half.next_slot + slots_for (length line) }) (number + 1)
    goes_line = goes_line_at layout.far refl

  -- the other half's slot 0 after the first step
  pub goes_begun : layout.far ≡ Unused ⊎ layout.far ≡ Old → GoesOnAt (with_far layout (Begun [])) (record { index = other_half layout.root.half; next_slot = 0 }) number
  goes_begun (inl is) =
      record { index = refl; slot = refl; numbered = omega (arith, goes_on.numbered, ap (λ (far : FarHalf). first_at layout.root.first layout.near far + length (lines_at layout.near far)) is) }
  goes_begun (inr is) =
      record { index = refl; slot = refl; numbered = omega (arith, goes_on.numbered, ap (λ (far : FarHalf). first_at layout.root.first layout.near far + length (lines_at layout.near far)) is) }

  -- the flip leaves the place as it is
  at_flip : (near : List (List ℕ)) (half : HalfIndex) → half_at half (behind_flip near) ≡ half
  at_flip [] half = refl
  at_flip (line ∷ near) half = refl

  lines_flip : (near lines : List (List ℕ)) → lines_at lines (behind_flip near) ≡ lines
  lines_flip [] lines = refl
  lines_flip (line ∷ near) lines = refl

  first_flip : (near lines : List (List ℕ)) (first : ℕ) → first_at first lines (behind_flip near) ≡ first
  first_flip [] lines first = refl
  first_flip (line ∷ near) lines first = refl

  pub goes_flip : (root : Root) (holding : Holding) (lines : List (List ℕ)) (world : codec.World) → layout.far ≡ Begun lines → ComesNext layout root → GoesOnAt (flipped layout root holding lines world) half number
  goes_flip root holding lines world is next =
      record {
        index = goes_on.index ∙ (ap (λ (far : FarHalf). half_at layout.root.half far) is ∙ (sym next.half ∙ sym (at_flip layout.near root.half)));
        slot = goes_on.slot ∙ ap slots_of (ap (λ (far : FarHalf). lines_at layout.near far) is ∙ sym (lines_flip layout.near lines));
        numbered = omega (arith, goes_on.numbered, ap (λ (far : FarHalf). first_at layout.root.first layout.near far + length (lines_at layout.near far)) is, next.first, first_flip layout.near lines root.first, ap (λ (ls : List (List ℕ)). length ls) (lines_flip layout.near lines));
      }

-- where an opening goes on
at_read_half : (half : HalfIndex) (far : FarHalf) → half_at half (opened_far far) ≡ read_half half (far_lines far)
at_read_half half Unused = refl
at_read_half half Old = refl
at_read_half half (Begun []) = refl
at_read_half half (Begun (line ∷ lines)) = refl

at_read_lines : (near : List (List ℕ)) (far : FarHalf) → lines_at near (opened_far far) ≡ read_lines near (far_lines far)
at_read_lines near Unused = refl
at_read_lines near Old = refl
at_read_lines near (Begun []) = refl
at_read_lines near (Begun (line ∷ lines)) = refl

at_read_number : (first : ℕ) (near : List (List ℕ)) (far : FarHalf) → first_at first near (opened_far far) + length (lines_at near (opened_far far)) ≡ first + length near + length (far_lines far)
at_read_number first near Unused = omega arith
at_read_number first near Old = omega arith
at_read_number first near (Begun []) = omega arith
at_read_number first near (Begun (line ∷ lines)) = omega arith

pub goes_opened : (codec : Codec) (layout : Layout codec) (half : Half) (number : ℕ) → half.index ≡ read_half layout.root.half (far_lines layout.far) → half.next_slot ≡ slots_of (read_lines layout.near (far_lines layout.far))
    → number ≡ layout.root.first + length layout.near + length (far_lines layout.far) → GoesOnAt (with_far layout (opened_far layout.far)) half number
goes_opened codec layout half number index slot numbered =
    record {
      index = index ∙ sym (at_read_half layout.root.half layout.far);
      slot = slot ∙ ap slots_of (sym (at_read_lines layout.near layout.far));
      numbered = numbered ∙ sym (at_read_number layout.root.first layout.near layout.far);
    }
