use Rattle.std.proofs.Common.{◌≡◌, ℕ, ◌+◌, ◌-◌, ◌<◌, ◌≤◌, Bool, true, false, cond, eqb, List, length, get_or, map, refl, sym, ap, ◌∙◌, arith, w64}
use Rattle.std.proofs.lemmas.Bool.{eqb-true}
use Rattle.std.proofs.lemmas.List.{get_or-map}
use Rattle.std.proofs.lemmas.Nat.Bits.{bit_at_ones}
use Rattle.std.proofs.lemmas.Simd.{length-chunk, get_or-chunk, bitmask_splat, bit_mask_l}
use Rattle.std.specs.Int.{bit_at}
use lib.Lanes.{chunk, mask_l}
use Rattle.rr_pages.proofs.page_set.lanes.are_full.Goals as goal

abbrev is_full : ℕ → Bool
is_full word = eqb word 18446744073709551615

abbrev one_if : Bool → ℕ
one_if b = cond b 1 0

set_lane : (b : Bool) → one_if b ≡ 1 → b ≡ true
set_lane true h = refl
set_lane false h = absurd (omega arith)

-- a mask of eight ones: each of the eight words is full
each_full : (words : List ℕ) (at : ℕ) → at + 8 ≤ length words → mask_l (map is_full (chunk at 8 words)) ≡ 255 → (j : ℕ) → at ≤ j → j < at + 8 → get_or words j 0 ≡ 18446744073709551615
each_full words at room mask j from to =
    let i : ℕ = j - at in
    let back : at + i ≡ j = omega arith in
    let lane : get_or (map is_full (chunk at 8 words)) i false ≡ true =
    set_lane _ (sym (bit_mask_l (map is_full (chunk at 8 words)) i) ∙ ap (λ n. bit_at n i) mask ∙ bit_at_ones 8 i (omega arith)) in
    let word = get_or-map is_full (chunk at 8 words) i 0 false (omega (arith, length-chunk at 8 words room)) in
    sym (get_or-chunk at 8 words i 0 (omega arith) ∙ ap (λ k. get_or words k 0) back) ∙ eqb-true _ _ (sym word ∙ lane)

pub returns : goal.returns
returns c = λ all.
    each_full c.args.words.now c.args.at c.requires
    (sym (bitmask_splat w64 eqb (chunk c.args.at 8 c.args.words.now) 8 18446744073709551615 (length-chunk c.args.at 8 c.args.words.now c.requires) (omega arith)) ∙ eqb-true _ _ all)
