use Rattle.std.proofs.Common.{◌≡◌, ℕ, ◌+◌, ◌-◌, ◌<◌, ◌≤◌, List, length, get_or, sym, ap, ap₂, ◌∙◌, arith}
use Rattle.std.proofs.lemmas.Simd.{length-chunk, length-zip2, get_or-zip2, get_or-chunk, get_or-put_chunk_below, get_or-put_chunk_at, get_or-put_chunk_above}
use Rattle.std.specs.Int.Bits.{bit_or}
use lib.Lanes.{chunk, zip2, put_chunk}
use Rattle.rr_pages.proofs.page_set.lanes.or_in.Goals as goal

module _ (own others : List ℕ) (at : ℕ) (mine : at + 8 ≤ length own) (theirs : at + 8 ≤ length others) where
  abbrev joined : List ℕ
  joined = zip2 bit_or (chunk at 8 own) (chunk at 8 others)

  long : length joined ≡ 8
  long = length-zip2 bit_or (chunk at 8 own) (chunk at 8 others) (length-chunk at 8 own mine ∙ sym (length-chunk at 8 others theirs)) ∙ length-chunk at 8 own mine

  lane : (i : ℕ) → i < 8 → get_or joined i 0 ≡ bit_or (get_or own (at + i) 0) (get_or others (at + i) 0)
  lane i lt =
      get_or-zip2 bit_or (chunk at 8 own) (chunk at 8 others) i 0 0 0 (omega (arith, length-chunk at 8 own mine)) (omega (arith, length-chunk at 8 others theirs))
      ∙ ap₂ bit_or (get_or-chunk at 8 own i 0 lt) (get_or-chunk at 8 others i 0 lt)

  inside : (j : ℕ) → at ≤ j → j < at + 8 → get_or (put_chunk at own joined) j 0 ≡ bit_or (get_or own j 0) (get_or others j 0)
  inside j from to =
      let back : at + (j - at) ≡ j = omega arith in
      ap (λ k. get_or (put_chunk at own joined) k 0) (sym back)
      ∙ get_or-put_chunk_at at own joined (j - at) 0 (omega (arith, long)) (omega (arith, long))
      ∙ lane (j - at) (omega arith)
      ∙ ap (λ k. bit_or (get_or own k 0) (get_or others k 0)) back

  above : (j : ℕ) → at + 8 ≤ j → get_or (put_chunk at own joined) j 0 ≡ get_or own j 0
  above j from = get_or-put_chunk_above at own joined j 0 (omega (arith, long))

pub returns-clause-below : goal.returns-clause-below
returns-clause-below c j lt = get_or-put_chunk_below c.args.at c.args.into.now (joined c.args.into.now c.args.from.now c.args.at c.requires.into c.requires.from) j 0 lt

pub returns-clause-inside : goal.returns-clause-inside
returns-clause-inside c = inside c.args.into.now c.args.from.now c.args.at c.requires.into c.requires.from

pub returns-clause-above : goal.returns-clause-above
returns-clause-above c = above c.args.into.now c.args.from.now c.args.at c.requires.into c.requires.from
