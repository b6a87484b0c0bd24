-- How the ranks of the corporations stand after one of their tokens moved.
use Rattle.std.proofs.Common.{◌≡◌, ◌≢◌, ℕ, ◌<◌, true, false, eqb, ltb, List, length, get_or, map, set, sym, ◌∙◌, ap, inl, inr, arith}
use Rattle.std.proofs.lemmas.Bool.{cases_eq, eqb-false}
use Rattle.std.proofs.lemmas.Bool.Decides.{nat_tests}
use Rattle.std.proofs.lemmas.List.{ext_get_or, get_or-map, get_or-set_same, get_or-set_other, length-map, length-set}
use Rattle.rr_roster.specs.declared.company.Corp.{Corp}
use Rattle.rr_roster.specs.declared.company.Corp.TheVariants as C
use Rattle.rr_roster.specs.Company.{corp_index}
use Rattle.rr_market.specs.Arrivals.{AreRanks, lowered, ranks_after}

pub corp_index-lt : (c : Corp) → corp_index c < 8
corp_index-lt C.Prr = omega arith
corp_index-lt C.Nyc = omega arith
corp_index-lt C.Cpr = omega arith
corp_index-lt C.Bo = omega arith
corp_index-lt C.Co = omega arith
corp_index-lt C.Erie = omega arith
corp_index-lt C.Nynh = omega arith
corp_index-lt C.Bm = omega arith

lowered-below : (b x : ℕ) → b < 8 → x < 8 → x ≢ b → lowered b x < 7
lowered-below b x hb hx ne = grind (arith, nat_tests)

lowered-different : (b x y : ℕ) → x ≢ b → y ≢ b → x ≢ y → lowered b x ≢ lowered b y
lowered-different b x y hx hy ne = grind (arith, nat_tests)

lowered-order : (b x y : ℕ) → x ≢ b → y ≢ b → ltb (lowered b x) (lowered b y) ≡ ltb x y
lowered-order b x y hx hy = grind (arith, nat_tests)

-- the new ranks, at each index
pub record AreNoted (old new : List ℕ) (moved : ℕ) : Type 0 where
  pub eight : length new ≡ 8
  pub here : get_or new moved 0 ≡ 7
  pub others : (k : ℕ) → k < 8 → k ≢ moved → get_or new k 0 ≡ lowered (get_or old moved 0) (get_or old k 0)

-- eight numbers, each of them lowered
all_lowered : (old items : List ℕ) (before : ℕ) → length items ≡ 8 → length old ≡ 8 → ((k : ℕ) → k < 8 → get_or items k 0 ≡ lowered before (get_or old k 0)) → items ≡ map (lowered before) old
all_lowered old items before eight were each =
    ext_get_or 0 items (map (lowered before) old) (eight ∙ sym were ∙ sym (length-map old (lowered before)))
    (λ k h. each k (omega arith) ∙ sym (get_or-map (lowered before) old k 0 0 (omega arith)))

-- and one of them then the greatest
pub ranks-noted : (old items : List ℕ) (index moved before : ℕ) → index ≡ moved → length items ≡ 8 → length old ≡ 8 → before ≡ get_or old index 0 → ((k : ℕ) → k < 8 → get_or items k 0 ≡ lowered before (get_or old k 0)) → set items index 7 ≡ ranks_after old moved
ranks-noted old items index moved before same eight were at each =
    let here : before ≡ get_or old moved 0 = at ∙ ap (λ (k : ℕ). get_or old k 0) same in
    ap (λ (k : ℕ). set items k 7) same
    ∙ ap (λ (ranks : List ℕ). set ranks moved 7) (all_lowered old items before eight were each)
    ∙ ap (λ (rank : ℕ). set (map (lowered rank) old) moved 7) here

pub AreNoted-from : (old items : List ℕ) (index moved before : ℕ) → index ≡ moved → length items ≡ 8 → moved < 8 → before ≡ get_or old index 0 → ((k : ℕ) → k < 8 → get_or items k 0 ≡ lowered before (get_or old k 0)) → AreNoted old (set items index 7) moved
AreNoted-from old items index moved before same eight within at each =
    let here : before ≡ get_or old moved 0 = at ∙ ap (λ (k : ℕ). get_or old k 0) same in
    rw same (record {
      eight = length-set items moved 7 ∙ eight;
      here = get_or-set_same items moved 7 0 (omega arith);
      others = λ k h ne. get_or-set_other items moved k 7 0 ne ∙ each k h ∙ ap (λ (b : ℕ). lowered b (get_or old k 0)) here;
    })

below_7 : (old new : List ℕ) (moved k : ℕ) → moved < 8 → AreRanks old → AreNoted old new moved → k < 8 → k ≢ moved → get_or new k 0 < 7
below_7 old new moved k within ranks noted h ne =
    let small = lowered-below (get_or old moved 0) (get_or old k 0) (ranks.below moved within) (ranks.below k h) (ranks.different k moved h within ne) in
    let is = noted.others k h ne in
    omega arith

pub AreRanks-noted : (old new : List ℕ) (moved : ℕ) → moved < 8 → AreRanks old → AreNoted old new moved → AreRanks new
AreRanks-noted old new moved within ranks noted = record {
  eight = noted.eight;
  below = λ k h. elim (cases_eq k moved) [
    | inl e ↦ let is = noted.here in let at = ap (λ (j : ℕ). get_or new j 0) e in omega arith
    | inr ne ↦ let lt = below_7 old new moved k within ranks noted h ne in omega arith
  ];
  different = λ j k hj hk ne. elim (cases_eq j moved) [
    | inl e ↦
        let is = noted.here in
        let at = ap (λ (i : ℕ). get_or new i 0) e in
        let other : k ≢ moved = omega arith in
        let lt = below_7 old new moved k within ranks noted hk other in
        omega arith
    | inr nj ↦
        elim (cases_eq k moved) [
          | inl e ↦
              let is = noted.here in
              let at = ap (λ (i : ℕ). get_or new i 0) e in
              let lt = below_7 old new moved j within ranks noted hj nj in
              omega arith
          | inr nk ↦
              let apart = lowered-different (get_or old moved 0) (get_or old j 0) (get_or old k 0) (ranks.different j moved hj within nj) (ranks.different k moved hk within nk) (ranks.different j k hj hk ne) in
              λ same. apart (sym (noted.others j hj nj) ∙ same ∙ noted.others k hk nk)
        ]
  ];
}

pub last-noted : (old new : List ℕ) (moved k : ℕ) → moved < 8 → AreRanks old → AreNoted old new moved → k < 8 → eqb k moved ≡ false → ltb (get_or new k 0) (get_or new moved 0) ≡ true
last-noted old new moved k within ranks noted h other =
    let lt = below_7 old new moved k within ranks noted h (eqb-false k moved other) in
    let is = noted.here in
    grind (arith, nat_tests)

pub others-noted : (old new : List ℕ) (moved j k : ℕ) → moved < 8 → AreRanks old → AreNoted old new moved → j < 8 → k < 8 → eqb j moved ≡ false → eqb k moved ≡ false → ltb (get_or new j 0) (get_or new k 0) ≡ ltb (get_or old j 0) (get_or old k 0)
others-noted old new moved j k within ranks noted hj hk oj ok =
    let nj = eqb-false j moved oj in
    let nk = eqb-false k moved ok in
    ap (λ (x : ℕ). ltb x (get_or new k 0)) (noted.others j hj nj)
    ∙ ap (λ (y : ℕ). ltb (lowered (get_or old moved 0) (get_or old j 0)) y) (noted.others k hk nk)
    ∙ lowered-order (get_or old moved 0) (get_or old j 0) (get_or old k 0) (ranks.different j moved hj within nj) (ranks.different k moved hk within nk)
