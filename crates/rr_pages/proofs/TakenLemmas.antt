-- What a set of all pages that aren't free has.
use Rattle.std.proofs.Common.{◌≡◌, ◌≢◌, ℕ, ◌+◌, ◌<◌, Bool, true, false, ltb, not, ◌||◌, List, Option, MatchOption, length, get_or, set, refl, sym, ◌∙◌, ap, subst, arith, inl, inr}
use Rattle.std.proofs.Math.Logic.{∥∥₁_elim}
use native.Mathlib.Nat.{ℕ_set}
use Rattle.std.proofs.lemmas.List.{get_or_past, get_or-set_same, get_or-set_other, length-set}
use Rattle.std.proofs.lemmas.List.Sums.{fails_before_first, passes_at_first}
use Rattle.std.proofs.lemmas.Bool.{cases_eq, cases_lt, cond-true, cond-false, lt-ltb, le-ltb, ltb-false}
use Rattle.std.proofs.lemmas.Simd.{length-zip2, get_or-zip2}
use Rattle.std.specs.Coded.{Coded-set, coded_bool}
use Rattle.std.specs.List.{position, position_or_len}
use lib.Lanes.{zip2}
use Rattle.rr_pages.specs.declared.free_pages.FreePages.{FreePages}
use Rattle.rr_pages.specs.FreePages.{present_of, coming_of}
use Rattle.rr_pages.specs.PageSet as sets
use Rattle.rr_pages.specs.Sets.{HasTaken, IsEmpty, IsFree, IsFirstFree, NoneFree, marked}
use Rattle.rr_pages.proofs.SetLemmas.{not_both}

or_true : (a b : Bool) → (a || (b || true)) ≡ true
or_true true b = refl
or_true false true = refl
or_true false false = refl

or_turned : (a b c : Bool) → (a || (b || c)) ≡ (a || (c || b))
or_turned true b c = refl
or_turned false true true = refl
or_turned false true false = refl
or_turned false false true = refl
or_turned false false false = refl

or_nothing : (a b : Bool) → ((a || false) || b) ≡ (a || (b || false))
or_nothing true b = refl
or_nothing false true = refl
or_nothing false false = refl

neither : (a b : Bool) → (a || b) ≡ false → (a ≡ false) × (b ≡ false)
neither true b is = absurd (not_both true refl is)
neither false b is = (refl, is)

not_false : (b : Bool) → not b ≡ true → b ≡ false
not_false true is = absurd (not_both false is refl)
not_false false is = refl

not_true : (b : Bool) → not b ≡ false → b ≡ true
not_true true is = refl
not_true false is = absurd (not_both true refl is)

-- one page more of those before the first data page
front_page : (page other : ℕ) → other ≢ page → ltb other page ≡ ltb other (page + 1)
front_page page other apart =
    elim (cases_lt other page) [
      | inl below ↦ lt-ltb other page below ∙ sym (lt-ltb other (page + 1) (omega arith))
      | inr above ↦ le-ltb other page above ∙ sym (le-ltb other (page + 1) (omega arith))
    ]

pub front_taken : (before now : List Bool) (page : ℕ) → page < length now → ((other : ℕ) → get_or now other false ≡ (ltb other page || get_or before other false))
    → (other : ℕ) → get_or (marked now page) other false ≡ (ltb other (page + 1) || get_or before other false)
front_taken before now page inside is other =
    elim (cases_eq other page) [
      | inl same ↦ ap (λ (p : ℕ). get_or (set now page true) p false) same ∙ get_or-set_same now page true false inside
          ∙ sym (ap (λ (b : Bool). b || get_or before other false) (lt-ltb other (page + 1) (omega (arith, same))))
      | inr apart ↦ get_or-set_other now page other true false apart ∙ is other ∙ ap (λ (b : Bool). b || get_or before other false) (front_page page other apart)
    ]

-- what one of two sets has
get_or-union : (own others : List Bool) → length own ≡ length others → (page : ℕ)
    → get_or (zip2 (λ a b. a || b) own others) page false ≡ (get_or own page false || get_or others page false)
get_or-union own others same page =
    elim (cases_lt page (length own)) [
      | inl below ↦ get_or-zip2 (λ (a b : Bool). a || b) own others page false false false below (omega arith)
      | inr past ↦ (
          let long = length-zip2 (λ (a b : Bool). a || b) own others same in
          get_or_past (zip2 (λ a b. a || b) own others) page false (omega (arith, long))
          ∙ sym (ap (λ (b : Bool). b || get_or others page false) (get_or_past own page false past) ∙ get_or_past others page false (omega arith)))
    ]

-- the pages before the first data page, and those that a root reaches
pub rebuilt : (cleared front reached now : List Bool) → length front ≡ 65536 → length reached ≡ 65536 → IsEmpty cleared → ((page : ℕ) → get_or front page false ≡ (ltb page 514 || get_or cleared page false))
    → now ≡ zip2 (λ a b. a || b) front reached → (coming : List Bool) → IsEmpty coming → HasTaken reached coming now
rebuilt cleared front reached now long full none is joined coming empty =
    let same : length front ≡ length reached = long ∙ sym full in
    record {
      whole = ap length joined ∙ length-zip2 (λ (a b : Bool). a || b) front reached same ∙ long;
      marks = λ page.
          ap (λ (marks : List Bool). get_or marks page false) joined ∙ get_or-union front reached same page
          ∙ ap (λ (b : Bool). b || get_or reached page false) (is page ∙ ap (λ (b : Bool). ltb page 514 || b) (none page))
          ∙ or_nothing (ltb page 514) (get_or reached page false)
          ∙ ap (λ (b : Bool). ltb page 514 || (get_or reached page false || b)) (sym (empty page));
    }

-- one page more that the coming root will reach
pub taken_more : (present coming taken : List Bool) (page : ℕ) → page < length coming → page < 65536 → HasTaken present coming taken → HasTaken present (marked coming page) (marked taken page)
taken_more present coming taken page within under has =
    record {
      whole = length-set taken page true ∙ has.whole;
      marks = λ other.
          elim (cases_eq other page) [
            | inl same ↦ ap (λ (p : ℕ). get_or (set taken page true) p false) same ∙ get_or-set_same taken page true false (omega (arith, has.whole))
                ∙ sym (ap (λ (b : Bool). ltb other 514 || (get_or present other false || b)) (ap (λ (p : ℕ). get_or (set coming page true) p false) same ∙ get_or-set_same coming page true false within)
                ∙ or_true (ltb other 514) (get_or present other false))
            | inr apart ↦ get_or-set_other taken page other true false apart ∙ has.marks other
                ∙ sym (ap (λ (b : Bool). ltb other 514 || (get_or present other false || b)) (get_or-set_other coming page other true false apart))
          ];
    }

-- the two roots change places
pub turned : (present coming taken : List Bool) → HasTaken present coming taken → HasTaken coming present taken
turned present coming taken has = record { whole = has.whole; marks = λ page. has.marks page ∙ or_turned (ltb page 514) (get_or present page false) (get_or coming page false) }

-- what a set of free pages knows of its third set
pub taken_of : (pages : FreePages) → HasTaken (present_of pages) (coming_of pages) (sets.marks_of pages.taken)
taken_of pages = record { whole = ∥∥₁_elim pages.told (ℕ_set _ _) (λ has. has.whole); marks = λ page. ∥∥₁_elim pages.told (Coded-set coded_bool _ _) (λ has. has.marks page) }

module _ (present coming taken : List Bool) (has : HasTaken present coming taken) where
  is_free : (page : ℕ) → page < 65536 → get_or taken page false ≡ false → IsFree present coming page
  is_free page under is =
      let parts = neither (ltb page 514) (get_or present page false || get_or coming page false) (sym (has.marks page) ∙ is) in
      let roots = neither (get_or present page false) (get_or coming page false) parts.1 in
      record { data_page = ltb-false page 514 parts.0; under = under; not_present = roots.0; not_coming = roots.1 }

  isnt_taken : (page : ℕ) → IsFree present coming page → get_or taken page false ≡ false
  isnt_taken page free =
      has.marks page ∙ ap (λ (b : Bool). b || (get_or present page false || get_or coming page false)) (le-ltb page 514 free.data_page)
      ∙ ap (λ (b : Bool). b || get_or coming page false) free.not_present ∙ free.not_coming

  before_first : (page : ℕ) → page < position_or_len not taken → IsFree present coming page → ⊥
  before_first page before free = not_both (get_or taken page false) (not_true (get_or taken page false) (fails_before_first not taken page false before)) (isnt_taken page free)

  at_first : position_or_len not taken < length taken → IsFirstFree present coming (position_or_len not taken)
  at_first within =
      record {
        free = is_free (position_or_len not taken) (omega (arith, has.whole)) (not_false (get_or taken (position_or_len not taken) false) (passes_at_first not taken false within));
        first = before_first;
      }

  -- the first page that isn't taken is the first free one
  pub first_is_free : MatchOption (position not taken) (NoneFree present coming) (λ page. IsFirstFree present coming page)
  first_is_free =
      elim (cases_lt (position_or_len not taken) (length taken)) [
        | inl within ↦ subst (λ (first : Option ℕ). MatchOption first (NoneFree present coming) (λ page. IsFirstFree present coming page))
            (sym (cond-true _ _ _ (lt-ltb (position_or_len not taken) (length taken) within))) (at_first within)
        | inr past ↦ subst (λ (first : Option ℕ). MatchOption first (NoneFree present coming) (λ page. IsFirstFree present coming page))
            (sym (cond-false _ _ _ (le-ltb (position_or_len not taken) (length taken) past))) (λ page free. before_first page (omega (arith, free.under, has.whole)) free)
      ]
