-- The least clause that chains break.
use Rattle.std.proofs.Common.{◌≡◌, ◌≢◌, ◌⊎◌, inl, inr, ℕ, ◌<◌, ◌≤◌, ◌==◌, Bool, true, false, ◌||◌, nat_lt, if◌then◌else◌, List, [], ◌∷◌, fold, sum_by, Option, None, Some, refl, sym, ap, ◌∙◌, subst, arith}
use Rattle.std.specs.List.{list_any}
use Rattle.std.proofs.lemmas.Bool.{ltb-true, ltb-false, eqb-true, eq-eqb, or_parts}
use Rattle.rr_pages.specs.declared.fault.Damage.{Damage}
use Rattle.rr_pages.specs.declared.fault.Damage.TheVariants.{RootField, PageOutside, PageTwice, UsedBytes, Form}
use Rattle.rr_pages.specs.Chains.{next_of, used_of}
use Rattle.rr_pages.specs.Faults.{clause_of}
use Rattle.rr_pages.specs.Sets.{marked}
use Rattle.rr_pages.specs.Walk.{Walk, length_damage, damage_of}
use Rattle.rr_reading.specs.Chains.{FoundChain, HasOne, LeadsOutside, ReachesTwice, IsOverfull, HasOtherLength, damage_in, lower_of, least_in}

-- of two the lower one is no higher than either, and is one of them
lower_both : (t : Bool) (least damage : Damage) → nat_lt (clause_of damage) (clause_of least) ≡ t → (clause_of (if t then damage else least) ≤ clause_of least) × (clause_of (if t then damage else least) ≤ clause_of damage)
lower_both true least damage is = let lower : clause_of damage < clause_of least = ltb-true (clause_of damage) (clause_of least) is in (omega arith, omega arith)
lower_both false least damage is = let lower : clause_of least ≤ clause_of damage = ltb-false (clause_of damage) (clause_of least) is in (omega arith, omega arith)

lower_one : (t : Bool) (least damage : Damage) → ((if t then damage else least) ≡ least) ⊎ ((if t then damage else least) ≡ damage)
lower_one true least damage = inr refl
lower_one false least damage = inl refl

lower_cases : (start told : Option Damage) (damage : Damage) → lower_of start told ≡ Some damage → (start ≡ Some damage) ⊎ (told ≡ Some damage)
lower_cases None told damage is = inr is
lower_cases (Some least) None damage is = inl is
lower_cases (Some least) (Some other) damage is = elim (lower_one (nat_lt (clause_of other) (clause_of least)) least other) [
  | inl same ↦ inl (ap (λ (d : Damage). Some d) (sym same) ∙ is)
  | inr same ↦ inr (ap (λ (d : Damage). Some d) (sym same) ∙ is)
]

-- a clause is told, and none above this number
abbrev pub IsAtMost : Option Damage → ℕ → Type 0
IsAtMost None n = ⊥
IsAtMost (Some damage) n = clause_of damage ≤ n

low_start : (start told : Option Damage) (n : ℕ) → IsAtMost start n → IsAtMost (lower_of start told) n
low_start None told n low = absurd low
low_start (Some least) None n low = low
low_start (Some least) (Some other) n low = omega (arith, low, (lower_both (nat_lt (clause_of other) (clause_of least)) least other refl).0)

low_told : (start told : Option Damage) (n : ℕ) → IsAtMost told n → IsAtMost (lower_of start told) n
low_told None told n low = low
low_told (Some least) None n low = absurd low
low_told (Some least) (Some other) n low = omega (arith, low, (lower_both (nat_lt (clause_of other) (clause_of least)) least other refl).1)

module _ (file : List ℕ) where
  abbrev pub least_from : Option Damage → List FoundChain → Option Damage
  least_from start found = fold (λ least chain. lower_of least (damage_in file chain)) start found

  low_from : (found : List FoundChain) (start : Option Damage) (n : ℕ) → IsAtMost start n → IsAtMost (least_from start found) n
  low_from [] start n low = low
  low_from (chain ∷ found) start n low = low_from found (lower_of start (damage_in file chain)) n (low_start start (damage_in file chain) n low)

  low_of_one : (found : List FoundChain) (start : Option Damage) (n : ℕ) → HasOne (λ chain. IsAtMost (damage_in file chain) n) found → IsAtMost (least_from start found) n
  low_of_one [] start n one = absurd one
  low_of_one (chain ∷ found) start n (inl here) = low_from found (lower_of start (damage_in file chain)) n (low_told start (damage_in file chain) n here)
  low_of_one (chain ∷ found) start n (inr there) = low_of_one found (lower_of start (damage_in file chain)) n there

  one_from : (found : List FoundChain) (start : Option Damage) (damage : Damage) → least_from start found ≡ Some damage → (start ≡ Some damage) ⊎ HasOne (λ chain. damage_in file chain ≡ Some damage) found
  one_from [] start damage is = inl is
  one_from (chain ∷ found) start damage is = elim (one_from found (lower_of start (damage_in file chain)) damage is) [
    | inl first ↦ elim (lower_cases start (damage_in file chain) damage first) [ inl same ↦ inl same | inr here ↦ inr (inl here) ]
    | inr there ↦ inr (inr there)
  ]

  -- the least clause of chains is one that a chain breaks, and none of them breaks a lower one
  pub least_is : (found : List FoundChain) (damage : Damage) → least_in file found ≡ Some damage → HasOne (λ chain. damage_in file chain ≡ Some damage) found
  least_is found damage is = elim (one_from found None damage is) [ inl none ↦ absurd (cc) | inr one ↦ one ]

  pub least_low : (found : List FoundChain) (damage : Damage) (n : ℕ) → least_in file found ≡ Some damage → HasOne (λ chain. IsAtMost (damage_in file chain) n) found → clause_of damage ≤ n
  least_low found damage n is one = subst (λ (told : Option Damage). IsAtMost told n) is (low_of_one found None n one)

  pub least_none : (found : List FoundChain) (n : ℕ) → least_in file found ≡ None → HasOne (λ chain. IsAtMost (damage_in file chain) n) found → ⊥
  least_none found n is one = subst (λ (told : Option Damage). IsAtMost told n) is (low_of_one found None n one)

  -- a chain breaks off in one of two ways
  abbrev pub EndsRight : Option Damage → Type 0
  EndsRight end = (end ≡ None) ⊎ (end ≡ Some PageOutside) ⊎ (end ≡ Some PageTwice)

  pub walk_right : (count : ℕ) (reached : List Bool) (head : ℕ) (pages : List ℕ) (end : Option Damage) → Walk file count reached head pages end → EndsRight end
  walk_right count reached head [] end (inl outside) = inr (inl outside.1)
  walk_right count reached head [] end (inr twice) = inr (inr twice.2)
  walk_right count reached head (page ∷ pages) end walk = elim walk.3 [
    | inl ends ↦ inl ends.2
    | inr goes ↦ walk_right count (marked reached page) (next_of file page) pages end goes.1
  ]

  -- pages with too many used bytes
  over_first : (page : ℕ) (pages : List ℕ) (t : Bool) → nat_lt 4086 (used_of file page) ≡ t → (t || list_any (λ p. nat_lt 4086 (used_of file p)) pages) ≡ true
      → (list_any (λ p. nat_lt 4086 (used_of file p)) pages ≡ true → HasOne (λ p. 4086 < used_of file p) pages) → HasOne (λ p. 4086 < used_of file p) (page ∷ pages)
  over_first page pages true here all rest = inl (ltb-true 4086 (used_of file page) here)
  over_first page pages false here all rest = inr (rest all)

  any_over : (pages : List ℕ) → list_any (λ page. nat_lt 4086 (used_of file page)) pages ≡ true → HasOne (λ page. 4086 < used_of file page) pages
  any_over [] is = absurd (cc)
  any_over (page ∷ pages) is = over_first page pages (nat_lt 4086 (used_of file page)) refl is (λ all. any_over pages all)

  over_any : (pages : List ℕ) → HasOne (λ page. 4086 < used_of file page) pages → list_any (λ page. nat_lt 4086 (used_of file page)) pages ≡ false → ⊥
  over_any [] one none = one
  over_any (page ∷ pages) (inl first) none =
      let halves = or_parts (nat_lt 4086 (used_of file page)) (list_any (λ (p : ℕ). nat_lt 4086 (used_of file p)) pages) none in
      let few : used_of file page ≤ 4086 = ltb-false 4086 (used_of file page) halves.0 in
      omega arith
  over_any (page ∷ pages) (inr rest) none =
      over_any pages rest (or_parts (nat_lt 4086 (used_of file page)) (list_any (λ (p : ℕ). nat_lt 4086 (used_of file p)) pages) none).1

  -- which clause a chain breaks
  abbrev pub BreaksBy : FoundChain → Damage → Type 0
  BreaksBy chain RootField = ⊥
  BreaksBy chain PageOutside = LeadsOutside chain
  BreaksBy chain PageTwice = ReachesTwice chain
  BreaksBy chain UsedBytes = IsOverfull file chain
  BreaksBy chain Form = HasOtherLength file chain
  BreaksBy chain _ = ⊥

  length_breaks : (chain : FoundChain) (t : Bool) (said : ℕ) (damage : Damage) → chain.end ≡ None → chain.stated ≡ Some said → (sum_by (used_of file) chain.pages == said) ≡ t → (if t then None else Some Form) ≡ Some damage → BreaksBy chain damage
  length_breaks chain true said damage whole stated is told = absurd (cc)
  length_breaks chain false said damage whole stated is told =
      let same : Form ≡ damage = cc in
      subst (λ (d : Damage). BreaksBy chain d) same (record {
        whole = whole;
        said = said;
        stated = stated;
        other = λ equal. let as_said = eq-eqb (sum_by (used_of file) chain.pages) said equal in absurd (cc);
      })

  stated_breaks : (chain : FoundChain) (stated : Option ℕ) (damage : Damage) → chain.end ≡ None → chain.stated ≡ stated → length_damage (sum_by (used_of file) chain.pages) stated ≡ Some damage → BreaksBy chain damage
  stated_breaks chain None damage whole stated told = absurd (cc)
  stated_breaks chain (Some said) damage whole stated told = length_breaks chain (sum_by (used_of file) chain.pages == said) said damage whole stated refl told

  whole_breaks : (chain : FoundChain) (t : Bool) (damage : Damage) → chain.end ≡ None → list_any (λ page. nat_lt 4086 (used_of file page)) chain.pages ≡ t
      → (if t then Some UsedBytes else length_damage (sum_by (used_of file) chain.pages) chain.stated) ≡ Some damage → BreaksBy chain damage
  whole_breaks chain true damage whole over told =
      let same : UsedBytes ≡ damage = cc in
      subst (λ (d : Damage). BreaksBy chain d) same (any_over chain.pages over)
  whole_breaks chain false damage whole over told = stated_breaks chain chain.stated damage whole refl told

  ends_breaks : (chain : FoundChain) (end damage : Damage) → chain.end ≡ Some end → BreaksBy chain end → damage_in file chain ≡ Some damage → BreaksBy chain damage
  ends_breaks chain end damage is breaks told =
      let here : damage_in file chain ≡ Some end = subst (λ (e : Option Damage). damage_of file chain.pages e chain.stated ≡ Some end) (sym is) refl in
      let same : Some end ≡ Some damage = sym here ∙ told in
      subst (λ (d : Damage). BreaksBy chain d) (cc) breaks

  pub breaks_of : (chain : FoundChain) (damage : Damage) → EndsRight chain.end → damage_in file chain ≡ Some damage → BreaksBy chain damage
  breaks_of chain damage (inl whole) told =
      whole_breaks chain (list_any (λ page. nat_lt 4086 (used_of file page)) chain.pages) damage whole refl
      (subst (λ (e : Option Damage). damage_of file chain.pages e chain.stated ≡ Some damage) whole told)
  breaks_of chain damage (inr (inl outside)) told = ends_breaks chain PageOutside damage outside outside told
  breaks_of chain damage (inr (inr twice)) told = ends_breaks chain PageTwice damage twice twice told

  -- and that the clause it breaks is none above that
  end_low : (chain : FoundChain) (end : Damage) (n : ℕ) → chain.end ≡ Some end → clause_of end ≤ n → IsAtMost (damage_in file chain) n
  end_low chain end n is low = subst (λ (e : Option Damage). IsAtMost (damage_of file chain.pages e chain.stated) n) (sym is) low

  pub outside_low : (chain : FoundChain) → LeadsOutside chain → IsAtMost (damage_in file chain) 2
  outside_low chain outside = end_low chain PageOutside 2 outside (omega arith)

  pub twice_low : (chain : FoundChain) → ReachesTwice chain → IsAtMost (damage_in file chain) 3
  twice_low chain twice = end_low chain PageTwice 3 twice (omega arith)

  over_low : (chain : FoundChain) (t : Bool) → IsOverfull file chain → list_any (λ page. nat_lt 4086 (used_of file page)) chain.pages ≡ t
      → IsAtMost (if t then Some UsedBytes else length_damage (sum_by (used_of file) chain.pages) chain.stated) 4
  over_low chain true over is = omega arith
  over_low chain false over is = absurd (over_any chain.pages over is)

  pub overfull_low : (chain : FoundChain) → EndsRight chain.end → IsOverfull file chain → IsAtMost (damage_in file chain) 4
  overfull_low chain (inl whole) over =
      subst (λ (e : Option Damage). IsAtMost (damage_of file chain.pages e chain.stated) 4) (sym whole)
      (over_low chain (list_any (λ page. nat_lt 4086 (used_of file page)) chain.pages) over refl)
  overfull_low chain (inr (inl outside)) over = end_low chain PageOutside 4 outside (omega arith)
  overfull_low chain (inr (inr twice)) over = end_low chain PageTwice 4 twice (omega arith)

  said_low : (total said : ℕ) (t : Bool) → total ≢ said → (total == said) ≡ t → IsAtMost (if t then None else Some Form) 5
  said_low total said true other is = absurd (other (eqb-true total said is))
  said_low total said false other is = omega arith

  whole_low : (chain : FoundChain) (other : HasOtherLength file chain) (t : Bool) → list_any (λ page. nat_lt 4086 (used_of file page)) chain.pages ≡ t
      → IsAtMost (if t then Some UsedBytes else length_damage (sum_by (used_of file) chain.pages) (Some other.said)) 5
  whole_low chain other true is = omega arith
  whole_low chain other false is = said_low (sum_by (used_of file) chain.pages) other.said (sum_by (used_of file) chain.pages == other.said) other.other refl

  pub length_low : (chain : FoundChain) → HasOtherLength file chain → IsAtMost (damage_in file chain) 5
  length_low chain other =
      subst (λ (e : Option Damage). IsAtMost (damage_of file chain.pages e chain.stated) 5) (sym other.whole)
      (subst (λ (s : Option ℕ). IsAtMost (damage_of file chain.pages None s) 5) (sym other.stated)
      (whole_low chain other (list_any (λ page. nat_lt 4086 (used_of file page)) chain.pages) refl))

  -- the same of one of many chains
  abbrev pub AllRight : List FoundChain → Type 0
  AllRight [] = Unit {0}
  AllRight (chain ∷ found) = EndsRight chain.end × AllRight found

  pub one_more : (P Q : FoundChain → Type 0) (found : List FoundChain) → ((chain : FoundChain) → EndsRight chain.end → P chain → Q chain) → AllRight found → HasOne P found → HasOne Q found
  one_more P Q [] goes right one = one
  one_more P Q (chain ∷ found) goes right (inl here) = inl (goes chain right.0 here)
  one_more P Q (chain ∷ found) goes right (inr there) = inr (one_more P Q found goes right.1 there)

pub none_of : (P : FoundChain → Type 0) (found : List FoundChain) → ((chain : FoundChain) → P chain → ⊥) → HasOne P found → ⊥
none_of P [] none one = one
none_of P (chain ∷ found) none (inl here) = none chain here
none_of P (chain ∷ found) none (inr there) = none_of P found none there
