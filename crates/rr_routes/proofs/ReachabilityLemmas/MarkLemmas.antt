-- Marking states one after the other.
use Rattle.std.proofs.Common.{◌≡◌, ℕ, ◌+◌, ◌<◌, ◌≤◌, ◌⊎◌, Bool, true, false, not, cond, List, [], ◌∷◌, ◌++◌, length, get_or, set, take, count_by, refl, sym, ◌∙◌, ap, subst, inl, inr, arith}
use Rattle.std.specs.List.{Contains}
use Rattle.std.proofs.lemmas.List.{get_or-set_same, get_or-set_other, length-set, length_push, take_more, get_or_read}
use Rattle.std.proofs.lemmas.List.Elements.{Contains-push, Contains-push_cases, Contains-append_left}
use Rattle.std.proofs.lemmas.List.Sums.{sum_by-set}
use Rattle.std.proofs.lemmas.Bool.{cases_eq, false≢true}
use Rattle.rr_routes.specs.Reachability.Reach.{IsMarked, AreMarked}

pub marked_here : (marks : List Bool) (s : ℕ) → s < length marks → IsMarked (set marks s true) s
marked_here marks s h = get_or-set_same marks s true false h

pub marked_still : (marks : List Bool) (s t : ℕ) → s < length marks → IsMarked marks t → IsMarked (set marks s true) t
marked_still marks s t h m =
    elim (cases_eq t s) [
      | inl e ↦ subst (λ (k : ℕ). IsMarked (set marks s true) k) (sym e) (marked_here marks s h)
      | inr ne ↦ get_or-set_other marks s t true false ne ∙ m
    ]

pub marked_before : (marks : List Bool) (s t : ℕ) → IsMarked (set marks s true) t → IsMarked marks t ⊎ (t ≡ s)
marked_before marks s t m =
    elim (cases_eq t s) [ inl e ↦ inr e | inr ne ↦ inl (sym (get_or-set_other marks s t true false ne) ∙ m) ]

abbrev if_not : Bool → ℕ
if_not b = cond (not b) 1 0

-- one unmarked state fewer
one_fewer : (marks : List Bool) (s : ℕ) → s < length marks → get_or marks s false ≡ false → count_by not (set marks s true) + 1 ≡ count_by not marks
one_fewer marks s h e = omega (arith, sum_by-set if_not marks s true false h, ap if_not e)

-- nothing is marked at first
pub marked_none : (allowed marks : List Bool) (pending : List ℕ) → AreMarked [] allowed marks pending marks pending
marked_none allowed marks pending = record {
  same_length = refl;
  marked = λ state c. absurd (omega (arith, c.1));
  within = λ state m. inl m;
  kept = λ state m. m;
  only = λ state m. inl m;
  still_pending = λ state c. c;
  newly_pending = λ state c. inl c;
  as_many_left = refl;
}

-- a further state that was marked before, has no mark or isn't allowed
pub marked_more_old : (done : List ℕ) (allowed m0 : List Bool) (p0 : List ℕ) (m : List Bool) (p : List ℕ) (s : ℕ) → AreMarked done allowed m0 p0 m p
    → (s < length m → IsMarked allowed s → IsMarked m s) → AreMarked (done ++ s ∷ []) allowed m0 p0 m p
marked_more_old done allowed m0 p0 m p s h is = record {
  same_length = h.same_length;
  marked = λ state c inside free. elim (Contains-push_cases done s state c) [
    | inl d ↦ h.marked state d inside free
    | inr e ↦ subst (λ (k : ℕ). k < length m → IsMarked allowed k → IsMarked m k) e is inside free
  ];
  within = h.within;
  kept = h.kept;
  only = λ state k. elim (h.only state k) [ inl a ↦ inl a | inr b ↦ inr (Contains-append_left done (s ∷ []) state b.0, b.1) ];
  still_pending = h.still_pending;
  newly_pending = h.newly_pending;
  as_many_left = h.as_many_left;
}

-- a further state that wasn't
pub marked_more_new : (done : List ℕ) (allowed m0 : List Bool) (p0 : List ℕ) (m : List Bool) (p : List ℕ) (s : ℕ) → AreMarked done allowed m0 p0 m p
    → s < length m → get_or m s false ≡ false → IsMarked allowed s → AreMarked (done ++ s ∷ []) allowed m0 p0 (set m s true) (p ++ s ∷ [])
marked_more_new done allowed m0 p0 m p s h inside was free = record {
  same_length = length-set m s true ∙ h.same_length;
  marked = λ state c within allows. elim (Contains-push_cases done s state c) [
    | inl d ↦ marked_still m s state inside (h.marked state d (omega (arith, within, length-set m s true)) allows)
    | inr e ↦ subst (λ (k : ℕ). IsMarked (set m s true) k) e (marked_here m s inside)
  ];
  within = λ state k. elim (marked_before m s state k) [ inl a ↦ h.within state a | inr e ↦ inr (subst (λ (t : ℕ). IsMarked allowed t) (sym e) free) ];
  kept = λ state k. marked_still m s state inside (h.kept state k);
  only = λ state k. elim (marked_before m s state k) [ inl a ↦ older state (h.only state a) | inr e ↦ subst (λ (t : ℕ). Older t) (sym e) (inr (Contains-push done s, Contains-push p s)) ];
  still_pending = λ state c. Contains-append_left p (s ∷ []) state (h.still_pending state c);
  newly_pending = λ state c. elim (Contains-push_cases p s state c) [ inl a ↦ newer state (h.newly_pending state a) | inr e ↦ subst (λ (t : ℕ). Newer t) e (inr (marked_here m s inside)) ];
  as_many_left = omega (arith, one_fewer m s inside was, length_push p s, h.as_many_left);
}
  where
    Older : ℕ → Type 0
    Older t = IsMarked m0 t ⊎ (Contains (done ++ s ∷ []) t × Contains (p ++ s ∷ []) t)

    older : (t : ℕ) → IsMarked m0 t ⊎ (Contains done t × Contains p t) → Older t
    older t (inl a) = inl a
    older t (inr b) = inr (Contains-append_left done (s ∷ []) t b.0, Contains-append_left p (s ∷ []) t b.1)

    Newer : ℕ → Type 0
    Newer t = Contains p0 t ⊎ IsMarked (set m s true) t

    newer : (t : ℕ) → Contains p0 t ⊎ IsMarked m t → Newer t
    newer t (inl a) = inl a
    newer t (inr b) = inr (marked_still m s t inside b)

read_mark : (marks : List Bool) (s : ℕ) (is : Bool) → s < length marks → is ≡ get_or marks s is → get_or marks s false ≡ is
read_mark marks s is h e = sym (get_or_read marks s is h e false)

-- the next of the states, which has no mark, was marked, isn't allowed or wasn't marked
pub marked_next_none : (states : List ℕ) (i : ℕ) (allowed m0 : List Bool) (p0 : List ℕ) (m : List Bool) (p : List ℕ) → i < length states
    → AreMarked (take i states) allowed m0 p0 m p → length m ≤ get_or states i 0 → AreMarked (take (i + 1) states) allowed m0 p0 m p
marked_next_none states i allowed m0 p0 m p h a outside =
    subst (λ (done : List ℕ). AreMarked done allowed m0 p0 m p) (sym (take_more states i 0 h))
    (marked_more_old (take i states) allowed m0 p0 m p (get_or states i 0) a (λ inside free. absurd (omega arith)))

pub marked_next_old : (states : List ℕ) (i : ℕ) (allowed m0 : List Bool) (p0 : List ℕ) (m : List Bool) (p : List ℕ) (is : Bool) → i < length states
    → AreMarked (take i states) allowed m0 p0 m p → is ≡ get_or m (get_or states i 0) is → is ≡ true → AreMarked (take (i + 1) states) allowed m0 p0 m p
marked_next_old states i allowed m0 p0 m p is h a e true_now =
    subst (λ (done : List ℕ). AreMarked done allowed m0 p0 m p) (sym (take_more states i 0 h))
    (marked_more_old (take i states) allowed m0 p0 m p (get_or states i 0) a (λ inside free. read_mark m (get_or states i 0) is inside e ∙ true_now))

pub marked_next_denied : (states : List ℕ) (i : ℕ) (allowed m0 : List Bool) (p0 : List ℕ) (m : List Bool) (p : List ℕ) → i < length states
    → AreMarked (take i states) allowed m0 p0 m p → get_or allowed (get_or states i 0) false ≡ false → AreMarked (take (i + 1) states) allowed m0 p0 m p
marked_next_denied states i allowed m0 p0 m p h a denied =
    subst (λ (done : List ℕ). AreMarked done allowed m0 p0 m p) (sym (take_more states i 0 h))
    (marked_more_old (take i states) allowed m0 p0 m p (get_or states i 0) a (λ inside free. absurd (false≢true (sym denied ∙ free))))

pub marked_next_new : (states : List ℕ) (i : ℕ) (allowed m0 : List Bool) (p0 : List ℕ) (m : List Bool) (p : List ℕ) (is : Bool) (new : List ℕ) → i < length states
    → AreMarked (take i states) allowed m0 p0 m p → get_or states i 0 < length m → is ≡ get_or m (get_or states i 0) is → is ≡ false
    → get_or allowed (get_or states i 0) false ≡ true → new ≡ p ++ get_or states i 0 ∷ []
    → AreMarked (take (i + 1) states) allowed m0 p0 (set m (get_or states i 0) true) new
marked_next_new states i allowed m0 p0 m p is new h a inside e false_now free pushed =
    rw (take_more states i 0 h, pushed)
    (marked_more_new (take i states) allowed m0 p0 m p (get_or states i 0) a inside (read_mark m (get_or states i 0) is inside e ∙ false_now) free)
