-- The search under way.
use Rattle.std.proofs.Common.{◌≡◌, ℕ, ◌<◌, ◌⊎◌, ◌↔◌, Bool, true, false, List, [], ◌∷◌, ◌++◌, length, get_or, replicate, sym, ◌∙◌, subst, inl, inr, arith}
use Rattle.std.specs.List.{Contains}
use Rattle.std.proofs.lemmas.List.{get_or_past, get_or_read, get_or-replicate, length-replicate}
use Rattle.std.proofs.lemmas.List.Elements.{Contains-push, Contains-push_cases, Contains-append_left}
use Rattle.std.proofs.lemmas.Bool.{false≢true}
use Rattle.std.proofs.lemmas.Bool.{cases_lt}
use Rattle.rr_routes.specs.Reachability.Reach.{followers, IsReached, IsReachedWithin, start_within, follower_within, IsMarked, AllMarked, AreMarked}
use Rattle.rr_routes.specs.Reachability.Reach.IsReached.{Start, Follower}

-- what is marked is reached, and each marked state is pending or has no allowed follower without a mark
pub record IsUnderWay (graph : List (List ℕ)) (allowed : List Bool) (starts : List ℕ) (marks : List Bool) (pending : List ℕ) : Type 0 where
  pub same_length : length marks ≡ length graph
  pub starts_marked : AllMarked allowed marks starts
  pub pending_marked : (state : ℕ) → Contains pending state → IsMarked marks state
  pub sound : (state : ℕ) → IsMarked marks state → IsReachedWithin graph allowed starts state
  pub closed : (state : ℕ) → IsMarked marks state → Contains pending state ⊎ AllMarked allowed marks (followers graph state)

none_contained : (state : ℕ) → Contains {X = ℕ} [] state → ⊥
none_contained state c = omega (arith, c.1)

-- what has a follower is a state of the graph
has_follower : (graph : List (List ℕ)) (state next : ℕ) → Contains (followers graph state) next → state < length graph
has_follower graph state next c =
    elim (cases_lt state (length graph)) [ inl h ↦ h | inr h ↦ absurd (none_contained next (rw (get_or_past graph state [] h) at c)) ]

pub none_marked : (n state : ℕ) → IsMarked (replicate n false) state → ⊥
none_marked n state m =
    elim (cases_lt state n) [
      | inl h ↦ false≢true (sym (get_or-replicate n state false false h) ∙ m)
      | inr h ↦ false≢true (sym (get_or_past (replicate n false) state false (omega (arith, length-replicate n false))) ∙ m)
    ]

-- the starts are marked, and nothing else
under_way_from_none : (graph : List (List ℕ)) (allowed : List Bool) (starts : List ℕ) (marks : List Bool) (pending : List ℕ)
    → AreMarked starts allowed (replicate (length graph) false) [] marks pending → IsUnderWay graph allowed starts marks pending
under_way_from_none graph allowed starts marks pending h = record {
  same_length = h.same_length ∙ length-replicate (length graph) false;
  starts_marked = h.marked;
  pending_marked = λ state c. only_new state (h.newly_pending state c);
  sound = λ state m. start_within state (only_start state (h.only state m)).0 (only_allowed state (h.within state m));
  closed = λ state m. inl (only_start state (h.only state m)).1;
}
  where
    only_new : (state : ℕ) → Contains [] state ⊎ IsMarked marks state → IsMarked marks state
    only_new state (inl c) = absurd (none_contained state c)
    only_new state (inr m) = m

    only_start : (state : ℕ) → IsMarked (replicate (length graph) false) state ⊎ (Contains starts state × Contains pending state) → Contains starts state × Contains pending state
    only_start state (inl m) = absurd (none_marked (length graph) state m)
    only_start state (inr c) = c

    only_allowed : (state : ℕ) → IsMarked (replicate (length graph) false) state ⊎ IsMarked allowed state → IsMarked allowed state
    only_allowed state (inl m) = absurd (none_marked (length graph) state m)
    only_allowed state (inr free) = free

pub under_way_at_first : (graph : List (List ℕ)) (allowed : List Bool) (starts : List ℕ) (m0 : List Bool) (p0 : List ℕ) (marks : List Bool) (pending : List ℕ)
    → m0 ≡ replicate (length graph) false → p0 ≡ [] → AreMarked starts allowed m0 p0 marks pending → IsUnderWay graph allowed starts marks pending
under_way_at_first graph allowed starts m0 p0 marks pending e f g =
    under_way_from_none graph allowed starts marks pending (rw (e, f) at g)

-- a pending state is taken, and its allowed followers are marked
pub under_way_after : (graph : List (List ℕ)) (allowed : List Bool) (starts : List ℕ) (marks : List Bool) (pending : List ℕ) (state : ℕ) (new_marks : List Bool) (new_pending : List ℕ)
    → IsUnderWay graph allowed starts marks (pending ++ state ∷ []) → AreMarked (followers graph state) allowed marks pending new_marks new_pending
    → IsUnderWay graph allowed starts new_marks new_pending
under_way_after graph allowed starts marks pending state new_marks new_pending w h = record {
  same_length = h.same_length ∙ w.same_length;
  starts_marked = λ t c inside free. h.kept t (w.starts_marked t c (omega (arith, inside, h.same_length)) free);
  pending_marked = λ t c. pending_before t (h.newly_pending t c);
  sound = λ t m. sound_before t (h.only t m) (h.within t m);
  closed = λ t m. closed_before t (h.only t m);
}
  where
    pending_before : (t : ℕ) → Contains pending t ⊎ IsMarked new_marks t → IsMarked new_marks t
    pending_before t (inl c) = h.kept t (w.pending_marked t (Contains-append_left pending (state ∷ []) t c))
    pending_before t (inr m) = m

    sound_before : (t : ℕ) → IsMarked marks t ⊎ (Contains (followers graph state) t × Contains new_pending t) → IsMarked marks t ⊎ IsMarked allowed t
        → IsReachedWithin graph allowed starts t
    sound_before t (inl m) free = w.sound t m
    sound_before t (inr c) (inl m) = w.sound t m
    sound_before t (inr c) (inr free) = follower_within state t (w.sound state (w.pending_marked state (Contains-push pending state))) c.0 free

    Closed : ℕ → Type 0
    Closed t = Contains new_pending t ⊎ AllMarked allowed new_marks (followers graph t)

    taken_or_not : (t : ℕ) → Contains pending t ⊎ (state ≡ t) → Closed t
    taken_or_not t (inl c) = inl (h.still_pending t c)
    taken_or_not t (inr e) = subst (λ (k : ℕ). Closed k) e (inr h.marked)

    closed_still : (t : ℕ) → Contains (pending ++ state ∷ []) t ⊎ AllMarked allowed marks (followers graph t) → Closed t
    closed_still t (inl c) = taken_or_not t (Contains-push_cases pending state t c)
    closed_still t (inr a) = inr (λ k c inside free. h.kept k (a k c (omega (arith, inside, h.same_length)) free))

    closed_before : (t : ℕ) → IsMarked marks t ⊎ (Contains (followers graph state) t × Contains new_pending t) → Closed t
    closed_before t (inl m) = closed_still t (w.closed t m)
    closed_before t (inr c) = inl c.1

-- nothing is pending any more
pub marked_if_reached : (graph : List (List ℕ)) (allowed : List Bool) (starts : List ℕ) (marks : List Bool) → IsUnderWay graph allowed starts marks [] → (state : ℕ)
    → state < length graph → IsReachedWithin graph allowed starts state → IsMarked marks state
marked_if_reached graph allowed starts marks w _ inside (start_within state c free) = w.starts_marked state c (omega (arith, inside, w.same_length)) free
marked_if_reached graph allowed starts marks w _ inside (follower_within from state r c free) =
    all_marked (w.closed from (marked_if_reached graph allowed starts marks w from (has_follower graph from state c) r)) state c (omega (arith, inside, w.same_length)) free
  where
    all_marked : Contains [] from ⊎ AllMarked allowed marks (followers graph from) → AllMarked allowed marks (followers graph from)
    all_marked (inl d) = absurd (none_contained from d)
    all_marked (inr a) = a

marked_inside : (marks : List Bool) (state : ℕ) → IsMarked marks state → state < length marks
marked_inside marks state m =
    elim (cases_lt state (length marks)) [ inl h ↦ h | inr h ↦ absurd (false≢true (sym (get_or_past marks state false h) ∙ m)) ]

-- a pending state is one of the graph
pub pending_inside : (graph : List (List ℕ)) (allowed : List Bool) (starts : List ℕ) (marks : List Bool) (pending rest : List ℕ) (state : ℕ)
    → IsUnderWay graph allowed starts marks pending → pending ≡ rest ++ state ∷ [] → state < length graph
pending_inside graph allowed starts marks pending rest state w e =
    omega (arith, w.same_length, marked_inside marks state (w.pending_marked state (subst (λ (p : List ℕ). Contains p state) (sym e) (Contains-push rest state))))

-- the followers of a state, as an index reads them
pub followers_read : (graph : List (List ℕ)) (state : ℕ) (row : List ℕ) → state < length graph → row ≡ get_or graph state row → row ≡ followers graph state
followers_read graph state row h e = get_or_read graph state row h e []

-- where each state is allowed, what is reached over allowed states is what is reached
within_all : (graph : List (List ℕ)) (starts : List ℕ) (state : ℕ) → state < length graph → IsReached graph starts state
    → IsReachedWithin graph (replicate (length graph) true) starts state
within_all graph starts _ inside (Start state c) = start_within state c (get_or-replicate (length graph) state true false inside)
within_all graph starts _ inside (Follower from state r c) =
    follower_within from state (within_all graph starts from (has_follower graph from state c) r) c (get_or-replicate (length graph) state true false inside)

freely : (graph : List (List ℕ)) (allowed : List Bool) (starts : List ℕ) (state : ℕ) → IsReachedWithin graph allowed starts state → IsReached graph starts state
freely graph allowed starts _ (start_within state c free) = Start state c
freely graph allowed starts _ (follower_within from state r c free) = Follower from state (freely graph allowed starts from r) c

pub reached_by_all : (graph : List (List ℕ)) (allowed : List Bool) (starts : List ℕ) (marks : List Bool) → allowed ≡ replicate (length graph) true
    → ((state : ℕ) → state < length graph → IsMarked marks state ↔ IsReachedWithin graph allowed starts state)
    → (state : ℕ) → state < length graph → IsMarked marks state ↔ IsReached graph starts state
reached_by_all graph allowed starts marks all m state inside = (
  λ is. freely graph allowed starts state ((m state inside).0 is),
  λ r. (m state inside).1 (subst (λ (free : List Bool). IsReachedWithin graph free starts state) (sym all) (within_all graph starts state inside r)),
)
