-- The links that are a train's own, and why it can't run over all of them.
use Rattle.std.proofs.Common.{◌≡◌, ◌≢◌, ℕ, ◌+◌, ◌<◌, ◌≤◌, ◌⊎◌, ◌↔◌, ◌==◌, ◌&&◌, ◌||◌, not, Bool, true, false, Option, None, Some, List, [], ◌∷◌, ◌++◌, length, ltb, get_or, replicate, set, take, refl, sym, ◌∙◌, ap, subst, inl, inr, arith}
use Rattle.std.specs.Bool.{Decides}
use Rattle.std.specs.List.{Contains, filter, list_any, slice_get}
use Rattle.std.proofs.lemmas.Bool.{false≢true, cases_eq, cases_lt}
use Rattle.std.proofs.lemmas.Bool.Decides.{same_from_decides, Decides-eqb, Decides-ltb, Decides-like, Decides-not, Decides-and, Decides-or}
use Rattle.std.proofs.lemmas.List.{take_more, take_all, get_or_past, length-replicate, length-set}
use Rattle.std.proofs.lemmas.List.Elements.{Contains-push, Contains-push_cases, Contains-append_left, Contains-get_or}
use Rattle.std.proofs.lemmas.List.Quantifiers.{all_pairs_push}
use Rattle.std.proofs.lemmas.Option.{same_Some}
use Rattle.rr_routes.specs.declared.net.Node.{Node}
use Rattle.rr_routes.specs.declared.net.Node.TheVariants.{Hexside, Centre}
use Rattle.rr_routes.specs.declared.net.Link.{Link}
use Rattle.rr_routes.specs.declared.net.CentreLimit.{CentreLimit}
use Rattle.rr_routes.specs.declared.net.CentreLimit.TheVariants.{AtMost, Unlimited}
use Rattle.rr_routes.specs.declared.certificate.Fate.{Fate}
use Rattle.rr_routes.specs.declared.certificate.Fate.TheVariants.{Open, Denied, Of}
use Rattle.rr_routes.specs.Net.{Net, LinkAt, Touches, IsWithin, limit_of}
use Rattle.rr_routes.specs.Reach.{LinkReached}
use Rattle.rr_routes.specs.Certificates.{fate_of, MayUse, IsBad, three_links, too_many_centres, not_reached, side_shared}
use Rattle.rr_routes.specs.Reachability.Reach.{IsMarked}
use Rattle.rr_routes.proofs.Elements.{Contains-here, Contains-nil, length_within}
use Rattle.rr_routes.proofs.Walks.{Walk-in_net}
use Rattle.rr_routes.proofs.ReachabilityLemmas.MarkLemmas.{marked_before, marked_here, marked_still}
use Rattle.rr_routes.proofs.ReachabilityLemmas.SearchLemmas.{none_marked}
use Rattle.rr_checker.specs.declared.step.Step.{Step}
use Rattle.rr_checker.specs.Steps.{HasStep, same_node}
use Rattle.rr_checker.specs.Searching.{AreEnds}
use Rattle.rr_checker.specs.Index.{IsIndexOf, TouchesAt, noted_at}
use Rattle.rr_checker.specs.Ranked.{EndsAtCentre, IsRankingOf}
use Rattle.rr_checker.specs.Own.{is_of, is_others, AreSelected, AreLinksWith, some_link, link_touches, touches, is_third, is_second, crowds, crowds_end, crowds_end_on, is_crowded_by, is_crowded, is_crowded_on, is_over, GoesOver, AreGoneOver, is_unreached, is_side_of, shares_end, shares_end_on, shares_side, is_shared, is_shared_on, is_touched_on, IsTouched}
use Rattle.rr_checker.proofs.IndexLemmas.{noted_there, one_noted}
use Rattle.rr_checker.proofs.PlaceLemmas.{no_step}
use Rattle.rr_checker.proofs.ReachedLemmas.{filter_ranked}
use Rattle.rr_checker.proofs.StepLemmas.{step_over, yes, to_true, Decides-never, Decides-same_node, Decides-list_any}

pub Decides-is_of : (train : ℕ) (fate : Fate) → Decides (is_of train fate) (fate ≡ Of train)
Decides-is_of train Open = Decides-never (λ e. cc)
Decides-is_of train Denied = Decides-never (λ e. cc)
Decides-is_of train (Of owner) = Decides-like (owner == train) (λ e. ap Of e) (λ e. cc) (Decides-eqb owner train)

abbrev pub OfOther : ℕ → Fate → Type 0
OfOther train fate = (owner : ℕ) × (train ≢ owner) × (fate ≡ Of owner)

pub Decides-is_others : (train : ℕ) (fate : Fate) → Decides (is_others train fate) (OfOther train fate)
Decides-is_others train Open = Decides-never (λ o. let e = o.2 in cc)
Decides-is_others train Denied = Decides-never (λ o. let e = o.2 in cc)
Decides-is_others train (Of owner) =
    Decides-like (not (owner == train)) (λ differ. (owner, λ e. differ (sym e), refl))
    (λ o e. let same : owner ≡ o.0 = let f = o.2 in cc in o.1 (sym e ∙ same)) (Decides-not (owner == train) (Decides-eqb owner train))

module _ (test : Fate → Bool) (fates : List Fate) where
  pub selected_first : AreSelected test fates 0 []
  selected_first = record { ascending = λ i j d less inside. absurd (omega (arith, inside)); exact = λ link. (λ c. absurd (Contains-nil link c), λ d. absurd (omega (arith, d.0))) }

  pub selected_no : (n : ℕ) (places : List ℕ) → AreSelected test fates n places → test (fate_of fates n) ≡ false → AreSelected test fates (n + 1) places
  selected_no n places s fails = record {
    ascending = s.ascending;
    exact = λ link. (
      λ c. let d = (s.exact link).0 c in (omega (arith, d.0), d.1),
      λ d. elim (cases_eq link n) [
        | inl same ↦ absurd (false≢true (sym fails ∙ subst (λ l. test (fate_of fates l) ≡ true) same d.1))
        | inr differ ↦ (s.exact link).1 (omega (arith, d.0, differ), d.1)
      ],
    );
  }

  pub selected_yes : (n : ℕ) (places new : List ℕ) → AreSelected test fates n places → test (fate_of fates n) ≡ true → new ≡ places ++ n ∷ [] → AreSelected test fates (n + 1) new
  selected_yes n places new s passes pushed = rw pushed (record {
    ascending = all_pairs_push (λ a b. a < b) places n s.ascending (λ k d inside. ((s.exact (get_or places k d)).0 (Contains-get_or places k d inside)).0);
    exact = λ link. (
      λ c. elim (Contains-push_cases places n link c) [
        | inl old ↦ let d = (s.exact link).0 old in (omega (arith, d.0), d.1)
        | inr is ↦ (omega (arith, is), subst (λ l. test (fate_of fates l) ≡ true) is passes)
      ],
      λ d. elim (cases_eq link n) [
        | inl same ↦ subst (λ l. Contains (places ++ n ∷ []) l) (sym same) (Contains-push places n)
        | inr differ ↦ Contains-append_left places (n ∷ []) link ((s.exact link).1 (omega (arith, d.0, differ), d.1))
      ],
    );
  })

  pub selected_all : (n : ℕ) (places : List ℕ) → test Denied ≡ false → length fates ≤ n → AreSelected test fates n places → AreLinksWith test fates places
  selected_all n places denied h s = record {
    ascending = s.ascending;
    exact = λ link. (
      λ c. ((s.exact link).0 c).1,
      λ t. (s.exact link).1 (
        elim (cases_lt link (length fates)) [
          | inl inside ↦ omega (arith, inside)
          | inr past ↦ absurd (false≢true (sym (ap test (get_or_past fates link Denied past) ∙ denied) ∙ t))
        ],
        t,
      ),
    );
  }

pub Decides-some_link : (o : Option Link) (test : Link → Bool) (P : Link → Type 0) → ((link : Link) → Decides (test link) (P link))
    → Decides (some_link o test) ((link : Link) × (o ≡ Some link) × P link)
Decides-some_link None test P each = Decides-never (λ found. let e = found.1 in cc)
Decides-some_link (Some link) test P each =
    Decides-like (test link) (λ p. (link, refl, p)) (λ found. subst P (sym (same_Some link found.0 found.1)) found.2) (each link)

pub Decides-touches : (net : Net) (place : ℕ) (node : Node) → Decides (touches net place node) (Touches net place node)
Decides-touches net place node =
    Decides-some_link (slice_get net.links place) (link_touches node) (λ link. (node ≡ Hexside link.side) ⊎ (node ≡ link.other))
    (λ link. Decides-or (same_node node (Hexside link.side)) (same_node node link.other) (Decides-same_node node (Hexside link.side)) (Decides-same_node node link.other))

Decides-differ : (one two : ℕ) → Decides (not (one == two)) (one ≢ two)
Decides-differ one two = Decides-not (one == two) (Decides-eqb one two)

module _ (net : Net) (own : List ℕ) where
  IsThird : Node → ℕ → ℕ → ℕ → Type 0
  IsThird node one two three = (one ≢ three) × ((two ≢ three) × Touches net three node)

  Decides-is_third : (node : Node) (one two three : ℕ) → Decides (is_third net node one two three) ((one ≢ three) × ((two ≢ three) × Touches net three node))
  Decides-is_third node one two three =
      Decides-and (not (one == three)) (not (two == three) && touches net three node) (Decides-differ one three)
      (Decides-and (not (two == three)) (touches net three node) (Decides-differ two three) (Decides-touches net three node))

  Third : Node → ℕ → ℕ → Type 0
  Third node one two = (three : ℕ) × Contains own three × ((one ≢ three) × ((two ≢ three) × Touches net three node))

  abbrev Second : Node → ℕ → ℕ → Type 0
  Second node one two = (one ≢ two) × (Touches net two node × ((three : ℕ) × Contains own three × ((one ≢ three) × ((two ≢ three) × Touches net three node))))

  Decides-is_second : (node : Node) (one two : ℕ) → Decides (is_second net own node one two) (Second node one two)
  Decides-is_second node one two =
      Decides-and (not (one == two)) (touches net two node && list_any (is_third net node one two) own) (Decides-differ one two)
      (Decides-and (touches net two node) (list_any (is_third net node one two) own) (Decides-touches net two node)
      (Decides-list_any (is_third net node one two) (λ three. (one ≢ three) × ((two ≢ three) × Touches net three node)) own (λ three c. Decides-is_third node one two three)))

  abbrev Crowds : ℕ → Node → Type 0
  Crowds one node = (two : ℕ) × Contains own two × Second node one two

  Decides-crowds : (one : ℕ) (node : Node) → Decides (crowds net own one node) (Crowds one node)
  Decides-crowds one node = Decides-list_any (is_second net own node one) (λ two. Second node one two) own (λ two c. Decides-is_second node one two)

  abbrev CrowdedBy : ℕ → Type 0
  CrowdedBy one = (link : Link) × LinkAt net one link × (Crowds one (Hexside link.side) ⊎ Crowds one link.other)

  Decides-is_crowded_by : (one : ℕ) → Decides (is_crowded_by net own one) (CrowdedBy one)
  Decides-is_crowded_by one =
      Decides-some_link (slice_get net.links one) (crowds_end net own one) (λ link. Crowds one (Hexside link.side) ⊎ Crowds one link.other)
      (λ link. Decides-or (crowds net own one (Hexside link.side)) (crowds net own one link.other) (Decides-crowds one (Hexside link.side)) (Decides-crowds one link.other))

  abbrev pub Crowded : Type 0
  Crowded = (one : ℕ) × Contains own one × CrowdedBy one

  pub Decides-is_crowded : Decides (is_crowded net own) Crowded
  Decides-is_crowded = Decides-list_any (is_crowded_by net own) CrowdedBy own (λ one c. Decides-is_crowded_by one)

  -- a link that meets two more at a node that it touches
  pub crowded_at : (one : ℕ) (node : Node) → Contains own one → Touches net one node → Crowds one node → Crowded
  crowded_at one node c touching meets = (
    one,
    c,
    (
      touching.0,
      touching.1,
      elim touching.2 [
        | inl is ↦ inl (subst (λ n. Crowds one n) is meets)
        | inr is ↦ inr (subst (λ n. Crowds one n) is meets)
      ],
    ),
  )

  -- the node where they meet
  pub crowd_of : Crowded → (node : Node) × (one : ℕ) × Contains own one × Touches net one node × Crowds one node
  crowd_of crowd =
      elim crowd.2.2 [
        | inl meets ↦ (Hexside crowd.2.0.side, crowd.0, crowd.1, (crowd.2.0, crowd.2.1, inl refl), meets)
        | inr meets ↦ (crowd.2.0.other, crowd.0, crowd.1, (crowd.2.0, crowd.2.1, inr refl), meets)
      ]

-- over an index of the links the tests are the same
module _ (net : Net) (own : List ℕ) (index : List (List ℕ)) (ix : IsIndexOf (TouchesAt net own) index) where
  Decides-crowds_at : (one : ℕ) (node : Node) → Decides (crowds net (noted_at index node) one node) (Crowds net own one node)
  Decides-crowds_at one node =
      Decides-like (crowds net (noted_at index node) one node)
      (λ meets.
      let third = meets.2.1.1 in
      (meets.0, one_noted net own index ix node meets.0 meets.1, (meets.2.0, (meets.2.1.0, (third.0, one_noted net own index ix node third.0 third.1, third.2)))))
      (λ meets.
      let third = meets.2.1.1 in (
        meets.0,
        noted_there net own index ix node meets.0 meets.1 meets.2.1.0,
        (meets.2.0, (meets.2.1.0, (third.0, noted_there net own index ix node third.0 third.1 third.2.1.1, third.2))),
      ))
      (Decides-crowds net (noted_at index node) one node)

  pub same_crowded : is_crowded_on net index own ≡ is_crowded net own
  same_crowded =
      same_from_decides (is_crowded_on net index own) (is_crowded net own)
      (Decides-list_any (λ one. some_link (slice_get net.links one) (crowds_end_on net index one)) (CrowdedBy net own) own (λ one c.
      Decides-some_link (slice_get net.links one) (crowds_end_on net index one) (λ link. Crowds net own one (Hexside link.side) ⊎ Crowds net own one link.other)
      (λ link. Decides-or (crowds net (noted_at index (Hexside link.side)) one (Hexside link.side)) (crowds net (noted_at index link.other) one link.other)
      (Decides-crowds_at one (Hexside link.side)) (Decides-crowds_at one link.other))))
      (Decides-is_crowded net own)

  Decides-is_touched_on : (centre : ℕ) → Decides (is_touched_on net index centre) (IsTouched net own centre)
  Decides-is_touched_on centre =
      Decides-like (is_touched_on net index centre)
      (λ found. (found.0, one_noted net own index ix (Centre centre) found.0 found.1, found.2))
      (λ found. (found.0, noted_there net own index ix (Centre centre) found.0 found.1 found.2, found.2))
      (Decides-list_any (λ link. touches net link (Centre centre)) (λ link. Touches net link (Centre centre)) (noted_at index (Centre centre))
      (λ link c. Decides-touches net link (Centre centre)))

  -- a centre that one of the links touches is the end of a step
  is_end : (steps : List Step) → ((step : Step) → Contains steps step ↔ HasStep net (length net.links) step) → (centre : ℕ) → IsTouched net own centre → EndsAtCentre steps centre
  is_end steps all centre found =
      let over = step_over net found.0 (Hexside found.2.0.side) (Centre centre) (found.2.0, found.2.1, elim found.2.2 [ inl is ↦ absurd (let e = is in cc) | inr is ↦ inl (refl, is) ]) in
      (over.step, (all over.step).1 over.has, over.to_is)

  -- of the ranked list of all centres those that the links touch are the ranked list of these
  pub touched_ranked : (steps : List Step) (ranked : List ℕ) → ((step : Step) → Contains steps step ↔ HasStep net (length net.links) step)
      → IsRankingOf net (λ centre. Contains net.tokens centre ⊎ EndsAtCentre steps centre) ranked
      → IsRankingOf net (IsTouched net own) (filter (is_touched_on net index) ranked)
  touched_ranked steps ranked all r =
      filter_ranked net (λ centre. Contains net.tokens centre ⊎ EndsAtCentre steps centre) (IsTouched net own) (is_touched_on net index) ranked Decides-is_touched_on
      (λ centre found. inr (is_end steps all centre found)) r

pub Decides-is_over : (limit : CentreLimit) (count : ℕ) → Decides (is_over limit count) (IsWithin limit count → ⊥)
Decides-is_over (AtMost most) count = Decides-like (ltb most count) (λ over within. omega arith) (λ never. below most count never) (Decides-ltb most count)
  where
    below : (m n : ℕ) → (n ≤ m → ⊥) → m < n
    below m n never = elim (cases_lt m n) [ inl less ↦ less | inr more ↦ absurd (never more) ]
Decides-is_over Unlimited count = Decides-never (λ never. never tt)

-- marks of the links that the steps so far go over, with one more
pub over_first : (count : ℕ) → AreGoneOver [] count (replicate count false)
over_first count = record {
  as_long = length-replicate count false;
  exact = λ link. (λ m. absurd (none_marked count link m), λ d. absurd (Contains-nil d.1.0 d.1.1));
}

over_more : (done : List Step) (step : Step) (link : ℕ) → GoesOver done link → GoesOver (done ++ step ∷ []) link
over_more done step link goes = (goes.0, Contains-append_left done (step ∷ []) goes.0 goes.1, goes.2)

pub over_past : (ends : List Step) (i count : ℕ) (marks : List Bool) → i < length ends → AreGoneOver (take i ends) count marks
    → length marks ≤ (get_or ends i no_step).link → AreGoneOver (take (i + 1) ends) count marks
over_past ends i count marks h over past = rw (take_more ends i no_step h) (record {
  as_long = over.as_long;
  exact = λ link. (
    λ m. let d = (over.exact link).0 m in (d.0, over_more (take i ends) (get_or ends i no_step) link d.1),
    λ d. elim (Contains-push_cases (take i ends) (get_or ends i no_step) d.1.0 d.1.1) [
      | inl old ↦ (over.exact link).1 (d.0, (d.1.0, old, d.1.2))
      | inr is ↦ let same : (get_or ends i no_step).link ≡ link = ap (λ (s : Step). s.link) is ∙ d.1.2 in absurd (omega (arith, same, past, d.0, over.as_long))
    ],
  );
})

pub over_next : (ends : List Step) (i count : ℕ) (marks : List Bool) → i < length ends → AreGoneOver (take i ends) count marks
    → (get_or ends i no_step).link < length marks → AreGoneOver (take (i + 1) ends) count (set marks (get_or ends i no_step).link true)
over_next ends i count marks h over inside = rw (take_more ends i no_step h) (record {
  as_long = length-set marks (get_or ends i no_step).link true ∙ over.as_long;
  exact = λ link. (
    λ m. elim (marked_before marks (get_or ends i no_step).link link m) [
      | inl old ↦ let d = (over.exact link).0 old in (d.0, over_more (take i ends) (get_or ends i no_step) link d.1)
      | inr is ↦ (omega (arith, is, inside, over.as_long), (get_or ends i no_step, Contains-push (take i ends) (get_or ends i no_step), sym is))
    ],
    λ d. elim (Contains-push_cases (take i ends) (get_or ends i no_step) d.1.0 d.1.1) [
      | inl old ↦ marked_still marks (get_or ends i no_step).link link inside ((over.exact link).1 (d.0, (d.1.0, old, d.1.2)))
      | inr is ↦ subst (λ (l : ℕ). IsMarked (set marks (get_or ends i no_step).link true) l) (ap (λ (s : Step). s.link) is ∙ d.1.2)
          (marked_here marks (get_or ends i no_step).link inside)
    ],
  );
})

pub over_done : (ends : List Step) (i count : ℕ) (marks : List Bool) → length ends ≤ i → AreGoneOver (take i ends) count marks → AreGoneOver ends count marks
over_done ends i count marks h over = rw (take_all i ends h) at over

module _ (net : Net) (fates : List Fate) (train : ℕ) where
  Decides-reached : (ends : List Step) (reached : List Bool) → AreEnds net (MayUse fates train) ends → AreGoneOver ends (length net.links) reached → (link : ℕ)
      → Decides (get_or reached link false) (LinkReached net (MayUse fates train) link)
  Decides-reached ends reached all over link = (
    λ marked.
        let found = ((over.exact link).0 marked).1 in
        (found.0.to, (all link found.0.to).0 (found.0, found.1, found.2, refl)),
    λ walk.
        let found = (all link walk.0).1 walk.1 in
        (over.exact link).1 (Walk-in_net net walk.1.walk link (Contains-here link walk.1.links), (found.0, found.1, found.2)),
  )

  abbrev Unreached : List ℕ → Type 0
  Unreached own = (link : ℕ) × Contains own link × (LinkReached net (MayUse fates train) link → ⊥)

  Decides-is_unreached : (ends : List Step) (reached : List Bool) (own : List ℕ) → AreEnds net (MayUse fates train) ends → AreGoneOver ends (length net.links) reached
      → Decides (is_unreached reached own) (Unreached own)
  Decides-is_unreached ends reached own all over =
      Decides-list_any (λ link. not (get_or reached link false)) (λ link. LinkReached net (MayUse fates train) link → ⊥) own
      (λ link c. Decides-not (get_or reached link false) (Decides-reached ends reached all over link))

  abbrev pub SideOf : List ℕ → Node → Type 0
  SideOf others (Centre centre) = ⊥
  SideOf others (Hexside side) = (other : ℕ) × Contains others other × Touches net other (Hexside side)

  Decides-is_side_of : (others : List ℕ) (node : Node) → Decides (is_side_of net others node) (SideOf others node)
  Decides-is_side_of others (Centre centre) = Decides-never (λ n. n)
  Decides-is_side_of others (Hexside side) =
      Decides-list_any (λ other. touches net other (Hexside side)) (λ other. Touches net other (Hexside side)) others (λ other c. Decides-touches net other (Hexside side))

  abbrev pub SharesSide : List ℕ → ℕ → Type 0
  SharesSide others place = (link : Link) × LinkAt net place link × (SideOf others (Hexside link.side) ⊎ SideOf others link.other)

  Decides-shares_side : (others : List ℕ) (place : ℕ) → Decides (shares_side net others place) (SharesSide others place)
  Decides-shares_side others place =
      Decides-some_link (slice_get net.links place) (shares_end net others) (λ link. SideOf others (Hexside link.side) ⊎ SideOf others link.other)
      (λ link. Decides-or (is_side_of net others (Hexside link.side)) (is_side_of net others link.other)
      (Decides-is_side_of others (Hexside link.side)) (Decides-is_side_of others link.other))

  abbrev pub Shared : List ℕ → List ℕ → Type 0
  Shared own others = (place : ℕ) × Contains own place × SharesSide others place

  pub Decides-is_shared : (own others : List ℕ) → Decides (is_shared net own others) (Shared own others)
  Decides-is_shared own others = Decides-list_any (shares_side net others) (SharesSide others) own (λ place c. Decides-shares_side others place)

  module _ (own others : List ℕ) (index : List (List ℕ)) (ix : IsIndexOf (TouchesAt net others) index) where
    Decides-side_at : (node : Node) → Decides (is_side_of net (noted_at index node) node) (SideOf others node)
    Decides-side_at (Centre centre) = Decides-never (λ n. n)
    Decides-side_at (Hexside side) =
        Decides-like (is_side_of net (noted_at index (Hexside side)) (Hexside side))
        (λ found. (found.0, one_noted net others index ix (Hexside side) found.0 found.1, found.2))
        (λ found. (found.0, noted_there net others index ix (Hexside side) found.0 found.1 found.2, found.2))
        (Decides-is_side_of (noted_at index (Hexside side)) (Hexside side))

    pub same_shared : is_shared_on net index own ≡ is_shared net own others
    same_shared =
        same_from_decides (is_shared_on net index own) (is_shared net own others)
        (Decides-list_any (λ place. some_link (slice_get net.links place) (shares_end_on net index)) (SharesSide others) own (λ place c.
        Decides-some_link (slice_get net.links place) (shares_end_on net index) (λ link. SideOf others (Hexside link.side) ⊎ SideOf others link.other)
        (λ link. Decides-or (is_side_of net (noted_at index (Hexside link.side)) (Hexside link.side)) (is_side_of net (noted_at index link.other) link.other)
        (Decides-side_at (Hexside link.side)) (Decides-side_at link.other))))
        (Decides-is_shared own others)

  module _ (own others touched : List ℕ) (ends : List Step) (reached : List Bool) (mine : AreLinksWith (is_of train) fates own) (theirs : AreLinksWith (is_others train) fates others)
      (all : AreEnds net (MayUse fates train) ends) (over : AreGoneOver ends (length net.links) reached) (ranking : IsRankingOf net (IsTouched net own) touched) where
    is_mine : (link : ℕ) → Contains own link → fate_of fates link ≡ Of train
    is_mine link c = yes (Decides-is_of train (fate_of fates link)) ((mine.exact link).0 c)

    in_own : (link : ℕ) → fate_of fates link ≡ Of train → Contains own link
    in_own link e = (mine.exact link).1 (to_true (is_of train (fate_of fates link)) (Decides-is_of train (fate_of fates link)) e)

    bad_side : (place : ℕ) → Contains own place → (node : Node) → Touches net place node → SideOf others node → IsBad net fates train
    bad_side place c (Centre centre) touching none = absurd none
    bad_side place c (Hexside side) touching found =
        let owned = yes (Decides-is_others train (fate_of fates found.0)) ((theirs.exact found.0).0 found.1) in
        side_shared side place found.0 owned.0 owned.1 (is_mine place c) owned.2 touching found.2

    abbrev Why : Type 0
    Why = Crowded net own ⊎ ((IsWithin (limit_of net train) (length touched) → ⊥) ⊎ (Unreached own ⊎ Shared own others))

    bad : Why → IsBad net fates train
    bad (inl crowd) =
        let at = crowd_of net own crowd in
        let node = at.0 in
        let second = at.4 in
        let third = second.2.1.1 in
        three_links node at.1 second.0 third.0 second.2.0 third.2.0 third.2.1.0 (is_mine at.1 at.2) (is_mine second.0 second.1) (is_mine third.0 third.1) at.3 second.2.1.0 third.2.1.1
    bad (inr (inl many)) =
        too_many_centres touched ranking.in_order.none_twice
        (λ centre c. let found = (ranking.exact centre).0 c in (found.0, is_mine found.0 found.1, found.2)) many
    bad (inr (inr (inl alone))) = not_reached alone.0 (is_mine alone.0 alone.1) alone.2
    bad (inr (inr (inr shared))) =
        elim shared.2.2 [
          | inl side ↦ bad_side shared.0 shared.1 (Hexside shared.2.0.side) (shared.2.0, shared.2.1, inl refl) side
          | inr side ↦ bad_side shared.0 shared.1 shared.2.0.other (shared.2.0, shared.2.1, inr refl) side
        ]

    fewer : (limit : CentreLimit) (count more : ℕ) → count ≤ more → (IsWithin limit count → ⊥) → IsWithin limit more → ⊥
    fewer (AtMost most) count more less over within = over (omega arith)
    fewer Unlimited count more less over within = over tt

    why : IsBad net fates train → Why
    why (three_links node one two three not_two not_three nor own_one own_two own_three at_one at_two at_three) =
        inl (crowded_at net own one node (in_own one own_one) at_one (two, in_own two own_two, (not_two, (at_two, (three, in_own three own_three, (not_three, (nor, at_three)))))))
    why (too_many_centres counted none each many) =
        inr (inl (fewer (limit_of net train) (length counted) (length touched)
        (length_within counted touched none (λ centre c. let found = each centre c in (ranking.exact centre).1 (found.0, in_own found.0 found.1, found.2))) many))
    why (not_reached link mine_now none) = inr (inr (inl (link, in_own link mine_now, none)))
    why (side_shared side link other owner differ own_link owned at_link at_other) =
        inr (inr (inr (
          link,
          in_own link own_link,
          (
            at_link.0,
            at_link.1,
            let found : SideOf others (Hexside side) =
                (other, (theirs.exact other).1 (to_true (is_others train (fate_of fates other)) (Decides-is_others train (fate_of fates other)) (owner, differ, owned)), at_other) in
                elim at_link.2 [
                  | inl is ↦ inl (subst (λ n. SideOf others n) is found)
                  | inr is ↦ inr (subst (λ n. SideOf others n) is found)
                ],
          ),
        )))

    pub Decides-bad : Decides (is_crowded net own || (is_over (limit_of net train) (length touched) || (is_unreached reached own || is_shared net own others))) (IsBad net fates train)
    Decides-bad =
        Decides-like (is_crowded net own || (is_over (limit_of net train) (length touched) || (is_unreached reached own || is_shared net own others))) bad why
        (Decides-or (is_crowded net own) (is_over (limit_of net train) (length touched) || (is_unreached reached own || is_shared net own others)) (Decides-is_crowded net own)
        (Decides-or (is_over (limit_of net train) (length touched)) (is_unreached reached own || is_shared net own others) (Decides-is_over (limit_of net train) (length touched))
        (Decides-or (is_unreached reached own) (is_shared net own others) (Decides-is_unreached ends reached own all over) (Decides-is_shared own others))))
