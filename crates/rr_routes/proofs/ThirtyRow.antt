-- The certificate that a 2 earns at most 30 on the small board.
use Rattle.std.proofs.Common.{◌≡◌, ℕ, zero, suc, ◌≤◌, List, [], ◌∷◌, set, Bool, true, false, refl, ap, sym, subst, ◌∙◌, inl, inr, arith, Some, ◌+◌}
use Rattle.std.specs.List.{AllZip, Contains, sum_by}
use Rattle.rr_routes.specs.declared.net.Node.{Node}
use Rattle.rr_routes.specs.declared.net.Node.TheVariants.{Hexside, Centre}
use Rattle.rr_routes.specs.declared.net.Link.{Link}
use Rattle.rr_routes.specs.declared.net.CentreLimit.TheVariants.{AtMost}
use Rattle.rr_routes.specs.declared.certificate.Fate.{Fate}
use Rattle.rr_routes.specs.declared.certificate.Fate.TheVariants.{Denied, Of}
use Rattle.rr_routes.specs.declared.certificate.CertTree.{CertTree, Split}
use Rattle.rr_routes.specs.Net.{Net, LinkAt, AreEnds, Joins, HasToken, Touches, value}
use Rattle.rr_routes.specs.Routes.{Walk, one_link, goes_on}
use Rattle.rr_routes.specs.Reach.{WalkTo, NodeReached, LinkReached}
use Rattle.rr_routes.specs.Certificates.{fate_of, MayUse, IsBounded, IsBad, too_many_centres, not_reached, choices, AcceptsUnder, all_open, node_count, Accepts}
use Rattle.rr_routes.specs.SmallBoard.{link_in, small_board, to_town, ThirtyAtMost}
use Rattle.rr_routes.proofs.Elements.{Contains-cases, Contains-nil, Contains-single, sum_within}
use Rattle.rr_routes.proofs.Reaching.{WalkTo-holds}
use Rattle.rr_routes.proofs.Children.{AcceptsUnder-Split, node_count-Split}
use Rattle.rr_routes.proofs.Optimality.{accepted_most}
use Rattle.rr_routes.proofs.Rows.{two_earns}

abbrev board : Net
board = small_board (AtMost 2)

-- a link between nodes that both pass a test, or both fail it, doesn't lead out of those that pass
stays_in : (passes : Node → Bool) (link : Link) (from to : Node) → passes (Hexside link.side) ≡ passes link.other → AreEnds link from to → passes from ≡ true → passes to ≡ true
stays_in passes link from to same (inl ends) here = ap passes ends.1 ∙ sym same ∙ ap passes (sym ends.0) ∙ here
stays_in passes link from to same (inr ends) here = ap passes ends.1 ∙ same ∙ ap passes (sym ends.0) ∙ here

module _ (passes : Node → Bool) (city : passes (Centre 0) ≡ true) (fates : List Fate)
    (kept : (place : ℕ) (link : Link) → MayUse fates 0 place → LinkAt board place link → passes (Hexside link.side) ≡ passes link.other) where
  token_passes : (node : Node) → HasToken board node → passes node ≡ true
  token_passes (Hexside side) token = absurd token
  token_passes (Centre centre) token = subst (λ n. passes (Centre n) ≡ true) (Contains-single 0 centre token) city

  walk_passes : (link : ℕ) (node : Node) → WalkTo board (MayUse fates 0) link node → passes node ≡ true
  walk_passes =
      WalkTo-holds board (MayUse fates 0) (λ link node. passes node ≡ true)
      (λ link from to token may joins. stays_in passes joins.0 from to (kept link joins.0 may joins.1) joins.2 (token_passes from token))
      (λ link at next to here inside over may joins. stays_in passes joins.0 at to (kept next joins.0 may joins.1) joins.2 here)

  reached_passes : (node : Node) → NodeReached board (MayUse fates 0) node → passes node ≡ true
  reached_passes node (inl token) = token_passes node token
  reached_passes node (inr walk) = walk_passes walk.0 node walk.1

  -- the bound, where all that passes are the first city and perhaps the town
  thirty_bounds : ((centre : ℕ) → passes (Centre centre) ≡ true → Contains (0 ∷ 1 ∷ []) centre) → IsBounded board 30 fates
  thirty_bounds west [] one each = omega arith
  thirty_bounds west (picked ∷ more ∷ picks) one each = omega arith
  thirty_bounds west (picked ∷ []) one each =
      let pick = each 0 (omega arith) in
      let below : sum_by (value board) picked ≤ 30 =
      sum_within (value board) picked (0 ∷ 1 ∷ []) pick.none_twice (λ centre c. inl (west centre (reached_passes (Centre centre) (pick.reached centre c)))) in
      omega (arith, below)

-- the nodes before the link of the second city
abbrev before_city : Node → Bool
before_city (Hexside zero) = true
before_city (Hexside (suc zero)) = true
before_city (Hexside (suc (suc zero))) = true
before_city (Hexside (suc (suc (suc side)))) = false
before_city (Centre zero) = true
before_city (Centre (suc zero)) = true
before_city (Centre (suc (suc centre))) = false

-- the nodes up to the town
abbrev up_to_town : Node → Bool
up_to_town (Hexside zero) = true
up_to_town (Hexside (suc zero)) = true
up_to_town (Hexside (suc (suc side))) = false
up_to_town (Centre zero) = true
up_to_town (Centre (suc zero)) = true
up_to_town (Centre (suc (suc centre))) = false

-- the first city alone
abbrev first_city : Node → Bool
first_city (Hexside side) = false
first_city (Centre zero) = true
first_city (Centre (suc centre)) = false

-- the fates in the leaves of the certificate
abbrev without_city : List Fate
without_city = set (all_open board) 4 Denied

abbrev with_city : List Fate
with_city = set (all_open board) 4 (Of 0)

abbrev without_first : List Fate
without_first = set with_city 0 Denied

abbrev with_both : List Fate
with_both = set with_city 0 (Of 0)

abbrev without_town : List Fate
without_town = set with_both 3 Denied

abbrev with_three : List Fate
with_three = set with_both 3 (Of 0)

the_link : {place : Link} (link : Link) → Some place ≡ Some link → place ≡ link
the_link link at = cc

abbrev Kept : (Node → Bool) → Link → Type 0
Kept passes link = passes (Hexside link.side) ≡ passes link.other

kept_before_city : (place : ℕ) (link : Link) → MayUse without_city 0 place → LinkAt board place link → Kept before_city link
kept_before_city zero link may at = subst (Kept before_city) (the_link link at) refl
kept_before_city (suc zero) link may at = subst (Kept before_city) (the_link link at) refl
kept_before_city (suc (suc zero)) link may at = subst (Kept before_city) (the_link link at) refl
kept_before_city (suc (suc (suc zero))) link may at = subst (Kept before_city) (the_link link at) refl
kept_before_city (suc (suc (suc (suc zero)))) link may at = absurd may
kept_before_city (suc (suc (suc (suc (suc zero))))) link may at = subst (Kept before_city) (the_link link at) refl
kept_before_city (suc (suc (suc (suc (suc (suc zero)))))) link may at = subst (Kept before_city) (the_link link at) refl
kept_before_city (suc (suc (suc (suc (suc (suc (suc place))))))) link may at = absurd may

kept_first_city : (place : ℕ) (link : Link) → MayUse without_first 0 place → LinkAt board place link → Kept first_city link
kept_first_city zero link may at = absurd may
kept_first_city (suc zero) link may at = subst (Kept first_city) (the_link link at) refl
kept_first_city (suc (suc zero)) link may at = subst (Kept first_city) (the_link link at) refl
kept_first_city (suc (suc (suc zero))) link may at = subst (Kept first_city) (the_link link at) refl
kept_first_city (suc (suc (suc (suc zero)))) link may at = subst (Kept first_city) (the_link link at) refl
kept_first_city (suc (suc (suc (suc (suc zero))))) link may at = subst (Kept first_city) (the_link link at) refl
kept_first_city (suc (suc (suc (suc (suc (suc zero)))))) link may at = subst (Kept first_city) (the_link link at) refl
kept_first_city (suc (suc (suc (suc (suc (suc (suc place))))))) link may at = absurd may

kept_up_to_town : (place : ℕ) (link : Link) → MayUse without_town 0 place → LinkAt board place link → Kept up_to_town link
kept_up_to_town zero link may at = subst (Kept up_to_town) (the_link link at) refl
kept_up_to_town (suc zero) link may at = subst (Kept up_to_town) (the_link link at) refl
kept_up_to_town (suc (suc zero)) link may at = subst (Kept up_to_town) (the_link link at) refl
kept_up_to_town (suc (suc (suc zero))) link may at = absurd may
kept_up_to_town (suc (suc (suc (suc zero)))) link may at = subst (Kept up_to_town) (the_link link at) refl
kept_up_to_town (suc (suc (suc (suc (suc zero))))) link may at = subst (Kept up_to_town) (the_link link at) refl
kept_up_to_town (suc (suc (suc (suc (suc (suc zero)))))) link may at = subst (Kept up_to_town) (the_link link at) refl
kept_up_to_town (suc (suc (suc (suc (suc (suc (suc place))))))) link may at = absurd may

city_and_town : (centre : ℕ) → before_city (Centre centre) ≡ true → Contains (0 ∷ 1 ∷ []) centre
city_and_town zero is = (0, omega arith, refl)
city_and_town (suc zero) is = (1, omega arith, refl)
city_and_town (suc (suc centre)) is = cc

city_alone : (centre : ℕ) → first_city (Centre centre) ≡ true → Contains (0 ∷ 1 ∷ []) centre
city_alone zero is = (0, omega arith, refl)
city_alone (suc centre) is = cc

-- a walk ends with a link that touches its end
end_touched : (net : Net) (first : ℕ) (links : List ℕ) (from : Node) (nodes : List Node) → Walk net (first ∷ links) (from ∷ nodes) → (to : Node) × Joins net first from to
end_touched net first _ from _ (one_link _ _ to joins) = (to, joins)
end_touched net first _ from _ (goes_on _ _ _ _ to _ joins _ _) = (to, joins)

-- neither end of the second city's link is up to the town
city_link_outside : (link : Link) (from to : Node) → link_in 3 2 (Centre 2) ≡ link → AreEnds link from to → up_to_town from ≡ true → ⊥
city_link_outside link from to is (inl ends) here =
    let side : from ≡ Hexside 2 = ends.0 ∙ ap (λ l. Hexside l.side) (sym is) in
    let fails : up_to_town from ≡ false = ap up_to_town side in
    cc
city_link_outside link from to is (inr ends) here =
    let centre : from ≡ Centre 2 = ends.0 ∙ ap (λ l. l.other) (sym is) in
    let fails : up_to_town from ≡ false = ap up_to_town centre in
    cc

city_not_reached : LinkReached board (MayUse without_town 0) 4 → ⊥
city_not_reached reached =
    let walk = reached.1 in
    let ended = end_touched board 4 walk.links reached.0 walk.nodes walk.walk in
    city_link_outside ended.1.0 reached.0 ended.0 (the_link ended.1.0 ended.1.1) ended.1.2
    (walk_passes up_to_town refl without_town kept_up_to_town 4 reached.0 walk)

-- a link of the train touches the centre
abbrev Touched : ℕ → Type 0
Touched n = (link : ℕ) × (fate_of with_three link ≡ Of 0) × Touches board link (Centre n)

-- the links of all three centres are the train's
three_touched : (centre : ℕ) → Contains (0 ∷ 1 ∷ 2 ∷ []) centre → Touched centre
three_touched centre c =
    elim (Contains-cases 0 (1 ∷ 2 ∷ []) centre c) [
      | inl is ↦ subst Touched is (0, refl, (link_in 0 0 (Centre 0), refl, inr refl))
      | inr later ↦ elim (Contains-cases 1 (2 ∷ []) centre later) [
        | inl is ↦ subst Touched is (3, refl, (link_in 2 2 (Centre 1), refl, inr refl))
        | inr last ↦ subst Touched (Contains-single 2 centre last) (4, refl, (link_in 3 2 (Centre 2), refl, inr refl))
      ]
    ]

three_too_many : IsBad board with_three 0
three_too_many =
    too_many_centres (0 ∷ 1 ∷ 2 ∷ []) (
      λ c. elim (Contains-cases 1 (2 ∷ []) 0 c) [ inl is ↦ omega arith | inr last ↦ let same : ◌≡◌ {A = ℕ} 2 0 = Contains-single 2 0 last in omega arith ],
      (λ c. let same : ◌≡◌ {A = ℕ} 2 1 = Contains-single 2 1 c in omega arith, (Contains-nil 2, tt)),
    )
    three_touched (λ few. let over : 3 ≤ 2 = few in omega arith)

-- from the deepest split up
module _ (tree : CertTree) (spelled : ThirtyAtMost tree) where
  deepest_accepted : AcceptsUnder board 30 with_both (Split 3 spelled.deepest)
  deepest_accepted =
      (AcceptsUnder-Split board 30 with_both 3 spelled.deepest).1 (
        refl,
        subst (λ items. AllZip (λ choice child. AcceptsUnder board 30 (set with_both 3 choice) child) (choices board) items) (sym spelled.deepest_are)
            ((omega arith, not_reached 4 refl city_not_reached), ((omega arith, three_too_many), tt)),
      )

  middle_accepted : AcceptsUnder board 30 with_city (Split 0 spelled.middle)
  middle_accepted =
      (AcceptsUnder-Split board 30 with_city 0 spelled.middle).1 (
        refl,
        subst (λ items. AllZip (λ choice child. AcceptsUnder board 30 (set with_city 0 choice) child) (choices board) items) (sym spelled.middle_are)
            (thirty_bounds first_city refl without_first kept_first_city city_alone, (deepest_accepted, tt)),
      )

  outer_accepted : AcceptsUnder board 30 (all_open board) (Split 4 spelled.outer)
  outer_accepted =
      (AcceptsUnder-Split board 30 (all_open board) 4 spelled.outer).1 (
        refl,
        subst (λ items. AllZip (λ choice child. AcceptsUnder board 30 (set (all_open board) 4 choice) child) (choices board) items) (sym spelled.outer_are)
            (thirty_bounds before_city refl without_city kept_before_city city_and_town, (middle_accepted, tt)),
      )

  deepest_count : node_count (Split 3 spelled.deepest) ≡ 3
  deepest_count = node_count-Split 3 spelled.deepest ∙ ap (λ items. 1 + sum_by node_count items) spelled.deepest_are

  middle_count : node_count (Split 0 spelled.middle) ≡ 5
  middle_count =
      node_count-Split 0 spelled.middle ∙ ap (λ items. 1 + sum_by node_count items) spelled.middle_are ∙ ap (λ n. 1 + (0 + 1 + n)) deepest_count

  outer_count : node_count (Split 4 spelled.outer) ≡ 7
  outer_count =
      node_count-Split 4 spelled.outer ∙ ap (λ items. 1 + sum_by node_count items) spelled.outer_are ∙ ap (λ n. 1 + (0 + 1 + n)) middle_count

pub thirty_shown : (tree : CertTree) → ThirtyAtMost tree → Accepts board 30 tree
thirty_shown tree spelled =
    subst (Accepts board 30) (sym spelled.tree_is) (record {
      small = omega (arith, outer_count tree spelled);
      shown = outer_accepted tree spelled;
    })

pub twenty_refused : (tree : CertTree) → Accepts board 20 tree → ⊥
twenty_refused tree accepted =
    let over = accepted_most board 20 tree accepted (to_town ∷ []) two_earns.0 in
    omega (arith, over, two_earns.1)
