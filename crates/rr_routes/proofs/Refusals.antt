-- What is no route or no run on the small board.
use Rattle.std.proofs.Common.{◌≡◌, ℕ, ◌≤◌, List, [], ◌∷◌, refl, ap, ◌∙◌, inl, inr, arith}
use Rattle.std.specs.List.{Contains}
use Rattle.rr_routes.specs.declared.net.Node.{Node}
use Rattle.rr_routes.specs.declared.net.Node.TheVariants.{Hexside, Centre}
use Rattle.rr_routes.specs.declared.net.CentreLimit.{CentreLimit}
use Rattle.rr_routes.specs.declared.net.CentreLimit.TheVariants.{AtMost, Unlimited}
use Rattle.rr_routes.specs.Net.{Joins, HasToken}
use Rattle.rr_routes.specs.Routes.{Passes, Walk, goes_on, Route, Run}
use Rattle.rr_routes.specs.SmallBoard.{link_in, small_board, to_town, to_city, off_board, forked_board}
use Rattle.rr_routes.proofs.Elements.{Contains-here, Contains-nil}
use Rattle.rr_routes.proofs.Walks.{LinkAt-same}

pub many_centres : Route (small_board (AtMost 2)) (AtMost 2) to_city → ⊥
many_centres route = let over : 3 ≤ 2 = route.counted in omega arith

without_tokens : (node : Node) → HasToken (record (small_board Unlimited) { tokens = [] }) node → ⊥
without_tokens (Hexside side) token = token
without_tokens (Centre centre) token = Contains-nil centre token

pub no_token : Route (record (small_board Unlimited) { tokens = [] }) Unlimited off_board → ⊥
no_token route = without_tokens route.token.0 route.token.2

pub filled_city : Route (record (small_board Unlimited) { terminals = 2 ∷ 3 ∷ [] }) Unlimited off_board → ⊥
filled_city route = route.no_terminal.1.1.1.1.0 (Contains-here 2 (3 ∷ []))

pub shared_side : Run (record (small_board (AtMost 2)) { trains = AtMost 2 ∷ AtMost 2 ∷ [] }) (to_town ∷ to_town ∷ []) → ⊥
shared_side run = run.apart 0 1 (λ same. omega arith) 0 first_side first_side
  where
    first_side : Contains to_town.nodes (Hexside 0)
    first_side = (1, omega arith, refl)

-- from one track of the forked hex into the other no walk turns
turned : (limit : CentreLimit) (from to : Node) → Joins (forked_board limit) 1 from to → Passes (forked_board limit) 1 to 2 → ⊥
turned limit from (Hexside side) joins passes = passes.1 (link_in 1 0 (Hexside 1)) (link_in 1 0 (Hexside 4)) refl refl refl
turned limit from (Centre centre) joins passes =
    let link : joins.0 ≡ link_in 1 0 (Hexside 1) = LinkAt-same (forked_board limit) 1 joins.0 (link_in 1 0 (Hexside 1)) joins.1 refl in
    elim joins.2 [
      | inl ends ↦ let is : Centre centre ≡ Hexside 1 = ends.1 ∙ ap (λ l. l.other) link in cc
      | inr ends ↦ let is : Centre centre ≡ Hexside joins.0.side = ends.1 in cc
    ]

pub no_turn : (limit : CentreLimit) (links : List ℕ) (nodes : List Node) → Walk (forked_board limit) (1 ∷ 2 ∷ links) nodes → ⊥
no_turn limit links _ (goes_on _ _ _ from to nodes joins passes rest) = turned limit from to joins passes
