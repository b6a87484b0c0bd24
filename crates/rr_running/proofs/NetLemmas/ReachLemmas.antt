-- What a corporation reaches in a network is what its trains reach on the net.
use Rattle.std.proofs.Common.{◌≡◌, ℕ, ◌+◌, ◌<◌, ◌↔◌, ◌==◌, not, true, false, List, length, inl, inr, refl, sym, ◌∙◌, ap, subst, arith}
use Rattle.std.specs.Prelude.{bytes_eq, Option, Some, option_map}
use Rattle.std.specs.List.{find, slice_get}
use Rattle.std.specs.Bool.{Decides}
use Rattle.std.proofs.lemmas.Bool.{and_from, and_parts, cases_Bool, false≢true}
use Rattle.std.proofs.lemmas.Bool.Decides.{Decides-eqb, Decides-like, Decides-not}
use Rattle.std.proofs.lemmas.List.{get_or-replicate}
use Rattle.std.proofs.lemmas.List.Folds.{find_at}
use Rattle.std.proofs.lemmas.Option.{slice_get-map, slice_get_within}
use Rattle.std.proofs.lemmas.Slice.Eq.{bytes_eq-Decides}
use Rattle.rr_kit.specs.declared.board.hex.Hex.{Hex}
use Rattle.rr_roster.specs.declared.company.Corp.{Corp}
use Rattle.rr_roster.specs.declared.company.Kind.{Kind}
use Rattle.rr_network.specs.declared.network.Stop.{Stop}
use Rattle.rr_network.specs.declared.node.CentreAt.{CentreAt}
use Rattle.rr_network.specs.declared.node.Link.{Link}
use Rattle.rr_network.specs.declared.node.Node.{Node}
use Rattle.rr_network.specs.declared.node.Node.TheVariants.{Hexside as OfHexside, Centre as OfCentre}
use Rattle.rr_network.specs.declared.step.Step.{Step}
use Rattle.rr_network.specs.Node.{same_node}
use Rattle.rr_network.specs.Network.{Net as Network}
use Rattle.rr_network.specs.Walk.{EndsWalk, ReachesLink, ReachesNode, backward, forward, has_token, is_terminal, kind_stops, may_follow, passes_at, some_stops}
use Rattle.rr_network.specs.Walk.EndsWalk.{Begins, GoesOn}
use Rattle.rr_routes.specs.declared.certificate.Fate.TheVariants.{Open, Denied}
use Rattle.rr_routes.specs.declared.net.Link.{Link as PlacedLink}
use Rattle.rr_routes.specs.declared.net.Node.{Node as PlacedNode}
use Rattle.rr_routes.specs.declared.net.Node.TheVariants.{Hexside as AtHexside}
use Rattle.rr_routes.specs.Certificates.{Allows, MayUse, all_open, fate_of}
use Rattle.rr_routes.specs.Net.{HasToken, IsTerminal, Joins, LinkAt, Net}
use Rattle.rr_routes.specs.Reach.{LinkReached, NodeReached, WalkTo}
use Rattle.rr_routes.specs.Routes.{Passes}
use Rattle.rr_routes.proofs.Reaching.{WalkTo-holds, begins, continues}
use Rattle.rr_routes.proofs.Walks.{LinkAt-same}
use Rattle.rr_running.specs.Net.Centres.{ends_routes, has_own_token}
use Rattle.rr_running.specs.Net.Joining.{centre_place, hex_place, is_stop_at, node_of, placed_link, side_place, sides_in}
use Rattle.rr_running.specs.Net.Reaching.{IsNodeOf, LinksAreReachedAlike, LiesOn, NodesAreReachedAlike, TerminalsAreAlike, TokensStandAlike}
use Rattle.rr_running.specs.Net.Running.{net_of}
use Rattle.rr_running.proofs.NetLemmas.TellingLemmas.{centres_are_told_apart, hexes_are_told_apart, hexsides_are_told_apart}
use Rattle.rr_running.proofs.NetLemmas.GoingLemmas.{IsStepOver, link_among, mapped, step-hex, step-number, step_among, step_over}
use Rattle.rr_running.proofs.NetLemmas.CentreLemmas.{no_token_on_hexside, passing, same_node-itself, same_node-tells, stop_at}

module _ (hexes : List Hex) (network : Network) (corp : Corp) (trains : List Kind) (phase : Kind) (lies : LiesOn hexes network) where
  abbrev the_net : Net
  the_net = net_of hexes network corp trains phase

  abbrev placed : Link → PlacedLink
  placed link = placed_link hexes (sides_in network.links) network.stops link

  abbrev named : Node → PlacedNode
  named node = node_of (sides_in network.links) network.stops node

  known_end : (place : ℕ) (link : Link) → slice_get network.links place ≡ Some link → (node : Node) → link.end ≡ node → IsNodeOf network node
  known_end place link at (OfHexside side) is = record { link = link; among = link_among network.links place link at; there = inr is }
  known_end place link at (OfCentre centre) is = (lies link (link_among network.links place link at)).centre centre is

  known_side : (place : ℕ) (link : Link) → slice_get network.links place ≡ Some link → IsNodeOf network (OfHexside link.side)
  known_side place link at = record { link = link; among = link_among network.links place link at; there = inl refl }

  known_from : (step : Step) (place : ℕ) → IsStepOver network.links step place → IsNodeOf network step.from
  known_from step place s =
      elim s.over [
        | inl is ↦ subst (IsNodeOf network) (sym (ap (λ (x : Step). x.from) is)) (known_side place s.link s.at)
        | inr is ↦ subst (IsNodeOf network) (sym (ap (λ (x : Step). x.from) is)) (known_end place s.link s.at s.link.end refl)
      ]

  known_to : (step : Step) (place : ℕ) → IsStepOver network.links step place → IsNodeOf network step.to
  known_to step place s =
      elim s.over [
        | inl is ↦ subst (IsNodeOf network) (sym (ap (λ (x : Step). x.to) is)) (known_end place s.link s.at s.link.end refl)
        | inr is ↦ subst (IsNodeOf network) (sym (ap (λ (x : Step). x.to) is)) (known_side place s.link s.at)
      ]

  link_at : (place : ℕ) (link : Link) → slice_get network.links place ≡ Some link → LinkAt the_net place (placed link)
  link_at place link at = slice_get-map placed network.links place ∙ ap (option_map placed) at

  joins : (step : Step) (place : ℕ) → IsStepOver network.links step place → Joins the_net place (named step.from) (named step.to)
  joins step place s = (
    placed s.link,
    link_at place s.link s.at,
    elim s.over [
      | inl is ↦ inl (ap (λ (x : Step). named x.from) is, ap (λ (x : Step). named x.to) is)
      | inr is ↦ inr (ap (λ (x : Step). named x.from) is, ap (λ (x : Step). named x.to) is)
    ],
  )

  node_told : (node other : Node) → IsNodeOf network node → IsNodeOf network other → named node ≡ named other → node ≡ other
  node_told (OfHexside side) (OfHexside other) k l e =
      let same : side_place (sides_in network.links) side ≡ side_place (sides_in network.links) other = cc in
      ap OfHexside ((hexsides_are_told_apart network.links side other k l).0 same)
  node_told (OfHexside side) (OfCentre other) k l e = absurd cc
  node_told (OfCentre at) (OfHexside other) k l e = absurd cc
  node_told (OfCentre at) (OfCentre other) k l e =
      let same : centre_place network.stops at ≡ centre_place network.stops other = cc in
      ap OfCentre ((centres_are_told_apart network.stops at other k l).0 same)

  token_told : (node : Node) → IsNodeOf network node → (has_token network.stations corp node ≡ true) ↔ HasToken the_net (named node)
  token_told (OfHexside side) k = (λ h. no_token_on_hexside network.stations corp side h, λ never. absurd never)
  token_told (OfCentre at) k =
      let s = stop_at network.stops at k in
      let p = passing (has_own_token network.stations corp) network.stops (centre_place network.stops at) s.stop s.found in
      let same : has_token network.stations corp (OfCentre s.stop.at) ≡ has_token network.stations corp (OfCentre at) = ap (λ c. has_token network.stations corp (OfCentre c)) s.there in
      (λ h. p.1 (same ∙ h), λ c. sym same ∙ p.0 c)

  terminal_told : (node : Node) → IsNodeOf network node → (is_terminal network.stops network.stations corp node ≡ true) ↔ IsTerminal the_net (named node)
  terminal_told (OfHexside side) k = (λ h. absurd (false≢true h), λ never. absurd never)
  terminal_told (OfCentre at) k =
      let s = stop_at network.stops at k in
      let p = passing (ends_routes network.stations corp) network.stops (centre_place network.stops at) s.stop s.found in
      let found : find (is_stop_at at) network.stops ≡ Some s.stop = find_at (is_stop_at at) network.stops ∙ s.found in
      let same : is_terminal network.stops network.stations corp (OfCentre at) ≡ ends_routes network.stations corp s.stop
      = ap (λ (o : Option Stop). some_stops network.stations corp (OfCentre at) (option_map (λ (stop : Stop). stop.kind) o)) found
      ∙ sym (ap (λ (c : CentreAt). kind_stops network.stations corp (OfCentre c) s.stop.kind) s.there) in
      (λ h. p.1 (sym same ∙ h), λ c. same ∙ p.0 c)

  same_link : (one two : ℕ) (link other : Link) → slice_get network.links one ≡ Some link → slice_get network.links two ≡ Some other → one ≡ two → link ≡ other
  same_link one two link other at there same =
      let both : Some link ≡ Some other = sym at ∙ ap (slice_get network.links) same ∙ there in
      cc

  -- links of the net lie in one hex where those of the network do
  same_hex : (one two : ℕ) (link other : Link) → slice_get network.links one ≡ Some link → slice_get network.links two ≡ Some other → (placed link).hex ≡ (placed other).hex
      → link.hex ≡ other.hex
  same_hex one two link other at there same =
      (hexes_are_told_apart hexes link.hex other.hex (lies link (link_among network.links one link at)).hex (lies other (link_among network.links two other there)).hex).0 same

  passes_told : (step next : Step) (one two : ℕ) → IsStepOver network.links step one → IsStepOver network.links next two → (node : Node)
      → Decides (passes_at node step next) (Passes the_net one (named node) two)
  passes_told step next one two s t (OfCentre at) =
      let n = step-number network.links step one s in
      let m = step-number network.links next two t in
      Decides-like (not (step.number == next.number)) (λ differ same. differ (n ∙ ap (λ k. k + 1) same ∙ sym m)) (λ apart same. apart (omega (arith, n, m, same)))
      (Decides-not (step.number == next.number) (Decides-eqb step.number next.number))
  passes_told step next one two s t (OfHexside side) =
      let e = step-hex network.links step one s in
      let f = step-hex network.links next two t in
      Decides-like (not (bytes_eq step.hex next.hex))
      (λ differ. (
        λ same. differ (e ∙ ap (λ (l : Link). l.hex) (same_link one two s.link t.link s.at t.at same) ∙ sym f),
        λ first second a b same. differ (e ∙ same_hex one two s.link t.link s.at t.at (
            ap (λ (l : PlacedLink). l.hex) (LinkAt-same the_net one (placed s.link) first (link_at one s.link s.at) a) ∙ same
            ∙ ap (λ (l : PlacedLink). l.hex) (LinkAt-same the_net two second (placed t.link) b (link_at two t.link t.at))) ∙ sym f),
      ))
      (λ apart same. apart.1 (placed s.link) (placed t.link) (link_at one s.link s.at) (link_at two t.link t.at) (ap (hex_place hexes) (sym e ∙ same ∙ f)))
      (Decides-not (bytes_eq step.hex next.hex) (bytes_eq-Decides step.hex next.hex))

  module _ (train : ℕ) where
    abbrev IsOpen : ℕ → Type 0
    IsOpen place = MayUse (all_open the_net) train place

    open_to_all : (step : Step) (place : ℕ) → IsStepOver network.links step place → IsOpen place
    open_to_all step place s =
        let inside : place < length the_net.links = slice_get_within the_net.links place (placed s.link) (link_at place s.link s.at) in
        let still : fate_of (all_open the_net) place ≡ Open = get_or-replicate (length the_net.links) place Open Denied inside in
        subst (λ f. Allows f train) (sym still) tt

    walk_from : (step : Step) → EndsWalk network corp step → (place : ℕ) × IsStepOver network.links step place × WalkTo the_net IsOpen place (named step.to)
    walk_from _ (Begins step c token) =
        let o = step_over network.links step c in (
          o.0,
          o.1,
          begins the_net IsOpen o.0 (named step.from) (named step.to) ((token_told step.from (known_from step o.0 o.1)).0 token) (open_to_all step o.0 o.1) (joins step o.0 o.1),
        )
    walk_from _ (GoesOn step next walk free c follows) =
        let before = walk_from step walk in
        let o = step_over network.links next c in
        let tests = and_parts (same_node step.to next.from) (passes_at step.to step next) follows in
        let meets : step.to ≡ next.from = same_node-tells step.to next.from tests.0 in
        let known : IsNodeOf network step.to = known_to step before.0 before.1 in
        let goes : IsTerminal the_net (named step.to) → ⊥ = λ t. false≢true (sym free ∙ (terminal_told step.to known).1 t) in
        let passes : Passes the_net before.0 (named step.to) o.0 = (passes_told step next before.0 o.0 before.1 o.1 step.to).0 tests.1 in (
          o.0,
          o.1,
          continues the_net IsOpen before.0 (named step.to) o.0 (named next.to) before.2 goes passes (open_to_all next o.0 o.1)
              (subst (λ n. Joins the_net o.0 (named n) (named next.to)) (sym meets) (joins next o.0 o.1)),
        )

    -- a walk of the corporation ends with the link at the node
    record EndsAt (place : ℕ) (node : PlacedNode) : Type 0 where
      step : Step
      over : IsStepOver network.links step place
      walk : EndsWalk network corp step
      there : named step.to ≡ node

    -- the step over a link of the net from one of its ends to the other
    record IsStepBetween (place : ℕ) (from to : PlacedNode) : Type 0 where
      step : Step
      over : IsStepOver network.links step place
      from_is : named step.from ≡ from
      to_is : named step.to ≡ to

    step_between : (place : ℕ) (from to : PlacedNode) → Joins the_net place from to → IsStepBetween place from to
    step_between place from to joined =
        let m = mapped placed network.links place joined.0 (slice_get network.links place) refl (sym (slice_get-map placed network.links place) ∙ joined.1) in
        elim joined.2 [
          | inl ends ↦ record {
            step = forward (place + 1) m.0;
            over = record { link = m.0; at = m.1; over = inl refl };
            from_is = ap (λ (l : PlacedLink). AtHexside l.side) m.2 ∙ sym ends.0;
            to_is = ap (λ (l : PlacedLink). l.other) m.2 ∙ sym ends.1;
          }
          | inr ends ↦ record {
            step = backward (place + 1) m.0;
            over = record { link = m.0; at = m.1; over = inr refl };
            from_is = ap (λ (l : PlacedLink). l.other) m.2 ∙ sym ends.0;
            to_is = ap (λ (l : PlacedLink). AtHexside l.side) m.2 ∙ sym ends.1;
          }
        ]

    at_first : (place : ℕ) (from to : PlacedNode) → HasToken the_net from → IsOpen place → Joins the_net place from to → EndsAt place to
    at_first place from to token free joined =
        let s = step_between place from to joined in
        let has : HasToken the_net (named s.step.from) = subst (λ n. HasToken the_net n) (sym s.from_is) token in
        record {
          step = s.step;
          over = s.over;
          walk = Begins s.step (step_among network.links s.step place s.over) ((token_told s.step.from (known_from s.step place s.over)).1 has);
          there = s.to_is;
        }

    at_next : (place : ℕ) (at : PlacedNode) (next : ℕ) (to : PlacedNode) → EndsAt place at → (IsTerminal the_net at → ⊥) → Passes the_net place at next → IsOpen next
        → Joins the_net next at to → EndsAt next to
    at_next place at next to before goes passes free joined =
        let s = step_between next at to joined in
        let step = before.step in
        let known : IsNodeOf network step.to = known_to step place before.over in
        let meets : step.to ≡ s.step.from = node_told step.to s.step.from known (known_from s.step next s.over) (before.there ∙ sym s.from_is) in
        let goes_on : is_terminal network.stops network.stations corp step.to ≡ false
        = elim (cases_Bool (is_terminal network.stops network.stations corp step.to)) [
          | inl stops ↦ absurd (goes (subst (λ n. IsTerminal the_net n) before.there ((terminal_told step.to known).0 stops)))
          | inr passable ↦ passable
        ] in
        let moved : Passes the_net place (named step.to) next = subst (λ n. Passes the_net place n next) (sym before.there) passes in
        let follows : may_follow step s.step ≡ true
        = and_from _ _ (subst (λ n. same_node step.to n ≡ true) meets (same_node-itself step.to)) ((passes_told step s.step place next before.over s.over step.to).1 moved) in
        record {
          step = s.step;
          over = s.over;
          walk = GoesOn step s.step before.walk goes_on (step_among network.links s.step next s.over) follows;
          there = s.to_is;
        }

    one_link : (place : ℕ) → LinkReached the_net IsOpen place ↔ ReachesLink network corp (place + 1)
    one_link place = (
      λ reached.
          let e = WalkTo-holds the_net IsOpen EndsAt at_first at_next place reached.0 reached.1 in
          record { step = e.step; walk = e.walk; over = step-number network.links e.step place e.over },
      λ r.
          let w = walk_from r.step r.walk in
          let n = step-number network.links r.step w.0 w.1 in
          let same : w.0 ≡ place = omega (arith, n, r.over) in
          subst (λ k. LinkReached the_net IsOpen k) same (named r.step.to, w.2),
    )

    one_node : (node : Node) → IsNodeOf network node → NodeReached the_net IsOpen (named node) ↔ ReachesNode network corp node
    one_node node known = (
      λ reached.
          elim reached [
            | inl token ↦ inl ((token_told node known).1 token)
            | inr walk ↦
                let e = WalkTo-holds the_net IsOpen EndsAt at_first at_next walk.0 (named node) walk.1 in
                let same : node ≡ e.step.to = node_told node e.step.to known (known_to e.step walk.0 e.over) (sym e.there) in
                inr (record { step = e.step; walk = e.walk; there = subst (λ n. same_node node n ≡ true) same (same_node-itself node) })
          ],
      λ reached.
          elim reached [
            | inl token ↦ inl ((token_told node known).0 token)
            | inr r ↦
                let w = walk_from r.step r.walk in
                let same : r.step.to ≡ node = sym (same_node-tells node r.step.to r.there) in
                inr (w.0, subst (λ n. WalkTo the_net IsOpen w.0 (named n)) same w.2)
          ],
    )

pub links_are_reached_alike : LinksAreReachedAlike
links_are_reached_alike hexes network corp trains phase lies train place = one_link hexes network corp trains phase lies train place

pub nodes_are_reached_alike : NodesAreReachedAlike
nodes_are_reached_alike hexes network corp trains phase lies train node known = one_node hexes network corp trains phase lies train node known

pub tokens_stand_alike : TokensStandAlike
tokens_stand_alike hexes network corp trains phase lies node known =
    let told = token_told hexes network corp trains phase lies node known in
    (told.1, told.0)

pub terminals_are_alike : TerminalsAreAlike
terminals_are_alike hexes network corp trains phase lies node known =
    let told = terminal_told hexes network corp trains phase lies node known in
    (told.1, told.0)
