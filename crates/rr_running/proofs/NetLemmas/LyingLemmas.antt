-- A network lies on the board that it was made of.
use Rattle.std.proofs.Common.{◌≡◌, ℕ, ◌+◌, List, [], ◌∷◌, ◌++◌, map, inl, inr, ◌∙◌, ap}
use Rattle.std.specs.Prelude.{flat_map}
use Rattle.std.specs.List.{Contains}
use Rattle.std.proofs.lemmas.List.Elements.{Contains-append_cases, Contains-append_left, Contains-append_right}
use Rattle.rr_kit.specs.declared.board.hex.Place.{Place}
use Rattle.rr_tiles.specs.declared.part.Part.{Part}
use Rattle.rr_tiles.specs.declared.part.Part.TheVariants.{Track as OfTrack, Centre as OfCentre}
use Rattle.rr_network.specs.declared.network.Stop.{Stop}
use Rattle.rr_network.specs.declared.node.CentreAt.{CentreAt}
use Rattle.rr_network.specs.declared.node.Hexside.{Hexside}
use Rattle.rr_network.specs.declared.node.Link.{Link}
use Rattle.rr_network.specs.declared.node.Node.TheVariants.{Hexside as AtHexside, Centre as AtCentre}
use Rattle.rr_network.specs.Node.{hexside_at}
use Rattle.rr_network.specs.Network.{edge_link, face_on, hex_links, hex_stops, links_in, links_of, seen_after, stops_in, stops_of, track_link}
use Rattle.rr_routes.proofs.Elements.{Contains-cases, Contains-here, Contains-nil, Contains-single, Contains-there}
use Rattle.rr_running.specs.Net.Reaching.{NetworksLieOnBoards}
use Rattle.rr_running.specs.Net.Telling.{HasCentre}
use Rattle.rr_running.proofs.NetLemmas.TellingLemmas.{Contains-flat_map}

-- what is among all that elements add was added by one of them
Contains-from_flat_map : {X Y : Type 0} (f : X → List Y) (xs : List X) (y : Y) → Contains (flat_map f xs) y → (x : X) × Contains xs x × Contains (f x) y
Contains-from_flat_map f [] y c = absurd (Contains-nil y c)
Contains-from_flat_map f (first ∷ xs) y c =
    elim (Contains-append_cases (f first) (flat_map f xs) y c) [
      | inl here ↦ (first, Contains-here first xs, here)
      | inr later ↦ let rest = Contains-from_flat_map f xs y later in (rest.0, Contains-there first xs rest.0 rest.1, rest.2)
    ]

Contains-from_map : {X Y : Type 0} (f : X → Y) (xs : List X) (y : Y) → Contains (map f xs) y → (x : X) × (f x ≡ y)
Contains-from_map f [] y c = absurd (Contains-nil y c)
Contains-from_map f (first ∷ xs) y c =
    elim (Contains-cases (f first) (map f xs) y c) [
      | inl is ↦ (first, is)
      | inr later ↦ Contains-from_map f xs y later
    ]

no_centre : (side : Hexside) (at : CentreAt) → AtHexside side ≡ AtCentre at → ⊥
no_centre side at e = cc

one_centre : (at other : CentreAt) → AtCentre at ≡ AtCentre other → at ≡ other
one_centre at other e = cc

-- the link is of the hex of that name, and a centre at its end is among these
record IsOn (name : List ℕ) (stops : List Stop) (link : Link) : Type 0 where
  pub hex : name ≡ link.hex
  pub centre : (at : CentreAt) → link.end ≡ AtCentre at → HasCentre stops at

on_more : (name : List ℕ) (stops more : List Stop) (link : Link) → IsOn name stops link → ((stop : Stop) → Contains stops stop → Contains more stop) → IsOn name more link
on_more name stops more link on within =
    record {
      hex = on.hex;
      centre = λ at e. let h = on.centre at e in record { stop = h.stop; among = within h.stop h.among; there = h.there };
    }

on_part : (name : List ℕ) (place : Place) (seen : ℕ) (part : Part) (link : Link) → Contains (links_of name place seen part) link → IsOn name (stops_of name seen part) link
on_part name place seen (OfTrack track) link c =
    let is : track_link name place track ≡ link = Contains-single (track_link name place track) link c in
    record {
      hex = ap (λ (l : Link). l.hex) is;
      centre = λ at e. absurd (no_centre (hexside_at place track.to) at (ap (λ (l : Link). l.end) is ∙ e));
    }
on_part name place seen (OfCentre centre) link c =
    let here : CentreAt = record { hex = name; number = seen + 1 } in
    let stop : Stop = record { at = here; kind = centre.kind; value = centre.value } in
    let m = Contains-from_map (edge_link name place (AtCentre here)) centre.edges link c in
    record {
      hex = ap (λ (l : Link). l.hex) m.1;
      centre = λ at e. record { stop = stop; among = Contains-here stop []; there = one_centre here at (ap (λ (l : Link). l.end) m.1 ∙ e) };
    }

on_parts : (name : List ℕ) (place : Place) (seen : ℕ) (parts : List Part) (link : Link) → Contains (links_in name place seen parts) link → IsOn name (stops_in name seen parts) link
unfolding links_in stops_in
on_parts name place seen [] link c = absurd (Contains-nil link c)
on_parts name place seen (part ∷ parts) link c =
    let first : List Stop = stops_of name seen part in
    let rest : List Stop = stops_in name (seen_after seen part) parts in
    elim (Contains-append_cases (links_of name place seen part) (links_in name place (seen_after seen part) parts) link c) [
      | inl here ↦ on_more name first (first ++ rest) link (on_part name place seen part link here) (λ stop d. Contains-append_left first rest stop d)
      | inr later ↦ on_more name rest (first ++ rest) link (on_parts name place (seen_after seen part) parts link later) (λ stop d. Contains-append_right first rest stop d)
    ]

pub networks_lie_on_boards : NetworksLieOnBoards
networks_lie_on_boards plan tiles placed link c =
    let h = Contains-from_flat_map (hex_links tiles placed.lays) plan.hexes link c in
    let on = on_parts h.0.name h.0.place 0 (face_on tiles placed.lays h.0).parts link h.2 in
    record {
      hex = record { hex = h.0; among = h.1; named = on.hex };
      centre = λ at e.
          let stop = on.centre at e in
          record {
            stop = stop.stop;
            among = Contains-flat_map (hex_stops tiles placed.lays) plan.hexes h.0 stop.stop h.1 stop.among;
            there = stop.there;
          };
    }
