-- Adding to a network the links and centres of hexes, parts and edges.
use Rattle.std.proofs.Common.{◌≡◌, ℕ, ◌+◌, ◌<◌, ◌≤◌, List, [], ◌∷◌, ◌++◌, length, map, get_or, take, drop, refl, sym, ◌∙◌, ap, append_assoc, append-nil, arith}
use Rattle.std.specs.Prelude.{flat_map}
use Rattle.std.proofs.lemmas.List.{take_more, map_more, drop_all, at_drop_more, flat_map_more}
use Rattle.rr_kit.specs.declared.board.hex.Hex.{Hex}
use Rattle.rr_kit.specs.declared.board.hex.Place.{Place}
use Rattle.rr_tiles.specs.declared.part.Part.{Part}
use Rattle.rr_tiles.specs.declared.part.Part.TheVariants.{Track as OfTrack, Centre as OfCentre}
use Rattle.rr_desk.specs.declared.layout.layout.Station.{Station}
use Rattle.rr_network.specs.declared.node.Link.{Link}
use Rattle.rr_network.specs.declared.network.Stop.{Stop}
use Rattle.rr_network.specs.Network.{Net, AddsHex, links_in, links_of, stops_in, stops_of, seen_after}

pub adds_nothing : (a : Net) → AddsHex a a [] []
adds_nothing a = record {
  more_links = sym (append-nil a.links);
  more_stops = sym (append-nil a.stops);
  same_stations = refl;
}

-- one after the other
pub adds_then : (a b c : Net) (links more_links : List Link) (stops more_stops : List Stop) → AddsHex a b links stops → AddsHex b c more_links more_stops → AddsHex a c (links ++ more_links) (stops ++ more_stops)
adds_then a b c links more_links stops more_stops f g = record {
  more_links = g.more_links ∙ ap (λ (ls : List Link). ls ++ more_links) f.more_links ∙ append_assoc a.links links more_links;
  more_stops = g.more_stops ∙ ap (λ (ss : List Stop). ss ++ more_stops) f.more_stops ∙ append_assoc a.stops stops more_stops;
  same_stations = g.same_stations ∙ f.same_stations;
}

-- the edge at a place
pub links_next : (start links new : List Link) (link : ℕ → Link) (edges : List ℕ) (i d : ℕ) (more : Link) → links ≡ start ++ map link (take i edges) → i < length edges → more ≡ link (get_or edges i d) → new ≡ links ++ more ∷ [] → new ≡ start ++ map link (take (i + 1) edges)
links_next start links new link edges i d more so_far h e pushed =
    pushed ∙ ap (λ (ls : List Link). ls ++ more ∷ []) so_far ∙ append_assoc start (map link (take i edges)) (more ∷ [])
    ∙ ap (λ (n : Link). start ++ (map link (take i edges) ++ n ∷ [])) e
    ∙ ap (λ (ls : List Link). start ++ ls) (sym (map_more link edges i d h))

flat_map-take : {X Y : Type 0} (f : X → List Y) (xs : List X) (i : ℕ) (d : X) → i < length xs → flat_map f (take i xs) ++ f (get_or xs i d) ≡ flat_map f (take (i + 1) xs)
flat_map-take f xs i d h = flat_map_more f [] (take i xs) (get_or xs i d) ∙ ap (flat_map f) (sym (take_more xs i d h))

-- the hex at a place
pub adds_next_hex : (a b c : Net) (links : Hex → List Link) (stops : Hex → List Stop) (hexes : List Hex) (i : ℕ) (hex : Hex) → AddsHex a b (flat_map links (take i hexes)) (flat_map stops (take i hexes)) → i < length hexes → hex ≡ get_or hexes i hex → AddsHex b c (links hex) (stops hex) → AddsHex a c (flat_map links (take (i + 1) hexes)) (flat_map stops (take (i + 1) hexes))
adds_next_hex a b c links stops hexes i hex f h e g =
    let both = adds_then a b c _ _ _ _ f g in
    record {
      more_links = both.more_links ∙ ap (λ (ls : List Link). a.links ++ ls) (ap (λ (x : Hex). flat_map links (take i hexes) ++ links x) e ∙ flat_map-take links hexes i hex h);
      more_stops = both.more_stops ∙ ap (λ (ss : List Stop). a.stops ++ ss) (ap (λ (x : Hex). flat_map stops (take i hexes) ++ stops x) e ∙ flat_map-take stops hexes i hex h);
      same_stations = both.same_stations;
    }

-- the parts before a place were added, and among them so many centres
pub record IsUnderWay (a b : Net) (hex : Hex) (parts : List Part) (i seen : ℕ) : Type 0 where
  pub few : seen ≤ i
  pub links_left : b.links ++ links_in hex.name hex.place seen (drop i parts) ≡ a.links ++ links_in hex.name hex.place 0 parts
  pub stops_left : b.stops ++ stops_in hex.name seen (drop i parts) ≡ a.stops ++ stops_in hex.name 0 parts
  pub same_stations : b.stations ≡ a.stations

seen_after-le : (seen : ℕ) (part : Part) → seen_after seen part ≤ seen + 1
seen_after-le seen (OfTrack track) = omega arith
seen_after-le seen (OfCentre centre) = omega arith

links_in-drop : (name : List ℕ) (place : Place) (seen : ℕ) (parts : List Part) (i : ℕ) (part : Part) → i < length parts → part ≡ get_or parts i part → links_in name place seen (drop i parts) ≡ links_of name place seen part ++ links_in name place (seen_after seen part) (drop (i + 1) parts)
unfolding links_in
links_in-drop name place seen parts i part h e =
    at_drop_more (links_in name place seen) parts i part h
    ∙ ap (λ (p : Part). links_of name place seen p ++ links_in name place (seen_after seen p) (drop (i + 1) parts)) (sym e)

stops_in-drop : (name : List ℕ) (seen : ℕ) (parts : List Part) (i : ℕ) (part : Part) → i < length parts → part ≡ get_or parts i part → stops_in name seen (drop i parts) ≡ stops_of name seen part ++ stops_in name (seen_after seen part) (drop (i + 1) parts)
unfolding stops_in
stops_in-drop name seen parts i part h e =
    at_drop_more (stops_in name seen) parts i part h
    ∙ ap (λ (p : Part). stops_of name seen p ++ stops_in name (seen_after seen p) (drop (i + 1) parts)) (sym e)

pub parts_first : (a : Net) (hex : Hex) (parts : List Part) → IsUnderWay a a hex parts 0 0
parts_first a hex parts = record { few = omega arith; links_left = refl; stops_left = refl; same_stations = refl }

-- the part at a place
pub parts_next : (a b c : Net) (hex : Hex) (parts : List Part) (i seen after : ℕ) (part : Part) → IsUnderWay a b hex parts i seen → i < length parts → part ≡ get_or parts i part → after ≡ seen_after seen part → AddsHex b c (links_of hex.name hex.place seen part) (stops_of hex.name seen part) → IsUnderWay a c hex parts (i + 1) after
parts_next a b c hex parts i seen after part w h e f g = record {
  few = omega (arith, w.few, seen_after-le seen part);
  links_left =
      ap (λ (n : ℕ). c.links ++ links_in hex.name hex.place n (drop (i + 1) parts)) f
      ∙ ap (λ (ls : List Link). ls ++ links_in hex.name hex.place (seen_after seen part) (drop (i + 1) parts)) g.more_links
      ∙ append_assoc b.links (links_of hex.name hex.place seen part) (links_in hex.name hex.place (seen_after seen part) (drop (i + 1) parts))
      ∙ ap (λ (ls : List Link). b.links ++ ls) (sym (links_in-drop hex.name hex.place seen parts i part h e))
      ∙ w.links_left;
  stops_left =
      ap (λ (n : ℕ). c.stops ++ stops_in hex.name n (drop (i + 1) parts)) f
      ∙ ap (λ (ss : List Stop). ss ++ stops_in hex.name (seen_after seen part) (drop (i + 1) parts)) g.more_stops
      ∙ append_assoc b.stops (stops_of hex.name seen part) (stops_in hex.name (seen_after seen part) (drop (i + 1) parts))
      ∙ ap (λ (ss : List Stop). b.stops ++ ss) (sym (stops_in-drop hex.name seen parts i part h e))
      ∙ w.stops_left;
  same_stations = g.same_stations ∙ w.same_stations;
}

-- no part is left
pub parts_done : (a b : Net) (hex : Hex) (parts : List Part) (i seen : ℕ) → IsUnderWay a b hex parts i seen → length parts ≤ i → AddsHex a b (links_in hex.name hex.place 0 parts) (stops_in hex.name 0 parts)
unfolding links_in stops_in
parts_done a b hex parts i seen w h = record {
  more_links = sym (append-nil b.links) ∙ ap (λ (ps : List Part). b.links ++ links_in hex.name hex.place seen ps) (sym (drop_all i parts h)) ∙ w.links_left;
  more_stops = sym (append-nil b.stops) ∙ ap (λ (ps : List Part). b.stops ++ stops_in hex.name seen ps) (sym (drop_all i parts h)) ∙ w.stops_left;
  same_stations = w.same_stations;
}

-- a network that has all of these added to nothing
pub net_from : (net : Net) (links : List Link) (stops : List Stop) (stations : List Station) (start : Net) → start.links ≡ [] → start.stops ≡ [] → start.stations ≡ stations → AddsHex start net links stops → net ≡ record { links = links; stops = stops; stations = stations }
net_from net links stops stations start e f g h =
    let mk : List Link → List Stop → List Station → Net = λ ls ss ts. record { links = ls; stops = ss; stations = ts } in
    ap (λ (ls : List Link). mk ls net.stops net.stations) (h.more_links ∙ ap (λ (ls : List Link). ls ++ links) e)
    ∙ ap (λ (ss : List Stop). mk links ss net.stations) (h.more_stops ∙ ap (λ (ss : List Stop). ss ++ stops) f)
    ∙ ap (λ (ts : List Station). mk links stops ts) (h.same_stations ∙ g)
