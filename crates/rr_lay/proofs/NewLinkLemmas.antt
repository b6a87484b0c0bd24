-- Only links of the hex on which a tile is laid can be new.
use Rattle.std.proofs.Common.{◌≡◌, ℕ, ◌+◌, ◌||◌, Bool, true, false, List, [], ◌∷◌, ◌++◌, reverse, refl, sym, ◌∙◌, ap, subst, inl, inr, Option}
use Rattle.std.specs.Prelude.{◌⊎◌, All, Contains, bytes_eq, find, flat_map, option_and_then, unwrap_or}
use Rattle.std.proofs.lemmas.Bool.{and_from, cases_Bool, false≢true}
use Rattle.std.proofs.lemmas.Bool.Decides.{Decides-eqb, Decides-int_eq}
use Rattle.std.proofs.lemmas.List.{reverse-append}
use Rattle.std.proofs.lemmas.List.Elements.{All-append, All-cons, All-contains, All-map, All-nil}
use Rattle.std.proofs.lemmas.List.Folds.{list_any-append}
use Rattle.std.proofs.lemmas.Slice.Eq.{bytes_eq-Decides}
use Rattle.rr_kit.specs.declared.board.hex.Hex.{Hex}
use Rattle.rr_kit.specs.declared.board.hex.Place.{Place}
use Rattle.rr_kit.specs.Board.Plan.{Plan}
use Rattle.rr_tiles.specs.declared.part.Part.{Part}
use Rattle.rr_tiles.specs.declared.part.Part.TheVariants.{Track as OfTrack, Centre as OfCentre}
use Rattle.rr_tiles.specs.declared.supply.Supply.{Supply}
use Rattle.rr_desk.specs.declared.layout.layout.Lay.{Lay}
use Rattle.rr_desk.specs.declared.layout.layout.Station.{Station}
use Rattle.rr_desk.specs.Layout.Layout.{last_lay}
use Rattle.rr_network.specs.declared.node.Hexside.{Hexside}
use Rattle.rr_network.specs.declared.node.CentreAt.{CentreAt}
use Rattle.rr_network.specs.declared.node.Link.{Link}
use Rattle.rr_network.specs.declared.node.Node.{Node}
use Rattle.rr_network.specs.declared.node.Node.TheVariants.{Hexside as OfHexside, Centre as OfStop}
use Rattle.rr_network.specs.Network.{edge_link, face_on, hex_links, laid, links_in, links_of, net_of, seen_after}
use Rattle.rr_network.specs.Node.{same_centre, same_hexside, same_node}
use Rattle.rr_lay.specs.Laying.{has_link, same_link}

-- a link is the same as itself
same_hexside_itself : (side : Hexside) → same_hexside side side ≡ true
same_hexside_itself side = and_from _ _ ((Decides-int_eq side.at.q side.at.q).1 refl) (and_from _ _ ((Decides-int_eq side.at.r side.at.r).1 refl) ((Decides-eqb side.edge side.edge).1 refl))

same_centre_itself : (centre : CentreAt) → same_centre centre centre ≡ true
same_centre_itself centre = and_from _ _ ((bytes_eq-Decides centre.hex centre.hex).1 refl) ((Decides-eqb centre.number centre.number).1 refl)

same_node_itself : (node : Node) → same_node node node ≡ true
same_node_itself (OfHexside side) = same_hexside_itself side
same_node_itself (OfStop centre) = same_centre_itself centre

or_left : (a b : Bool) → a ≡ true → (a || b) ≡ true
or_left a b e = rw e refl

or_right : (a b : Bool) → b ≡ true → (a || b) ≡ true
or_right true b e = refl
or_right false b e = e

same_link_itself : (link : Link) → same_link link link ≡ true
same_link_itself link =
    and_from _ _ ((bytes_eq-Decides link.hex link.hex).1 refl) (or_left _ _ (and_from _ _ (same_hexside_itself link.side) (same_node_itself link.end)))

-- so links are found among themselves
found_among : (links : List Link) (P : Link → Type 0) → ((link : Link) → has_link links link ≡ true → P link) → All P links
found_among [] P known = All-nil P
found_among (first ∷ links) P known =
    All-cons P first links (known first (or_left (same_link first first) (has_link links first) (same_link_itself first)))
    (found_among links P (λ link h. known link (or_right (same_link link first) (has_link links link) h)))

-- the links of parts are links of the hex
abbrev IsOn : List ℕ → Link → Type 0
IsOn name link = link.hex ≡ name

links_of-on : (name : List ℕ) (place : Place) (seen : ℕ) (part : Part) → All (IsOn name) (links_of name place seen part)
links_of-on name place seen (OfTrack track) = All-cons (IsOn name) _ [] refl (All-nil (IsOn name))
links_of-on name place seen (OfCentre centre) =
    let stop : Node = OfStop (record { hex = name; number = seen + 1 }) in
    All-map (IsOn name) (edge_link name place stop) centre.edges (λ k d within. refl)

links_in-on : (name : List ℕ) (place : Place) (seen : ℕ) (parts : List Part) → All (IsOn name) (links_in name place seen parts)
unfolding links_in
links_in-on name place seen [] = All-nil (IsOn name)
links_in-on name place seen (part ∷ parts) =
    All-append (IsOn name) (links_of name place seen part) (links_in name place (seen_after seen part) parts) (links_of-on name place seen part) (links_in-on name place (seen_after seen part) parts)

-- a link lies on the hex, or is among the old ones
abbrev IsOnOr : List ℕ → List Link → Link → Type 0
IsOnOr name old link = (bytes_eq link.hex name ≡ true) ⊎ (has_link old link ≡ true)

-- the last lay on a hex, with one lay more
last_lay-more : (lays : List Lay) (lay : Lay) (name : List ℕ) → last_lay (lays ++ lay ∷ []) name ≡ find (λ (l : Lay). bytes_eq l.hex name) (lay ∷ reverse lays)
last_lay-more lays lay name = ap (find (λ (l : Lay). bytes_eq l.hex name)) (reverse-append lays (lay ∷ []))

-- with one lay more the links of one hex are on its hex, or as they were
hex_links-more : (tiles : List Supply) (lays : List Lay) (lay : Lay) (hex : Hex) (old : List Link) → ((link : Link) → has_link (hex_links tiles lays hex) link ≡ true → has_link old link ≡ true)
    → All (IsOnOr lay.hex old) (hex_links tiles (lays ++ lay ∷ []) hex)
hex_links-more tiles lays lay hex old known = elim (cases_Bool (bytes_eq lay.hex hex.name)) [
  | inl here ↦
      let named : hex.name ≡ lay.hex = sym ((bytes_eq-Decides lay.hex hex.name).0 here) in
      λ k d within. inl ((bytes_eq-Decides _ lay.hex).1 (links_in-on hex.name hex.place 0 (face_on tiles (lays ++ lay ∷ []) hex).parts k d within ∙ named))
  | inr elsewhere ↦
      let last : last_lay (lays ++ lay ∷ []) hex.name ≡ last_lay lays hex.name = last_lay-more lays lay hex.name ∙ rw elsewhere refl in
      let links_by : Option Lay → List Link = λ o. links_in hex.name hex.place 0 (unwrap_or (option_and_then (laid tiles) o) hex.tile).parts in
      subst (λ (links : List Link). All (IsOnOr lay.hex old) links) (sym (ap links_by last)) (found_among (hex_links tiles lays hex) (IsOnOr lay.hex old) (λ link h. inr (known link h)))
]

links-more : (tiles : List Supply) (lays : List Lay) (lay : Lay) (hexes : List Hex) (old : List Link) → ((link : Link) → has_link (flat_map (hex_links tiles lays) hexes) link ≡ true → has_link old link ≡ true)
    → All (IsOnOr lay.hex old) (flat_map (hex_links tiles (lays ++ lay ∷ [])) hexes)
links-more tiles lays lay [] old known = All-nil (IsOnOr lay.hex old)
links-more tiles lays lay (hex ∷ hexes) old known =
    let here = hex_links tiles lays hex in
    let others = flat_map (hex_links tiles lays) hexes in
    All-append (IsOnOr lay.hex old) (hex_links tiles (lays ++ lay ∷ []) hex) (flat_map (hex_links tiles (lays ++ lay ∷ [])) hexes)
    (hex_links-more tiles lays lay hex old (λ link h. known link (list_any-append (same_link link) here others ∙ or_left (has_link here link) (has_link others link) h)))
    (links-more tiles lays lay hexes old (λ link h. known link (list_any-append (same_link link) here others ∙ or_right (has_link here link) (has_link others link) h)))

-- so a link that isn't among the old ones lies on the hex
abbrev pub NewOnesLieOn : List Link → List ℕ → List Link → Type 0
NewOnesLieOn old hex links = (link : Link) → Contains links link → has_link old link ≡ false → bytes_eq link.hex hex ≡ true

pub new_ones_lie_on : (plan : Plan) (tiles : List Supply) (lays : List Lay) (stations : List Station) (lay : Lay)
    → NewOnesLieOn (net_of plan tiles (record { lays = lays; stations = stations })).links lay.hex (net_of plan tiles (record { lays = lays ++ lay ∷ []; stations = stations })).links
new_ones_lie_on plan tiles lays stations lay link among is_new =
    let old = flat_map (hex_links tiles lays) plan.hexes in
    elim (All-contains (IsOnOr lay.hex old) (flat_map (hex_links tiles (lays ++ lay ∷ [])) plan.hexes) link (links-more tiles lays lay plan.hexes old (λ l h. h)) among) [
      | inl on ↦ on
      | inr known ↦ absurd (false≢true (sym is_new ∙ known))
    ]
