-- Hexsides, centres and hexes are told apart by their places.
use Rattle.std.proofs.Common.{◌≡◌, ℕ, ◌<◌, ◌⊎◌, true, List, [], ◌∷◌, length, inl, inr, refl, sym, ◌∙◌, ap, subst}
use Rattle.std.specs.Prelude.{flat_map}
use Rattle.std.specs.List.{Contains}
use Rattle.std.proofs.lemmas.Bool.{and_parts, and_from, eqb-true, eq-eqb}
use Rattle.std.proofs.lemmas.List.Elements.{Contains-append_left, Contains-append_right}
use Rattle.std.proofs.lemmas.Slice.Eq.{bytes_eq-Decides}
use Rattle.rr_kit.specs.declared.board.hex.Hex.{Hex}
use Rattle.rr_kit.specs.Board.Plan.{has_name}
use Rattle.rr_network.specs.declared.network.Stop.{Stop}
use Rattle.rr_network.specs.declared.node.CentreAt.{CentreAt}
use Rattle.rr_network.specs.declared.node.Hexside.{Hexside}
use Rattle.rr_network.specs.declared.node.Link.{Link}
use Rattle.rr_network.specs.declared.node.Node.TheVariants.{Hexside as OfHexside}
use Rattle.rr_network.specs.Node.{same_centre, same_hexside}
use Rattle.rr_network.proofs.FacingLemmas.{is_test_of_hexsides}
use Rattle.rr_routes.proofs.Elements.{Contains-here, Contains-there, Contains-cases, Contains-nil}
use Rattle.rr_running.specs.Net.Joining.{centre_place, end_sides, hex_place, is_stop_at, side_place, sides_in, sides_of}
use Rattle.rr_running.specs.Net.Telling.{CentresAreToldApart, HasCentre, HexesAreToldApart, HexsidesAreToldApart, IsOnBoard, Touch}
use Rattle.rr_running.proofs.NetLemmas.PlaceLemmas.{first_inside, told_apart}

-- what an element adds is among what all add
pub Contains-flat_map : {X Y : Type 0} (f : X → List Y) (xs : List X) (x : X) (y : Y) → Contains xs x → Contains (f x) y → Contains (flat_map f xs) y
Contains-flat_map f [] x y c d = absurd (Contains-nil x c)
Contains-flat_map f (first ∷ xs) x y c d =
    elim (Contains-cases first xs x c) [
      | inl is ↦ Contains-append_left (f first) (flat_map f xs) y (subst (λ z. Contains (f z) y) (sym is) d)
      | inr later ↦ Contains-append_right (f first) (flat_map f xs) y (Contains-flat_map f xs x y later d)
    ]

pub side_among : (links : List Link) (side : Hexside) → Touch links side → Contains (sides_in links) side
side_among links side t = Contains-flat_map sides_of links t.link side t.among (at_end t.there)
  where
    at_end : (side ≡ t.link.side) ⊎ (t.link.end ≡ OfHexside side) → Contains (sides_of t.link) side
    at_end there =
        elim there [
          | inl is ↦ subst (λ s. Contains (sides_of t.link) s) (sym is) (Contains-here t.link.side (end_sides t.link.end))
          | inr is ↦ Contains-there t.link.side (end_sides t.link.end) side (subst (λ n. Contains (end_sides n) side) (sym is) (Contains-here side []))
        ]

pub side_inside : (links : List Link) (side : Hexside) → Touch links side → side_place (sides_in links) side < length (sides_in links)
side_inside links side t = first_inside (same_hexside side) (sides_in links) side (side_among links side t) ((is_test_of_hexsides side side).1 refl)

pub hexsides_are_told_apart : HexsidesAreToldApart
hexsides_are_told_apart links side other t u = (
  λ same. told_apart same_hexside (λ s. s) (sides_in links) side other (λ subject s passes. sym ((is_test_of_hexsides subject s).0 passes)) (side_inside links side t) same side,
  λ same. ap (λ s. side_place (sides_in links) s) same,
)

centre_from : (at other : CentreAt) → at.hex ≡ other.hex → at.number ≡ other.number → at ≡ other
centre_from at other e f =
    let of : List ℕ → ℕ → CentreAt = λ hex number. record { hex = hex; number = number } in
    ap (λ (hex : List ℕ). of hex at.number) e ∙ ap (λ (number : ℕ). of other.hex number) f

pub same_centre-tells : (at other : CentreAt) → same_centre at other ≡ true → at ≡ other
same_centre-tells at other passed =
    let both = and_parts _ _ passed in
    centre_from at other ((bytes_eq-Decides at.hex other.hex).0 both.0) (eqb-true _ _ both.1)

pub same_centre-itself : (at : CentreAt) → same_centre at at ≡ true
same_centre-itself at = and_from _ _ ((bytes_eq-Decides at.hex at.hex).1 refl) (eq-eqb at.number at.number refl)

pub centre_inside : (stops : List Stop) (at : CentreAt) → HasCentre stops at → centre_place stops at < length stops
centre_inside stops at h = first_inside (is_stop_at at) stops h.stop h.among (subst (λ (c : CentreAt). same_centre c at ≡ true) (sym h.there) (same_centre-itself at))

pub centres_are_told_apart : CentresAreToldApart
centres_are_told_apart stops at other h k = (
  λ same. told_apart is_stop_at (λ (stop : Stop). stop.at) stops at other (λ subject stop passes. same_centre-tells stop.at subject passes) (centre_inside stops at h) same h.stop,
  λ same. ap (λ c. centre_place stops c) same,
)

pub hex_inside : (hexes : List Hex) (name : List ℕ) → IsOnBoard hexes name → hex_place hexes name < length hexes
hex_inside hexes name h = first_inside (has_name name) hexes h.hex h.among ((bytes_eq-Decides h.hex.name name).1 h.named)

pub hexes_are_told_apart : HexesAreToldApart
hexes_are_told_apart hexes name other h k = (
  λ same. told_apart has_name (λ (hex : Hex). hex.name) hexes name other (λ subject hex passes. (bytes_eq-Decides hex.name subject).0 passes) (hex_inside hexes name h) same h.hex,
  λ same. ap (λ n. hex_place hexes n) same,
)
