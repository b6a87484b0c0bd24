-- Which edges are one hexside.
use Rattle.std.proofs.Common.{◌≡◌, ℕ, ◌+◌, ◌%◌, ◌<◌, ◌≤◌, ◌⊎◌, true, inl, inr, refl, sym, ◌∙◌, ap, subst, zero, suc, ℤ, arith}
use Rattle.std.proofs.lemmas.Int.{ints}
use Rattle.std.proofs.lemmas.Bool.{and_parts, and_from, eqb-true, eq-eqb}
use Rattle.std.proofs.lemmas.Bool.Decides.{Decides-int_eq}
use Rattle.rr_kit.specs.declared.board.hex.Place.{Place}
use Rattle.rr_network.specs.declared.node.Hexside.{Hexside}
use Rattle.rr_network.specs.Node.{across, hexside_at, same_hexside}
use Rattle.rr_network.specs.Facing.{AreOne, Faces, FaceEachOther, IsTestOfHexsides, ShareHexsides}

place_from : (place other : Place) → place.q ≡ other.q → place.r ≡ other.r → place ≡ other
place_from place other e f =
    let of : ℤ → ℤ → Place = λ q r. record { q = q; r = r } in
    ap (λ (q : ℤ). of q place.r) e ∙ ap (λ (r : ℤ). of other.q r) f

hexside_from : (side other : Hexside) → side.at.q ≡ other.at.q → side.at.r ≡ other.at.r → side.edge ≡ other.edge → side ≡ other
hexside_from side other e f g =
    let of : ℤ → ℤ → ℕ → Hexside = λ q r edge. record { at = record { q = q; r = r }; edge = edge } in
    ap (λ (q : ℤ). of q side.at.r side.edge) e ∙ ap (λ (r : ℤ). of other.at.q r side.edge) f ∙ ap (λ (edge : ℕ). of other.at.q other.at.r edge) g

-- the hexsides of two edges are named from the same place
record SamePlace (side other : Hexside) : Type 0 where
  pub column : side.at.q ≡ other.at.q
  pub row : side.at.r ≡ other.at.r

-- the lower three edges name their hexsides, and the upper three have those of the edges across
edge_of : (place : Place) (edge : ℕ) → edge < 6 → ((edge < 3) × ((hexside_at place edge).edge ≡ edge)) ⊎ ((3 ≤ edge) × ((hexside_at place edge).edge + 3 ≡ edge))
edge_of place zero h = inl (omega arith, refl)
edge_of place (suc zero) h = inl (omega arith, refl)
edge_of place (suc (suc zero)) h = inl (omega arith, refl)
edge_of place (suc (suc (suc zero))) h = inr (omega arith, refl)
edge_of place (suc (suc (suc (suc zero)))) h = inr (omega arith, refl)
edge_of place (suc (suc (suc (suc (suc zero))))) h = inr (omega arith, refl)
edge_of place (suc (suc (suc (suc (suc (suc n)))))) h = absurd (omega arith)

one : (place other : Place) (edge : ℕ) → edge < 6 → SamePlace (hexside_at place edge) (hexside_at other edge) → (place.q ≡ other.q) × (place.r ≡ other.r)
one place other zero h s = (s.column, s.row)
one place other (suc zero) h s = (s.column, s.row)
one place other (suc (suc zero)) h s = (s.column, s.row)
one place other (suc (suc (suc zero))) h s = (omega (arith, ints, s.column), omega (arith, ints, s.row))
one place other (suc (suc (suc (suc zero)))) h s = (omega (arith, ints, s.column), omega (arith, ints, s.row))
one place other (suc (suc (suc (suc (suc zero))))) h s = (omega (arith, ints, s.column), omega (arith, ints, s.row))
one place other (suc (suc (suc (suc (suc (suc n)))))) h s = absurd (omega arith)

-- a lower edge shares its hexside with the upper edge that it faces
lower : (place other : Place) (edge : ℕ) → edge < 3 → SamePlace (hexside_at place edge) (hexside_at other (edge + 3)) → Faces place edge other (edge + 3)
lower place other zero h s = record { column = omega (arith, ints, s.column); row = omega (arith, ints, s.row); three_on = refl }
lower place other (suc zero) h s = record { column = omega (arith, ints, s.column); row = omega (arith, ints, s.row); three_on = refl }
lower place other (suc (suc zero)) h s = record { column = omega (arith, ints, s.column); row = omega (arith, ints, s.row); three_on = refl }
lower place other (suc (suc (suc n))) h s = absurd (omega arith)

upper : (place other : Place) (facing : ℕ) → facing < 3 → SamePlace (hexside_at place (facing + 3)) (hexside_at other facing) → Faces place (facing + 3) other facing
upper place other zero h s = record { column = sym s.column; row = sym s.row; three_on = refl }
upper place other (suc zero) h s = record { column = sym s.column; row = sym s.row; three_on = refl }
upper place other (suc (suc zero)) h s = record { column = sym s.column; row = sym s.row; three_on = refl }
upper place other (suc (suc (suc n))) h s = absurd (omega arith)

-- two edges of one number, or three apart
apart : (edge facing : ℕ) → edge < 6 → facing < 6 → (place other : Place) → (hexside_at place edge).edge ≡ (hexside_at other facing).edge
    → (edge ≡ facing) ⊎ (((edge < 3) × (edge + 3 ≡ facing)) ⊎ ((facing < 3) × (facing + 3 ≡ edge)))
apart edge facing h k place other same =
    elim (edge_of place edge h) [
      | inl low ↦
          elim (edge_of other facing k) [
            | inl low' ↦ inl (sym low.1 ∙ same ∙ low'.1)
            | inr high ↦ inr (inl (low.0, ap (λ (n : ℕ). n + 3) (sym low.1 ∙ same) ∙ high.1))
          ]
      | inr high ↦
          elim (edge_of other facing k) [
            | inl low ↦ inr (inr (low.0, ap (λ (n : ℕ). n + 3) (sym low.1 ∙ sym same) ∙ high.1))
            | inr high' ↦ inl (sym high.1 ∙ ap (λ (n : ℕ). n + 3) same ∙ high'.1)
          ]
    ]

shared : (place other : Place) (edge facing : ℕ) → edge < 6 → facing < 6 → hexside_at place edge ≡ hexside_at other facing
    → AreOne place edge other facing ⊎ Faces place edge other facing
shared place other edge facing h k same =
    let there : SamePlace (hexside_at place edge) (hexside_at other facing) =
    record { column = ap (λ (side : Hexside). side.at.q) same; row = ap (λ (side : Hexside). side.at.r) same } in
    elim (apart edge facing h k place other (ap (λ (side : Hexside). side.edge) same)) [
      | inl e ↦
          let both = one place other edge h (subst (λ (n : ℕ). SamePlace (hexside_at place edge) (hexside_at other n)) (sym e) there) in
          inl (place_from place other both.0 both.1, e)
      | inr (inl low) ↦
          inr (subst (λ (n : ℕ). Faces place edge other n) low.1
          (lower place other edge low.0 (subst (λ (n : ℕ). SamePlace (hexside_at place edge) (hexside_at other n)) (sym low.1) there)))
      | inr (inr high) ↦
          inr (subst (λ (n : ℕ). Faces place n other facing) high.1
          (upper place other facing high.0 (subst (λ (n : ℕ). SamePlace (hexside_at place n) (hexside_at other facing)) (sym high.1) there)))
    ]

faced : (place other : Place) (edge : ℕ) → edge < 6 → other.q ≡ (across place edge).q → other.r ≡ (across place edge).r
    → hexside_at place edge ≡ hexside_at other ((edge + 3) % 6)
faced place other zero h e f = hexside_from _ _ (omega (arith, ints, e)) (omega (arith, ints, f)) refl
faced place other (suc zero) h e f = hexside_from _ _ (omega (arith, ints, e)) (omega (arith, ints, f)) refl
faced place other (suc (suc zero)) h e f = hexside_from _ _ (omega (arith, ints, e)) (omega (arith, ints, f)) refl
faced place other (suc (suc (suc zero))) h e f = hexside_from _ _ (sym e) (sym f) refl
faced place other (suc (suc (suc (suc zero)))) h e f = hexside_from _ _ (sym e) (sym f) refl
faced place other (suc (suc (suc (suc (suc zero))))) h e f = hexside_from _ _ (sym e) (sym f) refl
faced place other (suc (suc (suc (suc (suc (suc n)))))) h e f = absurd (omega arith)

pub share_hexsides : ShareHexsides
share_hexsides place other edge facing h k = (
  shared place other edge facing h k,
  λ either.
      elim either [
        | inl same ↦ ap (λ (p : Place). hexside_at p edge) same.0 ∙ ap (λ (n : ℕ). hexside_at other n) same.1
        | inr f ↦ subst (λ (n : ℕ). hexside_at place edge ≡ hexside_at other n) (sym f.three_on) (faced place other edge h f.column f.row)
      ],
)

back : (place other : Place) (edge : ℕ) → edge < 6 → other.q ≡ (across place edge).q → other.r ≡ (across place edge).r → Faces other ((edge + 3) % 6) place edge
back place other zero h e f = record { column = omega (arith, ints, e); row = omega (arith, ints, f); three_on = refl }
back place other (suc zero) h e f = record { column = omega (arith, ints, e); row = omega (arith, ints, f); three_on = refl }
back place other (suc (suc zero)) h e f = record { column = omega (arith, ints, e); row = omega (arith, ints, f); three_on = refl }
back place other (suc (suc (suc zero))) h e f = record { column = omega (arith, ints, e); row = omega (arith, ints, f); three_on = refl }
back place other (suc (suc (suc (suc zero)))) h e f = record { column = omega (arith, ints, e); row = omega (arith, ints, f); three_on = refl }
back place other (suc (suc (suc (suc (suc zero))))) h e f = record { column = omega (arith, ints, e); row = omega (arith, ints, f); three_on = refl }
back place other (suc (suc (suc (suc (suc (suc n)))))) h e f = absurd (omega arith)

pub face_each_other : FaceEachOther
face_each_other place other edge facing h f = subst (λ (n : ℕ). Faces other n place edge) (sym f.three_on) (back place other edge h f.column f.row)

pub is_test_of_hexsides : IsTestOfHexsides
is_test_of_hexsides side other = (told, λ same. subst (λ (s : Hexside). same_hexside side s ≡ true) same (itself side))
  where
    told : same_hexside side other ≡ true → side ≡ other
    told passed =
        let outer = and_parts _ _ passed in
        let inner = and_parts _ _ outer.1 in
        hexside_from side other ((Decides-int_eq _ _).0 outer.0) ((Decides-int_eq _ _).0 inner.0) (eqb-true _ _ inner.1)

    itself : (s : Hexside) → same_hexside s s ≡ true
    itself s = and_from _ _ ((Decides-int_eq s.at.q s.at.q).1 refl) (and_from _ _ ((Decides-int_eq s.at.r s.at.r).1 refl) (eq-eqb s.edge s.edge refl))
