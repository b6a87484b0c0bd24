-- Lemmas on the fates of links, and on the runs that keep them.
use Rattle.std.proofs.Common.{◌≡◌, ℕ, zero, suc, ◌+◌, ◌<◌, ◌≤◌, List, [], ◌∷◌, length, map, set, refl, ap, sym, subst, ◌∙◌, ◌⊎◌, inl, inr, arith}
use Rattle.std.specs.List.{Contains, range_with_len}
use Rattle.std.proofs.lemmas.Bool.{cases_eq, cases_lt}
use Rattle.std.proofs.lemmas.List.{get_or-replicate, get_or-set_same, get_or-set_other, get_or_past, length-replicate}
use Rattle.rr_routes.specs.declared.net.Node.TheVariants.{Hexside}
use Rattle.rr_routes.specs.declared.certificate.Fate.{Fate}
use Rattle.rr_routes.specs.declared.certificate.Fate.TheVariants.{Open, Denied, Of}
use Rattle.rr_routes.specs.Net.{Net, limit_of}
use Rattle.rr_routes.specs.Routes.{Trip, no_trip, trip_of, Route, Run}
use Rattle.rr_routes.specs.Certificates.{fate_of, Allows, Uses, Keeps, choices, all_open}
use Rattle.rr_routes.proofs.Elements.{Contains-nil, contained}
use Rattle.rr_routes.proofs.Walks.{Walk-Joins, Walk-in_net, Walk-touched}

-- P of some element
abbrev pub SomeOf : {X : Type 0} → (X → Type 0) → List X → Type 0
SomeOf P [] = ⊥
SomeOf P (x ∷ xs) = P x ⊎ SomeOf P xs

-- where a train stays, it uses nothing
pub Uses-none : (run : List Trip) (train link : ℕ) → trip_of run train ≡ no_trip → Uses run train link → ⊥
Uses-none run train link none uses = Contains-nil link (subst (λ trip. Contains trip.links link) none uses)

module _ (net : Net) (run : List Trip) (is_run : Run net run) where
  -- a train that uses a link has a route
  pub Uses-Route : (train link : ℕ) → Uses run train link → Route net (limit_of net train) (trip_of run train)
  Uses-Route train link uses =
      elim (is_run.lawful train) [ inl none ↦ absurd (Uses-none run train link none uses) | inr route ↦ route ]

  -- and is one of the net's
  Uses-train : (train link : ℕ) → Uses run train link → train < length net.trains
  Uses-train train link uses =
      elim (cases_lt train (length run)) [
        | inl in' ↦ subst (λ n. train < n) is_run.complete in'
        | inr past ↦ absurd (Uses-none run train link (get_or_past run train no_trip past) uses)
      ]

  Uses-link : (train link : ℕ) → Uses run train link → link < length net.links
  Uses-link train link uses =
      let route = Uses-Route train link uses in Walk-in_net net route.path.0 link uses

  -- one train at most uses a link
  Uses-one : (one other link : ℕ) → Uses run one link → Uses run other link → one ≡ other
  Uses-one one other link uses also =
      let route = Uses-Route one link uses in let second = Uses-Route other link also in
      let joined = Walk-Joins net route.path.0 link uses in
      let found = joined.2.0 in
      elim (cases_eq one other) [
        | inl same ↦ same
        | inr differ ↦ absurd (is_run.apart one other differ found.side
            (Walk-touched net route.path.0 link (Hexside found.side) uses (found, joined.2.1, inl refl))
            (Walk-touched net second.path.0 link (Hexside found.side) also (found, joined.2.1, inl refl)))
      ]

  -- every run keeps the fates of which none is decided
  pub Keeps-all_open : Keeps (all_open net) run
  Keeps-all_open =
      record {
        within = λ train link uses.
            subst (λ fate. Allows fate train) (sym (get_or-replicate (length net.links) link Open Denied (Uses-link train link uses))) tt;
        all_own = λ train link is. elim (cases_lt link (length net.links)) [
          | inl in' ↦ let opened : fate_of (all_open net) link ≡ Open = get_or-replicate (length net.links) link Open Denied in' in cc
          | inr past ↦ let denied : fate_of (all_open net) link ≡ Denied = get_or_past (all_open net) link Denied (omega (arith, length-replicate (length net.links) Open)) in cc
        ];
      }

  module _ (fates : List Fate) (keeps : Keeps fates run) (link : ℕ) (opened : fate_of fates link ≡ Open) where
    in_fates : link < length fates
    in_fates =
        elim (cases_lt link (length fates)) [
          | inl in' ↦ in'
          | inr past ↦ let denied : fate_of fates link ≡ Denied = get_or_past fates link Denied past in cc
        ]

    fate_at : (choice : Fate) (other : ℕ) → other ≡ link → fate_of (set fates link choice) other ≡ choice
    fate_at choice other same =
        ap (fate_of (set fates link choice)) same ∙ get_or-set_same fates link choice Denied in_fates

    fate_beside : (choice : Fate) (other : ℕ) → (other ≡ link → ⊥) → fate_of (set fates link choice) other ≡ fate_of fates other
    fate_beside choice other differ = get_or-set_other fates link other choice Denied differ

    -- a run keeps the fates of which one more is decided as it goes
    Keeps-set : (choice : Fate) → ((train : ℕ) → Uses run train link → Allows choice train) → ((train : ℕ) → choice ≡ Of train → Uses run train link)
        → Keeps (set fates link choice) run
    Keeps-set choice allowed own =
        record {
          within = λ train other uses. elim (cases_eq other link) [
            | inl same ↦ subst (λ fate. Allows fate train) (sym (fate_at choice other same)) (allowed train (subst (λ l. Uses run train l) same uses))
            | inr differ ↦ subst (λ fate. Allows fate train) (sym (fate_beside choice other differ)) (keeps.within train other uses)
          ];
          all_own = λ train other is. elim (cases_eq other link) [
            | inl same ↦ subst (λ l. Uses run train l) (sym same) (own train (sym (fate_at choice other same) ∙ is))
            | inr differ ↦ keeps.all_own train other (sym (fate_beside choice other differ) ∙ is)
          ];
        }

    Keeps-denied : ((train : ℕ) → train < length net.trains → Uses run train link → ⊥) → Keeps (set fates link Denied) run
    Keeps-denied none =
        Keeps-set Denied (λ train uses. none train (Uses-train train link uses) uses) (λ train is. cc)

    Keeps-owned : (owner : ℕ) → Uses run owner link → Keeps (set fates link (Of owner)) run
    Keeps-owned owner uses =
        Keeps-set (Of owner) (λ train also. Uses-one owner train link uses also)
        (λ train is. let same : owner ≡ train = cc in subst (λ t. Uses run t link) same uses)

    -- one of the trains uses the link, or none of them does
    owned : (first count : ℕ) → SomeOf (λ choice. Keeps (set fates link choice) run) (map Of (range_with_len first count))
        ⊎ ((train : ℕ) → first ≤ train → train < first + count → Uses run train link → ⊥)
    owned first zero = inr (λ train low high uses. omega arith)
    owned first (suc count) =
        elim (contained (trip_of run first).links link) [
          | inl uses ↦ inl (inl (Keeps-owned first uses))
          | inr none ↦ elim (owned (first + 1) count) [
            | inl some ↦ inl (inr some)
            | inr rest ↦ inr (λ train low high uses. elim (cases_eq train first) [
              | inl same ↦ none (subst (λ t. Uses run t link) same uses)
              | inr differ ↦ rest train (omega arith) (omega arith) uses
            ])
          ]
        ]

    -- with an open link decided in one of the ways of a split, the run keeps the fates
    pub Keeps-chosen : SomeOf (λ choice. Keeps (set fates link choice) run) (choices net)
    Keeps-chosen =
        elim (owned 0 (length net.trains)) [
          | inl some ↦ inr some
          | inr none ↦ inl (Keeps-denied (λ train in' uses. none train (omega arith) (omega arith) uses))
        ]
