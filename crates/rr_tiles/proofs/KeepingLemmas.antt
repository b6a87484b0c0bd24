-- The tests tell exactly what a turned tile keeps.
use Rattle.std.proofs.Common.{◌≡◌, ℕ, ◌<◌, zero, suc, refl, sym, ap, ◌∙◌, Bool, true, false, List, [], ◌∷◌, length, map, get_or, inl, inr, Option, Some, None, MatchOption, arith}
use denote.Ref.{Bor}
use Rattle.std.specs.Prelude.{not, is_some, All, Contains}
use Rattle.std.specs.List.{AllZip}
use Rattle.std.proofs.lemmas.Bool.{and_parts, and_from, or_cases, or_left, or_right, eqb-true, eq-eqb, not-true, not-false, leb-true, le-leb}
use Rattle.std.proofs.lemmas.List.Elements.{All-contains, All-contains_itself, All-weaker}
use Rattle.std.proofs.lemmas.List.Folds.{Any-from_list_any, list_any-from_Any}
use Rattle.std.proofs.lemmas.List.Sums.{AllPass-from_list_all, list_all-from_AllPass}
use Rattle.rr_tiles.specs.Edge.{turned_edge}
use Rattle.rr_tiles.specs.Tile.{Face, IsSameTrack, centres_of, has_track, is_same_track, is_track_of, turned, turned_centre, turned_part}
use Rattle.rr_tiles.specs.Keeping.{HasTrack, KeepsKind, KeepsCentre, Keeps, has_turned_track, keeps_track, keeps_tracks, has_turned_edge, keeps_edges, keeps_kind, keeps_centre, keeps_centres}
use Rattle.rr_tiles.specs.declared.part.Track.{Track}
use Rattle.rr_tiles.specs.declared.part.Centre.{Centre}
use Rattle.rr_tiles.specs.declared.part.Kind.{Kind}
use Rattle.rr_tiles.specs.declared.part.Kind.TheVariants.{Town, City, OffBoard}
use Rattle.rr_tiles.specs.declared.part.Part.{Part}
use Rattle.rr_tiles.specs.declared.part.Part.TheVariants.{Track as OfTrack, Centre as OfCentre}

pub IsSameTrack-tested : (track other : Track) → is_same_track track other ≡ true → IsSameTrack track other
IsSameTrack-tested track other holds =
    elim (or_cases _ _ holds) [
      | inl along ↦ let p = and_parts _ _ along in inl (eqb-true _ _ p.0, eqb-true _ _ p.1)
      | inr back ↦ let p = and_parts _ _ back in inr (eqb-true _ _ p.0, eqb-true _ _ p.1)
    ]

pub is_same_track-same : (track other : Track) → IsSameTrack track other → is_same_track track other ≡ true
is_same_track-same track other same =
    elim same [
      | inl p ↦ or_left _ _ (and_from _ _ (eq-eqb _ _ p.0) (eq-eqb _ _ p.1))
      | inr p ↦ or_right _ _ (and_from _ _ (eq-eqb _ _ p.0) (eq-eqb _ _ p.1))
    ]

IsSameTrack-through : (a b c : Track) → IsSameTrack a b → IsSameTrack b c → IsSameTrack a c
IsSameTrack-through a b c first second =
    elim first [
      | inl p ↦ elim second [ inl q ↦ inl (p.0 ∙ q.0, p.1 ∙ q.1) | inr q ↦ inr (p.0 ∙ q.0, p.1 ∙ q.1) ]
      | inr p ↦ elim second [ inl q ↦ inr (p.0 ∙ q.1, p.1 ∙ q.0) | inr q ↦ inl (p.0 ∙ q.1, p.1 ∙ q.0) ]
    ]

HasTrack-at : (parts : List Part) (track : Track) (part : Part) → Contains parts part → is_track_of track part ≡ true → HasTrack parts track
HasTrack-at parts track (OfTrack other) among holds = record { other = other; among = among; same = IsSameTrack-tested track other holds }
HasTrack-at parts track (OfCentre centre) among holds = absurd (cc)

pub HasTrack-tested : (parts : List Part) (track : Track) → has_track parts track ≡ true → HasTrack parts track
HasTrack-tested parts track holds =
    let found = Any-from_list_any (is_track_of track) parts holds in
    HasTrack-at parts track found.1 (found.0, found.2, found.3) found.4

pub has_track-has : (parts : List Part) (track : Track) → HasTrack parts track → has_track parts track ≡ true
has_track-has parts track has =
    list_any-from_Any (is_track_of track) parts (has.among.0, OfTrack has.other, has.among.1, has.among.2, is_same_track-same track has.other has.same)

has_turned_track-map : (turn : ℕ) (parts : List Part) (track : Track) → has_turned_track turn parts track ≡ has_track (map (turned_part turn) parts) track
has_turned_track-map turn [] track = refl
has_turned_track-map turn (OfTrack other ∷ rest) track = rw (has_turned_track-map turn rest track) refl
has_turned_track-map turn (OfCentre centre ∷ rest) track = rw (has_turned_track-map turn rest track) refl

tracks-tested : (turn : ℕ) (old new : List Part) → keeps_tracks turn new old ≡ true → (track : Track) → HasTrack old track → HasTrack (map (turned_part turn) new) track
tracks-tested turn old new holds track has =
    let all = AllPass-from_list_all (keeps_track turn new) old holds in
    let kept : keeps_track turn new (OfTrack has.other) ≡ true = All-contains (λ part. keeps_track turn new part ≡ true) old (OfTrack has.other) all has.among in
    let third = HasTrack-tested (map (turned_part turn) new) has.other (sym (has_turned_track-map turn new has.other) ∙ kept) in
    record { other = third.other; among = third.among; same = IsSameTrack-through track has.other third.other has.same third.same }

keeps_track-kept : (turn : ℕ) (old new : List Part) → ((track : Track) → HasTrack old track → HasTrack (map (turned_part turn) new) track) → (part : Part) → Contains old part → keeps_track turn new part ≡ true
keeps_track-kept turn old new kept (OfTrack track) among =
    has_turned_track-map turn new track ∙ has_track-has _ track (kept track (record { other = track; among = among; same = inl (refl, refl) }))
keeps_track-kept turn old new kept (OfCentre centre) among = refl

keeps_tracks-kept : (turn : ℕ) (old new : List Part) → ((track : Track) → HasTrack old track → HasTrack (map (turned_part turn) new) track) → keeps_tracks turn new old ≡ true
keeps_tracks-kept turn old new kept =
    list_all-from_AllPass (keeps_track turn new) old (All-weaker (Contains old) (λ part. keeps_track turn new part ≡ true) (keeps_track-kept turn old new kept) old (All-contains_itself old))

edge-tested : (turn : ℕ) (new : List ℕ) (edge : ℕ) → has_turned_edge turn new edge ≡ true → Contains (map (turned_edge turn) new) edge
edge-tested turn [] edge holds = absurd (cc)
edge-tested turn (first ∷ rest) edge holds =
    elim (or_cases _ _ holds) [
      | inl here ↦ (0, omega arith, eqb-true _ _ here)
      | inr there ↦ let more = edge-tested turn rest edge there in (suc more.0, omega (arith, more.1), more.2)
    ]

has_turned_edge-at : (turn : ℕ) (new : List ℕ) (edge k : ℕ) → k < length (map (turned_edge turn) new) → get_or (map (turned_edge turn) new) k edge ≡ edge → has_turned_edge turn new edge ≡ true
has_turned_edge-at turn [] edge k within at = absurd (omega arith)
has_turned_edge-at turn (first ∷ rest) edge zero within at = or_left _ _ (eq-eqb _ _ at)
has_turned_edge-at turn (first ∷ rest) edge (suc k) within at = or_right _ _ (has_turned_edge-at turn rest edge k (omega arith) at)

edges-tested : (turn : ℕ) (old new : List ℕ) → keeps_edges turn new old ≡ true → All (Contains (map (turned_edge turn) new)) old
edges-tested turn old new holds =
    All-weaker (λ edge. has_turned_edge turn new edge ≡ true) (Contains (map (turned_edge turn) new)) (edge-tested turn new) old (AllPass-from_list_all (has_turned_edge turn new) old holds)

keeps_edges-kept : (turn : ℕ) (old new : List ℕ) → All (Contains (map (turned_edge turn) new)) old → keeps_edges turn new old ≡ true
keeps_edges-kept turn old new kept =
    list_all-from_AllPass (has_turned_edge turn new) old (All-weaker (Contains (map (turned_edge turn) new)) (λ edge. has_turned_edge turn new edge ≡ true) (λ edge among. has_turned_edge-at turn new edge among.0 among.1 among.2) old kept)

kind-tested : (old new : Kind) → keeps_kind old new ≡ true → KeepsKind old new
kind-tested Town Town holds = tt
kind-tested Town (City more) holds = absurd (cc)
kind-tested Town (OffBoard other) holds = absurd (cc)
kind-tested (City slots) Town holds = absurd (cc)
kind-tested (City slots) (City more) holds = leb-true slots more holds
kind-tested (City slots) (OffBoard other) holds = absurd (cc)
kind-tested (OffBoard later) Town holds = absurd (cc)
kind-tested (OffBoard later) (City more) holds = absurd (cc)
kind-tested (OffBoard later) (OffBoard other) holds = tt

keeps_kind-kept : (old new : Kind) → KeepsKind old new → keeps_kind old new ≡ true
keeps_kind-kept Town Town kept = refl
keeps_kind-kept Town (City more) kept = absurd kept
keeps_kind-kept Town (OffBoard other) kept = absurd kept
keeps_kind-kept (City slots) Town kept = absurd kept
keeps_kind-kept (City slots) (City more) kept = le-leb slots more kept
keeps_kind-kept (City slots) (OffBoard other) kept = absurd kept
keeps_kind-kept (OffBoard later) Town kept = absurd kept
keeps_kind-kept (OffBoard later) (City more) kept = absurd kept
keeps_kind-kept (OffBoard later) (OffBoard other) kept = refl

centres-tested : (turn : ℕ) (old new : List Centre) → keeps_centres turn old new ≡ true → AllZip KeepsCentre old (map (turned_centre turn) new)
unfolding keeps_centres
centres-tested turn [] [] holds = tt
centres-tested turn [] (new ∷ news) holds = absurd (cc)
centres-tested turn (old ∷ olds) [] holds = absurd (cc)
centres-tested turn (old ∷ olds) (new ∷ news) holds =
    let p = and_parts _ _ holds in
    let q = and_parts _ _ p.0 in
    (record { kind = kind-tested old.kind new.kind q.0; edges = edges-tested turn old.edges new.edges q.1 }, centres-tested turn olds news p.1)

keeps_centres-kept : (turn : ℕ) (old new : List Centre) → AllZip KeepsCentre old (map (turned_centre turn) new) → keeps_centres turn old new ≡ true
unfolding keeps_centres
keeps_centres-kept turn [] [] kept = refl
keeps_centres-kept turn [] (new ∷ news) kept = absurd kept
keeps_centres-kept turn (old ∷ olds) [] kept = absurd kept
keeps_centres-kept turn (old ∷ olds) (new ∷ news) kept =
    and_from _ _ (and_from _ _ (keeps_kind-kept old.kind new.kind kept.0.kind) (keeps_edges-kept turn old.edges new.edges kept.0.edges)) (keeps_centres-kept turn olds news kept.1)

centres_of-turned : (turn : ℕ) (parts : List Part) → centres_of (map (turned_part turn) parts) ≡ map (turned_centre turn) (centres_of parts)
centres_of-turned turn [] = refl
centres_of-turned turn (OfTrack track ∷ rest) = centres_of-turned turn rest
centres_of-turned turn (OfCentre centre ∷ rest) = ap (λ more. turned_centre turn centre ∷ more) (centres_of-turned turn rest)

pub Keeps-tested : (turn : ℕ) (old new : Face) → old.label ≡ new.label → keeps_tracks turn new.parts old.parts ≡ true → keeps_centres turn (centres_of old.parts) (centres_of new.parts) ≡ true → Keeps old (turned turn new)
Keeps-tested turn old new label tracks centres = record {
  tracks = tracks-tested turn old.parts new.parts tracks;
  label = sym label;
  centres = rw (centres_of-turned turn new.parts) (centres-tested turn (centres_of old.parts) (centres_of new.parts) centres);
}

pub keeps_tracks-keeps : (turn : ℕ) (old new : Face) → Keeps old (turned turn new) → keeps_tracks turn new.parts old.parts ≡ true
keeps_tracks-keeps turn old new kept = keeps_tracks-kept turn old.parts new.parts kept.tracks

pub keeps_centres-keeps : (turn : ℕ) (old new : Face) → Keeps old (turned turn new) → keeps_centres turn (centres_of old.parts) (centres_of new.parts) ≡ true
keeps_centres-keeps turn old new kept =
    let centres : AllZip KeepsCentre (centres_of old.parts) (map (turned_centre turn) (centres_of new.parts)) = rw (centres_of-turned turn new.parts) at kept.centres in
    keeps_centres-kept turn (centres_of old.parts) (centres_of new.parts) centres

-- the first centre, and the parts behind it
abbrev pub IsFirstCentre : List Part → Option (Bor Centre × Bor (List Part)) → Type 0
IsFirstCentre parts first = MatchOption first (centres_of parts ≡ []) (λ found. (centres_of parts ≡ found.0.now ∷ centres_of found.1.now) × (length found.1.now < length parts))

pub keeps_centres-none : (turn : ℕ) (old new : List Part) (first : Option (Bor Centre × Bor (List Part))) (result : Bool) → centres_of old ≡ [] → IsFirstCentre new first → is_some first ≡ not result → result ≡ keeps_centres turn (centres_of old) (centres_of new)
unfolding keeps_centres
keeps_centres-none turn old new None result no_old no_new none = rw (no_old, no_new) (not-false result (sym none))
keeps_centres-none turn old new (Some found) result no_old some none = rw (no_old, some.0) (not-true result (sym none))

pub keeps_centres-no_new : (turn : ℕ) (old new : List Part) (centre : Centre) (rest : List Centre) → centres_of old ≡ centre ∷ rest → centres_of new ≡ [] → false ≡ keeps_centres turn (centres_of old) (centres_of new)
unfolding keeps_centres
keeps_centres-no_new turn old new centre rest some none = rw (some, none) refl

pub keeps_centres-first : (turn : ℕ) (old new : List Part) (centre other : Centre) (rest others : List Centre) → centres_of old ≡ centre ∷ rest → centres_of new ≡ other ∷ others → keeps_centre turn centre other ≡ true → keeps_centres turn rest others ≡ keeps_centres turn (centres_of old) (centres_of new)
unfolding keeps_centres
keeps_centres-first turn old new centre other rest others some more holds = rw (some, more, holds) refl

pub keeps_centres-not_first : (turn : ℕ) (old new : List Part) (centre other : Centre) (rest others : List Centre) → centres_of old ≡ centre ∷ rest → centres_of new ≡ other ∷ others → keeps_centre turn centre other ≡ false → false ≡ keeps_centres turn (centres_of old) (centres_of new)
unfolding keeps_centres
keeps_centres-not_first turn old new centre other rest others some more fails = rw (some, more, fails) refl
