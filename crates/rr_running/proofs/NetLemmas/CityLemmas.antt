-- The tokens in a city.
use Rattle.std.proofs.Common.{◌≡◌, ℕ, ◌+◌, ◌<◌, ◌≤◌, ◌==◌, ◌&&◌, ◌||◌, not, Bool, true, false, cond, List, [], ◌∷◌, ◌∙◌, ap, arith}
use Rattle.std.specs.Prelude.{count_by, nat_le}
use Rattle.std.proofs.lemmas.Bool.Decides.{nat_tests}
use Rattle.std.proofs.lemmas.List.Sums.{sum_by-cons}
use Rattle.rr_roster.specs.Company.{corp_index}
use Rattle.rr_roster.specs.declared.company.Corp.{Corp}
use Rattle.rr_tiles.specs.declared.part.Kind.{Kind}
use Rattle.rr_desk.specs.declared.layout.layout.Station.{Station}
use Rattle.rr_network.specs.declared.node.CentreAt.{CentreAt}
use Rattle.rr_network.specs.declared.node.Node.TheVariants.{Centre}
use Rattle.rr_network.specs.Walk.{has_token, is_other_at, kind_stops}
use Rattle.rr_running.specs.Net.Centres.{OwnCitiesAreOpen, stands_at}

-- a token more: of the corporation or another, there or elsewhere
token_more : (own there before : Bool) (others all : ℕ) → others + cond {A = ℕ} before 1 0 ≤ all
    → cond {A = ℕ} (not own && there) 1 0 + others + cond {A = ℕ} ((own && there) || before) 1 0 ≤ cond {A = ℕ} there 1 0 + all
token_more true true true others all h = omega arith
token_more true true false others all h = omega arith
token_more true false true others all h = omega arith
token_more true false false others all h = omega arith
token_more false true true others all h = omega arith
token_more false true false others all h = omega arith
token_more false false true others all h = omega arith
token_more false false false others all h = omega arith

-- the tokens of others, and one of the corporation if it has one there, are among all
others_and_own : (stations : List Station) (corp : Corp) (at : CentreAt)
    → count_by (is_other_at corp (Centre at)) stations + cond {A = ℕ} (has_token stations corp (Centre at)) 1 0 ≤ count_by (λ station. stands_at station at) stations
others_and_own [] corp at = omega arith
others_and_own (station ∷ stations) corp at =
    let more = token_more (corp_index station.corp == corp_index corp) (stands_at station at) (has_token stations corp (Centre at)) _ _ (others_and_own stations corp at) in
    omega (
      arith,
      more,
      sum_by-cons (λ (s : Station). cond {A = ℕ} (is_other_at corp (Centre at) s) 1 0) station stations,
      sum_by-cons (λ (s : Station). cond {A = ℕ} (stands_at s at) 1 0) station stations,
    )

not_filled : (slots others : ℕ) → others < slots → nat_le slots others ≡ false
not_filled slots others h = grind (arith, nat_tests)

pub own_cities_are_open : OwnCitiesAreOpen
own_cities_are_open stations corp stop slots city room own =
    let few = others_and_own stations corp stop.at in
    let one : cond {A = ℕ} (has_token stations corp (Centre stop.at)) 1 0 ≡ 1 = ap (λ b. cond {A = ℕ} b 1 0) own in
    ap (λ (kind : Kind). kind_stops stations corp (Centre stop.at) kind) city
    ∙ not_filled slots (count_by (is_other_at corp (Centre stop.at)) stations) (omega (arith, few, one, room))
