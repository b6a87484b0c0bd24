-- The steps that follow one, found by the node at which it ends.
use Rattle.std.proofs.Common.{◌≡◌, ℕ, ◌&&◌, Bool, true, false, List, length, get_or, refl, sym, ◌∙◌, ap}
use Rattle.std.proofs.lemmas.Bool.{false≢true}
use Rattle.std.proofs.lemmas.Option.{slice_get-get_or, slice_get_past}
use Rattle.rr_roster.specs.declared.company.Corp.{Corp}
use Rattle.rr_routes.specs.Reachability.Index.{IsIndexOf, StandsAt, noted_at}
use Rattle.rr_routes.specs.Reachability.Places.{ArePassing, ArePlaces}
use Rattle.rr_routes.proofs.ReachabilityLemmas.IndexLemmas.{found_among}
use Rattle.rr_network.specs.declared.step.Step.{Step}
use Rattle.rr_network.specs.Indexes.{begins_at, follows, next_follows}
use Rattle.rr_network.specs.Keys.{node_key}
use Rattle.rr_network.specs.Network.{Net}
use Rattle.rr_network.specs.Node.{same_node}
use Rattle.rr_network.specs.Walk.{goes_on, is_terminal, may_follow, passes}
use Rattle.rr_network.proofs.KeyLemmas.{same_node_key}
use Rattle.rr_network.proofs.PlaceLemmas.{goes_on-open}

first_holds : (a b : Bool) → (a && b) ≡ true → a ≡ true
first_holds true b h = refl
first_holds false b h = absurd (false≢true h)

-- of the steps that begin where this one ends those that pass are those by which a walk goes on
pub followers_found : (net : Net) (corp : Corp) (steps : List Step) (step : Step) (index : List (List ℕ)) → IsIndexOf (StandsAt begins_at steps (length steps)) index
    → is_terminal net.stops net.stations corp step.to ≡ false → (passing : List ℕ) → ArePassing (follows steps step) (noted_at index (node_key step.to)) passing
    → ArePlaces (goes_on net corp step) steps (length steps) passing
followers_found net corp steps step index ix goes passing those =
    found_among begins_at steps index (node_key step.to) (goes_on net corp step) (follows steps step) passing ix alike
    (λ k d inside. ap (next_follows step) (slice_get-get_or steps k d inside) ∙ sym (goes_on-open net corp step (get_or steps k d) goes))
    (λ k past. ap (next_follows step) (slice_get_past steps k past)) those
  where
    alike : (next : Step) → goes_on net corp step next ≡ true → begins_at next ≡ node_key step.to
    alike next t =
        let may : may_follow step next ≡ true = sym (goes_on-open net corp step next goes) ∙ t in
        sym (same_node_key step.to next.from (first_holds (same_node step.to next.from) (passes step next) may))
