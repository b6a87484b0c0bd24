-- The steps that follow one, found by the node at which it ends.
use Rattle.std.proofs.Common.{◌≡◌, ℕ, ◌&&◌, Bool, true, false, List, length, get_or, refl, sym, ◌∙◌, ap}
use Rattle.std.proofs.lemmas.Bool.{false≢true}
use Rattle.std.proofs.lemmas.Option.{slice_get-get_or, slice_get_past}
use Rattle.rr_routes.specs.Net.{Net}
use Rattle.rr_routes.specs.Reachability.Index.{IsIndexOf}
use Rattle.rr_routes.specs.Reachability.Places.{ArePassing, ArePlaces}
use Rattle.rr_routes.proofs.ReachabilityLemmas.IndexLemmas.{found_among}
use Rattle.rr_checker.specs.declared.step.Step.{Step}
use Rattle.rr_checker.specs.Steps.{follows, goes_on, is_terminal, may_follow, next_follows, passes_at, same_node}
use Rattle.rr_checker.specs.Index.{node_key, noted_at}
use Rattle.rr_checker.specs.Searching.{BeginsAt, begins_at}
use Rattle.rr_checker.proofs.PlaceLemmas.{goes_on-open}
use Rattle.rr_checker.proofs.StepLemmas.{yes, Decides-same_node}

first_holds : (a b : Bool) → (a && b) ≡ true → a ≡ true
first_holds true b h = refl
first_holds false b h = absurd (false≢true h)

-- of the steps that begin where this one ends those that pass are those by which a walk goes on
pub followers_found : (steps : List Step) (net : Net) (step : Step) (index : List (List ℕ)) → IsIndexOf (BeginsAt steps (length steps)) index → is_terminal net step.to ≡ false
    → (passing : List ℕ) → ArePassing (follows steps step) (noted_at index step.to) passing → ArePlaces (goes_on net step) steps (length steps) passing
followers_found steps net step index ix goes passing those =
    found_among begins_at steps index (node_key step.to) (goes_on net step) (follows steps step) passing ix alike
    (λ k d inside. ap (next_follows step) (slice_get-get_or steps k d inside) ∙ sym (goes_on-open net step (get_or steps k d) goes))
    (λ k past. ap (next_follows step) (slice_get_past steps k past)) those
  where
    alike : (next : Step) → goes_on net step next ≡ true → begins_at next ≡ node_key step.to
    alike next t =
        let may : may_follow step next ≡ true = sym (goes_on-open net step next goes) ∙ t in
        let meets : step.to ≡ next.from = yes (Decides-same_node step.to next.from) (first_holds (same_node step.to next.from) (passes_at step.to step next) may) in
        ap node_key (sym meets)
