-- What the greatest values that trains can count come to, as far as it is known.
use Rattle.std.specs.Prelude.{◌≡◌, ℕ, ◌-◌, ◌==◌, if◌then◌else◌, Option, None, Some, List, length, slice_index_or, slice_set}
use Rattle.rr_routes.specs.declared.certificate.Fate.{Fate}
use Rattle.rr_routes.specs.Net.{Net}
use Rattle.rr_routes.specs.Routes.{worth}
use Rattle.rr_routes.specs.Greatest.{Greatest}

-- the greatest values that the train can count come to this
abbrev pub IsWorth : Net → List Fate → ℕ → ℕ → Type 0
IsWorth net fates train amount = (best : List ℕ) × Greatest net fates train best × (worth net best ≡ amount)

-- for each train what they come to, or nothing if it isn't known
pub record AreKnown (net : Net) (fates : List Fate) (known : List (Option ℕ)) : Type 0 where
  pub as_many : length known ≡ length net.trains
  pub each : (train amount : ℕ) → slice_index_or known train None ≡ Some amount → IsWorth net fates train amount

-- the one list with what the other has at the place of the case's train; the first case has no train
abbrev pub with_owner : List (Option ℕ) → List (Option ℕ) → ℕ → List (Option ℕ)
with_owner known other place = if place == 0 then known else slice_set known (place - 1) (slice_index_or other (place - 1) None)
