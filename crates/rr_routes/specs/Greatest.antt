-- The greatest values that trains can count.
use Rattle.std.specs.Prelude.{◌≡◌, ℕ, ◌<◌, ◌≤◌, List, [], ◌∷◌, ◌↔◌, Contains, length, take, slice_index_or, ⊤}
use Rattle.std.specs.List.{AllByRecursion}
use Rattle.rr_routes.specs.declared.net.Node.TheVariants.{Centre}
use Rattle.rr_routes.specs.declared.net.CentreLimit.{CentreLimit}
use Rattle.rr_routes.specs.declared.net.CentreLimit.TheVariants.{AtMost, Unlimited}
use Rattle.rr_routes.specs.declared.certificate.Fate.{Fate}
use Rattle.rr_routes.specs.Net.{Net, value, limit_of}
use Rattle.rr_routes.specs.Routes.{NoneTwice}
use Rattle.rr_routes.specs.Reach.{NodeReached}
use Rattle.rr_routes.specs.Certificates.{MayUse}

-- each is worth at least as much as those behind it
abbrev pub IsDescending : (ℕ → ℕ) → List ℕ → Type 0
IsDescending worth [] = ⊤
IsDescending worth (x ∷ xs) = AllByRecursion (λ y. worth y ≤ worth x) xs × IsDescending worth xs

-- the centres that the train reaches, each once, the greatest value first
pub record Ranking (net : Net) (fates : List Fate) (train : ℕ) (ranked : List ℕ) : Type 0 where
  pub none_twice : NoneTwice ranked
  pub exact : (centre : ℕ) → Contains ranked centre ↔ NodeReached net (MayUse fates train) (Centre centre)
  pub greatest_first : IsDescending (value net) ranked

-- as many of them, from the front, as a train of this limit counts
abbrev pub counted_of : CentreLimit → List ℕ → List ℕ
counted_of (AtMost most) ranked = take most ranked
counted_of Unlimited ranked = ranked

-- of the centres that the train reaches, those of the greatest values that it counts
pub record Greatest (net : Net) (fates : List Fate) (train : ℕ) (best : List ℕ) : Type 0 where
  pub ranked : List ℕ
  pub ranking : Ranking net fates train ranked
  pub best_is : best ≡ counted_of (limit_of net train) ranked

-- these centres for each of the trains
pub record GreatestOfAll (net : Net) (fates : List Fate) (greatest : List (List ℕ)) : Type 0 where
  pub complete : length greatest ≡ length net.trains
  pub each : (train : ℕ) → train < length greatest → Greatest net fates train (slice_index_or greatest train [])
