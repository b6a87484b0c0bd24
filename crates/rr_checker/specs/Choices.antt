-- The cases of a split, by their places.
use Rattle.std.specs.Prelude.{ℕ, ◌-◌, ◌<◌, ◌==◌, if◌then◌else◌, List, length}
use Rattle.rr_routes.specs.declared.certificate.Fate.{Fate}
use Rattle.rr_routes.specs.declared.certificate.Fate.TheVariants.{Denied, Of}
use Rattle.rr_routes.specs.Net.{Net}
use Rattle.rr_routes.specs.Certificates.{IsBad}

-- the first case is that the link is denied to all, and those behind it that it is of each train in turn
abbrev pub choice_at : ℕ → Fate
choice_at place = if place == 0 then Denied else Of (place - 1)

-- the train is one of the net's, and can't run over all the links that are its own
abbrev pub AcceptsBad : Net → List Fate → ℕ → Type 0
AcceptsBad net fates train = (train < length net.trains) × IsBad net fates train
