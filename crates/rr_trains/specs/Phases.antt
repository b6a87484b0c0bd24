-- What the phase of the game says.
use Rattle.std.specs.Prelude.{ℕ, Bool, true, false, nat_lt}
use Rattle.rr_roster.specs.declared.company.Corp.{Corp}
use Rattle.rr_roster.specs.declared.company.Kind.{Kind}
use Rattle.rr_roster.specs.declared.company.Kind.TheVariants as K
use Rattle.rr_books.specs.declared.parties.Place.TheVariants as L
use Rattle.rr_market.specs.Operations.Phases.{TrainHolders, phase}
use Rattle.rr_trains.specs.Places.{trains_held}

-- how many trains a corporation may have: four, from the first 4 on three, from the first 5 on two
abbrev pub train_limit : Kind → ℕ
train_limit K.Two = 4
train_limit K.Three = 4
train_limit K.Four = 3
train_limit _ = 2

-- corporations may buy privates from players: from the first 3 until the first 5
abbrev pub sells_privates : Kind → Bool
sells_privates K.Three = true
sells_privates K.Four = true
sells_privates _ = false

-- a corporation has more trains than it may have
abbrev pub is_over_train_limit : TrainHolders → Corp → Bool
is_over_train_limit trains corp = nat_lt (train_limit (phase trains)) (trains_held trains (L.Corp corp))
