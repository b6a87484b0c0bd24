-- An array that holds a list: its items first, and a filler behind them.
use Rattle.std.specs.Prelude.{◌≡◌, ℕ, ◌≤◌, ◌-◌, List, [], ◌∷◌, ◌++◌, length, take, drop, replicate}
use Rattle.std.proofs.Common.{arith, length-take-le, take-append-drop}
use Rattle.rr_roster.specs.declared.company.Corp.{Corp}
use Rattle.rr_desk.specs.declared.layout.layout.Lay.{Lay}
use Rattle.rr_desk.specs.declared.layout.layout.Station.{Station}

-- so many slots, of which the first ones are taken, and the others have the filler
pub record IsFilled {X : Type 0} (filler : X) (capacity taken : ℕ) (slots : List X) : Type 0 where
  pub fits : taken ≤ capacity
  pub all : length slots ≡ capacity
  pub rest : drop taken slots ≡ replicate (capacity - taken) filler

-- the array that holds a list
abbrev pub filled : {X : Type 0} → X → ℕ → List X → List X
filled filler capacity items = items ++ replicate (capacity - length items) filler

-- what stands in a slot that isn't taken
abbrev pub no_hex : List ℕ
no_hex = 65 ∷ []

abbrev pub no_lay : Lay
no_lay = record { hex = no_hex; tile = 0; turn = 0 }

abbrev pub no_station : Station
no_station = record { corp = Corp.Prr; hex = no_hex; centre = 0 }

pub length-take-filled : {X : Type 0} (filler : X) (capacity taken : ℕ) (slots : List X) → IsFilled filler capacity taken slots → length (take taken slots) ≡ taken
length-take-filled filler capacity taken slots h = length-take-le taken slots (omega (arith, h.fits, h.all))

pub filled-take : {X : Type 0} (filler : X) (capacity taken : ℕ) (slots : List X) → IsFilled filler capacity taken slots → filled filler capacity (take taken slots) ≡ slots
filled-take filler capacity taken slots h =
    rw (length-take-filled filler capacity taken slots h, ← h.rest) (take-append-drop taken slots)
