-- The phase of the game, and how many operating rounds a set has that begins in it.
use Rattle.std.specs.Prelude.{ℕ, Bool, false, not, List, [], ◌∷◌, Option, None, Some, find, unwrap_or}
use Rattle.std.specs.List.{list_any}
use Rattle.rr_roster.specs.declared.company.Kind.{Kind}
use Rattle.rr_roster.specs.declared.company.Kind.TheVariants as K
use Rattle.rr_books.specs.declared.parties.Place.{Place}
use Rattle.rr_books.specs.declared.parties.Place.TheVariants as L
use Rattle.rr_books.specs.declared.certificates.Train.{Train}
use Rattle.rr_books.specs.Same.{same_place}

-- who has each train
abbrev pub TrainHolders : Type 0
TrainHolders = Train → Option Place

-- the numbers that trains of a kind may have: no roster has more than twenty of one
abbrev pub train_numbers : List ℕ
train_numbers = 1 ∷ 2 ∷ 3 ∷ 4 ∷ 5 ∷ 6 ∷ 7 ∷ 8 ∷ 9 ∷ 10 ∷ 11 ∷ 12 ∷ 13 ∷ 14 ∷ 15 ∷ 16 ∷ 17 ∷ 18 ∷ 19 ∷ 20 ∷ []

abbrev pub train : Kind → ℕ → Train
train kind number = record { kind = kind; number = number }

-- it is somewhere, and not in the offer
abbrev pub has_left : Option Place → Bool
has_left None = false
has_left (Some place) = not (same_place place L.Offer)

-- a train of the kind has left the offer
unfoldable pub is_sold : TrainHolders → Kind → Bool
is_sold trains kind = list_any (λ number. has_left (trains (train kind number))) train_numbers

abbrev pub greatest_first : List Kind
greatest_first = K.Diesel ∷ K.Six ∷ K.Five ∷ K.Four ∷ K.Three ∷ K.Two ∷ []

-- the greatest kind of which a train was sold, and 2 where none was
unfoldable pub phase : TrainHolders → Kind
phase trains = unwrap_or (find (is_sold trains) greatest_first) K.Two

-- how many operating rounds a set has: one, from the first 3 on two, from the first 5 on three
abbrev pub rounds_in_set : Kind → ℕ
rounds_in_set K.Two = 1
rounds_in_set K.Three = 2
rounds_in_set K.Four = 2
rounds_in_set _ = 3
