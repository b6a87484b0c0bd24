-- The players of a table: 2 to 6 different names, in seating order.
use Rattle.std.specs.Prelude.{◌≡◌, ℕ, ◌-◌, ◌≤◌, Bool, true, not, ◌&&◌, List, [], ◌∷◌, ◌++◌, length, take, drop, replicate, nat_le, IsTrue, bytes_eq}
use Rattle.std.specs.List.{list_all, list_any}
use Rattle.std.proofs.Common.{zero, suc, refl, arith, take-append-drop, length-take-le}
use Rattle.rr_words.specs.Name.{is_player_name}

-- the name is one of the others
abbrev pub is_among : List ℕ → List (List ℕ) → Bool
is_among name others = list_any (λ other. bytes_eq other name) others

-- no two names are equal
abbrev pub all_different : List (List ℕ) → Bool
all_different [] = true
all_different (name ∷ others) = not (is_among name others) && all_different others

-- two to six different names of players
abbrev pub are_players : List (List ℕ) → Bool
are_players names = (nat_le 2 (length names) && nat_le (length names) 6) && (list_all is_player_name names && all_different names)

abbrev pub ArePlayers : List (List ℕ) → Type 0
ArePlayers names = IsTrue (are_players names)

-- the first of some names
abbrev pub first_of : List (List ℕ) → List ℕ
first_of [] = []
first_of (name ∷ _) = name

-- the room for six names holds `count` of them, and then the first one again and again
pub record IsFilled (count : ℕ) (names : List (List ℕ)) : Type 0 where
  pub one : 1 ≤ count
  pub count_fits : count ≤ 6
  pub names_fill : length names ≡ 6
  pub others : drop count names ≡ replicate (6 - count) (first_of names)

-- the room that holds some names
abbrev pub filled : List (List ℕ) → List (List ℕ)
filled names = names ++ replicate (6 - length names) (first_of names)

pub length-take-filled : (count : ℕ) (names : List (List ℕ)) → IsFilled count names → length (take count names) ≡ count
length-take-filled count names h = length-take-le count names (omega (arith, h.count_fits, h.names_fill))

pub first_of-take : (count : ℕ) (names : List (List ℕ)) → 1 ≤ count → first_of (take count names) ≡ first_of names
first_of-take zero names h = absurd (omega (arith, h))
first_of-take (suc n) [] h = refl
first_of-take (suc n) (name ∷ others) h = refl

pub filled-take : (count : ℕ) (names : List (List ℕ)) → IsFilled count names → filled (take count names) ≡ names
filled-take count names h =
    rw (length-take-filled count names h, first_of-take count names h.one, ← h.others) (take-append-drop count names)

-- of all the words the room holds the first ones, and these are left
pub record IsReadSoFar (all : List (List ℕ)) (count : ℕ) (names left : List (List ℕ)) : Type 0 where
  pub room : IsFilled count names
  pub players : list_all is_player_name (take count names) ≡ true
  pub so_far : all ≡ take count names ++ left
