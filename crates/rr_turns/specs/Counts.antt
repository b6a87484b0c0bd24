-- Counts of commands as a set, a bit for each.
use Rattle.std.specs.Prelude.{◌≡◌, ℕ, zero, suc, ◌+◌, ◌-◌, ◌*◌, ◌/◌, ◌%◌, ◌^◌, ◌<◌, ◌≤◌, Bool, true, List, [], ◌∷◌, ◌==◌, length, map, slice_index, if◌then◌else◌}
use Rattle.std.specs.List.{filter, list_any, range_with_len}
use Rattle.std.specs.Int.{bit_at}
use Rattle.rr_turns.specs.declared.limits.TheConstants.{MOST_COMMANDS}

-- whether a count is in the set: a word tells of 64 counts, the first word of 1 to 64, and its lowest bit of the least
abbrev pub is_held : List ℕ → ℕ → Bool
is_held words count = bit_at (slice_index words ((count - 1) / 64)) ((count - 1) % 64) == 1

-- of the numbers from 1 to `most`, those that pass the test
unfoldable pub numbers_with : (ℕ → Bool) → ℕ → List ℕ
numbers_with test most = filter test (range_with_len 1 most)

-- the counts in the set, the least first
abbrev pub counts_of : List ℕ → List ℕ
counts_of words = numbers_with (is_held words) MOST_COMMANDS

-- 64 words, in which the opening's count is
pub record IsSet (words : List ℕ) : Type 0 where
  pub all : length words ≡ 64
  pub fits : (k : ℕ) → slice_index words k < 2 ^ 64
  pub opening : is_held words 1 ≡ true

-- a count is in the set, and so many lesser ones are; its place is how many numbers from 1 on are less
pub record IsPlaceOf (words : List ℕ) (rank place : ℕ) : Type 0 where
  pub within : place < MOST_COMMANDS
  pub held : is_held words (place + 1) ≡ true
  pub before : length (numbers_with (is_held words) place) ≡ rank

-- numbers that rise, none below the least and none above the most
abbrev pub RiseWithin : ℕ → ℕ → List ℕ → Type 0
RiseWithin least most [] = Unit {0}
RiseWithin least most (x ∷ xs) = (least ≤ x) × (x ≤ most) × RiseWithin (x + 1) most xs

-- counts at the ends of turns: that of the opening, and then greater ones
abbrev pub AreEnds : List ℕ → Type 0
AreEnds [] = ⊥
AreEnds (first ∷ others) = (first ≡ 1) × RiseWithin 2 MOST_COMMANDS others

-- whether a count is one of these
abbrev pub is_among : List ℕ → ℕ → Bool
is_among counts count = list_any (λ other. other == count) counts

-- the number whose first n bits are these, the lowest first, and that has no others
unfoldable pub number_of_bits : (ℕ → Bool) → ℕ → ℕ
number_of_bits is_set zero = 0
number_of_bits is_set (suc n) = (if is_set n then 1 else 0) * 2 ^ n + number_of_bits is_set n

-- the set of these counts
unfoldable pub words_of : List ℕ → List ℕ
words_of counts = map (λ word. number_of_bits (λ bit. is_among counts (64 * word + bit + 1)) 64) (range_with_len 0 64)
