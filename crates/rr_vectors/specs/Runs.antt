-- Runs of bytes as lines of a text, and what a file is once they lie in it.
use Rattle.std.specs.Prelude.{◌≡◌, ◌+◌, ◌≤◌, ◌++◌, ℕ, List, [], ◌∷◌, length, take, drop, decimal, Ok}
use Rattle.hex.specs.Hex.{decode_of}

-- the bytes with a piece in place of as many from `place` on
abbrev pub with_piece : ℕ → List ℕ → List ℕ → List ℕ
with_piece place piece bytes = take place bytes ++ piece ++ drop (place + length piece) bytes

-- the new bytes are the old ones but for those that the hex digits spell, which lie at `place`
pub record LieAt (place : ℕ) (digits old new : List ℕ) : Type 0 where
  pub piece : List ℕ
  pub spelled : decode_of digits ≡ Ok piece
  pub within : place + length piece ≤ length old
  pub laid : new ≡ with_piece place piece old

-- the line is a place, a space and hex digits, whose bytes lie there
pub record IsLaid (line old new : List ℕ) : Type 0 where
  pub place : ℕ
  pub digits : List ℕ
  pub spelled : line ≡ decimal place ++ 32 ∷ digits
  pub lies : LieAt place digits old new

-- each line is laid over what those before it made
pub data AreLaid : List (List ℕ) → List ℕ → List ℕ → Type 0 where
  nothing : {bytes : List ℕ} → AreLaid [] bytes bytes
  behind : {lines : List (List ℕ)} {line old middle new : List ℕ} → AreLaid lines old middle → IsLaid line middle new → AreLaid (lines ++ line ∷ []) old new
