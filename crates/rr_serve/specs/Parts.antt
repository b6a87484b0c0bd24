-- How a part of a line is taken out of a buffered reader.
use Rattle.std.specs.Prelude.{◌≡◌, ℕ, ◌≤◌, List, [], ◌++◌, length, take, Option, None, Some}
use Rattle.std.specs.Io.KnownBytes.{Consumes, IsAtEnd, Keeps}
use Rattle.rr_serve.specs.Lines.{HasNoLineFeed, ended, taken}
use Rattle.rr_serve.specs.declared.reading.Ending.{Ending}
use Rattle.rr_serve.specs.declared.reading.Ending.TheVariants.{LineFeed, EndOfInput}
use Rattle.rr_serve.specs.declared.reading.Part.{Part}

-- how a part ends: the line goes on; its line feed is taken, too; or nothing stood ready
abbrev pub PartEnds : List ℕ → ℕ → ℕ → Option Ending → Type 0
PartEnds ready kept count None = (count ≡ kept) × (1 ≤ kept)
PartEnds ready kept count (Some LineFeed) = take count ready ≡ ended (take kept ready)
PartEnds ready kept count (Some EndOfInput) = length ready ≡ 0

-- of the bytes that stand ready so many are the line's, and so many are taken with its line feed, at most as many as may be
pub record IsPart (ready : List ℕ) (most kept count : ℕ) (ending : Option Ending) : Type 0 where
  pub within : count ≤ length ready
  pub few : count ≤ most
  pub fits : kept ≤ count
  pub no_line_feed : HasNoLineFeed (take kept ready)
  pub ends : PartEnds ready kept count ending

-- these bytes were taken out of the reader and noted, at most as many as may be
pub record PassesOver (remaining rest : Option (List ℕ)) (noted_old noted_new bytes : List ℕ) (count most : ℕ) : Type 0 where
  pub consumed : Consumes remaining rest bytes
  pub noted : noted_new ≡ noted_old ++ bytes
  pub many : length bytes ≡ count
  pub few : count ≤ most

-- the line gained what was taken, as the ending says
abbrev pub TakesSo : Option (List ℕ) → Option (List ℕ) → List ℕ → List ℕ → List ℕ → List ℕ → ℕ → ℕ → Option Ending → Type 0
TakesSo remaining rest noted_old noted_new line_old line_new most count None =
    (piece : List ℕ) × HasNoLineFeed piece × (1 ≤ length piece) × (line_new ≡ taken (line_old ++ piece))
    × PassesOver remaining rest noted_old noted_new piece count most
TakesSo remaining rest noted_old noted_new line_old line_new most count (Some LineFeed) =
    (piece : List ℕ) × HasNoLineFeed piece × (line_new ≡ taken (line_old ++ piece))
    × PassesOver remaining rest noted_old noted_new (ended piece) count most
TakesSo remaining rest noted_old noted_new line_old line_new most count (Some EndOfInput) =
    (line_new ≡ line_old) × IsAtEnd remaining × PassesOver remaining rest noted_old noted_new [] count most

-- a part of the line was taken out of the reader, or nothing was taken
abbrev pub TakesReady : Option (List ℕ) → Option (List ℕ) → List ℕ → List ℕ → List ℕ → List ℕ → ℕ → Option Part → Type 0
TakesReady remaining rest noted_old noted_new line_old line_new most (Some part) =
    TakesSo remaining rest noted_old noted_new line_old line_new most part.count part.ending
TakesReady remaining rest noted_old noted_new line_old line_new most None =
    (line_new ≡ line_old) × Keeps remaining rest × (noted_new ≡ noted_old)
