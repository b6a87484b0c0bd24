-- What reading a line does, and reading a part of one.
use Rattle.std.specs.Prelude.{◌≡◌, ℕ, ◌≤◌, List, [], ◌++◌, length, Option, None, Some, Result, Ok, Err}
use Rattle.rr_serve.specs.Lines.{HasNoLineFeed, ended, taken}
use Rattle.rr_serve.specs.Streams.{InputState, HasEnded, Gives, FailsToGive}
use Rattle.rr_serve.specs.declared.faults.Fault.{Fault}
use Rattle.rr_serve.specs.declared.faults.Fault.TheVariants.{StreamFailed}
use Rattle.rr_serve.specs.declared.reading.Ending.{Ending}
use Rattle.rr_serve.specs.declared.reading.Ending.TheVariants.{LineFeed, EndOfInput}

-- The line gains some bytes that the input gave, up to its line feed, which isn't kept; or the input ended, or failed.
abbrev pub TakesPart : InputState → InputState → List ℕ → List ℕ → Result (Option Ending) Fault → Type 0
TakesPart before after line_old line_new (Ok None) =
    (piece : List ℕ) × HasNoLineFeed piece × (1 ≤ length piece) × (line_new ≡ taken (line_old ++ piece)) × Gives before piece after
TakesPart before after line_old line_new (Ok (Some LineFeed)) =
    (piece : List ℕ) × HasNoLineFeed piece × (line_new ≡ taken (line_old ++ piece)) × Gives before (ended piece) after
TakesPart before after line_old line_new (Ok (Some EndOfInput)) = (line_new ≡ line_old) × Gives before [] after × HasEnded after
TakesPart before after line_old line_new (Err fault) = (line_new ≡ line_old) × FailsToGive before after × (fault ≡ StreamFailed)

-- the input gave the line and its line feed, or it gave the bytes alone, and then ended or failed
abbrev pub GivesLine : InputState → InputState → List ℕ → Result Ending Fault → Type 0
GivesLine before after line (Ok LineFeed) = Gives before (ended line) after
GivesLine before after line (Ok EndOfInput) = Gives before line after × HasEnded after
GivesLine before after line (Err fault) =
    (mid : InputState) × Gives before line mid × FailsToGive mid after × (fault ≡ StreamFailed)

-- some bytes without a line feed were read, and the buffer has what is kept of them
pub record ReadsLine (before after : InputState) (buffer : List ℕ) (result : Result Ending Fault) : Type 0 where
  pub line : List ℕ
  pub no_line_feed : HasNoLineFeed line
  pub kept : buffer ≡ taken line
  pub gives : GivesLine before after line result
