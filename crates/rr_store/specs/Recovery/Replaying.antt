-- The tables to which the records of a file lead.
use Rattle.std.specs.Prelude.{◌≡◌, ℕ, List, [], ◌∷◌, ◌++◌, Option, None, Some}
use Rattle.rr_kit.specs.declared.kit.Kit.{Kit}
use Rattle.rr_tables.specs.Records.Lines.{IsUnlawful, TakesRecord}
use Rattle.rr_tables.specs.Records.World.{World}
use Rattle.rr_tables.specs.Tables.{ArePlayed, HaveTheirSnapshots, lent_by, world_of}
use Rattle.rr_tables.specs.declared.tables.Tables.{Tables}
use Rattle.rr_checkpoint.specs.declared.plan.transcript.Transcript.{Transcript}
use Rattle.rr_log.specs.Lent.{lent_in}

-- the records are taken in turn
abbrev pub Replays : Kit → World → List (List ℕ) → World → Type 0
Replays kit old [] new = new ≡ old
Replays kit old (line ∷ lines) new = (mid : World) × TakesRecord kit old line mid × Replays kit mid lines new

-- some of the records are taken, and the next has no lawful request
pub record BreaksOff (kit : Kit) (old : World) (lines : List (List ℕ)) : Type 0 where
  pub front : List (List ℕ)
  pub next : List ℕ
  pub rest : List (List ℕ)
  pub mid : World
  pub split : lines ≡ front ++ next ∷ rest
  pub before : Replays kit old front mid
  pub unlawful : IsUnlawful kit mid next

-- there is a transcript just where there are lines behind these tables, and it is what they lend
abbrev pub IsTranscriptBefore : List (List ℕ) → Tables → Option Transcript → Type 0
IsTranscriptBefore [] tables base = base ≡ None
IsTranscriptBefore (line ∷ lines) tables None = ⊥
IsTranscriptBefore (line ∷ lines) tables (Some transcript) = lent_in transcript ≡ lent_by tables

-- The near records are taken and then the far ones, and between them the transcript was made of tables that were played, and
-- that have their snapshots if those had them with which it began.
pub record AreReplayed (kit : Kit) (old : Tables) (near far : List (List ℕ)) (base : Option Transcript) (new : World) : Type 0 where
  pub middle : Tables
  pub of_kit : middle.kit ≡ kit
  pub played : ArePlayed middle
  pub snapshots : HaveTheirSnapshots old → HaveTheirSnapshots middle
  pub replays_near : Replays kit (world_of old) near (world_of middle)
  pub replays_far : Replays kit (world_of middle) far new
  pub before : IsTranscriptBefore far middle base
