-- What a plan says of the words.
use Rattle.std.specs.Prelude.{◌≡◌, ◌≢◌, ◌⊎◌, codes, Bool, true, false, List, [], ◌∷◌, Option, Some, None, is_some}
use Rattle.std.specs.Prelude.{string_bytes}
use Rattle.clap.specs.Words.{Row, Text, fault_of, first_of, subcommand_of}
use Rattle.rr_cli.specs.CommandLine.{moderate}
use Rattle.rr_cli.specs.declared.plans.Plan.{Plan}
use Rattle.rr_cli.specs.declared.plans.Plan.TheVariants.{Check, Format, Serve}

-- the plan has the name of the subcommand that was met, and the value of each of its arguments
abbrev pub PlanAt : Plan → Option (Text × List Row) → Type 0
PlanAt plan None = ⊥
PlanAt (Format file chart roster tiles board) (Some met) = (met.0 ≡ codes "format")
    × (first_of (codes "file") met.1 ≡ Some (string_bytes file))
    × (first_of (codes "chart") met.1 ≡ Some (string_bytes chart))
    × (first_of (codes "roster") met.1 ≡ Some (string_bytes roster))
    × (first_of (codes "tiles") met.1 ≡ Some (string_bytes tiles))
    × (first_of (codes "board") met.1 ≡ Some (string_bytes board))
PlanAt (Serve file) (Some met) = (met.0 ≡ codes "serve")
    × (first_of (codes "file") met.1 ≡ Some (string_bytes file))
PlanAt (Check file) (Some met) = (met.0 ≡ codes "check")
    × (first_of (codes "file") met.1 ≡ Some (string_bytes file))

-- `clap` finds no fault in the words
abbrev pub IsTaken : List Text → Type 0
IsTaken words = fault_of moderate words ≡ []

-- `clap` finds no fault in the words, and the plan is what it matches in them
pub record IsPlanOf (words : List Text) (plan : Plan) : Type 0 where
  pub taken : IsTaken words
  pub matched : PlanAt plan (subcommand_of moderate words)

-- `clap` finds a fault in the words
pub record AreRefused (words : List Text) : Type 0 where
  pub has_fault : fault_of moderate words ≢ []

-- ---- the files that a plan names

-- the path of the store's file
abbrev pub file_of : Plan → Text
file_of (Format file chart roster tiles board) = string_bytes file
file_of (Serve file) = string_bytes file
file_of (Check file) = string_bytes file

-- `format` makes the file if it is absent
abbrev pub makes_file : Plan → Bool
makes_file (Format file chart roster tiles board) = true
makes_file (Serve file) = false
makes_file (Check file) = false

-- the paths of the kit's files, in the order in which they are read; only `format` reads any
abbrev pub kit_paths : Plan → List Text
kit_paths (Format file chart roster tiles board) = string_bytes chart ∷ string_bytes roster ∷ string_bytes tiles ∷ string_bytes board ∷ []
kit_paths (Serve file) = []
kit_paths (Check file) = []

-- ---- what a plan can be made of

-- the argument of this name has a value
abbrev pub IsGiven : List Row → Text → Type 0
IsGiven rows name = is_some (first_of name rows) ≡ true

abbrev pub HasKitFiles : List Row → Type 0
HasKitFiles rows = IsGiven rows (codes "file") × IsGiven rows (codes "chart")
    × IsGiven rows (codes "roster") × IsGiven rows (codes "tiles") × IsGiven rows (codes "board")

abbrev pub IsPlannable : Option (Text × List Row) → Type 0
IsPlannable None = ⊥
IsPlannable (Some met) = ((met.0 ≡ codes "format") × HasKitFiles met.1)
    ⊎ ((met.0 ≡ codes "serve") × IsGiven met.1 (codes "file"))
    ⊎ ((met.0 ≡ codes "check") × IsGiven met.1 (codes "file"))
