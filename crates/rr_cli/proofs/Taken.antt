-- Words that the program's command takes name one of its subcommands and all that this requires.
use Rattle.std.proofs.Common.{◌≡◌, ◌||◌, Bool, cond, true, false, not, refl, List, [], ◌∷◌, Option, Some, None, is_some, option_map, inl, inr, true≢false, codes}
use Rattle.std.specs.Option.{option_map_or}
use Rattle.clap.specs.Walk.{Row, Text, answers_to, nothing_held, rows_after, stop_after}
use Rattle.clap.specs.Simple.{Shape, built, built_leaf, entered, filled, help_rule, inherited, label_of, names_of, rows_at, with_index}
use Rattle.clap.specs.Faults.{check_fault, entered_fault, level_fault}
use Rattle.clap.specs.Takes.{is_given}
use Rattle.clap.specs.declared.error.kind.ErrorKind.{ErrorKind}
use Rattle.rr_cli.specs.CommandLine.{file_argument, file_option, format_command, moderate}
use Rattle.rr_cli.specs.Plan.{HasKitFiles, IsGiven, IsPlannable, IsTaken}
use Rattle.clap.specs.Words.{new_app, subcommand_of, with_rule}
use Rattle.rr_cli.proofs.Presence.{EachKeeps, Filled, given_there, help_keeps, level-below, level-checks, level-filled, set_keeps, some_fault}

-- the subcommands as they are built: `format`, and one of another name that takes the file alone
abbrev format_built : Shape
format_built = built_leaf (inherited moderate.top format_command.top)

abbrev file_built : Text → Shape
file_built name = built_leaf (inherited moderate.top (with_rule (new_app name) file_argument).top)

no_fault : (b : Bool) (k : ErrorKind) → cond b (k ∷ []) [] ≡ [] → b ≡ false
no_fault true k e = absurd (some_fault k [] e)
no_fault false k e = refl

none_missing : (given others : Bool) → (not given || others) ≡ false → (given ≡ true) × (others ≡ false)
none_missing true others e = (refl, e)
none_missing false others e = absurd (true≢false e)

format_files : (rows : List Row) → Filled rows → check_fault format_built rows false ≡ [] → HasKitFiles rows
format_files rows f e =
    let file = none_missing (is_given (codes "file") rows) _ (no_fault _ _ e) in
    let chart = none_missing (is_given (codes "chart") rows) _ file.1 in
    let roster = none_missing (is_given (codes "roster") rows) _ chart.1 in
    let tiles = none_missing (is_given (codes "tiles") rows) _ roster.1 in
    let board = none_missing (is_given (codes "board") rows) _ tiles.1 in (
      given_there (codes "file") rows f file.0,
      given_there (codes "chart") rows f chart.0,
      given_there (codes "roster") rows f roster.0,
      given_there (codes "tiles") rows f tiles.0,
      given_there (codes "board") rows f board.0,
    )

file_alone : (name : Text) (rows : List Row) → Filled rows → check_fault (file_built name) rows false ≡ [] → IsGiven rows (codes "file")
file_alone name rows f e = given_there (codes "file") rows f (none_missing (is_given (codes "file") rows) _ (no_fault _ _ e)).0

format_keeps : EachKeeps format_built.rules
format_keeps = (
  set_keeps (with_index 1 (filled file_argument)),
  (
    set_keeps (filled (file_option (codes "chart"))),
    (
      set_keeps (filled (file_option (codes "roster"))),
      (
        set_keeps (filled (file_option (codes "tiles"))),
        (
          set_keeps (filled (file_option (codes "board"))),
          (help_keeps (filled help_rule), tt),
        ),
      ),
    ),
  ),
)

file_keeps : (name : Text) → EachKeeps (file_built name).rules
file_keeps name = (set_keeps (with_index 1 (filled file_argument)), (help_keeps (filled help_rule), tt))

format_taken : (words : List Text) → level_fault format_built [] nothing_held words false [] ≡ [] → HasKitFiles (rows_after format_built.rules [] words)
format_taken words e =
    format_files (rows_after format_built.rules [] words) (level-filled format_built format_keeps [] words false [] e) (level-checks format_built [] words false [] e)

file_taken : (name : Text) (words : List Text) → level_fault (file_built name) [] nothing_held words false [] ≡ []
    → IsGiven (rows_after (file_built name).rules [] words) (codes "file")
file_taken name words e =
    let shape = file_built name in
    file_alone name (rows_after shape.rules [] words) (level-filled shape (file_keeps name) [] words false [] e) (level-checks shape [] words false [] e)

entered_taken : (rows : List Row) (stop : Option (Text × List Text)) → entered_fault (built moderate) stop ≡ []
    → check_fault (built moderate).top rows (is_some (entered (built moderate) stop)) ≡ [] → IsPlannable (entered (built moderate) stop)
entered_taken rows None below check = absurd (some_fault _ _ check)
entered_taken rows (Some p) below check =
    pick (answers_to p.0 (label_of format_built)) (answers_to p.0 (label_of (file_built (codes "serve")))) (answers_to p.0 (label_of (file_built (codes "check")))) below check
  where
    met : (a b c : Bool) → Option Shape
    met a b c = cond a (Some format_built) (cond b (Some (file_built (codes "serve"))) (cond c (Some (file_built (codes "check"))) None))

    pick : (a b c : Bool) → option_map_or (λ s. level_fault s [] nothing_held p.1 false []) (met a b c) [] ≡ []
        → check_fault (built moderate).top rows (is_some (option_map (λ s. rows_at s p.1) (met a b c))) ≡ []
        → IsPlannable (option_map (λ s. rows_at s p.1) (met a b c))
    pick true b c below check = inl (refl, format_taken p.1 below)
    pick false true c below check = inr (inl (refl, file_taken (codes "serve") p.1 below))
    pick false false true below check = inr (inr (refl, file_taken (codes "check") p.1 below))
    pick false false false below check = absurd (some_fault _ _ check)

-- words in which no fault is found can be planned
pub taken : (words : List Text) → IsTaken words → IsPlannable (subcommand_of moderate words)
taken words e =
    let top = (built moderate).top in
    let names = names_of (built moderate) in
    let stop = stop_after top.rules names words in
    entered_taken (rows_after top.rules names words) stop
    (level-below top names words (is_some (entered (built moderate) stop)) (entered_fault (built moderate) stop) e)
    (level-checks top names words (is_some (entered (built moderate) stop)) (entered_fault (built moderate) stop) e)
