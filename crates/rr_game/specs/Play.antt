-- The state of a table's game, from the commands that it accepted.
use Rattle.std.specs.Prelude.{ℕ, pos, Bool, true, false, List, [], ◌∷◌, Option, None, Some, fold}
use Rattle.rr_roster.specs.Terms.{Terms}
use Rattle.rr_books.specs.declared.acts.Act.{Act}
use Rattle.rr_books.specs.Book.{Book}
use Rattle.rr_auction.specs.Opening.{opened}
use Rattle.rr_code.specs.declared.command.Command.{Command}
use Rattle.rr_code.specs.declared.command.Command.TheVariants.{Open}
use Rattle.rr_kit.specs.declared.kit.Kit.{Kit}
use Rattle.rr_rules.specs.Playing.{entries_after, state_after}
use Rattle.rr_rules.specs.State.{GameState}
use Rattle.rr_game.specs.Names.{act_of}

-- the players of a table, from the command that opened it
abbrev pub players_of : List Command → List (List ℕ)
players_of (Open players ∷ _) = players
players_of _ = []

-- a table opens, and nothing has run
abbrev pub opened_state : List (List ℕ) → Terms → GameState
opened_state players roster = record { book = opened players roster; revenue = record { 0 = pos 0 } }

-- the state behind an accepted act
abbrev pub state_with : Kit → GameState → Option Act → GameState
state_with kit state None = state
state_with kit state (Some act) = state_after kit state act

-- the state of a table with these players, after one command more
abbrev pub played_on : Kit → List (List ℕ) → GameState → Command → GameState
played_on kit players state command = state_with kit state (act_of players command)

-- the state of a table's game, from its accepted commands
abbrev pub play : Kit → List Command → GameState
play kit (Open players ∷ commands) = fold (played_on kit players) (opened_state players kit.roster) commands
play kit _ = record { book = []; revenue = record { 0 = pos 0 } }

-- the entries that an accepted act adds to the book
abbrev pub entries_of_act : Kit → GameState → Option Act → Book
entries_of_act kit state None = []
entries_of_act kit state (Some act) = entries_after kit state act

-- the entries that a command adds to the book of the accepted commands
abbrev pub entries_of_command : Kit → List Command → Command → Book
entries_of_command kit accepted command = entries_of_act kit (play kit accepted) (act_of (players_of accepted) command)

-- the commands begin with the opening
abbrev pub begins_with_opening : List Command → Bool
begins_with_opening (Open players ∷ _) = true
begins_with_opening _ = false
