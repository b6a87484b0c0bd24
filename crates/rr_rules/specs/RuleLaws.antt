-- What always holds of the rules of a table.
use Rattle.std.specs.Prelude.{◌≡◌, true, ◌∷◌, ◌++◌}
use Rattle.rr_books.specs.declared.acts.Act.{Act}
use Rattle.rr_books.specs.declared.acts.Act.TheVariants as A
use Rattle.rr_books.specs.declared.entries.Entry.TheVariants as E
use Rattle.rr_books.specs.declared.entries.Marker.TheVariants as M
use Rattle.rr_books.specs.declared.parties.Seat.{Seat}
use Rattle.rr_books.specs.Book.{Book}
use Rattle.rr_kit.specs.declared.kit.Kit.{Kit}
use Rattle.rr_turns.specs.Judgement.{HasOneVerdict}
use Rattle.rr_rules.specs.Judging.{game_is_over, judgement}
use Rattle.rr_rules.specs.State.{GameState}

-- a command isn't refused for two reasons, nor refused and lawful
abbrev pub ActsHaveOneVerdict : Type 0
ActsHaveOneVerdict = (kit : Kit) (state : GameState) (act : Act) → HasOneVerdict (judgement kit state act)

-- the game is over once a seat has said that it is bankrupt, whatever follows
abbrev pub BankruptcyEndsTheGame : Type 0
BankruptcyEndsTheGame = (kit : Kit) (book more : Book) (s : Seat) → game_is_over kit (book ++ E.Step (M.Act (A.Bankrupt s)) ∷ more) ≡ true
