-- The plain values of a game, and which values a game may have.
use Rattle.std.specs.Prelude.{◌≡◌, ℕ, List}
use Rattle.std.proofs.Common.{refl}
use Rattle.rr_words.specs.Spelling.Form.{Form, form_by, number_form, pair_form}
use Rattle.rr_turns.specs.Bytes.{ends_form}
use Rattle.rr_code.specs.Bytes.{players_form}
use Rattle.rr_rules.specs.declared.parts.StandingParts.{StandingParts}
use Rattle.rr_rules.specs.Parts.{IsStanding, standing_form, standing_of}
use Rattle.rr_rules.specs.Parts.{parts_of as standing_parts}
use Rattle.rr_game.specs.declared.game.Game.{Game}
use Rattle.rr_game.specs.declared.parts.Parts.{Parts}
use Rattle.rr_game.specs.Turning.{AreWithin}

abbrev pub parts_of : Game → Parts
parts_of g = record { players = g.players; standing = standing_parts g.standing; played = g.played; ends = g.ends }

-- a game of players may have these values: it may stand so, and its turns' ends are within the commands that were played
pub record AreParts (p : Parts) : Type 0 where
  pub standing : IsStanding p.standing
  pub ends : AreWithin p.played p.ends

abbrev pub game_of : (p : Parts) → AreParts p → Game
game_of p sound = record { players = p.players; standing = standing_of p.standing; played = p.played; ends = p.ends; within = sound.ends }

-- the same values, one behind the other
abbrev pub Row : Type 0
Row = List (List ℕ) × (StandingParts × (ℕ × List ℕ))

abbrev pub row_of : Parts → Row
row_of p = (p.players, (p.standing, (p.played, p.ends)))

abbrev pub parts_in : Row → Parts
parts_in r = record { players = r.0; standing = r.1.0; played = r.1.1.0; ends = r.1.1.1 }

-- their bytes
abbrev pub game_form : Form Parts
game_form =
    form_by (pair_form players_form (pair_form standing_form (pair_form (number_form 4) ends_form))) row_of parts_in (λ p. refl)

-- a game's values make it, and the game that they make has them
abbrev pub PartsMakeTheGame : Type 0
PartsMakeTheGame = (game : Game) (sound : AreParts (parts_of game)) → game_of (parts_of game) sound ≡ game

abbrev pub GamesHaveTheirParts : Type 0
GamesHaveTheirParts = (parts : Parts) (sound : AreParts parts) → parts_of (game_of parts sound) ≡ parts

-- bytes are those of one game's values at most
abbrev pub PartsHaveOneSpelling : Type 0
PartsHaveOneSpelling = (parts others : Parts) → game_form.Fits parts → game_form.Fits others → game_form.spelling parts ≡ game_form.spelling others → parts ≡ others
