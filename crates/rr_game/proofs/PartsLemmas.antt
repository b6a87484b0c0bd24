-- A game and its plain values.
use Rattle.std.proofs.Common.{◌≡◌, ◌∙◌, Option, None, Some, ap, sym, subst}
use Rattle.std.specs.Prelude.{MatchOption}
use Rattle.std.proofs.Props.{props}
use Rattle.rr_rules.specs.Parts.{IsStanding, standing_of}
use Rattle.rr_rules.specs.State.{AtTable}
use Rattle.rr_game.specs.declared.game.Game.{Game}
use Rattle.rr_game.specs.declared.parts.Parts.{Parts}
use Rattle.rr_game.specs.Parts.{AreParts, PartsMakeTheGame, game_of, parts_of}
use Rattle.rr_game.specs.Turning.{AreWithin}

pub parts_make_the_game : PartsMakeTheGame
parts_make_the_game game sound =
    let one : IsProp (AreWithin game.played game.ends) = hlevel props in
    let G : AreWithin game.played game.ends → Game = λ within. record { players = game.players; standing = game.standing; played = game.played; ends = game.ends; within = within } in
    ap G (one sound.ends game.within)

pub made_of : (game : Game) (parts : Parts) → parts ≡ parts_of game → (sound : AreParts parts) → game_of parts sound ≡ game
made_of game parts same =
    let P : Parts → Type 0 = λ p. (sound : AreParts p) → game_of p sound ≡ game in
    subst P (sym same) (parts_make_the_game game)

-- the game that is made of values which a game may have
game_made : (parts : Parts) (standing : AtTable) (within : AreWithin parts.played parts.ends) → IsStanding parts.standing → standing ≡ standing_of parts.standing
    → (sound : AreParts parts) × (◌≡◌ {A = Game} (record { players = parts.players; standing = standing; played = parts.played; ends = parts.ends; within = within }) (game_of parts sound))
game_made parts standing within is same =
    let G : AtTable → Game = λ s. record { players = parts.players; standing = s; played = parts.played; ends = parts.ends; within = within } in
    (record { standing = is; ends = within }, ap G same)

pub game_found : (parts : Parts) (found : Option AtTable) (standing : AtTable) (within : AreWithin parts.played parts.ends) → found ≡ Some standing
    → MatchOption found (IsStanding parts.standing → ⊥) (λ s. IsStanding parts.standing × (s ≡ standing_of parts.standing))
    → (sound : AreParts parts) × (◌≡◌ {A = Game} (record { players = parts.players; standing = standing; played = parts.played; ends = parts.ends; within = within }) (game_of parts sound))
game_found parts found standing within is told =
    let Told : Option AtTable → Type 0 = λ o. MatchOption o (IsStanding parts.standing → ⊥) (λ s. IsStanding parts.standing × (s ≡ standing_of parts.standing)) in
    let both = subst Told is told in
    game_made parts standing within both.0 both.1

-- a game's values are those of a game, and that is the game
pub made : (game : Game) (parts : Parts) (r : Option Game) → parts ≡ parts_of game → AreParts parts
    → MatchOption r (AreParts parts → ⊥) (λ other. (sound : AreParts parts) × (other ≡ game_of parts sound))
    → r ≡ Some game
made game parts None same sound h = absurd (h sound)
made game parts (Some other) same sound h = ap Some (h.1 ∙ made_of game parts same h.0)
