-- The bytes that spell a game.
use Rattle.std.specs.Prelude.{◌≡◌, ℕ, ◌+◌, List, [], ◌∷◌, ◌++◌}
use Rattle.std.proofs.Common.{ap, subst, sym, ◌∙◌}
use Rattle.std.proofs.Props.{props}
use mathlib.Core.HLevel.{Σ_prop_path}
use Rattle.rr_books.specs.Bytes.{place_form}
use Rattle.rr_books.specs.declared.parties.Place.{Place}
use Rattle.rr_books.specs.declared.parties.Place.TheVariants as P
use Rattle.rr_turns.specs.Bytes.{ends_form}
use Rattle.rr_turns.specs.Counts.{RiseWithin}
use Rattle.rr_turns.specs.declared.limits.TheConstants.{MOST_COMMANDS}
use Rattle.rr_rules.specs.Parts.{standing_of}
use Rattle.rr_game.specs.declared.game.Game.{Game}
use Rattle.rr_game.specs.declared.parts.Parts.{Parts}
use Rattle.rr_game.specs.Parts.{AreParts, game_form, parts_of}
use Rattle.rr_game.specs.Turning.{AreWithin}

-- the bytes of a game's plain values
abbrev pub bytes_of : Game → List ℕ
bytes_of game = game_form.spelling (parts_of game)

-- the bytes are those of the game's plain values, which a game may have, and it has played so many commands
pub record SpellsGame (bytes : List ℕ) (count : ℕ) (game : Game) : Type 0 where
  pub sound : ∥ AreParts (parts_of game) ∥₁
  pub fits : game_form.Fits (parts_of game)
  pub spelled : bytes ≡ game_form.spelling (parts_of game)
  pub counted : count ≡ game.played

-- the bytes spell a game that has played so many
abbrev pub SpellsOneGame : List ℕ → ℕ → Type 0
SpellsOneGame bytes count = (game : Game) × SpellsGame bytes count game

-- with the same plain values it is the same game
same_game : (game other : Game) → parts_of game ≡ parts_of other → game ≡ other
same_game game other same =
    let made : (parts : Parts) → AreWithin parts.played parts.ends → Game =
    λ parts within. record { players = parts.players; standing = standing_of parts.standing; played = parts.played; ends = parts.ends; within = within } in
    let one : IsProp (AreWithin game.played game.ends) = hlevel props in
    let P : Parts → Type 0 = λ parts. (within : AreWithin parts.played parts.ends) → game ≡ made parts within in
    subst P same (λ within. ap (made (parts_of game)) (one game.within within)) other.within

place_fits_once : (place : Place) → IsProp (place_form.Fits place)
place_fits_once (P.Seat seat) = hlevel props
place_fits_once (P.Corp corp) = hlevel
place_fits_once P.Offer = hlevel
place_fits_once P.Pool = hlevel
place_fits_once P.Gone = hlevel

rise_once : (least most : ℕ) (counts : List ℕ) → IsProp (RiseWithin least most counts)
rise_once least most [] = hlevel
rise_once least most (count ∷ counts) =
    let rest : IsProp (RiseWithin (count + 1) most counts) = rise_once (count + 1) most counts in hlevel (props, rest)

ends_fit_once : (counts : List ℕ) → IsProp (ends_form.Fits counts)
ends_fit_once [] = hlevel
ends_fit_once (count ∷ counts) =
    let rest : IsProp (RiseWithin 2 MOST_COMMANDS counts) = rise_once 2 MOST_COMMANDS counts in hlevel (props, rest)

-- bytes spell one game at most
pub one_spelled : (bytes : List ℕ) (count : ℕ) (game other : Game) → SpellsGame bytes count game → SpellsGame bytes count other → game ≡ other
one_spelled bytes count game other one two =
    let whole : game_form.spelling (parts_of game) ++ [] ≡ game_form.spelling (parts_of other) ++ [] =
    ap (λ (bs : List ℕ). bs ++ []) (sym one.spelled ∙ two.spelled) in
    same_game game other (game_form.one_way (parts_of game) (parts_of other) [] [] one.fits two.fits whole).0

pub one_game : (bytes : List ℕ) (count : ℕ) → IsProp (SpellsOneGame bytes count)
one_game bytes count one other =
    Σ_prop_path (λ game. hlevel (props, place_fits_once, ends_fit_once)) (one_spelled bytes count one.0 other.0 one.1 other.1)
