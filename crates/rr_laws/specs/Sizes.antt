-- How many bytes a game takes.
use Rattle.std.specs.Prelude.{ℕ, ◌≤◌, length}
use Rattle.rr_game.specs.declared.game.Game.{Game}
use Rattle.rr_game.specs.History.GameBytes.{bytes_of}
use Rattle.rr_game.specs.Parts.{game_form, parts_of}

-- the most bytes that the plain values of a game take, and the least
abbrev pub most_game_bytes : ℕ
most_game_bytes = 7223

abbrev pub least_game_bytes : ℕ
least_game_bytes = 1412

-- a game whose values have their forms takes no more bytes, and no fewer
abbrev pub GamesAreShort : Type 0
GamesAreShort = (game : Game) → game_form.Fits (parts_of game) → length (bytes_of game) ≤ most_game_bytes

abbrev pub GamesAreNoShorter : Type 0
GamesAreNoShorter = (game : Game) → game_form.Fits (parts_of game) → least_game_bytes ≤ length (bytes_of game)
