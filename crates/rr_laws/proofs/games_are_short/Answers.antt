use Rattle.rr_game.specs.Parts.{parts_of}
use Rattle.rr_laws.proofs.SizeLemmas.GameSizes.{game_takes}
use Rattle.rr_laws.proofs.games_are_short.Goals as goal

pub returns : goal.returns
returns c = record {
  most = λ game fits. game_takes.no_more (parts_of game) fits;
  least = λ game fits. game_takes.no_fewer (parts_of game) fits;
}
