use Rattle.std.proofs.Common.{ap}
use Rattle.rr_game.specs.History.Spelling.{CommandBuffer}
use Rattle.rr_game.proofs.HistoryLemmas.Buffers.{spelled_texts}
use Rattle.rr_game.proofs.history.kept.KeptCommands.words.Goals as goal

pub returns : goal.returns
returns c =
    spelled_texts c.self.inside.words.commands c.args.self.now.commands c.self.invariant (ap (λ (b : CommandBuffer). b.commands) c.self.view_is)
