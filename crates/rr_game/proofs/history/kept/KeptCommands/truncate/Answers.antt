use Rattle.std.proofs.Common.{◌∙◌, ap, map, sym, take}
use Rattle.std.proofs.lemmas.List.{take-map}
use Rattle.rr_game.specs.History.Spelling.{CommandBuffer, command_in}
use Rattle.rr_game.proofs.history.kept.KeptCommands.truncate.Goals as goal

pub returns-clause-commands : goal.returns-clause-commands
returns-clause-commands c =
    ap (map command_in) c.truncate.ensures.commands ∙ sym (take-map command_in c.args.count c.self.inside.words.commands)
    ∙ ap (λ (b : CommandBuffer). take c.args.count b.commands) c.self.view_is
