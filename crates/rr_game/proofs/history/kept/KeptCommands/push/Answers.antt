use Rattle.std.proofs.Common.{List, ℕ, All, ap, subst, sym}
use Rattle.rr_game.specs.History.Spelling.{CommandBuffer, IsSpelled}
use Rattle.rr_game.proofs.HistoryLemmas.Buffers.{commands_push, spelled_push}
use Rattle.rr_game.proofs.history.kept.KeptCommands.push.Goals as goal

pub invariant_of-self : goal.invariant_of-self
invariant_of-self c =
    let P : List (List ℕ) → Type 0 = λ words. All IsSpelled words in
    subst P (sym c.push.ensures)
    (spelled_push c.self.inside.words.commands c.as_bytes.result.now c.args.command.now c.self.invariant c.as_bytes.ensures.form c.as_bytes.ensures.value)

pub returns-clause-commands : goal.returns-clause-commands
returns-clause-commands c =
    commands_push c.self.inside.words.commands c.push.new.self.commands c.as_bytes.result.now c.args.command.now c.args.self.now.commands
    (ap (λ (b : CommandBuffer). b.commands) c.self.view_is) c.as_bytes.ensures.form c.as_bytes.ensures.value c.push.ensures
