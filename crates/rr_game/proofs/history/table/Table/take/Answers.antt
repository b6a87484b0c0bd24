use Rattle.std.proofs.Common.{◌∙◌, ◌+◌, ◌++◌, List, ap, take, option_to_list}
use Rattle.rr_code.specs.declared.command.Command.{Command}
use Rattle.rr_turns.specs.Kept.{Kept}
use Rattle.rr_game.specs.declared.game.Game.{Game}
use Rattle.rr_game.proofs.HistoryLemmas.Making.{made, named_made}
use Rattle.rr_game.proofs.history.table.Table.take.Goals as goal

pub returns-clause-played : goal.returns-clause-played
returns-clause-played c = λ kit request before by.
    let old = c.args.self.now in
    let change = c.args.change in
    let added = option_to_list change.added in
    let K : List Command → Kept Command = λ cs. record { commands = cs; floor = change.floor; stamp = old.stamp + 1 } in
    made kit old _ request change before by
    (ap K (c.replace_end.ensures.commands ∙ ap (λ (cs : List Command). take change.stay cs ++ added) c.keep_snapshots.ensures.commands))
    c.replace_game.ensures
    (c.replace_end.ensures.snapshots ∙ ap (λ (gs : List Game). gs ++ option_to_list change.snapshot) c.keep_snapshots.ensures.snapshots)

pub returns-clause-named : goal.returns-clause-named
returns-clause-named c = λ kit request before by shows named.
    let old = c.args.self.now in
    let change = c.args.change in
    let added = option_to_list change.added in
    named_made kit old request change c.replace_end.new.kept.commands c.replace_game.new.game c.replace_end.new.kept.snapshots before by shows
    (c.replace_end.ensures.commands ∙ ap (λ (cs : List Command). take change.stay cs ++ added) c.keep_snapshots.ensures.commands)
    c.replace_game.ensures
    (c.replace_end.ensures.snapshots ∙ ap (λ (gs : List Game). gs ++ option_to_list change.snapshot) c.keep_snapshots.ensures.snapshots) named
