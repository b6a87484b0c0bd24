use Rattle.std.proofs.Common.{ℕ, ap, refl, ◌∙◌}
use Rattle.std.specs.List.{filter}
use Rattle.rr_turns.specs.Ends.{kept_at}
use Rattle.rr_game.specs.declared.game.Game.{Game}
use Rattle.rr_game.specs.History.Snapshots.{is_between, least_named}
use Rattle.rr_game.proofs.HistoryLemmas.Making.{named_resumed, resumed_played}
use Rattle.rr_game.proofs.history.table.Table.resume.Goals as goal

pub returns-clause-played : goal.returns-clause-played
returns-clause-played c = λ kit before.
    resumed_played kit c.args.self.now _ c.least_snapshot-least.result c.len-count.result c.keep_snapshots.ensures.commands refl c.keep_snapshots.ensures.snapshots before

pub returns-clause-named : goal.returns-clause-named
returns-clause-named c = λ kit before named above ended.
    let old = c.args.self.now in
    named_resumed kit old c.args.floor c.keep_snapshots.new.self.snapshots c.keep_snapshots.new.self.commands before c.keep_snapshots.ensures.commands
    (c.keep_snapshots.ensures.snapshots
    ∙ ap (λ (n : ℕ). filter (λ (game : Game). is_between n c.len-count.result game.played) old.kept.snapshots) c.least_snapshot-least.ensures
    ∙ ap (λ (n : ℕ). filter (λ (game : Game). is_between (least_named (kept_at old.game.ends c.args.floor)) n game.played) old.kept.snapshots) c.len-count.ensures.value)
    named above ended
