use Rattle.std.proofs.Common.{◌≡◌, true, false, length, refl, sym, ap, ◌∙◌}
use Rattle.rr_game.specs.History.Snapshots.{least_named}
use Rattle.rr_game.specs.History.Tables.{kept_in}
use Rattle.rr_game.proofs.TurnEnds.{count_told}
use Rattle.rr_game.proofs.HistoryLemmas.Changes.{forget_change}
use Rattle.rr_game.proofs.HistoryLemmas.Making.{turn_named}
use Rattle.rr_game.proofs.HistoryLemmas.Seeing.{turn_seen}
use Rattle.rr_game.proofs.history.table.Table.judge_forget.Goals as goal

pub returns-clause-change : goal.returns-clause-change
returns-clause-change c = λ kit play.
    let table = c.args.self.now in
    let all : c.len.result ≡ length table.kept.commands = c.len.ensures.value in
    forget_change kit (kept_in table) c.args.turn c.least_named.result c.len.result all

pub returns-clause-shows : goal.returns-clause-shows
returns-clause-shows c =
    let table = c.args.self.now in
    let k = c.args.turn in
    record {
      turn = turn_named table k c.if-not-keeps.ensures.value;
      stay = c.len.ensures.value;
      least = c.least_named.ensures ∙ ap least_named (sym (count_told table.game.ends k c.unwrap-count.result (sym c.played_at.ensures.value ∙ c.unwrap-count.ensures)));
      snapshot = refl;
    }

pub returns-then-not-keeps-clause-judged : goal.returns-then-not-keeps-clause-judged
returns-then-not-keeps-clause-judged c = λ seen is. turn_seen c.args.self.now seen is c.args.turn false c.if-not-keeps.ensures.value

pub returns-clause-judged : goal.returns-clause-judged
returns-clause-judged c = λ seen is. turn_seen c.args.self.now seen is c.args.turn true c.if-not-keeps.ensures.value
