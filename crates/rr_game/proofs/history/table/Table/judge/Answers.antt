use Rattle.std.proofs.Common.{◌≡◌, ◌⊎◌, None, Some, inl, inr, sym}
use Rattle.std.proofs.lemmas.Result.{MatchResult-weaker, err_from_is_err_and}
use Rattle.rr_turns.proofs.JudgementLemmas.{first-is-found, settled-is}
use Rattle.rr_game.specs.declared.history.fault.Fault.{Fault}
use Rattle.rr_game.specs.declared.history.fault.Fault.TheVariants as F
use Rattle.rr_game.specs.History.Seeing.{own_judgement_at, plain_judgement, turn_verdict_at}
use Rattle.rr_game.proofs.HistoryLemmas.Seeing.{always, back_at, found_at, lawful_at, plain_room, plain_stale, seen_stale}
use Rattle.rr_turns.specs.declared.request.Request.TheVariants.{Play, Back, Forget}
use Rattle.rr_game.specs.History.Changing.{KeepsBy}
use Rattle.rr_game.specs.History.Tables.{kept_in, turns_in}
use Rattle.rr_game.proofs.HistoryLemmas.Changes.{with_kit}
use Rattle.rr_game.proofs.HistoryLemmas.FewPlays.{few_by}
use Rattle.rr_game.proofs.history.table.Table.judge.Goals as goal

pub returns-in-Forget-clause-kept : goal.returns-in-Forget-clause-kept
returns-in-Forget-clause-kept c =
    let table = c.args.self.now in
    rw c.in-Forget.is
    (with_kit c.judge_forget.result c.args.kit.now (λ kit change. KeepsBy kit (kept_in table) (turns_in table) (Forget c.in-Forget.turn) change) c.judge_forget.ensures.kept)

pub returns-in-Play-clause-few : goal.returns-in-Play-clause-few
returns-in-Play-clause-few c =
    few_by c.judge_command.result c.args.kit.now c.args.self.now (Play c.in-Play.command) c.judge_command.ensures.shows c.judge_command.ensures.plays

pub returns-in-Back-clause-few : goal.returns-in-Back-clause-few
returns-in-Back-clause-few c = few_by c.judge_back.result c.args.kit.now c.args.self.now (Back c.in-Back.turn) c.judge_back.ensures.shows c.judge_back.ensures.plays

pub returns-in-Forget-clause-few : goal.returns-in-Forget-clause-few
returns-in-Forget-clause-few c =
    few_by c.judge_forget.result c.args.kit.now c.args.self.now (Forget c.in-Forget.turn) c.judge_forget.ensures.shows c.judge_forget.ensures.plays

pub returns-in_err-judge_stamp-clause-judged : goal.returns-in_err-judge_stamp-clause-judged
returns-in_err-judge_stamp-clause-judged c = λ seen is.
    let p = err_from_is_err_and c.from_residual.result c.from_residual.ensures.1 in
    rw (p.1, p.2) (seen_stale c.args.kit.now c.args.self.now seen is c.args.stamp c.args.request.now _ c.in_err-judge_stamp.ensures.verdict)

pub returns-in-Play-clause-judged : goal.returns-in-Play-clause-judged
returns-in-Play-clause-judged c = λ seen is.
    let kit = c.args.kit.now in
    let asked = Play c.in-Play.command in
    let present = c.in_ok-judge_stamp.ensures.verdict in
    rw c.in-Play.is
    (MatchResult-weaker c.judge_command.result (c.judge_command.ensures.judged seen is) (λ _. lawful_at kit c.args.self.now seen is c.args.stamp present asked)
    (found_at kit c.args.self.now seen is c.args.stamp present asked))

pub returns-in-Back-clause-judged : goal.returns-in-Back-clause-judged
returns-in-Back-clause-judged c = λ seen is.
    let kit = c.args.kit.now in
    let k = c.in-Back.turn in
    let present = c.in_ok-judge_stamp.ensures.verdict in
    rw c.in-Back.is
    (MatchResult-weaker c.judge_back.result (c.judge_back.ensures.judged seen is)
    (λ _ kept. lawful_at kit c.args.self.now seen is c.args.stamp present (Back k) (settled-is (turn_verdict_at seen k) None (sym kept)))
    (back_at kit c.args.self.now seen is c.args.stamp present k))

pub returns-in-Forget-clause-judged : goal.returns-in-Forget-clause-judged
returns-in-Forget-clause-judged c = λ seen is.
    let kit = c.args.kit.now in
    let k = c.in-Forget.turn in
    let present = c.in_ok-judge_stamp.ensures.verdict in
    rw c.in-Forget.is
    (MatchResult-weaker c.judge_forget.result (c.judge_forget.ensures.judged seen is)
    (λ _ kept. lawful_at kit c.args.self.now seen is c.args.stamp present (Forget k) (settled-is (turn_verdict_at seen k) None (sym kept)))
    (λ fault h. found_at kit c.args.self.now seen is c.args.stamp present (Forget k) fault (first-is-found (own_judgement_at kit seen (Forget k)) F.OutOfMemory fault h)))

pub returns-in_err-judge_stamp-clause-plain : goal.returns-in_err-judge_stamp-clause-plain
returns-in_err-judge_stamp-clause-plain c =
    let p = err_from_is_err_and c.from_residual.result c.from_residual.ensures.1 in
    rw (p.1, p.2) (inl (plain_stale (kept_in c.args.self.now) c.args.stamp c.args.request.now _ c.in_err-judge_stamp.ensures.verdict))

pub returns-in-Play-clause-plain : goal.returns-in-Play-clause-plain
returns-in-Play-clause-plain c =
    let kept = kept_in c.args.self.now in
    let command = c.in-Play.command in
    let asked = Play command in
    let present = c.in_ok-judge_stamp.ensures.verdict in
    rw c.in-Play.is
    (MatchResult-weaker c.judge_command.result c.judge_command.ensures.plain (λ _. plain_room kept c.args.stamp command None present)
    (λ fault h. elim h [ inl full ↦ inl (plain_room kept c.args.stamp command (Some fault) present full) | inr room ↦ inr (plain_room kept c.args.stamp command None present room) ]))

pub returns-in-Back-clause-plain : goal.returns-in-Back-clause-plain
returns-in-Back-clause-plain c =
    let kept = kept_in c.args.self.now in
    let asked = Back c.in-Back.turn in
    let present : (plain_judgement kept c.args.stamp asked).first ≡ None = c.in_ok-judge_stamp.ensures.verdict in
    rw c.in-Back.is
    (always c.judge_back.result ((plain_judgement kept c.args.stamp asked).first ≡ None)
    (λ (fault : Fault). ((plain_judgement kept c.args.stamp asked).first ≡ Some fault) ⊎ ((plain_judgement kept c.args.stamp asked).first ≡ None)) present (λ fault. inr present))

pub returns-in-Forget-clause-plain : goal.returns-in-Forget-clause-plain
returns-in-Forget-clause-plain c =
    let kept = kept_in c.args.self.now in
    let asked = Forget c.in-Forget.turn in
    let present : (plain_judgement kept c.args.stamp asked).first ≡ None = c.in_ok-judge_stamp.ensures.verdict in
    rw c.in-Forget.is
    (always c.judge_forget.result ((plain_judgement kept c.args.stamp asked).first ≡ None)
    (λ (fault : Fault). ((plain_judgement kept c.args.stamp asked).first ≡ Some fault) ⊎ ((plain_judgement kept c.args.stamp asked).first ≡ None)) present (λ fault. inr present))
