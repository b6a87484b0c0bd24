use Rattle.std.proofs.Common.{◌≡◌, ◌<◌, ◌≤◌, [], length, ap, ◌∙◌, subst, arith, rules}
use Rattle.rr_disk.specs.Disk.{DiskState}
use Rattle.rr_reading.specs.Lending.Chains.{left_of, links_left, piece_of, StepsOn}
use Rattle.rr_reading.specs.Lending.Pages.{joined}
use Rattle.rr_reading.proofs.LendingLemmas.CommandLemmas.{few, nothing_left, at_true, at_false}
use Rattle.rr_reading.proofs.LendingLemmas.LinkLemmas.{steps_lend}
use Rattle.rr_reading.proofs.lending.commands.Commands.begin.Goals as goal

pub pages-preserved : goal.pages-preserved
pages-preserved g c =
    let file = (g.D.Disk.state c.args.disk.now).content in
    let old = c.pages.self in
    let new = c.advance.new.self in
    let past : length (piece_of old.chains) ≤ old.at = omega (arith, ap length c.piece.ensures) in
    record {
      rest = λ honest.
          let before = c.in_ok-more.ensures.honest honest in
          let steps = subst (λ (s : DiskState). StepsOn s.content old.chains new) (c.pages.invariant.same_state before) (at_true (g.D.Disk.Honest c.advance.new.disk → StepsOn (g.D.Disk.state c.pages.disk).content old.chains new) c.if-not-more.false c.in_ok-more.ensures.more honest) in
          c.pages.invariant.rest before ∙ nothing_left (piece_of old.chains) (left_of file old.chains) old.at past ∙ steps_lend file old.chains new steps;
      fewer = omega (arith, c.pages.invariant.fewer, at_true (length (links_left new) < length (links_left old.chains)) c.if-not-more.false c.in_ok-more.ensures.fewer, few new.page);
      joined = c.pages.invariant.joined;
      pages = search rules;
      all = search rules;
      honest = search rules;
      same_state = search rules;
      same_past = search rules;
      faults = search rules;
      writes = search rules;
      syncs = search rules;
      works = search rules;
      same_len = search rules;
    }

pub returns-then-not-more-clause-end : goal.returns-then-not-more-clause-end
returns-then-not-more-clause-end g c = λ honest.
    let file = (g.D.Disk.state c.args.disk.now).content in
    let old = c.pages.self in
    let past : length (piece_of old.chains) ≤ old.at = omega (arith, ap length c.piece.ensures) in
    c.pages.invariant.rest (c.in_ok-more.ensures.honest honest) ∙ nothing_left (piece_of old.chains) (left_of file old.chains) old.at past
    ∙ ap (joined file) (at_false (links_left old.chains ≡ []) c.if-not-more.true c.in_ok-more.ensures.end)
