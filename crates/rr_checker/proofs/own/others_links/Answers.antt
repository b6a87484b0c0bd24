use Rattle.std.proofs.Common.{◌≡◌, ◌≤◌, true, false, length, refl, sym, ◌∙◌, ap, arith}
use Rattle.std.proofs.lemmas.List.{get_or_default}
use Rattle.rr_routes.specs.declared.certificate.Fate.TheVariants.{Open, Denied}
use Rattle.rr_routes.specs.Certificates.{fate_of}
use Rattle.rr_checker.specs.Own.{is_others}
use Rattle.rr_checker.proofs.OwnLemmas.{selected_yes, selected_no, selected_all}
use Rattle.rr_checker.proofs.own.others_links.Goals as goal

pub loop-link-preserved : goal.loop-link-preserved
loop-link-preserved c =
    let passes : is_others c.args.train (fate_of c.args.fates.now c.loop-link.link) ≡ true =
    ap (is_others c.args.train) (sym (get_or_default c.args.fates.now c.loop-link.link Open Denied c.loop-link-test.true)) ∙ sym c.is_others.ensures ∙ c.if-not-is_others.false in
    selected_yes (is_others c.args.train) c.args.fates.now c.loop-link.link c.loop-link.others.items c.push.new.self.items c.loop-link.invariant passes c.in_ok-push.ensures.items

pub loop-link-preserved-then-not-is_others : goal.loop-link-preserved-then-not-is_others
loop-link-preserved-then-not-is_others c =
    let fails : is_others c.args.train (fate_of c.args.fates.now c.loop-link.link) ≡ false =
    ap (is_others c.args.train) (sym (get_or_default c.args.fates.now c.loop-link.link Open Denied c.loop-link-test.true)) ∙ sym c.is_others.ensures ∙ c.if-not-is_others.true in
    selected_no (is_others c.args.train) c.args.fates.now c.loop-link.link c.loop-link.others.items c.loop-link.invariant fails

pub returns : goal.returns
returns c =
    let all : length c.args.fates.now ≤ c.loop-link.link = omega arith in
    selected_all (is_others c.args.train) c.args.fates.now c.loop-link.link c.loop-link.others.items refl all c.loop-link.invariant
