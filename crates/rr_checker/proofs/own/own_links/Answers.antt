use Rattle.std.proofs.Common.{◌≡◌, ◌≤◌, true, false, length, refl, sym, ◌∙◌, ap, arith}
use Rattle.std.proofs.lemmas.List.{get_or_default}
use Rattle.rr_routes.specs.declared.certificate.Fate.TheVariants.{Open, Denied}
use Rattle.rr_routes.specs.Certificates.{fate_of}
use Rattle.rr_checker.specs.Own.{is_of}
use Rattle.rr_checker.proofs.OwnLemmas.{selected_yes, selected_no, selected_all}
use Rattle.rr_checker.proofs.own.own_links.Goals as goal

pub loop-link-preserved : goal.loop-link-preserved
loop-link-preserved c =
    let passes : is_of c.args.train (fate_of c.args.fates.now c.loop-link.link) ≡ true =
    ap (is_of c.args.train) (sym (get_or_default c.args.fates.now c.loop-link.link Open Denied c.loop-link-test.true)) ∙ sym c.is_of.ensures ∙ c.if-not-is_of.false in
    selected_yes (is_of c.args.train) c.args.fates.now c.loop-link.link c.loop-link.own.items c.push.new.self.items c.loop-link.invariant passes c.in_ok-push.ensures.items

pub loop-link-preserved-then-not-is_of : goal.loop-link-preserved-then-not-is_of
loop-link-preserved-then-not-is_of c =
    let fails : is_of c.args.train (fate_of c.args.fates.now c.loop-link.link) ≡ false =
    ap (is_of c.args.train) (sym (get_or_default c.args.fates.now c.loop-link.link Open Denied c.loop-link-test.true)) ∙ sym c.is_of.ensures ∙ c.if-not-is_of.true in
    selected_no (is_of c.args.train) c.args.fates.now c.loop-link.link c.loop-link.own.items c.loop-link.invariant fails

pub returns : goal.returns
returns c =
    let all : length c.args.fates.now ≤ c.loop-link.link = omega arith in
    selected_all (is_of c.args.train) c.args.fates.now c.loop-link.link c.loop-link.own.items refl all c.loop-link.invariant
