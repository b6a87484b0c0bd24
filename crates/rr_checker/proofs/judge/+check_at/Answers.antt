use Rattle.std.proofs.Common.{◌≡◌, ◌≢◌, ℕ, ◌+◌, ◌<◌, ◌≤◌, Option, List, length, set, sym, ap, subst, ◌∙◌, arith}
use Rattle.std.proofs.lemmas.List.{set-set, length-set}
use Rattle.rr_routes.specs.declared.certificate.Fate.{Fate}
use Rattle.rr_routes.specs.declared.certificate.Fate.TheVariants.{Open, Denied}
use Rattle.rr_routes.specs.Certificates.{fate_of}
use Rattle.rr_checker.specs.Choices.{choice_at}
use Rattle.rr_routes.specs.declared.net.CentreLimit.{CentreLimit}
use Rattle.rr_checker.specs.Known.{AreKnown, with_owner}
use Rattle.rr_checker.proofs.KnownLemmas.{known_in_case, known_after, denied_after}
use Rattle.rr_checker.proofs.JudgeLemmas.{child_fewer, open_inside, split_count, child_refused, child_accepted, children_accepted}
use Rattle.rr_checker.proofs.judge.+check_at.Goals as goal

pub returns-in-Bound-clause-shown : goal.returns-in-Bound-clause-shown
returns-in-Bound-clause-shown t c = rw c.in-Bound.is (rw c.deref.ensures.value at c.is_bounded.ensures.bounded)

pub returns-in-Bad-clause-shown : goal.returns-in-Bad-clause-shown
returns-in-Bad-clause-shown t c = rw c.in-Bad.is (rw c.deref-in-Bad.ensures.value at c.is_bad_train.ensures)

pub returns-in-Full-clause-shown : goal.returns-in-Full-clause-shown
returns-in-Full-clause-shown t c = rw c.in-Full.is (rw c.deref-in-Full.ensures.value at c.is_full.ensures)

pub returns-then-len-trains-clause-shown : goal.returns-then-len-trains-clause-shown
returns-then-len-trains-clause-shown t c =
    let trains = ap (λ (ts : List CentreLimit). length ts) c.trains.ensures in
    let differ : length c.in-Split.children.items ≢ length c.args.net.now.trains + 1 = λ same. omega (arith, same, trains, c.in-Split.children.ok.0) in
    rw c.in-Split.is (split_count c.args.net.now c.args.claim c.args.fates.now.items c.in-Split.link c.in-Split.children differ)

pub returns-then-not-branch-clause-shown : goal.returns-then-not-branch-clause-shown
returns-then-not-branch-clause-shown t c =
    let fates : List Fate = c.args.fates.now.items in
    let now : List Fate = set c.loop-place.fates.items c.in-Split.link c.choice_at.result in
    let set_now : now ≡ set fates c.in-Split.link (choice_at c.loop-place.place) =
    ap (λ (fate : Fate). set c.loop-place.fates.items c.in-Split.link fate) c.choice_at.ensures ∙ c.loop-place.invariant.elsewhere (choice_at c.loop-place.place) in
    rw c.in-Split.is (child_refused c.args.net.now c.args.claim fates c.in-Split.link c.in-Split.children c.deref-child-items.result.now c.deref-child-items.ensures.value now c.loop-place.place
    c.child-item.result c.in_ok-check_at-in-Split.field-0 c.loop-place-test.true c.child-item.is set_now (c.in_ok-check_at-in-Split.ensures {u = tt}).shown c.if-not-branch.true)

pub loop-place-preserved : goal.loop-place-preserved
loop-place-preserved t c =
    let fates : List Fate = c.args.fates.now.items in
    let link = c.in-Split.link in
    let now : List Fate = set c.loop-place.fates.items link c.choice_at.result in
    let set_now : now ≡ set fates link (choice_at c.loop-place.place) =
    ap (λ (fate : Fate). set c.loop-place.fates.items link fate) c.choice_at.ensures ∙ c.loop-place.invariant.elsewhere (choice_at c.loop-place.place) in
    let same : c.check_at.new.fates.items ≡ now = (c.in_ok-check_at-in-Split.ensures {u = tt}).same c.if-not-branch.false in
    let opened : fate_of fates link ≡ Open = rw c.deref-in-Split.ensures.value at (c.is_open.ensures.0 c.if-not-is_open.false) in
    let inside : link < length fates = open_inside fates link opened in
    let trains = ap (λ (ts : List CentreLimit). length ts) c.trains.ensures in
    let fits : c.loop-place.place ≤ length c.args.net.now.trains =
    omega (arith, trains, c.if-len-trains.false, c.len.ensures, c.deref-child-items.ensures.len, c.loop-place-test.true) in
    let child : AreKnown c.args.net.now (set fates link (choice_at c.loop-place.place)) c.check_at.new.known.items =
    subst (λ (fs : List Fate). AreKnown c.args.net.now fs c.check_at.new.known.items) set_now ((c.in_ok-check_at-in-Split.ensures {u = tt}).known c.if-not-branch.false) in
    let known_now : c.exchange_owner-in-loop-place.new.known.items
    ≡ with_owner (with_owner c.loop-place.known.items c.loop-place.without.items c.loop-place.place) c.check_at.new.known.items c.loop-place.place =
    c.exchange_owner-in-loop-place.ensures.known ∙ ap (λ (ks : List (Option ℕ)). with_owner ks c.check_at.new.known.items c.loop-place.place) c.exchange_owner.ensures.known in
    let without_now : c.exchange_owner-in-loop-place.new.without.items
    ≡ with_owner c.check_at.new.known.items (with_owner c.loop-place.known.items c.loop-place.without.items c.loop-place.place) c.loop-place.place =
    c.exchange_owner-in-loop-place.ensures.without ∙ ap (λ (ks : List (Option ℕ)). with_owner c.check_at.new.known.items ks c.loop-place.place) c.exchange_owner.ensures.known in
    record {
      as_long = ap (λ (xs : List Fate). length xs) same ∙ length-set c.loop-place.fates.items link c.choice_at.result ∙ c.loop-place.invariant.as_long;
      elsewhere = λ choice. ap (λ (xs : List Fate). set xs link choice) same ∙ set-set c.loop-place.fates.items link c.choice_at.result choice ∙ c.loop-place.invariant.elsewhere choice;
      known = subst (λ (ks : List (Option ℕ)). AreKnown c.args.net.now fates ks) (sym known_now)
          (known_after c.args.net.now fates link inside opened c.loop-place.known.items c.loop-place.without.items c.loop-place.place
          c.loop-place.invariant.known c.loop-place.invariant.without fits c.check_at.new.known.items child);
      without = subst (λ (ks : List (Option ℕ)). AreKnown c.args.net.now (set fates link Denied) ks) (sym without_now)
          (denied_after c.args.net.now fates link inside opened c.loop-place.known.items c.loop-place.without.items c.loop-place.place
          c.loop-place.invariant.known c.loop-place.invariant.without fits c.check_at.new.known.items child);
      accepted = child_accepted c.args.net.now c.args.claim fates link c.in-Split.children c.deref-child-items.result.now c.deref-child-items.ensures.value now c.loop-place.place
          c.child-item.result c.in_ok-check_at-in-Split.field-0 c.loop-place-test.true c.child-item.is set_now (c.in_ok-check_at-in-Split.ensures {u = tt}).shown c.if-not-branch.false
          c.loop-place.invariant.accepted;
    }

pub returns-after-loop-place-clause-shown : goal.returns-after-loop-place-clause-shown
returns-after-loop-place-clause-shown t c =
    let trains = ap (λ (ts : List CentreLimit). length ts) c.trains.ensures in
    let opened : fate_of c.args.fates.now.items c.in-Split.link ≡ Open = rw c.deref-in-Split.ensures.value at (c.is_open.ensures.0 c.if-not-is_open.false) in
    let all : length c.deref-child-items.result.now ≤ c.loop-place.place = omega arith in
    let count : length c.deref-child-items.result.now ≡ length c.args.net.now.trains + 1 =
    omega (arith, trains, c.if-len-trains.false, c.len.ensures, c.deref-child-items.ensures.len) in
    rw c.in-Split.is (children_accepted c.args.net.now c.args.claim c.args.fates.now.items c.in-Split.link c.in-Split.children c.deref-child-items.result.now c.deref-child-items.ensures.value
    c.loop-place.place all opened count c.loop-place.invariant.accepted)

pub check_at-requires : goal.check_at-requires
check_at-requires t c = (
  omega (
    arith,
    c.decreases,
    child_fewer c.args.tree.now c.in-Split.link c.in-Split.children c.deref-child-items.result.now c.loop-place.place c.child-item.result
        c.in-Split.is c.deref-child-items.ensures.value c.loop-place-test.true c.child-item.is,
  ),
  (
    c.requires.tracks,
    let fates : List Fate = c.args.fates.now.items in
        let link = c.in-Split.link in
        let now : List Fate = set c.loop-place.fates.items link c.choice_at.result in
        let set_now : now ≡ set fates link (choice_at c.loop-place.place) =
        ap (λ (fate : Fate). set c.loop-place.fates.items link fate) c.choice_at.ensures ∙ c.loop-place.invariant.elsewhere (choice_at c.loop-place.place) in
        let opened : fate_of fates link ≡ Open = rw c.deref-in-Split.ensures.value at (c.is_open.ensures.0 c.if-not-is_open.false) in
        let trains = ap (λ (ts : List CentreLimit). length ts) c.trains.ensures in
        let fits : c.loop-place.place ≤ length c.args.net.now.trains =
        omega (arith, trains, c.if-len-trains.false, c.len.ensures, c.deref-child-items.ensures.len, c.loop-place-test.true) in
        subst (λ (fs : List Fate). AreKnown c.args.net.now fs c.exchange_owner.new.without.items) (sym set_now)
        (subst (λ (ks : List (Option ℕ)). AreKnown c.args.net.now (set fates link (choice_at c.loop-place.place)) ks) (sym c.exchange_owner.ensures.without)
        (known_in_case c.args.net.now fates link (open_inside fates link opened) opened c.loop-place.known.items c.loop-place.without.items c.loop-place.place
        c.loop-place.invariant.known c.loop-place.invariant.without fits)),
  ),
)
