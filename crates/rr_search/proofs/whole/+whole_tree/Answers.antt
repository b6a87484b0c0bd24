use Rattle.std.proofs.Common.{◌≡◌, ℕ, ◌+◌, ◌-◌, ◌*◌, ◌<◌, List, length, get_or, ap, sym, subst, ◌∙◌, arith}
use Rattle.rr_routes.specs.declared.net.CentreLimit.{CentreLimit}
use Rattle.rr_routes.specs.declared.net.Link.{Link}
use Rattle.rr_search.specs.Whole.{whole_size}
use Rattle.rr_search.proofs.WholeLemmas.{whole_size-none, shows_split, counted_split, shown_next, counted_next}
use Rattle.rr_search.proofs.whole.+whole_tree.Goals as goal

pub returns-then-link-links-clause-counted : goal.returns-then-link-links-clause-counted
returns-then-link-links-clause-counted t c =
    let count = ap (λ (ls : List Link). length ls) c.links.ensures in
    let none : length c.args.net.now.links - c.args.link ≡ 0 = omega (arith, count) in
    sym (ap (whole_size (length c.args.net.now.trains)) none ∙ whole_size-none (length c.args.net.now.trains))

pub loop-choice-preserved : goal.loop-choice-preserved
loop-choice-preserved t c =
    record {
      as_many = (let so_far = c.loop-choice.invariant.as_many in let pushed = c.in_ok-push.ensures.len in omega arith);
      shown = shown_next c.args.net.now (c.args.link + 1) c.loop-choice.children.items c.push.new.self.items c.in_ok-child.child
          c.in_ok-push.ensures.items c.in_ok-child.ensures.shows c.loop-choice.invariant.shown;
      counted = counted_next c.loop-choice.children.items c.push.new.self.items c.in_ok-child.child c.loop-choice.choice
          (whole_size (length c.args.net.now.trains) (length c.args.net.now.links - (c.args.link + 1))) c.in_ok-push.ensures.items c.in_ok-child.ensures.counted
          c.loop-choice.invariant.counted;
    }

pub returns-clause-shows : goal.returns-clause-shows
returns-clause-shows t c =
    let count = ap (λ (ls : List Link). length ls) c.links.ensures in
    let trains = ap (λ (ts : List CentreLimit). length ts) c.trains.ensures in
    let inside : c.args.link < length c.args.net.now.links = (let most = c.requires in omega (arith, count, most)) in
    shows_split c.args.net.now c.args.link c.loop-choice.children inside
    (let so_far = c.loop-choice.invariant.as_many in omega (arith, so_far, trains)) c.loop-choice.invariant.shown

pub returns-clause-counted : goal.returns-clause-counted
returns-clause-counted t c =
    let count = ap (λ (ls : List Link). length ls) c.links.ensures in
    let trains = ap (λ (ts : List CentreLimit). length ts) c.trains.ensures in
    let inside : c.args.link < length c.args.net.now.links = (let most = c.requires in omega (arith, count, most)) in
    let all : c.loop-choice.choice ≡ length c.args.net.now.trains + 1 = omega (arith, trains) in
    counted_split (length c.args.net.now.trains) c.args.link (length c.args.net.now.links) c.loop-choice.children inside
    (c.loop-choice.invariant.counted ∙ ap (λ n. n * whole_size (length c.args.net.now.trains) (length c.args.net.now.links - (c.args.link + 1))) all)
