use Rattle.std.proofs.Common.{ℕ, ◌-◌, List, Bool, length, take, drop, refl, sym, ◌∙◌, subst, arith}
use Rattle.std.proofs.lemmas.List.{length-take}
use Rattle.rr_pages.specs.FreePages.{present_of, coming_of}
use Rattle.rr_pages.specs.Sets.{IsFirstFree, NoneFree}
use Rattle.rr_pages.proofs.Lists.{LaysOn, lays_first, lays_more, lays_last, lays_none, cut_front, count_on, count_last}
use Rattle.rr_pages.proofs.chain.chain_write.Goals as goal

pub loop-rest-init : goal.loop-rest-init
loop-rest-init c =
    record {
      lays = subst (λ (ms : List Bool). LaysOn (present_of c.args.free.now) (coming_of c.args.free.now) ms c.args.bytes.now c.args.fresh.now.items c.args.fresh.now.items c.in_ok-head.head c.in_ok-head.head c.args.bytes.now) (sym c.in_ok-head.ensures.coming)
          (lays_first (present_of c.args.free.now) (coming_of c.args.free.now) c.args.bytes.now c.args.fresh.now.items c.in_ok-head.head c.in_ok-head.ensures.first);
      present = c.in_ok-head.ensures.present;
      whole = c.in_ok-head.ensures.whole;
      count = refl;
    }

pub returns-in_err-next-clause-full : goal.returns-in_err-next-clause-full
returns-in_err-next-clause-full c = λ is.
    lays_none (present_of c.args.free.now) (coming_of c.args.free.now) c.args.bytes.now c.args.fresh.now.items (coming_of c.loop-rest.free) c.loop-rest.fresh.items c.in_ok-head.head c.loop-rest.page c.loop-rest.rest.now c.loop-rest.invariant.lays c.loop-rest-test.true
    (subst (λ (ms : List Bool). NoneFree ms (coming_of c.loop-rest.free)) c.loop-rest.invariant.present c.in_err-next.ensures.full)

pub slice_bounds-lay_page-end : goal.slice_bounds-lay_page-end
slice_bounds-lay_page-end c = omega (arith, length-take 4086 c.loop-rest.rest.now, c.loop-rest-test.true)

pub lay_page-requires : goal.lay_page-requires
lay_page-requires c = omega (arith, length-take {A = ℕ})

pub loop-rest-preserved : goal.loop-rest-preserved
loop-rest-preserved c =
    let free = subst (λ (ms : List Bool). IsFirstFree ms (coming_of c.loop-rest.free) c.in_ok-next.next) c.loop-rest.invariant.present c.in_ok-next.ensures.first in
    let cut = cut_front c.loop-rest.rest.now c.loop-rest-test.true in
    let on = lays_more (present_of c.args.free.now) (coming_of c.args.free.now) c.args.bytes.now c.args.fresh.now.items (coming_of c.loop-rest.free) c.loop-rest.fresh.items _ c.in_ok-head.head c.loop-rest.page c.loop-rest.rest.now c.loop-rest.invariant.lays _ c.in_ok-push.ensures.items refl
    c.in_ok-next.next _ _ free c.in_ok-full.ensures cut.0 cut.1 in
    record {
      lays = subst (λ (ms : List Bool). LaysOn (present_of c.args.free.now) (coming_of c.args.free.now) ms c.args.bytes.now c.args.fresh.now.items c.push.new.self.items c.in_ok-head.head c.in_ok-next.next (take (length c.loop-rest.rest.now - 4086) (drop 4086 c.loop-rest.rest.now))) (sym c.in_ok-next.ensures.coming) on;
      present = c.in_ok-next.ensures.present ∙ c.loop-rest.invariant.present;
      whole = c.loop-rest.invariant.whole;
      count = count_on c.loop-rest.fresh.items c.push.new.self.items _ c.loop-rest.rest.now _ c.in_ok-push.ensures.items c.loop-rest-test.true c.loop-rest.invariant.count;
    }

pub returns-clause-laid : goal.returns-clause-laid
returns-clause-laid c =
    lays_last (present_of c.args.free.now) (coming_of c.args.free.now) c.args.bytes.now c.args.fresh.now.items (coming_of c.loop-rest.free) c.loop-rest.fresh.items _ c.in_ok-head.head c.loop-rest.page c.loop-rest.rest.now c.loop-rest.invariant.lays _ c.in_ok-push-2.ensures.items refl
    c.in_ok-last.ensures c.loop-rest-test.false c.loop-rest.invariant.whole

pub returns-clause-count : goal.returns-clause-count
returns-clause-count c = count_last c.loop-rest.fresh.items c.push-2.new.self.items _ c.loop-rest.rest.now _ c.in_ok-push-2.ensures.items c.loop-rest-test.false c.loop-rest.invariant.count
