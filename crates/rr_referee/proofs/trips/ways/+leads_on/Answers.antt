use Rattle.std.proofs.Common.{◌≡◌, ℕ, ◌<◌, List, length, get_or, sym, ◌∙◌, subst, arith}
use Rattle.std.specs.List.{Contains}
use Rattle.std.proofs.lemmas.List.Elements.{Contains-get_or}
use Rattle.rr_routes.specs.Net.{Touches, IsCentre}
use Rattle.rr_checker.proofs.OwnLemmas.{Decides-touches}
use Rattle.rr_checker.proofs.StepLemmas.{yes, no, Decides-never, Decides-always}
use Rattle.rr_referee.specs.Trips.Near.{IsStranded}
use Rattle.rr_referee.specs.Trips.Ways.{GoesOn, LeadsOn, apart_from}
use Rattle.rr_referee.proofs.TripsLemmas.LinkLemmas.{apart_fewer}
use Rattle.rr_referee.proofs.TripsLemmas.WayLemmas.{at_centre, goes_further, goes_nowhere, none_at_all}
use Rattle.rr_referee.proofs.TripsLemmas.NearLemmas.{stranded_nowhere}
use Rattle.rr_referee.proofs.trips.ways.+leads_on.Goals as goal

pub returns-then-is_centre : goal.returns-then-is_centre
returns-then-is_centre t c =
    let touching : Touches c.args.net.now c.args.link c.args.from.now =
    yes (Decides-touches c.args.net.now c.args.link c.args.from.now) (sym c.touches.ensures ∙ c.if-not-touches.false) in
    Decides-always (at_centre c.args.net.now c.args.own.now c.args.link c.args.from.now c.far_end-to.result touching c.far_end-to.ensures
    (yes c.is_centre.ensures c.if-is_centre.true))

pub returns-then-stranded : goal.returns-then-stranded
returns-then-stranded t c =
    let left_is : c.deref.result.now ≡ apart_from c.args.net.now c.args.from.now c.args.own.now = c.deref.ensures.value ∙ c.in_ok-left.ensures {u = tt} in
    let alone : IsStranded c.args.net.now c.args.link (apart_from c.args.net.now c.args.from.now c.args.own.now) =
    subst (λ (ls : List ℕ). IsStranded c.args.net.now c.args.link ls) left_is (c.in_ok-stranded.ensures {u = tt} c.if-stranded.true) in
    let inside : IsCentre c.far_end-to.result → ⊥ = no c.is_centre.ensures c.if-is_centre.false in
    Decides-never (goes_nowhere c.args.net.now c.args.own.now c.args.link c.args.from.now c.far_end-to.result c.far_end-to.ensures inside
    (stranded_nowhere c.args.net.now c.args.own.now c.args.link c.args.from.now c.far_end-to.result alone inside))

pub leads_on-requires : goal.leads_on-requires
leads_on-requires t c =
    let touching : Touches c.args.net.now c.args.link c.args.from.now =
    yes (Decides-touches c.args.net.now c.args.link c.args.from.now) (sym c.touches.ensures ∙ c.if-not-touches.false) in
    let left_is : c.deref-in-loop-next.result.now ≡ apart_from c.args.net.now c.args.from.now c.args.own.now = c.deref-in-loop-next.ensures.value ∙ c.in_ok-left.ensures {u = tt} in
    let fewer : length c.deref-in-loop-next.result.now < length c.args.own.now =
    subst (λ (ls : List ℕ). length ls < length c.args.own.now) (sym left_is) (apart_fewer c.args.net.now c.args.from.now c.args.own.now c.args.link c.requires touching) in
    let next : ℕ = get_or c.deref-next-items.result.now c.loop-next.next-index 0 in (
      omega (arith, fewer, c.decreases),
      subst (λ (ls : List ℕ). Contains ls next) (c.deref-next-items.ensures.value ∙ sym c.deref-in-loop-next.ensures.value)
          (Contains-get_or c.deref-next-items.result.now c.loop-next.next-index 0 c.loop-next-test.true),
    )

pub returns-then-found : goal.returns-then-found
returns-then-found t c =
    let left_is : c.deref-in-loop-next.result.now ≡ apart_from c.args.net.now c.args.from.now c.args.own.now = c.deref-in-loop-next.ensures.value ∙ c.in_ok-left.ensures {u = tt} in
    let items_are : c.deref-next-items.result.now ≡ apart_from c.args.net.now c.args.from.now c.args.own.now = c.deref-next-items.ensures.value ∙ c.in_ok-left.ensures {u = tt} in
    let next : ℕ = get_or c.deref-next-items.result.now c.loop-next.next-index 0 in
    let free : Contains (apart_from c.args.net.now c.args.from.now c.args.own.now) next =
    subst (λ (ls : List ℕ). Contains ls next) items_are (Contains-get_or c.deref-next-items.result.now c.loop-next.next-index 0 c.loop-next-test.true) in
    let rest : LeadsOn c.args.net.now (apart_from c.args.net.now c.args.from.now c.args.own.now) next c.far_end-to.result =
    subst (λ (ls : List ℕ). LeadsOn c.args.net.now ls next c.far_end-to.result) left_is (yes (c.in_ok-found.ensures {u = tt}) c.if-found.true) in
    Decides-always (goes_further c.args.net.now c.args.own.now c.args.link c.args.from.now c.far_end-to.result next (yes c.goes_on.ensures c.if-not-goes_on.false) free rest)

pub returns : goal.returns
returns t c =
    let items : List ℕ = c.deref-next-items.result.now in
    let items_are : items ≡ apart_from c.args.net.now c.args.from.now c.args.own.now = c.deref-next-items.ensures.value ∙ c.in_ok-left.ensures {u = tt} in
    Decides-never (goes_nowhere c.args.net.now c.args.own.now c.args.link c.args.from.now c.far_end-to.result c.far_end-to.ensures (no c.is_centre.ensures c.if-is_centre.false)
    (λ next free goes rest.
    none_at_all (λ (n : ℕ). GoesOn c.args.net.now c.args.link c.args.from.now c.far_end-to.result n × LeadsOn c.args.net.now items n c.far_end-to.result) items
    (λ k less. c.loop-next.invariant k (omega arith)) next
    (subst (λ (ls : List ℕ). Contains ls next) (sym items_are) free) (goes, subst (λ (ls : List ℕ). LeadsOn c.args.net.now ls next c.far_end-to.result) (sym items_are) rest)))
