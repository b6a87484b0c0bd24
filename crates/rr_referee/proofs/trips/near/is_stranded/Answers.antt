use Rattle.std.proofs.Common.{◌≡◌, ◌<◌, ◌≤◌, ◌+◌, ℕ, false, not, List, ◌++◌, length, get_or, sym, ◌∙◌, ap, subst, arith}
use Rattle.std.specs.List.{filter, list_any}
use Rattle.std.proofs.lemmas.List.{get_or_read}
use Rattle.rr_referee.specs.Trips.Near.{has_centre, meets}
use Rattle.rr_referee.proofs.TripsLemmas.NearLemmas.{IsFlood, flood_first, flood_next, flood_stranded}
use Rattle.rr_referee.proofs.trips.near.is_stranded.Goals as goal

pub loop-done-init : goal.loop-done-init
loop-done-init c =
    let net = c.args.net.now in
    let left : List ℕ = c.args.left.now in
    let near_is : c.in_ok-near.near.items ≡ filter (meets net c.args.link) left = c.in_ok-near.ensures {u = tt} in
    let rest_is : c.in_ok-rest.rest.items ≡ filter (λ x. not (meets net c.args.link x)) left = c.in_ok-rest.ensures {u = tt} in
    let none : list_any (has_centre net) (filter (meets net c.args.link) left) ≡ false =
    subst (λ (ls : List ℕ). list_any (has_centre net) ls ≡ false) (c.deref.ensures.value ∙ near_is) (sym c.some_centre.ensures ∙ c.if-some_centre.false) in
    subst (λ (ls : List ℕ). IsFlood net c.args.link left 0 ls c.in_ok-rest.rest.items) (sym near_is)
    (subst (λ (ls : List ℕ). IsFlood net c.args.link left 0 (filter (meets net c.args.link) left) ls) (sym rest_is) (flood_first net c.args.link left none))

pub returns-then-done-len : goal.returns-then-done-len
returns-then-done-len c =
    let all : length c.loop-done.near.items ≤ c.loop-done.done = omega (arith, c.len.ensures, c.loop-done.near.ok.0) in
    λ e. flood_stranded c.args.net.now c.args.link c.args.left.now c.loop-done.done c.loop-done.near.items c.loop-done.rest.items c.loop-done.invariant all

pub loop-done-preserved : goal.loop-done-preserved
loop-done-preserved c =
    let net = c.args.net.now in
    let near : List ℕ = c.loop-done.near.items in
    let rest : List ℕ = c.loop-done.rest.items in
    let next : ℕ = c.index-next.result.now in
    let less : c.loop-done.done < length near = omega (arith, c.len.ensures, c.loop-done.near.ok.0, c.loop-done.invariant.within, c.if-done-len.false) in
    let next_is : next ≡ get_or near c.loop-done.done 0 = get_or_read near _ _ less c.index-next.ensures 0 in
    let met_is : c.in_ok-met.met.items ≡ filter (meets net next) rest = rw c.deref-in-loop-done.ensures.value at (c.in_ok-met.ensures {u = tt}) in
    let rest_is : c.in_ok-rest-2.rest.items ≡ filter (λ x. not (meets net next x)) rest = rw c.deref-in-loop-done-3.ensures.value at (c.in_ok-rest-2.ensures {u = tt}) in
    let near_is : c.extend_from_slice.new.self.items ≡ near ++ filter (meets net next) rest =
    c.in_ok-extend_from_slice.ensures.items ∙ ap (λ (ls : List ℕ). near ++ ls) (c.deref-in-loop-done-4.ensures.value ∙ met_is) in
    let none : list_any (has_centre net) (filter (meets net next) rest) ≡ false =
    subst (λ (ls : List ℕ). list_any (has_centre net) ls ≡ false) (c.deref-in-loop-done-2.ensures.value ∙ met_is)
    (sym c.some_centre-in-loop-done.ensures ∙ c.if-some_centre-2.false) in
    subst (λ (ls : List ℕ). IsFlood net c.args.link c.args.left.now (c.loop-done.done + 1) ls c.in_ok-rest-2.rest.items) (sym near_is)
    (subst (λ (ls : List ℕ). IsFlood net c.args.link c.args.left.now (c.loop-done.done + 1) (near ++ filter (meets net next) rest) ls) (sym rest_is)
    (flood_next net c.args.link c.args.left.now c.loop-done.done near rest next c.loop-done.invariant less next_is none))

pub returns : goal.returns
returns c =
    let all : length c.loop-done.near.items ≤ c.loop-done.done = omega (arith, c.loop-done.invariant.count) in
    λ e. flood_stranded c.args.net.now c.args.link c.args.left.now c.loop-done.done c.loop-done.near.items c.loop-done.rest.items c.loop-done.invariant all
