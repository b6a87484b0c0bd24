use Rattle.std.proofs.Common.{◌≤◌, ◌+◌, ℕ, List, length, ap, subst, ◌∙◌, inl, inr, arith}
use Rattle.std.specs.List.{Contains}
use Rattle.std.proofs.lemmas.List.{length_push}
use Rattle.std.proofs.lemmas.List.Elements.{Contains-push_cases}
use Rattle.rr_routes.specs.declared.net.Node.TheVariants.{Centre}
use Rattle.rr_routes.specs.Net.{Touches}
use Rattle.rr_routes.proofs.Elements.{Contains-nil}
use Rattle.rr_checker.proofs.IndexLemmas.{noted_numbers, noted_there, numbers_first, numbers_next, one_noted}
use Rattle.rr_checker.proofs.FollowLemmas.{under_way_first, under_way_next, stuck, full_length}
use Rattle.rr_checker.proofs.trips.follow.Goals as goal

pub loop-turn-init : goal.loop-turn-init
loop-turn-init c = record {
  count = ap (λ (xs : List ℕ). length xs) c.new-links.ensures.items;
  taken = rw c.new-links.ensures.items (numbers_first (length c.args.own.now) c.in_ok-taken.taken (c.in_ok-taken.ensures {u = tt}));
  own = λ link none. absurd (Contains-nil link (rw c.new-links.ensures.items at none));
  way = rw (c.new-links.ensures.items, c.in_ok-push.ensures.items, c.new-nodes.ensures.items) (under_way_first c.args.net.now c.args.own.now (Centre c.args.start));
}

pub returns-in-None-clause-way : goal.returns-in-None-clause-way
returns-in-None-clause-way c =
    let all : (link : ℕ) → Contains c.args.own.now link → Touches c.args.net.now link c.loop-turn.at → Contains c.loop-turn.links.items link =
    λ link own touching. (noted_numbers c.loop-turn.links.items c.loop-turn.taken c.loop-turn.invariant.taken link).0
    ((rw c.noted_at.ensures at (c.in-None.ensures {u = tt})) link
    (noted_there c.args.net.now c.args.own.now c.args.index.now c.requires c.loop-turn.at link own touching) touching) in
    stuck c.args.net.now c.args.own.now (Centre c.args.start) c.loop-turn.links.items c.loop-turn.nodes.items c.loop-turn.at c.loop-turn.invariant.way all

pub returns-in-None-clause-own : goal.returns-in-None-clause-own
returns-in-None-clause-own c = c.loop-turn.invariant.own

pub returns-in-None-clause-taken : goal.returns-in-None-clause-taken
returns-in-None-clause-taken c = noted_numbers c.loop-turn.links.items c.loop-turn.taken c.loop-turn.invariant.taken

pub loop-turn-preserved : goal.loop-turn-preserved
loop-turn-preserved c =
    let links = c.loop-turn.links.items in
    let link = c.in-Some.link in
    let found = rw c.noted_at.ensures at (c.in-Some.ensures {u = tt}) in
    let mine : Contains c.args.own.now link = one_noted c.args.net.now c.args.own.now c.args.index.now c.requires c.loop-turn.at link found.0 in
    let pushed = c.in_ok-push-in-Some.ensures.items in
    record {
      count = ap (λ (xs : List ℕ). length xs) pushed ∙ length_push links link ∙ ap (λ (n : ℕ). n + 1) c.loop-turn.invariant.count;
      taken = rw (pushed, c.in_ok-note-in-Some.ensures.ok) (numbers_next links c.loop-turn.taken link c.loop-turn.invariant.taken);
      own = λ other there. elim (Contains-push_cases links link other (rw pushed at there)) [
        | inl old ↦ c.loop-turn.invariant.own other old
        | inr is ↦ subst (λ (l : ℕ). Contains c.args.own.now l) is mine
      ];
      way = under_way_next c.args.net.now c.args.own.now (Centre c.args.start) links c.push-in-Some.new.self.items c.loop-turn.nodes.items c.push-in-Some-2.new.self.items
          c.loop-turn.at c.far_end-at.result link c.loop-turn.invariant.way mine found.1.0
          (λ there. found.1.1 ((noted_numbers links c.loop-turn.taken c.loop-turn.invariant.taken link).1 there)) c.far_end-at.ensures pushed c.in_ok-push-in-Some-2.ensures.items;
    }

pub returns-clause-way : goal.returns-clause-way
returns-clause-way c =
    let count = c.loop-turn.invariant.count in
    let all : length c.args.own.now ≤ length c.loop-turn.links.items = omega (arith, count) in
    full_length c.args.net.now c.args.own.now (Centre c.args.start) c.loop-turn.links.items c.loop-turn.nodes.items c.loop-turn.at c.loop-turn.invariant.way all

pub returns-clause-own : goal.returns-clause-own
returns-clause-own c = c.loop-turn.invariant.own

pub returns-clause-taken : goal.returns-clause-taken
returns-clause-taken c = noted_numbers c.loop-turn.links.items c.loop-turn.taken c.loop-turn.invariant.taken
