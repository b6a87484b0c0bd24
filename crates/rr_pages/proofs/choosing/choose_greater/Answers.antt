use Rattle.std.proofs.Common.{◌<◌, inl, inr, refl, arith}
use Rattle.std.proofs.lemmas.Bool.{iff_false}
use Rattle.rr_pages.proofs.ChoosingLemmas.{both_version, both_bad, first_taken, second_taken}
use Rattle.rr_pages.proofs.choosing.choose_greater.Goals as goal

pub returns-then-not-is_known-clause-chosen : goal.returns-then-not-is_known-clause-chosen
returns-then-not-is_known-clause-chosen c = λ file same stands stands_too. both_version file c.args.len same c.requires c.args.first c.args.second stands stands_too (inl (iff_false c.is_known.ensures c.if-not-is_known.true))

pub returns-then-not-is_known-2-clause-chosen : goal.returns-then-not-is_known-2-clause-chosen
returns-then-not-is_known-2-clause-chosen c = λ file same stands stands_too. both_version file c.args.len same c.requires c.args.first c.args.second stands stands_too (inr (iff_false c.is_known-2.ensures c.if-not-is_known-2.true))

pub returns-then-not-are_in_bounds-clause-chosen : goal.returns-then-not-are_in_bounds-clause-chosen
returns-then-not-are_in_bounds-clause-chosen c = λ file same stands stands_too.
    let bad = both_bad file c.args.len same c.requires c.args.first c.args.second stands stands_too (c.is_known.ensures.0 c.if-not-is_known.false) (c.is_known-2.ensures.0 c.if-not-is_known-2.false) (inl (iff_false c.are_in_bounds.ensures c.if-not-are_in_bounds.true)) in
    (refl, bad.0, bad.1)

pub returns-then-not-are_in_bounds-2-clause-chosen : goal.returns-then-not-are_in_bounds-2-clause-chosen
returns-then-not-are_in_bounds-2-clause-chosen c = λ file same stands stands_too.
    let bad = both_bad file c.args.len same c.requires c.args.first c.args.second stands stands_too (c.is_known.ensures.0 c.if-not-is_known.false) (c.is_known-2.ensures.0 c.if-not-is_known-2.false) (inr (iff_false c.are_in_bounds-2.ensures c.if-not-are_in_bounds-2.true)) in
    (refl, bad.0, bad.1)

pub returns-then-first-second-2-clause-chosen : goal.returns-then-first-second-2-clause-chosen
returns-then-first-second-2-clause-chosen c = λ file same stands stands_too.
    second_taken file c.args.len same c.requires c.args.first c.args.second stands stands_too c.root_of.result c.root_of.ensures (c.is_known.ensures.0 c.if-not-is_known.false) (c.is_known-2.ensures.0 c.if-not-is_known-2.false)
    (c.are_in_bounds.ensures.0 c.if-not-are_in_bounds.false) (c.are_in_bounds-2.ensures.0 c.if-not-are_in_bounds-2.false) c.if-first-second-2.true

pub returns-clause-chosen : goal.returns-clause-chosen
returns-clause-chosen c = λ file same stands stands_too.
    let lower : c.args.second.number < c.args.first.number = omega arith in
    first_taken file c.args.len same c.requires c.args.first c.args.second stands stands_too c.root_of-2.result c.root_of-2.ensures (c.is_known.ensures.0 c.if-not-is_known.false) (c.is_known-2.ensures.0 c.if-not-is_known-2.false)
    (c.are_in_bounds.ensures.0 c.if-not-are_in_bounds.false) (c.are_in_bounds-2.ensures.0 c.if-not-are_in_bounds-2.false) lower
