use Rattle.std.proofs.Common.{refl}
use Rattle.std.proofs.lemmas.Bool.{iff_false}
use Rattle.rr_pages.proofs.ChoosingLemmas.{alone_version, alone_bad}
use Rattle.rr_pages.proofs.choosing.choose_alone.Goals as goal

pub returns-then-not-is_known-clause-chosen : goal.returns-then-not-is_known-clause-chosen
returns-then-not-is_known-clause-chosen c = λ file same stands shut. alone_version file c.args.len same c.requires c.args.side c.args.fields stands shut (iff_false c.is_known.ensures c.if-not-is_known.true)

pub returns-then-not-are_in_bounds-clause-chosen : goal.returns-then-not-are_in_bounds-clause-chosen
returns-then-not-are_in_bounds-clause-chosen c = λ file same stands shut.
    let bad = alone_bad file c.args.len same c.requires c.args.side c.args.fields stands shut (c.is_known.ensures.0 c.if-not-is_known.false) (iff_false c.are_in_bounds.ensures c.if-not-are_in_bounds.true) in
    (refl, bad.0, bad.1)
