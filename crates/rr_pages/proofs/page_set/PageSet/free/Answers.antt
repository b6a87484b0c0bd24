use Rattle.std.proofs.Common.{◌/◌, ◌∙◌, ◌<◌, length, arith}
use Rattle.std.proofs.lemmas.List.{length-set}
use Rattle.rr_pages.proofs.MarkLemmas.{length-marks_in, changed}
use Rattle.rr_pages.proofs.WordLemmas.{freed_here, freed_elsewhere, none_past}
use Rattle.rr_pages.proofs.PageSetLemmas.{fit_of}
use Rattle.rr_pages.proofs.page_set.PageSet.free.Goals as goal

pub index_mut-requires : goal.index_mut-requires
index_mut-requires c = omega (arith, (fit_of c.args.self.now).whole, length-marks_in c.args.self.now.pages c.args.self.now.words.items)

pub invariant_of-self : goal.invariant_of-self
invariant_of-self c =
    let set = c.args.self.now in
    let below : c.args.page < set.pages = omega (arith, length-marks_in set.pages set.words.items) in
    let lt : c.args.page / 64 < length set.words.items = omega (arith, (fit_of set).whole) in
    let past = none_past set.pages set.words.items _ c.args.page below (fit_of set).past (freed_elsewhere set.words.items c.args.page c.index_mut.result.now lt c.index_mut.ensures.value) in
    record { sound = ∣ record { whole = length-set set.words.items (c.args.page / 64) _ ∙ (fit_of set).whole; past = past } ∣₁ }

pub returns : goal.returns
returns c =
    let set = c.args.self.now in
    let below : c.args.page < set.pages = omega (arith, length-marks_in set.pages set.words.items) in
    let lt : c.args.page / 64 < length set.words.items = omega (arith, (fit_of set).whole) in
    changed set.pages set.words.items _ c.args.page 0 below
    (freed_here set.words.items c.args.page c.index_mut.result.now lt c.index_mut.ensures.value)
    (freed_elsewhere set.words.items c.args.page c.index_mut.result.now lt c.index_mut.ensures.value)
