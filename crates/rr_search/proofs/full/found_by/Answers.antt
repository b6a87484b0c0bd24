use Rattle.std.proofs.Common.{◌<◌, length, refl, ap, inl, inr, arith}
use Rattle.rr_routes.specs.declared.net.Link.{Link}
use Rattle.std.proofs.Common.{List}
use Rattle.rr_search.proofs.FoundLemmas.{own_inside, sheet_best}
use Rattle.rr_search.proofs.Oriented.{none_refused}
use Rattle.rr_search.proofs.full.found_by.Goals as goal

pub sheet_of-requires-clause-numbers : goal.sheet_of-requires-clause-numbers
sheet_of-requires-clause-numbers c way link at on =
    let inside : link < length c.args.net.now.links = own_inside c.args.net.now c.args.fates.now c.args.journeys.now c.requires.decided c.requires.own way link at on in
    let count = ap (λ (ls : List Link). length ls) c.links-count.ensures in
    omega (arith, inside, count)

pub returns-in-Ok : goal.returns-in-Ok
returns-in-Ok c =
    sheet_best c.args.net.now c.args.kinds.now c.args.fates.now c.args.journeys.now c.in_ok-sheet.sheet c.requires.kinds c.requires.decided c.requires.own
    (c.in_ok-sheet.ensures {u = tt}) (record { sheet = c.in_ok-sheet.sheet; revenue = c.in-Ok.revenue }) refl c.in-Ok.ensures.judged

pub unreachable-requires : goal.unreachable-requires
unreachable-requires c =
    elim c.in-Err-IllegalSheet.ensures.judged [
      | inl none ↦ let other = c.in-Err-IllegalSheet.field-0-is in cc
      | inr broken ↦ none_refused c.args.net.now c.args.kinds.now c.args.fates.now c.args.journeys.now c.in_ok-sheet.sheet c.requires.kinds c.requires.decided c.requires.own
          (c.in_ok-sheet.ensures {u = tt}) broken.0 broken.2
    ]
