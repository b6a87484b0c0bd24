use Rattle.std.proofs.Common.{◌/◌, ◌%◌, eqb, length, get_or, sym, ap, ◌∙◌, arith}
use Rattle.rr_pages.proofs.MarkLemmas.{mark_of}
use Rattle.std.proofs.lemmas.Bool.{ltb-true, ltb-false}
use Rattle.std.proofs.lemmas.List.{get_or_default}
use Rattle.std.proofs.lemmas.Nat.Bits.{shr_and_one}
use Rattle.std.specs.Int.{bit_at}
use Rattle.rr_pages.proofs.PageSetLemmas.{fit_of}
use Rattle.rr_pages.proofs.page_set.PageSet.has.Goals as goal

pub returns-in-None : goal.returns-in-None
returns-in-None c =
    let set = c.args.self.now in
    let outside = ltb-false _ _ (sym c.in-None.ensures.lookup.0) in
    sym (mark_of set.pages set.words.items c.args.page (fit_of set).past ∙ ap (λ bit. eqb bit 1) ((fit_of set).past c.args.page (omega (arith, outside, (fit_of set).whole, ap length c.deref.ensures.value))))

pub returns-in-Some : goal.returns-in-Some
returns-in-Some c =
    let set = c.args.self.now in
    let inside = ltb-true _ _ (sym c.in-Some.ensures.lookup.0) in
    let word = c.in-Some.ensures.lookup.1 ∙ get_or_default c.deref.result.now (c.args.page / 64) _ 0 inside ∙ ap (λ words. get_or words (c.args.page / 64) 0) c.deref.ensures.value in
    ap (λ bit. eqb bit 1) (shr_and_one c.in-Some.word.now (c.args.page % 64) ∙ ap (λ w. bit_at w (c.args.page % 64)) word) ∙ sym (mark_of set.pages set.words.items c.args.page (fit_of set).past)
