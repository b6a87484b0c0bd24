use Rattle.std.proofs.Common.{rules, tests, ◌≡◌, [], ◌∷◌, map, ap, sym, ◌∙◌, subst, false, IfOk, Some, arith}
use Rattle.std.specs.Prelude.{bytes_eq, if◌then◌else◌}
use Rattle.std.specs.List.{slice_split}
use Rattle.std.proofs.lemmas.Grind.{common_steps}
use Rattle.std.proofs.lemmas.Iterator.Consumers.{map_from_collect}
use Rattle.std.proofs.lemmas.Iterator.Splits.{YieldsList-from_slice_split}
use Rattle.rr_words.specs.Numeral.{number_of}
use Rattle.rr_routes.specs.Sheets.Each.{each}
use Rattle.rr_routes.specs.Sheets.Reading.{links_of, is_hyphen}
use Rattle.rr_routes.proofs.sheets.sheet.LinkNumbers.read.Goals as goal

pub returns : goal.returns
returns c =
    let collected = map_from_collect c.collect.result c.collect.ensures.ran (YieldsList-from_slice_split _ is_hyphen c.args.text.now c.split.ensures.rest c.split.ensures.done c.split.ensures.closure (λ x b q k. search (rules, tests))) in
    let words : map (λ word. word.now) c.in_ok-words.words.items ≡ slice_split is_hyphen c.args.text.now = rw c.in_ok-words.was at collected in
    let other : bytes_eq c.args.text.now (45 ∷ []) ≡ false = grind (arith, common_steps) in
    let split : links_of c.args.text.now ≡ each number_of (slice_split is_hyphen c.args.text.now) =
    ap (λ test. if test then Some [] else each number_of (slice_split is_hyphen c.args.text.now)) other in
    let all : each number_of (map (λ word. word.now) c.deref.result.now) ≡ links_of c.args.text.now =
    ap (λ items. each number_of (map (λ word. word.now) items)) c.deref.ensures.value ∙ ap (each number_of) words ∙ sym split in
    subst (λ value. IfOk c.read_words.result (λ read. read ≡ value)) all c.read_words.ensures
