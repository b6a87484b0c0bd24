use Rattle.std.proofs.Common.{rules, tests, ◌≡◌, ℕ, ◌≤◌, List, [], ◌∷◌, length, map, ap, sym, ◌∙◌, subst, refl, IfOk, arith}
use Rattle.std.specs.List.{slice_split}
use Rattle.std.proofs.lemmas.Grind.{common_steps}
use Rattle.std.proofs.lemmas.Iterator.Consumers.{map_from_collect}
use Rattle.std.proofs.lemmas.Iterator.Splits.{YieldsList-from_slice_split}
use Rattle.rr_tiles.specs.Edge.{edges_in, edges_of, is_comma}
use Rattle.rr_tiles.proofs.edge.Edges.read.Goals as goal

edges_of-some : (text : List ℕ) → 1 ≤ length text → edges_of text ≡ edges_in (slice_split is_comma text)
edges_of-some [] some = absurd (omega arith)
edges_of-some (c ∷ rest) some = refl

pub returns : goal.returns
returns c =
    let collected = map_from_collect c.collect.result c.collect.ensures.ran (YieldsList-from_slice_split _ is_comma c.args.text.now c.split.ensures.rest c.split.ensures.done c.split.ensures.closure (λ x b q k. search (rules, tests))) in
    let words : map (λ word. word.now) c.in_ok-words.words.items ≡ slice_split is_comma c.args.text.now = rw c.in_ok-words.was at collected in
    let some : 1 ≤ length c.args.text.now = grind (arith, common_steps) in
    let all : edges_in (map (λ word. word.now) c.deref.result.now) ≡ edges_of c.args.text.now = ap (λ items. edges_in (map (λ word. word.now) items)) c.deref.ensures.value ∙ ap edges_in words ∙ sym (edges_of-some c.args.text.now some) in
    subst (λ value. IfOk c.read_words.result (λ read. read ≡ value)) all c.read_words.ensures
