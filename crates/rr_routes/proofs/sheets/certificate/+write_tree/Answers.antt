use Rattle.std.proofs.Common.{◌≡◌, ◌+◌, List, ◌++◌, ◌∷◌, [], ap, sym, ◌∙◌, map, take, append_assoc}
use Rattle.std.specs.List.{flat_map}
use Rattle.std.proofs.lemmas.List.{take_all}
use Rattle.rr_words.specs.Line.{line_of}
use Rattle.rr_routes.specs.declared.certificate.CertTree.{CertTree}
use Rattle.rr_routes.specs.Sheets.Certificate.{word_text, words_of}
use Rattle.rr_routes.specs.declared.sheets.word.CertWord.TheVariants as W
use Rattle.rr_routes.proofs.SheetsLemmas.CertificateLemmas.{text_behind, split_text, child-next}
use Rattle.rr_routes.proofs.sheets.certificate.+write_tree.Goals as goal

pub loop-child-preserved : goal.loop-child-preserved
loop-child-preserved t c =
    let apart : c.push-in-loop-child.new.self.items ≡ c.loop-child.out.items ++ 32 ∷ [] = (c.in_ok-push-in-Split.ensures {u = tt}).items in
    child-next c.write_numbered-in-Split.new.out.items c.loop-child.out.items c.push-in-loop-child.new.self.items c.write_tree.new.out.items
    c.deref-child-items.result.now c.loop-child.child-index c.child-item.result
    c.loop-child-test.true c.child-item.is c.loop-child.invariant apart (c.in_ok-write_tree-in-Split.ensures {u = tt})

pub returns-after-loop-child : goal.returns-after-loop-child
returns-after-loop-child t c =
    let trees : List CertTree = c.deref-child-items.result.now in
    let all : take c.loop-child.child-index trees ≡ c.in-Split.children.items = take_all c.loop-child.child-index trees c.loop-child-test.false ∙ c.deref-child-items.ensures.value in
    let begun : c.write_numbered-in-Split.new.out.items ≡ c.args.out.now.items ++ word_text (W.Split (c.in-Split.link + 1)) = c.in_ok-write_numbered-in-Split.ensures {u = tt} in
    c.loop-child.invariant
    ∙ ap (λ (ts : List CertTree). c.write_numbered-in-Split.new.out.items ++ flat_map text_behind ts) all
    ∙ ap (λ front. front ++ flat_map text_behind c.in-Split.children.items) begun
    ∙ append_assoc c.args.out.now.items (word_text (W.Split (c.in-Split.link + 1))) (flat_map text_behind c.in-Split.children.items)
    ∙ ap (λ text. c.args.out.now.items ++ text) (sym (split_text c.in-Split.link c.in-Split.children) ∙ ap (λ tree. line_of (map word_text (words_of tree))) (sym c.in-Split.is))
