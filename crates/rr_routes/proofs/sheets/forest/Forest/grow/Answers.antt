use Rattle.std.proofs.Common.{◌≡◌, ◌≤◌, List, ◌∷◌, sym, subst, arith}
use Rattle.std.proofs.lemmas.Option.{MatchOption-at_none, MatchOption-at_some}
use Rattle.std.proofs.lemmas.Result.{on_ok_weaker}
use Rattle.rr_routes.specs.declared.certificate.CertTree.{CertTree, Split}
use Rattle.rr_routes.specs.Sheets.Growing.{IsForest}
use Rattle.rr_routes.specs.declared.sheets.word.CertWord.TheVariants as W
use Rattle.rr_routes.proofs.SheetsLemmas.ForestLemmas.{not_placed, trees_lack, split-grown}
use Rattle.rr_routes.proofs.sheets.forest.Forest.grow.Goals as goal

pub returns-in_default-clause-stopped : goal.returns-in_default-clause-stopped
returns-in_default-clause-stopped c behind other there spelled =
    let zero : c.in-Bad.number ≡ 0 = c.in_default.ensures in
    not_placed c.args.trains (W.Bad c.in-Bad.number) behind other (λ placed. let one : 1 ≤ c.in-Bad.number = placed in omega (arith, zero, one))
    (subst (λ word. IsForest c.args.trains (word ∷ behind) other) c.in-Bad.is spelled)

pub returns-in_default-place_of-clause-stopped : goal.returns-in_default-place_of-clause-stopped
returns-in_default-place_of-clause-stopped c behind other there spelled =
    let zero : c.in-Split.number ≡ 0 = c.in_default-place_of.ensures in
    not_placed c.args.trains (W.Split c.in-Split.number) behind other (λ placed. let one : 1 ≤ c.in-Split.number = placed in omega (arith, zero, one))
    (subst (λ word. IsForest c.args.trains (word ∷ behind) other) c.in-Split.is spelled)

pub returns-in_default-2-clause-stopped : goal.returns-in_default-2-clause-stopped
returns-in_default-2-clause-stopped c behind other there spelled =
    let few = MatchOption-at_none _ _ c.in_default-2.is (c.in_ok-children-in-Split.ensures {u = tt}) in
    trees_lack c.args.trains c.in-Split.number behind c.args.self.now other few there
    (subst (λ word. IsForest c.args.trains (word ∷ behind) other) c.in-Split.is spelled)

pub returns-in-Some-2-clause-grown : goal.returns-in-Some-2-clause-grown
returns-in-Some-2-clause-grown c =
    let taken = MatchOption-at_some _ _ c.in-Some-2.children c.in-Some-2.is (c.in_ok-children-in-Split.ensures {u = tt}) in
    let tree : CertTree = Split c.in-Some-place_of.link c.in-Some-2.children in
    on_ok_weaker c.plant-in-Split.result
    (λ planted behind there.
    let grown = split-grown c.args.trains c.in-Some-place_of.link c.in-Split.number behind c.in-Some-2.children c.args.self.now c.take_children.new.self
    c.in-Some-place_of.ensures taken.0 taken.1 there in
    let worded : IsForest c.args.trains (c.args.word ∷ behind) (tree ∷ c.take_children.new.self) =
    subst (λ word. IsForest c.args.trains (word ∷ behind) (tree ∷ c.take_children.new.self)) (sym c.in-Split.is) grown in
    subst (λ (forest : List CertTree). IsForest c.args.trains (c.args.word ∷ behind) forest) (sym planted) worded)
    c.plant-in-Split.ensures.planted
