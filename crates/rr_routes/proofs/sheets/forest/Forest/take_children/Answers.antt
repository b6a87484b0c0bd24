use Rattle.std.proofs.Common.{◌≡◌, ◌-◌, ℕ, List, ◌++◌, take, drop, length, ap, sym, ◌∙◌, take-append-drop, length-drop, arith}
use Rattle.std.specs.Prelude.{reverse}
use Rattle.std.proofs.lemmas.List.{reverse-append, length-reverse}
use Rattle.rr_routes.specs.declared.certificate.CertTree.{CertTree}
use Rattle.rr_routes.proofs.sheets.forest.Forest.take_children.Goals as goal

pub returns : goal.returns
returns c =
    let kept = c.in_ok-children.ensures {u = tt} in
    let trees : List CertTree = c.self.inside.trees.items in
    let at : ℕ = c.len-2.result - c.args.trains - 1 in
    let children : c.reversed.result.items ≡ reverse (drop at trees) = c.reversed.ensures ∙ ap reverse kept.tail in
    let counted : length c.reversed.result.items ≡ length trees - at =
    ap (λ (ts : List CertTree). length ts) children ∙ length-reverse (drop at trees) ∙ length-drop at trees in (
      sym c.self.view_is
          ∙ ap reverse (sym (take-append-drop at trees))
          ∙ reverse-append (take at trees) (drop at trees)
          ∙ ap (λ front. front ++ reverse (take at trees)) (sym children)
          ∙ ap (λ back. c.reversed.result.items ++ reverse back) (sym kept.items),
      omega (arith, counted, c.len.ensures, c.len-2.ensures, c.if-len-trains.false, c.self.inside.trees.ok.0),
    )
