-- A split and the items of its list of children.
use Rattle.std.proofs.Common.{◌≡◌, ℕ, ◌+◌, ◌≤◌, ◌↔◌, List, [], ◌∷◌, set, Vec, Global, refl, ap, sym, subst, ◌∙◌, arith}
use Rattle.std.specs.List.{AllZip, sum_by}
use Rattle.std.proofs.lemmas.List.Sums.{sum_by-cons}
use mathlib.Core.Former.{Count}
use Rattle.rr_routes.specs.declared.certificate.Fate.{Fate}
use Rattle.rr_routes.specs.declared.certificate.Fate.TheVariants.{Open}
use Rattle.rr_routes.specs.declared.certificate.CertTree.{CertTree, Bound, Bad, Full, Split, Split', Row_of-CertTree, end_of-CertTree, more_of-CertTree, items-the_row-CertTree, items_hidden-the_row-CertTree-0}
use Rattle.rr_routes.specs.Net.{Net}
use Rattle.rr_routes.specs.Certificates.{fate_of, choices, AcceptsUnder, AcceptsEach, node_count, row_count}

abbrev row_of : CertTree → (n : Count) × Row_of-CertTree n
row_of (Split' link shape row) = (_, row)
row_of _ = (_, end_of-CertTree)

pub has_a_node : (tree : CertTree) → 1 ≤ node_count tree
has_a_node Bound = omega arith
has_a_node (Bad train) = omega arith
has_a_node Full = omega arith
has_a_node (Split' link shape children) = omega arith

row_counted : (n : _) (row : Row_of-CertTree n) → row_count row ≡ sum_by node_count (items-the_row-CertTree n row)
row_counted n end_of-CertTree = refl
row_counted n (more_of-CertTree child rest) =
    ap (λ count. node_count child + count) (row_counted _ rest) ∙ sym (sum_by-cons node_count child (items-the_row-CertTree _ rest))

pub node_count-Split : (link : ℕ) (children : Vec CertTree Global) → node_count (Split link children) ≡ 1 + sum_by node_count children.items
node_count-Split link children =
    let row = row_of (Split link children) in
    ap (λ count. 1 + count) (row_counted row.0 row.1 ∙ ap (sum_by node_count) (items_hidden-the_row-CertTree-0 children))

module _ (net : Net) (claim : ℕ) (fates : List Fate) (link : ℕ) where
  -- the child is accepted under this choice
  abbrev pub AcceptsChild : Fate → CertTree → Type 0
  AcceptsChild choice child = AcceptsUnder net claim (set fates link choice) child

  each_of_row : (n : _) (row : Row_of-CertTree n) (options : List Fate) → AcceptsEach net claim fates link options row
      → AllZip AcceptsChild options (items-the_row-CertTree n row)
  each_of_row n end_of-CertTree [] each = tt
  each_of_row n end_of-CertTree (choice ∷ options) each = absurd each
  each_of_row n (more_of-CertTree child rest) [] each = absurd each
  each_of_row n (more_of-CertTree child rest) (choice ∷ options) each = (each.0, each_of_row _ rest options each.1)

  row_of_each : (n : _) (row : Row_of-CertTree n) (options : List Fate) → AllZip AcceptsChild options (items-the_row-CertTree n row)
      → AcceptsEach net claim fates link options row
  row_of_each n end_of-CertTree [] each = tt
  row_of_each n end_of-CertTree (choice ∷ options) each = absurd each
  row_of_each n (more_of-CertTree child rest) [] each = absurd each
  row_of_each n (more_of-CertTree child rest) (choice ∷ options) each = (each.0, row_of_each _ rest options each.1)

  pub AcceptsUnder-Split : (children : Vec CertTree Global) → AcceptsUnder net claim fates (Split link children)
      ↔ ((fate_of fates link ≡ Open) × AllZip AcceptsChild (choices net) children.items)
  AcceptsUnder-Split children =
      let row = row_of (Split link children) in
      let same = items_hidden-the_row-CertTree-0 children in (
        λ accepted. (accepted.0, subst (λ items. AllZip AcceptsChild (choices net) items) same (each_of_row row.0 row.1 (choices net) accepted.1)),
        λ parts. (parts.0, row_of_each row.0 row.1 (choices net) (subst (λ items. AllZip AcceptsChild (choices net) items) (sym same) parts.1)),
      )
