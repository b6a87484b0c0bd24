-- A tree's first word and its children, and how many words it has.
use Rattle.std.proofs.Common.{◌≡◌, ℕ, ◌+◌, ◌≤◌, List, [], ◌∷◌, ◌++◌, length, length-append, All, Vec, Global, refl, ap, sym, subst, ◌∙◌, arith}
use Rattle.std.specs.Prelude.{⊤}
use Rattle.std.specs.List.{flat_map}
use Rattle.std.proofs.lemmas.List.Elements.{All-nil, All-cons, All-head, All-tail}
use mathlib.Core.Former.{Count}
use Rattle.rr_routes.specs.declared.certificate.CertTree.{CertTree, Bound, Bad, Full, Split, Split', Row_of-CertTree, end_of-CertTree, more_of-CertTree, items-the_row-CertTree, items_hidden-the_row-CertTree-0}
use Rattle.rr_routes.specs.Certificates.{node_count, row_count}
use Rattle.rr_routes.specs.Sheets.Certificate.{words_of, words_of_row, row_length, IsRegular, AreRegular}
use Rattle.rr_routes.specs.declared.sheets.word.CertWord.{CertWord}
use Rattle.rr_routes.specs.declared.sheets.word.CertWord.TheVariants as W

abbrev row_of : CertTree → (n : Count) × Row_of-CertTree n
row_of (Split' link shape row) = (_, row)
row_of _ = (_, end_of-CertTree)

pub words_of-row : (n : _) (row : Row_of-CertTree n) → words_of_row row ≡ flat_map words_of (items-the_row-CertTree n row)
words_of-row n end_of-CertTree = refl
words_of-row n (more_of-CertTree child rest) = ap (λ words. words_of child ++ words) (words_of-row _ rest)

pub length-row : (n : _) (row : Row_of-CertTree n) → row_length row ≡ length (items-the_row-CertTree n row)
length-row n end_of-CertTree = refl
length-row n (more_of-CertTree child rest) = let more = length-row _ rest in omega (arith, more)

pub regular-row : (trains : ℕ) (n : _) (row : Row_of-CertTree n) → AreRegular trains row → All (IsRegular trains) (items-the_row-CertTree n row)
regular-row trains n end_of-CertTree regular = All-nil (IsRegular trains)
regular-row trains n (more_of-CertTree child rest) regular =
    All-cons (IsRegular trains) child (items-the_row-CertTree _ rest) regular.0 (regular-row trains _ rest regular.1)

row-regular : (trains : ℕ) (n : _) (row : Row_of-CertTree n) → All (IsRegular trains) (items-the_row-CertTree n row) → AreRegular trains row
row-regular trains n end_of-CertTree regular = tt
row-regular trains n (more_of-CertTree child rest) regular =
    (All-head (IsRegular trains) child (items-the_row-CertTree _ rest) regular, row-regular trains _ rest (All-tail (IsRegular trains) child (items-the_row-CertTree _ rest) regular))

pub words_of-Split : (link : ℕ) (children : Vec CertTree Global) → words_of (Split link children) ≡ W.Split (link + 1) ∷ flat_map words_of children.items
words_of-Split link children =
    let row = row_of (Split link children) in
    ap (λ words. W.Split (link + 1) ∷ words) (words_of-row row.0 row.1 ∙ ap (flat_map words_of) (items_hidden-the_row-CertTree-0 children))

pub IsRegular-Split : (trains link : ℕ) (children : Vec CertTree Global) → length children.items ≡ trains + 1 → All (IsRegular trains) children.items → IsRegular trains (Split link children)
IsRegular-Split trains link children counted regular =
    let row = row_of (Split link children) in
    let same = items_hidden-the_row-CertTree-0 children in (
      length-row row.0 row.1 ∙ ap (λ (items : List CertTree). length items) same ∙ counted,
      row-regular trains row.0 row.1 (subst (λ (items : List CertTree). All (IsRegular trains) items) (sym same) regular),
    )

mutual
  -- each node has a word
  pub length-words_of : (tree : CertTree) → length (words_of tree) ≡ node_count tree
  length-words_of Bound = refl
  length-words_of (Bad train) = refl
  length-words_of Full = refl
  length-words_of (Split' link shape children) = let more = length-words_of_row children in omega (arith, more)

  length-words_of_row : {m : _} (row : Row_of-CertTree m) → length (words_of_row row) ≡ row_count row
  length-words_of_row end_of-CertTree = refl
  length-words_of_row (more_of-CertTree child children) =
      let first = length-words_of child in
      let more = length-words_of_row children in
      omega (arith, first, more, length-append (words_of child) (words_of_row children))

-- how many trees the word takes as children
abbrev pub needs : ℕ → CertWord → ℕ
needs trains W.Bound = 0
needs trains (W.Bad train) = 0
needs trains W.Full = 0
needs trains (W.Split link) = trains + 1

-- the word's number is that of a place
abbrev pub IsPlaced : CertWord → Type 0
IsPlaced W.Bound = ⊤
IsPlaced (W.Bad train) = 1 ≤ train
IsPlaced W.Full = ⊤
IsPlaced (W.Split link) = 1 ≤ link

abbrev pub head_of : CertTree → CertWord
head_of Bound = W.Bound
head_of (Bad train) = W.Bad (train + 1)
head_of Full = W.Full
head_of (Split' link shape row) = W.Split (link + 1)

abbrev pub children_of : CertTree → List CertTree
children_of Bound = []
children_of (Bad train) = []
children_of Full = []
children_of (Split' link shape row) = items-the_row-CertTree _ row

pub words_of-parts : (tree : CertTree) → words_of tree ≡ head_of tree ∷ flat_map words_of (children_of tree)
words_of-parts Bound = refl
words_of-parts (Bad train) = refl
words_of-parts Full = refl
words_of-parts (Split' link shape row) = ap (λ words. W.Split (link + 1) ∷ words) (words_of-row _ row)

pub head_placed : (tree : CertTree) → IsPlaced (head_of tree)
head_placed Bound = tt
head_placed (Bad train) = omega arith
head_placed Full = tt
head_placed (Split' link shape row) = omega arith

pub children_counted : (trains : ℕ) (tree : CertTree) → IsRegular trains tree → length (children_of tree) ≡ needs trains (head_of tree)
children_counted trains Bound regular = refl
children_counted trains (Bad train) regular = refl
children_counted trains Full regular = refl
children_counted trains (Split' link shape row) regular = sym (length-row _ row) ∙ regular.0

pub children_regular : (trains : ℕ) (tree : CertTree) → IsRegular trains tree → All (IsRegular trains) (children_of tree)
children_regular trains Bound regular = All-nil (IsRegular trains)
children_regular trains (Bad train) regular = All-nil (IsRegular trains)
children_regular trains Full regular = All-nil (IsRegular trains)
children_regular trains (Split' link shape row) regular = regular-row trains _ row regular.1
