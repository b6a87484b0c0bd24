-- Words tell how many trees they spell, and the words behind some of a forest's words spell a forest.
use Rattle.std.proofs.Common.{◌≡◌, ℕ, ◌+◌, ◌≤◌, List, [], ◌∷◌, ◌++◌, length, length-append, All, Vec, Global, refl, ap, sym, subst, ◌∙◌, arith}
use Rattle.std.specs.List.{flat_map}
use Rattle.std.proofs.lemmas.List.Concat.{flat_map-append}
use Rattle.std.proofs.lemmas.List.Elements.{All-nil, All-cons, All-head, All-tail, All-append}
use Rattle.rr_routes.specs.declared.certificate.CertTree.{CertTree, Split}
use Rattle.rr_routes.specs.Sheets.Certificate.{words_of, IsRegular}
use Rattle.rr_routes.specs.Sheets.Growing.{IsForest}
use Rattle.rr_routes.specs.declared.sheets.word.CertWord.{CertWord}
use Rattle.rr_routes.specs.declared.sheets.word.CertWord.TheVariants as W
use Rattle.rr_routes.proofs.SheetsLemmas.TreeLemmas.{needs, IsPlaced, head_of, children_of, words_of-parts, head_placed, children_counted, children_regular, words_of-Split, IsRegular-Split}

-- what stands behind the first word of a tree and others: its children, and the others
pub record Behind (trains : ℕ) (word : CertWord) (words : List CertWord) (tree : CertTree) (forest : List CertTree) : Type 0 where
  pub head : word ≡ head_of tree
  pub counted : length (children_of tree) ≡ needs trains word
  pub spelled : IsForest trains words (children_of tree ++ forest)

pub behind : (trains : ℕ) (word : CertWord) (words : List CertWord) (tree : CertTree) (forest : List CertTree) → IsForest trains (word ∷ words) (tree ∷ forest) → Behind trains word words tree forest
behind trains word words tree forest spelled =
    let regular : IsRegular trains tree = All-head (IsRegular trains) tree forest spelled.regular in
    let parts : word ∷ words ≡ head_of tree ∷ (flat_map words_of (children_of tree) ++ flat_map words_of forest) =
    spelled.words_are ∙ ap (λ front. front ++ flat_map words_of forest) (words_of-parts tree) in
    let first : word ≡ head_of tree = cc in
    let rest : words ≡ flat_map words_of (children_of tree) ++ flat_map words_of forest = cc in
    record {
      head = first;
      counted = children_counted trains tree regular ∙ ap (needs trains) (sym first);
      spelled = record {
        words_are = rest ∙ sym (flat_map-append words_of (children_of tree) forest);
        regular = All-append (IsRegular trains) (children_of tree) forest (children_regular trains tree regular) (All-tail (IsRegular trains) tree forest spelled.regular);
      };
    }

pub words_some : (tree : CertTree) (rest : List CertWord) → [] ≡ words_of tree ++ rest → ⊥
words_some tree rest none = let never : [] ≡ head_of tree ∷ (flat_map words_of (children_of tree) ++ rest) = none ∙ ap (λ front. front ++ rest) (words_of-parts tree) in cc

no_trees : (trains : ℕ) (forest : List CertTree) → IsForest trains [] forest → length forest ≡ 0
no_trees trains [] spelled = refl
no_trees trains (tree ∷ forest) spelled = absurd (words_some tree (flat_map words_of forest) spelled.words_are)

not_empty : (trains : ℕ) (word : CertWord) (words : List CertWord) → IsForest trains (word ∷ words) [] → ⊥
not_empty trains word words spelled = let never : word ∷ words ≡ [] = spelled.words_are in cc

-- words tell how many trees they spell
pub same_count : (trains : ℕ) (words : List CertWord) (forest other : List CertTree) → IsForest trains words forest → IsForest trains words other → length forest ≡ length other
same_count trains [] forest other spelled also = no_trees trains forest spelled ∙ sym (no_trees trains other also)
same_count trains (word ∷ words) [] other spelled also = absurd (not_empty trains word words spelled)
same_count trains (word ∷ words) (tree ∷ forest) [] spelled also = absurd (not_empty trains word words also)
same_count trains (word ∷ words) (tree ∷ forest) (other ∷ others) spelled also =
    let first = behind trains word words tree forest spelled in
    let second = behind trains word words other others also in
    let rest = same_count trains words (children_of tree ++ forest) (children_of other ++ others) first.spelled second.spelled in
    omega (arith, rest, first.counted, second.counted, length-append (children_of tree) forest, length-append (children_of other) others)

-- the words behind some of a forest's words spell a forest
pub forest_behind : (trains : ℕ) (front words : List CertWord) (forest : List CertTree) → IsForest trains (front ++ words) forest → (trees : List CertTree) × IsForest trains words trees
forest_behind trains [] words forest spelled = (forest, spelled)
forest_behind trains (word ∷ front) words [] spelled = absurd (not_empty trains word (front ++ words) spelled)
forest_behind trains (word ∷ front) words (tree ∷ forest) spelled =
    forest_behind trains front words (children_of tree ++ forest) (behind trains word (front ++ words) tree forest spelled).spelled

-- a word with the number 0 stands before no forest
pub not_placed : (trains : ℕ) (word : CertWord) (words : List CertWord) (forest : List CertTree) → (IsPlaced word → ⊥) → IsForest trains (word ∷ words) forest → ⊥
not_placed trains word words [] never spelled = not_empty trains word words spelled
not_placed trains word words (tree ∷ forest) never spelled = never (subst IsPlaced (sym (behind trains word words tree forest spelled).head) (head_placed tree))

-- nor does a split where trees lack
pub trees_lack : (trains link : ℕ) (words : List CertWord) (trees forest : List CertTree) → length trees ≤ trains → IsForest trains words trees → IsForest trains (W.Split link ∷ words) forest → ⊥
trees_lack trains link words trees [] few there spelled = not_empty trains (W.Split link) words spelled
trees_lack trains link words trees (tree ∷ forest) few there spelled =
    let first = behind trains (W.Split link) words tree forest spelled in
    let same = same_count trains words trees (children_of tree ++ forest) there first.spelled in
    omega (arith, few, same, first.counted, length-append (children_of tree) forest)

-- a split before its children
pub split-grown : (trains link number : ℕ) (words : List CertWord) (children : Vec CertTree Global) (trees others : List CertTree) → link + 1 ≡ number → trees ≡ children.items ++ others → length children.items ≡ trains + 1 → IsForest trains words trees → IsForest trains (W.Split number ∷ words) (Split link children ∷ others)
split-grown trains link number words children trees others place taken counted there =
    let all : All (IsRegular trains) (children.items ++ others) = subst (λ (ts : List CertTree). All (IsRegular trains) ts) taken there.regular in
    record {
      words_are = ap (λ n. W.Split n ∷ words) (sym place)
          ∙ ap (λ ws. W.Split (link + 1) ∷ ws) (there.words_are ∙ ap (flat_map words_of) taken ∙ flat_map-append words_of children.items others)
          ∙ ap (λ front. front ++ flat_map words_of others) (sym (words_of-Split link children));
      regular = All-cons (IsRegular trains) (Split link children) others (IsRegular-Split trains link children counted (All-front trains children.items others all)) (All-behind trains children.items others all);
    }
  where
    All-front : (trains : ℕ) (front rest : List CertTree) → All (IsRegular trains) (front ++ rest) → All (IsRegular trains) front
    All-front trains [] rest all = All-nil (IsRegular trains)
    All-front trains (tree ∷ front) rest all = All-cons (IsRegular trains) tree front (All-head (IsRegular trains) tree (front ++ rest) all) (All-front trains front rest (All-tail (IsRegular trains) tree (front ++ rest) all))

    All-behind : (trains : ℕ) (front rest : List CertTree) → All (IsRegular trains) (front ++ rest) → All (IsRegular trains) rest
    All-behind trains [] rest all = all
    All-behind trains (tree ∷ front) rest all = All-behind trains front rest (All-tail (IsRegular trains) tree (front ++ rest) all)
