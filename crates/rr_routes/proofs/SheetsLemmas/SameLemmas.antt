-- A text spells one certificate: its trees have the same nodes, so they are accepted alike.
use Rattle.std.proofs.Common.{◌≡◌, ℕ, ◌+◌, List, [], ◌∷◌, ◌++◌, length, All, refl, sym, ◌∙◌, subst, arith}
use Rattle.std.specs.List.{AllZip, flat_map, slice_set}
use Rattle.std.proofs.lemmas.List.FromFn.{length-map-range_with_len}
use Rattle.rr_routes.specs.declared.certificate.CertTree.{CertTree, Bound, Bad, Full, Split', Row_of-CertTree, end_of-CertTree, more_of-CertTree, items-the_row-CertTree}
use Rattle.rr_routes.specs.declared.certificate.Fate.{Fate}
use Rattle.rr_routes.specs.declared.certificate.Fate.TheVariants.{Open, Of}
use Rattle.rr_routes.specs.Net.{Net}
use Rattle.rr_routes.specs.Certificates.{AcceptsUnder, AcceptsEach, Accepts, all_open, choices, fate_of}
use Rattle.rr_routes.specs.Sheets.Certificate.{words_of, IsSame, AreSame, IsRegular, AreRegular, row_length, HasShortNumber, Spells, certificate_text}
use Rattle.rr_routes.specs.Sheets.Growing.{IsForest}
use Rattle.rr_routes.specs.declared.sheets.word.CertWord.{CertWord}
use Rattle.rr_routes.proofs.SheetsLemmas.TreeLemmas.{head_of, children_of}
use Rattle.rr_routes.proofs.SheetsLemmas.ForestLemmas.{behind, words_some}
use Rattle.rr_routes.proofs.SheetsLemmas.CertificateLemmas.{one_tree, tree-Spells, cert_words_of-text}

same_row : (m n : _) (row : Row_of-CertTree m) (other : Row_of-CertTree n) → AllZip IsSame (items-the_row-CertTree m row) (items-the_row-CertTree n other) → AreSame row other
same_row m n end_of-CertTree end_of-CertTree same = tt
same_row m n end_of-CertTree (more_of-CertTree other others) same = absurd same
same_row m n (more_of-CertTree child children) end_of-CertTree same = absurd same
same_row m n (more_of-CertTree child children) (more_of-CertTree other others) same = (same.0, same_row _ _ children others same.1)

-- trees with one first word and the same children
same_tree : (tree other : CertTree) → head_of tree ≡ head_of other → AllZip IsSame (children_of tree) (children_of other) → IsSame tree other
same_tree Bound Bound head children = tt
same_tree Bound (Bad other) head children = absurd (cc)
same_tree Bound Full head children = absurd (cc)
same_tree Bound (Split' link shape row) head children = absurd (cc)
same_tree (Bad train) Bound head children = absurd (cc)
same_tree (Bad train) (Bad other) head children = let numbers : train + 1 ≡ other + 1 = cc in omega (arith, numbers)
same_tree (Bad train) Full head children = absurd (cc)
same_tree (Bad train) (Split' link shape row) head children = absurd (cc)
same_tree Full Bound head children = absurd (cc)
same_tree Full (Bad other) head children = absurd (cc)
same_tree Full Full head children = tt
same_tree Full (Split' link shape row) head children = absurd (cc)
same_tree (Split' link shape row) Bound head children = absurd (cc)
same_tree (Split' link shape row) (Bad other) head children = absurd (cc)
same_tree (Split' link shape row) Full head children = absurd (cc)
same_tree (Split' link shape row) (Split' also kind others) head children =
    let numbers : link + 1 ≡ also + 1 = cc in
    let link_is : link ≡ also = omega (arith, numbers) in
    (link_is, same_row _ _ row others children)

-- lists of one length before others
zipped : {X Y : Type 0} (R : X → Y → Type 0) (xs : List X) (ys : List Y) (more : List X) (others : List Y) → length xs ≡ length ys → AllZip R (xs ++ more) (ys ++ others) → AllZip R xs ys × AllZip R more others
zipped R [] [] more others as_long zip = (tt, zip)
zipped R [] (y ∷ ys) more others as_long zip = absurd (omega (arith, as_long))
zipped R (x ∷ xs) [] more others as_long zip = absurd (omega (arith, as_long))
zipped R (x ∷ xs) (y ∷ ys) more others as_long zip =
    let rest = zipped R xs ys more others (omega (arith, as_long)) zip.1 in
    ((zip.0, rest.0), rest.1)

same_forest : (trains : ℕ) (words : List CertWord) (forest other : List CertTree) → IsForest trains words forest → IsForest trains words other → AllZip IsSame forest other
same_forest trains [] [] [] spelled also = tt
same_forest trains [] [] (tree ∷ other) spelled also = absurd (words_some tree (flat_map words_of other) also.words_are)
same_forest trains [] (tree ∷ forest) other spelled also = absurd (words_some tree (flat_map words_of forest) spelled.words_are)
same_forest trains (word ∷ words) [] other spelled also = absurd (let never : word ∷ words ≡ [] = spelled.words_are in cc)
same_forest trains (word ∷ words) (tree ∷ forest) [] spelled also = absurd (let never : word ∷ words ≡ [] = also.words_are in cc)
same_forest trains (word ∷ words) (tree ∷ forest) (other ∷ others) spelled also =
    let first = behind trains word words tree forest spelled in
    let second = behind trains word words other others also in
    let rest = zipped IsSame (children_of tree) (children_of other) forest others (first.counted ∙ sym second.counted)
    (same_forest trains words (children_of tree ++ forest) (children_of other ++ others) first.spelled second.spelled) in
    (same_tree tree other (sym first.head ∙ second.head) rest.0, rest.1)

-- a text spells one certificate
pub one_certificate : (text : List ℕ) (trains : ℕ) (tree other : CertTree) → Spells text trains tree → Spells text trains other → IsSame tree other
one_certificate text trains tree other spelled also =
    let words : List CertWord = words_of tree in
    let read = cert_words_of-text text words spelled.words in
    (same_forest trains words (tree ∷ []) (other ∷ []) (one_tree trains words tree (tree-Spells text trains words tree read spelled))
    (one_tree trains words other (tree-Spells text trains words other read also))).0

choices_count : (net : Net) → length (choices net) ≡ length net.trains + 1
choices_count net = let counted = length-map-range_with_len Of 0 (length net.trains) in omega (arith, counted)

mutual
  accepted_alike : (net : Net) (claim : ℕ) (fates : List Fate) (tree other : CertTree) → IsSame tree other → AcceptsUnder net claim fates tree → AcceptsUnder net claim fates other
  accepted_alike net claim fates Bound Bound same accepted = accepted
  accepted_alike net claim fates Bound (Bad other) same accepted = absurd same
  accepted_alike net claim fates Bound Full same accepted = absurd same
  accepted_alike net claim fates Bound (Split' link shape row) same accepted = absurd same
  accepted_alike net claim fates (Bad train) Bound same accepted = absurd same
  accepted_alike net claim fates (Bad train) (Bad other) same accepted = subst (λ t. AcceptsUnder net claim fates (Bad t)) same accepted
  accepted_alike net claim fates (Bad train) Full same accepted = absurd same
  accepted_alike net claim fates (Bad train) (Split' link shape row) same accepted = absurd same
  accepted_alike net claim fates Full Bound same accepted = absurd same
  accepted_alike net claim fates Full (Bad other) same accepted = absurd same
  accepted_alike net claim fates Full Full same accepted = accepted
  accepted_alike net claim fates Full (Split' link shape row) same accepted = absurd same
  accepted_alike net claim fates (Split' link shape row) Bound same accepted = absurd same
  accepted_alike net claim fates (Split' link shape row) (Bad other) same accepted = absurd same
  accepted_alike net claim fates (Split' link shape row) Full same accepted = absurd same
  accepted_alike net claim fates (Split' link shape row) (Split' also kind others) same accepted =
      subst (λ l. (fate_of fates l ≡ Open) × AcceptsEach net claim fates l (choices net) others) same.0
      (accepted.0, each_alike net claim fates link (choices net) row others same.1 accepted.1)

  each_alike : (net : Net) (claim : ℕ) (fates : List Fate) (link : ℕ) (options : List Fate) {m n : _} (row : Row_of-CertTree m) (other : Row_of-CertTree n) → AreSame row other → AcceptsEach net claim fates link options row → AcceptsEach net claim fates link options other
  each_alike net claim fates link [] end_of-CertTree end_of-CertTree same each = tt
  each_alike net claim fates link [] end_of-CertTree (more_of-CertTree other others) same each = absurd same
  each_alike net claim fates link [] (more_of-CertTree child children) other same each = absurd each
  each_alike net claim fates link (choice ∷ options) end_of-CertTree other same each = absurd each
  each_alike net claim fates link (choice ∷ options) (more_of-CertTree child children) end_of-CertTree same each = absurd same
  each_alike net claim fates link (choice ∷ options) (more_of-CertTree child children) (more_of-CertTree other others) same each =
      (accepted_alike net claim (slice_set fates link choice) child other same.0 each.0, each_alike net claim fates link options children others same.1 each.1)

-- certificates of one text are accepted alike
pub accepted_also : (text : List ℕ) (trains : ℕ) (tree other : CertTree) → Spells text trains tree → Spells text trains other → (net : Net) (claim : ℕ) → Accepts net claim tree → Accepts net claim other
accepted_also text trains tree other spelled also net claim accepted =
    record { small = also.small; shown = accepted_alike net claim (all_open net) tree other (one_certificate text trains tree other spelled also) accepted.shown }

mutual
  accepted_regular : (net : Net) (claim : ℕ) (fates : List Fate) (tree : CertTree) → AcceptsUnder net claim fates tree → IsRegular (length net.trains) tree
  accepted_regular net claim fates Bound accepted = tt
  accepted_regular net claim fates (Bad train) accepted = tt
  accepted_regular net claim fates Full accepted = tt
  accepted_regular net claim fates (Split' link shape row) accepted =
      let children = each_regular net claim fates link (choices net) row accepted.1 in
      (children.0 ∙ choices_count net, children.1)

  each_regular : (net : Net) (claim : ℕ) (fates : List Fate) (link : ℕ) (options : List Fate) {m : _} (row : Row_of-CertTree m) → AcceptsEach net claim fates link options row → (row_length row ≡ length options) × AreRegular (length net.trains) row
  each_regular net claim fates link [] end_of-CertTree each = (refl, tt)
  each_regular net claim fates link [] (more_of-CertTree child children) each = absurd each
  each_regular net claim fates link (choice ∷ options) end_of-CertTree each = absurd each
  each_regular net claim fates link (choice ∷ options) (more_of-CertTree child children) each =
      let first = accepted_regular net claim (slice_set fates link choice) child each.0 in
      let rest = each_regular net claim fates link options children each.1 in
      let counted : row_length children ≡ length options = rest.0 in
      (omega (arith, counted), (first, rest.1))

-- the text of an accepted certificate spells it
pub accepted_spelled : (net : Net) (claim : ℕ) (tree : CertTree) → Accepts net claim tree → All HasShortNumber (words_of tree) → Spells (certificate_text tree) (length net.trains) tree
unfolding certificate_text
accepted_spelled net claim tree accepted short = record {
  words = record { short = short; spelled = refl };
  regular = accepted_regular net claim (all_open net) tree accepted.shown;
  small = accepted.small;
}
