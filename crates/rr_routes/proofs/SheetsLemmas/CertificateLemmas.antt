-- The words of a certificate that a text spells, and the tree that they spell.
use Rattle.std.proofs.Common.{◌≡◌, ℕ, ◌+◌, ◌^◌, ◌<◌, ◌≤◌, refl, sym, ap, subst, ◌∙◌, false, List, [], ◌∷◌, ◌++◌, length, append-nil, append_assoc, map, take, get_or, All, Vec, Global, None, Some, option_map, inl, inr, lit<, arith}
use Rattle.std.specs.Prelude.{◌==◌, decimal, bytes_eq}
use Rattle.std.specs.List.{flat_map}
use Rattle.std.proofs.lemmas.Bool.{cases_Bool, eqb-true}
use Rattle.std.proofs.lemmas.Option.{same_Some, none-some}
use Rattle.std.proofs.lemmas.List.{take_more, map-append, nil_from_length}
use Rattle.std.proofs.lemmas.List.Concat.{flat_map-append}
use Rattle.std.proofs.lemmas.List.Elements.{All-nil, All-cons, All-head, All-map, All-weaker}
use Rattle.std.proofs.lemmas.Slice.Eq.{bytes_eq-Decides}
use Rattle.rr_words.specs.Line.{words_of as cut, line_of}
use Rattle.rr_words.specs.Numeral.{number_of}
use Rattle.rr_words.proofs.NumeralLemmas.{SpellsNumber-from_value, number_of-decimal}
use Rattle.rr_routes.specs.declared.certificate.CertTree.{CertTree, Bound, Bad, Full, Split, Split'}
use Rattle.rr_routes.specs.declared.certificate.TheConstants.{MOST_NODES}
use Rattle.rr_routes.specs.Sheets.Each.{each}
use Rattle.rr_routes.specs.Sheets.Reading.{leaf_of, cert_word_of, cert_words_of}
use Rattle.rr_routes.specs.Sheets.Certificate.{word_text, HasShortNumber, SpellsWords, HasForm, words_of, IsRegular, Spells, IsRefusal}
use Rattle.rr_routes.specs.Sheets.Growing.{IsForest, IsTreeOf, IsStop}
use Rattle.rr_routes.specs.declared.sheets.fault.Fault.{Fault}
use Rattle.rr_routes.specs.declared.sheets.fault.Fault.TheVariants.{Malformed, CertificateRefused, OutOfMemory}
use Rattle.rr_routes.specs.declared.sheets.word.CertWord.{CertWord}
use Rattle.rr_routes.specs.declared.sheets.word.CertWord.TheVariants as W
use Rattle.rr_routes.proofs.SheetsLemmas.EachLemmas.{map-some, each-found, each-again}
use Rattle.rr_routes.proofs.SheetsLemmas.ForestLemmas.{same_count, forest_behind}
use Rattle.rr_routes.proofs.SheetsLemmas.JoinedLemmas.{IsFree, split-joined, joined-split, joined-append, IsFree-decimal}
use Rattle.rr_routes.proofs.SheetsLemmas.TreeLemmas.{length-words_of, words_of-Split}

abbrev IsRead : List ℕ → CertWord → Type 0
IsRead text word = (text ≡ word_text word) × HasShortNumber word

leaf_of-found : (text : List ℕ) (word : CertWord) → leaf_of text ≡ Some word → IsRead text word
leaf_of-found text word is =
    elim (cases_Bool (bytes_eq text (98 ∷ []))) [
      | inl bound ↦ (
          let one : Some W.Bound ≡ Some word = rw bound at is in
          subst (IsRead text) (same_Some W.Bound word one) ((bytes_eq-Decides text (98 ∷ [])).0 bound, tt))
      | inr other ↦ elim (cases_Bool (bytes_eq text (102 ∷ []))) [
        | inl full ↦ (
            let one : Some W.Full ≡ Some word = rw (other, full) at is in
            subst (IsRead text) (same_Some W.Full word one) ((bytes_eq-Decides text (102 ∷ [])).0 full, tt))
        | inr neither ↦ let none : None ≡ Some word = rw (other, neither) at is in absurd (none-some word none)
      ]
    ]

numbered-found : (letter : ℕ) (digits : List ℕ) (make : ℕ → CertWord) (word : CertWord) → ((n : ℕ) → n < 10 ^ 10 → IsRead (letter ∷ decimal n) (make n)) → option_map make (number_of digits) ≡ Some word → IsRead (letter ∷ digits) word
numbered-found letter digits make word spells is =
    let number = map-some make (number_of digits) word is in
    let spelled = SpellsNumber-from_value digits number.0 number.1 in
    subst (IsRead (letter ∷ digits)) number.2 (subst (λ ds. IsRead (letter ∷ ds) (make number.0)) (sym spelled.digits) (spells number.0 spelled.ten_digits))

pub cert_word_of-found : (text : List ℕ) (word : CertWord) → cert_word_of text ≡ Some word → IsRead text word
cert_word_of-found [] word is = leaf_of-found [] word is
cert_word_of-found (letter ∷ digits) word is =
    elim (cases_Bool (letter == 115)) [
      | inl split ↦ (
          let read : option_map W.Split (number_of digits) ≡ Some word = rw split at is in
          subst (λ c. IsRead (c ∷ digits) word) (sym (eqb-true letter 115 split)) (numbered-found 115 digits W.Split word (λ n short. (refl, short)) read))
      | inr other ↦ elim (cases_Bool (letter == 120)) [
        | inl bad ↦ (
            let read : option_map W.Bad (number_of digits) ≡ Some word = rw (other, bad) at is in
            subst (λ c. IsRead (c ∷ digits) word) (sym (eqb-true letter 120 bad)) (numbered-found 120 digits W.Bad word (λ n short. (refl, short)) read))
        | inr neither ↦ leaf_of-found (letter ∷ digits) word (let read : leaf_of (letter ∷ digits) ≡ Some word = rw (other, neither) at is in read)
      ]
    ]

pub cert_word_of-text : (word : CertWord) → HasShortNumber word → cert_word_of (word_text word) ≡ Some word
cert_word_of-text W.Bound short = refl
cert_word_of-text (W.Bad train) short = ap (option_map W.Bad) (number_of-decimal train short)
cert_word_of-text W.Full short = refl
cert_word_of-text (W.Split link) short = ap (option_map W.Split) (number_of-decimal link short)

word-no_space : (word : CertWord) → HasShortNumber word → IsFree 32 (word_text word)
word-no_space W.Bound short = All-cons (λ c. (c == 32) ≡ false) 98 [] refl (All-nil (λ c. (c == 32) ≡ false))
word-no_space (W.Bad train) short = All-cons (λ c. (c == 32) ≡ false) 120 (decimal train) refl (IsFree-decimal 32 train (lit< tt) short)
word-no_space W.Full short = All-cons (λ c. (c == 32) ≡ false) 102 [] refl (All-nil (λ c. (c == 32) ≡ false))
word-no_space (W.Split link) short = All-cons (λ c. (c == 32) ≡ false) 115 (decimal link) refl (IsFree-decimal 32 link (lit< tt) short)

word-some : (word : CertWord) → word_text word ≡ [] → ⊥
word-some W.Bound none = cc
word-some (W.Bad train) none = cc
word-some W.Full none = cc
word-some (W.Split link) none = cc

pub cert_words_of-found : (text : List ℕ) (words : List CertWord) → cert_words_of text ≡ Some words → SpellsWords text words
cert_words_of-found [] [] is = record { short = All-nil HasShortNumber; spelled = refl }
cert_words_of-found [] (word ∷ more) is = absurd (cc)
cert_words_of-found (c ∷ rest) words is =
    let found = each-found cert_word_of word_text HasShortNumber cert_word_of-found (cut (c ∷ rest)) words is in
    record { short = found.1; spelled = joined-split 32 (c ∷ rest) (map word_text words) found.0 }

cut-words : (word : CertWord) (more : List CertWord) → All HasShortNumber (word ∷ more) → cut (line_of (map word_text (word ∷ more))) ≡ map word_text (word ∷ more)
cut-words word more short =
    split-joined 32 (word_text word) (map word_text more)
    (All-map (IsFree 32) word_text (word ∷ more) (All-weaker HasShortNumber (λ w. IsFree 32 (word_text w)) word-no_space (word ∷ more) short))

cert_words_of-some : (text : List ℕ) → (text ≡ [] → ⊥) → cert_words_of text ≡ each cert_word_of (cut text)
cert_words_of-some [] some = absurd (some refl)
cert_words_of-some (c ∷ rest) some = refl

line-some : (word : CertWord) (more : List CertWord) → All HasShortNumber (word ∷ more) → line_of (map word_text (word ∷ more)) ≡ [] → ⊥
line-some word more short none =
    let words : map word_text (word ∷ more) ≡ [] ∷ [] = sym (cut-words word more short) ∙ ap cut none in
    let first : word_text word ≡ [] = cc in
    word-some word first

again : (words : List CertWord) → All HasShortNumber words → cert_words_of (line_of (map word_text words)) ≡ Some words
again [] short = refl
again (word ∷ more) short =
    cert_words_of-some (line_of (map word_text (word ∷ more))) (line-some word more short)
    ∙ ap (each cert_word_of) (cut-words word more short)
    ∙ each-again cert_word_of word_text HasShortNumber cert_word_of-text (word ∷ more) short

pub cert_words_of-text : (text : List ℕ) (words : List CertWord) → SpellsWords text words → cert_words_of text ≡ Some words
cert_words_of-text text words spelled = ap cert_words_of spelled.spelled ∙ again words spelled.short

-- a tree of the words is the certificate of the text
pub Spells-tree : (text : List ℕ) (trains : ℕ) (words : List CertWord) (tree : CertTree) → cert_words_of text ≡ Some words → IsTreeOf trains words tree → Spells text trains tree
Spells-tree text trains words tree read grown = record {
  words = subst (SpellsWords text) grown.words_are (cert_words_of-found text words read);
  regular = grown.regular;
  small = grown.small;
}

pub tree-Spells : (text : List ℕ) (trains : ℕ) (words : List CertWord) (tree : CertTree) → cert_words_of text ≡ Some words → Spells text trains tree → IsTreeOf trains words tree
tree-Spells text trains words tree read spelled = record {
  words_are = same_Some words (words_of tree) (sym read ∙ cert_words_of-text text (words_of tree) spelled.words);
  regular = spelled.regular;
  small = spelled.small;
}

pub no_form : (text : List ℕ) → cert_words_of text ≡ None → HasForm text → ⊥
no_form text none form = none-some form.0 (sym none ∙ cert_words_of-text text form.0 form.1)

-- a tree is a forest of one
pub one_tree : (trains : ℕ) (words : List CertWord) (tree : CertTree) → IsTreeOf trains words tree → IsForest trains words (tree ∷ [])
one_tree trains words tree grown = record {
  words_are = grown.words_are ∙ sym (append-nil (words_of tree));
  regular = All-cons (IsRegular trains) tree [] grown.regular (All-nil (IsRegular trains));
}

pub too_long : (trains : ℕ) (words : List CertWord) (tree : CertTree) → MOST_NODES < length words → IsTreeOf trains words tree → ⊥
too_long trains words tree long grown =
    let as_long : length words ≡ length (words_of tree) = ap (λ (ws : List CertWord). length ws) grown.words_are in
    omega (arith, long, as_long, length-words_of tree, grown.small)

-- no tree has the words where no forest has those from here on
pub no_tree : (trains : ℕ) (words before behind : List CertWord) (word : CertWord) (tree : CertTree) → words ≡ before ++ (word ∷ behind) → ((other : List CertTree) → IsForest trains (word ∷ behind) other → ⊥) → IsTreeOf trains words tree → ⊥
no_tree trains words before behind word tree split none grown =
    let found = forest_behind trains before (word ∷ behind) (tree ∷ []) (subst (λ ws. IsForest trains ws (tree ∷ [])) split (one_tree trains words tree grown)) in
    none found.0 found.1

pub not_one : (trains : ℕ) (words : List CertWord) (forest : List CertTree) (tree : CertTree) → IsForest trains words forest → (length forest ≡ 1 → ⊥) → IsTreeOf trains words tree → ⊥
not_one trains words forest tree spelled many grown = many (same_count trains words forest (tree ∷ []) spelled (one_tree trains words tree grown))

pub grown_tree : (trains : ℕ) (words : List CertWord) (forest : List CertTree) (tree : CertTree) → length words ≤ MOST_NODES → IsForest trains words forest → forest ≡ tree ∷ [] → IsTreeOf trains words tree
grown_tree trains words forest tree small spelled one =
    let whole : IsForest trains words (tree ∷ []) = subst (λ (trees : List CertTree). IsForest trains words trees) one spelled in
    let words_are : words ≡ words_of tree = whole.words_are ∙ append-nil (words_of tree) in
    let as_long : length words ≡ length (words_of tree) = ap (λ (ws : List CertWord). length ws) words_are in
    record {
      words_are = words_are;
      regular = All-head (IsRegular trains) tree [] whole.regular;
      small = omega (arith, small, as_long, length-words_of tree);
    }

-- what a child is written as behind its split
abbrev pub text_behind : CertTree → List ℕ
text_behind tree = 32 ∷ line_of (map word_text (words_of tree))

first_word : (tree : CertTree) → (word : CertWord) × (more : List CertWord) × (words_of tree ≡ word ∷ more)
first_word Bound = (W.Bound, [], refl)
first_word (Bad train) = (W.Bad (train + 1), [], refl)
first_word Full = (W.Full, [], refl)
first_word (Split' link shape row) = (W.Split (link + 1), _, refl)

child_behind : (word : CertWord) (front : List CertWord) (tree : CertTree) → line_of (map word_text (word ∷ (front ++ words_of tree))) ≡ line_of (map word_text (word ∷ front)) ++ text_behind tree
child_behind word front tree =
    let first = first_word tree in
    ap (λ ws. line_of (map word_text (word ∷ (front ++ ws)))) first.2
    ∙ ap (λ ws. line_of (word_text word ∷ ws)) (map-append word_text front (first.0 ∷ first.1))
    ∙ joined-append 32 (word_text word) (word_text first.0) (map word_text front) (map word_text first.1)
    ∙ ap (λ ws. line_of (map word_text (word ∷ front)) ++ 32 ∷ line_of (map word_text ws)) (sym first.2)

children_behind : (word : CertWord) (front : List CertWord) (children : List CertTree) → line_of (map word_text (word ∷ (front ++ flat_map words_of children))) ≡ line_of (map word_text (word ∷ front)) ++ flat_map text_behind children
children_behind word front [] = ap (λ ws. line_of (map word_text (word ∷ ws))) (append-nil front) ∙ sym (append-nil (line_of (map word_text (word ∷ front))))
children_behind word front (child ∷ more) =
    ap (λ ws. line_of (map word_text (word ∷ ws))) (sym (append_assoc front (words_of child) (flat_map words_of more)))
    ∙ children_behind word (front ++ words_of child) more
    ∙ ap (λ line. line ++ flat_map text_behind more) (child_behind word front child)
    ∙ append_assoc (line_of (map word_text (word ∷ front))) (text_behind child) (flat_map text_behind more)

-- the text of a split: its word, and its children
pub split_text : (link : ℕ) (children : Vec CertTree Global) → line_of (map word_text (words_of (Split link children))) ≡ word_text (W.Split (link + 1)) ++ flat_map text_behind children.items
split_text link children = ap (λ ws. line_of (map word_text ws)) (words_of-Split link children) ∙ children_behind (W.Split (link + 1)) [] children.items

-- the step of a loop that writes children
pub child-next : (before so_far apart out : List ℕ) (children : List CertTree) (i : ℕ) (child : CertTree) → i < length children → child ≡ get_or children i child → so_far ≡ before ++ flat_map text_behind (take i children) → apart ≡ so_far ++ 32 ∷ [] → out ≡ apart ++ line_of (map word_text (words_of child)) → out ≡ before ++ flat_map text_behind (take (i + 1) children)
child-next before so_far apart out children i child within is earlier spaced written =
    let more : take (i + 1) children ≡ take i children ++ child ∷ [] = take_more children i child within ∙ ap (λ x. take i children ++ x ∷ []) (sym is) in
    let behind : flat_map text_behind (take (i + 1) children) ≡ flat_map text_behind (take i children) ++ text_behind child =
    ap (flat_map text_behind) more ∙ flat_map-append text_behind (take i children) (child ∷ []) ∙ ap (λ line. flat_map text_behind (take i children) ++ line) (append-nil (text_behind child)) in
    rw (behind, written, spaced, earlier) (
    append_assoc (before ++ flat_map text_behind (take i children)) (32 ∷ []) (line_of (map word_text (words_of child)))
    ∙ append_assoc before (flat_map text_behind (take i children)) (text_behind child))

-- why growing stops is why there is no certificate
pub stop_weaker : {P Q : Type 0} (fault : Fault) → (P → Q) → IsStop fault P → IsStop fault Q
stop_weaker Malformed follows stop = absurd stop
stop_weaker CertificateRefused follows stop = follows stop
stop_weaker OutOfMemory follows stop = tt

pub refusal : (text : List ℕ) (trains : ℕ) (words : List CertWord) (fault : Fault) → cert_words_of text ≡ Some words → IsStop fault ((tree : CertTree) → ¬ IsTreeOf trains words tree) → IsRefusal text trains fault
refusal text trains words Malformed read stop = absurd stop
refusal text trains words CertificateRefused read stop =
    ((words, cert_words_of-found text words read), λ tree spelled. stop tree (tree-Spells text trains words tree read spelled))
refusal text trains words OutOfMemory read stop = tt

-- one word more
pub forest-next : (trains : ℕ) (words left before : List CertWord) (word : CertWord) (forest others : List CertTree) → left ≡ before ++ word ∷ [] → (behind : List CertWord) × (words ≡ left ++ behind) × IsForest trains behind forest → ((rest : List CertWord) → IsForest trains rest forest → IsForest trains (word ∷ rest) others) → (behind : List CertWord) × (words ≡ before ++ behind) × IsForest trains behind others
forest-next trains words left before word forest others cut so_far grown =
    (word ∷ so_far.0, so_far.1 ∙ ap (λ front. front ++ so_far.0) cut ∙ append_assoc before (word ∷ []) so_far.0, grown so_far.0 so_far.2)

-- no word is left
pub forest_of_all : (trains : ℕ) (words left : List CertWord) (forest : List CertTree) → length left ≡ 0 → (behind : List CertWord) × (words ≡ left ++ behind) × IsForest trains behind forest → IsForest trains words forest
forest_of_all trains words left forest none so_far =
    let all : words ≡ so_far.0 = so_far.1 ∙ ap (λ front. front ++ so_far.0) (nil_from_length left none) in
    subst (λ ws. IsForest trains ws forest) (sym all) so_far.2
