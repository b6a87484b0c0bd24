-- The text of a certificate.
use Rattle.std.specs.Prelude.{◌≡◌, ℕ, ◌+◌, ◌^◌, ◌<◌, ◌≤◌, List, [], ◌∷◌, ◌++◌, All, map, decimal, ⊤}
use Rattle.rr_words.specs.Line.{line_of}
use Rattle.rr_routes.specs.Certificates.{node_count}
use Rattle.rr_routes.specs.declared.certificate.CertTree.{CertTree, Bound, Bad, Full, Split', Row_of-CertTree, end_of-CertTree, more_of-CertTree}
use Rattle.rr_routes.specs.declared.certificate.TheConstants.{MOST_NODES}
use Rattle.rr_routes.specs.declared.sheets.word.CertWord.{CertWord}
use Rattle.rr_routes.specs.declared.sheets.word.CertWord.TheVariants as W
use Rattle.rr_routes.specs.declared.sheets.fault.Fault.{Fault}
use Rattle.rr_routes.specs.declared.sheets.fault.Fault.TheVariants.{Malformed, CertificateRefused, OutOfMemory}

-- b, f, and as s5 or x1
abbrev pub word_text : CertWord → List ℕ
word_text W.Bound = 98 ∷ []
word_text (W.Bad train) = 120 ∷ decimal train
word_text W.Full = 102 ∷ []
word_text (W.Split link) = 115 ∷ decimal link

-- its number has at most ten digits
abbrev pub HasShortNumber : CertWord → Type 0
HasShortNumber W.Bound = ⊤
HasShortNumber (W.Bad train) = train < 10 ^ 10
HasShortNumber W.Full = ⊤
HasShortNumber (W.Split link) = link < 10 ^ 10

-- the text is these words, with one space between each two
pub record SpellsWords (text : List ℕ) (words : List CertWord) : Type 0 where
  pub short : All HasShortNumber words
  pub spelled : text ≡ line_of (map word_text words)

-- each word of the text has one of the four forms
abbrev pub HasForm : List ℕ → Type 0
HasForm text = (words : List CertWord) × SpellsWords text words

abbrev mutual
  -- the words of the tree in preorder, which number links and trains from 1
  pub words_of : CertTree → List CertWord
  words_of Bound = W.Bound ∷ []
  words_of (Bad train) = W.Bad (train + 1) ∷ []
  words_of Full = W.Full ∷ []
  words_of (Split' link shape children) = W.Split (link + 1) ∷ words_of_row children

  pub words_of_row : {m : _} → Row_of-CertTree m → List CertWord
  words_of_row end_of-CertTree = []
  words_of_row (more_of-CertTree child children) = words_of child ++ words_of_row children

-- how many trees stand in the row
abbrev pub row_length : {m : _} → Row_of-CertTree m → ℕ
row_length end_of-CertTree = 0
row_length (more_of-CertTree child children) = row_length children + 1

abbrev mutual
  -- each split has one child for the link denied to all and one for each train
  pub IsRegular : ℕ → CertTree → Type 0
  IsRegular trains Bound = ⊤
  IsRegular trains (Bad train) = ⊤
  IsRegular trains Full = ⊤
  IsRegular trains (Split' link shape children) = (row_length children ≡ trains + 1) × AreRegular trains children

  pub AreRegular : ℕ → {m : _} → Row_of-CertTree m → Type 0
  AreRegular trains end_of-CertTree = ⊤
  AreRegular trains (more_of-CertTree child children) = IsRegular trains child × AreRegular trains children

-- the text of a certificate
unfoldable pub certificate_text : CertTree → List ℕ
certificate_text tree = line_of (map word_text (words_of tree))

-- the text is that of a regular tree of at most `MOST_NODES` nodes
pub record Spells (text : List ℕ) (trains : ℕ) (tree : CertTree) : Type 0 where
  pub words : SpellsWords text (words_of tree)
  pub regular : IsRegular trains tree
  pub small : node_count tree ≤ MOST_NODES

abbrev mutual
  -- the trees have the same nodes in the same places
  pub IsSame : CertTree → CertTree → Type 0
  IsSame Bound Bound = ⊤
  IsSame (Bad train) (Bad other) = train ≡ other
  IsSame Full Full = ⊤
  IsSame (Split' link shape children) (Split' other kind others) = (link ≡ other) × AreSame children others
  IsSame tree other = ⊥

  pub AreSame : {m n : _} → Row_of-CertTree m → Row_of-CertTree n → Type 0
  AreSame end_of-CertTree end_of-CertTree = ⊤
  AreSame end_of-CertTree (more_of-CertTree other others) = ⊥
  AreSame (more_of-CertTree child children) end_of-CertTree = ⊥
  AreSame (more_of-CertTree child children) (more_of-CertTree other others) = IsSame child other × AreSame children others

-- Why a text is read as no certificate: a word has none of the forms; all have one, but the text spells no such tree; or
-- there is no memory.
abbrev pub IsRefusal : List ℕ → ℕ → Fault → Type 0
IsRefusal text trains Malformed = ¬ HasForm text
IsRefusal text trains CertificateRefused = HasForm text × ((tree : CertTree) → ¬ Spells text trains tree)
IsRefusal text trains OutOfMemory = ⊤
