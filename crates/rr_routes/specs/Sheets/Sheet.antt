-- The text of a sheet.
use Rattle.std.specs.Prelude.{◌≡◌, ℕ, ◌^◌, ◌<◌, List, [], ◌∷◌, ◌++◌, All, map, decimal, ⊤}
use Rattle.std.specs.List.{join_with_byte}
use Rattle.rr_words.specs.Line.{line_of}
use Rattle.rr_roster.specs.Company.{kind_name}
use Rattle.rr_routes.specs.declared.sheets.sheet.TrainWord.{TrainWord}
use Rattle.rr_routes.specs.declared.sheets.fault.Fault.{Fault}
use Rattle.rr_routes.specs.declared.sheets.fault.Fault.TheVariants.{Malformed, CertificateRefused, OutOfMemory}

-- the numbers, with a hyphen between each two; a hyphen alone for none
abbrev pub links_text : List ℕ → List ℕ
links_text [] = 45 ∷ []
links_text (first ∷ rest) = join_with_byte 45 (map decimal (first ∷ rest))

-- as 2=1-2-3 or D=-
abbrev pub train_text : TrainWord → List ℕ
train_text word = kind_name word.kind ++ 61 ∷ links_text word.links

-- the words, with one space between each two
unfoldable pub text_of : List TrainWord → List ℕ
text_of sheet = line_of (map train_text sheet)

-- each number has at most ten digits
abbrev pub HasShortNumbers : TrainWord → Type 0
HasShortNumbers word = All (λ number. number < 10 ^ 10) word.links

-- the text is that of the sheet
pub record SpellsSheet (text : List ℕ) (sheet : List TrainWord) : Type 0 where
  pub short : All HasShortNumbers sheet
  pub spelled : text ≡ text_of sheet

-- the text is that of some sheet
abbrev pub SpellsSomeSheet : List ℕ → Type 0
SpellsSomeSheet text = (sheet : List TrainWord) × SpellsSheet text sheet

-- why a text is read as no sheet: it spells none, or there is no memory
abbrev pub IsSheetRefusal : List ℕ → Fault → Type 0
IsSheetRefusal text Malformed = (sheet : List TrainWord) → ¬ SpellsSheet text sheet
IsSheetRefusal text CertificateRefused = ⊥
IsSheetRefusal text OutOfMemory = ⊤
