-- How words are read.
use Rattle.std.specs.Prelude.{ℕ, ◌==◌, Bool, List, [], ◌∷◌, bytes_eq, if◌then◌else◌, Option, Some, None, option_map, option_and_then, unwrap_or}
use Rattle.std.specs.List.{find, slice_split}
use Rattle.rr_words.specs.Line.{words_of}
use Rattle.rr_words.specs.Numeral.{number_of}
use Rattle.rr_roster.specs.Company.{kind_name, kinds}
use Rattle.rr_roster.specs.declared.company.Kind.{Kind}
use Rattle.rr_routes.specs.Sheets.Each.{each}
use Rattle.rr_routes.specs.declared.sheets.sheet.TrainWord.{TrainWord}
use Rattle.rr_routes.specs.declared.sheets.word.CertWord.{CertWord}
use Rattle.rr_routes.specs.declared.sheets.word.CertWord.TheVariants as W

-- the kind of a name, if there is one
unfoldable pub kind_of : List ℕ → Option Kind
kind_of name = find (λ kind. bytes_eq name (kind_name kind)) kinds

abbrev pub is_hyphen : ℕ → Bool
is_hyphen c = c == 45

-- the numbers that a text spells, with a hyphen between each two; none for a hyphen alone
abbrev pub links_of : List ℕ → Option (List ℕ)
links_of text = if bytes_eq text (45 ∷ []) then Some [] else each number_of (slice_split is_hyphen text)

abbrev pub train_with : List ℕ → Kind → Option TrainWord
train_with text kind = option_map (λ links. record { kind = kind; links = links }) (links_of text)

-- the train and its links that a word spells
abbrev pub train_of : List ℕ → Option TrainWord
train_of [] = None
train_of (letter ∷ []) = None
train_of (letter ∷ mark ∷ text) = if mark == 61 then option_and_then (train_with text) (kind_of (letter ∷ [])) else None

-- the sheet that a text spells
abbrev pub sheet_of : List ℕ → Option (List TrainWord)
sheet_of [] = Some []
sheet_of (c ∷ rest) = each train_of (words_of (c ∷ rest))

-- the words of the sheet that a text spells, and none where it spells no sheet
unfoldable pub sheet_in : List ℕ → List TrainWord
sheet_in text = unwrap_or (sheet_of text) []

abbrev pub leaf_of : List ℕ → Option CertWord
leaf_of word = if bytes_eq word (98 ∷ []) then Some W.Bound else if bytes_eq word (102 ∷ []) then Some W.Full else None

-- the word of a certificate that a word spells
abbrev pub cert_word_of : List ℕ → Option CertWord
cert_word_of [] = leaf_of []
cert_word_of (letter ∷ digits) =
    if letter == 115 then option_map W.Split (number_of digits)
    else if letter == 120 then option_map W.Bad (number_of digits)
    else leaf_of (letter ∷ digits)

-- the words of a certificate that a text spells
abbrev pub cert_words_of : List ℕ → Option (List CertWord)
cert_words_of [] = Some []
cert_words_of (c ∷ rest) = each cert_word_of (words_of (c ∷ rest))
