-- The words of sheets and certificates as one text, and the mark between them.
use Rattle.std.specs.Prelude.{◌≡◌, ℕ, Bool, true, not, List, take, length, [], ◌∷◌, ◌++◌, Option, Some, None, is_some, option_map, bytes_eq, codes, if◌then◌else◌, IsTrue}
use Rattle.std.specs.List.{list_all}
use Rattle.std.proofs.Common.{zero, suc}
use Rattle.rr_words.specs.Line.{words_of, line_of}
use Rattle.rr_routes.specs.Sheets.Reading.{train_of, cert_word_of, sheet_of, cert_words_of}

-- the words that a text is made of: an empty text has none
abbrev pub parts : List ℕ → List (List ℕ)
parts [] = []
parts (c ∷ rest) = words_of (c ∷ rest)

-- the text is that of a sheet, or has a certificate's form
abbrev pub IsSheetText : List ℕ → Type 0
IsSheetText text = IsTrue (is_some (sheet_of text))

abbrev pub IsCertificateText : List ℕ → Type 0
IsCertificateText text = IsTrue (is_some (cert_words_of text))

-- the sheet's text that words make, and the certificate's
abbrev pub sheet_text : List (List ℕ) → Option (List ℕ)
sheet_text words = if list_all (λ word. is_some (train_of word)) words then Some (line_of words) else None

abbrev pub certificate_text : List (List ℕ) → Option (List ℕ)
certificate_text words = if list_all (λ word. is_some (cert_word_of word)) words then Some (line_of words) else None

-- the words before the first `best`, and those behind it; `None` without one
abbrev pub cut_at_best : List (List ℕ) → Option (List (List ℕ) × List (List ℕ))
cut_at_best [] = None
cut_at_best (word ∷ words) =
    if bytes_eq word (codes "best") then Some ([], words) else
    option_map (λ cut. (word ∷ cut.0, cut.1)) (cut_at_best words)

-- what a text adds behind other words: a space and the text, or nothing where it has no word
abbrev pub added : List ℕ → List ℕ
added [] = []
added (c ∷ rest) = 32 ∷ c ∷ rest

-- the words in the first bytes of a text, which have a space behind each
abbrev pub words_before : ℕ → List ℕ → List (List ℕ)
words_before zero text = []
words_before (suc bytes) text = words_of (take bytes text)

-- the word isn't `best`
abbrev pub is_other : List ℕ → Bool
is_other word = not (bytes_eq word (codes "best"))

-- the words, each with a space behind it
abbrev pub spaced : List (List ℕ) → List ℕ
spaced [] = []
spaced (word ∷ words) = word ++ 32 ∷ spaced words

-- so many bytes of a text are words that aren't `best`, with their spaces; these words are left
pub record CutSoFar (text : List ℕ) (left : List (List ℕ)) (before : ℕ) : Type 0 where
  pub read : List (List ℕ)
  pub whole : words_of text ≡ read ++ left
  pub others : list_all is_other read ≡ true
  pub long : before ≡ length (spaced read)
