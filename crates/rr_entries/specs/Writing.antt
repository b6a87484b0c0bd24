-- A text to which the words of entries are added, one entry after another.
use Rattle.std.specs.Prelude.{ℕ, List, [], ◌∷◌, ◌++◌, codes, fold, map}
use Rattle.rr_books.specs.Book.{Book}
use Rattle.rr_entries.specs.Words.{entry_words, spaced}

-- what stands between a text and the words of its next entry: a separator, but nothing if the text is empty
abbrev pub separator_after : List ℕ → List ℕ
separator_after [] = []
separator_after (byte ∷ text) = codes " ;"

-- a text with the words of one more entry; without words it stays as it is
abbrev pub with_words : List ℕ → List (List ℕ) → List ℕ
with_words text [] = text
with_words text (word ∷ words) = text ++ separator_after text ++ spaced (word ∷ words)

-- a text with the words of these entries
abbrev pub with_entries : List (List ℕ) → List ℕ → Book → List ℕ
with_entries players text entries = fold with_words text (map (entry_words players) entries)
