-- Texts to which the words of entries are added, and the words of whole books.
use Rattle.std.proofs.Common.{◌≡◌, ℕ, List, [], ◌∷◌, ◌++◌, map, codes, refl, sym, ap, ◌∙◌, append_assoc, append-nil}
use Rattle.std.specs.Prelude.{filter, fold}
use Rattle.std.specs.List.{flat_map}
use Rattle.std.proofs.lemmas.List.Concat.{flat_map-append}
use Rattle.rr_books.specs.Book.{Book}
use Rattle.rr_entries.specs.Words.{book_words, entry_words, has_words, separated, spaced}
use Rattle.rr_entries.specs.Writing.{with_entries, with_words}

-- all these words, each list of them after the word `;`
abbrev marked : List (List (List ℕ)) → List (List ℕ)
marked lists = flat_map (λ words. codes ";" ∷ words) lists

-- the words of the first list have no separator before them, and those of each other list have
separated_first : (words : List (List ℕ)) (lists : List (List (List ℕ))) → separated (words ∷ lists) ≡ words ++ marked lists
separated_first words [] = sym (append-nil words)
separated_first words (next ∷ rest) = ap (λ (l : List (List ℕ)). words ++ codes ";" ∷ l) (separated_first next rest)

spaced-append : (xs ys : List (List ℕ)) → spaced (xs ++ ys) ≡ spaced xs ++ spaced ys
spaced-append xs ys = flat_map-append (λ word. codes " " ++ word) xs ys

-- words added to a text that isn't empty
added : (byte : ℕ) (text : List ℕ) (lists : List (List (List ℕ)))
    → fold with_words (byte ∷ text) lists ≡ (byte ∷ text) ++ spaced (marked (filter has_words lists))
added byte text [] = sym (append-nil (byte ∷ text))
added byte text ([] ∷ lists) = added byte text lists
added byte text ((word ∷ words) ∷ lists) =
    let one : List (List ℕ) = codes ";" ∷ word ∷ words in
    let rest = marked (filter has_words lists) in
    let longer : with_words (byte ∷ text) (word ∷ words) ≡ (byte ∷ text) ++ spaced one =
    append_assoc (byte ∷ text) (codes " ;") (spaced (word ∷ words)) in
    ap (λ (l : List ℕ). fold with_words l lists) longer
    ∙ added byte (text ++ spaced one) lists
    ∙ append_assoc (byte ∷ text) (spaced one) (spaced rest)
    ∙ ap (λ (l : List ℕ). (byte ∷ text) ++ l) (sym (spaced-append one rest))

-- words added to no text
begun : (lists : List (List (List ℕ))) → fold with_words [] lists ≡ spaced (separated (filter has_words lists))
begun [] = refl
begun ([] ∷ lists) = begun lists
begun ((word ∷ words) ∷ lists) =
    let rest = filter has_words lists in
    added 32 (word ++ spaced words) lists
    ∙ sym (spaced-append (word ∷ words) (marked rest))
    ∙ ap spaced (sym (separated_first (word ∷ words) rest))

-- the words of a book, as they are written
pub whole : (players : List (List ℕ)) (book : Book) → with_entries players [] book ≡ spaced (book_words players book)
whole players book = begun (map (entry_words players) book)
