-- A text has no more words than bytes, and a tile no more centres than words.
use Rattle.std.proofs.Common.{◌≡◌, ℕ, ◌+◌, ◌-◌, ◌<◌, ◌≤◌, refl, sym, ap, ◌∙◌, subst, Bool, true, false, List, [], ◌∷◌, ◌++◌, length, map, take, filter_map, None, Some, Option, inl, inr, arith}
use Rattle.std.specs.Prelude.{◌==◌, filter, not, slice_index, sum_by, cond}
use Rattle.std.specs.List.{cons_option, enumerate_from, onto_first, slice_split}
use Rattle.std.specs.Str.Lines.{lines, lines_of_parts, strip_carriage_return}
use Rattle.std.proofs.lemmas.Bool.{cases_Bool, ne_eqb}
use Rattle.std.proofs.lemmas.List.{length-map, length-take}
use Rattle.std.proofs.lemmas.List.Splits.{slice_split-cons_yes, slice_split-cons_no}
use Rattle.std.proofs.lemmas.List.Sums.{sum_by-cons}
use Rattle.rr_words.specs.Line.{is_space}
use Rattle.rr_words.specs.Text.{NumberedWords, is_empty, is_skipped, row_at, rows_of, spaced_words}
use Rattle.rr_tiles.specs.Spelling.{SpellsTile, part_in, word_of}
use Rattle.rr_tiles.specs.Tile.{Face, centre_in, centres_of}

-- the words of a line
abbrev no_empty : List (List ℕ) → List (List ℕ)
no_empty parts = filter (λ word. not (is_empty word)) parts

some_word : (c : ℕ) (word : List ℕ) → (length (c ∷ word) == 0) ≡ false
some_word c word = ne_eqb (length (c ∷ word)) 0 (λ e. omega (arith, e))

length-no_empty-onto_first : (c : ℕ) (parts : List (List ℕ)) → length (no_empty (onto_first c parts)) ≤ length (no_empty parts) + 1
length-no_empty-onto_first c [] = omega arith
length-no_empty-onto_first c ([] ∷ parts) = omega arith
length-no_empty-onto_first c ((d ∷ word) ∷ parts) = rw (some_word c (d ∷ word), some_word d word) (omega arith)

pub length-spaced_words : (line : List ℕ) → length (spaced_words line) ≤ length line
length-spaced_words [] = omega arith
length-spaced_words (c ∷ rest) =
    elim (cases_Bool (is_space c)) [
      | inl space ↦ rw (slice_split-cons_yes is_space c rest space) (omega (arith, length-spaced_words rest))
      | inr none ↦ rw (slice_split-cons_no is_space c rest none) (omega (arith, length-no_empty-onto_first c (slice_split is_space rest), length-spaced_words rest))
    ]

-- the lines of a text
abbrev bytes_in : List (List ℕ) → ℕ
bytes_in parts = sum_by (λ part. length part) parts

bytes_in-cons : (part : List ℕ) (parts : List (List ℕ)) → bytes_in (part ∷ parts) ≡ length part + bytes_in parts
bytes_in-cons part parts = sum_by-cons (λ p. length p) part parts

bytes_in-onto_first : (c : ℕ) (parts : List (List ℕ)) → bytes_in (onto_first c parts) ≤ bytes_in parts + 1
bytes_in-onto_first c [] = omega arith
bytes_in-onto_first c (part ∷ parts) = omega (arith, bytes_in-cons (c ∷ part) parts, bytes_in-cons part parts)

bytes_in-split : (test : ℕ → Bool) (text : List ℕ) → bytes_in (slice_split test text) ≤ length text
bytes_in-split test [] = omega arith
bytes_in-split test (c ∷ rest) =
    elim (cases_Bool (test c)) [
      | inl here ↦ rw (slice_split-cons_yes test c rest here) (omega (arith, bytes_in-cons [] (slice_split test rest), bytes_in-split test rest))
      | inr other ↦ rw (slice_split-cons_no test c rest other) (omega (arith, bytes_in-onto_first c (slice_split test rest), bytes_in-split test rest))
    ]

length-strip : (part : List ℕ) → length (strip_carriage_return part) ≤ length part
length-strip part =
    elim (cases_Bool (slice_index part (length part - 1) == 13)) [
      | inl cr ↦ rw (cr, length-take (length part - 1) part) (omega arith)
      | inr none ↦ rw none (omega arith)
    ]

bytes_in-lines_of_parts : (parts : List (List ℕ)) → bytes_in (lines_of_parts parts) ≤ bytes_in parts
bytes_in-lines_of_parts [] = omega arith
bytes_in-lines_of_parts (part ∷ []) =
    elim (cases_Bool (length part == 0)) [
      | inl none ↦ rw none (omega arith)
      | inr some ↦ rw some (omega arith)
    ]
bytes_in-lines_of_parts (part ∷ next ∷ more) =
    omega (arith, bytes_in-cons (strip_carriage_return part) (lines_of_parts (next ∷ more)), bytes_in-cons part (next ∷ more), length-strip part, bytes_in-lines_of_parts (next ∷ more))

bytes_in-lines : (text : List ℕ) → bytes_in (lines text) ≤ length text
bytes_in-lines text = omega (arith, bytes_in-lines_of_parts (slice_split (λ b. b == 10) text), bytes_in-split (λ b. b == 10) text)

-- the words of rows
abbrev pub words_in_rows : List NumberedWords → ℕ
words_in_rows rows = sum_by (λ row. length row.words) rows

pub words_in_rows-cons : (row : NumberedWords) (rows : List NumberedWords) → words_in_rows (row ∷ rows) ≡ length row.words + words_in_rows rows
words_in_rows-cons row rows = sum_by-cons (λ r. length r.words) row rows

words_in_rows-enumerated : (first : ℕ) (all : List (List ℕ)) → words_in_rows (filter_map row_at (enumerate_from first all)) ≤ bytes_in all
words_in_rows-enumerated first [] = omega arith
words_in_rows-enumerated first (line ∷ more) =
    let row : NumberedWords = record { number = first; words = spaced_words line } in
    let rows = filter_map row_at (enumerate_from (first + 1) more) in
    elim (cases_Bool (is_skipped line)) [
      | inl skipped ↦ rw skipped (omega (arith, words_in_rows-enumerated (first + 1) more, bytes_in-cons line more))
      | inr kept ↦ rw kept (omega (arith, words_in_rows-enumerated (first + 1) more, bytes_in-cons line more, length-spaced_words line, words_in_rows-cons row rows))
    ]

pub words_in_rows-text : (text : List ℕ) → words_in_rows (rows_of text) ≤ length text
words_in_rows-text text = omega (arith, words_in_rows-enumerated 1 (lines text), bytes_in-lines text)

-- the centres of a tile
length-cons_option : {X : Type 0} (o : Option X) (xs : List X) → length (cons_option o xs) ≤ length xs + 1
length-cons_option None xs = omega arith
length-cons_option (Some x) xs = omega arith

length-filter_map : {X Y : Type 0} (f : X → Option Y) (xs : List X) → length (filter_map f xs) ≤ length xs
length-filter_map f [] = omega arith
length-filter_map f (x ∷ xs) = omega (arith, length-cons_option (f x) (filter_map f xs), length-filter_map f xs)

pub centres-le-words : (words : List (List ℕ)) (face : Face) → SpellsTile words face → length (centres_of face.parts) ≤ length words
centres-le-words words face spelled =
    let parts : length face.parts ≡ length (filter_map part_in spelled.elements) = ap length spelled.parts_are in
    let all : length words ≡ length spelled.elements = ap length spelled.words_are ∙ length-map spelled.elements word_of in
    omega (arith, parts, all, length-filter_map centre_in face.parts, length-filter_map part_in spelled.elements)
