-- Lemmas on the words of a line.
use Rattle.std.proofs.Common.{◌≡◌, ◌≢◌, ℕ, ◌+◌, ◌<◌, ◌≤◌, Bool, true, false, not, List, [], ◌∷◌, ◌++◌, length, take, get_or, refl, sym, ap, ◌∙◌, arith, append_assoc, length-append}
use Rattle.std.specs.List.{list_all}
use Rattle.std.proofs.lemmas.List.{take_more, take-take}
use Rattle.std.proofs.lemmas.List.Splits.{length-slice_split}
use Rattle.std.proofs.lemmas.List.Sums.{AllPass-from_list_all}
use Rattle.std.proofs.Math.Seq.{take-append_seam}
use Rattle.rr_orders.specs.Scan.Writing.{Continues}
use Rattle.rr_words.specs.Line.{is_space, words_of, line_of, HasNoSpace}
use Rattle.rr_words.proofs.LineLemmas.{line_of-words_of, words_of-line_of}

-- each line has a word
pub words_of-some : (line : List ℕ) → words_of line ≢ []
words_of-some line e =
    let none : length (words_of line) ≡ 0 = ap length e in
    omega (arith, length-slice_split is_space line)

-- a line is its words, joined
pub line_of-words : (line : List ℕ) (words : List (List ℕ)) → words_of line ≡ words → line ≡ line_of words
line_of-words line words e = sym (line_of-words_of line) ∙ ap line_of e

-- a word without a space, and a row of them
abbrev pub is_unspaced : List ℕ → Bool
is_unspaced word = list_all (λ c. not (is_space c)) word

abbrev pub are_unspaced : List (List ℕ) → Bool
are_unspaced words = list_all is_unspaced words

not-true : (b : Bool) → not b ≡ true → b ≡ false
not-true true h = sym h
not-true false h = refl

pub HasNoSpace-unspaced : (word : List ℕ) → is_unspaced word ≡ true → HasNoSpace word
HasNoSpace-unspaced word h = λ k d within. not-true _ (AllPass-from_list_all (λ c. not (is_space c)) word h k d within)

-- words without a space are the words of the line that they make
pub words_of-line : (words : List (List ℕ)) → 1 ≤ length words → are_unspaced words ≡ true → words_of (line_of words) ≡ words
words_of-line words some h =
    words_of-line_of words some (λ k d within. HasNoSpace-unspaced _ (AllPass-from_list_all is_unspaced words h k d within))

-- one word more
line_of-push : (word : List ℕ) (words : List (List ℕ)) (last : List ℕ) → line_of (word ∷ (words ++ last ∷ [])) ≡ line_of (word ∷ words) ++ 32 ∷ last
line_of-push word [] last = refl
line_of-push word (next ∷ words) last = rw (line_of-push next words last) (sym (append_assoc word (32 ∷ line_of (next ∷ words)) (32 ∷ last)))

-- the step of a loop that writes words, each behind a space
pub written-more : (before so_far out : List ℕ) (head : List ℕ) (words : List (List ℕ)) (at : ℕ) (item word : List ℕ) → at < length words → item ≡ get_or words at item → word ≡ item → so_far ≡ before ++ line_of (head ∷ take at words) → out ≡ so_far ++ 32 ∷ word → out ≡ before ++ line_of (head ∷ take (at + 1) words)
written-more before so_far out head words at item word within is same earlier written =
    let more : line_of (head ∷ take (at + 1) words) ≡ line_of (head ∷ take at words) ++ 32 ∷ item =
    ap (λ ws. line_of (head ∷ ws)) (take_more words at item within ∙ ap (λ x. take at words ++ x ∷ []) (sym is))
    ∙ line_of-push head (take at words) item in
    rw (more, written, earlier, same) (append_assoc before (line_of (head ∷ take at words)) (32 ∷ item))

-- what was written stays, where more follows what was added
pub Continues-added : (before added middle after : List ℕ) → middle ≡ before ++ added → Continues middle after → Continues before after
Continues-added before added middle after more kept =
    let longer : length before ≤ length middle = rw (more, length-append) (omega arith) in
    sym (take-take (length before) (length middle) after longer)
    ∙ ap (take (length before)) (kept ∙ more)
    ∙ take-append_seam before added
