-- Where a run's words are cut.
use Rattle.std.proofs.Common.{◌≡◌, ℕ, suc, ◌+◌, ◌≤◌, Bool, true, false, not, List, [], ◌∷◌, ◌++◌, length, take, Option, None, Some, IfSome, MatchOption, refl, sym, ap, ◌∙◌, arith, option_map, subst, append_assoc, length-append, inl, inr}
use Rattle.std.specs.Prelude.{codes, bytes_eq}
use Rattle.std.specs.Borrow.{Bor}
use Rattle.std.specs.List.{list_all, onto_first}
use Rattle.std.proofs.lemmas.Bool.{and_parts, cases_Bool}
use Rattle.std.proofs.lemmas.List.Splits.{slice_split-cons_yes, slice_split-cons_no}
use Rattle.std.proofs.lemmas.Slice.Eq.{bytes_eq-Decides}
use Rattle.std.proofs.Math.Seq.{take-append_seam}
use Rattle.rr_words.specs.Line.{is_space, words_of, line_of}
use Rattle.rr_orders.specs.Scan.Words.{words_left}
use Rattle.rr_orders.proofs.ScanLemmas.WordsLemmas.{is_unspaced, are_unspaced, line_of-words, words_of-line}
use Rattle.rr_orders.specs.Texts.{CutSoFar, cut_at_best, is_other, spaced, words_before}

not-true : (b : Bool) → not b ≡ true → b ≡ false
not-true true h = sym h
not-true false h = refl

pub cut-none : (read : List (List ℕ)) → list_all is_other read ≡ true → cut_at_best read ≡ None
cut-none [] h = refl
cut-none (word ∷ words) h =
    let both = and_parts (is_other word) (list_all is_other words) h in
    rw (not-true _ both.0, cut-none words both.1) refl

pub cut-found : (read rest : List (List ℕ)) → list_all is_other read ≡ true → cut_at_best (read ++ codes "best" ∷ rest) ≡ Some (read, rest)
cut-found [] rest h = refl
cut-found (word ∷ words) rest h =
    let both = and_parts (is_other word) (list_all is_other words) h in
    rw (not-true _ both.0, cut-found words rest both.1) refl

pub list_all-joined : {X : Type 0} (p : X → Bool) (xs ys : List X) → list_all p xs ≡ true → list_all p ys ≡ true → list_all p (xs ++ ys) ≡ true
list_all-joined p [] ys first second = second
list_all-joined p (x ∷ xs) ys first second =
    let both = and_parts (p x) (list_all p xs) first in
    rw (both.0, list_all-joined p xs ys both.1 second) refl

pub list_all-front : {X : Type 0} (p : X → Bool) (xs ys : List X) → list_all p (xs ++ ys) ≡ true → list_all p xs ≡ true
list_all-front p [] ys h = refl
list_all-front p (x ∷ xs) ys h =
    let both = and_parts (p x) (list_all p (xs ++ ys)) h in
    rw (both.0, list_all-front p xs ys both.1) refl

unspaced-onto_first : (c : ℕ) (words : List (List ℕ)) → is_space c ≡ false → are_unspaced words ≡ true → are_unspaced (onto_first c words) ≡ true
unspaced-onto_first c [] no_space h = rw no_space refl
unspaced-onto_first c (word ∷ words) no_space h = rw no_space h

-- no word of a line has a space
pub words_of-unspaced : (line : List ℕ) → are_unspaced (words_of line) ≡ true
words_of-unspaced [] = refl
words_of-unspaced (c ∷ rest) =
    elim (cases_Bool (is_space c)) [
      | inl space ↦ rw (slice_split-cons_yes is_space c rest space) (words_of-unspaced rest)
      | inr none ↦ rw (slice_split-cons_no is_space c rest none) (unspaced-onto_first c (words_of rest) none (words_of-unspaced rest))
    ]

spaced-joined : (xs ys : List (List ℕ)) → spaced (xs ++ ys) ≡ spaced xs ++ spaced ys
spaced-joined [] ys = refl
spaced-joined (x ∷ xs) ys = rw (spaced-joined xs ys) (sym (append_assoc x (32 ∷ spaced xs) (spaced ys)))

spaced-line : (word : List ℕ) (words : List (List ℕ)) → spaced (word ∷ words) ≡ line_of (word ∷ words) ++ 32 ∷ []
spaced-line word [] = refl
spaced-line word (next ∷ words) = rw (spaced-line next words) (sym (append_assoc word (32 ∷ line_of (next ∷ words)) (32 ∷ [])))

-- a line is the words in front, each with its space, and the line of the others
line-spaced : (read : List (List ℕ)) (word : List ℕ) (rest : List (List ℕ)) → line_of (read ++ word ∷ rest) ≡ spaced read ++ line_of (word ∷ rest)
line-spaced [] word rest = refl
line-spaced (first ∷ []) word rest = sym (append_assoc first (32 ∷ []) (line_of (word ∷ rest)))
line-spaced (first ∷ next ∷ more) word rest =
    rw (line-spaced (next ∷ more) word rest) (sym (append_assoc first (32 ∷ spaced (next ∷ more)) (line_of (word ∷ rest))))

spaced-fits : (read left : List (List ℕ)) → length (spaced read) ≤ length (line_of (read ++ left)) + 1
spaced-fits [] left = omega arith
spaced-fits (first ∷ []) [] = rw (length-append first (32 ∷ [])) (omega arith)
spaced-fits (first ∷ next ∷ more) [] =
    let others = spaced-fits (next ∷ more) [] in
    rw (length-append first (32 ∷ spaced (next ∷ more)), length-append first (32 ∷ line_of (next ∷ (more ++ [])))) (omega (arith, others))
spaced-fits (first ∷ more) (word ∷ rest) =
    rw (line-spaced (first ∷ more) word rest, length-append (spaced (first ∷ more)) (line_of (word ∷ rest))) (omega arith)

pub CutSoFar-fits : (text : List ℕ) (left : List (List ℕ)) (before : ℕ) → CutSoFar text left before → before ≤ length text + 1
CutSoFar-fits text left before h =
    let fits = spaced-fits h.read left in
    rw (h.long, line_of-words text (h.read ++ left) h.whole) fits

pub CutSoFar-none : (text : List ℕ) → CutSoFar text (words_of text) 0
CutSoFar-none text = record { read = []; whole = refl; others = refl; long = refl }

pub CutSoFar-more : (text : List ℕ) (left rest : List (List ℕ)) (before after : ℕ) (word : List ℕ) → CutSoFar text left before → left ≡ word ∷ rest → bytes_eq word (codes "best") ≡ false → after ≡ before + (length word + 1) → CutSoFar text rest after
CutSoFar-more text left rest before after word h next other more = record {
  read = h.read ++ word ∷ [];
  whole = h.whole ∙ ap (λ words. h.read ++ words) next ∙ sym (append_assoc h.read (word ∷ []) rest);
  others = list_all-joined is_other h.read (word ∷ []) h.others (rw other refl);
  long = rw (more, h.long, spaced-joined h.read (word ∷ []), length-append (spaced h.read) (word ++ 32 ∷ []), length-append word (32 ∷ [])) (omega arith);
}

front_words : (text : List ℕ) (read : List (List ℕ)) (word : List ℕ) (rest : List (List ℕ)) → words_of text ≡ read ++ word ∷ rest → words_before (length (spaced read)) text ≡ read
front_words text [] word rest whole = refl
front_words text (first ∷ more) word rest whole =
    let line = line_of (first ∷ more) in
    let long : length (spaced (first ∷ more)) ≡ suc (length line) =
    ap length (spaced-line first more) ∙ length-append line (32 ∷ []) ∙ omega arith in
    let is : text ≡ line ++ 32 ∷ line_of (word ∷ rest) =
    line_of-words text (first ∷ (more ++ word ∷ rest)) whole ∙ line-spaced (first ∷ more) word rest
    ∙ ap (λ front. front ++ line_of (word ∷ rest)) (spaced-line first more)
    ∙ append_assoc line (32 ∷ []) (line_of (word ∷ rest)) in
    let unspaced : are_unspaced (first ∷ more) ≡ true =
    list_all-front is_unspaced (first ∷ more) (word ∷ rest) (ap are_unspaced (sym whole) ∙ words_of-unspaced text) in
    ap (λ n. words_before n text) long
    ∙ ap (λ t. words_of (take (length line) t)) is
    ∙ ap words_of (take-append_seam line (32 ∷ line_of (word ∷ rest)))
    ∙ words_of-line (first ∷ more) (omega arith) unspaced

pub words_left-rest : (rest : Option (Bor (List ℕ))) (words : List (List ℕ)) → MatchOption rest (words ≡ []) (λ text. words ≡ words_of text.now) → words_left rest ≡ words
words_left-rest None words h = sym h
words_left-rest (Some text) words h = sym h

pub cut-here : (text : List ℕ) (left rest : List (List ℕ)) (before : ℕ) (word : List ℕ) (front behind : Option (Bor (List ℕ))) → CutSoFar text left before → left ≡ word ∷ rest → word ≡ codes "best" → words_left front ≡ words_before before text → MatchOption behind (rest ≡ []) (λ t. rest ≡ words_of t.now) → cut_at_best (words_of text) ≡ Some (words_left front, words_left behind)
cut-here text left rest before word front behind h next best in_front after =
    let whole : words_of text ≡ h.read ++ codes "best" ∷ rest = h.whole ∙ ap (λ words. h.read ++ words) (next ∙ ap (λ w. w ∷ rest) best) in
    let read : words_left front ≡ h.read = in_front ∙ ap (λ n. words_before n text) h.long ∙ front_words text h.read (codes "best") rest whole in
    let others : words_left behind ≡ rest = words_left-rest behind rest after in
    rw (whole, read, others) (cut-found h.read rest h.others)

pub cut-nowhere : (text : List ℕ) (left : List (List ℕ)) (before : ℕ) → CutSoFar text left before → left ≡ [] → cut_at_best (words_of text) ≡ None
cut-nowhere text left before h end =
    let others : list_all is_other (h.read ++ left) ≡ true = rw end (list_all-joined is_other h.read [] h.others refl) in
    rw h.whole (cut-none (h.read ++ left) others)

-- what was cut is what stands before the mark, the mark, and what stands behind it
uncut-more : (word : List ℕ) (words : List (List ℕ)) (cut : Option (List (List ℕ) × List (List ℕ))) → IfSome cut (λ c. words ≡ c.0 ++ codes "best" ∷ c.1) → IfSome {T = List (List ℕ) × List (List ℕ)} (option_map (λ c. (word ∷ c.0, c.1)) cut) (λ c. word ∷ words ≡ c.0 ++ codes "best" ∷ c.1)
uncut-more word words None h = tt
uncut-more word words (Some c) h = ap (λ others. word ∷ others) h

uncut-all : (words : List (List ℕ)) → IfSome (cut_at_best words) (λ c. words ≡ c.0 ++ codes "best" ∷ c.1)
uncut-all [] = tt
uncut-all (word ∷ words) =
    elim (cases_Bool (bytes_eq word (codes "best"))) [
      | inl same ↦ rw same (ap (λ w. w ∷ words) ((bytes_eq-Decides word (codes "best")).0 same))
      | inr other ↦ rw other (uncut-more word words (cut_at_best words) (uncut-all words))
    ]

pub uncut : (words front behind : List (List ℕ)) → cut_at_best words ≡ Some (front, behind) → words ≡ front ++ codes "best" ∷ behind
uncut words front behind h = subst (λ cut. IfSome cut (λ c. words ≡ c.0 ++ codes "best" ∷ c.1)) h (uncut-all words)
