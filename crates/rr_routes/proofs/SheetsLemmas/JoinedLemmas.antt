-- Words that are joined by a byte that none of them has.
use Rattle.std.proofs.Common.{◌≡◌, ℕ, ◌+◌, ◌-◌, ◌^◌, ◌<◌, ◌≤◌, refl, sym, ap, ◌∙◌, true, false, List, [], ◌∷◌, ◌++◌, length, map, take, drop, get_or, All, append_assoc, arith}
use Rattle.std.specs.Prelude.{◌==◌, decimal}
use Rattle.std.specs.Char.{is_ascii_digit}
use Rattle.std.specs.List.{slice_split, join_with_byte}
use Rattle.std.proofs.lemmas.Bool.{eq-eqb}
use Rattle.std.proofs.lemmas.Bool.Decides.{nat_tests}
use Rattle.std.proofs.lemmas.Fmt.{digits_decimal, decimal_nonempty}
use Rattle.std.proofs.lemmas.List.{take_more, take_all, map-append}
use Rattle.std.proofs.lemmas.List.Elements.{All-head, All-tail, All-weaker}
use Rattle.std.proofs.lemmas.List.Splits.{slice_split_none, slice_split_at, length-slice_split, join_with_byte-slice_split}
use Rattle.std.proofs.lemmas.List.Sums.{AllPass-from_list_all}
use Rattle.rr_words.proofs.NumeralLemmas.{digits_model}

-- the word doesn't have the byte
abbrev pub IsFree : ℕ → List ℕ → Type 0
IsFree byte word = All (λ c. (c == byte) ≡ false) word

-- cut at the byte they are the words again
pub split-joined : (byte : ℕ) (word : List ℕ) (words : List (List ℕ)) → All (IsFree byte) (word ∷ words) → slice_split (λ c. c == byte) (join_with_byte byte (word ∷ words)) ≡ word ∷ words
split-joined byte word [] free = slice_split_none (λ c. c == byte) word (All-head (IsFree byte) word [] free)
split-joined byte word (next ∷ more) free =
    slice_split_at (λ c. c == byte) word byte (join_with_byte byte (next ∷ more)) (All-head (IsFree byte) word (next ∷ more) free) (eq-eqb byte byte refl)
    ∙ ap (λ rest. word ∷ rest) (split-joined byte next more (All-tail (IsFree byte) word (next ∷ more) free))

-- a text is its words, joined
pub joined-split : (byte : ℕ) (text : List ℕ) (words : List (List ℕ)) → slice_split (λ c. c == byte) text ≡ words → text ≡ join_with_byte byte words
joined-split byte text words is = sym (join_with_byte-slice_split byte text) ∙ ap (join_with_byte byte) is

-- a text has a word
pub split-some : (byte : ℕ) (text : List ℕ) → slice_split (λ c. c == byte) text ≡ [] → ⊥
split-some byte text none =
    let short : length (slice_split (λ c. c == byte) text) ≡ 0 = ap length none in
    omega (arith, length-slice_split (λ c. c == byte) text)

-- more words behind those that are joined
pub joined-append : (byte : ℕ) (word next : List ℕ) (words more : List (List ℕ)) → join_with_byte byte (word ∷ (words ++ next ∷ more)) ≡ join_with_byte byte (word ∷ words) ++ byte ∷ join_with_byte byte (next ∷ more)
joined-append byte word next [] more = refl
joined-append byte word next (second ∷ words) more =
    ap (λ rest. word ++ byte ∷ rest) (joined-append byte second next words more)
    ∙ sym (append_assoc word (byte ∷ join_with_byte byte (second ∷ words)) (byte ∷ join_with_byte byte (next ∷ more)))

-- the step of a loop that writes words, each behind the byte
pub joined-next : {X : Type 0} (byte : ℕ) (spelling : X → List ℕ) (before so_far apart out : List ℕ) (first : X) (items : List X) (i : ℕ) (item d : X) → i < length items → item ≡ get_or items i d → so_far ≡ before ++ join_with_byte byte (map spelling (first ∷ take i items)) → apart ≡ so_far ++ byte ∷ [] → out ≡ apart ++ spelling item → out ≡ before ++ join_with_byte byte (map spelling (first ∷ take (i + 1) items))
joined-next byte spelling before so_far apart out first items i item d within is earlier spaced written =
    let more : map spelling (take (i + 1) items) ≡ map spelling (take i items) ++ spelling item ∷ [] =
    ap (map spelling) (take_more items i d within ∙ ap (λ x. take i items ++ x ∷ []) (sym is)) ∙ map-append spelling (take i items) (item ∷ []) in
    let longer : join_with_byte byte (map spelling (first ∷ take (i + 1) items)) ≡ join_with_byte byte (map spelling (first ∷ take i items)) ++ byte ∷ spelling item =
    ap (λ ws. join_with_byte byte (spelling first ∷ ws)) more ∙ joined-append byte (spelling first) (spelling item) (map spelling (take i items)) [] in
    rw (longer, written, spaced, earlier) (
    append_assoc (before ++ join_with_byte byte (map spelling (first ∷ take i items))) (byte ∷ []) (spelling item)
    ∙ append_assoc before (join_with_byte byte (map spelling (first ∷ take i items))) (byte ∷ spelling item))

digit-free : (byte c : ℕ) → byte < 48 → is_ascii_digit c ≡ true → (c == byte) ≡ false
digit-free byte c low digit = grind (arith, nat_tests)

-- a number's digits have no space and no hyphen
pub IsFree-decimal : (byte n : ℕ) → byte < 48 → n < 10 ^ 10 → IsFree byte (decimal n)
IsFree-decimal byte n low short =
    All-weaker (λ c. is_ascii_digit c ≡ true) (λ c. (c == byte) ≡ false) (λ c digit. digit-free byte c low digit) (decimal n)
    (AllPass-from_list_all is_ascii_digit (decimal n) (digits_decimal digits_model n (omega arith)))

pub decimal-some : (n : ℕ) → n < 10 ^ 10 → decimal n ≡ [] → ⊥
decimal-some n short none =
    let length_is : length (decimal n) ≡ 0 = ap length none in
    omega (arith, decimal_nonempty n (omega arith))

-- a list is its first item and the rest
pub first-and-rest : {X : Type 0} (xs : List X) (x : X) → 1 ≤ length xs → x ≡ get_or xs 0 x → x ∷ take (length xs - 1) (drop 1 xs) ≡ xs
first-and-rest [] x some is = absurd (omega arith)
first-and-rest (y ∷ ys) x some is = ap (λ z. z ∷ take (length (y ∷ ys) - 1) ys) is ∙ ap (λ zs. y ∷ zs) (take_all (length (y ∷ ys) - 1) ys (omega arith))
