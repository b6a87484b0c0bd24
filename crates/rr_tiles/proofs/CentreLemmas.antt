-- The centre that a word spells is the one whose word it is.
use Rattle.std.proofs.Common.{◌≡◌, ℕ, ◌+◌, ◌%◌, ◌^◌, ◌<◌, ◌≤◌, suc, refl, sym, ap, ◌∙◌, subst, Bool, true, false, List, [], ◌∷◌, ◌++◌, length, get_or, take, drop, append-nil, length-append, Some, option_map, inl, inr, arith, decimal}
use Rattle.std.specs.Prelude.{◌==◌, ◌||◌, All}
use Rattle.std.specs.Char.{is_ascii_digit}
use Rattle.std.specs.List.{position_or_len}
use Rattle.std.proofs.Math.Seq.{drop-cons, take-append_seam, drop-append-add}
use Rattle.std.proofs.lemmas.Bool.{cases_Bool, eqb-true, eq-eqb, lt-ltb}
use Rattle.std.proofs.lemmas.Bool.Decides.{nat_tests}
use Rattle.std.proofs.lemmas.Fmt.{digits_decimal}
use Rattle.std.proofs.lemmas.List.{take-append-drop}
use Rattle.std.proofs.lemmas.List.Elements.{All-nil, All-cons, All-head, All-tail, All-append, All-weaker}
use Rattle.std.proofs.lemmas.List.Quantifiers.{position-Some}
use Rattle.std.proofs.lemmas.List.Sums.{AllPass-from_list_all}
use Rattle.std.proofs.lemmas.Option.{same_Some}
use Rattle.rr_words.specs.Numeral.{SpellsNumberWithin, small_number_of}
use Rattle.rr_words.proofs.NumeralLemmas.{small_number_of-decimal, small_number_of-spelled, digits_model}
use Rattle.rr_tiles.specs.Edge.{edges_of}
use Rattle.rr_tiles.specs.Reading.{centre_in, centre_of, centre_with, cut_at, cut_of, front_of, kept_value, kind_and_value, kind_of, place_of, value_of}
use Rattle.rr_tiles.specs.Sound.{AreEdges, IsKind, IsValue}
use Rattle.rr_tiles.specs.Spelling.{IsElement, edges_text, kind_letter, kind_mark, word_of}
use Rattle.rr_tiles.specs.declared.element.Element.{Element}
use Rattle.rr_tiles.specs.declared.element.Element.TheVariants.{Part as OfPart}
use Rattle.rr_tiles.specs.declared.part.Kind.{Kind}
use Rattle.rr_tiles.specs.declared.part.Kind.TheVariants.{Town, City, OffBoard}
use Rattle.rr_tiles.specs.declared.part.Part.TheVariants.{Centre as OfCentre}
use Rattle.rr_tiles.proofs.EdgeLemmas.{edges_of-found, edges_of-text}
use Rattle.rr_tiles.proofs.OptionLemmas.{and_then-some, if-some, map-some}

-- numbers
pub record IsNumber (low high : ℕ) (word : List ℕ) (n : ℕ) : Type 0 where
  pub digits : word ≡ decimal n
  pub from_low : low ≤ n
  pub to_high : n ≤ high

pub small_number-found : (word : List ℕ) (low high n : ℕ) → small_number_of word low high ≡ Some n → IsNumber low high word n
small_number-found word low high n is =
    let spelled : SpellsNumberWithin low high word n = rw is at (small_number_of-spelled word low high) in
    record { digits = spelled.spelled.digits; from_low = spelled.from_low; to_high = spelled.to_high }

record Valued (word : List ℕ) (n : ℕ) : Type 0 where
  digits : word ≡ decimal n
  sound : IsValue n

value_of-found : (word : List ℕ) (n : ℕ) → value_of word ≡ Some n → Valued word n
value_of-found word n is =
    let one = and_then-some kept_value (small_number_of word 0 990) n is in
    let kept = if-some (one.0 % 10 == 0) (Some one.0) n one.2 in
    let found = small_number-found word 0 990 one.0 one.1 in
    subst (Valued word) (same_Some one.0 n kept.1) (record { digits = found.digits; sound = record { tens = eqb-true (one.0 % 10) 0 kept.0; to_990 = found.to_high } })

value_of-decimal : (n : ℕ) → IsValue n → value_of (decimal n) ≡ Some n
value_of-decimal n sound =
    let bounded : n < 10 ^ 10 = omega (arith, sound.to_990) in
    rw (small_number_of-decimal n 0 990 bounded (omega arith) sound.to_990, eq-eqb (n % 10) 0 sound.tens) refl

-- cutting at a character
pub cut_of-found : (mark : ℕ) (word : List ℕ) (parts : List ℕ × List ℕ) → cut_of mark word ≡ Some parts → word ≡ parts.0 ++ mark ∷ parts.1
cut_of-found mark word parts is =
    let at = map-some (cut_at word) (place_of mark word) parts is in
    let place = position-Some (λ c. c == mark) word at.0 mark at.1 in
    let here : get_or word at.0 mark ≡ mark = eqb-true (get_or word at.0 mark) mark place.1 in
    let next : suc at.0 ≡ at.0 + 1 = omega arith in
    subst (λ q. word ≡ q.0 ++ mark ∷ q.1) at.2
    (sym (take-append-drop at.0 word)
    ∙ ap (λ rest. take at.0 word ++ rest) (drop-cons word at.0 mark place.0)
    ∙ ap (λ c. take at.0 word ++ c ∷ drop (suc at.0) word) here
    ∙ ap (λ n. take at.0 word ++ mark ∷ drop n word) next)

abbrev Without : ℕ → List ℕ → Type 0
Without mark word = All (λ c. (c == mark) ≡ false) word

position-joined : (mark : ℕ) (front rest : List ℕ) → Without mark front → position_or_len (λ c. c == mark) (front ++ mark ∷ rest) ≡ length front
position-joined mark [] rest without = rw (eq-eqb mark mark refl) refl
position-joined mark (c ∷ front) rest without =
    let longer : 1 + length front ≡ suc (length front) = omega arith in
    rw (All-head (λ x. (x == mark) ≡ false) c front without, position-joined mark front rest (All-tail (λ x. (x == mark) ≡ false) c front without)) longer

pub cut_of-joined : (mark : ℕ) (front rest : List ℕ) → Without mark front → cut_of mark (front ++ mark ∷ rest) ≡ Some (front, rest)
cut_of-joined mark front rest without =
    let within : length front < length (front ++ mark ∷ rest) = omega (arith, length-append front (mark ∷ rest)) in
    let place : place_of mark (front ++ mark ∷ rest) ≡ Some (length front) = rw (position-joined mark front rest without, lt-ltb _ _ within) refl in
    ap (option_map (cut_at (front ++ mark ∷ rest))) place
    ∙ ap (λ f. Some (f, drop (length front + 1) (front ++ mark ∷ rest))) (take-append_seam front (mark ∷ rest))
    ∙ ap (λ r. Some (front, r)) (drop-append-add front (mark ∷ rest) 1)

no_slash : (c : ℕ) → is_ascii_digit c ≡ true → (c == 47) ≡ false
no_slash c digit = grind (arith, nat_tests)

no_colon : (c : ℕ) → is_ascii_digit c ≡ true → (c == 58) ≡ false
no_colon c digit = grind (arith, nat_tests)

pub decimal-without : (mark n : ℕ) → n ≤ 990 → ((c : ℕ) → is_ascii_digit c ≡ true → (c == mark) ≡ false) → Without mark (decimal n)
decimal-without mark n small other =
    let wide : n < 2 ^ 64 = omega arith in
    All-weaker (λ c. is_ascii_digit c ≡ true) (λ c. (c == mark) ≡ false) other (decimal n) (AllPass-from_list_all is_ascii_digit (decimal n) (digits_decimal digits_model n wide))

mark-without : (kind : Kind) → IsKind kind → Without 58 (kind_mark kind)
mark-without Town sound = All-nil (λ c. (c == 58) ≡ false)
mark-without (City slots) sound = All-cons (λ c. (c == 58) ≡ false) 47 (decimal slots) refl (decimal-without 58 slots (omega (arith, sound.1)) no_colon)
mark-without (OffBoard later) sound = All-cons (λ c. (c == 58) ≡ false) 47 (decimal later) refl (decimal-without 58 later sound.to_990 no_colon)

-- the letters of the three kinds
abbrev pub is_kind_letter : ℕ → Bool
is_kind_letter letter = letter == 116 || (letter == 99 || letter == 111)

-- what stands before the colon
record IsFront (letter : ℕ) (front : List ℕ) (parts : Kind × ℕ) : Type 0 where
  letter_is : letter ≡ kind_letter parts.0
  front_is : front ≡ decimal parts.1 ++ kind_mark parts.0
  kind : IsKind parts.0
  value : IsValue parts.1

record IsMarked (letter : ℕ) (word : List ℕ) (kind : Kind) : Type 0 where
  letter_is : letter ≡ kind_letter kind
  word_is : 47 ∷ word ≡ kind_mark kind
  sound : IsKind kind

kind_of-found : (letter : ℕ) (word : List ℕ) (kind : Kind) → is_kind_letter letter ≡ true → (letter == 116) ≡ false → kind_of letter word ≡ Some kind → IsMarked letter word kind
kind_of-found letter word kind one no_town is =
    elim (cases_Bool (letter == 99)) [
      | inl city ↦
          let slots = map-some (λ n. City n) (small_number_of word 1 4) kind (rw city at is) in
          let found = small_number-found word 1 4 slots.0 slots.1 in
          subst (IsMarked letter word) slots.2 (record { letter_is = eqb-true letter 99 city; word_is = ap (λ w. 47 ∷ w) found.digits; sound = (found.from_low, found.to_high) })
      | inr no_city ↦
          let later = map-some (λ n. OffBoard n) (value_of word) kind (rw no_city at is) in
          let found = value_of-found word later.0 later.1 in
          let last : (letter == 111) ≡ true = rw (no_town, no_city) at one in
          subst (IsMarked letter word) later.2 (record { letter_is = eqb-true letter 111 last; word_is = ap (λ w. 47 ∷ w) found.digits; sound = found.sound })
    ]

front_of-found : (letter : ℕ) (front : List ℕ) (parts : Kind × ℕ) → is_kind_letter letter ≡ true → front_of letter front ≡ Some parts → IsFront letter front parts
front_of-found letter front parts one is =
    elim (cases_Bool (letter == 116)) [
      | inl town ↦
          let value = map-some (λ n. (Town, n)) (value_of front) parts (rw town at is) in
          let found = value_of-found front value.0 value.1 in
          subst (IsFront letter front) value.2 (record { letter_is = eqb-true letter 116 town; front_is = found.digits ∙ sym (append-nil (decimal value.0)); kind = tt; value = found.sound })
      | inr no_town ↦
          let numbers = and_then-some (kind_and_value letter) (cut_of 47 front) parts (rw no_town at is) in
          let value = and_then-some (λ v. option_map (λ kind. (kind, v)) (kind_of letter numbers.0.1)) (value_of numbers.0.0) parts numbers.2 in
          let kind = map-some (λ k. (k, value.0)) (kind_of letter numbers.0.1) parts value.2 in
          let found = value_of-found numbers.0.0 value.0 value.1 in
          let marked = kind_of-found letter numbers.0.1 kind.0 one no_town kind.1 in
          subst (IsFront letter front) kind.2 (record {
            letter_is = marked.letter_is;
            front_is = cut_of-found 47 front numbers.0 numbers.1 ∙ ap (λ w. w ++ 47 ∷ numbers.0.1) found.digits ∙ ap (λ m. decimal value.0 ++ m) marked.word_is;
            kind = marked.sound;
            value = found.sound;
          })
    ]

front_of-front : (kind : Kind) (value : ℕ) → IsKind kind → IsValue value → front_of (kind_letter kind) (decimal value ++ kind_mark kind) ≡ Some (kind, value)
front_of-front Town value sound sound_value = rw (append-nil (decimal value), value_of-decimal value sound_value) refl
front_of-front (City slots) value sound sound_value =
    let few : slots < 10 ^ 10 = omega (arith, sound.1) in
    rw (cut_of-joined 47 (decimal value) (decimal slots) (decimal-without 47 value sound_value.to_990 no_slash), value_of-decimal value sound_value, small_number_of-decimal slots 1 4 few sound.0 sound.1) refl
front_of-front (OffBoard later) value sound sound_value =
    rw (cut_of-joined 47 (decimal value) (decimal later) (decimal-without 47 value sound_value.to_990 no_slash), value_of-decimal value sound_value, value_of-decimal later sound) refl

pub record Spelled (word : List ℕ) (element : Element) : Type 0 where
  pub word_is : word ≡ word_of element
  pub sound : IsElement element

pub centre_in-found : (letter : ℕ) (rest : List ℕ) (element : Element) → is_kind_letter letter ≡ true → centre_in letter rest ≡ Some element → Spelled (letter ∷ rest) element
centre_in-found letter rest element one is =
    let parts = and_then-some (centre_of letter) (cut_of 58 rest) element is in
    let front = and_then-some (centre_with parts.0.1) (front_of letter parts.0.0) element parts.2 in
    let edges = map-some (λ e. OfPart (OfCentre (record { kind = front.0.0; value = front.0.1; edges = e }))) (edges_of parts.0.1) element front.2 in
    let found = front_of-found letter parts.0.0 front.0 one front.1 in
    let text = edges_of-found parts.0.1 edges.0 edges.1 in
    subst (Spelled (letter ∷ rest)) edges.2 (record {
      word_is = ap (λ r. letter ∷ r) (cut_of-found 58 rest parts.0 parts.1)
          ∙ ap (λ l. l ∷ (parts.0.0 ++ 58 ∷ parts.0.1)) found.letter_is
          ∙ ap (λ f. kind_letter front.0.0 ∷ (f ++ 58 ∷ parts.0.1)) found.front_is
          ∙ ap (λ e. kind_letter front.0.0 ∷ ((decimal front.0.1 ++ kind_mark front.0.0) ++ 58 ∷ e)) text.0;
      sound = record { sound_kind = found.kind; sound_value = found.value; sound_edges = text.1 };
    })

pub centre_in-centre : (kind : Kind) (value : ℕ) (edges : List ℕ) → IsKind kind → IsValue value → AreEdges edges → centre_in (kind_letter kind) ((decimal value ++ kind_mark kind) ++ 58 ∷ edges_text edges) ≡ Some (OfPart (OfCentre (record { kind = kind; value = value; edges = edges })))
centre_in-centre kind value edges sound_kind sound_value sound_edges =
    let colon : Without 58 (decimal value ++ kind_mark kind) = All-append (λ c. (c == 58) ≡ false) (decimal value) (kind_mark kind) (decimal-without 58 value sound_value.to_990 no_colon) (mark-without kind sound_kind) in
    rw (cut_of-joined 58 (decimal value ++ kind_mark kind) (edges_text edges) colon, front_of-front kind value sound_kind sound_value, edges_of-text edges sound_edges) refl
