-- What a word spells: the cells whose word it is, and no other.
use Rattle.std.proofs.Common.{◌≡◌, ℕ, ◌+◌, ◌-◌, ◌^◌, ◌<◌, ◌≤◌, refl, sym, ap, ◌∙◌, Bool, true, false, List, [], ◌∷◌, ◌++◌, length, get_or, take, append-nil, length-append, Option, None, Some, option_map, MatchOption, inl, inr, arith, decimal}
use Rattle.std.specs.Prelude.{codes, ◌==◌, ◌&&◌}
use Rattle.std.specs.Int.{IsInRange}
use Rattle.std.proofs.Math.Seq.{take-append_seam, get_or-append_seam}
use Rattle.std.proofs.lemmas.List.{take_more, take_all}
use Rattle.std.proofs.lemmas.Bool.{cases_Bool, eqb-true, ne_eqb, and_parts}
use Rattle.std.proofs.lemmas.Fmt.{digits_decimal, decimal_nonempty}
use Rattle.rr_words.specs.Numeral.{SpellsNumberWithin, small_number_of}
use Rattle.rr_words.proofs.NumeralLemmas.{small_number_of-decimal, small_number_of-spelled, digits_model, digit_in_range}
use Rattle.rr_roster.specs.Chart.Cell.{IsSound, word_of, mark_of, priced, ending, cell_of}
use Rattle.rr_roster.specs.declared.chart.cell.Cell.{Cell}
use Rattle.rr_roster.specs.declared.chart.cell.Zone.{Zone}
use Rattle.rr_roster.specs.declared.chart.cell.Zone.TheVariants.{White, Yellow, Orange, Brown}

length-push : (front : List ℕ) (last : ℕ) → length (front ++ last ∷ []) - 1 ≡ length front
length-push front last = omega (arith, length-append front (last ∷ []))

-- the front and the last character of a word
cell_of-push : (front : List ℕ) (last : ℕ) → cell_of (front ++ last ∷ []) ≡ ending front last (front ++ last ∷ [])
cell_of-push front last =
    let word = front ++ last ∷ [] in
    ap (λ n. ending (take n word) (get_or word n 0) word) (length-push front last)
    ∙ ap (λ f. ending f (get_or word (length front) 0) word) (take-append_seam front (last ∷ []))
    ∙ ap (λ c. ending front c word) (get_or-append_seam front last [] 0)

pushed : (word : List ℕ) → 1 ≤ length word → word ≡ take (length word - 1) word ++ get_or word (length word - 1) 0 ∷ []
pushed word some =
    let before : length word - 1 < length word = omega arith in
    let whole : length word - 1 + 1 ≡ length word = omega arith in
    sym (sym (take_more word (length word - 1) 0 before) ∙ ap (λ n. take n word) whole ∙ take_all (length word) word (omega arith))

small : (price : ℕ) → 1 ≤ price → price ≤ 999 → small_number_of (decimal price) 1 999 ≡ Some price
small price from_1 to_999 = small_number_of-decimal price 1 999 (omega arith) from_1 to_999

ending-digit : (front : List ℕ) (last : ℕ) (word : List ℕ) → 48 ≤ last → last ≤ 57 → ending front last word ≡ priced word White false
ending-digit front last word low high =
    let yellow : (last == 121) ≡ false = ne_eqb last 121 (λ same. omega arith) in
    let orange : (last == 111) ≡ false = ne_eqb last 111 (λ same. omega arith) in
    let brown : (last == 98) ≡ false = ne_eqb last 98 (λ same. omega arith) in
    let par : (last == 112) ≡ false = ne_eqb last 112 (λ same. omega arith) in
    let none : (last == 46) ≡ false = ne_eqb last 46 (λ same. omega arith) in
    rw (yellow, orange, brown, par, none) refl

white : (price : ℕ) → 1 ≤ price → price ≤ 999 → cell_of (decimal price) ≡ priced (decimal price) White false
white price from_1 to_999 =
    let wide : price < 2 ^ 64 = omega arith in
    let some : 0 < length (decimal price) = decimal_nonempty price wide in
    let digit : IsInRange 48 57 (get_or (decimal price) (length (decimal price) - 1) 0) = digit_in_range (decimal price) (length (decimal price) - 1) (digits_decimal digits_model price wide) (omega arith) in
    ending-digit (take (length (decimal price) - 1) (decimal price)) (get_or (decimal price) (length (decimal price) - 1) 0) (decimal price) (omega arith) (omega arith)

reread_parts : (price : ℕ) (zone : Zone) (is_par : Bool) → 1 ≤ price → price ≤ 999 → (is_par ≡ true → zone ≡ White) → cell_of (word_of (Some (record { price = price; zone = zone; is_par = is_par }))) ≡ Some (Some (record { price = price; zone = zone; is_par = is_par }))
reread_parts price White true low high par = cell_of-push (decimal price) 112 ∙ rw (small price low high) refl
reread_parts price Yellow true low high par = let bad : Yellow ≡ White = par refl in cc
reread_parts price Orange true low high par = let bad : Orange ≡ White = par refl in cc
reread_parts price Brown true low high par = let bad : Brown ≡ White = par refl in cc
reread_parts price White false low high par = ap cell_of (append-nil (decimal price)) ∙ white price low high ∙ rw (small price low high) refl
reread_parts price Yellow false low high par = cell_of-push (decimal price) 121 ∙ rw (small price low high) refl
reread_parts price Orange false low high par = cell_of-push (decimal price) 111 ∙ rw (small price low high) refl
reread_parts price Brown false low high par = cell_of-push (decimal price) 98 ∙ rw (small price low high) refl

-- the word of a cell spells it
pub cell_of-word_of : (cell : Option Cell) → IsSound cell → cell_of (word_of cell) ≡ Some cell
cell_of-word_of None sound = refl
cell_of-word_of (Some cell) sound = reread_parts cell.price cell.zone cell.is_par sound.from_1 sound.to_999 sound.par_white

pub record Spelled (word : List ℕ) (cell : Option Cell) : Type 0 where
  pub word_is : word ≡ word_of cell
  pub sound : IsSound cell

record Priced (digits : List ℕ) (zone : Zone) (is_par : Bool) (cell : Option Cell) : Type 0 where
  price : ℕ
  cell_is : cell ≡ Some (record { price = price; zone = zone; is_par = is_par })
  digits_are : digits ≡ decimal price
  from_1 : 1 ≤ price
  to_999 : price ≤ 999

priced-read : (digits : List ℕ) (zone : Zone) (is_par : Bool) (cell : Option Cell) (read : Option ℕ) → MatchOption read ((n : ℕ) → ¬ SpellsNumberWithin 1 999 digits n) (λ n. SpellsNumberWithin 1 999 digits n) → option_map (λ price. Some (record { price = price; zone = zone; is_par = is_par })) read ≡ Some cell → Priced digits zone is_par cell
priced-read digits zone is_par cell None none is = absurd (cc)
priced-read digits zone is_par cell (Some n) spelled is =
    let same : Some (record { price = n; zone = zone; is_par = is_par }) ≡ cell = cc in
    record { price = n; cell_is = sym same; digits_are = spelled.spelled.digits; from_1 = spelled.from_low; to_999 = spelled.to_high }

priced-found : (digits : List ℕ) (zone : Zone) (is_par : Bool) (cell : Option Cell) → priced digits zone is_par ≡ Some cell → Priced digits zone is_par cell
priced-found digits zone is_par cell is = priced-read digits zone is_par cell (small_number_of digits 1 999) (small_number_of-spelled digits 1 999) is

marked : (front word mark : List ℕ) (zone : Zone) (is_par : Bool) (cell : Option Cell) → word ≡ front ++ mark → ((price : ℕ) → mark_of (record { price = price; zone = zone; is_par = is_par }) ≡ mark) → (is_par ≡ true → zone ≡ White) → priced front zone is_par ≡ Some cell → Spelled word cell
marked front word mark zone is_par cell word_is mark_is par is =
    let found = priced-found front zone is_par cell is in
    rw found.cell_is (record {
      word_is = word_is ∙ ap (λ f. f ++ mark) found.digits_are ∙ ap (λ m. decimal found.price ++ m) (sym (mark_is found.price));
      sound = record { from_1 = found.from_1; to_999 = found.to_999; par_white = par };
    })

by_last : (front word : List ℕ) (last c : ℕ) → (last == c) ≡ true → word ≡ front ++ last ∷ [] → word ≡ front ++ c ∷ []
by_last front word last c same is = is ∙ ap (λ x. front ++ x ∷ []) (eqb-true last c same)

no_par : (zone : Zone) → false ≡ true → zone ≡ White
no_par zone bad = absurd (cc)

dot : (front word : List ℕ) → word ≡ front ++ 46 ∷ [] → length word ≡ 1 → word ≡ codes "."
dot [] word is one = is
dot (c ∷ front) word is one = absurd (omega (arith, ap length is, length-append front (46 ∷ [])))

without : (cell : Option Cell) (word : List ℕ) → Some None ≡ Some cell → word ≡ codes "." → Spelled word cell
without None word is word_is = record { word_is = word_is; sound = tt }
without (Some cell) word is word_is = absurd (cc)

ending-found : (front : List ℕ) (last : ℕ) (word : List ℕ) (cell : Option Cell) → word ≡ front ++ last ∷ [] → ending front last word ≡ Some cell → Spelled word cell
ending-found front last word cell parts is =
    elim (cases_Bool (last == 121)) [
      | inl yellow ↦ marked front word (121 ∷ []) Yellow false cell (by_last front word last 121 yellow parts) (λ price. refl) (no_par Yellow) (rw yellow at is)
      | inr not_yellow ↦ elim (cases_Bool (last == 111)) [
        | inl orange ↦ marked front word (111 ∷ []) Orange false cell (by_last front word last 111 orange parts) (λ price. refl) (no_par Orange) (rw (not_yellow, orange) at is)
        | inr not_orange ↦ elim (cases_Bool (last == 98)) [
          | inl brown ↦ marked front word (98 ∷ []) Brown false cell (by_last front word last 98 brown parts) (λ price. refl) (no_par Brown) (rw (not_yellow, not_orange, brown) at is)
          | inr not_brown ↦ elim (cases_Bool (last == 112)) [
            | inl par ↦ marked front word (112 ∷ []) White true cell (by_last front word last 112 par parts) (λ price. refl) (λ holds. refl) (rw (not_yellow, not_orange, not_brown, par) at is)
            | inr not_par ↦ elim (cases_Bool (last == 46 && length word == 1)) [
              | inl alone ↦
                  let none : Some None ≡ Some cell = rw (not_yellow, not_orange, not_brown, not_par, alone) at is in
                  let tests = and_parts (last == 46) (length word == 1) alone in
                  without cell word none (dot front word (by_last front word last 46 tests.0 parts) (eqb-true (length word) 1 tests.1))
              | inr other ↦ marked word word [] White false cell (sym (append-nil word)) (λ price. refl) (no_par White) (rw (not_yellow, not_orange, not_brown, not_par, other) at is)
            ]
          ]
        ]
      ]
    ]

-- what a word spells has that word
pub cell_of-found : (word : List ℕ) (cell : Option Cell) → cell_of word ≡ Some cell → Spelled word cell
cell_of-found [] cell is = absurd (cc)
cell_of-found (c ∷ more) cell is = ending-found _ _ (c ∷ more) cell (pushed (c ∷ more) (omega arith)) is
