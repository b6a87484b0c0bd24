-- A word more of a row, and a row more.
use Rattle.std.proofs.Common.{◌≡◌, ◌≢◌, ℕ, ◌+◌, ◌<◌, ◌≤◌, suc, zero, refl, sym, ap, ◌∙◌, subst, true, false, List, [], ◌∷◌, ◌++◌, length, map, get_or, take, drop, append-nil, length-append, Option, None, Some, option_to_list, option_and_then, inl, inr, arith}
use Rattle.std.specs.Prelude.{◌==◌, All, AllPairs}
use Rattle.std.proofs.Math.Seq.{get_or-append_seam}
use Rattle.std.proofs.lemmas.List.{take_more, take_all, map-append, get_or_append_left, take-append-drop, length-map}
use Rattle.std.proofs.lemmas.List.Elements.{All-nil, All-cons, All-append}
use Rattle.std.proofs.lemmas.List.Folds.{list_any_at}
use Rattle.std.proofs.lemmas.List.Quantifiers.{all_pairs_push}
use Rattle.std.proofs.lemmas.Bool.{cases_Bool, cases_lt, lt-leb, le-leb, ne_eqb, eq-eqb}
use Rattle.std.proofs.Math.Seq.{drop-cons}
use denote.Ref.{Bor}
use Rattle.rr_words.specs.Text.{NumberedWords}
use Rattle.rr_roster.specs.Chart.Cell.{IsSound, cell_of, word_of}
use Rattle.rr_roster.specs.Chart.Chart.{Row, par_at, pars_of, HaveDifferentPrices, IsFront}
use Rattle.rr_roster.specs.Chart.Reading.{has_price, is_double, undoubled, next_cell, IsFirstWrongInLine, IsRowRead}
use Rattle.rr_roster.proofs.ChartLemmas.CellLemmas.{cell_of-word_of, cell_of-found}
use Rattle.rr_roster.proofs.ChartLemmas.ParLemmas.{pars_of-cell, pars_of-empty_row}
use Rattle.rr_roster.specs.declared.chart.cell.Cell.{Cell}
use Rattle.rr_roster.specs.declared.chart.cell.Place.{Place}
use Rattle.rr_roster.specs.declared.chart.cell.ParCell.{ParCell}

-- the first words of a line, read as cells
pub record IsReadTo (above : List Row) (words : List (List ℕ)) (count : ℕ) (cells : Row) (pars : List ParCell) : Type 0 where
  pub spelled : take count words ≡ map word_of cells
  pub counted : length cells ≡ count
  pub front : IsFront above cells
  pub noted : pars ≡ pars_of (above ++ cells ∷ [])

pub IsReadTo-start : (above : List Row) (words : List (List ℕ)) (pars : List ParCell) → IsFront above [] → pars ≡ pars_of above → IsReadTo above words 0 [] pars
IsReadTo-start above words pars front noted = record {
  spelled = refl;
  counted = refl;
  front = front;
  noted = noted ∙ sym (pars_of-empty_row above);
}

-- what the reader of a word tells
record IsNext (place : Place) (word : List ℕ) (pars : List ParCell) (cell : Option Cell) : Type 0 where
  row : place.row < 16
  column : place.column < 24
  spelled : cell_of word ≡ Some cell
  single : is_double pars (par_at place cell) ≡ false

next_cell-from : (place : Place) (word : List ℕ) (pars : List ParCell) (cell : Option Cell) → IsNext place word pars cell → next_cell place word pars ≡ Some cell
next_cell-from place word pars cell next =
    rw (lt-leb 16 place.row next.row, lt-leb 24 place.column next.column, next.spelled, next.single) refl

undoubled-found : (place : Place) (word : List ℕ) (pars : List ParCell) (cell : Option Cell) (read : Option (Option Cell)) → place.row < 16 → place.column < 24 → cell_of word ≡ read → option_and_then (undoubled place pars) read ≡ Some cell → IsNext place word pars cell
undoubled-found place word pars cell None row column read is = absurd (cc)
undoubled-found place word pars cell (Some c) row column read is =
    elim (cases_Bool (is_double pars (par_at place c))) [
      | inl twice ↦ absurd (let none = rw twice at is in cc)
      | inr once ↦
          let kept = rw once at is in
          let same : c ≡ cell = cc in
          record { row = row; column = column; spelled = read ∙ ap (λ x. Some x) same; single = subst (λ x. is_double pars (par_at place x) ≡ false) same once }
    ]

next_cell-found : (place : Place) (word : List ℕ) (pars : List ParCell) (cell : Option Cell) → next_cell place word pars ≡ Some cell → IsNext place word pars cell
next_cell-found place word pars cell is =
    elim (cases_lt place.row 16) [
      | inr low ↦ absurd (let none = rw (le-leb 16 place.row low) at is in cc)
      | inl row ↦ elim (cases_lt place.column 24) [
        | inr right ↦ absurd (let none = rw (lt-leb 16 place.row row, le-leb 24 place.column right) at is in cc)
        | inl column ↦ undoubled-found place word pars cell (cell_of word) row column refl (rw (lt-leb 16 place.row row, lt-leb 24 place.column column) at is)
      ]
    ]

-- the par cells have different prices with one more exactly where its price is new
pub AllPairs-left : {X : Type 0} (R : X → X → Type 0) (xs ys : List X) → AllPairs R (xs ++ ys) → AllPairs R xs
AllPairs-left R xs ys all i j d lt within =
    let more : j < length (xs ++ ys) = omega (arith, length-append xs ys) in
    let earlier : i < length xs = omega arith in
    let pair : R (get_or (xs ++ ys) i d) (get_or (xs ++ ys) j d) = all i j d lt more in
    rw (get_or_append_left xs ys d i earlier, get_or_append_left xs ys d j within) at pair

AllPairs-tail : {X : Type 0} (R : X → X → Type 0) (x : X) (xs : List X) → AllPairs R (x ∷ xs) → AllPairs R xs
AllPairs-tail R x xs all i j d lt within = all (suc i) (suc j) d (omega arith) (omega arith)

no_price : (pars : List ParCell) (par : ParCell) → AllPairs HaveDifferentPrices (pars ++ par ∷ []) → has_price pars par.price ≡ false
no_price [] par all = refl
no_price (first ∷ more) par all =
    let pair : HaveDifferentPrices first (get_or (more ++ par ∷ []) (length more) par) = all 0 (suc (length more)) par (omega arith) (omega (arith, length-append more (par ∷ []))) in
    let differ : first.price ≢ par.price = rw (get_or-append_seam more par [] par) at pair in
    rw (ne_eqb first.price par.price differ) (no_price more par (AllPairs-tail HaveDifferentPrices first (more ++ par ∷ []) all))

new_price : (pars : List ParCell) (par : ParCell) → has_price pars par.price ≡ false → AllPairs HaveDifferentPrices pars → AllPairs HaveDifferentPrices (pars ++ par ∷ [])
new_price pars par none all =
    all_pairs_push HaveDifferentPrices pars par all (λ k d within same.
    let found : has_price pars par.price ≡ true = list_any_at (λ other. other.price == par.price) pars k d within (eq-eqb _ par.price same) in
    cc)

single-pairs : (pars : List ParCell) (par : Option ParCell) → is_double pars par ≡ false → AllPairs HaveDifferentPrices pars → AllPairs HaveDifferentPrices (pars ++ option_to_list par)
single-pairs pars None single all = rw (append-nil pars) all
single-pairs pars (Some par) single all = new_price pars par single all

pairs-single : (pars : List ParCell) (par : Option ParCell) → AllPairs HaveDifferentPrices (pars ++ option_to_list par) → is_double pars par ≡ false
pairs-single pars None all = refl
pairs-single pars (Some par) all = no_price pars par all

pub All-last : {X : Type 0} (P : X → Type 0) (xs : List X) (y : X) → All P (xs ++ y ∷ []) → P y
All-last P xs y all =
    let within : length xs < length (xs ++ y ∷ []) = omega (arith, length-append xs (y ∷ [])) in
    let last : P (get_or (xs ++ y ∷ []) (length xs) y) = all (length xs) y within in
    rw (get_or-append_seam xs y [] y) at last

pub All-one : {X : Type 0} (P : X → Type 0) (x : X) → P x → All P (x ∷ [])
All-one P x holds = All-cons P x [] holds (All-nil P)

place_below : List Row → Row → Place
place_below above cells = record { row = length above; column = length cells }

-- one cell more
IsFront-more : (above : List Row) (cells : Row) (cell : Option Cell) → IsFront above cells → length above < 16 → length cells < 24 → IsSound cell → is_double (pars_of (above ++ cells ∷ [])) (par_at (record { row = length above; column = length cells }) cell) ≡ false → IsFront above (cells ++ cell ∷ [])
IsFront-more above cells cell front row column sound single = record {
  rows = front.rows;
  one_more = λ some. row;
  columns = front.columns;
  row_columns = omega (arith, length-append cells (cell ∷ []));
  sound = front.sound;
  row_sound = All-append IsSound cells (cell ∷ []) front.row_sound (All-one IsSound cell sound);
  pars = rw (pars_of-cell above cells cell) (single-pairs (pars_of (above ++ cells ∷ [])) (par_at (record { row = length above; column = length cells }) cell) single front.pars);
}

pub IsReadTo-next : (above : List Row) (words : List (List ℕ)) (count : ℕ) (cells : Row) (pars : List ParCell) (word : List ℕ) (cell : Option Cell) (now_cells : Row) (now_pars : List ParCell) → IsReadTo above words count cells pars → count < length words → get_or words count word ≡ word → next_cell (record { row = length above; column = count }) word pars ≡ Some cell → now_cells ≡ cells ++ cell ∷ [] → now_pars ≡ pars ++ option_to_list (par_at (record { row = length above; column = count }) cell) → IsReadTo above words (count + 1) now_cells now_pars
IsReadTo-next above words count cells pars word cell now_cells now_pars so_far within here is cells_are pars_are =
    let next = next_cell-found (record { row = length above; column = count }) word pars cell is in
    let found = cell_of-found word cell next.spelled in
    let single : is_double (pars_of (above ++ cells ∷ [])) (par_at (record { row = length above; column = length cells }) cell) ≡ false =
    rw (so_far.counted, ← so_far.noted) next.single in
    rw cells_are (record {
      spelled = take_more words count word within ∙ ap (λ w. take count words ++ w ∷ []) (here ∙ found.word_is) ∙ ap (λ f. f ++ word_of cell ∷ []) so_far.spelled ∙ sym (map-append word_of cells (cell ∷ []));
      counted = length-append cells (cell ∷ []) ∙ ap (λ n. n + 1) so_far.counted;
      front = IsFront-more above cells cell so_far.front next.row (omega (arith, next.column, so_far.counted)) found.sound single;
      noted = pars_are ∙ ap (λ p. p ++ option_to_list (par_at (record { row = length above; column = count }) cell)) so_far.noted ∙ ap (λ n. pars_of (above ++ cells ∷ []) ++ option_to_list (par_at (record { row = length above; column = n }) cell)) (sym so_far.counted) ∙ sym (pars_of-cell above cells cell);
    })

-- a word that no cell spells, or whose cell may not stand there
no_next : (above : List Row) (count : ℕ) (cells : Row) (pars : List ParCell) (word : List ℕ) (cell : Option Cell) → length cells ≡ count → pars ≡ pars_of (above ++ cells ∷ []) → next_cell (record { row = length above; column = count }) word pars ≡ None → word ≡ word_of cell → ¬ IsFront above (cells ++ cell ∷ [])
no_next above count cells pars word cell counted noted none spelled front =
    let longer : length (cells ++ cell ∷ []) ≡ length cells + 1 = length-append cells (cell ∷ []) in
    let sound : IsSound cell = All-last IsSound cells cell front.row_sound in
    let pairs : AllPairs HaveDifferentPrices (pars_of (above ++ cells ∷ []) ++ option_to_list (par_at (record { row = length above; column = length cells }) cell)) = rw (pars_of-cell above cells cell) at front.pars in
    let single : is_double (pars_of (above ++ cells ∷ [])) (par_at (record { row = length above; column = length cells }) cell) ≡ false = pairs-single _ _ pairs in
    let some : next_cell (record { row = length above; column = count }) word pars ≡ Some cell = next_cell-from _ word pars cell (record {
      row = front.one_more (omega arith);
      column = omega (arith, front.row_columns);
      spelled = ap cell_of spelled ∙ cell_of-word_of cell sound;
      single = rw (noted, ← counted) single;
    }) in
    cc

pub IsReadTo-stop : (above : List Row) (words : List (List ℕ)) (count : ℕ) (cells : Row) (pars : List ParCell) (word : List ℕ) → IsReadTo above words count cells pars → count < length words → get_or words count word ≡ word → next_cell (record { row = length above; column = count }) word pars ≡ None → IsFirstWrongInLine above words (count + 1)
IsReadTo-stop above words count cells pars word so_far within here none = record {
  cells = cells;
  wrong = word;
  after = drop (suc count) words;
  split = sym (take-append-drop count words) ∙ ap (λ f. f ++ drop count words) so_far.spelled ∙ ap (λ rest. map word_of cells ++ rest) (drop-cons words count word within ∙ ap (λ w. w ∷ drop (suc count) words) here);
  counted = ap (λ n. n + 1) (sym so_far.counted);
  right_before = so_far.front;
  no_cell = λ cell spelled. no_next above count cells pars word cell so_far.counted so_far.noted none spelled;
}

-- the row is read
pub IsReadTo-end : (above : List Row) (line : NumberedWords) (cells : Row) (pars : List ParCell) → IsReadTo above line.words (length line.words) cells pars → 1 ≤ length line.words → IsRowRead above line cells pars
IsReadTo-end above line cells pars read some = record {
  spelled = sym (take_all (length line.words) line.words (omega arith)) ∙ read.spelled;
  front = record {
    rows = omega (arith, length-append above (cells ∷ []), read.front.one_more (omega (arith, read.counted)));
    one_more = λ more. absurd (omega arith);
    columns = All-append (λ row. length row ≤ 24) above (cells ∷ []) read.front.columns (All-one (λ row. length row ≤ 24) cells read.front.row_columns);
    row_columns = omega arith;
    sound = All-append (All IsSound) above (cells ∷ []) read.front.sound (All-one (All IsSound) cells read.front.row_sound);
    row_sound = All-nil IsSound;
    pars = rw (pars_of-empty_row (above ++ cells ∷ [])) read.front.pars;
  };
  noted = read.noted;
}

-- a word among those that a reader is lent
pub words-within : (lent items : List (Bor (List ℕ))) (i : ℕ) → lent ≡ items → i < length lent → i < length (map (λ w. w.now) items)
words-within lent items i same within = rw (length-map items (λ w. w.now), ← same) within

get_or-map-now : (lent : List (Bor (List ℕ))) (i : ℕ) (blank : Bor (List ℕ)) (word : List ℕ) → i < length lent → get_or (map (λ w. w.now) lent) i word ≡ (get_or lent i blank).now
get_or-map-now [] i blank word within = absurd (omega arith)
get_or-map-now (x ∷ xs) zero blank word within = refl
get_or-map-now (x ∷ xs) (suc i) blank word within = get_or-map-now xs i blank word (omega arith)

pub word-here : (lent items : List (Bor (List ℕ))) (i : ℕ) (blank : Bor (List ℕ)) (word : List ℕ) → lent ≡ items → i < length lent → get_or (map (λ w. w.now) items) i word ≡ (get_or lent i blank).now
word-here lent items i blank word same within = rw (← same) (get_or-map-now lent i blank word within)
