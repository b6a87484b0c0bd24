-- A text spells one chart at most, and none where a word is wrong.
use Rattle.std.proofs.Common.{◌≡◌, ℕ, ◌+◌, ◌<◌, ◌≤◌, refl, sym, ap, ◌∙◌, subst, List, [], ◌∷◌, ◌++◌, length, map, get_or, append_assoc, length-append, Option, Some, arith}
use Rattle.std.specs.Prelude.{All, AllPairs}
use Rattle.std.proofs.Math.Seq.{get_or-append_seam}
use Rattle.std.proofs.lemmas.List.{map-append, get_or_append_left}
use Rattle.std.proofs.lemmas.List.Elements.{All-head, All-tail}
use Rattle.rr_words.specs.Text.{NumberedWords, rows_of, IsSmallAscii}
use Rattle.rr_roster.specs.Chart.Cell.{IsSound, cell_of, word_of}
use Rattle.rr_roster.specs.Chart.Chart.{Row, pars_of, HaveDifferentPrices, IsFront}
use Rattle.rr_roster.specs.Chart.Reading.{words_in, words_for, Spells, IsFirstWrongInLine, IsFirstWrong, IsWithoutPar, IsBadAt, NotSmallAscii, WithoutPar, WrongWord, IsRefusal, AreRowsRead, IsRowsFault}
use Rattle.rr_roster.proofs.ChartLemmas.CellLemmas.{cell_of-word_of}
use Rattle.rr_roster.proofs.ChartLemmas.FrontLemmas.{AllPairs-left}
use Rattle.rr_roster.proofs.ChartLemmas.ParLemmas.{pars_of-empty_row, pars_of-front}
use Rattle.rr_roster.specs.declared.chart.cell.Cell.{Cell}
use Rattle.rr_roster.specs.declared.chart.cell.ParCell.{ParCell}
use Rattle.rr_roster.specs.declared.chart.fault.Fault.{Fault}
use Rattle.rr_roster.specs.declared.chart.fault.Fault.TheVariants.{BadChart, OutOfMemory}

word_of-injective : (a b : Option Cell) → IsSound a → IsSound b → word_of a ≡ word_of b → a ≡ b
word_of-injective a b left right same =
    let both : Some a ≡ Some b = sym (cell_of-word_of a left) ∙ ap cell_of same ∙ cell_of-word_of b right in
    cc

map-injective : {X Y : Type 0} (f : X → Y) (P : X → Type 0) → ((a b : X) → P a → P b → f a ≡ f b → a ≡ b) → (xs ys : List X) → All P xs → All P ys → map f xs ≡ map f ys → xs ≡ ys
map-injective f P one [] [] left right same = refl
map-injective f P one [] (y ∷ ys) left right same = absurd (cc)
map-injective f P one (x ∷ xs) [] left right same = absurd (cc)
map-injective f P one (x ∷ xs) (y ∷ ys) left right same =
    let heads : f x ≡ f y = cc in
    let tails : map f xs ≡ map f ys = cc in
    let head : x ≡ y = one x y (All-head P x xs left) (All-head P y ys right) heads in
    let tail : xs ≡ ys = map-injective f P one xs ys (All-tail P x xs left) (All-tail P y ys right) tails in
    cc

row-injective : (a b : Row) → All IsSound a → All IsSound b → map word_of a ≡ map word_of b → a ≡ b
row-injective = map-injective word_of IsSound word_of-injective

rows-injective : (a b : List Row) → All (All IsSound) a → All (All IsSound) b → words_for a ≡ words_for b → a ≡ b
rows-injective = map-injective (λ row. map word_of row) (All IsSound) row-injective

pub Spells-unique : (text : List ℕ) (chart other : List Row) → Spells text chart → Spells text other → other ≡ chart
Spells-unique text chart other first second =
    rows-injective other chart second.is_chart.front.sound first.is_chart.front.sound (sym second.words ∙ first.words)

record GoesOn {X Y : Type 0} (f : X → Y) (xs all : List X) (y : Y) : Type 0 where
  item : X
  after : List X
  split : all ≡ xs ++ item ∷ after
  item_gives : y ≡ f item

map-goes_on : {X Y : Type 0} (f : X → Y) (P : X → Type 0) → ((a b : X) → P a → P b → f a ≡ f b → a ≡ b) → (xs all : List X) (y : Y) (ys : List Y) → All P xs → All P all → map f xs ++ y ∷ ys ≡ map f all → GoesOn f xs all y
map-goes_on f P one [] [] y ys left right same = absurd (cc)
map-goes_on f P one [] (a ∷ all) y ys left right same =
    let head : y ≡ f a = cc in
    record { item = a; after = all; split = refl; item_gives = head }
map-goes_on f P one (x ∷ xs) [] y ys left right same = absurd (cc)
map-goes_on f P one (x ∷ xs) (a ∷ all) y ys left right same =
    let heads : f x ≡ f a = cc in
    let tails : map f xs ++ y ∷ ys ≡ map f all = cc in
    let head : x ≡ a = one x a (All-head P x xs left) (All-head P a all right) heads in
    let more = map-goes_on f P one xs all y ys (All-tail P x xs left) (All-tail P a all right) tails in
    let whole : a ∷ all ≡ x ∷ (xs ++ more.item ∷ more.after) = ap (λ h. h ∷ all) (sym head) ∙ ap (λ t. x ∷ t) more.split in
    record { item = more.item; after = more.after; split = whole; item_gives = more.item_gives }

All-left : {X : Type 0} (P : X → Type 0) (xs ys : List X) → All P (xs ++ ys) → All P xs
All-left P xs ys all k d within =
    let more : k < length (xs ++ ys) = omega (arith, length-append xs ys) in
    let at : P (get_or (xs ++ ys) k d) = all k d more in
    rw (get_or_append_left xs ys d k within) at at

All-at : {X : Type 0} (P : X → Type 0) (xs : List X) (y : X) (ys : List X) → All P (xs ++ y ∷ ys) → P y
All-at P xs y ys all =
    let within : length xs < length (xs ++ y ∷ ys) = omega (arith, length-append xs (y ∷ ys)) in
    let here : P (get_or (xs ++ y ∷ ys) (length xs) y) = all (length xs) y within in
    rw (get_or-append_seam xs y ys y) at here

-- where a chart begins
IsFront-before : (rows : List Row) (cells more_cells : Row) (more : List Row) → IsFront (rows ++ (cells ++ more_cells) ∷ more) [] → IsFront rows cells
IsFront-before rows cells more_cells more front =
    let row = cells ++ more_cells in
    let long : length (rows ++ row ∷ more) ≡ length rows + length (row ∷ more) = length-append rows (row ∷ more) in
    let width : length row ≤ 24 = All-at (λ r. length r ≤ 24) rows row more front.columns in
    let begins = pars_of-front rows cells more_cells more in
    let pairs : AllPairs HaveDifferentPrices (pars_of (rows ++ row ∷ more)) = rw (pars_of-empty_row (rows ++ row ∷ more)) at front.pars in
    record {
      rows = omega (arith, front.rows, long);
      one_more = λ some. omega (arith, front.rows, long);
      columns = All-left (λ r. length r ≤ 24) rows (row ∷ more) front.columns;
      row_columns = omega (arith, length-append cells more_cells, width);
      sound = All-left (All IsSound) rows (row ∷ more) front.sound;
      row_sound = All-left IsSound cells more_cells (All-at (All IsSound) rows row more front.sound);
      pars = AllPairs-left HaveDifferentPrices (pars_of (rows ++ cells ∷ [])) begins.rest (rw begins.whole_is at pairs);
    }

wrong-row : (rows : List Row) (chart : List Row) (words : List (List ℕ)) (place : ℕ) (below : List (List (List ℕ))) → All (All IsSound) rows → IsFirstWrongInLine rows words place → words_for rows ++ words ∷ below ≡ words_for chart → ¬ IsFront chart []
wrong-row rows chart words place below sound wrong same front =
    let row = map-goes_on (λ r. map word_of r) (All IsSound) row-injective rows chart words below sound front.sound same in
    let here : IsFront (rows ++ row.item ∷ row.after) [] = subst (λ c. IsFront c []) row.split front in
    let row_sound : All IsSound row.item = All-at (All IsSound) rows row.item row.after here.sound in
    let cell = map-goes_on word_of IsSound word_of-injective wrong.cells row.item wrong.wrong wrong.after wrong.right_before.row_sound row_sound (sym wrong.split ∙ row.item_gives) in
    let split : row.item ≡ (wrong.cells ++ cell.item ∷ []) ++ cell.after = cell.split ∙ sym (append_assoc wrong.cells (cell.item ∷ []) cell.after) in
    let begins : IsFront (rows ++ ((wrong.cells ++ cell.item ∷ []) ++ cell.after) ∷ row.after) [] = subst (λ r. IsFront (rows ++ r ∷ row.after) []) split here in
    wrong.no_cell cell.item cell.item_gives (IsFront-before rows (wrong.cells ++ cell.item ∷ []) cell.after row.after begins)

pub no_chart-wrong : (text : List ℕ) (line place : ℕ) → IsFirstWrong (rows_of text) line place → (chart : List Row) → ¬ Spells text chart
no_chart-wrong text line place wrong chart spelled =
    let parts : words_in (rows_of text) ≡ words_for wrong.rows ++ wrong.here.words ∷ words_in wrong.below =
    ap words_in wrong.split ∙ map-append (λ l. l.words) wrong.above (wrong.here ∷ wrong.below) ∙ ap (λ f. f ++ wrong.here.words ∷ words_in wrong.below) wrong.above_spelled in
    wrong-row wrong.rows chart wrong.here.words place (words_in wrong.below) wrong.in_line.right_before.sound wrong.in_line (sym parts ∙ spelled.words) spelled.is_chart.front

pub no_chart-without_par : (text : List ℕ) → IsWithoutPar (rows_of text) → (chart : List Row) → ¬ Spells text chart
no_chart-without_par text without chart spelled =
    let same : without.rows ≡ chart = rows-injective without.rows chart without.front.sound spelled.is_chart.front.sound (sym without.spelled ∙ spelled.words) in
    let none : pars_of chart ≡ [] = ap pars_of (sym same) ∙ without.no_par in
    omega (arith, ap length none, spelled.is_chart.some_par)

nil : {X : Type 0} (xs : List X) → length xs ≡ 0 → xs ≡ []
nil [] none = refl
nil (x ∷ xs) none = absurd (omega arith)

pub refused-without_par : (text : List ℕ) (lines : List NumberedWords) (rows : List Row) (pars : List ParCell) → IsSmallAscii text → lines ≡ rows_of text → AreRowsRead lines rows pars → length pars ≡ 0 → IsBadAt text 0 0 × ((chart : List Row) → ¬ Spells text chart)
refused-without_par text lines rows pars small lines_are read none =
    let without : IsWithoutPar (rows_of text) = record { rows = rows; spelled = ap words_in (sym lines_are) ∙ read.spelled; front = read.front; no_par = sym read.noted ∙ nil pars none } in
    (WithoutPar small without, no_chart-without_par text without)

pub refused-wrong : (text : List ℕ) (lines : List NumberedWords) (fault : Fault) → IsSmallAscii text → lines ≡ rows_of text → IsRowsFault lines fault → IsRefusal text fault
refused-wrong text lines (BadChart line place) small lines_are wrong =
    let here : IsFirstWrong (rows_of text) line place = subst (λ l. IsFirstWrong l line place) lines_are wrong in
    (WrongWord line place small here, no_chart-wrong text line place here)
refused-wrong text lines OutOfMemory small lines_are wrong = small

pub Spells-read : (text : List ℕ) (lines : List NumberedWords) (rows : List Row) (pars : List ParCell) → IsSmallAscii text → lines ≡ rows_of text → AreRowsRead lines rows pars → 1 ≤ length pars → Spells text rows
Spells-read text lines rows pars small lines_are read some = record {
  small_ascii = small;
  words = ap words_in (sym lines_are) ∙ read.spelled;
  is_chart = record { front = read.front; some_par = rw (← read.noted) some };
}

pub refused-not_ascii : (text : List ℕ) → ¬ IsSmallAscii text → IsBadAt text 0 0 × ((chart : List Row) → ¬ Spells text chart)
refused-not_ascii text large = (NotSmallAscii large, λ chart spelled. large spelled.small_ascii)
