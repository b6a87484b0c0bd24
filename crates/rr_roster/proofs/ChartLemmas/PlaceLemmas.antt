-- The cells and the par cells of a chart, at their places.
use Rattle.std.proofs.Common.{◌≡◌, ℕ, ◌+◌, suc, refl, sym, ap, ◌∙◌, Bool, true, false, List, [], ◌∷◌, Option, None, Some, IfSome, option_map, inl, inr, arith, filter_map, add-zero}
use Rattle.std.specs.Prelude.{All, AllPairs, find, ◌==◌, if◌then◌else◌}
use Rattle.std.specs.List.{enumerate_from, cons_option, flat_map}
use Rattle.std.proofs.lemmas.Bool.{cases_Bool, eqb-true}
use Rattle.std.proofs.lemmas.List.Elements.{All-nil, All-cons, All-head, All-tail, All-append, All-weaker}
use Rattle.rr_roster.specs.Chart.Chart.{Row, cell_in, cell_at, par_in, pars_in, pars_of, IsParOf, IsChart, par_place, HaveDifferentPrices}
use Rattle.rr_roster.proofs.ChartLemmas.ParLemmas.{pars_of-empty_row}
use Rattle.rr_roster.specs.declared.chart.cell.Cell.{Cell}
use Rattle.rr_roster.specs.declared.chart.cell.ParCell.{ParCell}

-- a par cell among cells of which the first has this row and column
record IsParIn (cells : Row) (row column : ℕ) (par : ParCell) : Type 0 where
  across : ℕ
  cell : Cell
  same_row : par.place.row ≡ row
  same_column : par.place.column ≡ column + across
  at_place : cell_in cells across ≡ Some cell
  price : cell.price ≡ par.price
  is_par : cell.is_par ≡ true

All-cons_option : {X : Type 0} (P : X → Type 0) (o : Option X) (xs : List X) → IfSome o P → All P xs → All P (cons_option o xs)
All-cons_option P None xs here there = there
All-cons_option P (Some x) xs here there = All-cons P x xs here there

first_if : (cell : Cell) (cells : Row) (row column : ℕ) (is_par : Bool) → cell.is_par ≡ is_par → IfSome (if is_par then Some (record { price = cell.price; place = record { row = row; column = column } }) else None) (IsParIn (Some cell ∷ cells) row column)
first_if cell cells row column true par = record { across = 0; cell = cell; same_row = refl; same_column = sym (add-zero column); at_place = refl; price = refl; is_par = par }
first_if cell cells row column false off = tt

first-par : (cell : Option Cell) (cells : Row) (row column : ℕ) → IfSome (par_in row (column, cell)) (IsParIn (cell ∷ cells) row column)
first-par None cells row column = tt
first-par (Some cell) cells row column = first_if cell cells row column cell.is_par refl

IsParIn-later : (cell : Option Cell) (cells : Row) (row column : ℕ) (par : ParCell) → IsParIn cells row (column + 1) par → IsParIn (cell ∷ cells) row column par
IsParIn-later cell cells row column par p = record { across = suc p.across; cell = p.cell; same_row = p.same_row; same_column = omega (arith, p.same_column); at_place = p.at_place; price = p.price; is_par = p.is_par }

pars-in_row : (cells : Row) (row column : ℕ) → All (IsParIn cells row column) (filter_map (par_in row) (enumerate_from column cells))
pars-in_row [] row column = All-nil (IsParIn [] row column)
pars-in_row (cell ∷ cells) row column =
    All-cons_option (IsParIn (cell ∷ cells) row column) (par_in row (column, cell)) (filter_map (par_in row) (enumerate_from (column + 1) cells))
    (first-par cell cells row column)
    (All-weaker (IsParIn cells row (column + 1)) (IsParIn (cell ∷ cells) row column) (IsParIn-later cell cells row column) _ (pars-in_row cells row (column + 1)))

record IsParBelow (rows : List Row) (row : ℕ) (par : ParCell) : Type 0 where
  down : ℕ
  cell : Cell
  same_row : par.place.row ≡ row + down
  at_place : cell_at rows (record { row = down; column = par.place.column }) ≡ Some cell
  price : cell.price ≡ par.price
  is_par : cell.is_par ≡ true

IsParBelow-here : (cells : Row) (rows : List Row) (row : ℕ) (par : ParCell) → IsParIn cells row 0 par → IsParBelow (cells ∷ rows) row par
IsParBelow-here cells rows row par p =
    let column : par.place.column ≡ p.across = omega (arith, p.same_column) in
    record { down = 0; cell = p.cell; same_row = omega (arith, p.same_row); at_place = ap (cell_in cells) column ∙ p.at_place; price = p.price; is_par = p.is_par }

IsParBelow-later : (cells : Row) (rows : List Row) (row : ℕ) (par : ParCell) → IsParBelow rows (row + 1) par → IsParBelow (cells ∷ rows) row par
IsParBelow-later cells rows row par p = record { down = suc p.down; cell = p.cell; same_row = omega (arith, p.same_row); at_place = p.at_place; price = p.price; is_par = p.is_par }

pars-below : (rows : List Row) (row : ℕ) → All (IsParBelow rows row) (flat_map pars_in (enumerate_from row rows))
unfolding pars_in
pars-below [] row = All-nil (IsParBelow [] row)
pars-below (cells ∷ rows) row =
    All-append (IsParBelow (cells ∷ rows) row) (filter_map (par_in row) (enumerate_from 0 cells)) (flat_map pars_in (enumerate_from (row + 1) rows))
    (All-weaker (IsParIn cells row 0) (IsParBelow (cells ∷ rows) row) (IsParBelow-here cells rows row) _ (pars-in_row cells row 0))
    (All-weaker (IsParBelow rows (row + 1)) (IsParBelow (cells ∷ rows) row) (IsParBelow-later cells rows row) _ (pars-below rows (row + 1)))

IsParOf-below : (rows : List Row) (par : ParCell) → IsParBelow rows 0 par → IsParOf rows par
IsParOf-below rows par p =
    let row : par.place.row ≡ p.down = omega (arith, p.same_row) in
    record { cell = p.cell; at_place = ap (λ r. cell_at rows (record { row = r; column = par.place.column })) row ∙ p.at_place; price = p.price; is_par = p.is_par }

-- each listed par cell is one of the chart's
pub pars_of-places : (rows : List Row) → All (IsParOf rows) (pars_of rows)
unfolding pars_of
pars_of-places rows = All-weaker (IsParBelow rows 0) (IsParOf rows) (IsParOf-below rows) _ (pars-below rows 0)

find-par : (rows : List Row) (price : ℕ) (pars : List ParCell) → All (IsParOf rows) pars → IfSome (option_map (λ par. par.place) (find (λ par. par.price == price) pars)) (λ place. IsParOf rows (record { price = price; place = place }))
find-par rows price [] all = tt
find-par rows price (par ∷ pars) all =
    elim (cases_Bool (par.price == price)) [
      | inl same ↦
          let p : IsParOf rows par = All-head (IsParOf rows) par pars all in
          rw same (record { cell = p.cell; at_place = p.at_place; price = p.price ∙ eqb-true par.price price same; is_par = p.is_par })
      | inr other ↦ rw other (find-par rows price pars (All-tail (IsParOf rows) par pars all))
    ]

pub par_place-is_par : (rows : List Row) (price : ℕ) → IfSome (par_place rows price) (λ place. IsParOf rows (record { price = price; place = place }))
par_place-is_par rows price = find-par rows price (pars_of rows) (pars_of-places rows)

pub lent-places : (rows now : List Row) (pars lent : List ParCell) → lent ≡ pars → pars ≡ pars_of rows → rows ≡ now → All (IsParOf now) lent
lent-places rows now pars lent lent_is noted view = rw (lent_is, noted, view) (pars_of-places now)

pub lent-different : (rows : List Row) (pars lent : List ParCell) → lent ≡ pars → pars ≡ pars_of rows → IsChart rows → AllPairs HaveDifferentPrices lent
lent-different rows pars lent lent_is noted chart =
    let pairs : AllPairs HaveDifferentPrices (pars_of rows) = rw (pars_of-empty_row rows) at chart.front.pars in
    rw (lent_is, noted) pairs
