-- The par cells of one row or one cell more.
use Rattle.std.proofs.Common.{◌≡◌, ℕ, ◌+◌, suc, refl, sym, ap, ◌∙◌, List, [], ◌∷◌, ◌++◌, length, filter_map, append-nil, append_assoc, add-zero, zero-add, Option, None, Some, arith, option_to_list}
use Rattle.std.specs.List.{enumerate_from, cons_option, flat_map}
use Rattle.std.proofs.lemmas.List.Elements.{filter_map-append}
use Rattle.std.proofs.lemmas.Grind.{flat_map-append}
use Rattle.rr_roster.specs.Chart.Chart.{Row, par_at, par_in, pars_in, pars_of}
use Rattle.rr_roster.specs.declared.chart.cell.Cell.{Cell}
use Rattle.rr_roster.specs.declared.chart.cell.ParCell.{ParCell}

enumerate_from-push : {X : Type 0} (n : ℕ) (xs : List X) (y : X) → enumerate_from n (xs ++ y ∷ []) ≡ enumerate_from n xs ++ (n + length xs, y) ∷ []
enumerate_from-push n [] y = rw add-zero refl
enumerate_from-push n (x ∷ xs) y =
    let place : n + 1 + length xs ≡ n + suc (length xs) = omega arith in
    ap (λ rest. (n, x) ∷ rest) (enumerate_from-push (n + 1) xs y ∙ ap (λ k. enumerate_from (n + 1) xs ++ (k, y) ∷ []) place)

cons_option-none : {X : Type 0} (o : Option X) → cons_option o [] ≡ option_to_list o
cons_option-none None = refl
cons_option-none (Some x) = refl

pub pars_of-push : (rows : List Row) (row : Row) → pars_of (rows ++ row ∷ []) ≡ pars_of rows ++ pars_in (length rows, row)
unfolding pars_of
pars_of-push rows row =
    ap (flat_map pars_in) (enumerate_from-push 0 rows row)
    ∙ flat_map-append pars_in (enumerate_from 0 rows) ((0 + length rows, row) ∷ [])
    ∙ ap (λ last. flat_map pars_in (enumerate_from 0 rows) ++ last) (append-nil (pars_in (0 + length rows, row)) ∙ ap (λ n. pars_in (n, row)) (zero-add (length rows)))

pars_in-push : (number : ℕ) (cells : Row) (cell : Option Cell) → pars_in (number, cells ++ cell ∷ []) ≡ pars_in (number, cells) ++ option_to_list (par_in number (length cells, cell))
unfolding pars_in
pars_in-push number cells cell =
    ap (filter_map (par_in number)) (enumerate_from-push 0 cells cell)
    ∙ filter_map-append (par_in number) (enumerate_from 0 cells) ((0 + length cells, cell) ∷ [])
    ∙ ap (λ last. filter_map (par_in number) (enumerate_from 0 cells) ++ last) (cons_option-none (par_in number (0 + length cells, cell)) ∙ ap (λ n. option_to_list (par_in number (n, cell))) (zero-add (length cells)))

-- one cell more
pub pars_of-cell : (above : List Row) (cells : Row) (cell : Option Cell) → pars_of (above ++ (cells ++ cell ∷ []) ∷ []) ≡ pars_of (above ++ cells ∷ []) ++ option_to_list (par_at (record { row = length above; column = length cells }) cell)
pars_of-cell above cells cell =
    pars_of-push above (cells ++ cell ∷ [])
    ∙ ap (λ last. pars_of above ++ last) (pars_in-push (length above) cells cell)
    ∙ sym (append_assoc (pars_of above) (pars_in (length above, cells)) (option_to_list (par_in (length above) (length cells, cell))))
    ∙ ap (λ front. front ++ option_to_list (par_in (length above) (length cells, cell))) (sym (pars_of-push above cells))

pars_in-empty : (number : ℕ) → pars_in (number, []) ≡ []
unfolding pars_in
pars_in-empty number = refl

-- a row that has no cell yet
pub pars_of-empty_row : (rows : List Row) → pars_of (rows ++ [] ∷ []) ≡ pars_of rows
pars_of-empty_row rows =
    pars_of-push rows [] ∙ ap (λ last. pars_of rows ++ last) (pars_in-empty (length rows)) ∙ append-nil (pars_of rows)

enumerate_from-append : {X : Type 0} (n : ℕ) (xs ys : List X) → enumerate_from n (xs ++ ys) ≡ enumerate_from n xs ++ enumerate_from (n + length xs) ys
enumerate_from-append n [] ys = ap (λ k. enumerate_from k ys) (sym (add-zero n))
enumerate_from-append n (x ∷ xs) ys =
    let place : n + 1 + length xs ≡ n + suc (length xs) = omega arith in
    ap (λ rest. (n, x) ∷ rest) (enumerate_from-append (n + 1) xs ys ∙ ap (λ k. enumerate_from (n + 1) xs ++ enumerate_from k ys) place)

-- what par cells follow
pub record Begins (front whole : List ParCell) : Type 0 where
  pub rest : List ParCell
  pub whole_is : whole ≡ front ++ rest

pars_of-append : (rows more : List Row) → Begins (pars_of rows) (pars_of (rows ++ more))
unfolding pars_of
pars_of-append rows more = record {
  rest = flat_map pars_in (enumerate_from (0 + length rows) more);
  whole_is = ap (flat_map pars_in) (enumerate_from-append 0 rows more) ∙ flat_map-append pars_in (enumerate_from 0 rows) (enumerate_from (0 + length rows) more);
}

pars_in-append : (number : ℕ) (cells more : Row) → Begins (pars_in (number, cells)) (pars_in (number, cells ++ more))
unfolding pars_in
pars_in-append number cells more = record {
  rest = filter_map (par_in number) (enumerate_from (0 + length cells) more);
  whole_is = ap (filter_map (par_in number)) (enumerate_from-append 0 cells more) ∙ filter_map-append (par_in number) (enumerate_from 0 cells) (enumerate_from (0 + length cells) more);
}

-- the par cells up to a cell come first
pub pars_of-front : (rows : List Row) (cells more_cells : Row) (more : List Row) → Begins (pars_of (rows ++ cells ∷ [])) (pars_of (rows ++ (cells ++ more_cells) ∷ more))
pars_of-front rows cells more_cells more =
    let row = cells ++ more_cells in
    let below = pars_of-append (rows ++ row ∷ []) more in
    let right = pars_in-append (length rows) cells more_cells in
    record {
      rest = right.rest ++ below.rest;
      whole_is =
          ap pars_of (sym (append_assoc rows (row ∷ []) more))
          ∙ below.whole_is
          ∙ ap (λ front. front ++ below.rest) (
          pars_of-push rows row
          ∙ ap (λ last. pars_of rows ++ last) right.whole_is
          ∙ sym (append_assoc (pars_of rows) (pars_in (length rows, cells)) right.rest)
          ∙ ap (λ front. front ++ right.rest) (sym (pars_of-push rows cells)))
          ∙ append_assoc (pars_of (rows ++ cells ∷ [])) right.rest below.rest;
    }

pub pars_of-none : [] ≡ pars_of []
unfolding pars_of
pars_of-none = refl
