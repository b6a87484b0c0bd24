-- A sale drops a token row by row until a cell is missing.
use Rattle.std.proofs.Common.{◌≡◌, ℕ, zero, suc, ◌+◌, Bool, true, false, List, None, Some, refl, sym, ◌∙◌, ap, inl, inr, arith}
use Rattle.std.specs.Prelude.{is_some, unwrap_or, option_map, if◌then◌else◌}
use Rattle.std.proofs.lemmas.Bool.{cases_Bool, false≢true, cases_order}
use Rattle.rr_roster.specs.Chart.Chart.{Row, cell_at}
use Rattle.rr_roster.specs.declared.chart.cell.Place.{Place}
use Rattle.rr_books.specs.declared.entries.Cell.{Cell}
use Rattle.rr_market.specs.Moves.{cell_of, fallen, fallen_by, IsFall}

-- the place under a cell
abbrev under : Cell → Place
under cell = record { row = cell.row + 1; column = cell.column }

fallen-under : (b : Bool) (cell : Cell) (place : Place) → unwrap_or (option_map cell_of (if b then Some place else None)) cell ≡ (if b then cell_of place else cell)
fallen-under true cell place = refl
fallen-under false cell place = refl

-- one row down where there is a cell, and else the same cell
fallen-is : (rows : List Row) (cell : Cell) → fallen rows cell ≡ (if is_some (cell_at rows (under cell)) then cell_of (under cell) else cell)
fallen-is rows cell = fallen-under (is_some (cell_at rows (under cell))) cell (under cell)

IsFall-more : (rows : List Row) (n : ℕ) (from to next : Cell) → IsFall rows n from to → next ≡ (if is_some (cell_at rows (under to)) then cell_of (under to) else to) → IsFall rows (n + 1) from next
IsFall-more rows n from to next f e =
    let row = f.row in
    let within = f.within in
    elim (cases_Bool (is_some (cell_at rows (under to)))) [
      | inl there ↦
          let down : next ≡ cell_of (under to) = rw there at e in
          let more : next.row ≡ to.row + 1 = ap (λ (c : Cell). c.row) down in
          record {
            column = ap (λ (c : Cell). c.column) down ∙ f.column;
            depth = f.depth + 1;
            row = omega arith;
            within = omega arith;
            there = λ k h. elim (cases_order k f.depth) [
              | inl same ↦
                  let place : from.row + k + 1 ≡ to.row + 1 = omega arith in
                  ap (λ (r : ℕ). is_some (cell_at rows (record { row = r; column = from.column }))) place
                  ∙ ap (λ (c : ℕ). is_some (cell_at rows (record { row = to.row + 1; column = c }))) (sym f.column) ∙ there
              | inr side ↦ elim side [
                | inl lt ↦ f.there k lt
                | inr gt ↦ absurd (omega arith)
              ]
            ];
            stopped = λ h. absurd (false≢true (sym (f.stopped (omega arith)) ∙ there));
          }
      | inr missing ↦
          let still : next ≡ to = rw missing at e in
          let same : next.row ≡ to.row = ap (λ (c : Cell). c.row) still in
          record {
            column = ap (λ (c : Cell). c.column) still ∙ f.column;
            depth = f.depth;
            row = omega arith;
            within = omega arith;
            there = λ k h. f.there k h;
            stopped = λ h. ap (λ (c : Cell). is_some (cell_at rows (under c))) still ∙ missing;
          }
    ]

pub fallen_by-falls : (rows : List Row) (n : ℕ) (cell : Cell) → IsFall rows n cell (fallen_by rows n cell)
unfolding fallen_by
fallen_by-falls rows zero cell = record {
  column = refl;
  depth = 0;
  row = omega arith;
  within = omega arith;
  there = λ k h. absurd (omega arith);
  stopped = λ h. absurd (omega arith);
}
fallen_by-falls rows (suc n) cell =
    let one = IsFall-more rows n cell (fallen_by rows n cell) (fallen rows (fallen_by rows n cell)) (fallen_by-falls rows n cell) (fallen-is rows (fallen_by rows n cell)) in
    record {
      column = one.column;
      depth = one.depth;
      row = one.row;
      within = omega (arith, one.within);
      there = one.there;
      stopped = λ h. one.stopped (omega arith);
    }
