-- The rows that are read, one after another.
use Rattle.std.proofs.Common.{◌≡◌, ℕ, ◌+◌, ◌<◌, ◌≤◌, suc, refl, sym, ap, ◌∙◌, subst, List, [], ◌∷◌, ◌++◌, length, map, get_or, take, drop, arith}
use Rattle.std.specs.Prelude.{All, AllPairs}
use Rattle.std.proofs.Math.Seq.{drop-cons}
use Rattle.std.proofs.lemmas.List.{map-append, take_more, take-append-drop}
use Rattle.std.proofs.lemmas.List.Elements.{All-nil}
use Rattle.rr_words.specs.Text.{NumberedWords, row_of}
use Rattle.rr_words.specs.declared.text.Row.{Row as Line}
use Rattle.rr_roster.specs.Chart.Cell.{IsSound, word_of}
use Rattle.rr_roster.specs.Chart.Chart.{Row, HaveDifferentPrices}
use Rattle.rr_roster.specs.Chart.Reading.{words_for, IsRowRead, IsRowFault, AreRowsRead, IsRowsFault}
use Rattle.rr_roster.proofs.ChartLemmas.ParLemmas.{pars_of-empty_row, pars_of-none}
use Rattle.rr_roster.specs.declared.chart.cell.ParCell.{ParCell}
use Rattle.rr_roster.specs.declared.chart.fault.Fault.{Fault}
use Rattle.rr_roster.specs.declared.chart.fault.Fault.TheVariants.{BadChart, OutOfMemory}

no_pairs : (pars : List ParCell) → [] ≡ pars → AllPairs HaveDifferentPrices pars
no_pairs pars none i j d lt within same = omega (arith, ap length none)

pub AreRowsRead-start : AreRowsRead [] [] []
AreRowsRead-start = record {
  spelled = refl;
  front = record {
    rows = omega arith;
    one_more = λ some. omega arith;
    columns = All-nil (λ row. length row ≤ 24);
    row_columns = omega arith;
    sound = All-nil (All IsSound);
    row_sound = All-nil IsSound;
    pars = no_pairs _ (pars_of-none ∙ sym (pars_of-empty_row []));
  };
  noted = pars_of-none;
}

pub AreRowsRead-next : (lines : List NumberedWords) (line : NumberedWords) (now_lines : List NumberedWords) (rows : List Row) (row : Row) (now_rows : List Row) (pars now_pars : List ParCell) → AreRowsRead lines rows pars → IsRowRead rows line row now_pars → now_lines ≡ lines ++ line ∷ [] → now_rows ≡ rows ++ row ∷ [] → AreRowsRead now_lines now_rows now_pars
AreRowsRead-next lines line now_lines rows row now_rows pars now_pars so_far read lines_are rows_are =
    rw (lines_are, rows_are) (record {
      spelled = map-append (λ l. l.words) lines (line ∷ []) ∙ ap (λ f. f ++ line.words ∷ []) so_far.spelled ∙ ap (λ w. words_for rows ++ w ∷ []) read.spelled ∙ sym (map-append (λ r. map word_of r) rows (row ∷ []));
      front = read.front;
      noted = read.noted;
    })

pub lines-more : (lines : List Line) (i : ℕ) (line : Line) → i < length lines → map row_of (take (i + 1) lines) ≡ map row_of (take i lines) ++ row_of (get_or lines i line) ∷ []
lines-more lines i line within =
    ap (map row_of) (take_more lines i line within) ∙ map-append row_of (take i lines) (get_or lines i line ∷ [])

lines-split : (lines : List Line) (i : ℕ) (line : Line) → i < length lines → map row_of lines ≡ map row_of (take i lines) ++ row_of (get_or lines i line) ∷ map row_of (drop (suc i) lines)
lines-split lines i line within =
    ap (map row_of) (sym (take-append-drop i lines) ∙ ap (λ rest. take i lines ++ rest) (drop-cons lines i line within))
    ∙ map-append row_of (take i lines) (get_or lines i line ∷ drop (suc i) lines)

pub IsRowsFault-from : (lines : List Line) (i : ℕ) (line : Line) (rows : List Row) (pars : List ParCell) (fault : Fault) → i < length lines → AreRowsRead (map row_of (take i lines)) rows pars → IsRowFault rows (row_of (get_or lines i line)) fault → IsRowsFault (map row_of lines) fault
IsRowsFault-from lines i line rows pars (BadChart number place) within so_far wrong = record {
  above = map row_of (take i lines);
  here = row_of (get_or lines i line);
  below = map row_of (drop (suc i) lines);
  rows = rows;
  split = lines-split lines i line within;
  numbered = wrong.0;
  above_spelled = so_far.spelled;
  in_line = wrong.1;
}
IsRowsFault-from lines i line rows pars OutOfMemory within so_far wrong = tt

pub IsRowsFault-in : (lines : List Line) (i : ℕ) (line : Line) (above rows : List Row) (pars : List ParCell) (fault : Fault) → i < length lines → line ≡ get_or lines i line → above ≡ rows → AreRowsRead (map row_of (take i lines)) rows pars → IsRowFault above (row_of line) fault → IsRowsFault (map row_of lines) fault
IsRowsFault-in lines i line above rows pars fault within is above_is so_far wrong =
    IsRowsFault-from lines i line rows pars fault within so_far (subst (λ l. IsRowFault rows (row_of l) fault) is (subst (λ a. IsRowFault a (row_of line) fault) above_is wrong))
