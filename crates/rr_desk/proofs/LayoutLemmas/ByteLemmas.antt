-- Slots that were read.
use Rattle.std.specs.List.{AllByRecursion, flat_map}
use Rattle.std.proofs.Common.{◌≡◌, ℕ, ◌<◌, List, ◌++◌, length, take, replicate, sym, ap, ◌∙◌, arith, length-take-le}
use Rattle.std.proofs.lemmas.List.{drop-replicate, length-replicate}
use Rattle.rr_words.specs.Spelling.Form.{Form, IsTaken}
use Rattle.rr_words.specs.Spelling.Number.{spelled_number}
use Rattle.rr_words.specs.Spelling.OneWay.{counted_one_way}
use Rattle.rr_desk.specs.Layout.Slots.{IsFilled}

-- slots that all had the filler have it behind those that were taken
pub filled_first : {X : Type 0} (filler : X) (capacity taken : ℕ) (new : List X) → IsTaken (replicate capacity filler) taken new → IsFilled filler capacity taken new
filled_first filler capacity taken new read =
    let all : length new ≡ capacity = read.all ∙ length-replicate capacity filler in
    record {
      fits = omega (arith, read.fits, all);
      all = all;
      rest = read.rest ∙ drop-replicate taken capacity filler;
    }

-- a row that stands there is the one that was read, and the rest stands behind it
pub behind_row : {A : Type 0} (f : Form A) (count : ℕ) (old slots values : List A) (bytes mid rest : List ℕ) → length old < 65536 → IsTaken old count slots
    → AllByRecursion f.Fits (take count slots) → length values < 65536 → AllByRecursion f.Fits values
    → bytes ≡ (spelled_number 2 count ++ flat_map f.spelling (take count slots)) ++ mid
    → bytes ≡ (spelled_number 2 (length values) ++ flat_map f.spelling values) ++ rest → mid ≡ rest
behind_row {A = A} f count old slots values bytes mid rest small taken fits few fit read same =
    let front : List A = take count slots in
    let len : length front ≡ count = length-take-le count slots taken.fits in
    let here : bytes ≡ (spelled_number 2 (length front) ++ flat_map f.spelling front) ++ mid = read ∙ ap (λ n. (spelled_number 2 n ++ flat_map f.spelling front) ++ mid) (sym len) in
    (counted_one_way f.spelling f.Fits f.one_way front values mid rest (omega (arith, len, taken.fits, taken.all, small)) (omega (arith, few)) fits fit (sym here ∙ same)).1
