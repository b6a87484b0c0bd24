-- The manifest that a text spells, and the first line that is wrong where it spells none.
use Rattle.std.proofs.Common.{◌≡◌, ℕ, ◌<◌, ◌≤◌, suc, refl, sym, ap, ◌∙◌, subst, List, [], ◌∷◌, ◌++◌, length, map, get_or, take, drop, append_assoc, Option, None, Some, option_and_then}
use Rattle.std.proofs.Math.Seq.{drop-cons}
use Rattle.std.proofs.lemmas.List.{map-append, take_all, take-append-drop}
use Rattle.std.proofs.lemmas.Option.{none-some, same_Some}
use Rattle.rr_words.specs.Text.{NumberedWords, row_of, rows_of, IsSmallAscii}
use Rattle.rr_words.specs.declared.text.Row.{Row}
use Rattle.rr_tiles.specs.Manifest.{IsBadAt, IsFirstWrong, IsLinesFault, IsRefusal, NotSmallAscii, Spells, SpellsLines, WrongLine}
use Rattle.rr_tiles.specs.Supply.{add_line, supplies_of}
use Rattle.rr_tiles.specs.declared.fault.Fault.{Fault}
use Rattle.rr_tiles.specs.declared.fault.Fault.TheVariants.{BadManifest, OutOfMemory}
use Rattle.rr_tiles.specs.declared.supply.Supply.{Supply}
use Rattle.rr_tiles.proofs.EachLemmas.{added-front_none, added-one}
use Rattle.rr_tiles.proofs.SupplyLemmas.{supplies_of-found, supplies_of-read}

abbrev pub words_in_row : Row → List (List ℕ)
words_in_row row = (row_of row).words

SpellsLines-found : (lines : List NumberedWords) (supplies : List Supply) → supplies_of (map (λ line. line.words) lines) ≡ Some supplies → SpellsLines lines supplies
SpellsLines-found lines supplies is =
    let read = supplies_of-found (map (λ line. line.words) lines) supplies is in
    record { each_line = read.each_line; is_manifest = read.is_manifest }

supplies_of-lines : (lines : List NumberedWords) (supplies : List Supply) → SpellsLines lines supplies → supplies_of (map (λ line. line.words) lines) ≡ Some supplies
supplies_of-lines lines supplies spelled =
    supplies_of-read (map (λ line. line.words) lines) supplies (record { each_line = spelled.each_line; is_manifest = spelled.is_manifest })

pub Spells-unique : (text : List ℕ) (supplies other : List Supply) → Spells text supplies → Spells text other → other ≡ supplies
Spells-unique text supplies other first second =
    same_Some other supplies (sym (supplies_of-lines (rows_of text) other second.lines_spelled) ∙ supplies_of-lines (rows_of text) supplies first.lines_spelled)

map-rows : (rows : List Row) → map (λ line. line.words) (map row_of rows) ≡ map words_in_row rows
map-rows [] = refl
map-rows (row ∷ rows) = ap (λ rest. words_in_row row ∷ rest) (map-rows rows)

-- the lines are read to the end
pub SpellsLines-read : (rows : List Row) (count : ℕ) (supplies : List Supply) → length rows ≤ count → supplies_of (map words_in_row (take count rows)) ≡ Some supplies → SpellsLines (map row_of rows) supplies
SpellsLines-read rows count supplies all read =
    SpellsLines-found (map row_of rows) supplies (ap supplies_of (map-rows rows ∙ ap (map words_in_row) (sym (take_all count rows all))) ∙ read)

-- a line that can't be added is the first wrong one
pub IsFirstWrong-at : (rows : List Row) (i : ℕ) (row : Row) (supplies : List Supply) → i < length rows → supplies_of (map words_in_row (take i rows)) ≡ Some supplies → None ≡ add_line supplies (words_in_row (get_or rows i row)) → IsFirstWrong (map row_of rows) (get_or rows i row).number
IsFirstWrong-at rows i row supplies within read none =
    let above = map row_of (take i rows) in
    let here = row_of (get_or rows i row) in
    let so_far : supplies_of (map (λ line. line.words) above) ≡ Some supplies = ap supplies_of (map-rows (take i rows)) ∙ read in
    record {
      above = above;
      here = here;
      below = map row_of (drop (suc i) rows);
      supplies = supplies;
      split = ap (map row_of) (sym (take-append-drop i rows) ∙ ap (λ rest. take i rows ++ rest) (drop-cons rows i row within)) ∙ map-append row_of (take i rows) (get_or rows i row ∷ drop (suc i) rows);
      numbered = refl;
      above_spelled = SpellsLines-found above supplies so_far;
      here_wrong = λ others spelled.
          let some : supplies_of (map (λ line. line.words) (above ++ here ∷ [])) ≡ Some others = supplies_of-lines (above ++ here ∷ []) others spelled in
          let refused : supplies_of (map (λ line. line.words) (above ++ here ∷ [])) ≡ None = ap supplies_of (map-append (λ line. line.words) above (here ∷ [])) ∙ added-one add_line [] (map (λ line. line.words) above) here.words ∙ ap (option_and_then (λ y. add_line y here.words)) so_far ∙ sym none in
          none-some others (sym refused ∙ some);
    }

-- with a wrong line no manifest is spelled
refused-front : (lines : List NumberedWords) (number : ℕ) (wrong : IsFirstWrong lines number) (front : Option (List Supply)) → supplies_of (map (λ line. line.words) (wrong.above ++ wrong.here ∷ [])) ≡ front → supplies_of (map (λ line. line.words) (wrong.above ++ wrong.here ∷ [])) ≡ None
refused-front lines number wrong None is = is
refused-front lines number wrong (Some others) is = absurd (wrong.here_wrong others (SpellsLines-found (wrong.above ++ wrong.here ∷ []) others is))

no_manifest-wrong : (lines : List NumberedWords) (number : ℕ) → IsFirstWrong lines number → (supplies : List Supply) → ¬ SpellsLines lines supplies
no_manifest-wrong lines number wrong supplies spelled =
    let front = wrong.above ++ wrong.here ∷ [] in
    let split : lines ≡ front ++ wrong.below = wrong.split ∙ sym (append_assoc wrong.above (wrong.here ∷ []) wrong.below) in
    let refused = refused-front lines number wrong (supplies_of (map (λ line. line.words) front)) refl in
    let whole : supplies_of (map (λ line. line.words) lines) ≡ None = ap (λ all. supplies_of (map (λ line. line.words) all)) split ∙ ap supplies_of (map-append (λ line. line.words) front wrong.below) ∙ added-front_none add_line [] (map (λ line. line.words) front) (map (λ line. line.words) wrong.below) refused in
    none-some supplies (sym whole ∙ supplies_of-lines lines supplies spelled)

pub refused-wrong : (text : List ℕ) (lines : List NumberedWords) (fault : Fault) → IsSmallAscii text → lines ≡ rows_of text → IsLinesFault lines fault → IsRefusal text fault
refused-wrong text lines (BadManifest line) small lines_are wrong =
    let here : IsFirstWrong (rows_of text) line = subst (λ all. IsFirstWrong all line) lines_are wrong in
    (WrongLine line small here, λ supplies spelled. no_manifest-wrong (rows_of text) line here supplies spelled.lines_spelled)
refused-wrong text lines OutOfMemory small lines_are wrong = small

pub refused-not_ascii : (text : List ℕ) → ¬ IsSmallAscii text → IsBadAt text 0 × ((supplies : List Supply) → ¬ Spells text supplies)
refused-not_ascii text large = (NotSmallAscii large, λ supplies spelled. large spelled.small_ascii)

pub Spells-read : (text : List ℕ) (lines : List NumberedWords) (supplies : List Supply) → IsSmallAscii text → lines ≡ rows_of text → SpellsLines lines supplies → Spells text supplies
Spells-read text lines supplies small lines_are read = record { small_ascii = small; lines_spelled = subst (λ all. SpellsLines all supplies) lines_are read }
