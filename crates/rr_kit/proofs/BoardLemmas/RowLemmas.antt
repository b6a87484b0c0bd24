-- The board that rows spell, and the first row that is wrong where they spell none.
use Rattle.std.proofs.Common.{◌≡◌, ℕ, ◌+◌, ◌<◌, ◌≤◌, suc, refl, sym, ap, ◌∙◌, subst, List, [], ◌∷◌, ◌++◌, length, map, get_or, take, drop, append-nil, append_assoc, length-append, Option, None, Some, option_and_then, inl, inr, arith}
use Rattle.std.specs.Prelude.{Bool, codes, false, true}
use Rattle.std.specs.List.{AllZip}
use Rattle.std.proofs.Math.Seq.{drop-cons, get_or-append_seam, take-append_seam}
use Rattle.std.proofs.lemmas.Bool.{cases_order}
use Rattle.std.proofs.lemmas.List.{get_or_append_left, map-append, take_all, take-append-drop, take-append-le}
use Rattle.std.proofs.lemmas.List.Sums.{sum_by-cons}
use Rattle.std.proofs.lemmas.Option.{none-some, same_Some}
use Rattle.rr_words.specs.Text.{NumberedWords, row_of, rows_of, IsSmallAscii}
use Rattle.rr_words.specs.declared.text.Row.{Row}
use Rattle.rr_tiles.specs.Each.{added}
use Rattle.rr_tiles.specs.Tile.{centres_of}
use Rattle.rr_tiles.proofs.EachLemmas.{added-cons, added-front_none, added-kept, added-none, added-one}
use Rattle.rr_tiles.proofs.WordCountLemmas.{centres-le-words, words_in_rows, words_in_rows-cons, words_in_rows-text}
use Rattle.rr_kit.specs.Board.Lines.{add_line, plan_of}
use Rattle.rr_kit.specs.Board.Plan.{Plan, bare}
use Rattle.rr_kit.specs.Board.Reading.{IsBadAt, IsFirstWrong, IsRefusal, IsRowsFault, NotSmallAscii, Spells, SpellsRows, WithoutHex, WrongLine}
use Rattle.rr_kit.specs.Board.Sound.{IsBoard, IsWholeBoard, centres_on}
use Rattle.rr_kit.specs.Board.Spelling.{HasItsHexIn, Line, SpellsLine, StandBehindTheirHexes, blocks_in, colour_word, hexes_in, homes_in, place_word}
use Rattle.rr_kit.specs.Board.Spelling.Line.{BlockLine, HexLine, HomeLine}
use Rattle.rr_kit.specs.declared.board.fault.Fault.{Fault}
use Rattle.rr_kit.specs.declared.board.fault.Fault.TheVariants.{BadBoard, OutOfMemory}
use Rattle.rr_kit.proofs.BoardLemmas.AddingLemmas.{add_line-found, add_line-spelled, and_line, plan_for, plan_for-more, plan_is}
use Rattle.rr_kit.proofs.BoardLemmas.BoardLemmas.{IsBoard-bare}

AllZip-more : {A B : Type 0} (R : A → B → Type 0) (xs : List A) (ys : List B) (x : A) (y : B) → AllZip R xs ys → R x y → AllZip R (xs ++ x ∷ []) (ys ++ y ∷ [])
AllZip-more R [] [] x y all one = (one, tt)
AllZip-more R [] (b ∷ ys) x y all one = absurd all
AllZip-more R (a ∷ xs) [] x y all one = absurd all
AllZip-more R (a ∷ xs) (b ∷ ys) x y all one = (all.0, AllZip-more R xs ys x y all.1 one)

-- one line more behind its hex
StandBehind-more : (lines : List Line) (line : Line) → StandBehindTheirHexes lines → HasItsHexIn (hexes_in lines) line → StandBehindTheirHexes (lines ++ line ∷ [])
StandBehind-more lines line behind here k d within =
    elim (cases_order k (length lines)) [
      | inl last ↦ rw (last, take-append_seam lines (line ∷ []), get_or-append_seam lines line [] d) here
      | inr other ↦ elim other [
        | inl before ↦
            let fits : k ≤ length lines = omega arith in
            rw (take-append-le k lines (line ∷ []) fits, get_or_append_left lines (line ∷ []) d k before) (behind k d before)
        | inr past ↦ absurd (omega (arith, within, length-append lines (line ∷ [])))
      ]
    ]

behind_at : (front : List Line) (line : Line) (rest : List Line) → StandBehindTheirHexes (front ++ line ∷ rest) → HasItsHexIn (hexes_in front) line
behind_at front line rest behind =
    let within : length front < length (front ++ line ∷ rest) = omega (arith, length-append front (line ∷ rest)) in
    let here : HasItsHexIn (hexes_in (take (length front) (front ++ line ∷ rest))) (get_or (front ++ line ∷ rest) (length front) line) = behind (length front) line within in
    rw (take-append_seam front (line ∷ rest), get_or-append_seam front line rest line) at here

-- lines, each with its words
record AreRead (words : List (List (List ℕ))) (plan : Plan) : Type 0 where
  lines : List Line
  each : AllZip SpellsLine words lines
  plan_is : plan ≡ plan_for lines
  behind : StandBehindTheirHexes lines
  board : IsBoard plan

AreRead-none : AreRead [] bare
AreRead-none = record { lines = []; each = tt; plan_is = refl; behind = λ k d within. absurd (omega arith); board = IsBoard-bare }

AreRead-next : (plan next : Plan) (words : List (List (List ℕ))) (line : List (List ℕ)) → AreRead words plan → add_line plan line ≡ Some next → AreRead (words ++ line ∷ []) next
AreRead-next plan next words line so_far is =
    let taken = add_line-found plan line next is in
    let behind : HasItsHexIn (hexes_in so_far.lines) taken.line = subst (λ p. HasItsHexIn p.hexes taken.line) so_far.plan_is taken.behind in
    record {
      lines = so_far.lines ++ taken.line ∷ [];
      each = AllZip-more SpellsLine words so_far.lines line taken.line so_far.each taken.spelled;
      plan_is = sym taken.next_is ∙ ap (λ p. and_line p taken.line) so_far.plan_is ∙ sym (plan_for-more so_far.lines taken.line);
      behind = StandBehind-more so_far.lines taken.line so_far.behind behind;
      board = subst IsBoard taken.next_is (taken.keeps_board so_far.board);
    }

plan_of-found : (words : List (List (List ℕ))) (plan : Plan) → plan_of words ≡ Some plan → AreRead words plan
plan_of-found words plan is = added-kept add_line (λ so_far front. AreRead front so_far) bare AreRead-none AreRead-next words plan is

plan_of-again : (front : List Line) (words : List (List (List ℕ))) (rest : List Line) → AllZip SpellsLine words rest → StandBehindTheirHexes (front ++ rest) → IsBoard (plan_for (front ++ rest)) → added add_line (plan_for front) words ≡ Some (plan_for (front ++ rest))
plan_of-again front [] [] each behind board = added-none add_line (plan_for front) ∙ ap (λ lines. Some (plan_for lines)) (sym (append-nil front))
plan_of-again front [] (line ∷ rest) each behind board = absurd each
plan_of-again front (word ∷ words) [] each behind board = absurd each
plan_of-again front (word ∷ words) (line ∷ rest) each behind board =
    let step : add_line (plan_for front) word ≡ Some (plan_for (front ++ line ∷ [])) = add_line-spelled front line rest word board (behind_at front line rest behind) each.0 ∙ ap (λ p. Some p) (sym (plan_for-more front line)) in
    let longer : (front ++ line ∷ []) ++ rest ≡ front ++ line ∷ rest = append_assoc front (line ∷ []) rest in
    added-cons add_line (plan_for front) (plan_for (front ++ line ∷ [])) word words step
    ∙ plan_of-again (front ++ line ∷ []) words rest each.1 (subst StandBehindTheirHexes (sym longer) behind) (subst (λ lines. IsBoard (plan_for lines)) (sym longer) board)
    ∙ ap (λ lines. Some (plan_for lines)) longer

abbrev pub words_in : List NumberedWords → List (List (List ℕ))
words_in rows = map (λ row. row.words) rows

SpellsRows-found : (rows : List NumberedWords) (plan : Plan) → plan_of (words_in rows) ≡ Some plan → SpellsRows rows plan
SpellsRows-found rows plan is =
    let read = plan_of-found (words_in rows) plan is in
    record {
      lines = read.lines;
      each_row = read.each;
      hexes_are = ap (λ p. p.hexes) read.plan_is;
      homes_are = ap (λ p. p.homes) read.plan_is;
      blocks_are = ap (λ p. p.blocks) read.plan_is;
      behind_hexes = read.behind;
      is_board = read.board;
    }

plan_of-rows : (rows : List NumberedWords) (plan : Plan) → SpellsRows rows plan → plan_of (words_in rows) ≡ Some plan
plan_of-rows rows plan spelled =
    let same = plan_is plan spelled.lines spelled.hexes_are spelled.homes_are spelled.blocks_are in
    plan_of-again [] (words_in rows) spelled.lines spelled.each_row spelled.behind_hexes (subst IsBoard same spelled.is_board) ∙ ap (λ p. Some p) (sym same)

pub SpellsRows-once : (rows : List NumberedWords) (plan other : Plan) → SpellsRows rows plan → SpellsRows rows other → other ≡ plan
SpellsRows-once rows plan other first second = same_Some other plan (sym (plan_of-rows rows other second) ∙ plan_of-rows rows plan first)

abbrev pub words_in_row : Row → List (List ℕ)
words_in_row row = (row_of row).words

map-rows : (rows : List Row) → words_in (map row_of rows) ≡ map words_in_row rows
map-rows [] = refl
map-rows (row ∷ rows) = ap (λ rest. words_in_row row ∷ rest) (map-rows rows)

-- the rows are read to the end
pub SpellsRows-read : (rows : List Row) (count : ℕ) (plan : Plan) → length rows ≤ count → plan_of (map words_in_row (take count rows)) ≡ Some plan → SpellsRows (map row_of rows) plan
SpellsRows-read rows count plan all read =
    SpellsRows-found (map row_of rows) plan (ap plan_of (map-rows rows ∙ ap (map words_in_row) (sym (take_all count rows all))) ∙ read)

-- a row that can't be added is the first wrong one
pub IsFirstWrong-at : (rows : List Row) (i : ℕ) (row : Row) (plan : Plan) → i < length rows → plan_of (map words_in_row (take i rows)) ≡ Some plan → None ≡ add_line plan (words_in_row (get_or rows i row)) → IsFirstWrong (map row_of rows) (get_or rows i row).number
IsFirstWrong-at rows i row plan within read none =
    let above = map row_of (take i rows) in
    let here = row_of (get_or rows i row) in
    let so_far : plan_of (words_in above) ≡ Some plan = ap plan_of (map-rows (take i rows)) ∙ read in
    record {
      above = above;
      here = here;
      below = map row_of (drop (suc i) rows);
      plan = plan;
      split = ap (map row_of) (sym (take-append-drop i rows) ∙ ap (λ rest. take i rows ++ rest) (drop-cons rows i row within)) ∙ map-append row_of (take i rows) (get_or rows i row ∷ drop (suc i) rows);
      numbered = refl;
      above_spelled = SpellsRows-found above plan so_far;
      here_wrong = λ other spelled.
          let some : plan_of (words_in (above ++ here ∷ [])) ≡ Some other = plan_of-rows (above ++ here ∷ []) other spelled in
          let refused : plan_of (words_in (above ++ here ∷ [])) ≡ None = ap plan_of (map-append (λ row. row.words) above (here ∷ [])) ∙ added-one add_line bare (words_in above) here.words ∙ ap (option_and_then (λ p. add_line p here.words)) so_far ∙ sym none in
          none-some other (sym refused ∙ some);
    }

-- with a wrong row no board is spelled
refused-front : (rows : List NumberedWords) (number : ℕ) (wrong : IsFirstWrong rows number) (front : Option Plan) → plan_of (words_in (wrong.above ++ wrong.here ∷ [])) ≡ front → plan_of (words_in (wrong.above ++ wrong.here ∷ [])) ≡ None
refused-front rows number wrong None is = is
refused-front rows number wrong (Some other) is = absurd (wrong.here_wrong other (SpellsRows-found (wrong.above ++ wrong.here ∷ []) other is))

no_board-wrong : (rows : List NumberedWords) (number : ℕ) → IsFirstWrong rows number → (plan : Plan) → ¬ SpellsRows rows plan
no_board-wrong rows number wrong plan spelled =
    let front = wrong.above ++ wrong.here ∷ [] in
    let split : rows ≡ front ++ wrong.below = wrong.split ∙ sym (append_assoc wrong.above (wrong.here ∷ []) wrong.below) in
    let refused = refused-front rows number wrong (plan_of (words_in front)) refl in
    let whole : plan_of (words_in rows) ≡ None = ap (λ all. plan_of (words_in all)) split ∙ ap plan_of (map-append (λ row. row.words) front wrong.below) ∙ added-front_none add_line bare (words_in front) (words_in wrong.below) refused in
    none-some plan (sym whole ∙ plan_of-rows rows plan spelled)

pub refused-wrong : (text : List ℕ) (rows : List NumberedWords) (fault : Fault) → IsSmallAscii text → rows ≡ rows_of text → IsRowsFault rows fault → IsRefusal text fault
refused-wrong text rows (BadBoard line) small rows_are wrong =
    let here : IsFirstWrong (rows_of text) line = subst (λ all. IsFirstWrong all line) rows_are wrong in
    (WrongLine line small here, λ plan spelled. no_board-wrong (rows_of text) line here plan spelled.rows_spelled)
refused-wrong text rows OutOfMemory small rows_are wrong = small

pub refused-not_ascii : (text : List ℕ) → ¬ IsSmallAscii text → IsBadAt text 0 × ((plan : Plan) → ¬ Spells text plan)
refused-not_ascii text large = (NotSmallAscii large, λ plan spelled. large spelled.small_ascii)

pub refused-without_hex : (text : List ℕ) (rows : List NumberedWords) (plan : Plan) → IsSmallAscii text → rows ≡ rows_of text → SpellsRows rows plan → length plan.hexes ≡ 0 → IsBadAt text 0 × ((other : Plan) → ¬ Spells text other)
refused-without_hex text rows plan small rows_are read none =
    let spelled : SpellsRows (rows_of text) plan = subst (λ all. SpellsRows all plan) rows_are read in (
      WithoutHex plan small spelled none,
      λ other found.
          let same = ap (λ p. length p.hexes) (SpellsRows-once (rows_of text) plan other spelled found.rows_spelled) in
          absurd (omega (arith, same, none, found.some_hex)),
    )

pub Spells-read : (text : List ℕ) (rows : List NumberedWords) (plan : Plan) → IsSmallAscii text → rows ≡ rows_of text → SpellsRows rows plan → 1 ≤ length plan.hexes → Spells text plan
Spells-read text rows plan small rows_are read some = record { small_ascii = small; rows_spelled = subst (λ all. SpellsRows all plan) rows_are read; some_hex = some }

pub Spells-once : (text : List ℕ) (plan other : Plan) → Spells text plan → Spells text other → other ≡ plan
Spells-once text plan other first second = SpellsRows-once (rows_of text) plan other first.rows_spelled second.rows_spelled

-- a board's text has a word for each centre
centres_on-lines : (rows : List NumberedWords) (lines : List Line) → AllZip SpellsLine (words_in rows) lines → centres_on (hexes_in lines) ≤ words_in_rows rows
centres_on-lines [] [] each = omega arith
centres_on-lines [] (line ∷ lines) each = absurd each
centres_on-lines (row ∷ rows) [] each = absurd each
centres_on-lines (row ∷ rows) (HexLine hex ∷ lines) each =
    let hex_words = each.0 in
    let words : length row.words ≡ length (codes "hex" ∷ hex.name ∷ place_word hex.place ∷ colour_word hex.colour ∷ (hex_words.cost_words ++ hex_words.tile_words)) = ap length hex_words.words_are in
    let sum : centres_on (hex ∷ hexes_in lines) ≡ length (centres_of hex.tile.parts) + centres_on (hexes_in lines) = sum_by-cons (λ h. length (centres_of h.tile.parts)) hex (hexes_in lines) in
    omega (arith, words, sum, length-append hex_words.cost_words hex_words.tile_words, words_in_rows-cons row rows, centres-le-words hex_words.tile_words hex.tile hex_words.tile_spelled, centres_on-lines rows lines each.1)
centres_on-lines (row ∷ rows) (HomeLine home ∷ lines) each = omega (arith, words_in_rows-cons row rows, centres_on-lines rows lines each.1)
centres_on-lines (row ∷ rows) (BlockLine block ∷ lines) each = omega (arith, words_in_rows-cons row rows, centres_on-lines rows lines each.1)

pub IsWholeBoard-spelled : (text : List ℕ) (plan : Plan) → Spells text plan → IsWholeBoard plan
IsWholeBoard-spelled text plan spelled =
    let rows = spelled.rows_spelled in
    let same : centres_on plan.hexes ≡ centres_on (hexes_in rows.lines) = ap centres_on rows.hexes_are in
    record {
      is_board = rows.is_board;
      some_hex = spelled.some_hex;
      few_centres = omega (arith, same, centres_on-lines (rows_of text) rows.lines rows.each_row, words_in_rows-text text, spelled.small_ascii.small);
    }
