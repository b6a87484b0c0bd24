-- The entries of all turns are the book.
use Rattle.std.proofs.Common.{◌≡◌, ℕ, zero, suc, ◌+◌, ◌-◌, Bool, true, false, List, [], ◌∷◌, ◌++◌, Option, None, Some, length, drop, fold, map, if◌then◌else◌, refl, sym, ap, subst, ◌∙◌, append-nil, append_assoc, arith}
use Rattle.std.specs.List.{range_with_len}
use Rattle.std.proofs.lemmas.List.{flat_map_more}
use Rattle.std.proofs.lemmas.List.FromFn.{map-range_with_len_more}
use Rattle.rr_books.specs.declared.acts.Act.{Act}
use Rattle.rr_books.specs.Book.{Book}
use Rattle.rr_kit.specs.declared.kit.Kit.{Kit}
use Rattle.rr_code.specs.declared.command.Command.{Command}
use Rattle.rr_code.specs.declared.command.Command.TheVariants.{Open}
use Rattle.rr_rules.specs.State.{GameState}
use Rattle.rr_rules.specs.Playing.{entries_after}
use Rattle.rr_turns.specs.Turns.{ended_turns, next_turns}
use Rattle.rr_entries.specs.Words.{joined}
use Rattle.rr_game.specs.Names.{act_of}
use Rattle.rr_game.specs.Play.{begins_with_opening, opened_state, play, played_on, state_with}
use Rattle.rr_game.specs.Turning.{ends_turn}
use Rattle.rr_game.specs.History.Laws.{TurnsMakeTheBook}
use Rattle.rr_game.specs.History.TurnEntries.{book_at, turn_entries}
use Rattle.rr_game.proofs.Playing.{opens}
use Rattle.rr_game.proofs.HistoryLemmas.TurnEntries.{all_turns, drop_front, later_turn}

-- a book that begins with another
abbrev GoesOn : Book → Book → Type 0
GoesOn front whole = (rest : Book) × (whole ≡ front ++ rest)

one_goes_on : (kit : Kit) (state : GameState) (act : Option Act) → GoesOn state.book (state_with kit state act).book
one_goes_on kit state None = ([], sym (append-nil state.book))
one_goes_on kit state (Some act) = (entries_after kit state act, refl)

folds_on : (kit : Kit) (players : List (List ℕ)) (commands : List Command) (state : GameState) → GoesOn state.book (fold (played_on kit players) state commands).book
folds_on kit players [] state = ([], sym (append-nil state.book))
folds_on kit players (c ∷ cs) state =
    let one = one_goes_on kit state (act_of players c) in
    let more = folds_on kit players cs (played_on kit players state c) in
    (one.0 ++ more.0, more.1 ∙ ap (λ (b : Book). b ++ more.0) one.1 ∙ append_assoc state.book one.0 more.0)

-- the commands of one turn more
next_front : (kit : Kit) (players : List (List ℕ)) (before cs : List Command) (k : ℕ) (state : GameState)
    → GoesOn (fold (played_on kit players) state (next_turns (ends_turn kit) before k cs)).book (fold (played_on kit players) state (next_turns (ends_turn kit) before (suc k) cs)).book
next_front kit players before [] k state = ([], sym (append-nil state.book))
next_front kit players before (c ∷ cs) zero state = folds_on kit players (next_turns (ends_turn kit) before 1 (c ∷ cs)) state
next_front kit players before (c ∷ cs) (suc k) state =
    by_end (ends_turn kit before c) (λ j. next_front kit players (before ++ c ∷ []) cs j (played_on kit players state c))
  where
    From : ℕ → List Command
    From j = next_turns (ends_turn kit) (before ++ c ∷ []) j cs

    book_behind : List Command → Book
    book_behind front = (fold (played_on kit players) (played_on kit players state c) front).book

    by_end : (b : Bool) → ((j : ℕ) → GoesOn (book_behind (From j)) (book_behind (From (suc j))))
        → GoesOn (book_behind (From (if b then k else suc k))) (book_behind (From (if b then suc k else suc (suc k))))
    by_end true more = more k
    by_end false more = more (suc k)

turn_goes_on : (kit : Kit) (commands : List Command) (k : ℕ) → begins_with_opening commands ≡ true → GoesOn (book_at kit commands k) (book_at kit commands (suc k))
turn_goes_on kit commands k begun =
    let o = opens commands begun in
    let P : List Command → Type 0 = λ cs. GoesOn (book_at kit cs k) (book_at kit cs (suc k)) in
    subst P (sym o.split) (next_front kit o.players (Open o.players ∷ []) o.others k (opened_state o.players kit.roster))

later : (kit : Kit) (commands : List Command) (k : ℕ) → turn_entries kit commands (suc k) ≡ drop (length (book_at kit commands k)) (book_at kit commands (suc k))
later kit commands k =
    let one : suc k - 1 ≡ k = omega arith in
    later_turn kit commands (suc k) (omega arith)
    ∙ ap (λ (n : ℕ). drop (length (book_at kit commands n)) (book_at kit commands (suc k))) one

-- the turns up to one
so_far : (kit : Kit) (commands : List Command) (k : ℕ) → begins_with_opening commands ≡ true
    → joined (map (turn_entries kit commands) (range_with_len 0 (k + 1))) ≡ book_at kit commands k
so_far kit commands zero begun = append-nil (book_at kit commands 0)
so_far kit commands (suc k) begun =
    let grown = turn_goes_on kit commands k begun in
    let front = book_at kit commands k in
    let added : turn_entries kit commands (suc k) ≡ grown.0 = later kit commands k ∙ ap (drop (length front)) grown.1 ∙ drop_front front grown.0 in
    let here : 0 + (k + 1) ≡ suc k = omega arith in
    let more : suc k + 1 ≡ (k + 1) + 1 = omega arith in
    ap (λ (n : ℕ). joined (map (turn_entries kit commands) (range_with_len 0 n))) more
    ∙ ap joined (map-range_with_len_more (turn_entries kit commands) 0 (k + 1) (suc k) here)
    ∙ sym (flat_map_more (λ (b : Book). b) [] (map (turn_entries kit commands) (range_with_len 0 (k + 1))) (turn_entries kit commands (suc k)))
    ∙ ap (λ (b : Book). b ++ turn_entries kit commands (suc k)) (so_far kit commands k begun)
    ∙ ap (λ (b : Book). front ++ b) added
    ∙ sym grown.1

pub turns_make_the_book : TurnsMakeTheBook
turns_make_the_book kit commands begun =
    let k = ended_turns (ends_turn kit) commands + 1 in
    let two : ended_turns (ends_turn kit) commands + 2 ≡ k + 1 = omega arith in
    ap (λ (n : ℕ). joined (map (turn_entries kit commands) (range_with_len 0 n))) two
    ∙ so_far kit commands k begun
    ∙ ap (λ (cs : List Command). (play kit cs).book) (all_turns (ends_turn kit) commands k (omega arith))
