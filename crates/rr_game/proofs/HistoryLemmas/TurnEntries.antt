-- The commands of a turn, and the entries that they added.
use Rattle.std.proofs.Common.{◌≡◌, ℕ, zero, suc, ◌+◌, ◌-◌, ◌<◌, ◌≤◌, ◌==◌, Bool, true, false, List, [], ◌∷◌, ◌++◌, Option, None, Some, length, take, drop, get_or, if◌then◌else◌, refl, sym, ap, subst, ◌∙◌, inl, inr, ne_eqb, Result, Ok, Err, IfOk, MatchResult, arith}
use Rattle.std.specs.Prelude.{IsOkUnless, slice_get}
use Rattle.std.proofs.lemmas.List.{flat_map_more, length-take-le, take_all}
use Rattle.std.proofs.lemmas.Option.{none-some, slice_get-get_or}
use Rattle.std.proofs.lemmas.Bool.{cases_lt}
use Rattle.rr_auction.specs.Opening.{opened}
use Rattle.rr_books.specs.Book.{Book}
use Rattle.rr_kit.specs.declared.kit.Kit.{Kit}
use Rattle.rr_code.specs.declared.command.Command.{Command}
use Rattle.rr_code.specs.declared.command.Command.TheVariants.{Open}
use Rattle.rr_turns.specs.Judgement.{MayFind, settled}
use Rattle.rr_turns.specs.Kept.{Kept}
use Rattle.rr_turns.specs.Turns.{ended_turns, first_turns, next_turns, turns_in}
use Rattle.rr_turns.proofs.TurnLemmas.{none_next}
use Rattle.rr_entries.specs.Words.{joined}
use Rattle.rr_game.specs.declared.game.Game.{Game}
use Rattle.rr_game.specs.declared.history.fault.Fault.{Fault}
use Rattle.rr_game.specs.declared.history.fault.Fault.TheVariants as F
use Rattle.rr_game.specs.Keeping.{IsGameOf}
use Rattle.rr_game.specs.Play.{begins_with_opening, entries_of_command, play, players_of}
use Rattle.rr_game.specs.Turning.{ends_turn}
use Rattle.rr_game.specs.History.TurnEntries.{book_at, book_verdict, is_readable_turn, turn_entries}
use Rattle.rr_game.proofs.Playing.{book_more, opens}
use Rattle.rr_game.proofs.TurnEnds.{turns_told}

-- the first n turns have no more commands than the first n + 1
next_grow : {C : Type 0} (ends : List C → C → Bool) (before cs : List C) (k : ℕ)
    → length (next_turns ends before k cs) ≤ length (next_turns ends before (suc k) cs)
next_grow ends before [] k = omega arith
next_grow ends before (c ∷ cs) zero = omega arith
next_grow {C} ends before (c ∷ cs) (suc k) = by_end (ends before c) (λ j. next_grow ends (before ++ c ∷ []) cs j)
  where
    by_end : (b : Bool) → ((j : ℕ) → length (next_turns ends (before ++ c ∷ []) j cs) ≤ length (next_turns ends (before ++ c ∷ []) (suc j) cs))
        → length (c ∷ next_turns ends (before ++ c ∷ []) (if b then k else suc k) cs)
        ≤ length (c ∷ next_turns ends (before ++ c ∷ []) (if b then suc k else suc (suc k)) cs)
    by_end true more = let here = more k in omega (arith, here)
    by_end false more = let here = more (suc k) in omega (arith, here)

turns_grow : {C : Type 0} (ends : List C → C → Bool) (commands : List C) (k : ℕ)
    → length (first_turns ends k commands) ≤ length (first_turns ends (suc k) commands)
turns_grow ends [] k = omega arith
turns_grow ends (opening ∷ others) k = let more = next_grow ends (opening ∷ []) others k in omega (arith, more)

-- with more turns than have ended they are all commands
next_all : {C : Type 0} (ends : List C → C → Bool) (before cs : List C) (k : ℕ) → turns_in ends before cs < k → next_turns ends before k cs ≡ cs
next_all ends before [] k past = refl
next_all ends before (c ∷ cs) zero past = absurd (omega (arith, past))
next_all {C} ends before (c ∷ cs) (suc k) past = by_end (ends before c) past (λ j. next_all ends (before ++ c ∷ []) cs j)
  where
    by_end : (b : Bool) → (if b then 1 else 0) + turns_in ends (before ++ c ∷ []) cs < suc k
        → ((j : ℕ) → turns_in ends (before ++ c ∷ []) cs < j → next_turns ends (before ++ c ∷ []) j cs ≡ cs)
        → c ∷ next_turns ends (before ++ c ∷ []) (if b then k else suc k) cs ≡ c ∷ cs
    by_end true less more = ap (λ l. c ∷ l) (more k (omega (arith, less)))
    by_end false less more = ap (λ l. c ∷ l) (more (suc k) (omega (arith, less)))

pub all_turns : {C : Type 0} (ends : List C → C → Bool) (commands : List C) (k : ℕ) → ended_turns ends commands < k → first_turns ends k commands ≡ commands
all_turns ends [] k past = refl
all_turns ends (opening ∷ others) k past = ap (λ l. opening ∷ l) (next_all ends (opening ∷ []) others k past)

-- up to a turn that hasn't ended, all commands are played
pub unended_front : (kit : Kit) (commands : List Command) (game : Game) (k count : ℕ) → IsGameOf kit commands game → slice_get game.ends k ≡ None
    → count ≡ length commands → first_turns (ends_turn kit) k commands ≡ take count commands
unended_front kit commands game k count stands none all =
    let told = turns_told kit commands game stands in
    let past = past_end game.ends k none in
    all_turns (ends_turn kit) commands k (omega (arith, told, past)) ∙ sym (take_all count commands (omega (arith, all)))
  where
    past_end : (counts : List ℕ) (i : ℕ) → slice_get counts i ≡ None → length counts ≤ i
    past_end counts i past =
        elim (cases_lt i (length counts)) [ inl short ↦ absurd (none-some (get_or counts i 0) (sym past ∙ slice_get-get_or counts i 0 short)) | inr long ↦ long ]

-- a turn begins with no more commands than it ends with
pub turn_order : (kit : Kit) (commands : List Command) (k begin end : ℕ) → 1 ≤ k
    → first_turns (ends_turn kit) (k - 1) commands ≡ take begin commands → first_turns (ends_turn kit) k commands ≡ take end commands
    → begin ≤ length commands → end ≤ length commands → begin ≤ end
turn_order kit commands zero begin end some before behind first last = absurd (omega (arith, some))
turn_order kit commands (suc k) begin end some before behind first last =
    let one : suc k - 1 ≡ k = omega arith in
    let grow = turns_grow (ends_turn kit) commands k in
    let low : length (first_turns (ends_turn kit) k commands) ≡ begin =
    ap (λ (n : ℕ). length (first_turns (ends_turn kit) n commands)) (sym one) ∙ ap length before ∙ length-take-le begin commands first in
    let high : length (first_turns (ends_turn kit) (suc k) commands) ≡ end = ap length behind ∙ length-take-le end commands last in
    omega (arith, grow, low, high)

-- a list without its front
pub drop_front : (front rest : Book) → drop (length front) (front ++ rest) ≡ rest
drop_front [] rest = refl
drop_front (e ∷ es) rest = drop_front es rest

-- the entries that the commands of a turn added
pub later_turn : (kit : Kit) (commands : List Command) (k : ℕ) → 1 ≤ k
    → turn_entries kit commands k ≡ drop (length (book_at kit commands (k - 1))) (book_at kit commands k)
later_turn kit commands k some =
    let other : (k == 0) ≡ false = ne_eqb k 0 (λ none. omega (arith, some, none)) in
    ap (λ (b : Bool). if b then book_at kit commands 0 else drop (length (book_at kit commands (k - 1))) (book_at kit commands k)) other

pub entries_of_turn : (kit : Kit) (commands : List Command) (k begin end : ℕ) (es : Book) → 1 ≤ k
    → first_turns (ends_turn kit) (k - 1) commands ≡ take begin commands → first_turns (ends_turn kit) k commands ≡ take end commands
    → (play kit (take begin commands)).book ++ es ≡ (play kit (take end commands)).book
    → es ≡ turn_entries kit commands k
entries_of_turn kit commands k begin end es some before behind whole =
    let front = (play kit (take begin commands)).book in
    sym (drop_front front es)
    ∙ ap (drop (length front)) whole
    ∙ ap (λ (cs : List Command). drop (length front) (play kit cs).book) (sym behind)
    ∙ ap (λ (cs : List Command). drop (length (play kit cs).book) (book_at kit commands k)) (sym before)
    ∙ sym (later_turn kit commands k some)

-- the entries of turn 0
pub entries_of_opening : (kit : Kit) (commands : List Command) (players : List (List ℕ)) (es : Book) (k : ℕ) → k ≡ 0 → begins_with_opening commands ≡ true
    → players ≡ players_of commands → es ≡ opened players kit.roster → es ≡ turn_entries kit commands k
entries_of_opening kit commands players es k none begun seated is =
    let o = opens commands begun in
    let P : List Command → Type 0 = λ cs. opened (players_of cs) kit.roster ≡ book_at kit cs 0 in
    let first : P (Open o.players ∷ o.others) =
    ap (λ (cs : List Command). (play kit (Open o.players ∷ cs)).book) (sym (none_next (ends_turn kit) (Open o.players ∷ []) o.others)) in
    is ∙ ap (λ (ps : List (List ℕ)). opened ps kit.roster) seated ∙ subst P (sym o.split) first ∙ ap (turn_entries kit commands) (sym none)

-- one command more
pub one_command_more : (kit : Kit) (front : List Command) (c : Command) (before : Book) (all : List Book) (es : Book) (next : List Command) → begins_with_opening front ≡ true
    → before ++ joined all ≡ (play kit front).book → es ≡ entries_of_command kit front c → next ≡ front ++ c ∷ []
    → before ++ joined (all ++ es ∷ []) ≡ (play kit next).book
one_command_more kit front c before all es next begun so_far is more =
    sym (flat_map_more (λ (b : Book). b) before all es)
    ∙ ap (λ (b : Book). b ++ es) so_far
    ∙ ap (λ (b : Book). (play kit front).book ++ b) is
    ∙ sym (book_more kit front c begun)
    ∙ ap (λ (cs : List Command). (play kit cs).book) (sym more)

-- a turn whose entries can't be read is refused
refused_if : (b : Bool) (fault : Fault) → b ≡ false → fault ≡ F.TurnNotKept → MayFind (settled (if b then None else Some F.TurnNotKept)) F.OutOfMemory fault
refused_if true fault none is = absurd cc
refused_if false fault none is = inl (ap Some is)

pub not_readable : (kit : Kit) (table : Kept Command) (k : ℕ) (fault : Fault) (b : Bool) → b ≡ is_readable_turn kit table k → b ≡ false → fault ≡ F.TurnNotKept
    → MayFind (settled (book_verdict kit table k)) F.OutOfMemory fault
not_readable kit table k fault b same none is = refused_if (is_readable_turn kit table k) fault (sym same ∙ none) is

none_if : (b : Bool) → b ≡ true → ◌≡◌ {A = Option Fault} (if b then None else Some F.TurnNotKept) None
none_if true is = refl
none_if false is = absurd cc

pub no_verdict : (kit : Kit) (table : Kept Command) (k : ℕ) (b : Bool) → b ≡ is_readable_turn kit table k → b ≡ true → book_verdict kit table k ≡ None
no_verdict kit table k b same is = none_if (is_readable_turn kit table k) (sym same ∙ is)

-- a result whose only error is that memory ran out
pub by_result : {A : Type 0} (r : Result A Fault) (P : A → Type 0) (Q : Fault → Type 0) → IfOk r P → IsOkUnless r F.OutOfMemory
    → ((fault : Fault) → fault ≡ F.OutOfMemory → Q fault) → MatchResult r P Q
by_result (Ok x) P Q ok memory wants = ok
by_result (Err fault) P Q ok memory wants = wants fault memory
