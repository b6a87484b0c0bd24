-- The words of commands in one buffer: what its bytes and ends say of them, and how they follow a change.
use Rattle.std.specs.Prelude.{◌≡◌, ℕ, zero, suc, ◌+◌, ◌-◌, ◌*◌, ◌^◌, ◌<◌, ◌≤◌, List, [], ◌∷◌, ◌++◌, All, None, Some, get_or, length, take, drop, slice_get, slice_index, slice_index_or, slice_range, refl}
use Rattle.std.specs.Int.{bytes_high_first}
use Rattle.std.specs.List.{flat_map}
use Rattle.std.proofs.Common.{sym, ◌∙◌, ap, subst, append_assoc, append-nil, arith, length-append, zero-add}
use Rattle.std.proofs.lemmas.List.{drop_at, drop_more, take_at, take_more, length_push, length-take-le, take-append-drop}
use Rattle.std.proofs.lemmas.List.Concat.{flat_map-append}
use Rattle.std.proofs.lemmas.List.Elements.{All-head, All-push, All-tail, All-take}
use Rattle.std.proofs.lemmas.Option.{get_or_from_slice_get, slice_get_within}
use Rattle.rr_words.specs.Spelling.Number.{spelled_number}
use Rattle.rr_words.proofs.SpellingLemmas.NumberLemmas.{length-spelled_number}
use Rattle.rr_turns.specs.declared.limits.TheConstants.{LONGEST_COMMAND, MOST_COMMANDS}
use Rattle.rr_turns.specs.Words.{AreOf, IsShort, ends_behind, spelled_command, spelled_commands, words_ending}

pub length-spelled_command : (words : List ℕ) → length (spelled_command words) ≡ 2 + length words
length-spelled_command words =
    length-append (spelled_number 2 (length words)) words
    ∙ ap (λ (n : ℕ). n + length words) (length-spelled_number 2 (length words))

-- A command's words as the standard library spells a number, and how short they are in bits.
pub spelled_commands-is : (commands : List (List ℕ)) → spelled_commands commands ≡ flat_map (λ words. bytes_high_first 2 (length words) ++ words) commands
unfolding spelled_number
spelled_commands-is commands = refl

pub short-is : (commands : List (List ℕ)) → All IsShort commands → All (λ words. length words < 2 ^ 16) commands
short-is commands short = λ k d within. let here : length (slice_index_or commands k d) ≤ LONGEST_COMMAND = short k d within in omega (arith, here)

-- the bytes of one command more, and of those behind a first one
pub spelled_commands-push : (commands : List (List ℕ)) (words : List ℕ) → spelled_commands (commands ++ words ∷ []) ≡ spelled_commands commands ++ spelled_command words
spelled_commands-push [] words = append-nil (spelled_command words)
spelled_commands-push (first ∷ others) words =
    ap (λ (bytes : List ℕ). spelled_command first ++ bytes) (spelled_commands-push others words)
    ∙ sym (append_assoc (spelled_command first) (spelled_commands others) (spelled_command words))

-- no more bytes than so many commands can have
pub spelled_commands-bounded : (commands : List (List ℕ)) → All IsShort commands → length (spelled_commands commands) ≤ 65537 * length commands
spelled_commands-bounded [] short = omega arith
spelled_commands-bounded (words ∷ others) short =
    let here : length words ≤ LONGEST_COMMAND = All-head IsShort words others short in
    omega (
      arith,
      here,
      length-append (spelled_command words) (spelled_commands others),
      length-spelled_command words,
      spelled_commands-bounded others (All-tail IsShort words others short),
    )

-- the ends of words
pub length-ends_behind : (before : ℕ) (commands : List (List ℕ)) → length (ends_behind before commands) ≡ length commands
length-ends_behind before [] = refl
length-ends_behind before (words ∷ others) = ap suc (length-ends_behind (before + 2 + length words) others)

pub ends_behind-push : (before : ℕ) (commands : List (List ℕ)) (words : List ℕ)
    → ends_behind before (commands ++ words ∷ []) ≡ ends_behind before commands ++ (before + length (spelled_commands commands) + 2 + length words) ∷ []
ends_behind-push before [] words =
    ap (λ (end : ℕ). end ∷ []) (let e : before + 2 + length words ≡ before + 0 + 2 + length words = omega arith in e)
ends_behind-push before (first ∷ others) words =
    let end = before + 2 + length first in
    let same : end + length (spelled_commands others) + 2 + length words ≡ before + length (spelled_command first ++ spelled_commands others) + 2 + length words =
    omega (arith, length-append (spelled_command first) (spelled_commands others), length-spelled_command first)
    in
    ap (λ (ends : List ℕ). end ∷ ends) (ends_behind-push end others words ∙ ap (λ (last : ℕ). ends_behind end others ++ last ∷ []) same)

pub ends_behind-take : (before count : ℕ) (commands : List (List ℕ)) → ends_behind before (take count commands) ≡ take count (ends_behind before commands)
ends_behind-take before zero commands = refl
ends_behind-take before (suc count) [] = refl
ends_behind-take before (suc count) (words ∷ others) =
    ap (λ (ends : List ℕ). (before + 2 + length words) ∷ ends) (ends_behind-take (before + 2 + length words) count others)

-- an end is how many bytes there are up to it
pub ends_behind-at : (before count : ℕ) (commands : List (List ℕ)) → count ≤ length commands
    → slice_index (before ∷ ends_behind before commands) count ≡ before + length (spelled_commands (take count commands))
ends_behind-at before zero commands within = omega arith
ends_behind-at before (suc count) [] within = absurd (omega (arith, within))
ends_behind-at before (suc count) (words ∷ others) within =
    let front = take count others in
    omega (arith, ends_behind-at (before + 2 + length words) count others (omega (arith, within)), length-append (spelled_command words) (spelled_commands front), length-spelled_command words)

pub ends_behind-next : (before index : ℕ) (commands : List (List ℕ)) → index < length commands
    → slice_index (ends_behind before commands) index ≡ before + length (spelled_commands (take (index + 1) commands))
ends_behind-next before index commands within =
    ap (λ (k : ℕ). slice_index (before ∷ ends_behind before commands) k) (let e : suc index ≡ index + 1 = omega arith in e)
    ∙ ends_behind-at before (index + 1) commands (omega (arith, within))

-- what is read at the ends of words are the words
words_ending-spelled : (bytes front : List ℕ) (before : ℕ) (commands : List (List ℕ)) → before ≡ length front → bytes ≡ front ++ spelled_commands commands
    → words_ending bytes before (ends_behind before commands) ≡ commands
words_ending-spelled bytes front before [] at is = refl
words_ending-spelled bytes front before (words ∷ others) at is =
    let count = spelled_number 2 (length words) in
    let rest = spelled_commands others in
    let end = before + 2 + length words in
    let apart : bytes ≡ (front ++ count) ++ (words ++ rest) =
    is ∙ ap (λ (xs : List ℕ). front ++ xs) (append_assoc count words rest) ∙ sym (append_assoc front count (words ++ rest))
    in
    let start : length (front ++ count) ≡ before + 2 = omega (arith, at, length-append front count, length-spelled_number 2 (length words)) in
    let long : length words ≡ end - (before + 2) = omega arith in
    let here : slice_range bytes (before + 2) end ≡ words =
    ap (λ (xs : List ℕ). take (end - (before + 2)) (drop (before + 2) xs)) apart
    ∙ ap (λ (xs : List ℕ). take (end - (before + 2)) xs) (drop_at (front ++ count) (words ++ rest) (before + 2) start)
    ∙ take_at words rest (end - (before + 2)) long
    in
    let next : words_ending bytes end (ends_behind end others) ≡ others =
    words_ending-spelled bytes (front ++ spelled_command words) end others (omega (arith, at, length-append front (spelled_command words), length-spelled_command words))
    (is ∙ sym (append_assoc front (spelled_command words) rest))
    in
    ap (λ (first : List ℕ). first ∷ words_ending bytes end (ends_behind end others)) here ∙ ap (λ (xs : List (List ℕ)). words ∷ xs) next

pub words_ending-are : (bytes ends : List ℕ) (commands : List (List ℕ)) → AreOf bytes ends commands → words_ending bytes 0 ends ≡ commands
words_ending-are bytes ends commands held =
    ap (words_ending bytes 0) held.ended ∙ words_ending-spelled bytes [] 0 commands refl held.spelled

-- so those words are what the bytes and the ends are of
pub are_of : (bytes ends : List ℕ) (commands : List (List ℕ)) → AreOf bytes ends commands → AreOf bytes ends (words_ending bytes 0 ends)
are_of bytes ends commands held = subst (AreOf bytes ends) (sym (words_ending-are bytes ends commands held)) held

pub length-words_ending : (bytes ends : List ℕ) (before : ℕ) → length (words_ending bytes before ends) ≡ length ends
length-words_ending bytes [] before = refl
length-words_ending bytes (end ∷ ends) before = ap suc (length-words_ending bytes ends end)

pub words_ending-at : (bytes ends : List ℕ) (before index : ℕ) → index < length ends
    → slice_get (words_ending bytes before ends) index ≡ Some (slice_range bytes (slice_index (before ∷ ends) index + 2) (slice_index ends index))
words_ending-at bytes [] before index within = absurd (omega (arith, within))
words_ending-at bytes (end ∷ ends) before zero within = refl
words_ending-at bytes (end ∷ ends) before (suc index) within = words_ending-at bytes ends end index (omega (arith, within))

-- the words at a place begin behind their count, and end within the bytes
pub record IsPart (bytes ends : List ℕ) (index : ℕ) : Type 0 where
  pub start : slice_index (0 ∷ ends) index + 2 ≤ slice_index ends index
  pub end : slice_index ends index ≤ length bytes

pub is_part : (bytes ends : List ℕ) (commands : List (List ℕ)) (index : ℕ) → AreOf bytes ends commands → index < length ends → IsPart bytes ends index
is_part bytes ends commands index held within =
    let all : length ends ≡ length commands = ap length held.ended ∙ length-ends_behind 0 commands in
    let before = spelled_commands (take index commands) in
    let through = spelled_commands (take (index + 1) commands) in
    let rest = spelled_commands (drop (index + 1) commands) in
    let here = get_or commands index [] in
    let at : slice_index (0 ∷ ends) index ≡ length before =
    ap (λ (es : List ℕ). slice_index (0 ∷ es) index) held.ended ∙ ends_behind-at 0 index commands (omega (arith, within, all)) ∙ zero-add (length before)
    in
    let at_end : slice_index ends index ≡ length through =
    ap (λ (es : List ℕ). slice_index es index) held.ended ∙ ends_behind-next 0 index commands (omega (arith, within, all)) ∙ zero-add (length through)
    in
    let more : length through ≡ length before + (2 + length here) =
    ap length (ap spelled_commands (take_more commands index [] (omega (arith, within, all))) ∙ spelled_commands-push (take index commands) here)
    ∙ length-append before (spelled_command here)
    ∙ ap (λ (n : ℕ). length before + n) (length-spelled_command here)
    in
    let apart : length bytes ≡ length through + length rest =
    ap length (held.spelled ∙ ap spelled_commands (sym (take-append-drop (index + 1) commands)) ∙ flat_map-append spelled_command (take (index + 1) commands) (drop (index + 1) commands))
    ∙ length-append through rest
    in
    record {
      start = omega (arith, at, at_end, more);
      end = omega (arith, at_end, apart);
    }

-- one command more
pub pushed : (bytes ends : List ℕ) (commands : List (List ℕ)) (words : List ℕ) → AreOf bytes ends commands → length commands < MOST_COMMANDS → IsShort words
    → AreOf (bytes ++ spelled_command words) (ends ++ (length bytes + 2 + length words) ∷ []) (commands ++ words ∷ [])
pushed bytes ends commands words held few short = record {
  short = All-push IsShort commands words held.short short;
  few = omega (arith, few, length_push commands words);
  spelled = ap (λ (front : List ℕ). front ++ spelled_command words) held.spelled ∙ sym (spelled_commands-push commands words);
  ended =
      ap (λ (front : List ℕ). front ++ (length bytes + 2 + length words) ∷ []) held.ended
      ∙ ap (λ (front : List ℕ). ends_behind 0 commands ++ (length front + 2 + length words) ∷ []) held.spelled
      ∙ ap (λ (end : ℕ). ends_behind 0 commands ++ (end + 2 + length words) ∷ []) (let e : length (spelled_commands commands) ≡ 0 + length (spelled_commands commands) = omega arith in e)
      ∙ sym (ends_behind-push 0 commands words);
}

-- the same, as the bytes and the end are put behind the others
pub pushed_so : (bytes ends : List ℕ) (commands : List (List ℕ)) (words count new_bytes new_ends : List ℕ) (end : ℕ) → AreOf bytes ends commands
    → length commands < MOST_COMMANDS → IsShort words → count ≡ spelled_number 2 (length words) → new_bytes ≡ (bytes ++ count) ++ words
    → end ≡ length new_bytes → new_ends ≡ ends ++ end ∷ [] → AreOf new_bytes new_ends (commands ++ words ∷ [])
pushed_so bytes ends commands words count new_bytes new_ends end held few short counted bytes_are at ends_are =
    let behind : new_bytes ≡ bytes ++ spelled_command words =
    bytes_are ∙ append_assoc bytes count words ∙ ap (λ (front : List ℕ). bytes ++ (front ++ words)) counted
    in
    let long : end ≡ length bytes + 2 + length words =
    omega (arith, at, ap length behind, length-append bytes (spelled_command words), length-spelled_command words)
    in
    let ended : new_ends ≡ ends ++ (length bytes + 2 + length words) ∷ [] = ends_are ∙ ap (λ (e : ℕ). ends ++ e ∷ []) long in
    subst (λ (xs : List ℕ). AreOf xs new_ends (commands ++ words ∷ [])) (sym behind)
    (subst (λ (es : List ℕ). AreOf (bytes ++ spelled_command words) es (commands ++ words ∷ [])) (sym ended) (pushed bytes ends commands words held few short))

-- the first so many
pub truncated : (bytes ends : List ℕ) (commands : List (List ℕ)) (count : ℕ) → AreOf bytes ends commands → count ≤ length commands
    → AreOf (take (slice_index (0 ∷ ends) count) bytes) (take count ends) (take count commands)
truncated bytes ends commands count held within =
    let front = spelled_commands (take count commands) in
    let rest = spelled_commands (drop count commands) in
    let at : slice_index (0 ∷ ends) count ≡ length front =
    ap (λ (es : List ℕ). slice_index (0 ∷ es) count) held.ended ∙ ends_behind-at 0 count commands within ∙ (let e : 0 + length front ≡ length front = omega arith in e)
    in
    let apart : bytes ≡ front ++ rest =
    held.spelled ∙ ap spelled_commands (sym (take-append-drop count commands)) ∙ flat_map-append spelled_command (take count commands) (drop count commands)
    in
    record {
      short = All-take IsShort count commands held.short;
      few = omega (arith, held.few, length-take-le count commands within, within);
      spelled =
          ap (λ (n : ℕ). take n bytes) at ∙ ap (λ (xs : List ℕ). take (length front) xs) apart ∙ take_at front rest (length front) refl;
      ended = ap (λ (es : List ℕ). take count es) held.ended ∙ sym (ends_behind-take 0 count commands);
    }

-- what is left behind a place, by what stands there
pub drop_none : (commands : List (List ℕ)) (place : ℕ) → None ≡ slice_get commands place → drop place commands ≡ []
drop_none [] zero none = refl
drop_none [] (suc place) none = refl
drop_none (words ∷ others) zero none = absurd cc
drop_none (words ∷ others) (suc place) none = drop_none others place none

pub drop_some : (commands : List (List ℕ)) (place : ℕ) (words : List ℕ) → Some words ≡ slice_get commands place → drop place commands ≡ words ∷ drop (place + 1) commands
drop_some commands place words here =
    drop_more commands place words (slice_get_within commands place words (sym here))
    ∙ ap (λ (first : List ℕ). first ∷ drop (place + 1) commands) (get_or_from_slice_get commands place words words (sym here))
