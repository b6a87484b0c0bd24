-- The bytes of kept commands tell the commands.
use Rattle.std.proofs.Common.{◌≡◌, ℕ, zero, suc, ◌≤◌, List, [], ◌∷◌, ◌++◌, length, take, drop, refl, sym, ap, ◌∙◌, arith, length-append, append_assoc}
use Rattle.std.specs.List.{flat_map, All}
use Rattle.std.proofs.lemmas.List.{append-nil, take_at, drop_at}
use Rattle.std.proofs.lemmas.List.Elements.{All-head, All-tail}
use Rattle.byteorder.specs.Endian.{big_number}
use Rattle.rr_words.specs.Spelling.Number.{spelled_number}
use Rattle.rr_reading.specs.Dir.Kept.{IsShort, SpellsKept, first_commands, spelled_command}
use Rattle.rr_words.proofs.SpellingLemmas.NumberLemmas.{length-spelled_number}
use Rattle.rr_reading.proofs.DirLemmas.NumberLemmas.{big_number-spelled, cut_number}
use Rattle.rr_reading.proofs.DirLemmas.PieceLemmas.{cut_same, one_list}

pub cut_command : (v w : List ℕ) (r s : List ℕ) → IsShort v → IsShort w → spelled_command v ++ r ≡ spelled_command w ++ s → (v ≡ w) × (r ≡ s)
cut_command v w r s short_v short_w same =
    let there : spelled_number 2 (length v) ++ (v ++ r) ≡ spelled_number 2 (length w) ++ (w ++ s) =
    sym (append_assoc (spelled_number 2 (length v)) v r) ∙ same ∙ append_assoc (spelled_number 2 (length w)) w s in
    let count = cut_number 2 (length v) (length w) (v ++ r) (w ++ s) (omega (arith, short_v)) (omega (arith, short_w)) there in
    cut_same v w r s count.0 count.1

some_command : (w : List ℕ) → 1 ≤ length (spelled_command w)
some_command w = omega (arith, length-append (spelled_number 2 (length w)) w, length-spelled_number 2 (length w))

pub one_kept : (bytes : List ℕ) (first second : List (List ℕ)) → SpellsKept bytes first → SpellsKept bytes second → first ≡ second
one_kept bytes first second a b = one_list spelled_command IsShort cut_command some_command first second a.short b.short (sym a.spelled ∙ b.spelled)

-- the first command of these bytes, and the others
pub first_commands-more : (count : ℕ) (words rest : List ℕ) → IsShort words → first_commands (suc count) (spelled_command words ++ rest) ≡ words ∷ first_commands count rest
unfolding first_commands
first_commands-more count words rest short =
    let front = spelled_number 2 (length words) in
    let all = (front ++ words) ++ rest in
    let apart : all ≡ front ++ (words ++ rest) = append_assoc front words rest in
    let number : big_number 2 all ≡ length words = ap (big_number 2) apart ∙ big_number-spelled 2 (length words) (words ++ rest) (omega (arith, short)) in
    let behind : drop 2 all ≡ words ++ rest = ap (drop 2) apart ∙ drop_at front (words ++ rest) 2 (length-spelled_number 2 (length words)) in
    let first : take (big_number 2 all) (drop 2 all) ≡ words = (λ i. take (number i) (behind i)) ∙ take_at words rest (length words) refl in
    let others : drop (big_number 2 all) (drop 2 all) ≡ rest = (λ i. drop (number i) (behind i)) ∙ drop_at words rest (length words) refl in
    λ i. first i ∷ first_commands count (others i)

pub length-first_commands : (count : ℕ) (bytes : List ℕ) → length (first_commands count bytes) ≡ count
unfolding first_commands
length-first_commands zero bytes = refl
length-first_commands (suc count) bytes = omega (arith, length-first_commands count (drop (big_number 2 bytes) (drop 2 bytes)))

-- the commands that were spelled are the first that stand there
pub first_commands-spelled : (commands : List (List ℕ)) (rest : List ℕ) → All IsShort commands → first_commands (length commands) (flat_map spelled_command commands ++ rest) ≡ commands
unfolding first_commands
first_commands-spelled [] rest short = refl
first_commands-spelled (words ∷ commands) rest short =
    ap (first_commands (suc (length commands))) (append_assoc (spelled_command words) (flat_map spelled_command commands) rest)
    ∙ first_commands-more (length commands) words (flat_map spelled_command commands ++ rest) (All-head IsShort words commands short)
    ∙ ap (λ (cs : List (List ℕ)). words ∷ cs) (first_commands-spelled commands rest (All-tail IsShort words commands short))

-- the bytes of so many commands, and of none other behind them, are those of the first that stand there
pub kept-first : (bytes : List ℕ) (commands : List (List ℕ)) (count : ℕ) → SpellsKept bytes commands → length commands ≡ count → first_commands count bytes ≡ commands
kept-first bytes commands count is counted =
    (λ i. first_commands (sym counted i) (whole i)) ∙ first_commands-spelled commands [] is.short
  where
    whole : bytes ≡ flat_map spelled_command commands ++ []
    whole = is.spelled ∙ sym (append-nil (flat_map spelled_command commands))
