-- Commands in a piece, and commands joined of several; and that they are those that a table keeps.
use Rattle.std.proofs.Common.{◌≡◌, ℕ, Bool, true, false, Option, None, Result, Ok, Err, ◌≢◌, ◌+◌, ◌<◌, ◌≤◌, List, [], ◌∷◌, ◌++◌, length, take, drop, refl, sym, ap, ap₂, ◌∙◌, subst, arith}
use Rattle.std.proofs.lemmas.List.{append_assoc, length-append, length-take, length-take-le, length-drop, take-append-drop, drop-drop, take_at, drop_at, drop_all}
use Rattle.std.proofs.lemmas.List.Elements.{All-cons, All-head, All-tail, All-nil}
use Rattle.std.specs.Bool.{OnTrue, OnFalse}
use Rattle.std.specs.List.{flat_map}
use Rattle.std.specs.Prelude.{IfOk, IfErr}
use Rattle.rr_pages.specs.declared.fault.Fault.{Fault}
use Rattle.rr_pages.specs.declared.fault.Fault.TheVariants.{FileFull, HalfFull, Damaged, NotAStore, Disk, OutOfMemory}
use Rattle.rr_reading.specs.Dir.Kept.{IsShort, SpellsKept, spelled_command}
use Rattle.rr_words.specs.Spelling.Number.{spelled_number}
use Rattle.rr_reading.specs.Lending.Commands.{Begins, BeginsNone, IfCut, IsCut}
use Rattle.rr_reading.specs.Lending.PageBuffer.{piece_in}
use Rattle.rr_reading.specs.declared.lending.page_buffer.PageBuffer.{PageBuffer}
use Rattle.rr_reading.proofs.DirLemmas.KeptLemmas.{cut_command}
use Rattle.rr_words.proofs.SpellingLemmas.NumberLemmas.{length-spelled_number}
use Rattle.rr_reading.proofs.DirLemmas.NumberLemmas.{cut_number}

-- a page lends so many bytes at most
pub few : (buffer : PageBuffer) → length (piece_in buffer) ≤ 4086
unfolding piece_in
few buffer = omega (arith, buffer.fits, length-take buffer.used buffer.bytes.items)

pub spelled_long : (words : List ℕ) → 2 ≤ length (spelled_command words)
spelled_long words = omega (arith, length-append (spelled_number 2 (length words)) words, length-spelled_number 2 (length words))

behind_number : (words rest : List ℕ) → drop 2 (spelled_command words ++ rest) ≡ words ++ rest
behind_number words rest =
    ap (drop 2) (append_assoc (spelled_number 2 (length words)) words rest) ∙ drop_at (spelled_number 2 (length words)) (words ++ rest) 2 (length-spelled_number 2 (length words))

-- a command within a piece
pub inside : (piece behind words rest : List ℕ) (at : ℕ) → IsShort words → drop at piece ≡ spelled_command words ++ rest
    → Begins (drop at piece ++ behind) (take (length words) (drop (at + 2) piece)) (drop (at + 2 + length words) piece ++ behind)
inside piece behind words rest at short is =
    let two : drop (at + 2) piece ≡ words ++ rest = sym (drop-drop 2 at piece) ∙ ap (drop 2) is ∙ behind_number words rest in
    let own : take (length words) (drop (at + 2) piece) ≡ words = ap (take (length words)) two ∙ take_at words rest (length words) refl in
    let more : drop (at + 2 + length words) piece ≡ rest = sym (drop-drop (length words) (at + 2) piece) ∙ ap (drop (length words)) two ∙ drop_at words rest (length words) refl in (
      subst IsShort (sym own) short,
      ap (λ xs. xs ++ behind) is ∙ append_assoc (spelled_command words) rest behind ∙ ap₂ (λ ws xs. spelled_command ws ++ (xs ++ behind)) (sym own) (sym more),
    )

pub inside_fits : (piece words rest : List ℕ) (at : ℕ) → at ≤ length piece → drop at piece ≡ spelled_command words ++ rest → at + 2 + length words ≤ length piece
inside_fits piece words rest at within is =
    omega (arith, within, length-drop at piece, ap length is, length-append (spelled_command words) rest, length-append (spelled_number 2 (length words)) words, length-spelled_number 2 (length words))

-- a command whose length was joined first, and then its words
module _ (all joined behind : List ℕ) (count : ℕ) (few : count < 65536) (number : take 2 joined ≡ spelled_number 2 count) (front : all ≡ take 2 joined ++ behind) where
  all_is : all ≡ spelled_number 2 count ++ behind
  all_is = front ∙ ap (λ xs. xs ++ behind) number

  pub crossing : (again rest : List ℕ) → count ≤ length again → behind ≡ take count again ++ rest → Begins all (take count again) rest
  crossing again rest room is =
      let words = take count again in
      let long : length words ≡ count = length-take-le count again room in (
        omega (arith, long, few),
        all_is ∙ ap₂ (λ n xs. spelled_number 2 n ++ xs) (sym long) is ∙ sym (append_assoc (spelled_number 2 (length words)) words rest),
      )

  -- the chain ends within it
  pub crossing_cut : length behind < count → BeginsNone all
  crossing_cut short words rest small same =
      let parts = cut_number 2 count (length words) behind (words ++ rest) (omega (arith, few)) (omega (arith, small)) (sym all_is ∙ same ∙ append_assoc (spelled_number 2 (length words)) words rest) in
      omega (arith, parts.0, ap length parts.1, length-append words rest)

-- the chain ends within a length
pub length_cut : (all : List ℕ) → length all < 2 → BeginsNone all
length_cut all short words rest small same = omega (arith, ap length same, length-append (spelled_command words) rest, spelled_long words)

-- more bytes are joined
pub moved : (piece behind old new more : List ℕ) (at done n : ℕ) → more ≡ take n (drop at piece) → take (done + n) new ≡ take done old ++ more
    → take done old ++ (drop at piece ++ behind) ≡ take (done + n) new ++ (drop (at + n) piece ++ behind)
moved piece behind old new more at done n is put =
    ap (λ xs. take done old ++ (xs ++ behind)) (sym (take-append-drop n (drop at piece)) ∙ ap₂ (λ xs ys. xs ++ ys) (sym is) (drop-drop n at piece))
    ∙ ap (λ xs. take done old ++ xs) (append_assoc more (drop (at + n) piece) behind)
    ∙ sym (append_assoc (take done old) more (drop (at + n) piece ++ behind))
    ∙ ap (λ xs. xs ++ (drop (at + n) piece ++ behind)) (sym put)

-- nothing is left of a piece that was read to its end
pub nothing_left : (piece behind : List ℕ) (at : ℕ) → length piece ≤ at → drop at piece ++ behind ≡ behind
nothing_left piece behind at all = ap (λ xs. xs ++ behind) (drop_all at piece all)

-- where bytes end within a command, as a call below tells
cut_as : {P Q : Type 0} (fault : Fault) → (P → Q) → IfCut fault P → IfCut fault Q
cut_as FileFull so cut = cut
cut_as HalfFull so cut = cut
cut_as (Damaged damage) so cut = (cut.0, so cut.1)
cut_as NotAStore so cut = cut
cut_as (Disk fault) so cut = cut
cut_as OutOfMemory so cut = cut

pub cut_so : {T P Q : Type 0} (result : Result T Fault) (fault : Fault) → result ≡ Err fault → (P → Q) → IfCut fault P → IfErr result (λ told. IfCut told Q)
cut_so {T} {P} {Q} result fault is so cut = subst (λ (r : Result T Fault). IfErr r (λ told. IfCut told Q)) (sym is) (cut_as fault so cut)

-- bytes of which some are in the piece
pub some_left : (piece behind : List ℕ) (at : ℕ) → at < length piece → drop at piece ++ behind ≢ []
some_left piece behind at within none = omega (arith, within, length-drop at piece, ap length none, length-append (drop at piece) behind)

-- what is said of a `bool`, by its value
pub at_true : {b : Bool} (P : Type 0) → b ≡ true → OnTrue b P → P
at_true P is told = subst (λ (x : Bool). OnTrue x P) is told

pub at_false : {b : Bool} (P : Type 0) → b ≡ false → OnFalse b P → P
at_false P is told = subst (λ (x : Bool). OnFalse x P) is told

-- what is said of a result is said of the `None` in it
pub at_none : {T E : Type 0} (P : Option T → Type 0) (r : Result (Option T) E) (o : Option T) → r ≡ Ok o → o ≡ None → IfOk r P → P None
at_none {T} {E} P r o was is told = subst P is (subst (λ (x : Result (Option T) E). IfOk x P) was told)

-- commands lent one after another are those that a table keeps
pub kept_none : SpellsKept [] []
kept_none = record { short = All-nil IsShort; spelled = refl }

pub kept_more : (bytes words rest : List ℕ) (commands : List (List ℕ)) → Begins bytes words rest → SpellsKept rest commands → SpellsKept bytes (words ∷ commands)
kept_more bytes words rest commands begins kept =
    record { short = All-cons IsShort words commands begins.0 kept.short; spelled = begins.1 ∙ ap (λ xs. spelled_command words ++ xs) kept.spelled }

pub kept_cut : (bytes : List ℕ) (commands : List (List ℕ)) → IsCut bytes → SpellsKept bytes commands → ⊥
kept_cut bytes [] cut kept = cut.0 kept.spelled
kept_cut bytes (words ∷ commands) cut kept = cut.1 words (flat_map spelled_command commands) (All-head IsShort words commands kept.short) kept.spelled

kept_both : (bytes words rest other : List ℕ) (commands : List (List ℕ)) → Begins bytes words rest → SpellsKept bytes (other ∷ commands) → (words ≡ other) × (rest ≡ flat_map spelled_command commands)
kept_both bytes words rest other commands begins kept =
    cut_command words other rest (flat_map spelled_command commands) begins.0 (All-head IsShort other commands kept.short) (sym begins.1 ∙ kept.spelled)

pub kept_first : (bytes words rest other : List ℕ) (commands : List (List ℕ)) → Begins bytes words rest → SpellsKept bytes (other ∷ commands) → words ≡ other
kept_first bytes words rest other commands begins kept = (kept_both bytes words rest other commands begins kept).0

pub kept_behind : (bytes words rest : List ℕ) (commands : List (List ℕ)) → Begins bytes words rest → SpellsKept bytes (words ∷ commands) → SpellsKept rest commands
kept_behind bytes words rest commands begins kept =
    record { short = All-tail IsShort words commands kept.short; spelled = (kept_both bytes words rest words commands begins kept).1 }
