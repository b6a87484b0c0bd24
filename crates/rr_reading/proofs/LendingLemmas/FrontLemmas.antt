-- Commands with which bytes begin, as they are lent one after another.
use Rattle.std.proofs.Common.{◌≡◌, ℕ, ◌+◌, ◌≤◌, List, [], ◌∷◌, ◌++◌, length, All, refl, sym, ap, ◌∙◌, subst, arith, append-nil}
use Rattle.std.proofs.lemmas.List.{append_assoc, length-append}
use Rattle.std.proofs.lemmas.List.Elements.{All-append, All-cons, All-head, All-nil, All-tail}
use Rattle.std.specs.List.{flat_map}
use Rattle.rr_reading.specs.Chains.{HoldsCommands}
use Rattle.rr_reading.specs.Dir.Kept.{IsShort, SpellsKept, spelled_command}
use Rattle.rr_reading.specs.Lending.Commands.{Begins, IsCut}
use Rattle.rr_reading.proofs.DirLemmas.KeptLemmas.{cut_command}
use Rattle.rr_reading.proofs.LendingLemmas.CommandLemmas.{kept_cut, kept_first, spelled_long}

-- the bytes are those of these commands, and then others
pub record SpellsFront (bytes : List ℕ) (front : List (List ℕ)) (rest : List ℕ) : Type 0 where
  pub short : All IsShort front
  pub spelled : bytes ≡ flat_map spelled_command front ++ rest

pub front_none : (bytes : List ℕ) → SpellsFront bytes [] bytes
front_none bytes = record { short = All-nil IsShort; spelled = refl }

flat_last : (front : List (List ℕ)) (words : List ℕ) → flat_map spelled_command (front ++ words ∷ []) ≡ flat_map spelled_command front ++ spelled_command words
flat_last [] words = append-nil (spelled_command words)
flat_last (first ∷ front) words =
    ap (λ (xs : List ℕ). spelled_command first ++ xs) (flat_last front words) ∙ sym (append_assoc (spelled_command first) (flat_map spelled_command front) (spelled_command words))

pub front_more : (bytes : List ℕ) (front : List (List ℕ)) (rest words behind : List ℕ) → SpellsFront bytes front rest → Begins rest words behind → SpellsFront bytes (front ++ words ∷ []) behind
front_more bytes front rest words behind spells begins =
    record {
      short = All-append IsShort front (words ∷ []) spells.short (All-cons IsShort words [] begins.0 (All-nil IsShort));
      spelled = spells.spelled ∙ ap (λ (xs : List ℕ). flat_map spelled_command front ++ xs) begins.1
          ∙ sym (append_assoc (flat_map spelled_command front) (spelled_command words) behind)
          ∙ ap (λ (xs : List ℕ). xs ++ behind) (sym (flat_last front words));
    }

pub front_whole : (bytes : List ℕ) (front : List (List ℕ)) (rest : List ℕ) → SpellsFront bytes front rest → rest ≡ [] → SpellsKept bytes front
front_whole bytes front rest spells none =
    record { short = spells.short; spelled = spells.spelled ∙ ap (λ (xs : List ℕ). flat_map spelled_command front ++ xs) none ∙ append-nil (flat_map spelled_command front) }

-- whatever commands the bytes are, these are the first of them
pub record SplitsFront (front : List (List ℕ)) (rest : List ℕ) (all : List (List ℕ)) : Type 0 where
  pub behind : List (List ℕ)
  pub split : all ≡ front ++ behind
  pub kept : SpellsKept rest behind

pub front_split : (front : List (List ℕ)) (bytes rest : List ℕ) (all : List (List ℕ)) → SpellsFront bytes front rest → SpellsKept bytes all → SplitsFront front rest all
front_split [] bytes rest all spells kept = record { behind = all; split = refl; kept = subst (λ (bs : List ℕ). SpellsKept bs all) spells.spelled kept }
front_split (words ∷ front) bytes rest [] spells kept =
    absurd (omega (arith, ap length (sym kept.spelled ∙ spells.spelled), length-append (flat_map spelled_command (words ∷ front)) rest, length-append (spelled_command words) (flat_map spelled_command front), spelled_long words))
front_split (words ∷ front) bytes rest (other ∷ all) spells kept =
    let here = cut_command words other (flat_map spelled_command front ++ rest) (flat_map spelled_command all) (All-head IsShort words front spells.short) (All-head IsShort other all kept.short)
    (sym (append_assoc (spelled_command words) (flat_map spelled_command front) rest) ∙ sym spells.spelled ∙ kept.spelled) in
    let more = front_split front (flat_map spelled_command all) rest all (record { short = All-tail IsShort words front spells.short; spelled = sym here.1 }) (record { short = All-tail IsShort other all kept.short; spelled = refl }) in
    record { behind = more.behind; split = λ i. sym here.0 i ∷ more.split i; kept = more.kept }

-- so many of the counted commands are left
pub record CountsFront (bytes rest : List ℕ) (left count : ℕ) : Type 0 where
  pub front : List (List ℕ)
  pub spells : SpellsFront bytes front rest
  pub counted : length front + left ≡ count

pub counts_none : (bytes rest : List ℕ) (count : ℕ) → rest ≡ bytes → CountsFront bytes rest count count
counts_none bytes rest count same = subst (λ (bs : List ℕ). CountsFront bytes bs count count) (sym same) (record { front = []; spells = front_none bytes; counted = omega arith })

pub counts_more : (bytes rest behind words : List ℕ) (left less count : ℕ) → CountsFront bytes rest left count → Begins rest words behind → less + 1 ≡ left → CountsFront bytes behind less count
counts_more bytes rest behind words left less count counts begins one =
    record {
      front = counts.front ++ words ∷ [];
      spells = front_more bytes counts.front rest words behind counts.spells begins;
      counted = omega (arith, counts.counted, one, length-append counts.front (words ∷ []));
    }

begins_some : (rest words behind : List ℕ) → Begins rest words behind → rest ≡ [] → ⊥
begins_some rest words behind begins none = omega (arith, ap length (sym none ∙ begins.1), length-append (spelled_command words) behind, spelled_long words)

no_more : (front behind : List (List ℕ)) (all : List (List ℕ)) → all ≡ front ++ behind → length all ≡ length front → behind ≡ []
no_more front [] all split same = refl
no_more front (words ∷ behind) all split same = absurd (omega (arith, ap length split, same, length-append front (words ∷ behind)))

-- one command too many
pub counts_past : (bytes rest behind words : List ℕ) (left count : ℕ) → CountsFront bytes rest left count → Begins rest words behind → left ≡ 0 → HoldsCommands bytes count → ⊥
counts_past bytes rest behind words left count counts begins none holds =
    let split = front_split counts.front bytes rest holds.0 counts.spells holds.1 in
    let last = no_more counts.front split.behind holds.0 split.split (omega (arith, holds.2, counts.counted, none)) in
    let kept = subst (λ (cs : List (List ℕ)). SpellsKept rest cs) last split.kept in
    begins_some rest words behind begins kept.spelled

-- the chain ends
pub counts_end : (bytes rest : List ℕ) (left count : ℕ) → CountsFront bytes rest left count → rest ≡ [] → left ≡ 0 → HoldsCommands bytes count
counts_end bytes rest left count counts end none = (counts.front, front_whole bytes counts.front rest counts.spells end, omega (arith, counts.counted, none))

pub kept_nothing : (rest : List ℕ) (behind : List (List ℕ)) → rest ≡ [] → SpellsKept rest behind → length behind ≡ 0
kept_nothing rest [] end kept = refl
kept_nothing rest (words ∷ behind) end kept =
    absurd (omega (arith, ap length (sym end ∙ kept.spelled), length-append (spelled_command words) (flat_map spelled_command behind), spelled_long words))

pub counts_all : (bytes rest : List ℕ) (left count : ℕ) → CountsFront bytes rest left count → rest ≡ [] → HoldsCommands bytes count → left ≡ 0
counts_all bytes rest left count counts end holds =
    let split = front_split counts.front bytes rest holds.0 counts.spells holds.1 in
    omega (arith, kept_nothing rest split.behind end split.kept, ap length split.split, length-append counts.front split.behind, holds.2, counts.counted)

-- or within a command
pub counts_cut : (bytes rest : List ℕ) (left count : ℕ) → CountsFront bytes rest left count → IsCut rest → HoldsCommands bytes count → ⊥
counts_cut bytes rest left count counts cut holds =
    let split = front_split counts.front bytes rest holds.0 counts.spells holds.1 in
    kept_cut rest split.behind cut split.kept

-- the command that comes next among those that the rest is
pub next_word : (rest words behind : List ℕ) (others : List (List ℕ)) → Begins rest words behind → SpellsKept rest others → (more : List (List ℕ)) × (others ≡ words ∷ more)
next_word rest words behind [] passed kept = absurd (begins_some rest words behind passed kept.spelled)
next_word rest words behind (other ∷ others) passed kept = (others, λ i. sym (kept_first rest words behind other others passed kept) i ∷ others)
