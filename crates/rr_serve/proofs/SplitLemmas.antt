-- An input splits into lines in one way.
use Rattle.std.proofs.Common.{◌≡◌, ℕ, List, [], ◌∷◌, ◌++◌, inl, inr, refl, sym, ap, subst, ◌∙◌, append_assoc}
use Rattle.std.specs.List.{AllByRecursion, flat_map}
use Rattle.std.proofs.lemmas.Bool.{cases_eq}
use Rattle.std.proofs.lemmas.List.{append-nil}
use Rattle.rr_serve.specs.Lines.{HasNoLineFeed, Splits, ended}

-- the first line feed of two inputs is in one place
same_line : (line other : List ℕ) (after behind : List ℕ) → HasNoLineFeed line → HasNoLineFeed other → line ++ 10 ∷ after ≡ other ++ 10 ∷ behind → (line ≡ other) × (after ≡ behind)
same_line [] [] after behind is also same = (refl, cc)
same_line [] (byte ∷ bytes) after behind is also same =
    let first : byte ≡ 10 = cc in absurd (also.0 first)
same_line (byte ∷ bytes) [] after behind is also same =
    let first : byte ≡ 10 = cc in absurd (is.0 first)
same_line (byte ∷ bytes) (first ∷ others) after behind is also same =
    let head : byte ≡ first = cc in
    let tail : bytes ++ 10 ∷ after ≡ others ++ 10 ∷ behind = cc in
    let rest = same_line bytes others after behind is.1 also.1 tail in
    let below : bytes ≡ others = rest.0 in
    (cc, rest.1)

-- a rest has no line feed
no_line : (line after rest : List ℕ) → HasNoLineFeed rest → line ++ 10 ∷ after ≡ rest → ⊥
no_line [] after [] is same = cc
no_line [] after (byte ∷ bytes) is same =
    let first : byte ≡ 10 = cc in is.0 first
no_line (byte ∷ bytes) after [] is same = cc
no_line (byte ∷ bytes) after (first ∷ others) is same =
    let tail : bytes ++ 10 ∷ after ≡ others = cc in no_line bytes after others is.1 tail

-- the first line stands before all that comes behind its line feed
first_line : (line : List ℕ) (lines : List (List ℕ)) (after : List ℕ) → flat_map ended (line ∷ lines) ++ after ≡ line ++ 10 ∷ (flat_map ended lines ++ after)
first_line line lines after =
    append_assoc (line ++ 10 ∷ []) (flat_map ended lines) after ∙ append_assoc line (10 ∷ []) (flat_map ended lines ++ after)

-- lines at the front of lines are the first of them
front_lines : (lines others : List (List ℕ)) (after other : List ℕ) → AllByRecursion HasNoLineFeed lines → AllByRecursion HasNoLineFeed others → HasNoLineFeed other
    → flat_map ended lines ++ after ≡ flat_map ended others ++ other
    → (later : List (List ℕ)) × (others ≡ lines ++ later) × AllByRecursion HasNoLineFeed later × (after ≡ flat_map ended later ++ other)
front_lines [] others after other each all is same = (others, refl, all, same)
front_lines (line ∷ lines) [] after other each all is same =
    absurd (no_line line (flat_map ended lines ++ after) other is (sym (first_line line lines after) ∙ same))
front_lines (line ∷ lines) (first ∷ others) after other each all is same =
    let parts = same_line line first (flat_map ended lines ++ after) (flat_map ended others ++ other) each.0 all.0
    (sym (first_line line lines after) ∙ same ∙ first_line first others other) in
    let rest = front_lines lines others after other each.1 all.1 is parts.1 in
    let head : line ≡ first = parts.0 in
    let tail : others ≡ lines ++ rest.0 = rest.1 in
    (rest.0, cc, rest.2, rest.3)

-- no lines are in a rest
none_later : (later : List (List ℕ)) (rest other : List ℕ) → HasNoLineFeed rest → rest ≡ flat_map ended later ++ other → (later ≡ []) × (other ≡ rest)
none_later [] rest other is same = (refl, sym same)
none_later (line ∷ later) rest other is same =
    absurd (no_line line (flat_map ended later ++ other) rest is (sym (first_line line later other) ∙ sym same))

pub Splits-only : (input : List ℕ) (lines others : List (List ℕ)) (rest other : List ℕ) → Splits input lines rest → Splits input others other
    → (others ≡ lines) × (other ≡ rest)
Splits-only input lines others rest other one two =
    let front = front_lines lines others rest other one.each two.each two.last (sym one.whole ∙ two.whole) in
    let none = none_later front.0 rest other one.last front.3 in
    (front.1 ∙ ap (λ later. lines ++ later) none.0 ∙ append-nil lines, none.1)

pub Splits-stays : (input more : List ℕ) (lines others : List (List ℕ)) (rest other : List ℕ) → Splits input lines rest → Splits (input ++ more) others other
    → (later : List (List ℕ)) × (others ≡ lines ++ later)
Splits-stays input more lines others rest other one two =
    let same : flat_map ended lines ++ (rest ++ more) ≡ flat_map ended others ++ other =
    sym (append_assoc (flat_map ended lines) rest more) ∙ ap (λ bytes. bytes ++ more) (sym one.whole) ∙ two.whole in
    let front = front_lines lines others (rest ++ more) other one.each two.each two.last same in
    (front.0, front.1)

-- a byte in front of an input goes onto its first line
abbrev Split : List ℕ → Type 0
Split input = (lines : List (List ℕ)) × (rest : List ℕ) × Splits input lines rest

split_feed : (input : List ℕ) → Split input → Split (10 ∷ input)
split_feed input (lines, rest, splits) =
    ([] ∷ lines, rest, record { whole = ap (λ bytes. 10 ∷ bytes) splits.whole; each = (tt, splits.each); last = splits.last })

split_byte : (byte : ℕ) (input : List ℕ) → (byte ≡ 10 → ⊥) → Split input → Split (byte ∷ input)
split_byte byte input other split =
    elim split.0 as (λ lines. Splits input lines split.1 → Split (byte ∷ input)) [
      | [] ↦ λ splits. ([], byte ∷ split.1, record { whole = ap (λ bytes. byte ∷ bytes) splits.whole; each = tt; last = (other, splits.last) })
      | line ∷ lines ↦ λ splits. ((byte ∷ line) ∷ lines, split.1, record { whole = ap (λ bytes. byte ∷ bytes) splits.whole; each = ((other, splits.each.0), splits.each.1); last = splits.last })
    ] split.2

pub Splits-some : (input : List ℕ) → Split input
Splits-some [] = ([], [], record { whole = refl; each = tt; last = tt })
Splits-some (byte ∷ input) =
    elim (cases_eq byte 10) [
      | inl feed ↦ subst (λ b. Split (b ∷ input)) (sym feed) (split_feed input (Splits-some input))
      | inr other ↦ split_byte byte input other (Splits-some input)
    ]
