-- The sheet that a text spells is that of which it is the text.
use Rattle.std.proofs.Common.{◌≡◌, ℕ, ◌^◌, ◌<◌, refl, sym, ap, subst, ◌∙◌, Bool, true, false, List, [], ◌∷◌, ◌++◌, length, length-append, map, All, IfSome, Option, None, Some, option_map, option_and_then, inl, inr, lit<, arith}
use Rattle.std.specs.Prelude.{◌==◌, decimal, bytes_eq, if◌then◌else◌}
use Rattle.std.specs.List.{find, slice_split}
use Rattle.std.proofs.lemmas.Bool.{cases_Bool, false_from_ne_true, eqb-true}
use Rattle.std.proofs.lemmas.Option.{same_Some}
use Rattle.std.proofs.lemmas.List.Elements.{All-nil, All-cons, All-head, All-tail, All-append, All-map, All-weaker}
use Rattle.std.proofs.lemmas.Slice.Eq.{bytes_eq-Decides}
use Rattle.rr_words.specs.Line.{words_of}
use Rattle.rr_words.specs.Numeral.{number_of}
use Rattle.rr_words.proofs.NumeralLemmas.{SpellsNumber-from_value, number_of-decimal}
use Rattle.rr_roster.specs.Company.{kind_name, kinds}
use Rattle.rr_roster.specs.declared.company.Kind.{Kind}
use Rattle.rr_roster.specs.declared.company.Kind.TheVariants as K
use Rattle.rr_routes.specs.Sheets.Each.{each}
use Rattle.rr_routes.specs.Sheets.Reading.{kind_of, links_of, train_with, train_of, sheet_of}
use Rattle.rr_routes.specs.Sheets.Sheet.{links_text, train_text, text_of, HasShortNumbers, SpellsSheet}
use Rattle.rr_routes.specs.declared.sheets.sheet.TrainWord.{TrainWord}
use Rattle.rr_routes.proofs.SheetsLemmas.EachLemmas.{and_then-some, map-some, if-some, each-found, each-again}
use Rattle.rr_routes.proofs.SheetsLemmas.JoinedLemmas.{IsFree, split-joined, joined-split, split-some, IsFree-decimal, decimal-some}

abbrev pub IsShort : ℕ → Type 0
IsShort number = number < 10 ^ 10

-- what `find` gives passes the test
find-passes : {X : Type 0} (p : X → Bool) (xs : List X) (found : X) → find p xs ≡ Some found → p found ≡ true
find-passes p [] found h = absurd (cc)
find-passes p (x ∷ xs) found h =
    elim (cases_Bool (p x)) [
      | inl passes ↦ (let same : Some x ≡ Some found = rw passes at h in cc)
      | inr fails ↦ find-passes p xs found (rw fails at h)
    ]

pub kind_of-found : (name : List ℕ) (kind : Kind) → kind_of name ≡ Some kind → name ≡ kind_name kind
unfolding kind_of
kind_of-found name kind is = (bytes_eq-Decides name (kind_name kind)).0 (find-passes (λ k. bytes_eq name (kind_name k)) kinds kind is)

pub kind_of-name : (kind : Kind) → kind_of (kind_name kind) ≡ Some kind
unfolding kind_of
kind_of-name K.Two = refl
kind_of-name K.Three = refl
kind_of-name K.Four = refl
kind_of-name K.Five = refl
kind_of-name K.Six = refl
kind_of-name K.Diesel = refl

-- a reader that gives just the kind that the name names
pub kind_of-read : (name : List ℕ) (read : Option Kind) → IfSome read (λ kind. name ≡ kind_name kind) → ((kind : Kind) → name ≡ kind_name kind → read ≡ Some kind) → read ≡ kind_of name
kind_of-read name None found only = absent (kind_of name) refl
  where
    absent : (given : Option Kind) → kind_of name ≡ given → None ≡ given
    absent None h = refl
    absent (Some kind) h = only kind (kind_of-found name kind h)
kind_of-read name (Some kind) found only = sym (ap kind_of found ∙ kind_of-name kind)

number_of-found : (word : List ℕ) (n : ℕ) → number_of word ≡ Some n → (word ≡ decimal n) × IsShort n
number_of-found word n is = let spelled = SpellsNumber-from_value word n is in (spelled.digits, spelled.ten_digits)

links-found : (text links : List ℕ) → (slice_split (λ c. c == 45) text ≡ map decimal links) × All IsShort links → (text ≡ links_text links) × All IsShort links
links-found text [] found = absurd (split-some 45 text found.0)
links-found text (n ∷ more) found = (joined-split 45 text (map decimal (n ∷ more)) found.0, found.1)

pub links_of-found : (text links : List ℕ) → links_of text ≡ Some links → (text ≡ links_text links) × All IsShort links
links_of-found text links is =
    elim (cases_Bool (bytes_eq text (45 ∷ []))) [
      | inl hyphen ↦ (
          let none : Some [] ≡ Some links = rw hyphen at is in
          let same : [] ≡ links = same_Some [] links none in
          subst (λ ls. (text ≡ links_text ls) × All IsShort ls) same ((bytes_eq-Decides text (45 ∷ [])).0 hyphen, All-nil IsShort))
      | inr other ↦ links-found text links (each-found number_of decimal IsShort number_of-found (slice_split (λ c. c == 45) text) links (rw other at is))
    ]

frees : (byte : ℕ) → byte < 48 → (links : List ℕ) → All IsShort links → All (IsFree byte) (map decimal links)
frees byte low links short = All-map (IsFree byte) decimal links (All-weaker IsShort (λ n. IsFree byte (decimal n)) (λ n s. IsFree-decimal byte n low s) links short)

split-links : (n : ℕ) (more : List ℕ) → All IsShort (n ∷ more) → slice_split (λ c. c == 45) (links_text (n ∷ more)) ≡ map decimal (n ∷ more)
split-links n more short = split-joined 45 (decimal n) (map decimal more) (frees 45 (lit< tt) (n ∷ more) short)

no_hyphen_alone : (n : ℕ) (more : List ℕ) → All IsShort (n ∷ more) → links_text (n ∷ more) ≡ 45 ∷ [] → ⊥
no_hyphen_alone n more short alone =
    let words : map decimal (n ∷ more) ≡ [] ∷ [] ∷ [] = sym (split-links n more short) ∙ ap (slice_split (λ c. c == 45)) alone in
    let first : decimal n ≡ [] = cc in
    decimal-some n (All-head IsShort n more short) first

pub links_of-text : (links : List ℕ) → All IsShort links → links_of (links_text links) ≡ Some links
links_of-text [] short = refl
links_of-text (n ∷ more) short =
    let other : bytes_eq (links_text (n ∷ more)) (45 ∷ []) ≡ false =
    false_from_ne_true (bytes_eq (links_text (n ∷ more)) (45 ∷ [])) (λ same. no_hyphen_alone n more short ((bytes_eq-Decides (links_text (n ∷ more)) (45 ∷ [])).0 same)) in
    ap (λ test. if test then Some [] else each number_of (slice_split (λ c. c == 45) (links_text (n ∷ more)))) other
    ∙ ap (each number_of) (split-links n more short)
    ∙ each-again number_of decimal IsShort number_of-decimal (n ∷ more) short

train_with-found : (text : List ℕ) (kind : Kind) (train : TrainWord) → train_with text kind ≡ Some train → (train.kind ≡ kind) × (text ≡ links_text train.links) × HasShortNumbers train
train_with-found text kind train is =
    let links = map-some (λ ls. record { kind = kind; links = ls }) (links_of text) train is in
    let found = links_of-found text links.0 links.1 in
    let same : record { kind = kind; links = links.0 } ≡ train = links.2 in
    subst (λ (t : TrainWord). (t.kind ≡ kind) × (text ≡ links_text t.links) × HasShortNumbers t) same (refl, found.0, found.1)

pub train_of-found : (word : List ℕ) (train : TrainWord) → train_of word ≡ Some train → (word ≡ train_text train) × HasShortNumbers train
train_of-found [] train is = absurd (cc)
train_of-found (letter ∷ []) train is = absurd (cc)
train_of-found (letter ∷ mark ∷ text) train is =
    let kept = if-some (mark == 61) (option_and_then (train_with text) (kind_of (letter ∷ []))) train is in
    let kind = and_then-some (train_with text) (kind_of (letter ∷ [])) train kept.1 in
    let parts = train_with-found text kind.0 train kind.2 in
    let name : letter ∷ [] ≡ kind_name train.kind = kind_of-found (letter ∷ []) kind.0 kind.1 ∙ ap kind_name (sym parts.0) in (
      ap (λ m. letter ∷ m ∷ text) (eqb-true mark 61 kept.0) ∙ ap (λ ls. letter ∷ 61 ∷ ls) parts.1 ∙ ap (λ front. front ++ 61 ∷ links_text train.links) name,
      parts.2,
    )

named : (letter : ℕ) (text : List ℕ) (kind : Kind) → kind_name kind ≡ letter ∷ [] → train_of (kind_name kind ++ 61 ∷ text) ≡ train_with text kind
named letter text kind one =
    ap (λ name. train_of (name ++ 61 ∷ text)) one
    ∙ ap (option_and_then (train_with text)) (ap kind_of (sym one) ∙ kind_of-name kind)

letter_of : (kind : Kind) → (letter : ℕ) × (kind_name kind ≡ letter ∷ []) × ((letter == 32) ≡ false)
letter_of K.Two = (50, refl, refl)
letter_of K.Three = (51, refl, refl)
letter_of K.Four = (52, refl, refl)
letter_of K.Five = (53, refl, refl)
letter_of K.Six = (54, refl, refl)
letter_of K.Diesel = (68, refl, refl)

pub train_of-text : (train : TrainWord) → HasShortNumbers train → train_of (train_text train) ≡ Some train
train_of-text train short =
    let letter = letter_of train.kind in
    named letter.0 (links_text train.links) train.kind letter.1
    ∙ ap (option_map (λ ls. record { kind = train.kind; links = ls })) (links_of-text train.links short)

links-no_space : (links : List ℕ) → All IsShort links → IsFree 32 (links_text links)
links-no_space [] short = All-cons (λ c. (c == 32) ≡ false) 45 [] refl (All-nil (λ c. (c == 32) ≡ false))
links-no_space (n ∷ []) short = IsFree-decimal 32 n (lit< tt) (All-head IsShort n [] short)
links-no_space (n ∷ next ∷ more) short =
    All-append (λ c. (c == 32) ≡ false) (decimal n) (45 ∷ links_text (next ∷ more))
    (IsFree-decimal 32 n (lit< tt) (All-head IsShort n (next ∷ more) short))
    (All-cons (λ c. (c == 32) ≡ false) 45 (links_text (next ∷ more)) refl (links-no_space (next ∷ more) (All-tail IsShort n (next ∷ more) short)))

train-no_space : (train : TrainWord) → HasShortNumbers train → IsFree 32 (train_text train)
train-no_space train short =
    let letter = letter_of train.kind in
    let behind : IsFree 32 (61 ∷ links_text train.links) = All-cons (λ c. (c == 32) ≡ false) 61 (links_text train.links) refl (links-no_space train.links short) in
    subst (λ name. IsFree 32 (name ++ 61 ∷ links_text train.links)) (sym letter.1) (All-cons (λ c. (c == 32) ≡ false) letter.0 (61 ∷ links_text train.links) letter.2 behind)

pub sheet_of-found : (text : List ℕ) (sheet : List TrainWord) → sheet_of text ≡ Some sheet → SpellsSheet text sheet
unfolding text_of
sheet_of-found [] [] is = record { short = All-nil HasShortNumbers; spelled = refl }
sheet_of-found [] (train ∷ more) is = absurd (cc)
sheet_of-found (c ∷ rest) sheet is =
    let found = each-found train_of train_text HasShortNumbers train_of-found (words_of (c ∷ rest)) sheet is in
    record { short = found.1; spelled = joined-split 32 (c ∷ rest) (map train_text sheet) found.0 }

sheet_of-some : (text : List ℕ) → (text ≡ [] → ⊥) → sheet_of text ≡ each train_of (words_of text)
sheet_of-some [] some = absurd (some refl)
sheet_of-some (c ∷ rest) some = refl

train_text-some : (train : TrainWord) → train_text train ≡ [] → ⊥
train_text-some train none =
    let none_long : length (train_text train) ≡ 0 = ap length none in
    omega (arith, length-append (kind_name train.kind) (61 ∷ links_text train.links))

split-sheet : (train : TrainWord) (more : List TrainWord) → All HasShortNumbers (train ∷ more) → words_of (text_of (train ∷ more)) ≡ map train_text (train ∷ more)
unfolding text_of
split-sheet train more short =
    split-joined 32 (train_text train) (map train_text more)
    (All-map (IsFree 32) train_text (train ∷ more) (All-weaker HasShortNumbers (λ t. IsFree 32 (train_text t)) train-no_space (train ∷ more) short))

text_of-some : (train : TrainWord) (more : List TrainWord) → All HasShortNumbers (train ∷ more) → text_of (train ∷ more) ≡ [] → ⊥
text_of-some train more short none =
    let words : map train_text (train ∷ more) ≡ [] ∷ [] = sym (split-sheet train more short) ∙ ap words_of none in
    let first : train_text train ≡ [] = cc in
    train_text-some train first

pub sheet_of-text : (sheet : List TrainWord) → All HasShortNumbers sheet → sheet_of (text_of sheet) ≡ Some sheet
unfolding text_of
sheet_of-text [] short = refl
sheet_of-text (train ∷ more) short =
    sheet_of-some (text_of (train ∷ more)) (text_of-some train more short)
    ∙ ap (each train_of) (split-sheet train more short)
    ∙ each-again train_of train_text HasShortNumbers train_of-text (train ∷ more) short

-- what a reader of a text answers
pub sheet-only : (text : List ℕ) (read : Option (List TrainWord)) → read ≡ sheet_of text → (sheet : List TrainWord) → SpellsSheet text sheet → read ≡ Some sheet
sheet-only text read exact sheet spelled = exact ∙ ap sheet_of spelled.spelled ∙ sheet_of-text sheet spelled.short

-- a text spells one sheet
pub one_sheet : (text : List ℕ) (sheet other : List TrainWord) → SpellsSheet text sheet → SpellsSheet text other → sheet ≡ other
one_sheet text sheet other spelled also =
    same_Some sheet other (sym (sheet-only text (sheet_of text) refl sheet spelled) ∙ sheet-only text (sheet_of text) refl other also)
