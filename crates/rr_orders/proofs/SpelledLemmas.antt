-- Words are read as what they spell.
use Rattle.std.proofs.Common.{◌≡◌, ◌≢◌, ℕ, ◌<◌, List, [], ◌∷◌, Option, None, Some, option_and_then, is_some, MatchOption, Bool, true, false, length, refl, sym, ◌∙◌}
use Rattle.std.specs.Prelude.{if◌then◌else◌}
use Rattle.std.specs.Borrow.{Bor}
use Rattle.std.proofs.lemmas.Bool.{false≢true}
use Rattle.rr_words.specs.Line.{words_of}
use Rattle.rr_words.proofs.LineLemmas.{line_of-words_of}
use Rattle.rr_roster.specs.declared.company.Kind.{Kind}
use Rattle.rr_roster.specs.declared.company.Kind.TheVariants as K
use Rattle.rr_roster.specs.Company.{kind_name}
use Rattle.rr_orders.specs.Scan.Words.{words_left}
use Rattle.rr_orders.specs.Scan.Company.{corp_of}
use Rattle.rr_routes.specs.Sheets.Reading.{sheet_of, cert_words_of}
use Rattle.rr_routes.proofs.SheetsLemmas.FormLemmas.{sheet_told, certificate_told}
use Rattle.rr_orders.specs.Texts.{sheet_text, certificate_text}
use Rattle.rr_orders.specs.Reading.{kind_of, read_train}

pub kind_of-name : (kind : Kind) → kind_of (kind_name kind) ≡ Some kind
kind_of-name K.Two = refl
kind_of-name K.Three = refl
kind_of-name K.Four = refl
kind_of-name K.Five = refl
kind_of-name K.Six = refl
kind_of-name K.Diesel = refl

-- words that aren't those of a train are none, whatever stands before them
nothing_twice : {X Y Z : Type 0} (x : Option X) (y : Option Y) → option_and_then {U = Z} (λ a. option_and_then {U = Z} (λ b. None) y) x ≡ None
nothing_twice None y = refl
nothing_twice (Some a) None = refl
nothing_twice (Some a) (Some b) = refl

unsold : (corp kind seller : List ℕ) (rest : List (List ℕ)) → rest ≢ [] → corp_of seller ≡ None → read_train (corp ∷ kind ∷ seller ∷ rest) ≡ None
unsold corp kind seller [] more none = absurd (more refl)
unsold corp kind seller (price ∷ []) more none = refl
unsold corp kind seller (price ∷ buyer ∷ []) more none = refl
unsold corp kind seller (price ∷ buyer ∷ other ∷ []) more none = rw none (nothing_twice (corp_of corp) (kind_of kind))
unsold corp kind seller (price ∷ buyer ∷ other ∷ next ∷ rest) more none = refl

pub no_seller : (words first second rest : List (List ℕ)) (corp kind seller : List ℕ) → words ≡ corp ∷ first → first ≡ kind ∷ second → second ≡ seller ∷ rest → rest ≢ [] → corp_of seller ≡ None → read_train words ≡ None
no_seller words first second rest corp kind seller a b c more none = rw (a, b, c) (unsold corp kind seller rest more none)

unagreed : (corp kind seller price buyer : List ℕ) (rest : List (List ℕ)) → ((word : List ℕ) → rest ≢ word ∷ []) → read_train (corp ∷ kind ∷ seller ∷ price ∷ buyer ∷ rest) ≡ None
unagreed corp kind seller price buyer [] none = refl
unagreed corp kind seller price buyer (other ∷ []) none = absurd (none other refl)
unagreed corp kind seller price buyer (other ∷ next ∷ rest) none = refl

pub no_last : (words w1 w2 w3 w4 rest : List (List ℕ)) (corp kind seller price buyer : List ℕ) → words ≡ corp ∷ w1 → w1 ≡ kind ∷ w2 → w2 ≡ seller ∷ w3 → w3 ≡ price ∷ w4 → w4 ≡ buyer ∷ rest → ((word : List ℕ) → rest ≢ word ∷ []) → read_train words ≡ None
no_last words w1 w2 w3 w4 rest corp kind seller price buyer a b c d e none = rw (a, b, c, d, e) (unagreed corp kind seller price buyer rest none)

-- the words of a text that isn't empty are a sheet where the text is one
pub sheet_text-told : (text : List ℕ) → 0 < length text → sheet_text (words_of text) ≡ (if is_some (sheet_of text) then Some text else None)
sheet_text-told text some = rw (sheet_told text some, line_of-words_of text) refl

pub certificate_text-told : (text : List ℕ) → 0 < length text → certificate_text (words_of text) ≡ (if is_some (cert_words_of text) then Some text else None)
certificate_text-told text some = rw (certificate_told text some, line_of-words_of text) refl

pub sheet-some : (left : Option (Bor (List ℕ))) (text : Bor (List ℕ)) → left ≡ Some text → 0 < length text.now → is_some (sheet_of text.now) ≡ true → Some text.now ≡ sheet_text (words_left left)
sheet-some left text is some told = rw (is, sheet_text-told text.now some, told) refl

pub sheet-none : (left : Option (Bor (List ℕ))) (text : Bor (List ℕ)) → left ≡ Some text → 0 < length text.now → is_some (sheet_of text.now) ≡ false → None ≡ sheet_text (words_left left)
sheet-none left text is some told = rw (is, sheet_text-told text.now some, told) refl

pub certificate-some : (left : Option (Bor (List ℕ))) (text : Bor (List ℕ)) → left ≡ Some text → 0 < length text.now → is_some (cert_words_of text.now) ≡ true → Some text.now ≡ certificate_text (words_left left)
certificate-some left text is some told = rw (is, certificate_text-told text.now some, told) refl

pub certificate-none : (left : Option (Bor (List ℕ))) (text : Bor (List ℕ)) → left ≡ Some text → 0 < length text.now → is_some (cert_words_of text.now) ≡ false → None ≡ certificate_text (words_left left)
certificate-none left text is some told = rw (is, certificate_text-told text.now some, told) refl

-- a word is left where it isn't so that none is
pub not-ended : {X : Type 0} (ended : Option X) (words : List (List ℕ)) (told : Bool) → MatchOption ended (words ≢ []) (λ _. words ≡ []) → told ≡ is_some ended → told ≡ false → words ≢ []
not-ended None words told h is fails = h
not-ended (Some x) words told h is fails = absurd (false≢true (sym fails ∙ is))
