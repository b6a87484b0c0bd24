-- Whether words can be read, and what that decides.
use Rattle.std.proofs.Common.{◌≡◌, ℕ, ◌<◌, sym, ap, ◌∙◌, refl, true, false, List, [], ◌∷◌, length, Option, None, Some, option_map, option_and_then, is_some, arith}
use Rattle.std.specs.Prelude.{◌&&◌, ◌↔◌, bytes_eq, if◌then◌else◌}
use Rattle.std.specs.Bool.{Decides}
use Rattle.std.specs.List.{list_all, slice_split}
use Rattle.std.proofs.lemmas.Bool.{false≢true}
use Rattle.std.proofs.lemmas.Option.{none-some}
use Rattle.rr_words.specs.Line.{words_of}
use Rattle.rr_words.specs.Numeral.{number_of}
use Rattle.rr_routes.specs.Sheets.Each.{each}
use Rattle.rr_routes.specs.Sheets.Certificate.{HasForm, SpellsWords}
use Rattle.rr_routes.specs.Sheets.Reading.{cert_word_of, cert_words_of, is_hyphen, links_of, sheet_in, sheet_of, train_of}
use Rattle.rr_routes.specs.Sheets.Sheet.{SpellsSheet, SpellsSomeSheet}
use Rattle.rr_routes.specs.declared.sheets.sheet.TrainWord.{TrainWord}
use Rattle.rr_routes.proofs.SheetsLemmas.CertificateLemmas.{cert_words_of-found, cert_words_of-text}
use Rattle.rr_routes.proofs.SheetsLemmas.SheetLemmas.{sheet_of-found, sheet-only}

both_read : {X : Type 0} (first : Option X) (rest : Option (List X)) → (is_some first && is_some rest) ≡ is_some (option_and_then (λ x. option_map (λ xs. x ∷ xs) rest) first)
both_read None rest = refl
both_read (Some x) None = refl
both_read (Some x) (Some xs) = refl

-- all words can be read where each can
pub all_read : {X : Type 0} (read : List ℕ → Option X) (words : List (List ℕ)) → list_all (λ word. is_some (read word)) words ≡ is_some (each read words)
unfolding each
all_read read [] = refl
all_read read (word ∷ words) = ap (λ b. is_some (read word) && b) (all_read read words) ∙ both_read (read word) (each read words)

-- a text that isn't empty is a sheet where each word is that of a train
pub sheet_told : (text : List ℕ) → 0 < length text → list_all (λ word. is_some (train_of word)) (words_of text) ≡ is_some (sheet_of text)
sheet_told [] some = absurd (omega arith)
sheet_told (c ∷ rest) some = all_read train_of (words_of (c ∷ rest))

pub nothing_told : (text : List ℕ) → length text ≡ 0 → true ≡ is_some (sheet_of text)
nothing_told [] none = refl
nothing_told (c ∷ rest) none = absurd (omega (arith, none))

pub certificate_told : (text : List ℕ) → 0 < length text → list_all (λ word. is_some (cert_word_of word)) (words_of text) ≡ is_some (cert_words_of text)
certificate_told [] some = absurd (omega arith)
certificate_told (c ∷ rest) some = all_read cert_word_of (words_of (c ∷ rest))

pub links_told : (text : List ℕ) → bytes_eq text (45 ∷ []) ≡ false → list_all (λ word. is_some (number_of word)) (slice_split is_hyphen text) ≡ is_some (links_of text)
links_told text other =
    all_read number_of (slice_split is_hyphen text)
    ∙ ap (λ test. is_some (if test then Some [] else each number_of (slice_split is_hyphen text))) (sym other)

-- something is read where there is something that is read
decided : {X : Type 0} (P : X → Type 0) (read : Option X) → ((x : X) → read ≡ Some x → P x) → ((x : X) → P x → read ≡ Some x) → Decides (is_some read) ((x : X) × P x)
decided P None found again = (λ some. absurd (false≢true some), λ there. absurd (none-some there.0 (again there.0 there.1)))
decided P (Some x) found again = (λ some. (x, found x refl), λ there. refl)

pub sheet_decided : (text : List ℕ) → Decides (is_some (sheet_of text)) (SpellsSomeSheet text)
sheet_decided text = decided (SpellsSheet text) (sheet_of text) (sheet_of-found text) (sheet-only text (sheet_of text) refl)

pub form_decided : (text : List ℕ) → Decides (is_some (cert_words_of text)) (HasForm text)
form_decided text = decided (SpellsWords text) (cert_words_of text) (cert_words_of-found text) (cert_words_of-text text)

pub read_exactly : (text : List ℕ) (sheet : List TrainWord) → (sheet_of text ≡ Some sheet) ↔ SpellsSheet text sheet
read_exactly text sheet = (sheet_of-found text sheet, sheet-only text (sheet_of text) refl sheet)

pub sheet_in-spelled : (text : List ℕ) (sheet : List TrainWord) → SpellsSheet text sheet → sheet_in text ≡ sheet
unfolding sheet_in
sheet_in-spelled text sheet spelled = let read = sheet-only text (sheet_of text) refl sheet spelled in rw read refl
