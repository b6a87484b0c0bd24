-- Each text is read as the order that it spells.
use Rattle.std.proofs.Common.{◌≡◌, ℕ, ◌≤◌, lit≤, true, not, List, [], ◌∷◌, length, Option, None, Some, IfSome, is_some, refl, sym, ap, ◌∙◌, arith, inl, inr}
use Rattle.std.specs.Prelude.{codes, bytes_eq}
use Rattle.std.specs.List.{list_all}
use Rattle.std.proofs.lemmas.Bool.{and_parts, cases_Bool, false≢true}
use Rattle.std.proofs.lemmas.Bool.Decides.{nat_tests}
use Rattle.std.proofs.lemmas.Slice.Eq.{bytes_eq-Decides}
use Rattle.rr_words.specs.Line.{is_space, words_of}
use Rattle.rr_words.specs.Name.{IsHexName, is_hex_name_character}
use Rattle.rr_words.proofs.NumeralLemmas.{small_number_of-decimal}
use Rattle.rr_roster.specs.Company.{kind_name}
use Rattle.rr_roster.specs.declared.company.Kind.{Kind}
use Rattle.rr_roster.specs.declared.company.Kind.TheVariants as K
use Rattle.rr_orders.proofs.ScanLemmas.SpelledLemmas.{corp_of-name, private_of-name, read-number}
use Rattle.rr_orders.proofs.ScanLemmas.UnspacedLemmas.{corp-unspaced, decimal-unspaced, list_all-weaker, player-unspaced, private-unspaced}
use Rattle.rr_orders.proofs.ScanLemmas.WordsLemmas.{are_unspaced, is_unspaced, line_of-words, words_of-line}
use Rattle.rr_routes.specs.Sheets.Reading.{train_of}
use Rattle.rr_routes.proofs.SheetsLemmas.FormLemmas.{sheet_told}
use Rattle.rr_orders.specs.Texts.{IsCertificateText, IsSheetText, certificate_text, is_other, parts, sheet_text}
use Rattle.rr_orders.specs.Order.{IsOrder, SpellsOrder, source_word, spelling}
use Rattle.rr_orders.specs.Reading.{read_order, source_of}
use Rattle.rr_orders.specs.declared.order.Order.{Order}
use Rattle.rr_orders.specs.declared.order.Order.TheVariants.{Lay, Station, Run, RunBest, PayOut, Hold, BuyTrain, BuyTrainFrom, Trade, Discard, TakePrivate, End, Force, Raise, Bankrupt}
use Rattle.rr_roster.specs.declared.sources.TrainSource.{TrainSource}
use Rattle.rr_roster.specs.declared.sources.TrainSource.TheVariants as S
use Rattle.rr_orders.proofs.CutLemmas.{cut-found, cut-none, list_all-joined, words_of-unspaced}
use Rattle.rr_orders.proofs.SpelledLemmas.{certificate_text-told, kind_of-name, sheet_text-told}

source_of-word : (source : TrainSource) → source_of (source_word source) ≡ Some source
source_of-word S.Bank = refl
source_of-word S.Pool = refl

-- no train's word is `best`
train-other : (word : List ℕ) → is_some (train_of word) ≡ true → is_other word ≡ true
train-other word h =
    elim (cases_Bool (bytes_eq word (codes "best"))) [
      | inl same ↦ absurd (false≢true (ap (λ w. is_some (train_of w)) (sym ((bytes_eq-Decides word (codes "best")).0 same)) ∙ h))
      | inr other ↦ rw other refl
    ]

parts-trains : (sheet : List ℕ) → IsSheetText sheet → list_all (λ word. is_some (train_of word)) (parts sheet) ≡ true
parts-trains [] h = refl
parts-trains (c ∷ rest) h = sheet_told (c ∷ rest) (omega arith) ∙ h

parts-others : (sheet : List ℕ) → IsSheetText sheet → list_all is_other (parts sheet) ≡ true
parts-others sheet h = list_all-weaker (λ word. is_some (train_of word)) is_other train-other (parts sheet) (parts-trains sheet h)

sheet_text-parts : (sheet : List ℕ) → IsSheetText sheet → sheet_text (parts sheet) ≡ Some sheet
sheet_text-parts [] h = refl
sheet_text-parts (c ∷ rest) h = sheet_text-told (c ∷ rest) (omega arith) ∙ (rw h refl)

certificate_text-parts : (certificate : List ℕ) → IsCertificateText certificate → certificate_text (parts certificate) ≡ Some certificate
certificate_text-parts [] h = refl
certificate_text-parts (c ∷ rest) h = certificate_text-told (c ∷ rest) (omega arith) ∙ (rw h refl)

pub read-order : (order : Order) → IsOrder order → read_order (spelling order) ≡ Some order
read-order (Lay corp hex tile turn) h =
    rw (corp_of-name corp, h.0, small_number_of-decimal tile 1 999 (omega (arith, h.2)) h.1 h.2, small_number_of-decimal turn 0 5 (omega (arith, h.3)) (omega arith) h.3) refl
read-order (Station corp hex centre) h = rw (corp_of-name corp, h.0, read-number centre h.1) refl
read-order (Run corp sheet) h = rw (corp_of-name corp, cut-none (parts sheet) (parts-others sheet h), sheet_text-parts sheet h) refl
read-order (RunBest corp sheet certificate) h =
    rw (corp_of-name corp, cut-found (parts sheet) (parts certificate) (parts-others sheet h.0), sheet_text-parts sheet h.0, certificate_text-parts certificate h.1) refl
read-order (PayOut corp) h = rw (corp_of-name corp) refl
read-order (Hold corp) h = rw (corp_of-name corp) refl
read-order (BuyTrain corp kind source) h = rw (corp_of-name corp, kind_of-name kind, source_of-word source) refl
read-order (BuyTrainFrom corp kind seller price buyer_president seller_president) h =
    rw (corp_of-name corp, kind_of-name kind, corp_of-name seller, read-number price h.0, h.1, h.2) refl
read-order (Trade corp kind) h = rw (corp_of-name corp, kind_of-name kind) refl
read-order (Discard corp kind) h = rw (corp_of-name corp, kind_of-name kind) refl
read-order (TakePrivate corp private price) h = rw (corp_of-name corp, private_of-name private, read-number price h) refl
read-order (End corp) h = rw (corp_of-name corp) refl
read-order (Force corp) h = rw (corp_of-name corp) refl
read-order (Raise player corp count) h = rw (h.0, corp_of-name corp, read-number count h.1) refl
read-order (Bankrupt player) h = rw h refl

source-unspaced : (source : TrainSource) → is_unspaced (source_word source) ≡ true
source-unspaced S.Bank = refl
source-unspaced S.Pool = refl

kind-unspaced : (kind : Kind) → is_unspaced (kind_name kind) ≡ true
kind-unspaced K.Two = refl
kind-unspaced K.Three = refl
kind-unspaced K.Four = refl
kind-unspaced K.Five = refl
kind-unspaced K.Six = refl
kind-unspaced K.Diesel = refl

character-unspaced : (c : ℕ) → is_hex_name_character c ≡ true → not (is_space c) ≡ true
character-unspaced c h = grind (arith, nat_tests)

hex-unspaced : (hex : List ℕ) → IsHexName hex → is_unspaced hex ≡ true
hex-unspaced hex h = list_all-weaker is_hex_name_character (λ c. not (is_space c)) character-unspaced hex (and_parts _ _ h).1

parts-unspaced : (bytes : List ℕ) → are_unspaced (parts bytes) ≡ true
parts-unspaced [] = refl
parts-unspaced (c ∷ rest) = words_of-unspaced (c ∷ rest)

pub spelling-unspaced : (order : Order) → IsOrder order → are_unspaced (spelling order) ≡ true
spelling-unspaced (Lay corp hex tile turn) h =
    rw (corp-unspaced corp, hex-unspaced hex h.0, decimal-unspaced tile (omega (arith, h.2)), decimal-unspaced turn (omega (arith, h.3))) refl
spelling-unspaced (Station corp hex centre) h = rw (corp-unspaced corp, hex-unspaced hex h.0, decimal-unspaced centre h.1) refl
spelling-unspaced (Run corp sheet) h = rw (corp-unspaced corp) (parts-unspaced sheet)
spelling-unspaced (RunBest corp sheet certificate) h =
    rw (corp-unspaced corp) (list_all-joined is_unspaced (parts sheet) (codes "best" ∷ parts certificate) (parts-unspaced sheet) (parts-unspaced certificate))
spelling-unspaced (PayOut corp) h = rw (corp-unspaced corp) refl
spelling-unspaced (Hold corp) h = rw (corp-unspaced corp) refl
spelling-unspaced (BuyTrain corp kind source) h = rw (corp-unspaced corp, kind-unspaced kind, source-unspaced source) refl
spelling-unspaced (BuyTrainFrom corp kind seller price buyer_president seller_president) h =
    rw (corp-unspaced corp, kind-unspaced kind, corp-unspaced seller, decimal-unspaced price h.0, player-unspaced buyer_president h.1, player-unspaced seller_president h.2) refl
spelling-unspaced (Trade corp kind) h = rw (corp-unspaced corp, kind-unspaced kind) refl
spelling-unspaced (Discard corp kind) h = rw (corp-unspaced corp, kind-unspaced kind) refl
spelling-unspaced (TakePrivate corp private price) h = rw (corp-unspaced corp, private-unspaced private, decimal-unspaced price h) refl
spelling-unspaced (End corp) h = rw (corp-unspaced corp) refl
spelling-unspaced (Force corp) h = rw (corp-unspaced corp) refl
spelling-unspaced (Raise player corp count) h = rw (player-unspaced player h.0, corp-unspaced corp, decimal-unspaced count h.1) refl
spelling-unspaced (Bankrupt player) h = rw (player-unspaced player h) refl

pub spelling-some : (order : Order) → 1 ≤ length (spelling order)
spelling-some (Lay corp hex tile turn) = lit≤ tt
spelling-some (Station corp hex centre) = lit≤ tt
spelling-some (Run corp sheet) = omega arith
spelling-some (RunBest corp sheet certificate) = omega arith
spelling-some (PayOut corp) = lit≤ tt
spelling-some (Hold corp) = lit≤ tt
spelling-some (BuyTrain corp kind source) = lit≤ tt
spelling-some (BuyTrainFrom corp kind seller price buyer_president seller_president) = lit≤ tt
spelling-some (Trade corp kind) = lit≤ tt
spelling-some (Discard corp kind) = lit≤ tt
spelling-some (TakePrivate corp private price) = lit≤ tt
spelling-some (End corp) = lit≤ tt
spelling-some (Force corp) = lit≤ tt
spelling-some (Raise player corp count) = lit≤ tt
spelling-some (Bankrupt player) = lit≤ tt

pub read_order-text : (bytes : List ℕ) (order : Order) → SpellsOrder bytes order → read_order (words_of bytes) ≡ Some order
read_order-text bytes order h =
    rw (h.spelled, words_of-line (spelling order) (spelling-some order) (spelling-unspaced order h.is_order)) (read-order order h.is_order)

pub order-found : (bytes : List ℕ) (words : List (List ℕ)) (read : Option Order) → words ≡ words_of bytes → IfSome read (λ order. IsOrder order × (words ≡ spelling order)) → IfSome read (λ order. SpellsOrder bytes order)
order-found bytes words None of found = tt
order-found bytes words (Some order) of found =
    record { is_order = found.0; spelled = line_of-words bytes (spelling order) (sym of ∙ found.1) }

pub order-only : (bytes : List ℕ) (words : List (List ℕ)) (read : Option Order) → words ≡ words_of bytes → read ≡ read_order words → (order : Order) → SpellsOrder bytes order → read ≡ Some order
order-only bytes words read of exact order h = rw (exact, of) (read_order-text bytes order h)

pub order-unique : (bytes : List ℕ) (first second : Order) → SpellsOrder bytes first → SpellsOrder bytes second → first ≡ second
order-unique bytes first second spells_first spells_second =
    let read : read_order (words_of bytes) ≡ Some first = read_order-text bytes first spells_first in
    let again : read_order (words_of bytes) ≡ Some second = read_order-text bytes second spells_second in
    cc
