-- The words of a run as they are read and written.
use Rattle.std.proofs.Common.{◌≡◌, ◌≢◌, ℕ, List, [], ◌∷◌, ◌++◌, Option, None, Some, MatchOption, Result, Ok, Err, OnOk, refl, sym, ap, ◌∙◌, append_assoc, append-nil}
use Rattle.std.specs.Prelude.{codes}
use Rattle.std.specs.Borrow.{Bor}
use Rattle.rr_words.specs.Line.{words_of, line_of}
use Rattle.rr_words.proofs.LineLemmas.{line_of-words_of}
use Rattle.rr_roster.specs.declared.company.Corp.{Corp}
use Rattle.rr_roster.specs.Company.{corp_name}
use Rattle.rr_orders.specs.Scan.Words.{words_left}
use Rattle.rr_orders.specs.Scan.Company.{corp_of}
use Rattle.rr_orders.proofs.ScanLemmas.WordsLemmas.{words_of-some}
use Rattle.rr_orders.specs.Texts.{IsCertificateText, IsSheetText, added, cut_at_best, parts, sheet_text}
use Rattle.rr_orders.specs.Order.{IsOrder, spelling, text}
use Rattle.rr_orders.specs.Reading.{read_run}
use Rattle.rr_orders.specs.declared.order.Order.TheVariants.{Run, RunBest}
use Rattle.rr_orders.proofs.CutLemmas.{uncut, words_left-rest}

pub run-alone : (words rest : List (List ℕ)) (name : List ℕ) (corp : Corp) (left : Option (Bor (List ℕ))) (sheet : List ℕ) → words ≡ name ∷ rest → Some corp ≡ corp_of name → MatchOption left (rest ≡ []) (λ t. rest ≡ words_of t.now) → cut_at_best (words_left left) ≡ None → Some sheet ≡ sheet_text (words_left left) → Some (Run corp sheet) ≡ read_run words
run-alone words rest name corp left sheet is named behind none found =
    let same = words_left-rest left rest behind in
    let uncut : cut_at_best rest ≡ None = ap cut_at_best (sym same) ∙ none in
    let read : sheet_text rest ≡ Some sheet = ap sheet_text (sym same) ∙ sym found in
    rw (is, sym named, uncut, read) refl

pub best-found : (words rest : List (List ℕ)) (name : List ℕ) (corp : Corp) (left front behind : Option (Bor (List ℕ))) (sheet certificate : List ℕ) → words ≡ name ∷ rest → name ≡ corp_name corp → MatchOption left (rest ≡ []) (λ t. rest ≡ words_of t.now) → cut_at_best (words_left left) ≡ Some (words_left front, words_left behind) → IsSheetText sheet × (words_left front ≡ parts sheet) → IsCertificateText certificate × (words_left behind ≡ parts certificate) → IsOrder (RunBest corp sheet certificate) × (codes "run" ∷ words ≡ spelling (RunBest corp sheet certificate))
best-found words rest name corp left front behind sheet certificate is named after cut first second =
    let same = words_left-rest left rest after in
    let whole : rest ≡ words_left front ++ codes "best" ∷ words_left behind = uncut rest _ _ (ap cut_at_best (sym same) ∙ cut) in
    ((first.0, second.0), rw (is, named, whole, first.1, second.1) refl)

line_of-more : (name : List ℕ) (words : List (List ℕ)) → words ≢ [] → line_of (name ∷ words) ≡ name ++ 32 ∷ line_of words
line_of-more name [] some = absurd (some refl)
line_of-more name (word ∷ words) some = refl

line_of-added : (name bytes : List ℕ) → line_of (name ∷ parts bytes) ≡ name ++ added bytes
line_of-added name [] = sym (append-nil name)
line_of-added name (c ∷ rest) =
    line_of-more name (words_of (c ∷ rest)) (words_of-some (c ∷ rest)) ∙ ap (λ line. name ++ 32 ∷ line) (line_of-words_of (c ∷ rest))

line_of-join : (first : List ℕ) (words : List (List ℕ)) (next : List ℕ) (more : List (List ℕ)) → line_of (first ∷ (words ++ next ∷ more)) ≡ line_of (first ∷ words) ++ 32 ∷ line_of (next ∷ more)
line_of-join first [] next more = refl
line_of-join first (word ∷ words) next more =
    rw (line_of-join word words next more) (sym (append_assoc first (32 ∷ line_of (word ∷ words)) (32 ∷ line_of (next ∷ more))))

on-ok : {A E P Q : Type 0} (result : Result A E) → (P → Q) → OnOk result P → OnOk result Q
on-ok (Ok x) carry h = carry h
on-ok (Err e) carry h = tt

pub run-written : {A E : Type 0} (result : Result A E) (corp : Corp) (before first second after name bytes sheet : List ℕ) → first ≡ before ++ codes "run" → second ≡ first ++ 32 ∷ name → name ≡ corp_name corp → bytes ≡ sheet → OnOk result (after ≡ second ++ added bytes) → OnOk result (after ≡ before ++ text (Run corp sheet))
run-written result corp before first second after name bytes sheet head named is same =
    on-ok result (λ written.
    written
    ∙ ap (λ b. second ++ added b) same
    ∙ ap (λ s. s ++ added sheet) (named ∙ ap (λ f. f ++ 32 ∷ name) head ∙ ap (λ n. (before ++ codes "run") ++ 32 ∷ n) is)
    ∙ append_assoc (before ++ codes "run") (32 ∷ corp_name corp) (added sheet)
    ∙ append_assoc before (codes "run") (32 ∷ (corp_name corp ++ added sheet))
    ∙ ap (λ line. before ++ (codes "run" ++ 32 ∷ line)) (sym (line_of-added (corp_name corp) sheet)))

pub best-written : {A E : Type 0} (result : Result A E) (corp : Corp) (before first second after bytes sheet certificate : List ℕ) → first ≡ before ++ text (Run corp sheet) → second ≡ first ++ 32 ∷ codes "best" → bytes ≡ certificate → OnOk result (after ≡ second ++ added bytes) → OnOk result (after ≡ before ++ text (RunBest corp sheet certificate))
best-written result corp before first second after bytes sheet certificate head marked same =
    let run = text (Run corp sheet) in
    on-ok result (λ written.
    written
    ∙ ap (λ b. second ++ added b) same
    ∙ ap (λ s. s ++ added certificate) (marked ∙ ap (λ f. f ++ 32 ∷ codes "best") head)
    ∙ append_assoc (before ++ run) (32 ∷ codes "best") (added certificate)
    ∙ append_assoc before run (32 ∷ (codes "best" ++ added certificate))
    ∙ ap (λ line. before ++ (run ++ 32 ∷ line)) (sym (line_of-added (codes "best") certificate))
    ∙ ap (λ line. before ++ line) (sym (line_of-join (codes "run") (corp_name corp ∷ parts sheet) (codes "best") (parts certificate))))
