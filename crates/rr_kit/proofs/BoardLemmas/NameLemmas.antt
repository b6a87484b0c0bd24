-- The corporation and the private of a name.
use Rattle.std.proofs.Common.{◌≡◌, ℕ, Bool, true, false, List, Option, None, Some, refl}
use Rattle.std.specs.Prelude.{IfSome, bytes_eq}
use Rattle.std.proofs.lemmas.Slice.Eq.{bytes_eq-Decides}
use Rattle.rr_roster.specs.declared.company.Corp.{Corp}
use Rattle.rr_roster.specs.declared.company.Corp.TheVariants as C
use Rattle.rr_roster.specs.declared.company.Private.{Private}
use Rattle.rr_roster.specs.declared.company.Private.TheVariants as P
use Rattle.rr_roster.specs.Company.{corp_name, private_name}
use Rattle.rr_kit.specs.Board.Words.{corp_of, private_of}

pub corp_named : (x : Corp) → Some x ≡ corp_of (corp_name x)
corp_named C.Prr = refl
corp_named C.Nyc = refl
corp_named C.Cpr = refl
corp_named C.Bo = refl
corp_named C.Co = refl
corp_named C.Erie = refl
corp_named C.Nynh = refl
corp_named C.Bm = refl

pub private_named : (x : Private) → Some x ≡ private_of (private_name x)
private_named P.Sv = refl
private_named P.Csl = refl
private_named P.Dh = refl
private_named P.Mh = refl
private_named P.Ca = refl
private_named P.Bo = refl

false_if_not : (b : Bool) → (b ≡ true → ⊥) → b ≡ false
false_if_not true h = absurd (h refl)
false_if_not false h = refl

-- a word that isn't the name fails the test for it
not_named : (word name : List ℕ) → (word ≡ name → ⊥) → bytes_eq word name ≡ false
not_named word name h = false_if_not (bytes_eq word name) (λ e. h ((bytes_eq-Decides word name).0 e))

pub corp_found : (word : List ℕ) (read : Option Corp) → IfSome read (λ x. word ≡ corp_name x) → ((x : Corp) → word ≡ corp_name x → read ≡ Some x) → read ≡ corp_of word
corp_found word (Some x) found only = rw found (corp_named x)
corp_found word None found only =
    let other : (x : Corp) → bytes_eq word (corp_name x) ≡ false = λ x. not_named word (corp_name x) (λ e. let n = only x e in cc) in
    rw (other C.Prr, other C.Nyc, other C.Cpr, other C.Bo, other C.Co, other C.Erie, other C.Nynh, other C.Bm) refl

pub private_found : (word : List ℕ) (read : Option Private) → IfSome read (λ x. word ≡ private_name x) → ((x : Private) → word ≡ private_name x → read ≡ Some x) → read ≡ private_of word
private_found word (Some x) found only = rw found (private_named x)
private_found word None found only =
    let other : (x : Private) → bytes_eq word (private_name x) ≡ false = λ x. not_named word (private_name x) (λ e. let n = only x e in cc) in
    rw (other P.Sv, other P.Csl, other P.Dh, other P.Mh, other P.Ca, other P.Bo) refl
