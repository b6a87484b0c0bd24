-- A number's bytes tell the number, and a number's bytes are those that it was read from.
use Rattle.std.proofs.Common.{◌≡◌, ℕ, zero, suc, ◌+◌, ◌*◌, ◌^◌, ◌<◌, List, [], ◌∷◌, ◌++◌, length, refl, sym, ap, ◌∙◌, arith}
use Rattle.std.specs.Prelude.{◌≢◌, MatchOption, Option, None, Some}
use Rattle.std.specs.Int.{byte_at, bytes_high_first}
use Rattle.std.proofs.Math.Nat.{mod-lt}
use Rattle.std.proofs.lemmas.Nat.{same_from_place}
use Rattle.std.proofs.lemmas.List.{append-nil, length-append}
use Rattle.byteorder.specs.Endian.{big_from, big_number, big_bytes}
use Rattle.byteorder.specs.Numbers.{big_from-cons, big_from-lt, big_number-reads_back, length-bytes_high_first}
use Rattle.rr_words.specs.Spelling.Number.{AreBytes, spelled_number}

byte_at-lt : (k x : ℕ) → byte_at k x < 256
byte_at-lt zero x = mod-lt x (omega arith)
byte_at-lt (suc k) x = mod-lt _ (omega arith)

are_bytes : (n x : ℕ) → AreBytes (bytes_high_first n x)
are_bytes zero x k = omega arith
are_bytes (suc n) x zero = byte_at-lt n x
are_bytes (suc n) x (suc k) = are_bytes n x k

-- bytes that are the same number are the same
same_bytes : (xs ys : List ℕ) → length xs ≡ length ys → AreBytes xs → AreBytes ys → big_from 0 (length xs) xs ≡ big_from 0 (length xs) ys → xs ≡ ys
same_bytes [] [] len a b h = refl
same_bytes [] (y ∷ ys) len a b h = absurd (omega (arith, len))
same_bytes (x ∷ xs) [] len a b h = absurd (omega (arith, len))
same_bytes (x ∷ xs) (y ∷ ys) len a b h =
    let n = length xs in
    let same : x * 256 ^ n + big_from 0 n xs ≡ y * 256 ^ n + big_from 0 n ys =
    ap (λ (r : ℕ). x * 256 ^ n + r) (sym (big_from-cons 0 n x xs)) ∙ h ∙ ap (λ (r : ℕ). y * 256 ^ n + r) (big_from-cons 0 n y ys) in
    let parts = same_from_place x (big_from 0 n xs) y (big_from 0 n ys) (256 ^ n) (big_from-lt 0 n xs (λ k. a (suc k))) (big_from-lt 0 n ys (λ k. b (suc k))) same in
    let rest : xs ≡ ys = same_bytes xs ys (omega (arith, len)) (λ k. a (suc k)) (λ k. b (suc k)) parts.1 in
    λ i. parts.0 i ∷ rest i

pub length-spelled_number : (n x : ℕ) → length (spelled_number n x) ≡ n
unfolding spelled_number
length-spelled_number n x = length-bytes_high_first n x

-- the bytes that a number was read from
spelled_whole : (xs : List ℕ) → AreBytes xs → xs ≡ spelled_number (length xs) (big_number (length xs) xs)
unfolding spelled_number
spelled_whole xs a =
    let n = length xs in
    let x = big_number n xs in
    let back : big_from 0 n (big_bytes n x) ≡ x = big_from-whole n x (big_from-lt 0 n xs a) in
    same_bytes xs (big_bytes n x) (sym (length-bytes_high_first n x)) a (are_bytes n x) (sym back)
  where
    big_from-whole : (n x : ℕ) → x < 256 ^ n → big_from 0 n (big_bytes n x) ≡ x
    big_from-whole n x small = ap (big_from 0 n) (sym (append-nil (big_bytes n x))) ∙ big_number-reads_back n x [] small

pub spelled_number-read : (n x : ℕ) (front : List ℕ) → length front ≡ n → AreBytes front → x ≡ big_number n front → front ≡ spelled_number n x
spelled_number-read n x front len a read =
    spelled_whole front a ∙ ap (λ (m : ℕ). spelled_number m (big_number m front)) len ∙ ap (spelled_number n) (sym read)

-- fewer bytes than a number has don't begin with one
pub number_or_short : (n bound : ℕ) (o : Option ℕ) (old new : List ℕ)
    → MatchOption o (length old < n) (λ x. (x < bound) × (old ≡ spelled_number n x ++ new))
    → MatchOption o ((x : ℕ) (rest : List ℕ) → x < bound → old ≢ spelled_number n x ++ rest) (λ x. (x < bound) × (old ≡ spelled_number n x ++ new))
number_or_short n bound None old new h = λ x rest small same. omega (arith, h, ap length same, length-append (spelled_number n x) rest, length-spelled_number n x)
number_or_short n bound (Some x) old new h = h
