-- A number's bytes tell the number, and what was written stays.
use Rattle.std.proofs.Common.{◌≡◌, ℕ, ◌^◌, ◌<◌, ◌≤◌, List, ◌++◌, length, take, refl, sym, ap, ◌∙◌, arith}
use Rattle.std.proofs.lemmas.List.{append_cancel_left, take-take, take_at, length-append}
use Rattle.byteorder.specs.Endian.{big_number}
use Rattle.byteorder.specs.Numbers.{big_number-reads_back}
use Rattle.rr_reading.specs.Dir.Number.{Continues}
use Rattle.rr_words.specs.Spelling.Number.{spelled_number}

pub big_number-spelled : (n x : ℕ) (rest : List ℕ) → x < 256 ^ n → big_number n (spelled_number n x ++ rest) ≡ x
unfolding spelled_number
big_number-spelled n x rest small = big_number-reads_back n x rest small

-- equal bytes that begin with numbers begin with the same number
pub cut_number : (n x y : ℕ) (r s : List ℕ) → x < 256 ^ n → y < 256 ^ n → spelled_number n x ++ r ≡ spelled_number n y ++ s → (x ≡ y) × (r ≡ s)
cut_number n x y r s small_x small_y same =
    let number : x ≡ y = sym (big_number-spelled n x r small_x) ∙ ap (big_number n) same ∙ big_number-spelled n y s small_y in
    (number, append_cancel_left (spelled_number n x) r s (same ∙ ap (λ (z : ℕ). spelled_number n z ++ s) (sym number)))

-- what was written stays where more was written behind it
pub Continues-added : (before added mid after : List ℕ) → mid ≡ before ++ added → Continues mid after → Continues before after
Continues-added before added mid after written kept =
    let within : length before ≤ length mid = omega (arith, ap length written, length-append before added) in
    sym (take-take (length before) (length mid) after within)
    ∙ ap (take (length before)) (kept ∙ written)
    ∙ take_at before added (length before) refl
