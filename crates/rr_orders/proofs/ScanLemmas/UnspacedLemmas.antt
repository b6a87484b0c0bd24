-- Words without a space: names, companies and numbers.
use Rattle.std.proofs.Common.{◌≡◌, ℕ, ◌^◌, ◌<◌, Bool, true, not, List, [], ◌∷◌, refl, arith}
use Rattle.std.specs.List.{list_all}
use Rattle.std.specs.Fmt.{decimal}
use Rattle.std.specs.Char.{is_ascii_digit}
use Rattle.std.proofs.lemmas.Fmt.{digits_decimal}
use Rattle.std.proofs.lemmas.Bool.Decides.{nat_tests}
use Rattle.rr_words.proofs.NumeralLemmas.{digits_model}
use Rattle.rr_words.specs.Line.{is_space}
use Rattle.rr_words.specs.Name.{is_name_character, is_player_name, is_letter_and_name_characters, IsTableName}
use Rattle.rr_roster.specs.declared.company.Corp.{Corp}
use Rattle.rr_roster.specs.declared.company.Corp.TheVariants as C
use Rattle.rr_roster.specs.declared.company.Private.{Private}
use Rattle.rr_roster.specs.declared.company.Private.TheVariants as P
use Rattle.rr_roster.specs.Company.{corp_name, private_name}
use Rattle.rr_orders.proofs.ScanLemmas.WordsLemmas.{is_unspaced}

-- where one test passes, a weaker one does
pub list_all-weaker : {X : Type 0} (p q : X → Bool) (weaker : (x : X) → p x ≡ true → q x ≡ true) (xs : List X) → list_all p xs ≡ true → list_all q xs ≡ true
list_all-weaker p q weaker [] h = refl
list_all-weaker p q weaker (x ∷ xs) h =
    let first : p x ≡ true = grind (arith, nat_tests) in
    let others : list_all p xs ≡ true = grind (arith, nat_tests) in
    rw (weaker x first, list_all-weaker p q weaker xs others) refl

character-unspaced : (c : ℕ) → is_name_character c ≡ true → not (is_space c) ≡ true
character-unspaced c h = grind (arith, nat_tests)

letters-unspaced : (word : List ℕ) → is_letter_and_name_characters word ≡ true → is_unspaced word ≡ true
letters-unspaced [] h = refl
letters-unspaced (first ∷ rest) h =
    let letter : not (is_space first) ≡ true = grind (arith, nat_tests) in
    let others : list_all is_name_character rest ≡ true = grind (arith, nat_tests) in
    rw (letter, list_all-weaker is_name_character (λ c. not (is_space c)) character-unspaced rest others) refl

pub table-unspaced : (word : List ℕ) → IsTableName word → is_unspaced word ≡ true
table-unspaced word h = letters-unspaced word (grind (arith, nat_tests))

pub player-unspaced : (word : List ℕ) → is_player_name word ≡ true → is_unspaced word ≡ true
player-unspaced word h = letters-unspaced word (grind (arith, nat_tests))

pub corp-unspaced : (corp : Corp) → is_unspaced (corp_name corp) ≡ true
corp-unspaced C.Prr = refl
corp-unspaced C.Nyc = refl
corp-unspaced C.Cpr = refl
corp-unspaced C.Bo = refl
corp-unspaced C.Co = refl
corp-unspaced C.Erie = refl
corp-unspaced C.Nynh = refl
corp-unspaced C.Bm = refl

pub private-unspaced : (private : Private) → is_unspaced (private_name private) ≡ true
private-unspaced P.Sv = refl
private-unspaced P.Csl = refl
private-unspaced P.Dh = refl
private-unspaced P.Mh = refl
private-unspaced P.Ca = refl
private-unspaced P.Bo = refl

digit-unspaced : (c : ℕ) → is_ascii_digit c ≡ true → not (is_space c) ≡ true
digit-unspaced c h = grind (arith, nat_tests)

pub decimal-unspaced : (n : ℕ) → n < 10 ^ 10 → is_unspaced (decimal n) ≡ true
decimal-unspaced n h =
    let wide : n < 2 ^ 64 = omega (arith, h) in
    list_all-weaker is_ascii_digit (λ c. not (is_space c)) digit-unspaced (decimal n) (digits_decimal digits_model n wide)
