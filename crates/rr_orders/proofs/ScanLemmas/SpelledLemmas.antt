-- Words are read as what they spell.
use Rattle.std.proofs.Common.{◌≡◌, ℕ, ◌^◌, ◌<◌, Some, refl}
use Rattle.std.specs.Fmt.{decimal}
use Rattle.rr_words.specs.Numeral.{number_of}
use Rattle.rr_words.proofs.NumeralLemmas.{number_of-SpellsNumber}
use Rattle.rr_roster.specs.declared.company.Corp.{Corp}
use Rattle.rr_roster.specs.declared.company.Corp.TheVariants as C
use Rattle.rr_roster.specs.declared.company.Private.{Private}
use Rattle.rr_roster.specs.declared.company.Private.TheVariants as P
use Rattle.rr_roster.specs.Company.{corp_name, private_name}
use Rattle.rr_orders.specs.Scan.Company.{corp_of, private_of}

pub read-number : (n : ℕ) → n < 10 ^ 10 → number_of (decimal n) ≡ Some n
read-number n h = number_of-SpellsNumber (decimal n) n (record { digits = refl; ten_digits = h })

pub private_of-name : (private : Private) → private_of (private_name private) ≡ Some private
private_of-name P.Sv = refl
private_of-name P.Csl = refl
private_of-name P.Dh = refl
private_of-name P.Mh = refl
private_of-name P.Ca = refl
private_of-name P.Bo = refl

pub corp_of-name : (corp : Corp) → corp_of (corp_name corp) ≡ Some corp
corp_of-name C.Prr = refl
corp_of-name C.Nyc = refl
corp_of-name C.Cpr = refl
corp_of-name C.Bo = refl
corp_of-name C.Co = refl
corp_of-name C.Erie = refl
corp_of-name C.Nynh = refl
corp_of-name C.Bm = refl
