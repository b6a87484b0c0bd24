-- Seats and places as bytes.
use Rattle.std.specs.Prelude.{◌≡◌, ℕ, ◌<◌, ◌^◌, List, [], ◌∷◌, ◌++◌, refl, get_or}
use Rattle.std.proofs.Common.{ap, arith}
use Rattle.rr_words.specs.Spelling.Form.{Form, byte_form, form_by}
use Rattle.rr_roster.specs.Company.{corp_index}
use Rattle.rr_roster.specs.Bytes.{corp_one_way}
use Rattle.rr_books.specs.declared.parties.Seat.{Seat}
use Rattle.rr_books.specs.declared.parties.Place.{Place}
use Rattle.rr_books.specs.declared.parties.Place.TheVariants as L

-- which of the five kinds of place it is, and behind it the seat or the corporation
abbrev pub spelled_place : Place → List ℕ
spelled_place L.Offer = 0 ∷ []
spelled_place L.Pool = 1 ∷ []
spelled_place L.Gone = 2 ∷ []
spelled_place (L.Seat s) = 3 ∷ s.0 ∷ []
spelled_place (L.Corp c) = 4 ∷ corp_index c ∷ []

-- a seat has a number of one byte
abbrev pub PlaceFits : Place → Type 0
PlaceFits (L.Seat s) = s.0 < 2 ^ 8
PlaceFits _ = Unit {0}

pub seat_one_way : (s t : Seat) (r rest : List ℕ) → s.0 ∷ [] ++ r ≡ t.0 ∷ [] ++ rest → (s ≡ t) × (r ≡ rest)
seat_one_way s t r rest same =
    let number : s.0 ≡ t.0 = cc in
    (λ i. record { 0 = number i }, cc)

-- equal bytes begin with the same byte
first : {xs ys : List ℕ} → xs ≡ ys → get_or xs 0 0 ≡ get_or ys 0 0
first same = ap (λ (z : List ℕ). get_or z 0 0) same

pub place_one_way : (p q : Place) (r s : List ℕ) → spelled_place p ++ r ≡ spelled_place q ++ s → (p ≡ q) × (r ≡ s)
place_one_way L.Offer L.Offer r s same = (refl, cc)
place_one_way L.Pool L.Pool r s same = (refl, cc)
place_one_way L.Gone L.Gone r s same = (refl, cc)
place_one_way (L.Seat c) (L.Seat d) r s same = let one = seat_one_way c d r s (cc) in (ap L.Seat one.0, one.1)
place_one_way (L.Corp c) (L.Corp d) r s same = let one = corp_one_way c d r s (cc) in (ap L.Corp one.0, one.1)
place_one_way p q r s same = absurd (omega (arith, first same))

abbrev pub seat_form : Form Seat
seat_form = form_by byte_form (λ s. s.0) (λ n. record { 0 = n }) (λ s. refl)

abbrev pub place_form : Form Place
place_form = record { spelling = spelled_place; Fits = PlaceFits; one_way = λ p q r s fits_p fits_q same. place_one_way p q r s same }
