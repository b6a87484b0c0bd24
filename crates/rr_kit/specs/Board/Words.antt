-- What single words of a board's text spell.
use Rattle.std.specs.Prelude.{ℕ, ◌==◌, ◌&&◌, List, [], ◌∷◌, if◌then◌else◌, Option, None, Some, option_map, option_and_then, bytes_eq, codes, ℤ, pos, neg_ℤ}
use Rattle.rr_words.specs.Numeral.{small_number_of}
use Rattle.rr_roster.specs.declared.company.Corp.{Corp}
use Rattle.rr_roster.specs.declared.company.Corp.TheVariants as C
use Rattle.rr_roster.specs.declared.company.Private.{Private}
use Rattle.rr_roster.specs.declared.company.Private.TheVariants as P
use Rattle.rr_roster.specs.Company.{corp_name, private_name}
use Rattle.rr_tiles.specs.Reading.{cut_of}
use Rattle.rr_kit.specs.declared.board.hex.Place.{Place}
use Rattle.rr_kit.specs.declared.board.hex.Colour.{Colour}
use Rattle.rr_kit.specs.declared.board.hex.Colour.TheVariants.{White, Yellow, Green, Brown, Grey, Red}

-- a number from 0 to 50, or a minus and one from 1 to 50
abbrev pub coordinate_of : List ℕ → Option ℤ
coordinate_of [] = None
coordinate_of (first ∷ rest) =
    if first == 45 then option_map (λ n. neg_ℤ (pos n)) (small_number_of rest 1 50)
    else option_map (λ n. pos n) (small_number_of (first ∷ rest) 0 50)

-- two coordinates with a comma between them
abbrev pub place_in : List ℕ × List ℕ → Option Place
place_in words = option_and_then (λ q. option_map (λ r. record { q = q; r = r }) (coordinate_of words.1)) (coordinate_of words.0)

abbrev pub place_of : List ℕ → Option Place
place_of word = option_and_then place_in (cut_of 44 word)

abbrev pub colour_of : List ℕ → Option Colour
colour_of word =
    if bytes_eq word (codes "white") then Some White
    else if bytes_eq word (codes "yellow") then Some Yellow
    else if bytes_eq word (codes "green") then Some Green
    else if bytes_eq word (codes "brown") then Some Brown
    else if bytes_eq word (codes "grey") then Some Grey
    else if bytes_eq word (codes "red") then Some Red
    else None

-- what stands behind `st=`
abbrev pub behind_st : List ℕ → Option (List ℕ)
behind_st [] = None
behind_st (s ∷ []) = None
behind_st (s ∷ t ∷ []) = None
behind_st (s ∷ t ∷ sign ∷ rest) = if s == 115 && (t == 116 && sign == 61) then Some rest else None

-- what stands behind `cost=`
abbrev pub behind_cost : List ℕ → Option (List ℕ)
behind_cost [] = None
behind_cost (c ∷ []) = None
behind_cost (c ∷ o ∷ rest) = if c == 99 && o == 111 then behind_st rest else None

abbrev pub cost_in : List (List ℕ) → List ℕ → Option (List ℕ) → Option (ℕ × List (List ℕ))
cost_in rest word None = Some (0, word ∷ rest)
cost_in rest word (Some digits) = option_map (λ cost. (cost, rest)) (small_number_of digits 0 500)

-- the cost, which is 0 where no word names it, and the words of the tile
abbrev pub cost_and_tile : List (List ℕ) → Option (ℕ × List (List ℕ))
cost_and_tile [] = Some (0, [])
cost_and_tile (word ∷ rest) = cost_in rest word (behind_cost word)

-- the corporation of a name
abbrev pub corp_of : List ℕ → Option Corp
corp_of word =
    if bytes_eq word (corp_name C.Prr) then Some C.Prr
    else if bytes_eq word (corp_name C.Nyc) then Some C.Nyc
    else if bytes_eq word (corp_name C.Cpr) then Some C.Cpr
    else if bytes_eq word (corp_name C.Bo) then Some C.Bo
    else if bytes_eq word (corp_name C.Co) then Some C.Co
    else if bytes_eq word (corp_name C.Erie) then Some C.Erie
    else if bytes_eq word (corp_name C.Nynh) then Some C.Nynh
    else if bytes_eq word (corp_name C.Bm) then Some C.Bm
    else None

-- the private of a name
abbrev pub private_of : List ℕ → Option Private
private_of word =
    if bytes_eq word (private_name P.Sv) then Some P.Sv
    else if bytes_eq word (private_name P.Csl) then Some P.Csl
    else if bytes_eq word (private_name P.Dh) then Some P.Dh
    else if bytes_eq word (private_name P.Mh) then Some P.Mh
    else if bytes_eq word (private_name P.Ca) then Some P.Ca
    else if bytes_eq word (private_name P.Bo) then Some P.Bo
    else None
