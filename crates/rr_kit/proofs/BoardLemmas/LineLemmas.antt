-- How many words a line has.
use Rattle.std.proofs.Common.{◌≡◌, ◌-◌, ◌<◌, ◌≤◌, ℕ, List, [], ◌∷◌, length, map, get_or, take, drop, None, option_and_then, refl, ap, arith, Bor}
use Rattle.std.proofs.lemmas.List.{take_rest}
use Rattle.rr_kit.specs.Board.Lines.{add_hex, hex_of, with_hex}
use Rattle.rr_kit.specs.Board.Plan.{Plan}

-- a line of a hex has at least three words
pub add_hex-short : (plan : Plan) (words : List (Bor (List ℕ))) → length words < 3 → None ≡ add_hex plan (map (λ word. word.now) words)
add_hex-short plan [] h = refl
add_hex-short plan (name ∷ []) h = refl
add_hex-short plan (name ∷ place ∷ []) h = refl
add_hex-short plan (name ∷ place ∷ colour ∷ rest) h = absurd (omega arith)

pub add_hex-long : (plan : Plan) (words : List (Bor (List ℕ))) (a b c : Bor (List ℕ)) → 3 ≤ length words → option_and_then (with_hex plan) (hex_of (get_or words 0 a).now (get_or words 1 b).now (get_or words 2 c).now (map (λ word. word.now) (take (length words - 3) (drop 3 words)))) ≡ add_hex plan (map (λ word. word.now) words)
add_hex-long plan [] a b c h = absurd (omega arith)
add_hex-long plan (name ∷ []) a b c h = absurd (omega arith)
add_hex-long plan (name ∷ place ∷ []) a b c h = absurd (omega arith)
add_hex-long plan (name ∷ place ∷ colour ∷ rest) a b c h =
    ap (λ (words : List (Bor (List ℕ))). option_and_then (with_hex plan) (hex_of name.now place.now colour.now (map (λ word. word.now) words)))
    (take_rest (name ∷ place ∷ colour ∷ rest) 3)
