-- The players of a table as bytes.
use Rattle.std.specs.Prelude.{◌≡◌, ℕ, List, [], ◌∷◌, ◌++◌, length, refl}
use Rattle.std.specs.List.{AllByRecursion, flat_map}
use Rattle.rr_words.specs.Spelling.Form.{Form}
use Rattle.rr_words.specs.Spelling.OneWay.{row_one_way, word_one_way}
use Rattle.rr_code.specs.Players.{ArePlayers}

-- a name behind its length
abbrev pub spelled_name : List ℕ → List ℕ
spelled_name name = length name ∷ name

-- how many names there are, in a byte, and each of them
abbrev pub spelled_players : List (List ℕ) → List ℕ
spelled_players names = length names ∷ flat_map spelled_name names

-- nothing is asked of a name
anything : List ℕ → Type 0
anything _ = Unit {0}

each : (names : List (List ℕ)) → AllByRecursion anything names
unfolding anything
each [] = tt
each (name ∷ names) = (tt, each names)

pub players_one_way : (names others : List (List ℕ)) (r s : List ℕ) → spelled_players names ++ r ≡ spelled_players others ++ s → (names ≡ others) × (r ≡ s)
players_one_way names others r s same =
    let count : length names ≡ length others = cc in
    let behind : flat_map spelled_name names ++ r ≡ flat_map spelled_name others ++ s = cc in
    row_one_way spelled_name anything (λ v w r s _ _ same. word_one_way v w r s same) names others r s count (each names) (each others) behind

-- two to six different names of players
abbrev pub players_form : Form (List (List ℕ))
players_form = record { spelling = spelled_players; Fits = ArePlayers; one_way = λ names others r s fits fit same. players_one_way names others r s same }
