-- Lemmas on the bytes of a table's players.
use Rattle.std.proofs.Common.{◌≡◌, ℕ, ◌+◌, ◌<◌, true, false, List, [], ◌∷◌, ◌++◌, length, take, set, sym, ap, ◌∙◌, arith, append_assoc}
use Rattle.std.specs.List.{AllByRecursion, flat_map, list_all}
use Rattle.std.proofs.lemmas.Bool.Decides.{nat_tests}
use Rattle.std.proofs.lemmas.List.{flat_map_more, take_more_set}
use Rattle.rr_words.specs.Spelling.OneWay.{next_of_row, word_one_way}
use Rattle.rr_words.specs.Name.{is_player_name, IsPlayerName}
use Rattle.rr_code.specs.Bytes.{players_one_way, spelled_name, spelled_players}
use Rattle.rr_code.specs.Players.{ArePlayers, all_different}

each_player : (names : List (List ℕ)) → list_all is_player_name names ≡ true → AllByRecursion IsPlayerName names
each_player [] h = tt
each_player (name ∷ names) h =
    let first : is_player_name name ≡ true = grind (arith, nat_tests) in
    let others : list_all is_player_name names ≡ true = grind (arith, nat_tests) in
    (first, each_player names others)

players-all : (names : List (List ℕ)) → ArePlayers names → list_all is_player_name names ≡ true
players-all names h = grind (arith, nat_tests)

players-different : (names : List (List ℕ)) → ArePlayers names → all_different names ≡ true
players-different names h = grind (arith, nat_tests)

-- where fewer names were read than there are, the next one stands behind them
pub next_name : (taken names : List (List ℕ)) (count : ℕ) (bytes left rest : List ℕ) → list_all is_player_name taken ≡ true → ArePlayers names → length taken < count
    → bytes ≡ count ∷ (flat_map spelled_name taken ++ left) → bytes ≡ spelled_players names ++ rest
    → (name : List ℕ) × (behind : List ℕ) × IsPlayerName name × (left ≡ spelled_name name ++ behind)
next_name taken names count bytes left rest players are fewer read same =
    let all : length names ≡ count = cc in
    let behind : flat_map spelled_name taken ++ left ≡ flat_map spelled_name names ++ rest = cc in
    next_of_row spelled_name IsPlayerName (λ v w r s _ _ equal. word_one_way v w r s equal) taken names left rest (omega arith) (each_player taken players) (each_player names (players-all names are)) behind

-- where all names were read and two of them are equal, no players stand there
pub no_players : (taken names : List (List ℕ)) (count : ℕ) (bytes left rest : List ℕ) → length taken ≡ count → all_different taken ≡ false → ArePlayers names
    → bytes ≡ count ∷ (flat_map spelled_name taken ++ left) → bytes ≡ spelled_players names ++ rest → ⊥
no_players taken names count bytes left rest all equal are read same =
    let whole : bytes ≡ spelled_players taken ++ left = read ∙ ap (λ (n : ℕ). n ∷ (flat_map spelled_name taken ++ left)) (sym all) in
    let one : taken ≡ names = (players_one_way taken names left rest (sym whole ∙ same)).0 in
    let different : all_different names ≡ true = players-different names are in
    let again : all_different taken ≡ all_different names = ap all_different one in
    cc

-- one more name
pub front_more : (count at : ℕ) (names : List (List ℕ)) (name bytes mid left : List ℕ) → at < length names
    → bytes ≡ count ∷ (flat_map spelled_name (take at names) ++ mid) → mid ≡ spelled_name name ++ left
    → bytes ≡ count ∷ (flat_map spelled_name (take (at + 1) (set names at name)) ++ left)
front_more count at names name bytes mid left within read next =
    let row : flat_map spelled_name (take at names) ++ mid ≡ flat_map spelled_name (take (at + 1) (set names at name)) ++ left =
    ap (λ (z : List ℕ). flat_map spelled_name (take at names) ++ z) next
    ∙ sym (append_assoc (flat_map spelled_name (take at names)) (spelled_name name) left)
    ∙ ap (λ (z : List ℕ). z ++ left) (flat_map_more spelled_name [] (take at names) name)
    ∙ ap (λ (z : List (List ℕ)). flat_map spelled_name z ++ left) (sym (take_more_set names at name within)) in
    read ∙ ap (λ (z : List ℕ). count ∷ z) row
