-- How many bytes a game takes.
use Rattle.std.specs.List.{AllByRecursion, list_all}
use Rattle.std.proofs.Common.{◌≡◌, ℕ, true, ◌≤◌, List, [], ◌∷◌, length, refl, arith}
use Rattle.std.proofs.lemmas.Bool.Decides.{nat_tests}
use Rattle.rr_words.specs.Name.{IsPlayerName, is_player_name}
use Rattle.rr_words.specs.Spelling.Form.{word_form}
use Rattle.rr_code.specs.Bytes.{players_form}
use Rattle.rr_code.specs.Players.{ArePlayers}
use Rattle.rr_turns.specs.Bytes.{ends_form, set_fits, words_form}
use Rattle.rr_turns.specs.Counts.{words_of}
use Rattle.rr_turns.specs.Sets.{are_set}
use Rattle.rr_desk.specs.Position.Parts as position
use Rattle.rr_rules.specs.Parts as standing
use Rattle.rr_game.specs.Parts as game
use Rattle.rr_laws.proofs.SizeLemmas.FormSizes.{Takes, each-ge, each-le, form_by_takes, number_takes, pair_takes, row_takes, signed_takes, word_takes}
use Rattle.rr_laws.proofs.SizeLemmas.PartSizes.{bidding_takes, books_takes, layout_takes, market_takes, operations_takes, rounds_takes}

position_takes : Takes position.position_form 883 6620
position_takes =
    form_by_takes position.row_of position.parts_in (λ p. refl)
    (pair_takes books_takes (pair_takes bidding_takes (pair_takes market_takes (pair_takes rounds_takes (pair_takes operations_takes (pair_takes layout_takes (number_takes 4)))))))

standing_takes : Takes standing.standing_form 891 6628
standing_takes = form_by_takes standing.row_of standing.parts_in (λ p. refl) (pair_takes position_takes signed_takes)

-- of the players
name-ge : (name : List ℕ) → IsPlayerName name → 1 ≤ length name
name-ge [] is = absurd (cc)
name-ge (first ∷ rest) is = omega arith

player_takes : Takes (word_form IsPlayerName) 2 13
player_takes = word_takes IsPlayerName 1 12 name-ge (λ name is. grind (arith, nat_tests))

each_player : (names : List (List ℕ)) → list_all is_player_name names ≡ true → AllByRecursion IsPlayerName names
each_player [] all = tt
each_player (name ∷ names) all =
    let first : is_player_name name ≡ true = grind (arith, nat_tests) in
    let others : list_all is_player_name names ≡ true = grind (arith, nat_tests) in
    (first, each_player names others)

players-all : (names : List (List ℕ)) → ArePlayers names → AllByRecursion IsPlayerName names
players-all names are = each_player names (grind (arith, nat_tests))

players-ge : (names : List (List ℕ)) → ArePlayers names → 2 ≤ length names
players-ge names are = grind (arith, nat_tests)

players-le : (names : List (List ℕ)) → ArePlayers names → length names ≤ 6
players-le names are = grind (arith, nat_tests)

players_takes : Takes players_form 5 79
players_takes = record {
  no_fewer = λ names are. omega (arith, players-ge names are, each-ge (word_form IsPlayerName) 2 13 player_takes names (players-all names are));
  no_more = λ names are. omega (arith, players-le names are, each-le (word_form IsPlayerName) 2 13 player_takes names (players-all names are));
}

words_takes : Takes words_form 512 512
words_takes = row_takes 64 (number_takes 8)

-- of the turns' ends
ends_takes : Takes ends_form 512 512
ends_takes = record {
  no_fewer = λ counts are. words_takes.no_fewer (words_of counts) (set_fits (words_of counts) (are_set counts are));
  no_more = λ counts are. words_takes.no_more (words_of counts) (set_fits (words_of counts) (are_set counts are));
}

pub game_takes : Takes game.game_form 1412 7223
game_takes =
    form_by_takes game.row_of game.parts_in (λ p. refl) (pair_takes players_takes (pair_takes standing_takes (pair_takes (number_takes 4) ends_takes)))
