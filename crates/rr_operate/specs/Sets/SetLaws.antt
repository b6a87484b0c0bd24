-- What a round without a turn comes to.
use Rattle.std.specs.Prelude.{◌≡◌, ◌+◌, ◌≤◌, true, false, List, ◌++◌}
use Rattle.rr_roster.specs.Terms.{Terms}
use Rattle.rr_roster.specs.Chart.Chart.{Row}
use Rattle.rr_books.specs.Book.{Book}
use Rattle.rr_market.specs.Operations.Progress.{bank_owed, has_more_rounds, progress}
use Rattle.rr_operate.specs.Sets.Rounds.{passes_rounds, round_is_over}

-- the bank has owed money, and the set has no round more
pub record GameIsOver (roster : Terms) (book : Book) : Type 0 where
  pub owed : bank_owed roster (progress book) ≡ true
  pub last : has_more_rounds (progress book) ≡ false

-- where a set has two rounds more at most, as each has behind its first: if then a round is over, so is the game
abbrev pub RoundsPass : Type 0
RoundsPass =
    (roster : Terms) (rows : List Row) (book : Book) → (progress book).set_length ≤ (progress book).round + 2
    → round_is_over rows (book ++ passes_rounds roster rows book) ≡ true → GameIsOver roster (book ++ passes_rounds roster rows book)
