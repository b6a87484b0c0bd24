-- What the entries of worked auctions tell.
use Rattle.std.specs.Prelude.{◌≡◌, List, [], ◌∷◌, Some}
use Rattle.rr_roster.specs.declared.company.Private.{Private}
use Rattle.rr_roster.specs.Chart.Chart.{Row}
use Rattle.rr_books.specs.declared.acts.Act.{Act}
use Rattle.rr_books.specs.declared.acts.Act.TheVariants as A
use Rattle.rr_books.specs.Book.{Book}
use Rattle.rr_auction.specs.AuctionLaws.{all_passed_on_first, bid_told, left_of_buyer, left_of_turn, passes_elsewhere, passes_in_a_row}
use Rattle.rr_auction.specs.History.{last_told, times}
use Rattle.rr_auction.specs.SoundMoney.{AreLawful, with_acts}
use Rattle.rr_auction.specs.WorkedAuction.{seat, usual_terms, worked_acts, worked_opening}

-- the first two privates are sold, and the third is raised for by two seats until one leaves
abbrev pub raised_book : List Row → Book
raised_book rows = with_acts usual_terms rows worked_opening worked_acts

-- four pass, one bids, and then four pass and one more
abbrev pub passing_acts : List Act
passing_acts =
    A.Pass (seat 0)
    ∷ A.Pass (seat 1)
    ∷ A.Pass (seat 2)
    ∷ A.Pass (seat 3)
    ∷ A.Bid (seat 0) Private.Mh 115
    ∷ A.Pass (seat 1)
    ∷ A.Pass (seat 2)
    ∷ A.Pass (seat 3)
    ∷ A.Pass (seat 0)
    ∷ A.Pass (seat 1)
    ∷ []

abbrev pub passing_book : List Row → Book
passing_book rows = with_acts usual_terms rows worked_opening passing_acts

-- in the first auction seats 1 and 2 said last 85 and nothing for the third private, which seat 1 got, after the turn of
-- seat 3; in the second all passed twice, and one passed after that
pub record WorkedTellings (rows : List Row) : Type 0 where
  pub first_bid : last_told (bid_told Private.Dh (seat 1)) (raised_book rows) ≡ Some 85
  pub second_bid : last_told (bid_told Private.Dh (seat 2)) (raised_book rows) ≡ Some 0
  pub buyer : last_told left_of_buyer (raised_book rows) ≡ Some (seat 2)
  pub turn : last_told left_of_turn (raised_book rows) ≡ Some (seat 0)
  pub lawful : AreLawful usual_terms rows worked_opening passing_acts
  pub falls : times (all_passed_on_first 4) (passing_book rows) ≡ 2
  pub players : times (passes_elsewhere 4) (passing_book rows) ≡ 0
  pub row : passes_in_a_row (passing_book rows) ≡ 5

abbrev pub TellingsAreWorked : Type 0
TellingsAreWorked = (rows : List Row) → WorkedTellings rows
