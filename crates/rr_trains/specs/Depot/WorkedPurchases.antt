-- Commands of corporations at a table of the usual numbers.
use Rattle.std.specs.Prelude.{◌≡◌, ℕ, true, false, [], ◌∷◌, ◌++◌, pos, Option, None, Some}
use Rattle.rr_roster.specs.declared.company.Private.TheVariants as V
use Rattle.rr_roster.specs.declared.company.Corp.TheVariants as C
use Rattle.rr_roster.specs.declared.company.Kind.TheVariants as K
use Rattle.rr_books.specs.declared.parties.Seat.{Seat}
use Rattle.rr_books.specs.declared.parties.Party.{Party}
use Rattle.rr_books.specs.declared.parties.Party.TheVariants as P
use Rattle.rr_books.specs.declared.parties.Place.TheVariants as L
use Rattle.rr_books.specs.declared.certificates.Cert.TheVariants as Cert
use Rattle.rr_books.specs.declared.entries.Entry.TheVariants as E
use Rattle.rr_books.specs.declared.entries.Marker.TheVariants as M
use Rattle.rr_books.specs.declared.acts.Act.{Act}
use Rattle.rr_books.specs.declared.acts.Act.TheVariants as A
use Rattle.rr_roster.specs.declared.sources.TrainSource.TheVariants as S
use Rattle.rr_books.specs.Book.{Book, balance, train_holder}
use Rattle.rr_desk.specs.Incomes.{dollars}
use Rattle.rr_market.specs.Operations.Phases.{phase, train}
use Rattle.rr_trains.specs.Places.{trains_held}
use Rattle.rr_trains.specs.Phases.{train_limit}
use Rattle.rr_trains.specs.WorkedTrains.{after_first_six, before_first_four, trains_to, usual_terms}
use Rattle.rr_books.specs.declared.refusal.Refusal.{Refusal}
use Rattle.rr_books.specs.declared.refusal.Refusal.TheVariants as F
use Rattle.rr_trains.specs.Depot.Over.{is_any_over_limit}
use Rattle.rr_trains.specs.Depot.Rules.{verdict}
use Rattle.rr_trains.specs.Depot.Effects.{entries_of}

abbrev pub seat : ℕ → Seat
seat n = record { 0 = n }

abbrev pub grants : Party → ℕ → Book
grants party amount = E.Pay P.Bank party (dollars amount) ∷ []

abbrev pub refusal : Book → Act → Option Refusal
refusal book act = verdict usual_terms book act

abbrev pub added : Book → Act → Book
added book act = entries_of usual_terms book act

-- the PRR and the NYC have three 2s each, the ERIE four 3s, the last 3 is in the pool; the NYC has 300 dollars
abbrev pub with_money : Book
with_money = before_first_four ++ grants (P.Corp C.Nyc) 300

abbrev pub first_four : Act
first_four = A.BuyTrain C.Nyc K.Four S.Bank

abbrev pub with_four : Book
with_four = with_money ++ added with_money first_four

-- the first 4 costs all of that: all 2s are gone, the limit is 3, and the ERIE is over it
pub record WorkedFirstFour : Type 0 where
  pub lawful : refusal with_money first_four ≡ None
  pub entries : added with_money first_four
      ≡ E.Step (M.Act first_four) ∷ E.Train (train K.Four 1) (L.Corp C.Nyc) ∷ E.Pay (P.Corp C.Nyc) P.Bank (dollars 300) ∷ trains_to L.Gone K.Two 1 6
  pub money : balance with_four (P.Corp C.Nyc) ≡ pos 0
  pub limit : train_limit (phase (train_holder with_four)) ≡ 3
  pub none_over : is_any_over_limit (train_holder with_money) ≡ false
  pub some_over : is_any_over_limit (train_holder with_four) ≡ true
  pub not_for_the_erie : refusal with_money (A.BuyTrain C.Erie K.Four S.Bank) ≡ Some F.TrainLimit
  pub not_for_the_prr : refusal with_money (A.BuyTrain C.Prr K.Four S.Bank) ≡ Some F.TooLittleCash
  pub not_yet : refusal with_money (A.BuyTrain C.Nyc K.Five S.Bank) ≡ Some F.NotOnSale
  pub not_again : refusal with_four first_four ≡ Some F.TooLittleCash

abbrev pub gives_up_three : Act
gives_up_three = A.Discard C.Erie K.Three

abbrev pub with_discard : Book
with_discard = with_four ++ added with_four gives_up_three

-- a corporation with four 3s is over the limit then: it gives one up, which is in the pool; one within the limit has
-- nothing to give up
pub record WorkedDiscard : Type 0 where
  pub too_early : refusal with_money gives_up_three ≡ Some F.WrongStep
  pub not_held : refusal with_four (A.Discard C.Erie K.Four) ≡ Some F.NotOnSale
  pub lawful : refusal with_four gives_up_three ≡ None
  pub entries : added with_four gives_up_three ≡ E.Step (M.Act gives_up_three) ∷ E.Train (train K.Three 1) L.Pool ∷ []
  pub within : is_any_over_limit (train_holder with_discard) ≡ false
  pub held : trains_held (train_holder with_discard) (L.Corp C.Erie) ≡ 3
  pub in_pool : train_holder with_discard (train K.Three 1) ≡ Some L.Pool
  pub only_once : refusal with_discard gives_up_three ≡ Some F.WrongStep

-- the NYC has all 4s, the ERIE all 5s, the C&O the first 6
abbrev pub with_six : ℕ → Book
with_six amount = after_first_six ++ grants (P.Corp C.Nyc) amount

abbrev pub four_for_diesel : Act
four_for_diesel = A.Trade C.Nyc K.Four

-- a D costs 800 with a 4, which is gone; the first D ends the other 4s
pub record WorkedTrade : Type 0 where
  pub lawful : refusal (with_six 800) four_for_diesel ≡ None
  pub too_dear : refusal (with_six 799) four_for_diesel ≡ Some F.TooLittleCash
  pub too_small : refusal (with_six 800) (A.Trade C.Nyc K.Three) ≡ Some F.NotOnSale
  pub not_held : refusal (with_six 800) (A.Trade C.Nyc K.Five) ≡ Some F.NotOnSale
  pub entries : added (with_six 800) four_for_diesel
      ≡ E.Step (M.Act four_for_diesel) ∷ E.Train (train K.Four 1) L.Gone ∷ E.Train (train K.Diesel 1) (L.Corp C.Nyc) ∷ E.Pay (P.Corp C.Nyc) P.Bank (dollars 800)
      ∷ trains_to L.Gone K.Four 2 3

-- the first player leads the ERIE, the second the NYC and the B&O
abbrev pub with_presidents : Book
with_presidents =
    grants (P.Seat (seat 0)) 1200
    ++ grants (P.Seat (seat 1)) 1200
    ++ before_first_four
    ++ E.Move (Cert.President C.Erie) (L.Seat (seat 0))
    ∷ E.Move (Cert.President C.Nyc) (L.Seat (seat 1))
    ∷ E.Move (Cert.President C.Bo) (L.Seat (seat 1))
    ∷ E.Move (Cert.Private V.Sv) (L.Seat (seat 0))
    ∷ E.Move (Cert.Private V.Csl) (L.Corp C.Prr)
    ∷ E.Move (Cert.Private V.Bo) (L.Seat (seat 1))
    ∷ E.Pay P.Bank (P.Corp C.Bo) (dollars 100)
    ∷ []

abbrev pub from_erie : ℕ → ℕ → ℕ → Act
from_erie price one other = A.BuyTrainFrom C.Bo K.Three C.Erie price (seat one) (seat other)

-- the B&O buys a 3 of the ERIE for all that it has, both presidents agreeing; its first train closes its private; wrong
-- presidents are told before a price of nothing, and that before the train limit
pub record WorkedSale : Type 0 where
  pub lawful : refusal with_presidents (from_erie 100 1 0) ≡ None
  pub entries : added with_presidents (from_erie 100 1 0)
      ≡ E.Step (M.Act (from_erie 100 1 0)) ∷ E.Train (train K.Three 1) (L.Corp C.Bo) ∷ E.Pay (P.Corp C.Bo) (P.Corp C.Erie) (dollars 100) ∷ E.Move (Cert.Private V.Bo) L.Gone ∷ []
  pub nothing : refusal with_presidents (from_erie 0 1 0) ≡ Some F.PriceOutOfBounds
  pub too_dear : refusal with_presidents (from_erie 101 1 0) ≡ Some F.TooLittleCash
  pub other_way : refusal with_presidents (from_erie 100 0 1) ≡ Some F.NotYourTurn
  pub not_held : refusal with_presidents (A.BuyTrainFrom C.Bo K.Two C.Erie 100 (seat 1) (seat 0)) ≡ Some F.NotOnSale
  pub of_itself : refusal with_presidents (A.BuyTrainFrom C.Erie K.Three C.Erie 100 (seat 0) (seat 0)) ≡ Some F.NotOnSale
  pub full : refusal with_presidents (A.BuyTrainFrom C.Erie K.Two C.Nyc 1 (seat 0) (seat 1)) ≡ Some F.TrainLimit
  pub presidents_first : refusal with_presidents (from_erie 0 0 1) ≡ Some F.NotYourTurn
  pub price_before_limit : refusal with_presidents (A.BuyTrainFrom C.Erie K.Two C.Nyc 0 (seat 0) (seat 1)) ≡ Some F.PriceOutOfBounds

abbrev pub takes_sv : ℕ → Act
takes_sv price = A.TakePrivate C.Bo V.Sv price

-- the B&O buys the SV, of a face of 20, for 10 to 40; a corporation's private and the B&O's aren't sold; a price out of
-- bounds is told also where the money isn't there
pub record WorkedPrivate : Type 0 where
  pub half : refusal with_presidents (takes_sv 10) ≡ None
  pub twice : refusal with_presidents (takes_sv 40) ≡ None
  pub too_low : refusal with_presidents (takes_sv 9) ≡ Some F.PriceOutOfBounds
  pub too_high : refusal with_presidents (takes_sv 41) ≡ Some F.PriceOutOfBounds
  pub too_dear : refusal with_presidents (A.TakePrivate C.Nyc V.Sv 40) ≡ Some F.TooLittleCash
  pub bounds_first : refusal with_presidents (A.TakePrivate C.Nyc V.Sv 41) ≡ Some F.PriceOutOfBounds
  pub of_another : refusal with_presidents (A.TakePrivate C.Bo V.Csl 40) ≡ Some F.NotForSale
  pub own_private : refusal with_presidents (A.TakePrivate C.Bo V.Bo 220) ≡ Some F.NotForSale
  pub too_early : refusal (E.Move (Cert.Private V.Sv) (L.Seat (seat 0)) ∷ []) (takes_sv 20) ≡ Some F.NotOnSale
  pub entries : added with_presidents (takes_sv 40)
      ≡ E.Step (M.Act (takes_sv 40)) ∷ E.Move (Cert.Private V.Sv) (L.Corp C.Bo) ∷ E.Pay (P.Corp C.Bo) (P.Seat (seat 0)) (dollars 40) ∷ []
