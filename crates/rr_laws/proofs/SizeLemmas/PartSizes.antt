-- How many bytes the parts of a position take.
use Rattle.std.proofs.Common.{◌≤◌, length, refl, arith, lit<}
use Rattle.std.proofs.lemmas.Bool.Decides.{nat_tests}
use Rattle.rr_words.specs.Name.{IsHexName}
use Rattle.rr_words.specs.Spelling.Form.{word_form}
use Rattle.rr_roster.specs.Bytes.{corp_form}
use Rattle.rr_books.specs.Bytes.{place_form, seat_form, spelled_place}
use Rattle.rr_books.specs.Parts as books
use Rattle.rr_books.specs.declared.parties.Place.{Place}
use Rattle.rr_books.specs.declared.parties.Place.TheVariants as L
use Rattle.rr_rounds.specs.Bids.Parts as bidding
use Rattle.rr_rounds.specs.Bytes.{purchases_form, spelled_purchases}
use Rattle.rr_rounds.specs.Parts as rounds
use Rattle.rr_rounds.specs.declared.purchases.Purchases.{Purchases}
use Rattle.rr_rounds.specs.declared.purchases.Purchases.TheVariants as U
use Rattle.rr_market.specs.Operations.Bytes.{stage_form, step_form}
use Rattle.rr_market.specs.Operations.Parts as operations
use Rattle.rr_market.specs.Parts as market
use Rattle.rr_desk.specs.Layout.Bytes.{lay_form, layout_form, station_form}
use Rattle.rr_laws.proofs.SizeLemmas.FormSizes.{Takes, bool_takes, byte_takes, counted_takes, form_by_takes, number_takes, option_takes, pair_takes, row_takes, signed_takes, word_takes}

corp_takes : Takes corp_form 1 1
corp_takes = record { no_fewer = λ c fits. omega arith; no_more = λ c fits. omega arith }

seat_takes : Takes seat_form 1 1
seat_takes = form_by_takes (λ s. s.0) (λ n. record { 0 = n }) (λ s. refl) byte_takes

-- of a place
place-ge : (place : Place) → 1 ≤ length (spelled_place place)
place-ge L.Offer = omega arith
place-ge L.Pool = omega arith
place-ge L.Gone = omega arith
place-ge (L.Seat s) = omega arith
place-ge (L.Corp c) = omega arith

place-le : (place : Place) → length (spelled_place place) ≤ 2
place-le L.Offer = omega arith
place-le L.Pool = omega arith
place-le L.Gone = omega arith
place-le (L.Seat s) = omega arith
place-le (L.Corp c) = omega arith

place_takes : Takes place_form 1 2
place_takes = record { no_fewer = λ place fits. place-ge place; no_more = λ place fits. place-le place }

pub books_takes : Takes books.books_form 329 527
books_takes =
    form_by_takes books.row_of books.parts_in (λ p. refl)
    (pair_takes (row_takes 15 signed_takes) (pair_takes (number_takes 4) (pair_takes byte_takes (pair_takes (row_takes 78 place_takes) (pair_takes (row_takes 120 place_takes) (row_takes 6 byte_takes))))))

pub bidding_takes : Takes bidding.bidding_form 303 304
bidding_takes =
    form_by_takes bidding.row_of bidding.parts_in (λ p. refl)
    (pair_takes seat_takes (pair_takes (number_takes 4) (pair_takes (number_takes 4) (pair_takes (row_takes 6 (row_takes 6 (number_takes 8))) (pair_takes (option_takes seat_takes) (pair_takes seat_takes (number_takes 4)))))))

token_takes : Takes market.token_form 4 4
token_takes =
    form_by_takes market.cells_of market.token_at (λ t. refl) (pair_takes (pair_takes byte_takes byte_takes) (pair_takes byte_takes byte_takes))

pub market_takes : Takes market.market_form 16 48
market_takes =
    form_by_takes market.row_of market.parts_in (λ p. refl) (pair_takes (row_takes 8 (option_takes token_takes)) (row_takes 8 byte_takes))

-- of what was bought in a turn
purchases-ge : (purchases : Purchases) → 1 ≤ length (spelled_purchases purchases)
purchases-ge U.Nothing = omega arith
purchases-ge (U.PoolOf c) = omega arith
purchases-ge U.Other = omega arith

purchases-le : (purchases : Purchases) → length (spelled_purchases purchases) ≤ 2
purchases-le U.Nothing = omega arith
purchases-le (U.PoolOf c) = omega arith
purchases-le U.Other = omega arith

purchases_takes : Takes purchases_form 1 2
purchases_takes = record { no_fewer = λ purchases fits. purchases-ge purchases; no_more = λ purchases fits. purchases-le purchases }

pub rounds_takes : Takes rounds.rounds_form 87 88
rounds_takes =
    form_by_takes rounds.row_of rounds.parts_in (λ p. refl)
    (pair_takes (number_takes 2) (pair_takes (number_takes 8) (pair_takes bool_takes (pair_takes seat_takes (pair_takes bool_takes (pair_takes purchases_takes (pair_takes (number_takes 8) (pair_takes seat_takes (pair_takes (row_takes 6 (row_takes 8 bool_takes)) (pair_takes (number_takes 8) (row_takes 8 bool_takes)))))))))))

stage_takes : Takes stage_form 1 1
stage_takes = record { no_fewer = λ s fits. omega arith; no_more = λ s fits. omega arith }

step_takes : Takes step_form 1 1
step_takes = record { no_fewer = λ s fits. omega arith; no_more = λ s fits. omega arith }

pub operations_takes : Takes operations.operations_form 140 173
operations_takes =
    form_by_takes operations.row_of operations.parts_in (λ p. refl)
    (pair_takes stage_takes (pair_takes (number_takes 8) (pair_takes (number_takes 8) (pair_takes byte_takes (pair_takes (row_takes 8 bool_takes) (pair_takes step_takes (pair_takes bool_takes (pair_takes signed_takes (pair_takes bool_takes (pair_takes market_takes rounds_takes))))))))))

hex_takes : Takes (word_form IsHexName) 2 5
hex_takes = word_takes IsHexName 1 4 (λ w is. grind (arith, nat_tests)) (λ w is. grind (arith, nat_tests))

lay_takes : Takes lay_form 5 8
lay_takes =
    form_by_takes (λ l. (l.hex, (l.tile, l.turn))) (λ r. record { hex = r.0; tile = r.1.0; turn = r.1.1 }) (λ l. refl)
    (pair_takes hex_takes (pair_takes (number_takes 2) byte_takes))

station_takes : Takes station_form 11 14
station_takes =
    form_by_takes (λ s. (s.corp, (s.hex, s.centre))) (λ r. record { corp = r.0; hex = r.1.0; centre = r.1.1 }) (λ s. refl)
    (pair_takes corp_takes (pair_takes hex_takes (number_takes 8)))

pub layout_takes : Takes layout_form 4 5476
layout_takes =
    form_by_takes (λ p. (p.lays, p.stations)) (λ r. record { lays = r.0; stations = r.1 }) (λ p. refl)
    (pair_takes (counted_takes 600 (lit< tt) lay_takes) (counted_takes 48 (lit< tt) station_takes))
