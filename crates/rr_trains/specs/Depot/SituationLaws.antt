-- What runs along with a book gives the situation of the book.
use Rattle.std.specs.Prelude.{◌≡◌}
use Rattle.std.proofs.Common.{sym}
use Rattle.rr_books.specs.declared.parties.Party.{Party}
use Rattle.rr_books.specs.declared.certificates.Cert.{Cert}
use Rattle.rr_books.specs.declared.certificates.Train.{Train}
use Rattle.rr_books.specs.Book.{Book, balance, holder, players, train_holder}
use Rattle.rr_books.specs.State.{State, IsStateOf, cash_of, holder_in, train_place_of}
use Rattle.rr_trains.specs.Depot.Situation.{situation_of, situation_in}

pub situation-of_book : (book : Book) (s : State) → IsStateOf book s → situation_in s ≡ situation_of book
situation-of_book book s h =
    let seats : s.players ≡ players book = sym h.players in
    let paid : (p : Party) → cash_of s p ≡ balance book p = λ p. sym (h.balances p) in
    let held : (c : Cert) → holder_in s c ≡ holder book c = λ c. sym (h.holders c) in
    let trains : (t : Train) → train_place_of s t ≡ train_holder book t = λ t. sym (h.train_holders t) in
    λ i. record { players = seats i; money = λ p. paid p i; holders = λ c. held c i; trains = λ t. trains t i }
