-- What the rules of tiles and tokens look at: who holds what, who has what, and what lies on the board.
use Rattle.std.specs.Prelude.{◌≡◌, ℤ, List, Option}
use Rattle.std.proofs.Common.{sym, ◌∙◌, ap}
use Rattle.std.proofs.Math.Path.{fun_ext}
use Rattle.rr_books.specs.declared.parties.Party.{Party}
use Rattle.rr_books.specs.declared.parties.Place.{Place}
use Rattle.rr_books.specs.declared.certificates.Cert.{Cert}
use Rattle.rr_books.specs.declared.certificates.Train.{Train}
use Rattle.rr_books.specs.Book.{Book, balance, holder, train_holder}
use Rattle.rr_books.specs.State.{State, IsStateOf, cash_of, holder_in, train_place_of}
use Rattle.rr_books.specs.ShareLaws.{holder-of_state}
use Rattle.rr_desk.specs.declared.layout.layout.Lay.{Lay}
use Rattle.rr_desk.specs.declared.layout.layout.Station.{Station}
use Rattle.rr_desk.specs.Layout.Layout as layout

pub record Position : Type 0 where
  pub holders : Cert → Option Place
  pub trains : Train → Option Place
  pub cash : Party → ℤ
  pub lays : List Lay
  pub stations : List Station

-- the position that a book tells
abbrev pub position_of : Book → Position
position_of book = record { holders = holder book; trains = train_holder book; cash = balance book; lays = layout.lays book; stations = layout.stations book }

-- the position that books and a layout show
abbrev pub position_in : State → layout.Placed → Position
position_in books placed = record { holders = holder_in books; trains = train_place_of books; cash = cash_of books; lays = placed.lays; stations = placed.stations }

-- where both stand for a book, they show the position that it tells
pub position-of_state : (book : Book) (books : State) (placed : layout.Placed) → IsStateOf book books → layout.IsLayoutOf book placed → position_in books placed ≡ position_of book
position-of_state book books placed h p =
    let put : (Cert → Option Place) → (Train → Option Place) → (Party → ℤ) → List Lay → List Station → Position = λ a b c d e. record { holders = a; trains = b; cash = c; lays = d; stations = e } in
    ap (λ (x : Cert → Option Place). put x (train_place_of books) (cash_of books) placed.lays placed.stations) (holder-of_state book books h)
    ∙ ap (λ (x : Train → Option Place). put (holder book) x (cash_of books) placed.lays placed.stations) (sym (fun_ext (λ t. h.train_holders t)))
    ∙ ap (λ (x : Party → ℤ). put (holder book) (train_holder book) x placed.lays placed.stations) (sym (fun_ext (λ q. h.balances q)))
    ∙ ap (λ (x : List Lay). put (holder book) (train_holder book) (balance book) x placed.stations) (sym p.tiles)
    ∙ ap (λ (x : List Station). put (holder book) (train_holder book) (balance book) (layout.lays book) x) (sym p.tokens)
