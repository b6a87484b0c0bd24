-- What a seat is worth by what runs along with a book, and by the book.
use Rattle.std.proofs.Common.{◌≡◌, ◌∙◌, ap, sym, ℕ, ℤ, Option}
use Rattle.std.proofs.Math.Path.{fun_ext}
use Rattle.rr_roster.specs.declared.company.Corp.{Corp}
use Rattle.rr_books.specs.declared.certificates.Cert.{Cert}
use Rattle.rr_books.specs.declared.parties.Party.{Party}
use Rattle.rr_books.specs.declared.parties.Seat.{Seat}
use Rattle.rr_books.specs.Book.{Book, balance, holder}
use Rattle.rr_books.specs.Shares.{Holders}
use Rattle.rr_books.specs.State.{IsStateOf, cash_of, holder_in}
use Rattle.rr_kit.specs.declared.kit.Kit.{Kit}
use Rattle.rr_market.specs.Marks.{price_at, price_of}
use Rattle.rr_market.specs.State.{IsMarketOf, cell_in}
use Rattle.rr_desk.specs.Position.Position.{IsPositionOf, OnTable}
use Rattle.rr_game.specs.Queries.{Assets, assets, assets_in, worth, worth_by}

parts_same : (m n : Party → ℤ) (h k : Holders) (p q : Corp → Option ℕ) → m ≡ n → h ≡ k → p ≡ q
    → ◌≡◌ {A = Assets} (record { money = m; holders = h; prices = p }) (record { money = n; holders = k; prices = q })
parts_same m n h k p q e f g =
    let Money : (Party → ℤ) → Assets = λ x. record { money = x; holders = h; prices = p } in
    let Held : Holders → Assets = λ x. record { money = n; holders = x; prices = p } in
    let Priced : (Corp → Option ℕ) → Assets = λ x. record { money = n; holders = k; prices = x } in
    ap Money e ∙ ap Held f ∙ ap Priced g

assets_same : (kit : Kit) (book : Book) (p : OnTable) → IsStateOf book p.books → IsMarketOf book p.market → assets_in kit.chart p ≡ assets kit.chart book
assets_same kit book p books market =
    parts_same (cash_of p.books) (balance book) (holder_in p.books) (holder book) (λ c. price_at kit.chart (cell_in p.market c)) (price_of kit.chart book)
    (fun_ext (λ (x : Party). sym (books.balances x)))
    (fun_ext (λ (x : Cert). sym (books.holders x)))
    (fun_ext (λ (c : Corp). ap (price_at kit.chart) (sym (market.cells c))))

pub worth_told : (kit : Kit) (book : Book) (p : OnTable) (s : Seat) → IsPositionOf book p → worth_by kit.roster (assets_in kit.chart p) s ≡ worth kit book s
worth_told kit book p s h = ap (λ (a : Assets). worth_by kit.roster a s) (assets_same kit book p h.books h.market)
