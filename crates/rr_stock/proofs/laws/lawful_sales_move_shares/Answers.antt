use Rattle.std.specs.Prelude.{◌≡◌, ℕ, ◌+◌, ◌*◌, ◌<◌, ◌≤◌, ◌⊎◌, List, [], ◌∷◌, ◌++◌, Option, None, Some, option_and_then}
use Rattle.std.proofs.Common.{inl, inr, sym, ◌∙◌, ap, subst, arith, append_assoc, append-nil}
use Rattle.std.proofs.Math.Path.{fun_ext}
use Rattle.rr_roster.specs.declared.company.Corp.{Corp}
use Rattle.rr_roster.specs.Chart.Chart.{Row}
use Rattle.rr_books.specs.declared.parties.Seat.{Seat}
use Rattle.rr_books.specs.declared.parties.Party.TheVariants as P
use Rattle.rr_books.specs.declared.parties.Place.{Place}
use Rattle.rr_books.specs.declared.parties.Place.TheVariants as L
use Rattle.rr_books.specs.declared.certificates.Cert.{Cert}
use Rattle.rr_books.specs.declared.certificates.Cert.TheVariants as C
use Rattle.rr_books.specs.declared.entries.Cell.{Cell}
use Rattle.rr_books.specs.declared.entries.Entry.TheVariants as E
use Rattle.rr_books.specs.declared.entries.Marker.TheVariants as M
use Rattle.rr_books.specs.declared.acts.Act.TheVariants as A
use Rattle.rr_books.specs.Book.{Book, holder, holder-push, players, players-push}
use Rattle.rr_books.specs.Shares.{Holders, share}
use Rattle.rr_desk.specs.Effects.{Effect, adds, in_turn}
use Rattle.rr_desk.specs.Incomes.{dollars}
use Rattle.rr_market.specs.Marks.{mark_of}
use Rattle.rr_market.specs.Moves.{cell_after_sale, mark_at, sale_marks}
use Rattle.rr_shares.specs.Effects.{sale_shares}
use Rattle.rr_shares.specs.Presidents.{NobodyHasMore}
use Rattle.rr_shares.specs.Sales.{AnotherHasTwenty, AreSold, MaySell, PresidentLeads}
use Rattle.rr_stock.specs.Effects.{pays_seller, proceeds, says, sells}
use Rattle.rr_stock.specs.Situation.{situation_of}
use Rattle.rr_stock.proofs.SaleVerdicts.{may_sell}
use Rattle.rr_stock.proofs.laws.lawful_sales_move_shares.Goals as goal

-- a book after two effects, and after three
after_two : (f g : Effect) (book : Book) → book ++ in_turn (f ∷ g ∷ []) book ≡ (book ++ f book) ++ g (book ++ f book)
after_two f g book =
    ap (λ (more : Book). book ++ (f book ++ more)) (append-nil (g (book ++ f book)))
    ∙ sym (append_assoc book (f book) (g (book ++ f book)))

after_three : (f g h : Effect) (book : Book) → book ++ in_turn (f ∷ g ∷ h ∷ []) book ≡ ((book ++ f book) ++ g (book ++ f book)) ++ h ((book ++ f book) ++ g (book ++ f book))
after_three f g h book = sym (append_assoc book (f book) (in_turn (g ∷ h ∷ []) (book ++ f book))) ∙ after_two g h (book ++ f book)

-- who holds what stays as the token is marked, and as a seller is paid
held_by_mark : (book : Book) (c : Corp) (cell : Option Cell) → holder (book ++ mark_at c cell) ≡ holder book
held_by_mark book c None = ap (λ (b : Book). holder b) (append-nil book)
held_by_mark book c (Some cell) = fun_ext (λ (x : Cert). holder-push book (E.Mark c cell) x)

held_by_payment : (rows : List Row) (s : Seat) (c : Corp) (n amount : ℕ) (book : Book) → holder (book ++ pays_seller rows s c n amount book) ≡ holder book
unfolding pays_seller
held_by_payment rows s c n amount book =
    let pay = E.Pay P.Bank (P.Seat s) (dollars amount) in
    let paid = book ++ pay ∷ [] in
    ap (λ (b : Book). holder b) (after_two (adds pay) (sale_marks rows n c) book)
    ∙ held_by_mark paid c (option_and_then (cell_after_sale rows n) (mark_of paid c))
    ∙ fun_ext (λ (x : Cert). holder-push book pay x)

-- who may sell may still where the same seats hold the same
may_still : (old new : Book) (c : Corp) (p s : Seat) (n : ℕ) → holder new ≡ holder old → players new ≡ players old → MaySell old c p s n → MaySell new c p s n
may_still old new c p s n held table may =
    let own : share (holder new) (L.Seat s) c ≡ share (holder old) (L.Seat s) c = ap (λ (H : Holders). share H (L.Seat s) c) held in
    let holds = may.holds in
    record { holds = omega arith; leaves = λ same. by_leaves (may.leaves same) }
  where
    by_leaves : (20 + 10 * n ≤ share (holder old) (L.Seat s) c) ⊎ AnotherHasTwenty old c s → (20 + 10 * n ≤ share (holder new) (L.Seat s) c) ⊎ AnotherHasTwenty new c s
    by_leaves (inl h) = let own = ap (λ (H : Holders). share H (L.Seat s) c) held in inl (omega arith)
    by_leaves (inr o) =
        let its = ap (λ (H : Holders). share H (L.Seat o.seat) c) held in
        let at = o.at_table in
        let enough = o.enough in
        inr (record { seat = o.seat; at_table = omega arith; another = o.another; enough = omega arith })

-- what a sale did, seen from a book before and behind with the same holders
sold_between : (old told later new : Book) (c : Corp) (s : Seat) (n : ℕ) → holder told ≡ holder old → holder new ≡ holder later → AreSold told later c s n → AreSold old new c s n
sold_between old told later new c s n before behind sold =
    let place = λ (x : Place). ap (λ (H : Holders). share H x c) before in
    let placed = λ (x : Place). ap (λ (H : Holders). share H x c) behind in
    let pool_before : share (holder told) L.Pool c ≡ share (holder old) L.Pool c = place L.Pool in
    let pool_behind : share (holder new) L.Pool c ≡ share (holder later) L.Pool c = placed L.Pool in
    let seller_before : share (holder told) (L.Seat s) c ≡ share (holder old) (L.Seat s) c = place (L.Seat s) in
    let seller_behind : share (holder new) (L.Seat s) c ≡ share (holder later) (L.Seat s) c = placed (L.Seat s) in
    let pool = sold.to_pool in
    let seller = sold.from_seller in
    record {
      to_pool = omega arith;
      from_seller = omega arith;
      others = λ x apart. placed (L.Seat x) ∙ sold.others x apart ∙ place (L.Seat x);
    }

leads_between : (later new : Book) (c : Corp) (m n : ℕ) → holder new ≡ holder later → m ≡ n → PresidentLeads later c m → PresidentLeads new c n
leads_between later new c m n behind same h =
    let most : NobodyHasMore new c n h.seat =
    λ (x : Seat) (at : x.0 < n).
    let le = h.leads x (omega arith) in
    let its : share (holder new) (L.Seat x) c ≡ share (holder later) (L.Seat x) c = ap (λ (H : Holders). share H (L.Seat x) c) behind in
    let own : share (holder new) (L.Seat h.seat) c ≡ share (holder later) (L.Seat h.seat) c = ap (λ (H : Holders). share H (L.Seat h.seat) c) behind in
    omega arith in
    record { seat = h.seat; presides = ap (λ (H : Holders). H (C.President c)) behind ∙ h.presides; leads = most }

pub returns : goal.returns
unfolding sells
returns c rows book p s corp n lawful e seated few =
    let t = situation_of rows book in
    let step = E.Step (M.Act (A.Sell s corp n)) in
    let told = book ++ step ∷ [] in
    let gets = pays_seller rows s corp n (proceeds t corp n) in
    let later = told ++ sale_shares corp s n told in
    let held : holder told ≡ holder book = fun_ext (λ (x : Cert). holder-push book step x) in
    let table : players told ≡ players book = players-push book step in
    let may = may_still book told corp p s n held table (may_sell rows book p s corp n lawful e) in
    let presides = ap (λ (H : Holders). H (C.President corp)) held ∙ e in
    let both = c.sales_move_shares.ensures corp told p s n presides (omega arith) (omega arith) may in
    let paid = held_by_payment rows s corp n (proceeds t corp n) later in
    let whole = after_three (says (A.Sell s corp n)) (sale_shares corp s n) gets book in
    let So : Book → Type 0 = λ after. AreSold book after corp s n × PresidentLeads after corp (players book) in
    subst So (sym whole)
    (sold_between book told later (later ++ gets later) corp s n held paid both.0, leads_between later (later ++ gets later) corp (players told) (players book) paid table both.1)
