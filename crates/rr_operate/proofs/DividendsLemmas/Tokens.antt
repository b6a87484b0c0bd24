-- Where the tokens are after a dividend.
use Rattle.std.specs.Prelude.{◌≡◌, Bool, true, false, cond, List, [], ◌∷◌, ◌++◌, Option, None, Some, fold, map, option_and_then, refl}
use Rattle.std.specs.Option.{option_or}
use Rattle.std.proofs.Common.{◌∙◌, ap, arith}
use Rattle.std.proofs.lemmas.Bool.Decides.{nat_tests}
use Rattle.std.proofs.lemmas.List.Sums.{fold-append}
use Rattle.rr_roster.specs.declared.company.Corp.{Corp}
use Rattle.rr_roster.specs.Chart.Chart.{Row}
use Rattle.rr_books.specs.declared.parties.Money.{Money}
use Rattle.rr_books.specs.declared.parties.Seat.{Seat}
use Rattle.rr_books.specs.declared.parties.Party.TheVariants as P
use Rattle.rr_books.specs.declared.parties.Place.TheVariants as L
use Rattle.rr_books.specs.declared.entries.Cell.{Cell}
use Rattle.rr_books.specs.declared.entries.Entry.TheVariants as E
use Rattle.rr_books.specs.Book.{Book, holder, players}
use Rattle.rr_books.specs.Same.{same_corp}
use Rattle.rr_books.specs.Shares.{Holders, share}
use Rattle.rr_market.specs.Marks.{cell_after, mark_of}
use Rattle.rr_market.specs.Moves.{cell_after_paying, cell_after_withholding, dividend_marks, mark_at}
use Rattle.rr_operate.specs.Dividends.Dividends.{part, pays_out, seating, withholds}
use Rattle.rr_operate.specs.Dividends.DividendLaws.{DividendsMoveTokens, seat_dividend}
use Rattle.rr_operate.proofs.DividendsLemmas.Flat.{entries_are_these, withheld_flat}

after_more : (book more : Book) (d : Corp) → mark_of (book ++ more) d ≡ fold (cell_after d) (mark_of book d) more
unfolding mark_of
after_more book more d = fold-append (cell_after d) None book more

-- payments to seats move no token
paid_past : (d : Corp) (H : Holders) (c : Corp) (revenue : Money) (ss : List Seat) (x : Option Cell) → fold (cell_after d) x (map (seat_dividend H c revenue) ss) ≡ x
paid_past d H c revenue [] x = refl
paid_past d H c revenue (s ∷ ss) x = paid_past d H c revenue ss x

paid_to_mark : (rows : List Row) (book : Book) (c : Corp) (revenue : Money) (d : Corp) → mark_of (book ++ pays_out rows c revenue book) d ≡ fold (cell_after d) (mark_of book d) (dividend_marks rows c book)
paid_to_mark rows book c revenue d =
    let ds = map (seat_dividend (holder book) c revenue) (seating (players book)) in
    let pool = E.Pay P.Bank (P.Corp c) (part revenue (share (holder book) L.Pool c)) in
    after_more book (pays_out rows c revenue book) d
    ∙ ap (λ (es : Book). fold (cell_after d) (mark_of book d) es) (entries_are_these rows c revenue book)
    ∙ fold-append (cell_after d) (mark_of book d) ds (pool ∷ dividend_marks rows c book)
    ∙ ap (λ (x : Option Cell). fold (cell_after d) x (dividend_marks rows c book)) (paid_past d (holder book) c revenue (seating (players book)) (mark_of book d))

withheld_to_mark : (rows : List Row) (book : Book) (c : Corp) (revenue : Money) (d : Corp) → mark_of (book ++ withholds rows c revenue book) d ≡ fold (cell_after d) (mark_of book d) (mark_at c (option_and_then (cell_after_withholding rows) (mark_of book c)))
withheld_to_mark rows book c revenue d =
    after_more book (withholds rows c revenue book) d
    ∙ ap (λ (es : Book). fold (cell_after d) (mark_of book d) es) (withheld_flat rows c revenue book)

same_itself : (c : Corp) → same_corp c c ≡ true
same_itself c = grind (arith, nat_tests)

marked : (c : Corp) (x cell : Option Cell) → fold (cell_after c) x (mark_at c cell) ≡ option_or cell x
marked c x None = refl
marked c x (Some to) = ap (λ (b : Bool). cond b (Some to) x) (same_itself c)

passed : (d c : Corp) (x cell : Option Cell) → same_corp d c ≡ false → fold (cell_after d) x (mark_at c cell) ≡ x
passed d c x None other = refl
passed d c x (Some to) other = ap (λ (b : Bool). cond b (Some to) x) other

pub dividends_move_tokens : DividendsMoveTokens
dividends_move_tokens rows book c revenue = record {
  paid = paid_to_mark rows book c revenue c ∙ marked c (mark_of book c) (option_and_then (cell_after_paying rows) (mark_of book c));
  withheld = withheld_to_mark rows book c revenue c ∙ marked c (mark_of book c) (option_and_then (cell_after_withholding rows) (mark_of book c));
  others_of_paid = λ d other. paid_to_mark rows book c revenue d ∙ passed d c (mark_of book d) (option_and_then (cell_after_paying rows) (mark_of book c)) other;
  others_of_withheld = λ d other. withheld_to_mark rows book c revenue d ∙ passed d c (mark_of book d) (option_and_then (cell_after_withholding rows) (mark_of book c)) other;
}
