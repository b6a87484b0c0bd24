-- A dividend by the book before it.
use Rattle.std.specs.Prelude.{◌≡◌, ℕ, List, [], ◌∷◌, ◌++◌, Option, map, option_and_then, refl}
use Rattle.std.proofs.Common.{sym, ◌∙◌, ap, append_assoc, append-nil}
use Rattle.std.proofs.Math.Path.{fun_ext}
use Rattle.rr_roster.specs.declared.company.Corp.{Corp}
use Rattle.rr_roster.specs.Chart.Chart.{Row}
use Rattle.rr_books.specs.declared.parties.Money.{Money}
use Rattle.rr_books.specs.declared.parties.Seat.{Seat}
use Rattle.rr_books.specs.declared.parties.Party.{Party}
use Rattle.rr_books.specs.declared.parties.Party.TheVariants as P
use Rattle.rr_books.specs.declared.parties.Place.TheVariants as L
use Rattle.rr_books.specs.declared.certificates.Cert.{Cert}
use Rattle.rr_books.specs.declared.acts.Act.{Act}
use Rattle.rr_books.specs.declared.acts.Act.TheVariants as A
use Rattle.rr_books.specs.declared.entries.Cell.{Cell}
use Rattle.rr_books.specs.declared.entries.Entry.TheVariants as E
use Rattle.rr_books.specs.declared.entries.Marker.TheVariants as M
use Rattle.rr_books.specs.Book.{Book, holder, holder-push, players, players-push}
use Rattle.rr_books.specs.Shares.{Holders, share}
use Rattle.rr_desk.specs.Effects.{in_turn}
use Rattle.rr_market.specs.Marks.{mark_of}
use Rattle.rr_market.specs.MarkLaws.{mark_of-push}
use Rattle.rr_market.specs.Moves.{cell_after_paying, cell_after_withholding, dividend_marks, mark_at, withholding_marks}
use Rattle.rr_operate.specs.Dividends.Dividends.{part, pays_for, pays_out, pays_seat, pays_seats, seating, withholds}
use Rattle.rr_operate.specs.Dividends.DividendLaws.{EntriesAreThese, seat_dividend}

-- the shares and the tokens are where they were
record KeepsShares (book after : Book) : Type 0 where
  holders : holder after ≡ holder book
  marks : (c : Corp) → mark_of after c ≡ mark_of book c

keeps_pay : (book : Book) (from to : Party) (amount : Money) → KeepsShares book (book ++ E.Pay from to amount ∷ [])
keeps_pay book from to amount = record {
  holders = fun_ext (λ (cert : Cert). holder-push book (E.Pay from to amount) cert);
  marks = λ c. mark_of-push book (E.Pay from to amount) c;
}

keeps_words : (book : Book) (act : Act) → KeepsShares book (book ++ E.Step (M.Act act) ∷ [])
keeps_words book act = record {
  holders = fun_ext (λ (cert : Cert). holder-push book (E.Step (M.Act act)) cert);
  marks = λ c. mark_of-push book (E.Step (M.Act act)) c;
}

keeps_none : (book : Book) → KeepsShares book (book ++ [])
keeps_none book = record {
  holders = ap (λ (b : Book). holder b) (append-nil book);
  marks = λ c. ap (λ (b : Book). mark_of b c) (append-nil book);
}

keeps_more : (a b d : Book) → KeepsShares a b → KeepsShares b d → KeepsShares a d
keeps_more a b d f g = record { holders = g.holders ∙ f.holders; marks = λ c. g.marks c ∙ f.marks c }

keeps_same : (a b d : Book) → b ≡ d → KeepsShares a b → KeepsShares a d
keeps_same a b d e f = record {
  holders = ap (λ (x : Book). holder x) (sym e) ∙ f.holders;
  marks = λ c. ap (λ (x : Book). mark_of x c) (sym e) ∙ f.marks c;
}

keeps_seats : (c : Corp) (revenue : Money) (ss : List Seat) (book : Book) → KeepsShares book (book ++ in_turn (map (pays_seat c revenue) ss) book)
unfolding pays_for
keeps_seats c revenue [] book = keeps_none book
keeps_seats c revenue (s ∷ ss) book =
    let pay = E.Pay P.Bank (P.Seat s) (part revenue (share (holder book) (L.Seat s) c)) in
    let later = book ++ pay ∷ [] in
    keeps_same book (later ++ in_turn (map (pays_seat c revenue) ss) later) (book ++ pay ∷ in_turn (map (pays_seat c revenue) ss) later)
    (append_assoc book (pay ∷ []) (in_turn (map (pays_seat c revenue) ss) later))
    (keeps_more book later (later ++ in_turn (map (pays_seat c revenue) ss) later) (keeps_pay book P.Bank (P.Seat s) (part revenue (share (holder book) (L.Seat s) c))) (keeps_seats c revenue ss later))

seats_flat : (c : Corp) (revenue : Money) (ss : List Seat) (book : Book) → in_turn (map (pays_seat c revenue) ss) book ≡ map (seat_dividend (holder book) c revenue) ss
unfolding pays_for
seats_flat c revenue [] book = refl
seats_flat c revenue (s ∷ ss) book =
    let pay = E.Pay P.Bank (P.Seat s) (part revenue (share (holder book) (L.Seat s) c)) in
    let later = book ++ pay ∷ [] in
    ap (λ (es : Book). pay ∷ es)
    (seats_flat c revenue ss later ∙ ap (λ (H : Holders). map (seat_dividend H c revenue) ss) (keeps_pay book P.Bank (P.Seat s) (part revenue (share (holder book) (L.Seat s) c))).holders)

-- the payments to the seats once the command's words are taken down
seats_paid : (c : Corp) (revenue : Money) (act : Act) (book : Book) → pays_seats c revenue (book ++ E.Step (M.Act act) ∷ []) ≡ map (seat_dividend (holder book) c revenue) (seating (players book))
unfolding pays_seats
seats_paid c revenue act book =
    let later = book ++ E.Step (M.Act act) ∷ [] in
    seats_flat c revenue (seating (players later)) later
    ∙ ap (λ (H : Holders). map (seat_dividend H c revenue) (seating (players later))) (keeps_words book act).holders
    ∙ ap (λ (n : ℕ). map (seat_dividend (holder book) c revenue) (seating n)) (players-push book (E.Step (M.Act act)))

keeps_paying_seats : (c : Corp) (revenue : Money) (book : Book) → KeepsShares book (book ++ pays_seats c revenue book)
unfolding pays_seats
keeps_paying_seats c revenue book = keeps_seats c revenue (seating (players book)) book

token_flat : (target : Cell → Option Cell) (c : Corp) (a b : Book) → KeepsShares a b → mark_at c (option_and_then target (mark_of b c)) ++ [] ≡ mark_at c (option_and_then target (mark_of a c))
token_flat target c a b h =
    append-nil (mark_at c (option_and_then target (mark_of b c)))
    ∙ ap (λ (cell : Option Cell). mark_at c (option_and_then target cell)) (h.marks c)

pub entries_are_these : EntriesAreThese
unfolding pays_out pays_for
entries_are_these rows c revenue book =
    let words = E.Step (M.Act (A.PayOut c)) in
    let one = book ++ words ∷ [] in
    let two = one ++ pays_seats c revenue one in
    let pool = E.Pay P.Bank (P.Corp c) (part revenue (share (holder two) L.Pool c)) in
    let three = two ++ pool ∷ [] in
    let first = keeps_words book (A.PayOut c) in
    let second = keeps_more book one two first (keeps_paying_seats c revenue one) in
    let third = keeps_more book two three second (keeps_pay two P.Bank (P.Corp c) (part revenue (share (holder two) L.Pool c))) in
    ap (λ (es : Book). words ∷ (es ++ pool ∷ (dividend_marks rows c three ++ []))) (seats_paid c revenue (A.PayOut c) book)
    ∙ ap (λ (H : Holders). words ∷ (map (seat_dividend (holder book) c revenue) (seating (players book)) ++ E.Pay P.Bank (P.Corp c) (part revenue (share H L.Pool c)) ∷ (dividend_marks rows c three ++ []))) second.holders
    ∙ ap (λ (es : Book). words ∷ (map (seat_dividend (holder book) c revenue) (seating (players book)) ++ E.Pay P.Bank (P.Corp c) (part revenue (share (holder book) L.Pool c)) ∷ es)) (token_flat (cell_after_paying rows) c book three third)

-- what is withheld, by the book before it
pub withheld_flat : (rows : List Row) (c : Corp) (revenue : Money) (book : Book) → withholds rows c revenue book ≡ E.Step (M.Act (A.Hold c)) ∷ (E.Pay P.Bank (P.Corp c) revenue ∷ withholding_marks rows c book)
unfolding withholds
withheld_flat rows c revenue book =
    let words = E.Step (M.Act (A.Hold c)) in
    let pay = E.Pay P.Bank (P.Corp c) revenue in
    let one = book ++ words ∷ [] in
    let two = one ++ pay ∷ [] in
    let both = keeps_more book one two (keeps_words book (A.Hold c)) (keeps_pay one P.Bank (P.Corp c) revenue) in
    ap (λ (es : Book). words ∷ (pay ∷ es)) (token_flat (cell_after_withholding rows) c book two both)
