-- How far an auction has come, from a table's book alone.
use Rattle.std.specs.Prelude.{◌≡◌, ℕ, ◌+◌, ◌≤◌, Bool, [], ◌∷◌, ◌++◌, Option, None, Some, is_some, if◌then◌else◌, ◌==◌}
use Rattle.rr_roster.specs.declared.company.Private.{Private}
use Rattle.rr_roster.specs.declared.company.Corp.{Corp}
use Rattle.rr_books.specs.declared.parties.Seat.{Seat}
use Rattle.rr_books.specs.declared.parties.Place.TheVariants as L
use Rattle.rr_books.specs.declared.certificates.Cert.TheVariants as C
use Rattle.rr_books.specs.declared.entries.Entry.{Entry}
use Rattle.rr_books.specs.declared.entries.Entry.TheVariants as E
use Rattle.rr_books.specs.declared.entries.Marker.TheVariants as M
use Rattle.rr_books.specs.declared.acts.Act.{Act}
use Rattle.rr_books.specs.declared.acts.Act.TheVariants as A
use Rattle.rr_books.specs.Book.{Book, holder, players}
use Rattle.rr_books.specs.Shares.{Holders}
use Rattle.rr_books.specs.Seating.{left_of}
use Rattle.rr_rounds.specs.Bids.Unsold.{cheapest, is_private}
use Rattle.rr_rounds.specs.Bids.Bids.{Bids, bid_of, bids_on, no_bids, raiser, with_bid}

-- the seat of the next turn; the passes in a row; how often the first private's price fell; the bids; the seat that
-- owes the B&O a par; the seat on the left of the last that got a private; the purchases, bids and passes so far
pub record Progress : Type 0 where
  pub turn : Seat
  pub passes : ℕ
  pub falls : ℕ
  pub bids : Bids
  pub par_due : Option Seat
  pub priority : Seat
  pub commands : ℕ

-- the first seat begins
abbrev pub beginning : Progress
beginning = record {
  turn = record { 0 = 0 };
  passes = 0;
  falls = 0;
  bids = no_bids;
  par_due = None;
  priority = record { 0 = 0 };
  commands = 0;
}

-- the seat that is to raise or leave, by the cheapest private: several bid on it
abbrev pub raise_for : Bids → Option Private → Option Seat
raise_for bids None = None
raise_for bids (Some p) = raiser (bids_on bids p)

abbrev pub raise_due : Holders → Progress → Option Seat
raise_due holder a = raise_for a.bids (cheapest holder)

-- with one pass more all seats pass in a row
abbrev pub all_pass : ℕ → Progress → Bool
all_pass n a = a.passes + 1 == n

-- a seat bought the cheapest private
abbrev pub after_purchase : ℕ → Seat → Progress → Progress
after_purchase n s a = record a { turn = left_of n s; passes = 0; commands = a.commands + 1 }

-- a seat raised its bid on the private for which several raise: this is no turn
abbrev pub after_raise : Seat → Private → ℕ → Progress → Progress
after_raise s p amount a = record a { bids = with_bid a.bids p s amount; commands = a.commands + 1 }

-- a seat bid in its turn
abbrev pub after_turn_bid : ℕ → Seat → Private → ℕ → Progress → Progress
after_turn_bid n s p amount a = record a { turn = left_of n s; passes = 0; bids = with_bid a.bids p s amount; commands = a.commands + 1 }

-- a seat left the raising: it has no bid there any more, and this is no turn
abbrev pub after_leaving : Seat → Option Private → Progress → Progress
after_leaving s None a = record a { commands = a.commands + 1 }
after_leaving s (Some p) a = record a { bids = with_bid a.bids p s 0; commands = a.commands + 1 }

-- a seat passed in its turn, and some other seat didn't before
abbrev pub after_turn_pass : ℕ → Seat → Progress → Progress
after_turn_pass n s a = record a { turn = left_of n s; passes = a.passes + 1; commands = a.commands + 1 }

-- all seats passed in a row: the first private's price falls if that is the cheapest
abbrev pub after_last_pass : ℕ → Seat → Option Private → Progress → Progress
after_last_pass n s for_sale a = record a {
  turn = left_of n s;
  passes = 0;
  falls = if is_private Private.Sv for_sale then a.falls + 1 else a.falls;
  commands = a.commands + 1;
}

abbrev pub after_bid : ℕ → Bool → Seat → Private → ℕ → Progress → Progress
after_bid n raising s p amount a = if raising then after_raise s p amount a else after_turn_bid n s p amount a

abbrev pub after_pass : ℕ → Bool → Option Private → Seat → Progress → Progress
after_pass n raising for_sale s a =
    if raising then after_leaving s for_sale a
    else if all_pass n a then after_last_pass n s for_sale a
    else after_turn_pass n s a

-- the B&O has its par
abbrev pub after_par : Corp → Progress → Progress
after_par Corp.Bo a = record a { par_due = None }
after_par _ a = a

-- after a command, at a table of so many players whose certificates lie so
abbrev pub after_act : ℕ → Holders → Progress → Act → Progress
after_act n holder a (A.BuyPrivate s) = after_purchase n s a
after_act n holder a (A.Bid s p amount) = after_bid n (is_some (raise_due holder a)) s p amount a
after_act n holder a (A.Pass s) = after_pass n (is_some (raise_due holder a)) (cheapest holder) s a
after_act n holder a (A.Par s c price) = after_par c a
after_act n holder a _ = a

-- who owes the B&O a par once a seat has got a private
abbrev pub owing_after : Private → Seat → Option Seat → Option Seat
owing_after Private.Bo s owing = Some s
owing_after _ s owing = owing

-- a seat got a private
abbrev pub after_sale : ℕ → Private → Seat → Progress → Progress
after_sale n p s a = record a { par_due = owing_after p s a.par_due; priority = left_of n s }

-- after one entry more, at a table of so many players whose certificates lie so
abbrev pub after_entry : ℕ → Holders → Progress → Entry → Progress
after_entry n holder a (E.Step (M.Act act)) = after_act n holder a act
after_entry n holder a (E.Move (C.Private p) (L.Seat s)) = after_sale n p s a
after_entry n holder a _ = a

-- after one entry more, judged by the book before it
abbrev pub after : Book → Progress → Entry → Progress
after book a e = after_entry (players book) (holder book) a e

-- after the entries that follow on a book, each judged by the book before it
abbrev pub follow : Book → Progress → Book → Progress
follow book a [] = a
follow book a (e ∷ es) = follow (book ++ e ∷ []) (after book a e) es

-- how far the auction has come
unfoldable pub progress : Book → Progress
progress book = follow [] beginning book

-- the auction of the book has come so far
abbrev pub IsBiddingOf : Book → Progress → Type 0
IsBiddingOf book a = progress book ≡ a

-- no seat bids more than ten digits can say
abbrev pub AreSmall : Bids → Type 0
AreSmall bids = (p : Private) (s : Seat) → bid_of bids p s ≤ 10000000000

-- the amount that a command bids, if it is a bid
abbrev pub amount_of : Act → ℕ
amount_of (A.Bid s p amount) = amount
amount_of _ = 0

-- the amount that an entry tells as a bid, if it tells one
abbrev pub amount_bid : Entry → ℕ
amount_bid (E.Step (M.Act act)) = amount_of act
amount_bid _ = 0
