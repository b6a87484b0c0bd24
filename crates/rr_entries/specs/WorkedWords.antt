-- The words of entries at a table of a and b.
use Rattle.std.specs.Prelude.{◌≡◌, ℕ, List, [], ◌∷◌, ◌++◌, codes}
use Rattle.rr_roster.specs.declared.company.Private.TheVariants as Private
use Rattle.rr_roster.specs.declared.company.Corp.TheVariants as Corp
use Rattle.rr_roster.specs.declared.company.Kind.TheVariants as K
use Rattle.rr_books.specs.declared.acts.Act.TheVariants as A
use Rattle.rr_books.specs.declared.certificates.Cert.TheVariants as C
use Rattle.rr_books.specs.declared.certificates.ShareNumber.TheVariants as N
use Rattle.rr_books.specs.declared.entries.Entry.{Entry}
use Rattle.rr_books.specs.declared.entries.Entry.TheVariants as E
use Rattle.rr_books.specs.declared.entries.Marker.TheVariants as M
use Rattle.rr_books.specs.declared.parties.Party.TheVariants as P
use Rattle.rr_books.specs.declared.parties.Place.TheVariants as L
use Rattle.rr_books.specs.declared.parties.Seat.{Seat}
use Rattle.rr_books.specs.Book.{Book}
use Rattle.rr_desk.specs.Incomes.{dollars}
use Rattle.rr_entries.specs.Words.{book_words, spaced}

abbrev pub a : Seat
a = record { 0 = 0 }

abbrev pub b : Seat
b = record { 0 = 1 }

-- the text of these entries
abbrev pub text : Book → List ℕ
text entries = spaced (book_words (codes "a" ∷ codes "b" ∷ []) entries)

-- the text of this entry alone
abbrev pub text_of_one : Entry → List ℕ
text_of_one entry = text (entry ∷ [])

-- each kind of entry that has words, each kind of party and place, and each kind of certificate
pub record WorkedEntries : Type 0 where
  pub to_bank : text_of_one (E.Pay (P.Seat a) P.Bank (dollars 20)) ≡ codes " pay a bank 20"
  pub to_seat : text_of_one (E.Pay P.Bank (P.Seat b) (dollars 1200)) ≡ codes " pay bank b 1200"
  pub to_corporation : text_of_one (E.Pay (P.Corp Corp.Bo) (P.Corp Corp.Prr) (dollars 1)) ≡ codes " pay B&O PRR 1"
  pub private : text_of_one (E.Move (C.Private Private.Sv) (L.Seat a)) ≡ codes " move SV a"
  pub president : text_of_one (E.Move (C.President Corp.Prr) (L.Seat b)) ≡ codes " move PRR-P b"
  pub first_share : text_of_one (E.Move (C.Share Corp.Nyc N.One) L.Offer) ≡ codes " move NYC-1 offer"
  pub last_share : text_of_one (E.Move (C.Share Corp.Bm N.Eight) L.Pool) ≡ codes " move B&M-8 pool"
  pub sold_private : text_of_one (E.Move (C.Private Private.Csl) (L.Corp Corp.Co)) ≡ codes " move C&SL C&O"
  pub mark : text_of_one (E.Mark Corp.Prr (record { row = 0; column = 6 })) ≡ codes " mark PRR 0 6"
  pub lay : text_of_one (E.Lay (codes "H10") 57 1) ≡ codes " lay H10 57 1"
  pub station : text_of_one (E.Station Corp.Erie (codes "E11") 2) ≡ codes " station ERIE E11 2"
  pub train : text_of_one (E.Train (record { kind = K.Two; number = 6 }) (L.Corp Corp.Nynh)) ≡ codes " train 2-6 NYNH"
  pub gone : text_of_one (E.Train (record { kind = K.Diesel; number = 1 }) L.Gone) ≡ codes " train D-1 gone"
  pub best : text_of_one (E.Best Corp.Prr (codes "4 H12 H12:0") (codes "f")) ≡ codes " best PRR 4 H12 H12:0"
  pub no_sheet : text_of_one (E.Best Corp.Prr [] (codes "f")) ≡ codes " best PRR"

-- a step and a payment of 0 have no words, nor have no entries
pub record WorkedSilence : Type 0 where
  pub step : text_of_one (E.Step (M.Act (A.BuyPrivate a))) ≡ []
  pub payment_of_0 : text_of_one (E.Pay (P.Seat a) P.Bank (dollars 0)) ≡ []
  pub both : text (E.Step M.Stock ∷ E.Pay P.Bank (P.Seat b) (dollars 0) ∷ []) ≡ []
  pub nothing : text [] ≡ []

-- a takes the SV for 20
abbrev pub purchase : Book
purchase = E.Step (M.Act (A.BuyPrivate a)) ∷ E.Move (C.Private Private.Sv) (L.Seat a) ∷ E.Pay (P.Seat a) P.Bank (dollars 20) ∷ []

-- a separator stands between two entries that have words, whatever else stands before, between and after them
pub record WorkedSeparators : Type 0 where
  pub bought : text purchase ≡ codes " move SV a ; pay a bank 20"
  pub three : text (purchase ++ E.Step M.Stock ∷ E.Pay P.Bank (P.Seat b) (dollars 0) ∷ E.Mark Corp.Prr (record { row = 0; column = 6 }) ∷ E.Step M.Stock ∷ [])
      ≡ codes " move SV a ; pay a bank 20 ; mark PRR 0 6"
