-- What the turns and the par that is owed come to after an entry.
use Rattle.std.specs.Prelude.{◌≡◌, ℕ, ◌+◌, Bool, true, false, cond, not, nat_lt, ◌&&◌, [], ◌∷◌, ◌++◌, Option, None, Some, count_by, is_some, unwrap_or, if◌then◌else◌, refl}
use Rattle.std.proofs.Common.{sym, ◌∙◌, ap, arith}
use Rattle.std.proofs.lemmas.Bool.{eqb-true, not-false}
use Rattle.std.proofs.lemmas.List.Sums.{sum_by_push}
use Rattle.rr_roster.specs.declared.company.Private.{Private}
use Rattle.rr_roster.specs.declared.company.Corp.{Corp}
use Rattle.rr_roster.specs.Terms.{Terms}
use Rattle.rr_books.specs.declared.parties.Seat.{Seat}
use Rattle.rr_books.specs.declared.parties.Place.TheVariants as L
use Rattle.rr_books.specs.declared.certificates.Cert.TheVariants as C
use Rattle.rr_books.specs.declared.entries.Entry.{Entry}
use Rattle.rr_books.specs.declared.entries.Entry.TheVariants as E
use Rattle.rr_books.specs.declared.entries.Marker.{Marker}
use Rattle.rr_books.specs.declared.entries.Marker.TheVariants as M
use Rattle.rr_books.specs.declared.acts.Act.{Act}
use Rattle.rr_books.specs.declared.acts.Act.TheVariants as A
use Rattle.rr_books.specs.Book.{Book, holder, players}
use Rattle.rr_books.specs.Same.{same_seat}
use Rattle.rr_books.specs.declared.refusal.Refusal.{Refusal}
use Rattle.rr_books.specs.declared.refusal.Refusal.TheVariants as F
use Rattle.rr_auction.specs.AuctionLaws.{for_sale, is_raised}
use Rattle.rr_rounds.specs.Bids.Progress.{Progress, after, after_last_pass, after_leaving, after_par, after_turn_pass, all_pass, owing_after, progress}
use Rattle.rr_auction.specs.Rules.{is_priced, price, takes_bids}
use Rattle.rr_auction.specs.TurnLaws.{is_played, owed_by, owed_for, owed_told, owes_par, plays}
use Rattle.rr_rounds.specs.Bids.ProgressLaws.{progress-none, progress-push}
use Rattle.rr_auction.proofs.Entries.{once_told, told_raised}
use Rattle.rr_auction.proofs.Histories.{by_entries, by_last}

-- what a command adds to those that were given, and who owes a par after it
record IsTaken (act : Act) (old new : Progress) : Type 0 where
  commands : new.commands ≡ old.commands + cond (plays act) 1 0
  owed : new.par_due ≡ unwrap_or (owed_by act) old.par_due

par_taken : (s : Seat) (c : Corp) (price : ℕ) (a : Progress) → IsTaken (A.Par s c price) a (after_par c a)
par_taken s Corp.Bo price a = record { commands = omega arith; owed = refl }
par_taken s Corp.Prr price a = record { commands = omega arith; owed = refl }
par_taken s Corp.Nyc price a = record { commands = omega arith; owed = refl }
par_taken s Corp.Cpr price a = record { commands = omega arith; owed = refl }
par_taken s Corp.Co price a = record { commands = omega arith; owed = refl }
par_taken s Corp.Erie price a = record { commands = omega arith; owed = refl }
par_taken s Corp.Nynh price a = record { commands = omega arith; owed = refl }
par_taken s Corp.Bm price a = record { commands = omega arith; owed = refl }

taken : (n : ℕ) (raised : Bool) (on : Option Private) (a : Progress) (act : Act) → IsTaken act a (once_told n raised on a act)
taken n raised on a (A.BuyPrivate t) = record { commands = refl; owed = refl }
taken n true on a (A.Bid t q m) = record { commands = refl; owed = refl }
taken n false on a (A.Bid t q m) = record { commands = refl; owed = refl }
taken n true on a (A.Pass t) = by_sale on
  where
    by_sale : (o : Option Private) → IsTaken (A.Pass t) a (after_leaving t o a)
    by_sale None = record { commands = refl; owed = refl }
    by_sale (Some q) = record { commands = refl; owed = refl }
taken n false on a (A.Pass t) = by_test (all_pass n a)
  where
    by_test : (b : Bool) → IsTaken (A.Pass t) a (if b then after_last_pass n t on a else after_turn_pass n t a)
    by_test true = record { commands = refl; owed = refl }
    by_test false = record { commands = refl; owed = refl }
taken n raised on a (A.Par t c price) = par_taken t c price a
taken n raised on a _ = record { commands = omega arith; owed = refl }

sold_owed : (p : Private) (s : Seat) (owing : Option Seat) → owing_after p s owing ≡ unwrap_or (owed_for p s) owing
sold_owed Private.Bo s owing = refl
sold_owed Private.Sv s owing = refl
sold_owed Private.Csl s owing = refl
sold_owed Private.Dh s owing = refl
sold_owed Private.Mh s owing = refl
sold_owed Private.Ca s owing = refl

-- what an entry adds, and who owes a par after it
record IsToldBy (book : Book) (e : Entry) : Type 0 where
  commands : (after book (progress book) e).commands ≡ (progress book).commands + cond (is_played e) 1 0
  owed : (after book (progress book) e).par_due ≡ unwrap_or (owed_told book e) (progress book).par_due

entry_told : (book : Book) (e : Entry) → IsToldBy book e
entry_told book (E.Step marker) = by_marker marker
  where
    by_marker : (marker : Marker) → IsToldBy book (E.Step marker)
    by_marker (M.Act act) =
        let all = taken (players book) (is_raised book) (for_sale book) (progress book) act in
        record {
          commands = ap (λ (x : Progress). x.commands) (told_raised book act) ∙ all.commands;
          owed = ap (λ (x : Progress). x.par_due) (told_raised book act) ∙ all.owed;
        }
    by_marker _ = record { commands = omega arith; owed = refl }
entry_told book (E.Move (C.Private p) (L.Seat s)) = record { commands = omega arith; owed = sold_owed p s (progress book).par_due }
entry_told book _ = record { commands = omega arith; owed = refl }

pub commands_counted : (book : Book) → (progress book).commands ≡ count_by is_played book
commands_counted book = by_entries (λ b. (progress b).commands ≡ count_by is_played b) (ap (λ (a : Progress). a.commands) progress-none) step book
  where
    step : (b : Book) (e : Entry) → (progress b).commands ≡ count_by is_played b → (progress (b ++ e ∷ [])).commands ≡ count_by is_played (b ++ e ∷ [])
    step b e h =
        ap (λ (a : Progress). a.commands) (progress-push b e)
        ∙ (entry_told b e).commands
        ∙ ap (λ (n : ℕ). n + cond (is_played e) 1 0) h
        ∙ sym (sum_by_push (λ (x : Entry). cond {A = ℕ} (is_played x) 1 0) b e)

pub par_owed : (book : Book) → (progress book).par_due ≡ owes_par book
par_owed book =
    by_last owed_told None (λ b. (progress b).par_due) (ap (λ (a : Progress). a.par_due) progress-none)
    (λ b e. ap (λ (a : Progress). a.par_due) (progress-push b e) ∙ (entry_told b e).owed) book

none_taken : (b : Bool) → (b && false) ≡ false
none_taken true = refl
none_taken false = refl

-- no bid and no pass is taken while the private for sale costs nothing
pub takes_none : (roster : Terms) (book : Book) → for_sale book ≡ Some Private.Sv → price roster (progress book).falls Private.Sv ≡ 0 → takes_bids roster (holder book) (progress book) ≡ false
takes_none roster book first free =
    let a = progress book in
    let open_to = not (is_some a.par_due) in
    ap (λ (o : Option Private). open_to && is_priced roster a.falls o) first
    ∙ ap (λ (n : ℕ). open_to && nat_lt 0 n) free
    ∙ none_taken open_to

-- a test in a chain that refuses nothing
passed : (b : Bool) (fault : Refusal) (others : Option Refusal) → (if b then Some fault else others) ≡ None → (b ≡ false) × (others ≡ None)
passed true fault others e = absurd (cc)
passed false fault others e = (refl, e)

pub in_turn_buys : (b : Bool) (s t : Seat) (others : Option Refusal) → (if b then Some F.WrongStep else if not (same_seat s t) then Some F.NotYourTurn else others) ≡ None → s.0 ≡ t.0
in_turn_buys b s t others e =
    let first = passed b F.WrongStep _ e in
    let second = passed (not (same_seat s t)) F.NotYourTurn others first.1 in
    eqb-true s.0 t.0 (not-false (same_seat s t) second.0)
