-- Nobody pays what it doesn't have.
use Rattle.std.specs.Prelude.{◌≡◌, ℕ, ℤ, pos, ◌+ℤ◌, ◌-ℤ◌, ◌≤ℤ◌, int_lt, ◌==◌, Bool, true, false, [], ◌∷◌, ◌++◌, Option, None, Some, slice_index_or, refl}
use Rattle.std.proofs.Common.{sym, ◌∙◌, ap, subst, cond, append-nil, arith, inl, inr}
use Rattle.std.proofs.lemmas.Bool.{false≢true}
use Rattle.std.proofs.lemmas.Bool.Decides.{eqb_tells}
use Rattle.std.proofs.lemmas.Int.{ints}
use Rattle.rr_roster.specs.declared.company.Private.{Private}
use Rattle.rr_roster.specs.declared.company.Corp.{Corp}
use Rattle.rr_roster.specs.declared.company.Corp.TheVariants as C
use Rattle.rr_roster.specs.declared.company.Kind.{Kind}
use Rattle.rr_roster.specs.declared.company.Kind.TheVariants as K
use Rattle.rr_roster.specs.Company.{corp_index, corps}
use Rattle.rr_roster.specs.Terms.{price_of, trade_of}
use Rattle.rr_books.specs.declared.parties.Seat.{Seat}
use Rattle.rr_books.specs.declared.parties.Party.{Party}
use Rattle.rr_books.specs.declared.parties.Party.TheVariants as P
use Rattle.rr_books.specs.declared.parties.Place.{Place}
use Rattle.rr_books.specs.declared.parties.Place.TheVariants as L
use Rattle.rr_books.specs.declared.certificates.Train.{Train}
use Rattle.rr_books.specs.declared.certificates.Cert.TheVariants as Cert
use Rattle.rr_books.specs.declared.entries.Entry.{Entry}
use Rattle.rr_books.specs.declared.entries.Entry.TheVariants as E
use Rattle.rr_books.specs.declared.entries.Marker.TheVariants as M
use Rattle.rr_books.specs.declared.acts.Act.{Act}
use Rattle.rr_books.specs.declared.acts.Act.TheVariants as A
use Rattle.rr_roster.specs.declared.sources.TrainSource.TheVariants as S
use Rattle.rr_books.specs.Book.{Book, balance, balance-push, balance_after, train_holder}
use Rattle.rr_books.specs.Same.{same_party}
use Rattle.rr_desk.specs.Effects.{Effect, adds, in_turn}
use Rattle.rr_desk.specs.Incomes.{dollars}
use Rattle.rr_trains.specs.Places.{lowest_train}
use Rattle.rr_trains.specs.Effects.{first_train, moves_lowest_train, moves_train_if}
use Rattle.rr_trains.specs.declared.depot.purchases.Purchase.{Purchase}
use Rattle.rr_trains.specs.Depot.Rules.{deal, is_short, owner}
use Rattle.rr_trains.specs.Depot.Situation.{situation_of}
use Rattle.rr_trains.specs.Depot.Effects.{buys_train, buys_train_from, discards_train, gets_train, of_bank, of_corporation, pays, pays_player, says, takes_private, trades_train}
use Rattle.rr_trains.specs.Depot.PurchaseLaws.{NobodyOverspends, NobodyOwes}
use Rattle.rr_trains.proofs.DepotLemmas.Endings.{ends, goes_no_further, goes_on, kept_by, train_ends}
use Rattle.rr_trains.proofs.DepotLemmas.Verdicts.{may_buy, may_deal, may_hand_in, may_take}

-- nobody owes, and the corporation has the amount
record Covers (c : Corp) (amount : ℕ) (book : Book) : Type 0 where
  none : NobodyOwes book
  has : pos amount ≤ℤ balance book (P.Corp c)

-- entries that pay nobody
is_unpaid : Entry → Bool
is_unpaid (E.Pay from to amount) = false
is_unpaid _ = true

unpaid_after : (p : Party) (had : ℤ) (e : Entry) → is_unpaid e ≡ true → balance_after p had e ≡ had
unfolding is_unpaid
unpaid_after p had (E.Pay from to amount) h = absurd (false≢true h)
unpaid_after p had _ h = omega (arith, ints)

unpaid : (book : Book) (e : Entry) (p : Party) → is_unpaid e ≡ true → balance (book ++ e ∷ []) p ≡ balance book p
unpaid book e p h = balance-push book e p ∙ unpaid_after p (balance book p) e h

owes_none : (book : Book) (e : Entry) → is_unpaid e ≡ true → NobodyOwes book → NobodyOwes (book ++ e ∷ [])
owes_none book e h none p other = subst (λ (m : ℤ). pos 0 ≤ℤ m) (sym (unpaid book e p h)) (none p other)

covers : (c : Corp) (amount : ℕ) (book : Book) (e : Entry) → is_unpaid e ≡ true → Covers c amount book → Covers c amount (book ++ e ∷ [])
covers c amount book e h covered = record {
  none = owes_none book e h covered.none;
  has = subst (λ (m : ℤ). pos amount ≤ℤ m) (sym (unpaid book e (P.Corp c) h)) covered.has;
}

ends_unpaid : (e : Entry) → ends e ≡ true → is_unpaid e ≡ true
unfolding is_unpaid
ends_unpaid (E.Pay from to amount) h = absurd (false≢true h)
ends_unpaid _ h = refl

-- a train that moves, if one does
covers_moved : (c : Corp) (amount : ℕ) (book : Book) (t : Option Train) (to : Place) → Covers c amount book → Covers c amount (book ++ moves_train_if t to)
unfolding is_unpaid
covers_moved c amount book None to covered = subst (λ (b : Book). Covers c amount b) (sym (append-nil book)) covered
covers_moved c amount book (Some t) to covered = covers c amount book (E.Train t to) refl covered

owes_none_moved : (book : Book) (t : Option Train) (to : Place) → NobodyOwes book → NobodyOwes (book ++ moves_train_if t to)
unfolding is_unpaid
owes_none_moved book None to none = subst (λ (b : Book). NobodyOwes b) (sym (append-nil book)) none
owes_none_moved book (Some t) to none = owes_none book (E.Train t to) refl none

-- a corporation is told by its number
numbered : (c : Corp) → slice_index_or corps (corp_index c) C.Prr ≡ c
numbered C.Prr = refl
numbered C.Nyc = refl
numbered C.Cpr = refl
numbered C.Bo = refl
numbered C.Co = refl
numbered C.Erie = refl
numbered C.Nynh = refl
numbered C.Bm = refl

one_corporation : (d c : Corp) → (corp_index d == corp_index c) ≡ true → d ≡ c
one_corporation d c e =
    elim (eqb_tells (corp_index d) (corp_index c)) [
      | inl same ↦ sym (numbered d) ∙ ap (λ (n : ℕ). slice_index_or corps n C.Prr) same.1 ∙ numbered c
      | inr other ↦ absurd (false≢true (sym other.0 ∙ e))
    ]

one_payer : (p : Party) (c : Corp) → same_party p (P.Corp c) ≡ true → p ≡ P.Corp c
one_payer (P.Corp d) c e = ap (λ (x : Corp). P.Corp x) (one_corporation d c e)
one_payer P.Bank c e = absurd (false≢true e)
one_payer (P.Seat s) c e = absurd (false≢true e)

-- a payment of no more than there is
not_below : (had : ℤ) (amount : ℕ) (paid payer : Bool) → pos 0 ≤ℤ had → (payer ≡ true → pos amount ≤ℤ had) → pos 0 ≤ℤ ((had +ℤ cond paid (pos amount) (pos 0)) -ℤ cond payer (pos amount) (pos 0))
not_below had amount true true none enough = let h = enough refl in omega (arith, ints)
not_below had amount true false none enough = omega (arith, ints)
not_below had amount false true none enough = let h = enough refl in omega (arith, ints)
not_below had amount false false none enough = omega (arith, ints)

paid : (c : Corp) (to : Party) (amount : ℕ) (book : Book) → Covers c amount book → NobodyOwes (book ++ pays c to amount book)
paid c to amount book covered p other =
    let e = E.Pay (P.Corp c) to (dollars amount) in
    let had = balance book p in
    subst (λ (m : ℤ). pos 0 ≤ℤ m) (sym (balance-push book e p))
    (not_below had amount (same_party p to) (same_party p (P.Corp c)) (covered.none p other)
    (λ same. subst (λ (q : Party). pos amount ≤ℤ balance book q) (sym (one_payer p c same)) covered.has))

gets_paid : (p : Purchase) (book : Book) → Covers p.corp p.amount book → NobodyOwes (book ++ gets_train p book)
unfolding gets_train
gets_paid p book covered =
    let c = p.corp in
    let moves : Effect = moves_lowest_train p.kind p.from (L.Corp c) in
    let paying : Effect = pays c p.payee p.amount in
    let first : Effect = first_train p.is_first p.kind c in
    let moved = book ++ moves book in
    let settled = moved ++ paying moved in
    let have = covers_moved c p.amount book (lowest_train (train_holder book) p.from p.kind) (L.Corp c) covered in
    let none : NobodyOwes settled = paid c p.payee p.amount moved have in
    let done : NobodyOwes (settled ++ first settled) = kept_by NobodyOwes ends (λ b e out. owes_none b e (ends_unpaid e out)) (first settled) settled (train_ends p.is_first p.kind c settled) none in
    goes_on NobodyOwes moves (paying ∷ first ∷ []) book
    (goes_on NobodyOwes paying (first ∷ []) moved (goes_on NobodyOwes first [] settled (goes_no_further NobodyOwes (settled ++ first settled) done)))

-- a command that says so and gets a train
buys : (act : Act) (p : Purchase) (book : Book) → Covers p.corp p.amount book → NobodyOwes (book ++ in_turn (says act ∷ gets_train p ∷ []) book)
unfolding is_unpaid
buys act p book covered =
    let said = book ++ says act book in
    let none = gets_paid p said (covers p.corp p.amount book (E.Step (M.Act act)) refl covered) in
    goes_on NobodyOwes (says act) (gets_train p ∷ []) book (goes_on NobodyOwes (gets_train p) [] said (goes_no_further NobodyOwes (said ++ gets_train p said) none))

trades : (act : Act) (kind : Kind) (p : Purchase) (book : Book) → Covers p.corp p.amount book → NobodyOwes (book ++ in_turn (says act ∷ moves_lowest_train kind (L.Corp p.corp) L.Gone ∷ gets_train p ∷ []) book)
unfolding is_unpaid
trades act kind p book covered =
    let gives : Effect = moves_lowest_train kind (L.Corp p.corp) L.Gone in
    let said = book ++ says act book in
    let given = said ++ gives said in
    let have = covers p.corp p.amount book (E.Step (M.Act act)) refl covered in
    let still = covers_moved p.corp p.amount said (lowest_train (train_holder said) (L.Corp p.corp) kind) L.Gone have in
    let none = gets_paid p given still in
    goes_on NobodyOwes (says act) (gives ∷ gets_train p ∷ []) book
    (goes_on NobodyOwes gives (gets_train p ∷ []) said (goes_on NobodyOwes (gets_train p) [] given (goes_no_further NobodyOwes (given ++ gets_train p given) none)))

discards : (act : Act) (c : Corp) (kind : Kind) (book : Book) → NobodyOwes book → NobodyOwes (book ++ in_turn (says act ∷ moves_lowest_train kind (L.Corp c) L.Pool ∷ []) book)
unfolding is_unpaid
discards act c kind book none =
    let gives : Effect = moves_lowest_train kind (L.Corp c) L.Pool in
    let said = book ++ says act book in
    let still = owes_none book (E.Step (M.Act act)) refl none in
    let given = owes_none_moved said (lowest_train (train_holder said) (L.Corp c) kind) L.Pool still in
    goes_on NobodyOwes (says act) (gives ∷ []) book (goes_on NobodyOwes gives [] said (goes_no_further NobodyOwes (said ++ gives said) given))

player_paid : (c : Corp) (o : Option Seat) (amount : ℕ) (book : Book) → Covers c amount book → NobodyOwes (book ++ pays_player c o amount book)
player_paid c None amount book covered = goes_no_further NobodyOwes book covered.none
player_paid c (Some s) amount book covered = paid c (P.Seat s) amount book covered

takes : (act : Act) (c : Corp) (p : Private) (o : Option Seat) (amount : ℕ) (book : Book) → Covers c amount book
    → NobodyOwes (book ++ in_turn (says act ∷ adds (E.Move (Cert.Private p) (L.Corp c)) ∷ pays_player c o amount ∷ []) book)
unfolding is_unpaid
takes act c p o amount book covered =
    let moves : Effect = adds (E.Move (Cert.Private p) (L.Corp c)) in
    let said = book ++ says act book in
    let moved = said ++ moves said in
    let have = covers c amount book (E.Step (M.Act act)) refl covered in
    let still = covers c amount said (E.Move (Cert.Private p) (L.Corp c)) refl have in
    let none = player_paid c o amount moved still in
    goes_on NobodyOwes (says act) (moves ∷ pays_player c o amount ∷ []) book
    (goes_on NobodyOwes moves (pays_player c o amount ∷ []) said (goes_on NobodyOwes (pays_player c o amount) [] moved (goes_no_further NobodyOwes (moved ++ pays_player c o amount moved) none)))

enough : (had : ℤ) (amount : ℕ) → int_lt had (pos amount) ≡ false → pos amount ≤ℤ had
enough had amount e = grind (arith, ints)

covered_by : (c : Corp) (amount : ℕ) (book : Book) → is_short (situation_of book) c amount ≡ false → NobodyOwes book → Covers c amount book
covered_by c amount book e none = record { none = none; has = enough (balance book (P.Corp c)) amount e }

pub nobody_overspends : NobodyOverspends
unfolding buys_train buys_train_from trades_train discards_train takes_private
nobody_overspends roster book (A.BuyTrain c kind source) lawful none =
    buys (A.BuyTrain c kind source) (of_bank (train_holder book) c kind source (price_of roster kind)) book (covered_by c (price_of roster kind) book (may_buy roster (situation_of book) c kind source lawful).enough none)
nobody_overspends roster book (A.BuyTrainFrom c kind seller price s s2) lawful none =
    buys (A.BuyTrainFrom c kind seller price s s2) (of_corporation (deal c kind seller price s s2)) book (covered_by c price book (may_deal (situation_of book) (deal c kind seller price s s2) lawful).enough none)
nobody_overspends roster book (A.Trade c kind) lawful none =
    trades (A.Trade c kind) kind (of_bank (train_holder book) c K.Diesel S.Bank (trade_of roster)) book (covered_by c (trade_of roster) book (may_hand_in roster (situation_of book) c kind lawful).enough none)
nobody_overspends roster book (A.Discard c kind) lawful none = discards (A.Discard c kind) c kind book none
nobody_overspends roster book (A.TakePrivate c p price) lawful none =
    takes (A.TakePrivate c p price) c p (owner (situation_of book) p) price book (covered_by c price book (may_take roster (situation_of book) c p price lawful).enough none)
nobody_overspends roster book _ lawful none = absurd (cc)
