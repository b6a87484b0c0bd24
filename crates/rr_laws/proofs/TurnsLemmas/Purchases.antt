-- What corporations buy, tiles and tokens among it: who has the money pays it, and nothing else is owed.
use Rattle.std.specs.Prelude.{◌≡◌, ℕ, ℤ, pos, ◌≤ℤ◌, int_lt, nat_lt, Bool, true, false, not, ◌&&◌, is_some, [], ◌∷◌, ◌++◌, Option, None, Some, refl, if◌then◌else◌}
use Rattle.std.proofs.Common.{sym, ◌∙◌, ap, subst, arith}
use Rattle.std.proofs.lemmas.Bool.{and_parts, false≢true}
use Rattle.std.proofs.lemmas.Int.{ints}
use Rattle.rr_roster.specs.declared.company.Private.{Private}
use Rattle.rr_roster.specs.declared.company.Private.TheVariants as V
use Rattle.rr_roster.specs.declared.company.Corp.{Corp}
use Rattle.rr_roster.specs.declared.company.Kind.{Kind}
use Rattle.rr_roster.specs.declared.company.Kind.TheVariants as K
use Rattle.rr_roster.specs.Company as company
use Rattle.rr_roster.specs.Terms.{Terms, price_of, trade_of}
use Rattle.rr_books.specs.declared.parties.Seat.{Seat}
use Rattle.rr_books.specs.declared.parties.Party.{Party}
use Rattle.rr_books.specs.declared.parties.Party.TheVariants as P
use Rattle.rr_books.specs.declared.parties.Place.{Place}
use Rattle.rr_books.specs.declared.parties.Place.TheVariants as L
use Rattle.rr_books.specs.declared.certificates.Cert.TheVariants as C
use Rattle.rr_books.specs.declared.certificates.Train.{Train}
use Rattle.rr_books.specs.declared.entries.Entry.{Entry}
use Rattle.rr_books.specs.declared.entries.Entry.TheVariants as E
use Rattle.rr_books.specs.declared.entries.Marker.TheVariants as M
use Rattle.rr_books.specs.declared.acts.Act.{Act}
use Rattle.rr_books.specs.declared.acts.Act.TheVariants as A
use Rattle.rr_roster.specs.declared.sources.TrainSource.{TrainSource}
use Rattle.rr_roster.specs.declared.sources.TrainSource.TheVariants as S
use Rattle.rr_books.specs.Book.{Book, holder, holder-push, players, train_holder}
use Rattle.rr_books.specs.Shares.{is_at}
use Rattle.rr_books.specs.State.{has_party}
use Rattle.rr_desk.specs.Effects.{adds, in_turn}
use Rattle.rr_market.specs.Operations.Phases.{TrainHolders, train, train_numbers}
use Rattle.rr_trains.specs.Places.{lowest_train}
use Rattle.rr_trains.specs.Sales.{source_place}
use Rattle.rr_trains.specs.Effects.{all_close, all_rust, closes, closes_own_private, first_if, first_of_kind, first_train, is_in_game, moves_lowest_train, moves_train_if, rusts}
use Rattle.rr_lay.specs.Costs.{pays_cost, puts}
use Rattle.rr_books.specs.declared.refusal.Refusal.TheVariants as F
use Rattle.rr_trains.specs.Depot.Effects.{buys_train, buys_train_from, discards_train, entries_of, gets_train, is_first_sold, of_bank, of_corporation, pays, pays_player, says, takes_private, trades_train}
use Rattle.rr_trains.specs.Depot.Rules.{deal, deal_verdict, is_short, is_transferable, owner, player_at, private_verdict, trade_verdict, train_verdict, verdict}
use Rattle.rr_trains.specs.Depot.Situation.{Situation, situation_of}
use Rattle.rr_laws.specs.Soundness.Sound.{IsSolvent}
use Rattle.rr_laws.proofs.TurnsLemmas.Turning.{CanSettle, Dues, Settles, Stays, TurnsOn, no_dues, settled, settles_one, settles_then, stays_each, stays_none, stays_two, turns_further, turns_nowhere}
use Rattle.rr_laws.proofs.TurnsLemmas.Quiet.{can_settle, due_of, settles_due, stays_closed, stays_step, stays_train, turns_private}

pub says_stays : (n : ℕ) (act : Act) → Stays n (adds (E.Step (M.Act act)))
says_stays n act = stays_step n (M.Act act)

-- trains that change hands
train_stays : (n : ℕ) (o : Dues) (book : Book) (t : Option Train) (to : Place) → CanSettle n o book → TurnsOn n o book (moves_train_if t to)
train_stays n o book None to h = turns_nowhere n o book h
train_stays n o book (Some t) to h = stays_train n t to o book h

lowest_stays : (n : ℕ) (kind : Kind) (from to : Place) → Stays n (moves_lowest_train kind from to)
lowest_stays n kind from to o book h = train_stays n o book (lowest_train (train_holder book) from kind) to h

-- what the first train of a kind brings about
if_in_game : (n : ℕ) (b : Bool) (e : Entry) (o : Dues) (book : Book) → CanSettle n o book → Stays n (adds e) → TurnsOn n o book (if b then e ∷ [] else [])
if_in_game n true e o book h stays = stays o book h
if_in_game n false e o book h stays = turns_nowhere n o book h

rust_stays : (n : ℕ) (kind : Kind) (number : ℕ) → Stays n (rusts kind number)
unfolding rusts
rust_stays n kind number o book h = if_in_game n (is_in_game (train_holder book (train kind number))) (E.Train (train kind number) L.Gone) o book h (stays_train n (train kind number) L.Gone)

all_rust_stays : (n : ℕ) (kind : Kind) → Stays n (all_rust kind)
unfolding all_rust
all_rust_stays n kind = stays_each n (rusts kind) train_numbers (λ number. rust_stays n kind number)

close_stays : (n : ℕ) (p : Private) → Stays n (closes p)
unfolding closes
close_stays n p o book h = if_in_game n (is_in_game (holder book (C.Private p))) (E.Move (C.Private p) L.Gone) o book h (stays_closed n p)

all_close_stays : (n : ℕ) → Stays n all_close
unfolding all_close
all_close_stays n = stays_each n closes company.privates (λ p. close_stays n p)

kind_stays : (n : ℕ) (kind : Kind) → Stays n (first_of_kind kind)
kind_stays n K.Two = stays_none n
kind_stays n K.Three = stays_none n
kind_stays n K.Four = all_rust_stays n K.Two
kind_stays n K.Five = all_close_stays n
kind_stays n K.Six = all_rust_stays n K.Three
kind_stays n K.Diesel = all_rust_stays n K.Four

first_stays : (n : ℕ) (b : Bool) (kind : Kind) → Stays n (first_if b kind)
first_stays n true kind = kind_stays n kind
first_stays n false kind = stays_none n

own_stays : (n : ℕ) (c : Corp) → Stays n (closes_own_private c)
own_stays n Corp.Bo = close_stays n V.Bo
own_stays n Corp.Prr = stays_none n
own_stays n Corp.Nyc = stays_none n
own_stays n Corp.Cpr = stays_none n
own_stays n Corp.Co = stays_none n
own_stays n Corp.Erie = stays_none n
own_stays n Corp.Nynh = stays_none n
own_stays n Corp.Bm = stays_none n

brought_stays : (n : ℕ) (b : Bool) (kind : Kind) (c : Corp) → Stays n (first_train b kind c)
unfolding first_train
brought_stays n b kind c = stays_two n (first_if b kind) (closes_own_private c) (first_stays n b kind) (own_stays n c)

-- a train that is paid for
pub paid_for : (n : ℕ) (kind : Kind) (from : Place) (c : Corp) (payee : Party) (m : ℕ) (is_first : Bool) → has_party n payee ≡ true
    → Settles n (due_of c m) no_dues (in_turn (moves_lowest_train kind from (L.Corp c) ∷ pays c payee m ∷ first_train is_first kind c ∷ []))
paid_for n kind from c payee m is_first there =
    let o = due_of c m in
    let moves = moves_lowest_train kind from (L.Corp c) in
    let pay = pays c payee m in
    let brings = first_train is_first kind c in
    settles_then n o o no_dues moves (pay ∷ brings ∷ []) (lowest_stays n kind from (L.Corp c) o)
    (settles_then n o no_dues no_dues pay (brings ∷ []) (settles_due n c payee m there) (settles_one n no_dues no_dues brings (brought_stays n is_first kind c no_dues)))

got_of_bank : (n : ℕ) (trains : TrainHolders) (c : Corp) (kind : Kind) (source : TrainSource) (m : ℕ) → Settles n (due_of c m) no_dues (gets_train (of_bank trains c kind source m))
unfolding gets_train
got_of_bank n trains c kind source m = paid_for n kind (source_place source) c P.Bank m (is_first_sold trains kind source) refl

got_of_corporation : (n : ℕ) (c : Corp) (kind : Kind) (seller : Corp) (m : ℕ) (s s2 : Seat) → Settles n (due_of c m) no_dues (gets_train (of_corporation (deal c kind seller m s s2)))
unfolding gets_train
got_of_corporation n c kind seller m s s2 = paid_for n kind (L.Corp seller) c (P.Corp seller) m false refl

train_paid : (n : ℕ) (roster : Terms) (t : Situation) (c : Corp) (kind : Kind) (source : TrainSource) → Settles n (due_of c (price_of roster kind)) no_dues (buys_train roster t c kind source)
unfolding buys_train
train_paid n roster t c kind source =
    let o = due_of c (price_of roster kind) in
    let gets = gets_train (of_bank t.trains c kind source (price_of roster kind)) in
    settles_then n o o no_dues (says (A.BuyTrain c kind source)) (gets ∷ []) (says_stays n (A.BuyTrain c kind source) o)
    (settles_one n o no_dues gets (got_of_bank n t.trains c kind source (price_of roster kind)))

deal_paid : (n : ℕ) (c : Corp) (kind : Kind) (seller : Corp) (m : ℕ) (s s2 : Seat) → Settles n (due_of c m) no_dues (buys_train_from (deal c kind seller m s s2))
unfolding buys_train_from
deal_paid n c kind seller m s s2 =
    let o = due_of c m in
    let act = A.BuyTrainFrom c kind seller m s s2 in
    let gets = gets_train (of_corporation (deal c kind seller m s s2)) in
    settles_then n o o no_dues (says act) (gets ∷ []) (says_stays n act o) (settles_one n o no_dues gets (got_of_corporation n c kind seller m s s2))

trade_paid : (n : ℕ) (roster : Terms) (t : Situation) (c : Corp) (kind : Kind) → Settles n (due_of c (trade_of roster)) no_dues (trades_train roster t c kind)
unfolding trades_train
trade_paid n roster t c kind =
    let o = due_of c (trade_of roster) in
    let moves = moves_lowest_train kind (L.Corp c) L.Gone in
    let gets = gets_train (of_bank t.trains c K.Diesel S.Bank (trade_of roster)) in
    settles_then n o o no_dues (says (A.Trade c kind)) (moves ∷ gets ∷ []) (says_stays n (A.Trade c kind) o)
    (settles_then n o o no_dues moves (gets ∷ []) (lowest_stays n kind (L.Corp c) L.Gone o)
    (settles_one n o no_dues gets (got_of_bank n t.trains c K.Diesel S.Bank (trade_of roster))))

discard_stays : (n : ℕ) (c : Corp) (kind : Kind) → Stays n (discards_train c kind)
unfolding discards_train
discard_stays n c kind = stays_two n (says (A.Discard c kind)) (moves_lowest_train kind (L.Corp c) L.Pool) (says_stays n (A.Discard c kind)) (lowest_stays n kind (L.Corp c) L.Pool)

-- the player that has a private sits at the table, and the private is in the game
owned : (n : ℕ) (place : Option Place) → is_some (player_at n place) ≡ true → is_at place L.Gone ≡ false
owned n None e = refl
owned n (Some (L.Seat s)) e = refl
owned n (Some L.Offer) e = refl
owned n (Some L.Pool) e = refl
owned n (Some (L.Corp c)) e = refl
owned n (Some L.Gone) e = absurd (cc)

-- who is paid, if the player sits at a table of so many
abbrev Seated : ℕ → Option Seat → Type 0
Seated n None = Unit {0}
Seated n (Some s) = has_party n (P.Seat s) ≡ true

seated_if : (n : ℕ) (s : Seat) (b : Bool) → nat_lt s.0 n ≡ b → Seated n (if b then Some s else None)
seated_if n s true e = e
seated_if n s false e = tt

seated_at : (n : ℕ) (place : Option Place) → Seated n (player_at n place)
seated_at n None = tt
seated_at n (Some (L.Seat s)) = seated_if n s (nat_lt s.0 n) refl
seated_at n (Some L.Offer) = tt
seated_at n (Some L.Pool) = tt
seated_at n (Some (L.Corp c)) = tt
seated_at n (Some L.Gone) = tt

player_paid : (n : ℕ) (c : Corp) (player : Option Seat) (m : ℕ) → is_some player ≡ true → Seated n player → Settles n (due_of c m) no_dues (pays_player c player m)
player_paid n c None m some there = absurd (cc)
player_paid n c (Some s) m some there = settles_due n c (P.Seat s) m there

private_paid : (n : ℕ) (c : Corp) (p : Private) (m : ℕ) (book : Book) → is_some (owner (situation_of book) p) ≡ true → CanSettle n (due_of c m) book → TurnsOn n no_dues book (takes_private (situation_of book) c p m book)
unfolding takes_private
private_paid n c p m book some h =
    let o = due_of c m in
    let player = owner (situation_of book) p in
    let e = E.Step (M.Act (A.TakePrivate c p m)) in
    let moves = E.Move (C.Private p) (L.Corp c) in
    let said = says_stays n (A.TakePrivate c p m) o book h in
    let away = ap (λ (x : Option Place). is_at x L.Gone) (holder-push book e (C.Private p)) ∙ owned (players book) (holder book (C.Private p)) some in
    let taken = turns_private n o p c (book ++ e ∷ []) away said.later in
    let At : ℕ → Type 0 = λ k. Seated k player in
    let there = subst At h.seated (seated_at (players book) (holder book (C.Private p))) in
    let paid = settles_one n o no_dues (pays_player c player m) (player_paid n c player m some there) ((book ++ e ∷ []) ++ moves ∷ []) taken.later in
    turns_further n o no_dues book (e ∷ []) _ said (turns_further n o no_dues (book ++ e ∷ []) (moves ∷ []) _ taken paid)

-- tiles and tokens
abbrev pub dues_of : Corp → Option ℕ → Dues
dues_of c None = no_dues
dues_of c (Some m) = due_of c m

cost_paid : (n : ℕ) (c : Corp) (cost : Option ℕ) → Settles n (dues_of c cost) no_dues (pays_cost c cost)
cost_paid n c None = stays_none n no_dues
cost_paid n c (Some m) = settles_due n c P.Bank m refl

pub put_paid : (n : ℕ) (act : Act) (c : Corp) (cost : Option ℕ) (e : Entry) → Stays n (adds e) → Settles n (dues_of c cost) no_dues (puts act c cost e)
unfolding puts
put_paid n act c cost e stays =
    let o = dues_of c cost in
    settles_then n o o no_dues (adds (E.Step (M.Act act))) (pays_cost c cost ∷ adds e ∷ []) (says_stays n act o)
    (settles_then n o no_dues no_dues (pays_cost c cost) (adds e ∷ []) (cost_paid n c cost) (settles_one n no_dues no_dues (adds e) (stays no_dues)))

-- a test in a chain that refuses nothing
passed : {X : Type 0} (b : Bool) (fault : X) (others : Option X) → (if b then Some fault else others) ≡ None → (b ≡ false) × (others ≡ None)
passed true fault others e = absurd (cc)
passed false fault others e = (refl, e)

pub not_below : (x y : ℤ) → int_lt x y ≡ false → y ≤ℤ x
not_below x y e = grind (arith, ints)

not_refused : (b : Bool) → not b ≡ false → b ≡ true
not_refused true e = refl
not_refused false e = absurd (false≢true (sym e))

train_covered : (roster : Terms) (t : Situation) (c : Corp) (kind : Kind) (source : TrainSource) → train_verdict roster t c kind source ≡ None → pos (price_of roster kind) ≤ℤ t.money (P.Corp c)
unfolding train_verdict
train_covered roster t c kind source lawful =
    let one = passed _ F.NotOnSale _ lawful in
    let two = passed _ F.TrainLimit _ one.1 in
    let last = passed (is_short t c (price_of roster kind)) F.TooLittleCash None two.1 in
    not_below (t.money (P.Corp c)) (pos (price_of roster kind)) last.0

deal_covered : (t : Situation) (c : Corp) (kind : Kind) (seller : Corp) (m : ℕ) (s s2 : Seat) → deal_verdict t (deal c kind seller m s s2) ≡ None → pos m ≤ℤ t.money (P.Corp c)
unfolding deal_verdict
deal_covered t c kind seller m s s2 lawful =
    let one = passed _ F.NotOnSale _ lawful in
    let two = passed _ F.NotYourTurn _ one.1 in
    let three = passed _ F.PriceOutOfBounds _ two.1 in
    let four = passed _ F.TrainLimit _ three.1 in
    let last = passed (is_short t c m) F.TooLittleCash None four.1 in
    not_below (t.money (P.Corp c)) (pos m) last.0

trade_covered : (roster : Terms) (t : Situation) (c : Corp) (kind : Kind) → trade_verdict roster t c kind ≡ None → pos (trade_of roster) ≤ℤ t.money (P.Corp c)
unfolding trade_verdict
trade_covered roster t c kind lawful =
    let one = passed _ F.NotOnSale _ lawful in
    let last = passed (is_short t c (trade_of roster)) F.TooLittleCash None one.1 in
    not_below (t.money (P.Corp c)) (pos (trade_of roster)) last.0

private_covered : (roster : Terms) (t : Situation) (c : Corp) (p : Private) (m : ℕ) → private_verdict roster t c p m ≡ None → (is_some (owner t p) ≡ true) × (pos m ≤ℤ t.money (P.Corp c))
unfolding private_verdict
private_covered roster t c p m lawful =
    let one = passed _ F.NotOnSale _ lawful in
    let two = passed (not (is_transferable p && is_some (owner t p))) F.NotForSale _ one.1 in
    let three = passed _ F.PriceOutOfBounds _ two.1 in
    let last = passed (is_short t c m) F.TooLittleCash None three.1 in
    let parts = and_parts (is_transferable p) (is_some (owner t p)) (not_refused (is_transferable p && is_some (owner t p)) two.0) in
    (parts.1, not_below (t.money (P.Corp c)) (pos m) last.0)

-- each lawful purchase, and each train given up
pub purchase_goes : (n : ℕ) (roster : Terms) (book : Book) (act : Act) → verdict roster book act ≡ None → IsSolvent n book → TurnsOn n no_dues book (entries_of roster book act)
purchase_goes n roster book (A.BuyTrain c kind source) lawful h =
    let t = situation_of book in
    train_paid n roster t c kind source book (can_settle n c (price_of roster kind) book h (train_covered roster t c kind source lawful))
purchase_goes n roster book (A.BuyTrainFrom c kind seller m s s2) lawful h =
    deal_paid n c kind seller m s s2 book (can_settle n c m book h (deal_covered (situation_of book) c kind seller m s s2 lawful))
purchase_goes n roster book (A.Trade c kind) lawful h =
    let t = situation_of book in
    trade_paid n roster t c kind book (can_settle n c (trade_of roster) book h (trade_covered roster t c kind lawful))
purchase_goes n roster book (A.Discard c kind) lawful h = discard_stays n c kind no_dues book (settled n book h)
purchase_goes n roster book (A.TakePrivate c p m) lawful h =
    let t = situation_of book in
    let covered = private_covered roster t c p m lawful in
    private_paid n c p m book covered.0 (can_settle n c m book h covered.1)
purchase_goes n roster book _ lawful h = absurd (cc)
