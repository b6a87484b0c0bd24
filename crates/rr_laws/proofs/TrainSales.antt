-- A train that entries move out of the offering, and never back.
use Rattle.std.specs.Prelude.{◌≡◌, ◌≢◌, ◌⊎◌, ℕ, ◌≤◌, ◌==◌, Bool, true, false, cond, ◌&&◌, ◌||◌, List, [], ◌∷◌, ◌++◌, Option, None, Some, find, fold, map, refl, if◌then◌else◌}
use Rattle.std.specs.List.{list_all, list_any}
use Rattle.std.proofs.Common.{◌∙◌, arith, append-nil, append_assoc, ap, get_or, inl, inr, subst, sym}
use Rattle.std.proofs.lemmas.List.Folds.{list_all-append}
use Rattle.std.proofs.lemmas.Bool.{and_parts, eq-eqb, eqb-true, false≢true}
use Rattle.rr_roster.specs.Company.{kind_index, kinds}
use Rattle.rr_roster.specs.declared.company.Kind.{Kind}
use Rattle.rr_roster.specs.declared.company.Kind.TheVariants as K
use Rattle.rr_books.specs.declared.certificates.Train.{Train}
use Rattle.rr_books.specs.declared.entries.Entry.{Entry}
use Rattle.rr_books.specs.declared.entries.Entry.TheVariants as E
use Rattle.rr_books.specs.declared.parties.Place.{Place}
use Rattle.rr_books.specs.declared.parties.Place.TheVariants as L
use Rattle.rr_books.specs.Book.{Book, train_holder, train_holder-push, train_holder_after}
use Rattle.rr_books.specs.Same.{same_place, same_train}
use Rattle.rr_books.specs.Shares.{is_at}
use Rattle.rr_desk.specs.Effects.{Effect, in_turn}
use Rattle.rr_market.specs.Operations.Phases.{has_left, is_sold, phase, train, train_numbers}
use Rattle.rr_trains.specs.Effects.{all_rust, is_in_game, moves_lowest_train, moves_train_if, rusts}
use Rattle.rr_trains.specs.PhaseLaws.{phase_is_the_greatest_sold}
use Rattle.rr_trains.specs.Places.{is_train_at, lowest_train}
use Rattle.rr_laws.specs.SoldTrains.{IsGreatestSold, WasSold, WasTaken}
use Rattle.rr_laws.proofs.Adding.{Adds, each_adds, none_adds, three_add, two_add}
use Rattle.rr_laws.proofs.LeavesAuction.{is_plain, is_still, moves_none, still_move_none, still_plain}

-- trains that are the same

kind_back : (k : Kind) → get_or kinds (kind_index k) K.Two ≡ k
kind_back K.Two = refl
kind_back K.Three = refl
kind_back K.Four = refl
kind_back K.Five = refl
kind_back K.Six = refl
kind_back K.Diesel = refl

one_kind : (k j : Kind) → kind_index k ≡ kind_index j → k ≡ j
one_kind k j same = sym (kind_back k) ∙ ap (λ n. get_or kinds n K.Two) same ∙ kind_back j

one_train : (s t : Train) → same_train s t ≡ true → s ≡ t
one_train s t same =
    let parts = and_parts (kind_index s.kind == kind_index t.kind) (s.number == t.number) same in
    let kind = one_kind s.kind t.kind (eqb-true _ _ parts.0) in
    let number = eqb-true s.number t.number parts.1 in
    ap (λ (k : Kind). train k s.number) kind ∙ ap (λ n. train t.kind n) number

itself : (t : Train) → same_train t t ≡ true
itself t =
    ap (λ (b : Bool). b && (t.number == t.number)) (eq-eqb (kind_index t.kind) (kind_index t.kind) refl) ∙ eq-eqb t.number t.number refl

-- the last entry, or an earlier one

nothing_behind : (cs after : Book) (x : Entry) → [] ≡ cs ++ x ∷ after → ⊥
nothing_behind [] after x same = cc
nothing_behind (c ∷ cs) after x same = cc

last_or_earlier : (book before after : Book) (e x : Entry) → book ++ e ∷ [] ≡ before ++ x ∷ after → ((book ≡ before) × (e ≡ x)) ⊎ ((rest : Book) × (book ≡ before ++ x ∷ rest))
last_or_earlier [] [] after e x same = inl (refl, cc)
last_or_earlier [] (c ∷ cs) after e x same =
    let empty : [] ≡ cs ++ x ∷ after = cc in absurd (nothing_behind cs after x empty)
last_or_earlier (b ∷ bs) [] after e x same = inr (bs, ap (λ (y : Entry). y ∷ bs) cc)
last_or_earlier (b ∷ bs) (c ∷ cs) after e x same =
    let first : b ≡ c = cc in
    let behind : bs ++ e ∷ [] ≡ cs ++ x ∷ after = cc in
    elim (last_or_earlier bs cs after e x behind) [
      | inl last ↦ inl (ap (λ (y : Entry). y ∷ bs) first ∙ ap (λ (ys : Book). c ∷ ys) last.0, last.1)
      | inr earlier ↦ inr (earlier.0, ap (λ (y : Entry). y ∷ bs) first ∙ ap (λ (ys : Book). c ∷ ys) earlier.1)
    ]

-- the entry takes the train out of the offering
record Takes (book : Book) (e : Entry) (t : Train) : Type 0 where
  to : Place
  entry : e ≡ E.Train t to
  offered : train_holder book t ≡ Some L.Offer
  gone : to ≢ L.Offer

earlier_or_last : (book : Book) (e : Entry) (t : Train) → WasTaken (book ++ e ∷ []) t → WasTaken book t ⊎ Takes book e t
earlier_or_last book e t w =
    elim (last_or_earlier book w.before w.after e (E.Train t w.to) w.entry) [
      | inl last ↦ inr (record { to = w.to; entry = last.1; offered = ap (λ (b : Book). train_holder b t) last.0 ∙ w.offered; gone = w.gone })
      | inr earlier ↦ inl (record { before = w.before; to = w.to; after = earlier.0; entry = earlier.1; offered = w.offered; gone = w.gone })
    ]

later : (book es : Book) (t : Train) → WasTaken book t → WasTaken (book ++ es) t
later book es t w = record {
  before = w.before;
  to = w.to;
  after = w.after ++ es;
  entry = ap (λ (b : Book). b ++ es) w.entry ∙ append_assoc w.before (E.Train t w.to ∷ w.after) es;
  offered = w.offered;
  gone = w.gone;
}

-- a number that a train may have
abbrev pub is_number : ℕ → Bool
is_number n = list_any (λ m. m == n) train_numbers

-- a train is somewhere but in the offering exactly where an entry took it out of there, and then has such a number
pub record IsTold (book : Book) : Type 0 where
  pub sold : (t : Train) → has_left (train_holder book t) ≡ true → WasTaken book t
  pub left : (t : Train) → WasTaken book t → has_left (train_holder book t) ≡ true
  pub number : (t : Train) → WasTaken book t → is_number t.number ≡ true

-- an entry that moves no train

unmoved : (e : Entry) (t : Train) (place : Option Place) → moves_none e ≡ true → train_holder_after t place e ≡ place
unmoved (E.Train u to) t place none = absurd (false≢true none)
unmoved _ t place none = refl

takes_none : (book : Book) (e : Entry) (t : Train) → moves_none e ≡ true → ¬ Takes book e t
takes_none book e t none takes = false≢true (sym (ap moves_none takes.entry) ∙ none)

told_other : (book : Book) (e : Entry) → moves_none e ≡ true → IsTold book → IsTold (book ++ e ∷ [])
told_other book e none h =
    let same = λ (t : Train). train_holder-push book e t ∙ unmoved e t (train_holder book t) none in
    record {
      sold = λ t off. later book (e ∷ []) t (h.sold t (ap has_left (sym (same t)) ∙ off));
      left = λ t w. elim (earlier_or_last book e t w) [ inl earlier ↦ ap has_left (same t) ∙ h.left t earlier | inr last ↦ absurd (takes_none book e t none last) ];
      number = λ t w. elim (earlier_or_last book e t w) [ inl earlier ↦ h.number t earlier | inr last ↦ absurd (takes_none book e t none last) ];
    }

-- a train that goes elsewhere

goes_out : (to : Place) → to ≢ L.Offer → has_left (Some to) ≡ true
goes_out L.Offer out = absurd (out refl)
goes_out (L.Seat s) out = refl
goes_out (L.Corp c) out = refl
goes_out L.Pool out = refl
goes_out L.Gone out = refl

-- it was taken before, or is so now
taken_at : (book : Book) (t : Train) (from to : Place) → train_holder book t ≡ Some from → to ≢ L.Offer → IsTold book → WasTaken (book ++ E.Train t to ∷ []) t
taken_at book t L.Offer to here out h = record { before = book; to = to; after = []; entry = refl; offered = here; gone = out }
taken_at book t from to here out h = later book (E.Train t to ∷ []) t (h.sold t (ap has_left here))

told_train : (book : Book) (t : Train) (from to : Place) → train_holder book t ≡ Some from → to ≢ L.Offer → is_number t.number ≡ true → IsTold book
    → IsTold (book ++ E.Train t to ∷ [])
told_train book t from to here out number h = record {
  sold = λ u off. by_sold u (same_train u t) refl (ap has_left (sym (moved u)) ∙ off);
  left = λ u w. ap has_left (moved u) ∙ by_left u (same_train u t) refl w;
  number = λ u w. elim (earlier_or_last book (E.Train t to) u w) [
    | inl earlier ↦ h.number u earlier
    | inr last ↦ subst (λ (x : Train). is_number x.number ≡ true) (train_of u last) number
  ];
}
  where
    moved : (u : Train) → train_holder (book ++ E.Train t to ∷ []) u ≡ cond (same_train u t) (Some to) (train_holder book u)
    moved u = train_holder-push book (E.Train t to) u

    train_of : (u : Train) → Takes book (E.Train t to) u → t ≡ u
    train_of u last = let same : E.Train t to ≡ E.Train u last.to = last.entry in cc

    by_sold : (u : Train) (b : Bool) → same_train u t ≡ b → has_left (cond b (Some to) (train_holder book u)) ≡ true → WasTaken (book ++ E.Train t to ∷ []) u
    by_sold u true same off =
        subst (λ (x : Train). WasTaken (book ++ E.Train t to ∷ []) x) (sym (one_train u t same)) (taken_at book t from to here out h)
    by_sold u false same off = later book (E.Train t to ∷ []) u (h.sold u off)

    by_left : (u : Train) (b : Bool) → same_train u t ≡ b → WasTaken (book ++ E.Train t to ∷ []) u → has_left (cond b (Some to) (train_holder book u)) ≡ true
    by_left u true same w = goes_out to out
    by_left u false same w = elim (earlier_or_last book (E.Train t to) u w) [
      | inl earlier ↦ h.left u earlier
      | inr last ↦ absurd (false≢true (sym same ∙ subst (λ (x : Train). same_train x t ≡ true) (train_of u last) (itself t)))
    ]

-- effects behind which it stays so

abbrev pub Sells : Effect → Type 0
Sells f = (book : Book) → IsTold book → IsTold (book ++ f book)

pub told_on : (book : Book) (es : Book) → list_all moves_none es ≡ true → IsTold book → IsTold (book ++ es)
told_on book [] none h = subst IsTold (sym (append-nil book)) h
told_on book (e ∷ es) none h =
    let parts = and_parts (moves_none e) (list_all moves_none es) none in
    subst IsTold (append_assoc book (e ∷ []) es) (told_on (book ++ e ∷ []) es parts.1 (told_other book e parts.0 h))

-- effects that move no train
pub plain_sells : (f : Effect) → Adds moves_none f → Sells f
plain_sells f none book h = told_on book (f book) (none book) h

none_sells : Sells (in_turn [])
none_sells book h = subst IsTold (sym (append-nil book)) h

then_sells : (f : Effect) (fs : List Effect) → Sells f → Sells (in_turn fs) → Sells (in_turn (f ∷ fs))
then_sells f fs first others book h = subst IsTold (append_assoc book (f book) (in_turn fs (book ++ f book))) (others (book ++ f book) (first book h))

two_sell : (f g : Effect) → Sells f → Sells g → Sells (in_turn (f ∷ g ∷ []))
two_sell f g h k = then_sells f (g ∷ []) h (then_sells g [] k none_sells)

three_sell : (f g i : Effect) → Sells f → Sells g → Sells i → Sells (in_turn (f ∷ g ∷ i ∷ []))
three_sell f g i h k l = then_sells f (g ∷ i ∷ []) h (two_sell g i k l)

-- trains that change hands

or_true : (b : Bool) → (b || true) ≡ true
or_true true = refl
or_true false = refl

-- what is found among the trains of a kind has one of the numbers, and passes the test
found_number : (test : Train → Bool) (kind : Kind) (ns : List ℕ) (t : Train) → find test (map (train kind) ns) ≡ Some t
    → (list_any (λ m. m == t.number) ns ≡ true) × (test t ≡ true)
found_number test kind [] t found = absurd cc
found_number test kind (n ∷ ns) t found = by_test (test (train kind n)) refl found (λ later. found_number test kind ns t later)
  where
    by_test : (b : Bool) → test (train kind n) ≡ b → cond b (Some (train kind n)) (find test (map (train kind) ns)) ≡ Some t
        → (find test (map (train kind) ns) ≡ Some t → (list_any (λ m. m == t.number) ns ≡ true) × (test t ≡ true))
        → (((n == t.number) || list_any (λ m. m == t.number) ns) ≡ true) × (test t ≡ true)
    by_test true passes found behind =
        let same : train kind n ≡ t = cc in
        (ap (λ (b : Bool). b || list_any (λ m. m == t.number) ns) (eq-eqb n t.number (ap (λ (u : Train). u.number) same)), ap test (sym same) ∙ passes)
    by_test false passes found behind = let is = behind found in (ap (λ (b : Bool). (n == t.number) || b) is.0 ∙ or_true (n == t.number), is.1)

somewhere : (place : Option Place) (from : Place) → is_at place from ≡ true → (here : Place) × (place ≡ Some here)
somewhere None from at = absurd (false≢true at)
somewhere (Some here) from at = (here, refl)

lowest_sells : (kind : Kind) (from to : Place) → to ≢ L.Offer → Sells (moves_lowest_train kind from to)
unfolding lowest_train
lowest_sells kind from to out book h = by_train (lowest_train (train_holder book) from kind) refl
  where
    by_train : (o : Option Train) → lowest_train (train_holder book) from kind ≡ o → IsTold (book ++ moves_train_if o to)
    by_train None found = subst IsTold (sym (append-nil book)) h
    by_train (Some t) found =
        let is = found_number (is_train_at (train_holder book) from) kind train_numbers t found in
        let here = somewhere (train_holder book t) from is.1 in
        told_train book t here.0 to here.1 out is.0 h

-- trains that leave the game

in_game : (place : Option Place) → is_in_game place ≡ true → (here : Place) × (place ≡ Some here)
in_game None is = absurd (false≢true is)
in_game (Some here) is = (here, refl)

not_gone : L.Gone ≢ L.Offer
not_gone same = cc

rust_sells : (kind : Kind) (number : ℕ) → is_number number ≡ true → Sells (rusts kind number)
unfolding rusts
rust_sells kind number known book h = by_game (is_in_game (train_holder book (train kind number))) refl
  where
    by_game : (b : Bool) → is_in_game (train_holder book (train kind number)) ≡ b → IsTold (book ++ (if b then E.Train (train kind number) L.Gone ∷ [] else []))
    by_game false is = subst IsTold (sym (append-nil book)) h
    by_game true is =
        let here = in_game (train_holder book (train kind number)) is in
        told_train book (train kind number) here.0 L.Gone here.1 not_gone known h

each_rusts : (kind : Kind) (ns : List ℕ) → list_all is_number ns ≡ true → Sells (in_turn (map (rusts kind) ns))
each_rusts kind [] known = none_sells
each_rusts kind (n ∷ ns) known =
    let parts = and_parts (is_number n) (list_all is_number ns) known in
    then_sells (rusts kind n) (map (rusts kind) ns) (rust_sells kind n parts.0) (each_rusts kind ns parts.1)

all_rust_sell : (kind : Kind) → Sells (all_rust kind)
unfolding all_rust
all_rust_sell kind = each_rusts kind train_numbers refl

-- effects that leave the auction alone and have no run as best, behind which it stays so
pub record Trades (f : Effect) : Type 0 where
  pub plain : Adds is_plain f
  pub sells : Sells f

pub still_trades : (f : Effect) → Adds is_still f → Trades f
still_trades f still = record { plain = λ book. still_plain (f book) (still book); sells = plain_sells f (λ book. still_move_none (f book) (still book)) }

pub none_trades : Trades (in_turn [])
none_trades = record { plain = none_adds is_plain; sells = none_sells }

pub two_trade : (f g : Effect) → Trades f → Trades g → Trades (in_turn (f ∷ g ∷ []))
two_trade f g h k = record { plain = two_add is_plain f g h.plain k.plain; sells = two_sell f g h.sells k.sells }

pub three_trade : (f g i : Effect) → Trades f → Trades g → Trades i → Trades (in_turn (f ∷ g ∷ i ∷ []))
three_trade f g i h k l = record { plain = three_add is_plain f g i h.plain k.plain l.plain; sells = three_sell f g i h.sells k.sells l.sells }

moved_plain : (t : Option Train) (to : Place) → list_all is_plain (moves_train_if t to) ≡ true
moved_plain None to = refl
moved_plain (Some t) to = refl

pub lowest_trades : (kind : Kind) (from to : Place) → to ≢ L.Offer → Trades (moves_lowest_train kind from to)
lowest_trades kind from to out = record { plain = λ book. moved_plain (lowest_train (train_holder book) from kind) to; sells = lowest_sells kind from to out }

rust_plain : (kind : Kind) (number : ℕ) → Adds is_plain (rusts kind number)
unfolding rusts
rust_plain kind number book = by_game (is_in_game (train_holder book (train kind number)))
  where
    by_game : (b : Bool) → list_all is_plain (if b then E.Train (train kind number) L.Gone ∷ [] else []) ≡ true
    by_game true = refl
    by_game false = refl

all_plain : (kind : Kind) → Adds is_plain (all_rust kind)
unfolding all_rust
all_plain kind = each_adds is_plain (rusts kind) train_numbers (λ number. rust_plain kind number)

pub all_rust_trade : (kind : Kind) → Trades (all_rust kind)
all_rust_trade kind = record { plain = all_plain kind; sells = all_rust_sell kind }

-- a table that opens

-- a train that the entry moves is offered
abbrev pub offers : Entry → Bool
offers (E.Train t to) = same_place to L.Offer
offers _ = true

only_offer : (to : Place) → same_place to L.Offer ≡ true → to ≡ L.Offer
only_offer L.Offer is = refl
only_offer (L.Seat s) is = absurd (false≢true is)
only_offer (L.Corp c) is = absurd (false≢true is)
only_offer L.Pool is = absurd (false≢true is)
only_offer L.Gone is = absurd (false≢true is)

all_of_split : (es before after : Book) (e : Entry) → es ≡ before ++ e ∷ after → list_all offers es ≡ true → offers e ≡ true
all_of_split es before after e split all =
    let whole = sym (list_all-append offers before (e ∷ after)) ∙ ap (λ (b : Book). list_all offers b) (sym split) ∙ all in
    let behind = (and_parts (list_all offers before) (offers e && list_all offers after) whole).1 in
    (and_parts (offers e) (list_all offers after) behind).0

none_taken : (es : Book) (t : Train) → list_all offers es ≡ true → ¬ WasTaken es t
none_taken es t all w = w.gone (only_offer w.to (all_of_split es w.before w.after (E.Train t w.to) w.entry all))

stays_in : (e : Entry) (t : Train) (place : Option Place) → offers e ≡ true → has_left place ≡ false → has_left (train_holder_after t place e) ≡ false
stays_in (E.Train u to) t place all in_it = by_same (same_train t u)
  where
    by_same : (b : Bool) → has_left (cond b (Some to) place) ≡ false
    by_same true = ap (λ (p : Place). has_left (Some p)) (only_offer to all)
    by_same false = in_it
stays_in _ t place all in_it = in_it

none_left : (es : Book) (t : Train) (place : Option Place) → list_all offers es ≡ true → has_left place ≡ false → has_left (fold (train_holder_after t) place es) ≡ false
none_left [] t place all in_it = in_it
none_left (e ∷ es) t place all in_it =
    let parts = and_parts (offers e) (list_all offers es) all in none_left es t (train_holder_after t place e) parts.1 (stays_in e t place parts.0 in_it)

pub told_offered : (es : Book) → list_all offers es ≡ true → IsTold es
unfolding train_holder
told_offered es all = record {
  sold = λ t off. absurd (false≢true (sym (none_left es t None all refl) ∙ off));
  left = λ t w. absurd (none_taken es t all w);
  number = λ t w. absurd (none_taken es t all w);
}

-- the phase

any_true : (f : ℕ → Bool) (ns : List ℕ) → list_any f ns ≡ true → (n : ℕ) × (f n ≡ true)
any_true f [] some = absurd (false≢true some)
any_true f (n ∷ ns) some = by_first (f n) refl some (λ others. any_true f ns others)
  where
    by_first : (b : Bool) → f n ≡ b → (b || list_any f ns) ≡ true → (list_any f ns ≡ true → (m : ℕ) × (f m ≡ true)) → (m : ℕ) × (f m ≡ true)
    by_first true is some behind = (n, is)
    by_first false is some behind = behind some

any_here : (f : ℕ → Bool) (ns : List ℕ) (n : ℕ) → list_any (λ m. m == n) ns ≡ true → f n ≡ true → list_any f ns ≡ true
any_here f [] n among holds = absurd (false≢true among)
any_here f (m ∷ ms) n among holds = by_first (m == n) refl among (λ behind. any_here f ms n behind holds)
  where
    by_first : (b : Bool) → (m == n) ≡ b → (b || list_any (λ k. k == n) ms) ≡ true → (list_any (λ k. k == n) ms ≡ true → list_any f ms ≡ true) → (f m || list_any f ms) ≡ true
    by_first true is among behind = ap (λ (b : Bool). b || list_any f ms) (ap f (eqb-true m n is) ∙ holds)
    by_first false is among behind = ap (λ (b : Bool). f m || b) (behind among) ∙ or_true (f m)

module _ (book : Book) (h : IsTold book) where
  was_sold : (kind : Kind) → is_sold (train_holder book) kind ≡ true → WasSold book kind
  unfolding is_sold
  was_sold kind sold =
      let found = any_true (λ number. has_left (train_holder book (train kind number))) train_numbers sold in
      (found.0, h.sold (train kind found.0) found.1)

  sold_now : (kind : Kind) → WasSold book kind → is_sold (train_holder book) kind ≡ true
  unfolding is_sold
  sold_now kind was =
      any_here (λ number. has_left (train_holder book (train kind number))) train_numbers was.0 (h.number (train kind was.0) was.1) (h.left (train kind was.0) was.1)

  abbrev trains : Train → Option Place
  trains = train_holder book

  no_greater : (other : Kind) → WasSold book other → kind_index other ≤ kind_index (phase trains)
  no_greater other was = phase_is_the_greatest_sold.greatest trains other (sold_now other was)

  none_sold : is_sold trains (phase trains) ≡ false → phase trains ≡ K.Two → (other : Kind) → ¬ WasSold book other
  none_sold unsold two other was =
      let most = no_greater other was in
      let least = ap kind_index two in
      let same : kind_index other ≡ kind_index (phase trains) = omega (arith, most, least) in
      false≢true (sym unsold ∙ ap (is_sold trains) (sym (one_kind other (phase trains) same)) ∙ sold_now other was)

  sold_or_first : (b : Bool) → is_sold trains (phase trains) ≡ b → WasSold book (phase trains) ⊎ ((phase trains ≡ K.Two) × ((other : Kind) → ¬ WasSold book other))
  sold_or_first true is = inl (was_sold (phase trains) is)
  sold_or_first false is = let two = phase_is_the_greatest_sold.sold trains is in inr (two, none_sold is two)

  pub greatest_sold : IsGreatestSold book (phase trains)
  greatest_sold = record { greatest = no_greater; sold = sold_or_first (is_sold trains (phase trains)) refl }
