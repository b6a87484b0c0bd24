-- Who lawfully buys a train stays within the limit.
use Rattle.std.specs.Prelude.{◌≡◌, ℕ, ◌+◌, ◌≤◌, Bool, true, false, nat_lt, [], ◌∷◌, ◌++◌, Option, None, Some, refl}
use Rattle.std.proofs.Common.{sym, subst, cond, append-nil, arith}
use Rattle.std.proofs.lemmas.Bool.{false≢true}
use Rattle.std.proofs.lemmas.Bool.Decides.{nat_tests}
use Rattle.rr_roster.specs.declared.company.Corp.{Corp}
use Rattle.rr_roster.specs.Terms.{price_of}
use Rattle.rr_books.specs.declared.parties.Place.TheVariants as L
use Rattle.rr_books.specs.declared.certificates.Train.{Train}
use Rattle.rr_books.specs.declared.entries.Entry.{Entry}
use Rattle.rr_books.specs.declared.entries.Entry.TheVariants as E
use Rattle.rr_books.specs.declared.entries.Marker.TheVariants as M
use Rattle.rr_books.specs.declared.acts.Act.{Act}
use Rattle.rr_books.specs.declared.acts.Act.TheVariants as A
use Rattle.rr_books.specs.Book.{Book, train_holder}
use Rattle.rr_books.specs.Same.{same_place}
use Rattle.rr_desk.specs.Effects.{Effect, in_turn}
use Rattle.rr_market.specs.Operations.Phases.{phase}
use Rattle.rr_trains.specs.Places.{lowest_train, trains_held}
use Rattle.rr_trains.specs.Phases.{train_limit}
use Rattle.rr_trains.specs.Effects.{first_train, moves_lowest_train, moves_train_if}
use Rattle.rr_trains.specs.declared.depot.purchases.Purchase.{Purchase}
use Rattle.rr_trains.specs.Depot.Rules.{deal, has_room}
use Rattle.rr_trains.specs.Depot.Situation.{situation_of}
use Rattle.rr_trains.specs.Depot.Effects.{buys_train, buys_train_from, gets_train, of_bank, of_corporation, pays, says}
use Rattle.rr_trains.specs.Depot.PurchaseLaws.{PurchasesKeepTheLimit}
use Rattle.rr_trains.proofs.DepotLemmas.Counts.{brings, held_after}
use Rattle.rr_trains.proofs.DepotLemmas.Endings.{ends, goes_no_further, goes_on, kept_by, train_ends}
use Rattle.rr_trains.proofs.DepotLemmas.Verdicts.{may_buy, may_deal}

-- the corporation has so many trains at most
HasAtMost : Corp → ℕ → Book → Type 0
HasAtMost c n book = trains_held (train_holder book) (L.Corp c) ≤ n

-- an entry that brings it none
keeps_count : (c : Corp) (n : ℕ) (book : Book) (e : Entry) → brings (L.Corp c) e ≡ 0 → HasAtMost c n book → HasAtMost c n (book ++ e ∷ [])
unfolding HasAtMost
keeps_count c n book e none h = let after = held_after book e (L.Corp c) in omega (arith, after)

ends_bring_none : (c : Corp) (e : Entry) → ends e ≡ true → brings (L.Corp c) e ≡ 0
ends_bring_none c (E.Train t L.Gone) h = refl
ends_bring_none c (E.Train t (L.Seat s)) h = refl
ends_bring_none c (E.Train t (L.Corp d)) h = absurd (false≢true h)
ends_bring_none c (E.Train t L.Offer) h = refl
ends_bring_none c (E.Train t L.Pool) h = refl
ends_bring_none c _ h = refl

one_at_most : (b : Bool) → cond b 1 0 ≤ 1
one_at_most true = omega arith
one_at_most false = omega arith

-- one train more
one_more : (c : Corp) (n : ℕ) (book : Book) (t : Option Train) → HasAtMost c n book → HasAtMost c (n + 1) (book ++ moves_train_if t (L.Corp c))
unfolding HasAtMost
one_more c n book None h = subst (λ (b : Book). trains_held (train_holder b) (L.Corp c) ≤ n + 1) (sym (append-nil book)) (omega arith)
one_more c n book (Some t) h =
    let after = held_after book (E.Train t (L.Corp c)) (L.Corp c) in
    let one = one_at_most (same_place (L.Corp c) (L.Corp c)) in
    omega (arith, after, one)

gets_one : (p : Purchase) (n : ℕ) (book : Book) → HasAtMost p.corp n book → HasAtMost p.corp (n + 1) (book ++ gets_train p book)
unfolding gets_train
gets_one p n book h =
    let c = p.corp in
    let P = HasAtMost c (n + 1) in
    let moves : Effect = moves_lowest_train p.kind p.from (L.Corp c) in
    let paid : Effect = pays c p.payee p.amount in
    let first : Effect = first_train p.is_first p.kind c in
    let moved = book ++ moves book in
    let settled = moved ++ paid moved in
    let have = one_more c n book (lowest_train (train_holder book) p.from p.kind) h in
    let still : P settled = keeps_count c (n + 1) moved _ refl have in
    let done : P (settled ++ first settled) = kept_by P ends (λ b e out. keeps_count c (n + 1) b e (ends_bring_none c e out)) (first settled) settled (train_ends p.is_first p.kind c settled) still in
    goes_on P moves (paid ∷ first ∷ []) book (goes_on P paid (first ∷ []) moved (goes_on P first [] settled (goes_no_further P (settled ++ first settled) done)))

-- a command that says so and gets a train
says_and_gets : (act : Act) (p : Purchase) (n : ℕ) (book : Book) → HasAtMost p.corp n book → HasAtMost p.corp (n + 1) (book ++ in_turn (says act ∷ gets_train p ∷ []) book)
says_and_gets act p n book h =
    let P = HasAtMost p.corp (n + 1) in
    let said = book ++ says act book in
    let have = gets_one p n said (keeps_count p.corp n book (E.Step (M.Act act)) refl h) in
    goes_on P (says act) (gets_train p ∷ []) book (goes_on P (gets_train p) [] said (goes_no_further P (said ++ gets_train p said) have))

-- room for one train more
within : (held limit : ℕ) → nat_lt held limit ≡ true → held + 1 ≤ limit
within held limit e = grind (arith, nat_tests)

so_many : Corp → Book → ℕ
so_many c book = trains_held (train_holder book) (L.Corp c)

bought : (act : Act) (p : Purchase) (book : Book) → has_room (train_holder book) p.corp ≡ true → so_many p.corp (book ++ in_turn (says act ∷ gets_train p ∷ []) book) ≤ train_limit (phase (train_holder book))
unfolding HasAtMost so_many
bought act p book room =
    let held = so_many p.corp book in
    let had : HasAtMost p.corp held book = omega arith in
    let has = says_and_gets act p held book had in
    let fits = within held (train_limit (phase (train_holder book))) room in
    omega (arith, has, fits)

pub purchases_keep_the_limit : PurchasesKeepTheLimit
unfolding buys_train buys_train_from so_many
purchases_keep_the_limit = record {
  train = λ roster book c kind source lawful.
      bought (A.BuyTrain c kind source) (of_bank (train_holder book) c kind source (price_of roster kind)) book (may_buy roster (situation_of book) c kind source lawful).room;
  train_from = λ roster book c kind seller price s s2 lawful.
      bought (A.BuyTrainFrom c kind seller price s s2) (of_corporation (deal c kind seller price s s2)) book (may_deal (situation_of book) (deal c kind seller price s s2) lawful).room;
}
