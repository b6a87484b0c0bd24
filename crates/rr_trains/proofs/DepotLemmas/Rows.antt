-- How a desk takes what a command brings about, once what it reads of the book is written out.
use Rattle.std.specs.Prelude.{◌≡◌, ℕ, [], ◌∷◌, Option}
use Rattle.std.proofs.Common.{◌∙◌, ap}
use Rattle.rr_roster.specs.declared.company.Private.{Private}
use Rattle.rr_roster.specs.declared.company.Corp.{Corp}
use Rattle.rr_roster.specs.declared.company.Kind.{Kind}
use Rattle.rr_roster.specs.declared.company.Kind.TheVariants as K
use Rattle.rr_roster.specs.Terms.{Terms, price_of, trade_of}
use Rattle.rr_books.specs.declared.parties.Seat.{Seat}
use Rattle.rr_books.specs.declared.parties.Place.TheVariants as L
use Rattle.rr_books.specs.declared.certificates.Cert.TheVariants as C
use Rattle.rr_books.specs.declared.entries.Entry.TheVariants as E
use Rattle.rr_books.specs.declared.acts.Act.TheVariants as A
use Rattle.rr_roster.specs.declared.sources.TrainSource.{TrainSource}
use Rattle.rr_roster.specs.declared.sources.TrainSource.TheVariants as S
use Rattle.rr_books.specs.Book.{Book, train_holder}
use Rattle.rr_desk.specs.Position.Position.{IsPositionOf}
use Rattle.rr_desk.specs.Effects.{Effect, adds, in_turn}
use Rattle.rr_desk.specs.Desk.{OnDesk, Takes}
use Rattle.rr_desk.proofs.Taking.{takes_nothing, takes_same, takes_then}
use Rattle.rr_trains.specs.Effects.{moves_lowest_train}
use Rattle.rr_trains.specs.declared.depot.purchases.Purchase.{Purchase}
use Rattle.rr_trains.specs.Depot.Rules.{owner}
use Rattle.rr_trains.specs.Depot.Situation.{situation_of}
use Rattle.rr_trains.specs.Depot.Effects.{buys_train, gets_train, of_bank, pays_player, says, takes_private, trades_train}

-- two effects, and three
takes_two : (f g : Effect) (a b d : OnDesk) → Takes f a b → Takes g b d → Takes (in_turn (f ∷ g ∷ [])) a d
takes_two f g a b d first second = takes_then f (g ∷ []) a b d first (takes_then g [] b d d second (takes_nothing d))

takes_three : (f g h : Effect) (a b d e : OnDesk) → Takes f a b → Takes g b d → Takes h d e → Takes (in_turn (f ∷ g ∷ h ∷ [])) a e
takes_three f g h a b d e first second third = takes_then f (g ∷ h ∷ []) a b e first (takes_two g h b d e second third)

-- a purchase from the bank or the pool
pub takes_train : (roster : Terms) (c : Corp) (kind : Kind) (source : TrainSource) (amount : ℕ) (x : Purchase) (a b d : OnDesk)
    → amount ≡ price_of roster kind
    → ((book : Book) → IsPositionOf book a.position → x ≡ of_bank (train_holder book) c kind source amount)
    → Takes (says (A.BuyTrain c kind source)) a b → Takes (gets_train x) b d
    → Takes (λ book. buys_train roster (situation_of book) c kind source book) a d
unfolding buys_train
takes_train roster c kind source amount x a b d costs is said got =
    let row : Purchase → Effect = λ y. in_turn (says (A.BuyTrain c kind source) ∷ gets_train y ∷ []) in
    takes_same (row x) (λ book. buys_train roster (situation_of book) c kind source book) a d
    (λ book h. ap (λ (y : Purchase). row y book) (is book h ∙ ap (λ (n : ℕ). of_bank (train_holder book) c kind source n) costs))
    (takes_two (says (A.BuyTrain c kind source)) (gets_train x) a b d said got)

-- a train handed in for a D
pub takes_trade : (roster : Terms) (c : Corp) (kind : Kind) (amount : ℕ) (x : Purchase) (a b d e : OnDesk)
    → amount ≡ trade_of roster
    → ((book : Book) → IsPositionOf book a.position → x ≡ of_bank (train_holder book) c K.Diesel S.Bank amount)
    → Takes (says (A.Trade c kind)) a b → Takes (moves_lowest_train kind (L.Corp c) L.Gone) b d → Takes (gets_train x) d e
    → Takes (λ book. trades_train roster (situation_of book) c kind book) a e
unfolding trades_train
takes_trade roster c kind amount x a b d e costs is said given got =
    let row : Purchase → Effect = λ y. in_turn (says (A.Trade c kind) ∷ moves_lowest_train kind (L.Corp c) L.Gone ∷ gets_train y ∷ []) in
    takes_same (row x) (λ book. trades_train roster (situation_of book) c kind book) a e
    (λ book h. ap (λ (y : Purchase). row y book) (is book h ∙ ap (λ (n : ℕ). of_bank (train_holder book) c K.Diesel S.Bank n) costs))
    (takes_three (says (A.Trade c kind)) (moves_lowest_train kind (L.Corp c) L.Gone) (gets_train x) a b d e said given got)

-- a private bought of a player
pub takes_sale : (c : Corp) (p : Private) (price : ℕ) (x : Option Seat) (a b d e : OnDesk)
    → ((book : Book) → IsPositionOf book a.position → x ≡ owner (situation_of book) p)
    → Takes (says (A.TakePrivate c p price)) a b → Takes (adds (E.Move (C.Private p) (L.Corp c))) b d → Takes (pays_player c x price) d e
    → Takes (λ book. takes_private (situation_of book) c p price book) a e
unfolding takes_private
takes_sale c p price x a b d e is said moved paid =
    let row : Option Seat → Effect = λ y. in_turn (says (A.TakePrivate c p price) ∷ adds (E.Move (C.Private p) (L.Corp c)) ∷ pays_player c y price ∷ []) in
    takes_same (row x) (λ book. takes_private (situation_of book) c p price book) a e
    (λ book h. ap (λ (y : Option Seat). row y book) (is book h))
    (takes_three (says (A.TakePrivate c p price)) (adds (E.Move (C.Private p) (L.Corp c))) (pays_player c x price) a b d e said moved paid)
