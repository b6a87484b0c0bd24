-- How a desk takes what a command brings about, once what it reads of the book is written out.
use Rattle.std.specs.Prelude.{◌≡◌, ℕ, Bool, List, [], ◌∷◌, Option, Some}
use Rattle.std.proofs.Common.{ap}
use Rattle.rr_roster.specs.declared.company.Corp.{Corp}
use Rattle.rr_roster.specs.Chart.Chart.{Row}
use Rattle.rr_books.specs.declared.parties.Seat.{Seat}
use Rattle.rr_books.specs.declared.acts.Act.TheVariants as A
use Rattle.rr_roster.specs.declared.sources.ShareSource.{ShareSource}
use Rattle.rr_books.specs.Book.{Book}
use Rattle.rr_desk.specs.Effects.{Effect, in_turn}
use Rattle.rr_market.specs.Marks.{par_of, price_of}
use Rattle.rr_shares.specs.Effects.{float_if_due, sale_shares}
use Rattle.rr_rounds.specs.Round.{ends_round, has_floated, progress}
use Rattle.rr_desk.specs.Position.Position.{IsPositionOf}
use Rattle.rr_desk.specs.Desk.{OnDesk, Takes}
use Rattle.rr_desk.proofs.Taking.{takes_nothing, takes_same, takes_then}
use Rattle.rr_stock.specs.Effects.{buys_share, ends_if, ends_turn, gets_share, gives_up_private, pays_seller, proceeds, says, sells, sets_par, settles_corporation, swaps, takes_presidency}
use Rattle.rr_stock.specs.Rules.{price_by_source}
use Rattle.rr_stock.specs.Situation.{situation_of}

-- two effects, and three
pub takes_two : (f g : Effect) (a b d : OnDesk) → Takes f a b → Takes g b d → Takes (in_turn (f ∷ g ∷ [])) a d
takes_two f g a b d first second = takes_then f (g ∷ []) a b d first (takes_then g [] b d d second (takes_nothing d))

pub takes_three : (f g h : Effect) (a b d e : OnDesk) → Takes f a b → Takes g b d → Takes h d e → Takes (in_turn (f ∷ g ∷ h ∷ [])) a e
takes_three f g h a b d e first second third = takes_then f (g ∷ h ∷ []) a b e first (takes_two g h b d e second third)

-- a par
pub takes_par : (rows : List Row) (s : Seat) (c : Corp) (n : ℕ) (floated : Bool) (a b d e : OnDesk)
    → ((book : Book) → IsPositionOf book a.position → floated ≡ has_floated (progress book) c)
    → Takes (says (A.Par s c n)) a b → Takes (takes_presidency rows s c n) b d → Takes (float_if_due c (Some n) floated) d e
    → Takes (λ book. sets_par rows (situation_of rows book) s c n book) a e
unfolding sets_par
takes_par rows s c n floated a b d e is said taken settled =
    let row : Bool → Effect = λ f. in_turn (says (A.Par s c n) ∷ takes_presidency rows s c n ∷ float_if_due c (Some n) f ∷ []) in
    takes_same (row floated) (λ book. sets_par rows (situation_of rows book) s c n book) a e
    (λ book h. ap (λ (f : Bool). row f book) (is book h))
    (takes_three (says (A.Par s c n)) (takes_presidency rows s c n) (float_if_due c (Some n) floated) a b d e said taken settled)

-- a purchase
pub takes_purchase : (rows : List Row) (s : Seat) (c : Corp) (source : ShareSource) (price : ℕ) (par : Option ℕ) (floated : Bool) (a b d e : OnDesk)
    → ((book : Book) → IsPositionOf book a.position → price ≡ price_by_source (par_of rows book c) (price_of rows book c) source)
    → ((book : Book) → IsPositionOf book a.position → par ≡ par_of rows book c)
    → ((book : Book) → IsPositionOf book a.position → floated ≡ has_floated (progress book) c)
    → Takes (says (A.BuyShare s c source)) a b → Takes (gets_share s c source price) b d → Takes (settles_corporation c par floated) d e
    → Takes (λ book. buys_share (situation_of rows book) s c source book) a e
unfolding buys_share
takes_purchase rows s c source price par floated a b d e costs same is said bought settled =
    let row : ℕ → Option ℕ → Bool → Effect = λ n p f. in_turn (says (A.BuyShare s c source) ∷ gets_share s c source n ∷ settles_corporation c p f ∷ []) in
    takes_same (row price par floated) (λ book. buys_share (situation_of rows book) s c source book) a e
    (λ book h. λ i. row (costs book h i) (same book h i) (is book h i) book)
    (takes_three (says (A.BuyShare s c source)) (gets_share s c source price) (settles_corporation c par floated) a b d e said bought settled)

-- a sale
pub takes_sale : (rows : List Row) (s : Seat) (c : Corp) (n amount : ℕ) (a b d e : OnDesk)
    → ((book : Book) → IsPositionOf book a.position → amount ≡ proceeds (situation_of rows book) c n)
    → Takes (says (A.Sell s c n)) a b → Takes (sale_shares c s n) b d → Takes (pays_seller rows s c n amount) d e
    → Takes (λ book. sells rows (situation_of rows book) s c n book) a e
unfolding sells
takes_sale rows s c n amount a b d e is said sold paid =
    let row : ℕ → Effect = λ m. in_turn (says (A.Sell s c n) ∷ sale_shares c s n ∷ pays_seller rows s c n m ∷ []) in
    takes_same (row amount) (λ book. sells rows (situation_of rows book) s c n book) a e
    (λ book h. ap (λ (m : ℕ). row m book) (is book h))
    (takes_three (says (A.Sell s c n)) (sale_shares c s n) (pays_seller rows s c n amount) a b d e said sold paid)

-- a swap
pub takes_swap : (rows : List Row) (s : Seat) (source : ShareSource) (par : Option ℕ) (floated : Bool) (a b d e : OnDesk)
    → ((book : Book) → IsPositionOf book a.position → par ≡ par_of rows book Corp.Nyc)
    → ((book : Book) → IsPositionOf book a.position → floated ≡ has_floated (progress book) Corp.Nyc)
    → Takes (says (A.Swap s source)) a b → Takes (gives_up_private s source) b d → Takes (settles_corporation Corp.Nyc par floated) d e
    → Takes (λ book. swaps (situation_of rows book) s source book) a e
unfolding swaps
takes_swap rows s source par floated a b d e same is said given settled =
    let row : Option ℕ → Bool → Effect = λ p f. in_turn (says (A.Swap s source) ∷ gives_up_private s source ∷ settles_corporation Corp.Nyc p f ∷ []) in
    takes_same (row par floated) (λ book. swaps (situation_of rows book) s source book) a e
    (λ book h. λ i. row (same book h i) (is book h i) book)
    (takes_three (says (A.Swap s source)) (gives_up_private s source) (settles_corporation Corp.Nyc par floated) a b d e said given settled)

-- a turn that ends
pub takes_done : (rows : List Row) (s : Seat) (ends : Bool) (a b d : OnDesk)
    → ((book : Book) → IsPositionOf book a.position → ends ≡ ends_round (progress book))
    → Takes (says (A.Done s)) a b → Takes (ends_if rows ends) b d
    → Takes (λ book. ends_turn rows (situation_of rows book) s book) a d
unfolding ends_turn
takes_done rows s ends a b d is said ended =
    let row : Bool → Effect = λ x. in_turn (says (A.Done s) ∷ ends_if rows x ∷ []) in
    takes_same (row ends) (λ book. ends_turn rows (situation_of rows book) s book) a d
    (λ book h. ap (λ (x : Bool). row x book) (is book h))
    (takes_two (says (A.Done s)) (ends_if rows ends) a b d said ended)
