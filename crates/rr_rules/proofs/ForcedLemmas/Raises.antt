-- How a desk takes a forced sale, and what the rules say of it and of a bankruptcy by what runs along with a book.
use Rattle.std.specs.Prelude.{◌≡◌, ℕ, ◌≤◌, Bool, List, [], ◌∷◌, Option, None, Some, option_map}
use Rattle.std.specs.Bool.{Decides}
use Rattle.std.proofs.Common.{sym, ◌∙◌, ap, subst, inl, inr}
use Rattle.rr_roster.specs.declared.company.Corp.{Corp}
use Rattle.rr_roster.specs.Terms.{Terms}
use Rattle.rr_roster.specs.Chart.Chart.{Row}
use Rattle.rr_books.specs.declared.parties.Seat.{Seat}
use Rattle.rr_books.specs.declared.acts.Act.TheVariants as A
use Rattle.rr_books.specs.Book.{Book, holder, players}
use Rattle.rr_books.specs.Shares.{president}
use Rattle.rr_kit.specs.declared.kit.Kit.{Kit}
use Rattle.rr_desk.specs.Position.Position.{OnTable, IsPositionOf}
use Rattle.rr_desk.specs.Effects.{Effect, in_turn}
use Rattle.rr_desk.specs.Desk.{OnDesk, Takes}
use Rattle.rr_desk.proofs.Taking.{takes_same}
use Rattle.rr_shares.specs.Limits.Holdings.{Holdings, holdings_in, holdings_of}
use Rattle.rr_shares.specs.Limits.HoldingLaws.{holdings-of_book}
use Rattle.rr_shares.specs.Effects.{sale_shares}
use Rattle.rr_shares.specs.Succession.{at_table}
use Rattle.rr_stock.specs.Effects.{pays_seller, proceeds}
use Rattle.rr_stock.specs.Situation as stock
use Rattle.rr_stock.proofs.Trades.{takes_three}
use Rattle.rr_market.specs.Operations.Due.{due}
use Rattle.rr_trains.specs.declared.prices.TrainOnSale.{TrainOnSale}
use Rattle.rr_trains.specs.Sales.{cheapest}
use Rattle.rr_trains.specs.Depot.Effects.{says}
use Rattle.rr_trains.specs.Depot.Situation.{situation_of}
use Rattle.rr_books.specs.declared.refusal.Refusal.{Refusal}
use Rattle.rr_rules.specs.declared.forced.needs.Need.{Need}
use Rattle.rr_rules.specs.Forced.Needs.{IsNeed, IsNeedOf, need_for}
use Rattle.rr_rules.specs.Forced.Sales.{CanRaise, bankrupt_verdict, can_raise, raise_verdict}
use Rattle.rr_rules.specs.Forced.Rules.{IsBankruptVerdict, IsRaiseVerdict}
use Rattle.rr_rules.specs.Forced.SaleLaws.{IsLed}
use Rattle.rr_rules.specs.Forced.Effects.{raises}
use Rattle.rr_rules.proofs.ForcedLemmas.SaleLemmas.{one_share_suffices}

pub takes_raise : (rows : List Row) (s : Seat) (c : Corp) (n amount : ℕ) (a b d e : OnDesk)
    → ((book : Book) → IsPositionOf book a.position → amount ≡ proceeds (stock.situation_of rows book) c n)
    → Takes (says (A.Raise s c n)) a b → Takes (sale_shares c s n) b d → Takes (pays_seller rows s c n amount) d e
    → Takes (λ book. raises rows (stock.situation_of rows book) s c n book) a e
unfolding raises
takes_raise rows s c n amount a b d e is said sold paid =
    let row : ℕ → Effect = λ m. in_turn (says (A.Raise s c n) ∷ sale_shares c s n ∷ pays_seller rows s c n m ∷ []) in
    takes_same (row amount) (λ book. raises rows (stock.situation_of rows book) s c n book) a e
    (λ book h. ap (λ (m : ℕ). row m book) (is book h))
    (takes_three (says (A.Raise s c n)) (sale_shares c s n) (pays_seller rows s c n amount) a b d e said sold paid)

-- the president whom a need names is the corporation's
led_by : (rows : List Row) (roster : Terms) (book : Book) (c : Corp) (need : Need) (train : Option TrainOnSale)
    → Some need ≡ option_map (need_for roster (situation_of book) c) train → IsLed (holdings_of rows book) (Some need)
led_by rows roster book c need None e = absurd (cc)
led_by rows roster book c need (Some train) e =
    let is : need ≡ need_for roster (situation_of book) c train = cc in
    ap (λ (n : Need). n.president) is ∙ ap (λ (d : Corp). at_table (players book) (president (holder book) d)) (sym (ap (λ (n : Need). n.corp) is))

led_of : (kit : Kit) (book : Book) (buyer : Option Corp) (need : Option Need) → IsNeedOf kit book buyer need → IsLed (holdings_of kit.chart book) need
led_of kit book buyer None h = tt
led_of kit book None (Some need) h = absurd (cc)
led_of kit book (Some c) (Some need) (inl h) = let none : Some need ≡ None = h.1 in absurd (cc)
led_of kit book (Some c) (Some need) (inr h) = led_by kit.chart kit.roster book c need (cheapest (situation_of book).trains kit.roster) h.1

shown_of : (kit : Kit) (book : Book) (p : OnTable) (rows : List Row) → IsPositionOf book p → rows ≡ kit.chart → holdings_in rows p ≡ holdings_of kit.chart book
shown_of kit book p rows h same = ap (λ (r : List Row). holdings_in r p) same ∙ holdings-of_book kit.chart book p h

-- the verdict on a sale, said of the book
pub raise_told : (kit : Kit) (book : Book) (p : OnTable) (rows : List Row) (need : Option Need) (s : Seat) (c : Corp) (n : ℕ) (verdict : Option Refusal) → IsPositionOf book p → rows ≡ kit.chart
    → IsNeed kit book need → raise_verdict (holdings_in rows p) need s c n ≡ verdict → IsRaiseVerdict kit book s c n verdict
raise_told kit book p rows need s c n verdict h same need_is e =
    (need, need_is, sym e ∙ ap (λ (x : Holdings). raise_verdict x need s c n) (shown_of kit book p rows h same))

-- whether a sale is lawful, by one share of each corporation
decided : (kit : Kit) (book : Book) (p : OnTable) (rows : List Row) (need : Option Need) (s : Seat) (result : Bool) → IsPositionOf book p → p.books.players ≤ 6 → rows ≡ kit.chart
    → IsNeed kit book need → result ≡ can_raise (holdings_in rows p) need s → Decides result (CanRaise (holdings_of kit.chart book) need s)
decided kit book p rows need s result h few same need_is is =
    let seats : (holdings_of kit.chart book).players ≡ p.books.players = sym (ap (λ (x : Holdings). x.players) (holdings-of_book kit.chart book p h)) in
    let Few : ℕ → Type 0 = λ n. n ≤ 6 in
    let Told : Bool → Type 0 = λ b. Decides b (CanRaise (holdings_of kit.chart book) need s) in
    subst Told (sym (is ∙ ap (λ (x : Holdings). can_raise x need s) (shown_of kit book p rows h same)))
    (one_share_suffices (holdings_of kit.chart book) need s (subst Few (sym seats) few) (led_of kit book (due kit.chart book) need need_is))

-- the verdict on a bankruptcy, said of the book
pub bankrupt_told : (kit : Kit) (book : Book) (p : OnTable) (rows : List Row) (need : Option Need) (s : Seat) (raised : Bool) (verdict : Option Refusal) → IsPositionOf book p → p.books.players ≤ 6 → rows ≡ kit.chart
    → IsNeed kit book need → raised ≡ can_raise (holdings_in rows p) need s → bankrupt_verdict need s raised ≡ verdict → IsBankruptVerdict kit book s verdict
bankrupt_told kit book p rows need s raised verdict h few same need_is is e =
    (need, raised, need_is, decided kit book p rows need s raised h few same need_is is, sym e)
