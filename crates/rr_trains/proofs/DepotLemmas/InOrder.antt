-- The bank sells its trains in order, and privates go at fair prices.
use Rattle.std.specs.Prelude.{◌≡◌, ℕ, ◌*◌, ◌<◌, ◌≤◌, ◌⊎◌, Bool, true, false, not, nat_le, nat_lt, ◌&&◌, ◌||◌, [], ◌∷◌, refl}
use Rattle.std.specs.List.{list_all}
use Rattle.std.proofs.Common.{sym, arith, inl, inr}
use Rattle.std.proofs.lemmas.Bool.{and_parts, false≢true}
use Rattle.std.proofs.lemmas.Bool.Decides.{nat_tests}
use Rattle.rr_roster.specs.declared.company.Kind.{Kind}
use Rattle.rr_roster.specs.declared.company.Kind.TheVariants as K
use Rattle.rr_roster.specs.declared.company.Corp.{Corp}
use Rattle.rr_roster.specs.Company.{kind_index, kinds}
use Rattle.rr_roster.specs.Terms.{face_of}
use Rattle.rr_books.specs.declared.parties.Place.TheVariants as L
use Rattle.rr_roster.specs.declared.sources.TrainSource.TheVariants as S
use Rattle.rr_books.specs.Book.{train_holder}
use Rattle.rr_market.specs.Operations.Phases.{TrainHolders, is_sold}
use Rattle.rr_trains.specs.Places.{has_train_at}
use Rattle.rr_trains.specs.Sales.{are_smaller_sold, is_early_diesel, is_no_smaller_offer, is_on_sale, is_released, is_traded_in}
use Rattle.rr_trains.specs.Depot.Situation.{situation_of}
use Rattle.rr_trains.specs.Depot.PurchaseLaws.{BankSellsInOrder, IsInOrder, PrivatesGoAtFairPrices}
use Rattle.rr_trains.proofs.DepotLemmas.Verdicts.{may_buy, may_hand_in, may_take}

-- what all kinds pass each of them does
each_of : (p : Kind → Bool) → list_all p kinds ≡ true → (kind : Kind) → p kind ≡ true
each_of p all kind =
    let two = and_parts (p K.Two) (list_all p (K.Three ∷ K.Four ∷ K.Five ∷ K.Six ∷ K.Diesel ∷ [])) all in
    let three = and_parts (p K.Three) (list_all p (K.Four ∷ K.Five ∷ K.Six ∷ K.Diesel ∷ [])) two.1 in
    let four = and_parts (p K.Four) (list_all p (K.Five ∷ K.Six ∷ K.Diesel ∷ [])) three.1 in
    let five = and_parts (p K.Five) (list_all p (K.Six ∷ K.Diesel ∷ [])) four.1 in
    let six = and_parts (p K.Six) (list_all p (K.Diesel ∷ [])) five.1 in
    let diesel = and_parts (p K.Diesel) true six.1 in
    elim kind as (λ k. p k ≡ true) [ K.Two ↦ two.0 | K.Three ↦ three.0 | K.Four ↦ four.0 | K.Five ↦ five.0 | K.Six ↦ six.0 | K.Diesel ↦ diesel.0 ]

either_of : (a b : Bool) → (a || b) ≡ true → (a ≡ true) ⊎ (b ≡ true)
either_of true b e = inl refl
either_of false b e = inr e

not_offered : (above has : Bool) → (above || not has) ≡ true → above ≡ false → has ≡ false
not_offered true has e low = absurd (false≢true (sym low))
not_offered false true e low = absurd (false≢true e)
not_offered false false e low = refl

not_above : (m n : ℕ) → n < m → nat_le m n ≡ false
not_above m n h = grind (arith, nat_tests)

early_is_diesel : (trains : TrainHolders) (kind : Kind) → is_early_diesel trains kind ≡ true → (kind ≡ K.Diesel) × (is_sold trains K.Six ≡ true)
early_is_diesel trains K.Diesel e = (refl, e)
early_is_diesel trains K.Two e = absurd (false≢true e)
early_is_diesel trains K.Three e = absurd (false≢true e)
early_is_diesel trains K.Four e = absurd (false≢true e)
early_is_diesel trains K.Five e = absurd (false≢true e)
early_is_diesel trains K.Six e = absurd (false≢true e)

in_order : (trains : TrainHolders) (kind : Kind) → is_on_sale trains kind S.Bank ≡ true → IsInOrder trains kind
unfolding are_smaller_sold
in_order trains kind e =
    let parts = and_parts (has_train_at trains L.Offer kind) (is_released trains kind) e in
    elim (either_of (are_smaller_sold trains kind) (is_early_diesel trains kind) parts.1) [
      | inl sold ↦
          inl (λ smaller low.
          not_offered (nat_le (kind_index kind) (kind_index smaller)) (has_train_at trains L.Offer smaller)
          (each_of (is_no_smaller_offer trains kind) sold smaller) (not_above (kind_index kind) (kind_index smaller) low))
      | inr early ↦ inr (early_is_diesel trains kind early)
    ]

diesel_on_sale : (trains : TrainHolders) (c : Corp) (kind : Kind) → (is_traded_in kind && has_train_at trains (L.Corp c) kind && is_on_sale trains K.Diesel S.Bank) ≡ true → is_on_sale trains K.Diesel S.Bank ≡ true
diesel_on_sale trains c kind e = (and_parts (is_traded_in kind && has_train_at trains (L.Corp c) kind) (is_on_sale trains K.Diesel S.Bank) e).1

pub bank_sells_in_order : BankSellsInOrder
bank_sells_in_order = record {
  train = λ roster book c kind lawful. in_order (train_holder book) kind (may_buy roster (situation_of book) c kind S.Bank lawful).on_sale;
  trade = λ roster book c kind lawful.
      in_order (train_holder book) K.Diesel (diesel_on_sale (train_holder book) c kind (may_hand_in roster (situation_of book) c kind lawful).trains);
}

within_bounds : (face price : ℕ) → (nat_lt (2 * face) price || nat_lt (2 * price) face) ≡ false → (face ≤ 2 * price) × (price ≤ 2 * face)
within_bounds face price e = grind (arith, nat_tests)

pub privates_go_at_fair_prices : PrivatesGoAtFairPrices
privates_go_at_fair_prices roster book c p price lawful =
    let may = may_take roster (situation_of book) c p price lawful in
    let fair = within_bounds (face_of roster p) price may.bounds in
    record { least = fair.0; greatest = fair.1; phase = may.phase }
