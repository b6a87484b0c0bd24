-- Which trains are on sale, and what they cost.
use Rattle.std.specs.Prelude.{◌≡◌, ℕ, ◌==◌, Bool, true, false, not, nat_lt, nat_le, List, [], ◌∷◌, Option, None, Some, fold, if◌then◌else◌, ◌&&◌, ◌||◌}
use Rattle.std.specs.List.{list_all}
use Rattle.rr_roster.specs.declared.company.Kind.{Kind}
use Rattle.rr_roster.specs.declared.company.Kind.TheVariants as K
use Rattle.rr_roster.specs.Company.{kind_index, kinds}
use Rattle.rr_roster.specs.Terms.{Terms, price_of}
use Rattle.rr_roster.specs.declared.sources.TrainSource.{TrainSource}
use Rattle.rr_roster.specs.declared.sources.TrainSource.TheVariants as S
use Rattle.rr_books.specs.declared.parties.Place.{Place}
use Rattle.rr_books.specs.declared.parties.Place.TheVariants as L
use Rattle.rr_market.specs.Operations.Phases.{TrainHolders, is_sold}
use Rattle.rr_trains.specs.declared.prices.TrainOnSale.{TrainOnSale}
use Rattle.rr_trains.specs.Places.{has_train_at}

-- where the trains of a source are
abbrev pub source_place : TrainSource → Place
source_place S.Bank = L.Offer
source_place S.Pool = L.Pool

-- the other kind isn't smaller, or none of it is in the offer
abbrev pub is_no_smaller_offer : TrainHolders → Kind → Kind → Bool
is_no_smaller_offer trains kind other = nat_le (kind_index kind) (kind_index other) || not (has_train_at trains L.Offer other)

-- all smaller kinds are sold: none of them is in the offer
unfoldable pub are_smaller_sold : TrainHolders → Kind → Bool
are_smaller_sold trains kind = list_all (is_no_smaller_offer trains kind) kinds

-- a D may be sold before all 6s are, once one of them was
abbrev pub is_early_diesel : TrainHolders → Kind → Bool
is_early_diesel trains K.Diesel = is_sold trains K.Six
is_early_diesel trains _ = false

-- the bank may sell trains of the kind, if it has one
abbrev pub is_released : TrainHolders → Kind → Bool
is_released trains kind = are_smaller_sold trains kind || is_early_diesel trains kind

-- the bank sells a train of the offer once its kind is released, and whatever train is in the pool
abbrev pub is_on_sale : TrainHolders → Kind → TrainSource → Bool
is_on_sale trains kind S.Bank = has_train_at trains L.Offer kind && is_released trains kind
is_on_sale trains kind S.Pool = has_train_at trains L.Pool kind

-- a 4, 5 or 6 may be handed in for a D
abbrev pub is_traded_in : Kind → Bool
is_traded_in K.Four = true
is_traded_in K.Five = true
is_traded_in K.Six = true
is_traded_in _ = false

-- the bank comes before the pool
abbrev pub source_rank : TrainSource → ℕ
source_rank S.Bank = 0
source_rank S.Pool = 1

-- the cheaper comes first; of equal prices the bank's, and then the smaller kind
abbrev pub comes_before : Terms → TrainOnSale → TrainOnSale → Bool
comes_before roster one other =
    if not (price_of roster one.kind == price_of roster other.kind) then nat_lt (price_of roster one.kind) (price_of roster other.kind)
    else if not (source_rank one.source == source_rank other.source) then nat_lt (source_rank one.source) (source_rank other.source)
    else nat_lt (kind_index one.kind) (kind_index other.kind)

-- it is on sale, and nothing that is on sale comes before it
pub record Leads (trains : TrainHolders) (roster : Terms) (first : TrainOnSale) : Type 0 where
  pub on_sale : is_on_sale trains first.kind first.source ≡ true
  pub none_before : (other : TrainOnSale) → is_on_sale trains other.kind other.source ≡ true → comes_before roster other first ≡ false

-- the cheapest train on sale; none exactly where nothing is on sale
abbrev pub IsCheapest : TrainHolders → Terms → Option TrainOnSale → Type 0
IsCheapest trains roster None = (other : TrainOnSale) → is_on_sale trains other.kind other.source ≡ false
IsCheapest trains roster (Some first) = Leads trains roster first

-- all that could be on sale
abbrev pub every_offer : List TrainOnSale
every_offer =
    record { kind = K.Two; source = S.Bank }
    ∷ record { kind = K.Three; source = S.Bank }
    ∷ record { kind = K.Four; source = S.Bank }
    ∷ record { kind = K.Five; source = S.Bank }
    ∷ record { kind = K.Six; source = S.Bank }
    ∷ record { kind = K.Diesel; source = S.Bank }
    ∷ record { kind = K.Two; source = S.Pool }
    ∷ record { kind = K.Three; source = S.Pool }
    ∷ record { kind = K.Four; source = S.Pool }
    ∷ record { kind = K.Five; source = S.Pool }
    ∷ record { kind = K.Six; source = S.Pool }
    ∷ record { kind = K.Diesel; source = S.Pool }
    ∷ []

-- the better of what was found so far and of one more
abbrev pub first_of_two : Terms → Option TrainOnSale → TrainOnSale → Option TrainOnSale
first_of_two roster None o = Some o
first_of_two roster (Some best) o = if comes_before roster o best then Some o else Some best

abbrev pub better : TrainHolders → Terms → Option TrainOnSale → TrainOnSale → Option TrainOnSale
better trains roster best o = if is_on_sale trains o.kind o.source then first_of_two roster best o else best

-- the same as a function
unfoldable pub cheapest : TrainHolders → Terms → Option TrainOnSale
cheapest trains roster = fold (better trains roster) None every_offer
