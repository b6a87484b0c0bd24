-- The cheapest train is on sale, and nothing on sale comes before it.
use Rattle.std.specs.Prelude.{◌≡◌, ℕ, ◌==◌, ⊤, Bool, true, false, not, nat_lt, List, [], ◌∷◌, Option, None, Some, fold, refl, ◌⊎◌, if◌then◌else◌}
use Rattle.std.proofs.Common.{subst, inl, inr, arith}
use Rattle.std.proofs.lemmas.Bool.Decides.{nat_tests}
use Rattle.rr_roster.specs.declared.company.Kind.{Kind}
use Rattle.rr_roster.specs.declared.company.Kind.TheVariants as K
use Rattle.rr_roster.specs.Company.{kind_index}
use Rattle.rr_roster.specs.Terms.{Terms, price_of}
use Rattle.rr_roster.specs.declared.sources.TrainSource.{TrainSource}
use Rattle.rr_roster.specs.declared.sources.TrainSource.TheVariants as S
use Rattle.rr_market.specs.Operations.Phases.{TrainHolders}
use Rattle.rr_trains.specs.declared.prices.TrainOnSale.{TrainOnSale}
use Rattle.rr_trains.specs.Sales.{IsCheapest, better, cheapest, comes_before, every_offer, first_of_two, is_on_sale, source_rank}

-- what is cheapest as a function is so by what is on sale
abbrev pub CheapestLeads : Type 0
CheapestLeads = (trains : TrainHolders) (roster : Terms) → IsCheapest trains roster (cheapest trains roster)

-- an order of three numbers, the first before the second and the second before the third
abbrev before : ℕ → ℕ → ℕ → ℕ → ℕ → ℕ → Bool
before p s k q t m = if not (p == q) then nat_lt p q else if not (s == t) then nat_lt s t else nat_lt k m

never_before_itself : (p s k : ℕ) → before p s k p s k ≡ false
never_before_itself p s k = grind (arith, nat_tests)

-- who isn't before one isn't before an earlier one
through : (p s k q t m u v w : ℕ) → before q t m u v w ≡ true → before p s k u v w ≡ false → before p s k q t m ≡ false
through p s k q t m u v w e f = grind (arith, nat_tests)

abbrev NotBefore : Terms → TrainOnSale → Option TrainOnSale → Type 0
NotBefore roster x None = ⊥
NotBefore roster x (Some best) = comes_before roster x best ≡ false

abbrev IsSold : TrainHolders → Option TrainOnSale → Type 0
IsSold trains None = ⊤
IsSold trains (Some best) = is_on_sale trains best.kind best.source ≡ true

abbrev In : TrainOnSale → List TrainOnSale → Type 0
In x [] = ⊥
In x (y ∷ ys) = (x ≡ y) ⊎ In x ys

itself : (roster : Terms) (o : TrainOnSale) → comes_before roster o o ≡ false
itself roster o = never_before_itself (price_of roster o.kind) (source_rank o.source) (kind_index o.kind)

first_keeps : (roster : Terms) (best o x : TrainOnSale) → comes_before roster x best ≡ false → NotBefore roster x (first_of_two roster (Some best) o)
first_keeps roster best o x e = by_test (comes_before roster o best) refl
  where
    by_test : (b : Bool) → comes_before roster o best ≡ b → NotBefore roster x (if b then Some o else Some best)
    by_test true f =
        through (price_of roster x.kind) (source_rank x.source) (kind_index x.kind) (price_of roster o.kind) (source_rank o.source) (kind_index o.kind)
        (price_of roster best.kind) (source_rank best.source) (kind_index best.kind) f e
    by_test false f = e

first_has : (roster : Terms) (best : Option TrainOnSale) (o : TrainOnSale) → NotBefore roster o (first_of_two roster best o)
first_has roster None o = itself roster o
first_has roster (Some best) o = by_test (comes_before roster o best) refl
  where
    by_test : (b : Bool) → comes_before roster o best ≡ b → NotBefore roster o (if b then Some o else Some best)
    by_test true f = itself roster o
    by_test false f = f

better_keeps : (trains : TrainHolders) (roster : Terms) (best : Option TrainOnSale) (o x : TrainOnSale) → NotBefore roster x best → NotBefore roster x (better trains roster best o)
better_keeps trains roster None o x n = absurd n
better_keeps trains roster (Some best) o x n = by_test (is_on_sale trains o.kind o.source)
  where
    by_test : (b : Bool) → NotBefore roster x (if b then first_of_two roster (Some best) o else Some best)
    by_test true = first_keeps roster best o x n
    by_test false = n

better_has : (trains : TrainHolders) (roster : Terms) (best : Option TrainOnSale) (o : TrainOnSale) → is_on_sale trains o.kind o.source ≡ true → NotBefore roster o (better trains roster best o)
better_has trains roster best o e = by_test (is_on_sale trains o.kind o.source) e
  where
    by_test : (b : Bool) → b ≡ true → NotBefore roster o (if b then first_of_two roster best o else best)
    by_test true f = first_has roster best o
    by_test false f = cc

better_sold : (trains : TrainHolders) (roster : Terms) (best : Option TrainOnSale) (o : TrainOnSale) → IsSold trains best → IsSold trains (better trains roster best o)
better_sold trains roster best o h = by_test (is_on_sale trains o.kind o.source) refl
  where
    by_order : (found : TrainOnSale) → is_on_sale trains found.kind found.source ≡ true → is_on_sale trains o.kind o.source ≡ true → (b : Bool) → IsSold trains (if b then Some o else Some found)
    by_order found g f true = f
    by_order found g f false = g

    of_two : (so_far : Option TrainOnSale) → IsSold trains so_far → is_on_sale trains o.kind o.source ≡ true → IsSold trains (first_of_two roster so_far o)
    of_two None g f = f
    of_two (Some found) g f = by_order found g f (comes_before roster o found)

    by_test : (b : Bool) → is_on_sale trains o.kind o.source ≡ b → IsSold trains (if b then first_of_two roster best o else best)
    by_test true f = of_two best h f
    by_test false f = h

all_keep : (trains : TrainHolders) (roster : Terms) (best : Option TrainOnSale) (xs : List TrainOnSale) (x : TrainOnSale) → NotBefore roster x best → NotBefore roster x (fold (better trains roster) best xs)
all_keep trains roster best [] x n = n
all_keep trains roster best (o ∷ os) x n = all_keep trains roster (better trains roster best o) os x (better_keeps trains roster best o x n)

all_have : (trains : TrainHolders) (roster : Terms) (best : Option TrainOnSale) (xs : List TrainOnSale) (x : TrainOnSale) → In x xs → is_on_sale trains x.kind x.source ≡ true → NotBefore roster x (fold (better trains roster) best xs)
all_have trains roster best [] x there e = absurd there
all_have trains roster best (o ∷ os) x there e = by_place there (λ later. all_have trains roster (better trains roster best o) os x later e)
  where
    by_place : (x ≡ o) ⊎ In x os → (In x os → NotBefore roster x (fold (better trains roster) (better trains roster best o) os)) → NotBefore roster x (fold (better trains roster) (better trains roster best o) os)
    by_place (inl same) go_on =
        all_keep trains roster (better trains roster best o) os x (subst (λ (y : TrainOnSale). NotBefore roster x (better trains roster best y)) same (better_has trains roster best x e))
    by_place (inr later) go_on = go_on later

all_sold : (trains : TrainHolders) (roster : Terms) (best : Option TrainOnSale) (xs : List TrainOnSale) → IsSold trains best → IsSold trains (fold (better trains roster) best xs)
all_sold trains roster best [] h = h
all_sold trains roster best (o ∷ os) h = all_sold trains roster (better trains roster best o) os (better_sold trains roster best o h)

-- whatever could be on sale is in the list
listed : (kind : Kind) (source : TrainSource) → In (record { kind = kind; source = source }) every_offer
listed K.Two S.Bank = inl refl
listed K.Three S.Bank = inr (inl refl)
listed K.Four S.Bank = inr (inr (inl refl))
listed K.Five S.Bank = inr (inr (inr (inl refl)))
listed K.Six S.Bank = inr (inr (inr (inr (inl refl))))
listed K.Diesel S.Bank = inr (inr (inr (inr (inr (inl refl)))))
listed K.Two S.Pool = inr (inr (inr (inr (inr (inr (inl refl))))))
listed K.Three S.Pool = inr (inr (inr (inr (inr (inr (inr (inl refl)))))))
listed K.Four S.Pool = inr (inr (inr (inr (inr (inr (inr (inr (inl refl))))))))
listed K.Five S.Pool = inr (inr (inr (inr (inr (inr (inr (inr (inr (inl refl)))))))))
listed K.Six S.Pool = inr (inr (inr (inr (inr (inr (inr (inr (inr (inr (inl refl))))))))))
listed K.Diesel S.Pool = inr (inr (inr (inr (inr (inr (inr (inr (inr (inr (inr (inl refl)))))))))))

never : (b : Bool) → (b ≡ true → ⊥) → b ≡ false
never true no_way = absurd (no_way refl)
never false no_way = refl

is_so : (trains : TrainHolders) (roster : Terms) (best : Option TrainOnSale) → ((x : TrainOnSale) → is_on_sale trains x.kind x.source ≡ true → NotBefore roster x best) → IsSold trains best → IsCheapest trains roster best
is_so trains roster None has sold = λ x. never (is_on_sale trains x.kind x.source) (has x)
is_so trains roster (Some best) has sold = record { on_sale = sold; none_before = has }

pub cheapest_leads : CheapestLeads
unfolding cheapest
cheapest_leads trains roster =
    is_so trains roster (fold (better trains roster) None every_offer) (λ x e. all_have trains roster None every_offer x (listed x.kind x.source) e) (all_sold trains roster None every_offer tt)
