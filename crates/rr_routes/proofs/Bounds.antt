-- The bound of a certificate is the sum of the greatest values.
use Rattle.std.proofs.Common.{ℕ, ◌≤◌, ◌↔◌, List, [], length, get_or, sym, subst, inl, arith}
use Rattle.std.specs.List.{Contains, sum_by}
use Rattle.std.proofs.lemmas.List.{length-take}
use Rattle.rr_routes.specs.declared.net.CentreLimit.{CentreLimit}
use Rattle.rr_routes.specs.declared.net.CentreLimit.TheVariants.{AtMost, Unlimited}
use Rattle.rr_routes.specs.declared.certificate.Fate.{Fate}
use Rattle.rr_routes.specs.Net.{Net, value, limit_of, IsWithin}
use Rattle.rr_routes.specs.Routes.{NoneTwice, worth}
use Rattle.rr_routes.specs.Certificates.{Pick, IsBounded}
use Rattle.rr_routes.specs.Greatest.{IsDescending, counted_of, Greatest, GreatestOfAll}
use Rattle.rr_routes.proofs.Elements.{sum_within, sum_greatest, sum_by-pointwise, Contains-take, NoneTwice-take}

counted_within : (limit : CentreLimit) (ranked : List ℕ) → IsWithin limit (length (counted_of limit ranked))
counted_within (AtMost most) ranked = omega (arith, length-take most ranked)
counted_within Unlimited ranked = tt

Contains-counted : (limit : CentreLimit) (ranked : List ℕ) (centre : ℕ) → Contains (counted_of limit ranked) centre → Contains ranked centre
Contains-counted (AtMost most) ranked centre c = Contains-take most ranked centre c
Contains-counted Unlimited ranked centre c = c

NoneTwice-counted : (limit : CentreLimit) (ranked : List ℕ) → NoneTwice ranked → NoneTwice (counted_of limit ranked)
NoneTwice-counted (AtMost most) ranked none = NoneTwice-take most ranked none
NoneTwice-counted Unlimited ranked none = none

counted_greatest : (f : ℕ → ℕ) (limit : CentreLimit) (picked ranked : List ℕ) → NoneTwice picked → IsWithin limit (length picked)
    → ((x : ℕ) → Contains picked x → Contains ranked x) → IsDescending f ranked → sum_by f picked ≤ sum_by f (counted_of limit ranked)
counted_greatest f (AtMost most) picked ranked none few all descending = sum_greatest f most picked ranked none all descending few
counted_greatest f Unlimited picked ranked none few all descending = sum_within f picked ranked none (λ x c. inl (all x c))

module _ (net : Net) (fates : List Fate) where
  pub greatest_pick : (train : ℕ) (best : List ℕ) → Greatest net fates train best → Pick net fates train best
  greatest_pick train best greatest =
      let limit = limit_of net train in
      subst (λ picked. Pick net fates train picked) (sym greatest.best_is) (record {
        none_twice = NoneTwice-counted limit greatest.ranked greatest.ranking.none_twice;
        counted = counted_within limit greatest.ranked;
        reached = λ centre c. (greatest.ranking.exact centre).0 (Contains-counted limit greatest.ranked centre c);
      })

  pick_below : (train : ℕ) (best picked : List ℕ) → Greatest net fates train best → Pick net fates train picked → worth net picked ≤ worth net best
  pick_below train best picked greatest pick =
      subst (λ xs. worth net picked ≤ worth net xs) (sym greatest.best_is)
      (counted_greatest (value net) (limit_of net train) picked greatest.ranked pick.none_twice pick.counted
      (λ centre c. (greatest.ranking.exact centre).1 (pick.reached centre c)) greatest.ranking.greatest_first)

pub bounded_greatest : (net : Net) (claim : ℕ) (fates : List Fate) (greatest : List (List ℕ)) → GreatestOfAll net fates greatest
    → IsBounded net claim fates ↔ (sum_by (worth net) greatest ≤ claim)
bounded_greatest net claim fates greatest all = (
  λ bound. bound greatest all.complete (λ train in'. greatest_pick net fates train (get_or greatest train []) (all.each train in')),
  λ enough picks complete each.
      let below : sum_by (worth net) picks ≤ sum_by (worth net) greatest =
      sum_by-pointwise (worth net) picks greatest [] (omega (arith, complete, all.complete))
      (λ train in'. pick_below net fates train (get_or greatest train []) (get_or picks train [])
      (all.each train (omega (arith, complete, all.complete))) (each train in')) in
      omega (arith, below, enough),
)
