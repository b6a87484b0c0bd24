-- The phase is the greatest kind that was sold.
use Rattle.std.specs.Prelude.{◌≡◌, ℕ, ◌≤◌, Bool, true, false, List, [], ◌∷◌, Option, Some, find, unwrap_or, refl}
use Rattle.std.proofs.Common.{sym, ◌∙◌, cond, arith}
use Rattle.std.proofs.lemmas.Bool.{false≢true}
use Rattle.rr_roster.specs.declared.company.Kind.{Kind}
use Rattle.rr_roster.specs.declared.company.Kind.TheVariants as K
use Rattle.rr_roster.specs.Company.{kind_index}
use Rattle.rr_market.specs.Operations.Phases.{TrainHolders, greatest_first, is_sold, phase}

-- no kind greater than the phase was sold, and one greater than the 2 is the phase only where it was sold
pub record PhaseIsTheGreatestSold : Type 0 where
  pub greatest : (trains : TrainHolders) (kind : Kind) → is_sold trains kind ≡ true → kind_index kind ≤ kind_index (phase trains)
  pub sold : (trains : TrainHolders) → is_sold trains (phase trains) ≡ false → phase trains ≡ K.Two

tried : (n : ℕ) (b : Bool) (kind : Kind) (rest : Option Kind) → (b ≡ true → n ≤ kind_index kind) → (b ≡ false → n ≤ kind_index (unwrap_or rest K.Two)) → n ≤ kind_index (unwrap_or (cond b (Some kind) rest) K.Two)
tried n true kind rest f g = f refl
tried n false kind rest f g = g refl

not_both : {A : Type 0} (b : Bool) → b ≡ true → b ≡ false → A
not_both b t f = absurd (false≢true (sym f ∙ t))

at_least : (p : Kind → Bool) (kind : Kind) → p kind ≡ true → kind_index kind ≤ kind_index (unwrap_or (find p greatest_first) K.Two)
at_least p K.Diesel e = tried 5 (p K.Diesel) K.Diesel _ (λ _. omega arith) (λ f. not_both (p K.Diesel) e f)
at_least p K.Six e = tried 4 (p K.Diesel) K.Diesel _ (λ _. omega arith) (λ _. tried 4 (p K.Six) K.Six _ (λ _. omega arith) (λ f. not_both (p K.Six) e f))
at_least p K.Five e =
    tried 3 (p K.Diesel) K.Diesel _ (λ _. omega arith)
    (λ _. tried 3 (p K.Six) K.Six _ (λ _. omega arith) (λ _. tried 3 (p K.Five) K.Five _ (λ _. omega arith) (λ f. not_both (p K.Five) e f)))
at_least p K.Four e =
    tried 2 (p K.Diesel) K.Diesel _ (λ _. omega arith)
    (λ _. tried 2 (p K.Six) K.Six _ (λ _. omega arith)
    (λ _. tried 2 (p K.Five) K.Five _ (λ _. omega arith) (λ _. tried 2 (p K.Four) K.Four _ (λ _. omega arith) (λ f. not_both (p K.Four) e f))))
at_least p K.Three e =
    tried 1 (p K.Diesel) K.Diesel _ (λ _. omega arith)
    (λ _. tried 1 (p K.Six) K.Six _ (λ _. omega arith)
    (λ _. tried 1 (p K.Five) K.Five _ (λ _. omega arith)
    (λ _. tried 1 (p K.Four) K.Four _ (λ _. omega arith) (λ _. tried 1 (p K.Three) K.Three _ (λ _. omega arith) (λ f. not_both (p K.Three) e f)))))
at_least p K.Two e = omega arith

-- what is found passes the test, and nothing is found where nothing does
found_or : (p : Kind → Bool) (kinds : List Kind) → p (unwrap_or (find p kinds) K.Two) ≡ false → unwrap_or (find p kinds) K.Two ≡ K.Two
found_or p [] e = refl
found_or p (k ∷ ks) e = by_first (p k) refl e (λ f. found_or p ks f)
  where
    by_first : (b : Bool) → p k ≡ b → p (unwrap_or (cond b (Some k) (find p ks)) K.Two) ≡ false → (p (unwrap_or (find p ks) K.Two) ≡ false → unwrap_or (find p ks) K.Two ≡ K.Two) → unwrap_or (cond b (Some k) (find p ks)) K.Two ≡ K.Two
    by_first true t f go_on = not_both (p k) t f
    by_first false t f go_on = go_on f

pub phase_is_the_greatest_sold : PhaseIsTheGreatestSold
unfolding phase
phase_is_the_greatest_sold = record {
  greatest = λ trains kind e. at_least (is_sold trains) kind e;
  sold = λ trains e. found_or (is_sold trains) greatest_first e;
}
