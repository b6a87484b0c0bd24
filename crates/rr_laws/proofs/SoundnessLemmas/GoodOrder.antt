-- Entries that pay and move among those of a table, and touch no share, leave it in good order.
use Rattle.std.specs.Prelude.{◌≡◌, ℕ, ℤ, pos, ◌+ℤ◌, ◌-ℤ◌, true, List, [], ◌∷◌, ◌++◌, fold, refl}
use Rattle.std.specs.List.{list_all}
use Rattle.std.proofs.Common.{sym, ◌∙◌, ap, arith}
use Rattle.std.proofs.lemmas.Int.{ints}
use Rattle.rr_roster.specs.declared.company.Corp.{Corp}
use Rattle.rr_books.specs.declared.parties.Party.{Party}
use Rattle.rr_books.specs.declared.parties.Place.TheVariants as L
use Rattle.rr_books.specs.Book.{Book, balance, balance-append, balance_after, paid_by, paid_to}
use Rattle.rr_books.specs.Totals.{parties, pays_among, sum_over}
use Rattle.rr_books.proofs.TotalLemmas.{sum_of_balances}
use Rattle.rr_auction.specs.Dealt.{moves_within}
use Rattle.rr_auction.proofs.Dealing.{dealt_by}
use Rattle.rr_stock.specs.PoolLimits.{HasHalfAtMost}
use Rattle.rr_laws.specs.Soundness.GoodOrder.{IsInGoodOrder}
use Rattle.rr_laws.specs.Soundness.Sound.{IsSolvent}
use Rattle.rr_laws.proofs.SoundnessLemmas.Untouched.{IsUntouched, governed_still, share_untouched}

regroup : (f g x y a b : ℤ) → f +ℤ ((y +ℤ a) -ℤ b) ≡ g +ℤ ((x +ℤ a) -ℤ b) → f +ℤ y ≡ g +ℤ x
regroup f g x y a b e = omega (arith, ints)

-- entries add as much to a party, whatever it had
as_much : (p : Party) (x y : ℤ) (es : Book) → fold (balance_after p) x es +ℤ y ≡ fold (balance_after p) y es +ℤ x
as_much p x y [] = omega (arith, ints)
as_much p x y (e ∷ es) =
    regroup (fold (balance_after p) (balance_after p x e) es) (fold (balance_after p) (balance_after p y e) es) x y (paid_to p e) (paid_by p e)
    (as_much p (balance_after p x e) (balance_after p y e) es)

four : (a b c d e f g h : ℤ) → a +ℤ b ≡ c +ℤ d → e +ℤ f ≡ g +ℤ h → (a +ℤ e) +ℤ (b +ℤ f) ≡ (c +ℤ g) +ℤ (d +ℤ h)
four a b c d e f g h one other = omega (arith, ints)

-- sums of two amounts each
together_each : (f g h k : Party → ℤ) (ps : List Party) → ((p : Party) → f p +ℤ g p ≡ h p +ℤ k p) → sum_over f ps +ℤ sum_over g ps ≡ sum_over h ps +ℤ sum_over k ps
together_each f g h k [] same = refl
together_each f g h k (p ∷ ps) same = four (f p) (g p) (h p) (k p) (sum_over f ps) (sum_over g ps) (sum_over h ps) (sum_over k ps) (same p) (together_each f g h k ps same)

one_party : (book more : Book) (p : Party) → balance (book ++ more) p +ℤ balance [] p ≡ balance more p +ℤ balance book p
unfolding balance
one_party book more p = ap (λ (x : ℤ). x +ℤ pos 0) (balance-append book more p) ∙ as_much p (balance book p) (pos 0) more

same_sum : (a b m : ℤ) → a +ℤ m ≡ m +ℤ b → a ≡ b
same_sum a b m e = omega (arith, ints)

-- payments among the parties of a table leave the sum of what they have
pub sum_kept : (n : ℕ) (book more : Book) → list_all (pays_among n) more ≡ true → sum_over (balance (book ++ more)) (parties n) ≡ sum_over (balance book) (parties n)
sum_kept n book more among =
    let sum : Book → ℤ = λ b. sum_over (balance b) (parties n) in
    let all = together_each (balance (book ++ more)) (balance []) (balance more) (balance book) (parties n) (λ p. one_party book more p) in
    let first : sum [] ≡ pos 0 = sum_of_balances n [] refl in
    let others : sum more ≡ pos 0 = sum_of_balances n more among in
    same_sum (sum (book ++ more)) (sum book) (pos 0)
    (ap (λ (x : ℤ). sum (book ++ more) +ℤ x) (sym first) ∙ all ∙ ap (λ (x : ℤ). x +ℤ sum book) others)

half_kept : (book more : Book) → ((c : Corp) → IsUntouched c book (book ++ more)) → HasHalfAtMost book → HasHalfAtMost (book ++ more)
half_kept book more untouched half c =
    let same = share_untouched c book (book ++ more) L.Pool (untouched c) in
    let had = half c in
    omega arith

-- what is said of the entries is enough
pub order_kept : (n : ℕ) (book more : Book) → list_all (pays_among n) more ≡ true → list_all (moves_within n) more ≡ true → IsSolvent n (book ++ more) → ((c : Corp) → IsUntouched c book (book ++ more))
    → IsInGoodOrder n book → IsInGoodOrder n (book ++ more)
order_kept n book more among within solvent untouched h =
    let sound = h.sound in
    record {
      together = sum_kept n book more among ∙ h.together;
      sound = record { solvent = solvent; dealt = dealt_by n more book within sound.dealt; pool = half_kept book more untouched sound.pool };
      governed = λ c. governed_still n c book (book ++ more) (untouched c) (h.governed c);
    }
