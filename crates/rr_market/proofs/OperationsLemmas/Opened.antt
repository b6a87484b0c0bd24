-- The operating rounds of a table that opens.
use Rattle.std.specs.Prelude.{◌≡◌, ℕ, ◌≤◌, Bool, false, ◌||◌, List, [], ◌∷◌, ◌++◌, map, refl}
use Rattle.std.specs.List.{flat_map, list_any, range_with_len}
use Rattle.std.proofs.Common.{sym, ◌∙◌, ap, subst, arith, zero, suc}
use Rattle.std.proofs.lemmas.List.Folds.{list_any-append}
use Rattle.rr_roster.specs.Terms.{Terms, order_of}
use Rattle.rr_books.specs.declared.parties.Place.TheVariants as L
use Rattle.rr_books.specs.declared.entries.Entry.{Entry}
use Rattle.rr_books.specs.declared.entries.Entry.TheVariants as E
use Rattle.rr_books.specs.declared.entries.Marker.TheVariants as M
use Rattle.rr_books.specs.Book.{Book, balance}
use Rattle.rr_books.specs.Opening.{opening_entries, opening_payments, opening_moves, opening_trains, start_of, trains_of, kinds}
use Rattle.rr_books.specs.Shares.{certificates}
use Rattle.rr_market.specs.State.{IsMarketOf}
use Rattle.rr_rounds.specs.Round.{IsRoundOf, Round}
use Rattle.rr_rounds.specs.Round as stock
use Rattle.rr_market.specs.Operations.Progress.{Progress, after, beginning, follow, opened, progress}
use Rattle.rr_market.specs.Operations.Due.{IsOperationsOf, OnRounds, begins_turn}
use Rattle.rr_market.proofs.OperationsLemmas.ProgressLemmas.{follow-append, progress-push}
use Rattle.rr_market.proofs.OperationsLemmas.DueLemmas.{none_began}

-- entries that each leave the rounds where they are leave them so together
follow_still : {X : Type 0} (g : X → Entry) → ((book : Book) (p : Progress) (x : X) → after book p (g x) ≡ p) → (book : Book) (p : Progress) (xs : List X) → follow book p (map g xs) ≡ p
follow_still g h book p [] = refl
follow_still g h book p (x ∷ xs) = ap (λ (q : Progress). follow (book ++ g x ∷ []) q (map g xs)) (h book p x) ∙ follow_still g h (book ++ g x ∷ []) p xs

-- the bank has never had less than once it has paid the seats of a table their money for the start
paid : (n : ℕ) → n ≤ 6 → follow [] beginning (opening_payments n) ≡ opened n
unfolding opening_payments balance
paid zero h = refl
paid (suc zero) h = refl
paid (suc (suc zero)) h = refl
paid (suc (suc (suc zero))) h = refl
paid (suc (suc (suc (suc zero)))) h = refl
paid (suc (suc (suc (suc (suc zero))))) h = refl
paid (suc (suc (suc (suc (suc (suc zero)))))) h = refl
paid (suc (suc (suc (suc (suc (suc (suc k))))))) h = absurd (omega arith)

opening_still : (n : ℕ) (roster : Terms) → n ≤ 6 → progress (opening_entries n roster) ≡ opened n
unfolding progress opening_moves opening_trains
opening_still n roster few =
    let payments = opening_payments n in
    let moved = opening_moves roster in
    let trains = opening_trains roster in
    follow-append [] (payments ++ moved) trains beginning
    ∙ ap (λ (p : Progress). follow (payments ++ moved) p trains)
    (follow-append [] payments moved beginning
    ∙ ap (λ (p : Progress). follow payments p moved) (paid n few)
    ∙ follow_still (λ c. E.Move c L.Offer) (λ book p c. refl) payments (opened n) (certificates (order_of roster)))
    ∙ follow_still (λ t. E.Train t L.Offer) (λ book p t. refl) (payments ++ moved) (opened n) (flat_map (trains_of roster) kinds)

none_mapped : {X : Type 0} (g : X → Entry) → ((x : X) → begins_turn (g x) ≡ false) → (xs : List X) → list_any begins_turn (map g xs) ≡ false
none_mapped g h [] = refl
none_mapped g h (x ∷ xs) = rw (h x) (none_mapped g h xs)

none_of_both : (xs ys : Book) → list_any begins_turn xs ≡ false → list_any begins_turn ys ≡ false → list_any begins_turn (xs ++ ys) ≡ false
none_of_both xs ys h k = list_any-append begins_turn xs ys ∙ ap (λ (b : Bool). b || list_any begins_turn ys) h ∙ k

opening_begins_none : (n : ℕ) (roster : Terms) → list_any begins_turn (opening_entries n roster) ≡ false
unfolding opening_payments opening_moves opening_trains
opening_begins_none n roster =
    none_of_both (opening_payments n ++ opening_moves roster) (opening_trains roster)
    (none_of_both (opening_payments n) (opening_moves roster) (none_mapped (start_of n) (λ k. refl) (range_with_len 0 n)) (none_mapped (λ c. E.Move c L.Offer) (λ c. refl) (certificates (order_of roster))))
    (none_mapped (λ t. E.Train t L.Offer) (λ t. refl) (flat_map (trains_of roster) kinds))

stands_where_none_began : (book : Book) (o : OnRounds) (p : Progress) → progress book ≡ p → list_any begins_turn book ≡ false → o.progress ≡ p → IsMarketOf [] o.market → IsRoundOf [] o.stock → IsOperationsOf book o
stands_where_none_began book o p h none is k r = record {
  progress = h ∙ sym is;
  market = subst (λ (b : Book). IsMarketOf b o.market) (sym (none_began book none)) k;
  floated = ap (λ (b : Book). (stock.progress b).floated) (none_began book none) ∙ ap (λ (x : Round). x.floated) r;
}

-- nothing but payments has happened when the table has opened, and once its auction has begun
pub stands_opened : (n : ℕ) (roster : Terms) (o : OnRounds) → n ≤ 6 → o.progress ≡ opened n → IsMarketOf [] o.market → IsRoundOf [] o.stock → IsOperationsOf (opening_entries n roster) o
stands_opened n roster o few is k r = stands_where_none_began (opening_entries n roster) o (opened n) (opening_still n roster few) (opening_begins_none n roster) is k r

pub stands_auction : (n : ℕ) (roster : Terms) (names : List (List ℕ)) (o : OnRounds) → n ≤ 6 → o.progress ≡ opened n → IsMarketOf [] o.market → IsRoundOf [] o.stock → IsOperationsOf (opening_entries n roster ++ E.Step (M.Auction names) ∷ []) o
stands_auction n roster names o few is k r =
    let book = opening_entries n roster in
    stands_where_none_began (book ++ E.Step (M.Auction names) ∷ []) o (opened n)
    (progress-push book (E.Step (M.Auction names)) ∙ ap (λ (p : Progress). after book p (E.Step (M.Auction names))) (opening_still n roster few))
    (none_of_both book (E.Step (M.Auction names) ∷ []) (opening_begins_none n roster) refl) is k r
