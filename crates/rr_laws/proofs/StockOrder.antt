-- Lawful commands of a stock round leave a table in good order, with what follows on them by itself.
use Rattle.std.specs.Prelude.{◌≡◌, ℕ, ◌<◌, ◌≤◌, [], ◌++◌, None}
use Rattle.std.proofs.Common.{sym, subst, ◌∙◌}
use Rattle.rr_books.specs.declared.acts.Act.{Act}
use Rattle.rr_books.specs.Book.{Book}
use Rattle.rr_books.specs.Shares.{privates}
use Rattle.rr_auction.proofs.Dealing.{dealt_by}
use Rattle.rr_kit.specs.declared.kit.Kit.{Kit}
use Rattle.rr_desk.specs.Effects.{in_turn}
use Rattle.rr_desk.specs.Incomes.{pay_incomes}
use Rattle.rr_rounds.specs.Round.{progress}
use Rattle.rr_rules.specs.Playing.{stock_entries}
use Rattle.rr_shares.specs.Sales.{SalesMoveShares}
use Rattle.rr_operate.specs.Sets.Following.{begins_set, goes_on_in_operating_round, goes_on_in_stock_round}
use Rattle.rr_stock.specs.Effects.{entries_of}
use Rattle.rr_stock.specs.PoolLimits.{PoolStaysWithinHalf}
use Rattle.rr_stock.specs.Rules.{verdict}
use Rattle.rr_stock.specs.SoldShares.{LawfulSalesMoveShares}
use Rattle.rr_laws.specs.Soundness.GoodOrder.{IsInGoodOrder}
use Rattle.rr_laws.proofs.Joining.{after_two}
use Rattle.rr_laws.proofs.SoundnessLemmas.Going.{solvent_without_debt}
use Rattle.rr_laws.proofs.SoundnessLemmas.GoodOrder.{order_kept, sum_kept}
use Rattle.rr_laws.proofs.SoundnessLemmas.StockActs.{goes_by_lawful}
use Rattle.rr_laws.proofs.SoundnessLemmas.StockPresidents.{governed_by_command}
use Rattle.rr_laws.proofs.TurnsLemmas.Rounds.{incomes_stay, round_goes_on}
use Rattle.rr_laws.proofs.TurnsLemmas.Turning.{Stays, no_dues, settled, solvent, stays_either, stays_none, stays_two}

-- what the stock rounds promise of the pool, and of sales, and what holds of the shares that any sale moves
pub record StockLaws : Type 0 where
  pub pool : PoolStaysWithinHalf
  pub sales : LawfulSalesMoveShares
  pub shares : SalesMoveShares

-- its own entries
own : StockLaws → (n : ℕ) → 0 < n → n ≤ 6 → (kit : Kit) (book : Book) (act : Act) → verdict kit.chart book act ≡ None
    → IsInGoodOrder n book → IsInGoodOrder n (book ++ entries_of kit.chart book act)
own laws n some few kit book act lawful h =
    let sound = h.sound in
    let es = entries_of kit.chart book act in
    let on = goes_by_lawful n kit.chart book act some lawful sound.solvent in
    record {
      together = sum_kept n book es on.among ∙ h.together;
      sound = record {
        solvent = solvent_without_debt n (book ++ es) on.later;
        dealt = dealt_by n es book on.within sound.dealt;
        pool = laws.pool kit.chart book act lawful sound.pool;
      };
      governed = governed_by_command laws.sales n kit.chart book act some few lawful sound.solvent h.governed;
    }

-- what stays touches nothing
pub in_order : (n : ℕ) (f : Book → Book) (book : Book) → Stays n f → IsInGoodOrder n book → IsInGoodOrder n (book ++ f book)
in_order n f book stays h =
    let sound = h.sound in
    let on = stays no_dues book (settled n book sound.solvent) in
    order_kept n book (f book) on.among on.within (solvent n (book ++ f book) on.later) on.untouched h

-- what follows on it
set_stays : (n : ℕ) (kit : Kit) → Stays n (begins_set kit)
unfolding begins_set
set_stays n kit = stays_two n (pay_incomes kit.roster) (goes_on_in_operating_round kit) (incomes_stay n kit.roster privates) (round_goes_on n kit)

goes_on_stays : (n : ℕ) (kit : Kit) → Stays n (goes_on_in_stock_round kit)
unfolding goes_on_in_stock_round
goes_on_stays n kit o book h = stays_either n (progress book).under_way (in_turn []) (begins_set kit) (stays_none n) (set_stays n kit) o book h

pub order_by_stock : StockLaws → (n : ℕ) → 0 < n → n ≤ 6 → (kit : Kit) (book : Book) (act : Act) → verdict kit.chart book act ≡ None
    → IsInGoodOrder n book → IsInGoodOrder n (book ++ stock_entries kit book act)
order_by_stock laws n some few kit book act lawful h =
    let f = λ (so_far : Book). entries_of kit.chart so_far act in
    let g = goes_on_in_stock_round kit in
    subst (λ (b : Book). IsInGoodOrder n b) (sym (after_two f g book))
    (in_order n g (book ++ f book) (goes_on_stays n kit) (own laws n some few kit book act lawful h))
