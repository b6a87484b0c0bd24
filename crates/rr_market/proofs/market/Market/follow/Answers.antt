use Rattle.std.proofs.Common.{◌≡◌, ◌++◌, [], ◌∷◌, false, refl, sym, subst}
use Rattle.rr_roster.specs.declared.company.Corp.{Corp}
use Rattle.rr_books.specs.declared.entries.Cell.{Cell}
use Rattle.rr_books.specs.declared.entries.Entry.{Entry}
use Rattle.rr_books.specs.declared.entries.Entry.TheVariants as E
use Rattle.rr_market.specs.MarkLaws.{is_mark}
use Rattle.rr_market.specs.State.{IsMarketOf, State, after}
use Rattle.rr_market.specs.StateLaws.{marked, stays}
use Rattle.rr_market.proofs.market.Market.follow.Goals as goal

-- what is no mark of any token is no mark
no_mark : (e : Entry) → ((corp : Corp) (cell : Cell) → e ≡ E.Mark corp cell → ⊥) → is_mark e ≡ false
no_mark (E.Mark corp cell) none = absurd (none corp cell refl)
no_mark (E.Pay from to amount) none = refl
no_mark (E.Move cert to) none = refl
no_mark (E.Lay hex tile turn) none = refl
no_mark (E.Station corp hex centre) none = refl
no_mark (E.Train train to) none = refl
no_mark (E.Best corp sheet certificate) none = refl
no_mark (E.Step marker) none = refl

-- and leaves the tables as they are
nothing_after : (s : State) (e : Entry) → ((corp : Corp) (cell : Cell) → e ≡ E.Mark corp cell → ⊥) → s ≡ after s e
nothing_after s (E.Mark corp cell) none = absurd (none corp cell refl)
nothing_after s (E.Pay from to amount) none = refl
nothing_after s (E.Move cert to) none = refl
nothing_after s (E.Lay hex tile turn) none = refl
nothing_after s (E.Station corp hex centre) none = refl
nothing_after s (E.Train train to) none = refl
nothing_after s (E.Best corp sheet certificate) none = refl
nothing_after s (E.Step marker) none = refl

pub returns-in-Mark-clause-book : goal.returns-in-Mark-clause-book
returns-in-Mark-clause-book c book h =
    subst (λ (e : Entry). IsMarketOf (book ++ e ∷ []) c.mark.new.self) (sym c.in-Mark.is)
    (marked c.args.self.now c.mark.new.self c.in-Mark.corp c.in-Mark.cell book c.mark.ensures.marked h)

pub returns-in_default : goal.returns-in_default
returns-in_default c = record {
  value = nothing_after c.args.self.now c.args.entry.now c.in_default.not-Mark;
  book = λ book h. stays book c.args.entry.now c.args.self.now (no_mark c.args.entry.now c.in_default.not-Mark) h;
}
