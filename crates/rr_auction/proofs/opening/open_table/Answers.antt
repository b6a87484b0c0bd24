use Rattle.std.proofs.Common.{ℕ, [], ◌∷◌, ◌++◌, sym, subst}
use Rattle.rr_books.specs.declared.entries.Entry.TheVariants as E
use Rattle.rr_books.specs.declared.entries.Marker.TheVariants as M
use Rattle.rr_books.specs.Opening.{opening_entries}
use Rattle.rr_desk.specs.Position.Position.{IsPositionOf}
use Rattle.rr_auction.proofs.opening.open_table.Goals as goal

pub returns : goal.returns
returns c names e =
    let So : ℕ → Type 0 = λ n. IsPositionOf (opening_entries n c.args.roster.now ++ E.Step (M.Auction names) ∷ []) c.open.result in
    subst So (sym e) (c.open.ensures.auction names)
