-- The end of the game.
use Rattle.std.specs.Prelude.{◌≡◌, Bool, true, ◌||◌, ◌∷◌, ◌++◌}
use Rattle.std.specs.List.{list_any}
use Rattle.std.proofs.Common.{◌∙◌, ap}
use Rattle.std.proofs.Math.Bool.{or-true}
use Rattle.std.proofs.lemmas.List.Folds.{list_any-append}
use Rattle.rr_books.specs.declared.acts.Act.TheVariants as A
use Rattle.rr_books.specs.declared.entries.Entry.TheVariants as E
use Rattle.rr_books.specs.declared.entries.Marker.TheVariants as M
use Rattle.rr_books.specs.declared.parties.Seat.{Seat}
use Rattle.rr_books.specs.Book.{Book}
use Rattle.rr_market.specs.Operations.OperatingLaws.{BankruptciesAreRemembered, is_bankruptcy}
use Rattle.rr_rules.specs.Judging.{bank_is_broken}
use Rattle.rr_rules.specs.RuleLaws.{BankruptcyEndsTheGame}

pub ends : BankruptciesAreRemembered → BankruptcyEndsTheGame
ends law kit book more s =
    let e = E.Step (M.Act (A.Bankrupt s)) in
    let whole = book ++ e ∷ more in
    ap (λ (b : Bool). b || bank_is_broken kit whole)
    (law whole ∙ list_any-append is_bankruptcy book (e ∷ more) ∙ or-true (list_any is_bankruptcy book))
