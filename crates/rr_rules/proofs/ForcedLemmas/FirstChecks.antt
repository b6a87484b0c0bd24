-- What a command's row says where the corporation that would need a train has one, or none is on sale.
use Rattle.std.specs.Prelude.{◌≡◌, Bool, true, false, Option, None, Some, refl}
use Rattle.std.proofs.Common.{sym, ◌∙◌, ap, inl, inr}
use Rattle.std.proofs.lemmas.Bool.{false≢true}
use Rattle.rr_roster.specs.declared.company.Corp.{Corp}
use Rattle.rr_books.specs.declared.acts.Act.{Act}
use Rattle.rr_books.specs.declared.acts.Act.TheVariants as A
use Rattle.rr_books.specs.Book.{Book}
use Rattle.rr_kit.specs.declared.kit.Kit.{Kit}
use Rattle.rr_shares.specs.Limits.Holdings.{holdings_of}
use Rattle.rr_market.specs.Operations.Due.{due}
use Rattle.rr_books.specs.declared.refusal.Refusal.{Refusal}
use Rattle.rr_books.specs.declared.refusal.Refusal.TheVariants as F
use Rattle.rr_rules.specs.declared.forced.needs.Need.{Need}
use Rattle.rr_rules.specs.Forced.Needs.{IsNeedOf}
use Rattle.rr_rules.specs.Forced.Rules.{After, IsRowVerdict, could_owe, force_verdict, refused_unless, row_first}
use Rattle.rr_rules.specs.Forced.Sales.{bankrupt_verdict, raise_verdict}

-- such a corporation needs nothing
unowed : (kit : Kit) (book : Book) (buyer : Option Corp) (need : Option Need) → could_owe book buyer ≡ false → IsNeedOf kit book buyer need → need ≡ None
unowed kit book None need e h = h
unowed kit book (Some c) need e (inl h) = h.1
unowed kit book (Some c) need e (inr h) = absurd (false≢true (sym e ∙ h.0.0))

told : (could : Bool) (fault : Refusal) (Next : Option Refusal → Type 0) (verdict : Option Refusal) → (could ≡ false → verdict ≡ Some fault) → Next verdict
    → After (refused_unless could fault) Next verdict
told true fault Next verdict refused h = h
told false fault Next verdict refused h = refused refl

-- the verdict of the row is that of its check that takes no memory, where that one refuses
pub row_told : (kit : Kit) (book : Book) (act : Act) (verdict : Option Refusal) → IsRowVerdict kit book act verdict → After (row_first kit book act) (IsRowVerdict kit book act) verdict
row_told kit book (A.Force c) verdict h =
    told (could_owe book (Some c)) F.WrongStep (IsRowVerdict kit book (A.Force c)) verdict
    (λ e. h.2 ∙ ap (λ (need : Option Need). force_verdict (due kit.chart book) need) (unowed kit book (Some c) h.0 e h.1)) h
row_told kit book (A.Raise s c n) verdict h =
    told (could_owe book (due kit.chart book)) F.NotYourTurn (IsRowVerdict kit book (A.Raise s c n)) verdict
    (λ e. h.2 ∙ ap (λ (need : Option Need). raise_verdict (holdings_of kit.chart book) need s c n) (unowed kit book (due kit.chart book) h.0 e h.1)) h
row_told kit book (A.Bankrupt s) verdict h =
    told (could_owe book (due kit.chart book)) F.NotYourTurn (IsRowVerdict kit book (A.Bankrupt s)) verdict
    (λ e. h.4 ∙ ap (λ (need : Option Need). bankrupt_verdict need s h.1) (unowed kit book (due kit.chart book) h.0 e h.2)) h
row_told kit book _ verdict h = h
