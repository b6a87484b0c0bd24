-- What a lawful command has: the step takes it, it is its corporation's turn, and no train has to be given up first.
use Rattle.std.specs.Prelude.{◌≡◌, ℕ, Bool, true, false, not, ◌&&◌, ◌||◌, List, [], ◌∷◌, Option, None, Some, slice_index_or, if◌then◌else◌, refl}
use Rattle.std.specs.Option.{option_or}
use Rattle.std.proofs.Common.{sym, ◌∙◌, ap}
use Rattle.std.proofs.lemmas.Bool.{eqb-true}
use Rattle.rr_roster.specs.declared.company.Corp.{Corp}
use Rattle.rr_roster.specs.Company.{corp_index}
use Rattle.rr_books.specs.declared.parties.Money.{Money}
use Rattle.rr_books.specs.declared.acts.Act.{Act}
use Rattle.rr_books.specs.Book.{Book, train_holder}
use Rattle.rr_books.specs.Same.{same_corp}
use Rattle.rr_kit.specs.declared.kit.Kit.{Kit}
use Rattle.rr_market.specs.Operations.Turn.{takes}
use Rattle.rr_market.specs.Operations.Progress.{progress}
use Rattle.rr_market.specs.Operations.Due.{due}
use Rattle.rr_trains.specs.Depot.Over.{is_any_over_limit}
use Rattle.rr_books.specs.declared.refusal.Refusal.{Refusal}
use Rattle.rr_books.specs.declared.refusal.Refusal.TheVariants as F
use Rattle.rr_operate.specs.declared.order.Turn.{Turn}
use Rattle.rr_operate.specs.Order.{actor, is_discard, is_due, is_played, order_verdict, revenue_verdict, step_verdict, turn_of, verdict_at}
use Rattle.rr_operate.specs.Rows.{After, IsRowVerdict, IsVerdict, row_first}
use Rattle.rr_operate.specs.TurnLaws.{DiscardsComeFirst, OnlyTheCorporationDue, StepsAreKept}

-- a test that refuses nothing fails, and so do those behind it
passed : (b : Bool) (fault : Refusal) (others : Option Refusal) → (if b then Some fault else others) ≡ None → (b ≡ false) × (others ≡ None)
passed true fault others e = absurd (cc)
passed false fault others e = (refl, e)

first_of : (first second : Option Refusal) → option_or first second ≡ None → (first ≡ None) × (second ≡ None)
first_of None second e = (refl, e)
first_of (Some fault) second e = absurd (cc)

after_none : (first : Option Refusal) (Next : Option Refusal → Type 0) → After first Next None → first ≡ None
after_none None Next h = refl
after_none (Some fault) Next h = absurd (cc)

-- no train has to be given up first, the step takes the command, and the corporation is due
pub record ComesInOrder (turn : Turn) (revenue : Money) (act : Act) : Type 0 where
  pub within : turn.is_over_limit && not (is_discard act) ≡ false
  pub step : step_verdict turn revenue act ≡ None
  pub due : not (is_discard act || is_due turn.due (actor act)) ≡ false

in_order : (turn : Turn) (revenue : Money) (act : Act) → verdict_at turn revenue act ≡ None → ComesInOrder turn revenue act
unfolding verdict_at
in_order turn revenue act e =
    let waits = not (is_discard act || is_due turn.due (actor act)) in
    let last : Option Refusal = if waits then Some F.NotYourTurn else None in
    let one = passed (turn.is_over_limit && not (is_discard act)) F.MustDiscardFirst (option_or (step_verdict turn revenue act) last) e in
    let two = first_of (step_verdict turn revenue act) last one.1 in
    let three = passed waits F.NotYourTurn None two.1 in
    record { within = one.0; step = two.0; due = three.0 }

pub lawful_in_order : (kit : Kit) (book : Book) (revenue : Money) (act : Act) → IsVerdict kit book revenue act None → ComesInOrder (turn_of kit book) revenue act
lawful_in_order kit book revenue act h =
    let order = order_verdict kit book revenue act in
    let first = after_none (option_or order (row_first kit book act)) (IsRowVerdict kit book act) h in
    in_order (turn_of kit book) revenue act ((first_of order (row_first kit book act) first).0)

-- the index tells the corporation
corps : List Corp
corps = Corp.Prr ∷ Corp.Nyc ∷ Corp.Cpr ∷ Corp.Bo ∷ Corp.Co ∷ Corp.Erie ∷ Corp.Nynh ∷ Corp.Bm ∷ []

corp_told : (c : Corp) → slice_index_or corps (corp_index c) Corp.Prr ≡ c
unfolding corps
corp_told Corp.Prr = refl
corp_told Corp.Nyc = refl
corp_told Corp.Cpr = refl
corp_told Corp.Bo = refl
corp_told Corp.Co = refl
corp_told Corp.Erie = refl
corp_told Corp.Nynh = refl
corp_told Corp.Bm = refl

same_is : (c d : Corp) → same_corp c d ≡ true → c ≡ d
same_is c d h = sym (corp_told c) ∙ ap (λ (n : ℕ). slice_index_or corps n Corp.Prr) (eqb-true (corp_index c) (corp_index d) h) ∙ corp_told d

-- the corporation that is due, and the one that acts
both : (d a : Option Corp) → is_due d a ≡ true → (c : Corp) × (d ≡ Some c) × (a ≡ Some c)
both None a e = absurd (cc)
both (Some d) None e = absurd (cc)
both (Some d) (Some a) e = (d, refl, ap (λ (x : Corp). Some x) (sym (same_is d a e)))

acts : (discards due : Bool) → not (discards || due) ≡ false → discards ≡ false → due ≡ true
acts true due e none = absurd (cc)
acts false true e none = refl
acts false false e none = absurd (cc)

pub only_the_corporation_due : OnlyTheCorporationDue
only_the_corporation_due kit book revenue act h kept =
    let lawful = lawful_in_order kit book revenue act h in
    both (due kit.chart book) (actor act) (acts (is_discard act) (is_due (due kit.chart book) (actor act)) lawful.due kept)

discards : (over discard : Bool) → over && not discard ≡ false → over ≡ true → discard ≡ true
discards true true e is_over = refl
discards true false e is_over = absurd (cc)
discards false discard e is_over = absurd (cc)

pub discards_come_first : DiscardsComeFirst
discards_come_first kit book revenue act over h =
    discards (is_any_over_limit (train_holder book)) (is_discard act) ((lawful_in_order kit book revenue act h).within) over

taken : (takes_it played : Bool) → not (takes_it && played) ≡ false → takes_it ≡ true
taken true played e = refl
taken false played e = absurd (cc)

pub steps_are_kept : StepsAreKept
unfolding step_verdict
steps_are_kept kit book revenue act h =
    let lawful = lawful_in_order kit book revenue act h in
    let step = (progress book).step in
    let refused = not (takes step act && is_played act) in
    taken (takes step act) (is_played act) ((passed refused F.WrongStep (revenue_verdict revenue act) lawful.step).0)
