-- The judgement on a command, from what the rules of each step say, and that there is one.
use Rattle.std.specs.Bool.{Decides, one_answer}
use Rattle.std.specs.Option.{option_or}
use Rattle.std.proofs.Common.{◌≡◌, ◌∙◌, inl, inr, Bool, true, false, Option, None, Some, ap, sym, subst}
use Rattle.rr_books.specs.declared.acts.Act.{Act}
use Rattle.rr_books.specs.declared.acts.Act.TheVariants as A
use Rattle.rr_books.specs.declared.parties.Money.{Money}
use Rattle.rr_books.specs.declared.parties.Seat.{Seat}
use Rattle.rr_books.specs.Book.{Book}
use Rattle.rr_kit.specs.declared.kit.Kit.{Kit}
use Rattle.rr_market.specs.Operations.Due.{due}
use Rattle.rr_market.specs.declared.operations.turn.Stage.{Stage}
use Rattle.rr_market.specs.declared.operations.turn.Stage.TheVariants as G
use Rattle.rr_books.specs.declared.refusal.Refusal.{Refusal}
use Rattle.rr_books.specs.declared.refusal.Refusal.TheVariants as O
use Rattle.rr_operate.specs.Rows as rows
use Rattle.rr_operate.specs.TurnLaws.{OneVerdict}
use Rattle.rr_rules.specs.declared.forced.needs.Need.{Need}
use Rattle.rr_rules.specs.Forced.Needs.{IsNeedOf}
use Rattle.rr_rules.specs.Forced.Rules as force
use Rattle.rr_rules.proofs.ForcedLemmas.FirstChecks.{row_told}
use Rattle.rr_rules.specs.Forced.Sales.{CanRaise, bankrupt_verdict, raise_verdict}
use Rattle.rr_shares.specs.Limits.Holdings.{holdings_of}
use Rattle.rr_roster.specs.declared.company.Corp.{Corp}
use Rattle.rr_turns.specs.Judgement.{HasOneVerdict, IsFirstOrBehind, IsVerdict, Judgement, MayFind, judgement_behind}
use Rattle.rr_turns.proofs.JudgementLemmas.{behind-finds, behind-is, behind-one, check-refuses, first-is-found, settled-one}
use Rattle.rr_rules.specs.Judging.{force_judgement, judgement, judgement_in, name_verdict, operating_judgement, stage, turn_judgement}
use Rattle.rr_rules.specs.State.{GameState}

-- a corporation's turn

turn_is : (first : Option Refusal) (Next : Option Refusal → Type 0) (verdict : Option Refusal) → rows.After first Next verdict → IsFirstOrBehind first Next verdict
turn_is None Next verdict h = h
turn_is (Some fault) Next verdict h = h

turn_verdict : (kit : Kit) (state : GameState) (act : Act) (verdict : Option Refusal) → rows.IsVerdict kit state.book state.revenue act verdict
    → IsVerdict (turn_judgement kit state act) verdict
turn_verdict kit state act verdict h = turn_is (rows.first_verdict kit state.book state.revenue act) (rows.IsRowVerdict kit state.book act) verdict h

turn_found : (kit : Kit) (state : GameState) (act : Act) (fault : Refusal) → rows.MayJudge kit state.book state.revenue act fault
    → MayFind (turn_judgement kit state act) O.OutOfMemory fault
turn_found kit state act fault (inl h) = inl (turn_verdict kit state act (Some fault) h)
turn_found kit state act fault (inr h) = inr h

pub turn_lawful : (kit : Kit) (state : GameState) (act : Act) → rows.IsVerdict kit state.book state.revenue act None
    → IsVerdict (operating_judgement false kit state act) None
turn_lawful kit state act h = turn_verdict kit state act None h

pub turn_refused : (kit : Kit) (state : GameState) (act : Act) (fault : Refusal) → rows.MayJudge kit state.book state.revenue act fault
    → MayFind (operating_judgement false kit state act) O.OutOfMemory fault
turn_refused kit state act fault h = turn_found kit state act fault h

-- the same where the revenue is told in another way
pub turn_refused_at : (kit : Kit) (state : GameState) (revenue : Money) (act : Act) (fault : Refusal) → revenue ≡ state.revenue
    → rows.MayJudge kit state.book revenue act fault → MayFind (operating_judgement false kit state act) O.OutOfMemory fault
turn_refused_at kit state revenue act fault same h =
    let Judged : Money → Type 0 = λ m. rows.MayJudge kit state.book m act fault in
    turn_refused kit state act fault (subst Judged same h)

pub turn_lawful_at : (kit : Kit) (state : GameState) (revenue : Money) (act : Act) → revenue ≡ state.revenue
    → rows.IsVerdict kit state.book revenue act None → IsVerdict (operating_judgement false kit state act) None
turn_lawful_at kit state revenue act same h =
    let Judged : Money → Type 0 = λ m. rows.IsVerdict kit state.book m act None in
    turn_lawful kit state act (subst Judged same h)

-- a corporation that must own a train and can't pay it

force_is : (first : Option Refusal) (Next : Option Refusal → Type 0) (verdict : Option Refusal) → force.After first Next verdict → IsFirstOrBehind first Next verdict
force_is None Next verdict h = h
force_is (Some fault) Next verdict h = h

force_behind : (order row : Option Refusal) (Next : Option Refusal → Type 0) (verdict : Option Refusal) → (Next verdict → IsFirstOrBehind row Next verdict)
    → force.After order Next verdict → IsFirstOrBehind (option_or order row) Next verdict
force_behind None row Next verdict behind h = behind h
force_behind (Some fault) row Next verdict behind h = h

force_verdict : (kit : Kit) (state : GameState) (act : Act) (verdict : Option Refusal) → force.IsVerdict kit state.book act verdict
    → IsVerdict (force_judgement kit state act) verdict
force_verdict kit state act verdict h =
    let row = force.row_first kit state.book act in
    let Row = force.IsRowVerdict kit state.book act in
    force_behind (force.order_verdict kit state.book act) row Row verdict (λ r. force_is row Row verdict (row_told kit state.book act verdict r)) h

force_found : (kit : Kit) (state : GameState) (act : Act) (fault : Refusal) → force.MayJudge kit state.book act fault
    → MayFind (force_judgement kit state act) O.OutOfMemory fault
force_found kit state act fault (inl h) = inl (force_verdict kit state act (Some fault) h)
force_found kit state act fault (inr h) = inr h

pub force_lawful : (kit : Kit) (state : GameState) (act : Act) → force.IsVerdict kit state.book act None
    → IsVerdict (operating_judgement true kit state act) None
force_lawful kit state act h = force_verdict kit state act None h

pub force_refused : (kit : Kit) (state : GameState) (act : Act) (fault : Refusal) → force.MayJudge kit state.book act fault
    → MayFind (operating_judgement true kit state act) O.OutOfMemory fault
force_refused kit state act fault h = force_found kit state act fault h

-- the rules in force, behind the names

pub at_stage : (s : Stage) (kit : Kit) (state : GameState) (act : Act) → stage state.book ≡ s
    → judgement kit state act ≡ judgement_behind (name_verdict kit act) (judgement_in s kit state act)
unfolding judgement
at_stage s kit state act e = ap (λ (g : Stage). judgement_behind (name_verdict kit act) (judgement_in g kit state act)) e

pub unnamed : (kit : Kit) (state : GameState) (act : Act) (fault : Refusal) → name_verdict kit act ≡ Some fault → MayFind (judgement kit state act) O.OutOfMemory fault
unfolding judgement
unnamed kit state act fault h =
    let behind = judgement_in (stage state.book) kit state act in
    first-is-found (judgement_behind (name_verdict kit act) behind) O.OutOfMemory fault (check-refuses (name_verdict kit act) behind fault h)

pub named_lawful : (s : Stage) (kit : Kit) (state : GameState) (act : Act) → stage state.book ≡ s → name_verdict kit act ≡ None
    → IsVerdict (judgement_in s kit state act) None → IsVerdict (judgement kit state act) None
named_lawful s kit state act e named h =
    let P : Judgement Refusal → Type 0 = λ j. IsVerdict j None in
    subst P (sym (at_stage s kit state act e)) (behind-is (name_verdict kit act) (judgement_in s kit state act) None named h)

pub named_refused : (s : Stage) (kit : Kit) (state : GameState) (act : Act) (fault : Refusal) → stage state.book ≡ s → name_verdict kit act ≡ None
    → MayFind (judgement_in s kit state act) O.OutOfMemory fault → MayFind (judgement kit state act) O.OutOfMemory fault
named_refused s kit state act fault e named h =
    let P : Judgement Refusal → Type 0 = λ j. MayFind j O.OutOfMemory fault in
    subst P (sym (at_stage s kit state act e)) (behind-finds (name_verdict kit act) (judgement_in s kit state act) O.OutOfMemory fault named h)

-- each command has one verdict

turn_from : (first : Option Refusal) (Next : Option Refusal → Type 0) (verdict : Option Refusal) → IsFirstOrBehind first Next verdict → rows.After first Next verdict
turn_from None Next verdict h = h
turn_from (Some fault) Next verdict h = h

turn_one : OneVerdict → (kit : Kit) (state : GameState) (act : Act) → HasOneVerdict (turn_judgement kit state act)
turn_one law kit state act a b one other =
    let first = rows.first_verdict kit state.book state.revenue act in
    law kit state.book state.revenue act a b (turn_from first _ a one) (turn_from first _ b other)

need_one : (kit : Kit) (book : Book) (buyer : Option Corp) (a b : Option Need) → IsNeedOf kit book buyer a → IsNeedOf kit book buyer b → a ≡ b
need_one kit book None a b one other = one ∙ sym other
need_one kit book (Some c) a b (inl one) (inl other) = one.1 ∙ sym other.1
need_one kit book (Some c) a b (inl one) (inr other) = absurd (one.0 other.0)
need_one kit book (Some c) a b (inr one) (inl other) = absurd (other.0 one.0)
need_one kit book (Some c) a b (inr one) (inr other) = one.1 ∙ sym other.1

bankrupt_one : (kit : Kit) (book : Book) (s : Seat) (a b : Option Refusal) → force.IsBankruptVerdict kit book s a → force.IsBankruptVerdict kit book s b → a ≡ b
bankrupt_one kit book s a b one other =
    let same = need_one kit book (due kit.chart book) one.0 other.0 one.2 other.2 in
    let Raises : Option Need → Type 0 = λ need. Decides other.1 (CanRaise (holdings_of kit.chart book) need s) in
    let raises = one_answer one.1 other.1 one.3 (subst Raises (sym same) other.3) in
    one.4
    ∙ ap (λ (need : Option Need). bankrupt_verdict need s one.1) same
    ∙ ap (λ (b : Bool). bankrupt_verdict other.0 s b) raises
    ∙ sym other.4

forced_behind_one : (kit : Kit) (book : Book) (act : Act) (a b : Option Refusal) → force.IsRowVerdict kit book act a → force.IsRowVerdict kit book act b → a ≡ b
forced_behind_one kit book (A.Force c) a b one other =
    one.2 ∙ ap (force.force_verdict (due kit.chart book)) (need_one kit book (Some c) one.0 other.0 one.1 other.1) ∙ sym other.2
forced_behind_one kit book (A.Raise s c n) a b one other =
    one.2
    ∙ ap (λ (need : Option Need). raise_verdict (holdings_of kit.chart book) need s c n) (need_one kit book (due kit.chart book) one.0 other.0 one.1 other.1)
    ∙ sym other.2
forced_behind_one kit book (A.Bankrupt s) a b one other = bankrupt_one kit book s a b one other
forced_behind_one kit book _ a b one other = one ∙ sym other

one_of : {F : Type 0} (first : Option F) (Behind : Option F → Type 0) → ((a b : Option F) → Behind a → Behind b → a ≡ b)
    → (a b : Option F) → IsFirstOrBehind first Behind a → IsFirstOrBehind first Behind b → a ≡ b
one_of None Behind same a b one other = same a b one other
one_of (Some fault) Behind same a b one other = one ∙ sym other

force_one : (kit : Kit) (state : GameState) (act : Act) → HasOneVerdict (force_judgement kit state act)
force_one kit state act a b one other =
    one_of (force.first_verdict kit state.book act) (force.IsRowVerdict kit state.book act) (forced_behind_one kit state.book act) a b one other

operating_one : OneVerdict → (forced : Bool) (kit : Kit) (state : GameState) (act : Act) → HasOneVerdict (operating_judgement forced kit state act)
operating_one law true kit state act = force_one kit state act
operating_one law false kit state act = turn_one law kit state act

stage_one : OneVerdict → (s : Stage) (kit : Kit) (state : GameState) (act : Act) → HasOneVerdict (judgement_in s kit state act)
stage_one law G.Auction kit state act = settled-one _
stage_one law G.Stock kit state act = settled-one _
stage_one law G.Operating kit state act = operating_one law (force.is_forced act) kit state act

pub act_one : OneVerdict → (kit : Kit) (state : GameState) (act : Act) → HasOneVerdict (judgement kit state act)
unfolding judgement
act_one law kit state act = behind-one (name_verdict kit act) (judgement_in (stage state.book) kit state act) (stage_one law (stage state.book) kit state act)
