use Rattle.std.proofs.Common.{Option, None, Some, ◌∙◌, refl, ap, sym}
use Rattle.rr_checkpoint.specs.declared.plan.transcript.Transcript.{Transcript}
use Rattle.rr_checkpoint.specs.Plan.Transcript.{snapshots_of}
use Rattle.rr_log.specs.Calls.{tables_due}
use Rattle.rr_log.specs.Lent.{Lent, lent_in, lent_of}
use Rattle.rr_log.specs.Log.{place_of}
use Rattle.rr_log.proofs.Carried.{of_layout, lent_are, base_are, never_full, no_base, is_planned, taken_on}
use Rattle.rr_log.proofs.log.Log.plan.Goals as goal

pub returns-then-has_last_number-clause-carries : goal.returns-then-has_last_number-clause-carries
returns-then-has_last_number-clause-carries g c = λ state world carries. (carries, refl)

pub returns-in_err-transcript-in-None-clause-carries : goal.returns-in_err-transcript-in-None-clause-carries
returns-in_err-transcript-in-None-clause-carries g c = λ state world carries. (carries, refl)

pub returns-in_err-planned-in-Some-clause-carries : goal.returns-in_err-planned-in-Some-clause-carries
returns-in_err-planned-in-Some-clause-carries g c = λ state world carries. taken_on g.R.Rules.rules c.args.self.now state world carries c.requires c.plan_of.new.writer c.plan_of.ensures.only

pub returns-in_err-planned-in-None-clause-carries : goal.returns-in_err-planned-in-None-clause-carries
returns-in_err-planned-in-None-clause-carries g c = λ state world carries. taken_on g.R.Rules.rules c.args.self.now state world carries c.requires c.plan_of-in-None.new.writer c.plan_of-in-None.ensures.only

pub returns-in_ok-planned-in-Some-clause-carries : goal.returns-in_ok-planned-in-Some-clause-carries
returns-in_ok-planned-in-Some-clause-carries g c = λ state world carries. taken_on g.R.Rules.rules c.args.self.now state world carries c.requires c.plan_of.new.writer c.plan_of.ensures.only

pub returns-in_ok-planned-in-None-clause-carries : goal.returns-in_ok-planned-in-None-clause-carries
returns-in_ok-planned-in-None-clause-carries g c = λ state world carries. taken_on g.R.Rules.rules c.args.self.now state world carries c.requires c.plan_of-in-None.new.writer c.plan_of-in-None.ensures.only

pub returns-in_ok-planned-in-Some-clause-plan : goal.returns-in_ok-planned-in-Some-clause-plan
returns-in_ok-planned-in-Some-clause-plan g c = λ state world lent carries.
    let rules = g.R.Rules.rules in
    let log = c.args.self.now in
    let base = c.in-Some.base in
    is_planned rules log state world carries c.requires c.plan_of.new.writer c.plan_of.ensures.only c.in_ok-planned-in-Some.planned (Some base) (lent_of g.T.TablesInWords c.args.tables.now) (snapshots_of base) c.in-Some.is refl
    ((rw c.deref.ensures.value at c.in_ok-planned-in-Some.ensures.plan) state world carries.carried (of_layout rules log state world carries c.requires base (base_are rules log state world carries c.requires base c.in-Some.is)))

pub returns-in_ok-planned-in-None-clause-plan : goal.returns-in_ok-planned-in-None-clause-plan
returns-in_ok-planned-in-None-clause-plan g c = λ state world lent carries.
    let rules = g.R.Rules.rules in
    let log = c.args.self.now in
    let transcript = c.in_ok-transcript-in-None.transcript in
    is_planned rules log state world carries c.requires c.plan_of-in-None.new.writer c.plan_of-in-None.ensures.only c.in_ok-planned-in-None.planned None (lent_of g.T.TablesInWords c.args.tables.now) (snapshots_of transcript) c.in-None.is
    (ap (λ (l : Lent). l.snapshots) (sym c.in_ok-transcript-in-None.ensures.lent))
    ((rw c.deref-in-None.ensures.value at c.in_ok-planned-in-None.ensures.plan) state world carries.carried
    (of_layout rules log state world carries c.requires transcript
    (lent_are rules log state world carries c.requires c.in-None.is (lent_of g.T.TablesInWords c.args.tables.now) lent transcript c.in_ok-transcript-in-None.ensures.lent)))

pub returns-in_ok-planned-in-Some-clause-found : goal.returns-in_ok-planned-in-Some-clause-found
returns-in_ok-planned-in-Some-clause-found g c = λ state world found carries.
    let rules = g.R.Rules.rules in
    let log = c.args.self.now in
    let base = c.in-Some.base in
    is_planned rules log state world carries c.requires c.plan_of.new.writer c.plan_of.ensures.only c.in_ok-planned-in-Some.planned (Some base) (lent_of g.T.TablesInWords c.args.tables.now) (snapshots_of base) c.in-Some.is refl
    ((rw c.deref.ensures.value at c.in_ok-planned-in-Some.ensures.plan) state world carries.carried (of_layout rules log state world carries c.requires base (base_are rules log state world carries c.requires base c.in-Some.is)))

pub returns-in_ok-planned-in-None-clause-found : goal.returns-in_ok-planned-in-None-clause-found
returns-in_ok-planned-in-None-clause-found g c = λ state world found carries.
    let log = c.args.self.now in
    absurd (found (no_base g.R.Rules.rules (place_of log).begun log.base carries.carried.layout.middle (carries.base c.requires) c.in-None.is))

pub returns-in_ok-planned-in-Some-clause-fits : goal.returns-in_ok-planned-in-Some-clause-fits
returns-in_ok-planned-in-Some-clause-fits g c =
    let lent = lent_of g.T.TablesInWords c.args.tables.now in
    never_full c.args.self.now lent (lent_in c.in-Some.base) (ap (λ (base : Option Transcript). tables_due base lent) c.in-Some.is)
    (λ past. let last = c.has_last_number.ensures.1 past in let other = c.if-has_last_number.false in absurd (cc)) (rw c.deref.ensures.value at c.in_ok-planned-in-Some.ensures.fits)

pub returns-in_ok-planned-in-None-clause-fits : goal.returns-in_ok-planned-in-None-clause-fits
returns-in_ok-planned-in-None-clause-fits g c =
    let lent = lent_of g.T.TablesInWords c.args.tables.now in
    never_full c.args.self.now lent (lent_in c.in_ok-transcript-in-None.transcript) (ap (λ (base : Option Transcript). tables_due base lent) c.in-None.is ∙ sym c.in_ok-transcript-in-None.ensures.lent)
    (λ past. let last = c.has_last_number.ensures.1 past in let other = c.if-has_last_number.false in absurd (cc)) (rw c.deref-in-None.ensures.value at c.in_ok-planned-in-None.ensures.fits)
