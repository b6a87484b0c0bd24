use Rattle.std.proofs.Common.{inl, inr, ◌≡◌, ℕ, Result, Err, length, Bool, List, ap, sym, subst, arith}
use Rattle.std.proofs.lemmas.Result.{err_from_is_err_and}
use Rattle.rr_pages.specs.declared.fault.Fault.{Fault}
use Rattle.rr_pages.specs.declared.fault.Fault.TheVariants.{OutOfMemory}
use Rattle.rr_log.specs.Formatting.InTurn.{AreInTurn}
use Rattle.rr_pages.specs.FreePages.{present_of, coming_of}
use Rattle.rr_log.proofs.FormattingLemmas.InTurn.{never_full}
use Rattle.rr_log.proofs.FormattingLemmas.OneChain.{laid_few, laid_in_turn}
use Rattle.rr_pages.specs.Laying.{pages_for}
use Rattle.rr_log.proofs.formatting.text.lay_text.Goals as goal

abbrev wrapped : Fault → Result ℕ Fault
wrapped fault = Err fault

pub returns-in_err-head-clause-memory : goal.returns-in_err-head-clause-memory
returns-in_err-head-clause-memory c =
    let memory : c.in_err-head.field-0.0 ≡ OutOfMemory = elim c.in_err-head.ensures.err [
      | inl full ↦ absurd (never_full (present_of c.args.free.now) (coming_of c.args.free.now) (length c.args.fresh.now.items) (pages_for (length c.args.text.now)) (omega (arith, c.requires.short, c.requires.few)) c.requires.in_turn (c.in_err-head.ensures.full (ap wrapped full)))
      | inr none ↦ none
    ] in
    let p = err_from_is_err_and c.from_residual.result c.from_residual.ensures.1 in
    rw (p.1, p.2) memory

pub returns-clause-in_turn : goal.returns-clause-in_turn
returns-clause-in_turn c =
    subst (λ (marks : List Bool). AreInTurn marks (coming_of c.chain_write.new.free) (length c.chain_write.new.fresh.items)) (sym c.in_ok-head.ensures.present)
    (laid_in_turn (present_of c.args.free.now) (coming_of c.args.free.now) (coming_of c.chain_write.new.free) c.args.text.now c.args.fresh.now.items c.chain_write.new.fresh.items c.in_ok-head.head c.in_ok-head.ensures.laid c.requires.in_turn)

pub returns-clause-few : goal.returns-clause-few
returns-clause-few c = laid_few (present_of c.args.free.now) (coming_of c.args.free.now) (coming_of c.chain_write.new.free) c.args.text.now c.args.fresh.now.items c.chain_write.new.fresh.items c.in_ok-head.head c.in_ok-head.ensures.laid c.requires.short
