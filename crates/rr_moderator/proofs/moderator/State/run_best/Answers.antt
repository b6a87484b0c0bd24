use Rattle.std.proofs.Common.{ℕ, List, refl, sym, subst}
use Rattle.std.proofs.lemmas.Result.{err_from_is_err_and}
use Rattle.rr_orders.specs.Order.{SpellsOrder}
use Rattle.rr_orders.specs.declared.order.Order.TheVariants.{RunBest}
use Rattle.rr_moderator.specs.Choosing.{Stays}
use Rattle.rr_moderator.proofs.ServingLemmas.{best_goes_on}
use Rattle.rr_moderator.proofs.moderator.State.run_best.Goals as goal

pub returns-in_err-run-clause-committed : goal.returns-in_err-run-clause-committed
returns-in_err-run-clause-committed g c =
    let p = err_from_is_err_and c.from_residual.result c.from_residual.ensures.1 in
    rw (p.1, p.2) (Stays _ c.in_err-run.ensures.calm c.in_err-run.ensures.found refl)

pub unwrap-order-requires : goal.unwrap-order-requires
unwrap-order-requires g c =
    let run = c.in_ok-run.run' in
    let P : List ℕ → Type 0 = λ words. SpellsOrder words (RunBest c.args.corp run.sheet run.certificate) in
    let read = c.read.ensures.only (RunBest c.args.corp run.sheet run.certificate) (subst P (sym c.as_bytes.ensures) c.in_ok-run.ensures.words) in
    rw read refl

pub commit-requires-clause-short : goal.commit-requires-clause-short
commit-requires-clause-short g c = rw c.sheet.ensures c.in_ok-run.ensures.short

pub returns-clause-played : goal.returns-clause-played
returns-clause-played g c = c.commit.ensures.1.played

pub returns-clause-committed : goal.returns-clause-committed
returns-clause-committed g c =
    let run = c.in_ok-run.run' in
    let P : List ℕ → Type 0 = λ words. SpellsOrder words (RunBest c.args.corp run.sheet run.certificate) in
    let read = c.read.ensures.only (RunBest c.args.corp run.sheet run.certificate) (subst P (sym c.as_bytes.ensures) c.in_ok-run.ensures.words) in
    best_goes_on g.D.Disk.Honest g.D.Disk.Works g.D.Disk.state g.D.Disk.past g.D.Disk.fault_count g.D.Disk.write_count g.D.Disk.sync_count
    c.args.self.now.store c.args.table.now c.args.stamp c.args.corp c.commit.new.self.store c.read.result c.unwrap-order.result run.sheet run.certificate c.sheet.result.now _
    c.unwrap-order.ensures read c.sheet.ensures c.in_ok-run.ensures.found c.commit.ensures
