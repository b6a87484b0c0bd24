use Rattle.rr_store.proofs.RecoveryLemmas.KeepingLemmas.{next_counted, next_kept, next_never, next_worded}
use Rattle.rr_store.proofs.RecoveryLemmas.LentLemmas.{lent_short, lent_words}
use Rattle.rr_store.proofs.recovery.playing.keep_next.Goals as goal

pub returns-in-Ok-Some-clause-next : goal.returns-in-Ok-Some-clause-next
returns-in-Ok-Some-clause-next g c =
    let file = (g.D.Disk.state c.args.disk.now).content in
    next_kept file c.in-Ok-Some.words.now c.args.chains.now c.next.follows.lender-at-none
    (lent_words file c.args.chains.now c.next.follows.lender-at-none c.next.result c.in-Ok-Some.field-0 c.in-Ok-Some.words c.in-Ok-Some.is c.in-Ok-Some.field-0-is c.next.follows.holds-at-none.0)
    c.args.kept.now.commands c.keep_command.new.kept.commands c.keep_command.result c.keep_command.ensures.kept

pub returns-in-Ok-Some-clause-counted : goal.returns-in-Ok-Some-clause-counted
returns-in-Ok-Some-clause-counted g c = next_counted c.in-Ok-Some.words.now c.args.kept.now.commands c.keep_command.new.kept.commands c.keep_command.result c.keep_command.ensures.kept

pub returns-in-Ok-Some-clause-worded : goal.returns-in-Ok-Some-clause-worded
returns-in-Ok-Some-clause-worded g c =
    next_worded c.in-Ok-Some.words.now c.args.kept.now.commands c.keep_command.new.kept.commands (lent_short c.in-Ok-Some.field-0 c.in-Ok-Some.words c.in-Ok-Some.field-0-is c.in-Ok-Some.ensures.short) c.keep_command.result
    c.keep_command.ensures.kept

pub returns-in-Ok-Some-clause-refused : goal.returns-in-Ok-Some-clause-refused
returns-in-Ok-Some-clause-refused g c =
    let file = (g.D.Disk.state c.args.disk.now).content in
    next_never file c.in-Ok-Some.words.now c.args.chains.now c.next.follows.lender-at-none
    (lent_words file c.args.chains.now c.next.follows.lender-at-none c.next.result c.in-Ok-Some.field-0 c.in-Ok-Some.words c.in-Ok-Some.is c.in-Ok-Some.field-0-is c.next.follows.holds-at-none.0)
    c.args.kept.now.commands c.keep_command.new.kept.commands c.keep_command.result c.keep_command.ensures.refused
