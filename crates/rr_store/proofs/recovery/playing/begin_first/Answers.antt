use Rattle.rr_store.proofs.RecoveryLemmas.LentLemmas.{begun_never, begun_worded, lent_short, lent_words}
use Rattle.rr_store.proofs.RecoveryLemmas.PlaysLemmas.{begun_alone}
use Rattle.rr_store.proofs.recovery.playing.begin_first.Goals as goal

pub returns-in-Ok-Some-clause-worded : goal.returns-in-Ok-Some-clause-worded
returns-in-Ok-Some-clause-worded g c =
    begun_worded c.args.kit.now c.in-Ok-Some.words.now (lent_short c.in-Ok-Some.field-0 c.in-Ok-Some.words c.in-Ok-Some.field-0-is c.in-Ok-Some.ensures.short) c.begin.result c.begin.ensures.begun

pub returns-in-Ok-Some-clause-refused : goal.returns-in-Ok-Some-clause-refused
returns-in-Ok-Some-clause-refused g c =
    let file = (g.D.Disk.state c.args.disk.now).content in
    begun_never c.args.kit.now file c.in-Ok-Some.words.now c.args.chains.now c.next.follows.lender-at-none
    (lent_words file c.args.chains.now c.next.follows.lender-at-none c.next.result c.in-Ok-Some.field-0 c.in-Ok-Some.words c.in-Ok-Some.is c.in-Ok-Some.field-0-is c.next.follows.holds-at-none.0)
    c.begin.result c.begin.ensures.refused

pub returns-in-Ok-Some-clause-alone : goal.returns-in-Ok-Some-clause-alone
returns-in-Ok-Some-clause-alone g c = begun_alone c.args.kit.now c.in-Ok-Some.words.now c.begin.result c.begin.ensures.begun
