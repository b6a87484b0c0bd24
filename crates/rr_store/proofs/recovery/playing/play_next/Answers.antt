use Rattle.rr_store.proofs.RecoveryLemmas.LentLemmas.{lent_short, lent_words, played_front, played_named, played_never, played_worded}
use Rattle.rr_store.proofs.recovery.playing.play_next.Goals as goal

pub returns-in-Ok-Some-clause-worded : goal.returns-in-Ok-Some-clause-worded
returns-in-Ok-Some-clause-worded g c =
    played_worded c.args.kit.now c.in-Ok-Some.words.now (lent_short c.in-Ok-Some.field-0 c.in-Ok-Some.words c.in-Ok-Some.field-0-is c.in-Ok-Some.ensures.short) c.args.table.now c.play_one.new.table c.play_one.result c.play_one.ensures.played

pub returns-in-Ok-Some-clause-refused : goal.returns-in-Ok-Some-clause-refused
returns-in-Ok-Some-clause-refused g c =
    let file = (g.D.Disk.state c.args.disk.now).content in
    played_never c.args.kit.now file c.in-Ok-Some.words.now c.args.chains.now c.next.follows.lender-at-none
    (lent_words file c.args.chains.now c.next.follows.lender-at-none c.next.result c.in-Ok-Some.field-0 c.in-Ok-Some.words c.in-Ok-Some.is c.in-Ok-Some.field-0-is c.next.follows.holds-at-none.0)
    c.args.table.now c.args.left c.play_one.result c.play_one.ensures.refused

pub returns-in-Ok-Some-clause-named : goal.returns-in-Ok-Some-clause-named
returns-in-Ok-Some-clause-named g c = played_named c.args.kit.now c.in-Ok-Some.words.now c.args.table.now c.play_one.new.table c.play_one.result c.play_one.ensures.played

pub returns-in-Ok-Some-clause-front : goal.returns-in-Ok-Some-clause-front
returns-in-Ok-Some-clause-front g c = played_front c.args.kit.now c.in-Ok-Some.words.now c.args.table.now c.play_one.new.table c.play_one.result c.play_one.ensures.played
