use Rattle.rr_pages.specs.ReachedPages.{marks_of}
use Rattle.rr_reading.proofs.ChainLemmas.{call_followed}
use Rattle.rr_reading.proofs.chains.follow.Goals as goal

pub returns-in-Ok-clause-followed : goal.returns-in-Ok-clause-followed
returns-in-Ok-clause-followed g c = λ honest.
    call_followed (g.D.Disk.state c.args.disk.now).content c.args.count (marks_of c.args.reached.now) (marks_of c.chain_follow.new.reached) c.args.chain.head c.args.chain.length c.in-Ok.followed (c.in-Ok.ensures.followed honest)
