use Rattle.rr_serve.proofs.StreamLemmas.{AreSent-written, AreSent-flushes, AreSent-flushed, AreSent-none_failed}
use Rattle.rr_serve.proofs.laws.sending.Goals as goal

pub returns-clause-written : goal.returns-clause-written
returns-clause-written c = AreSent-written

pub returns-clause-flushes : goal.returns-clause-flushes
returns-clause-flushes c = AreSent-flushes

pub returns-clause-flushed : goal.returns-clause-flushed
returns-clause-flushed c = AreSent-flushed

pub returns-clause-none_failed : goal.returns-clause-none_failed
returns-clause-none_failed c = AreSent-none_failed
