use Rattle.rr_code.proofs.TextLemmas.{record-found, record-only}
use Rattle.rr_code.proofs.request.read_record.Goals as goal

pub returns-clause-found : goal.returns-clause-found
returns-clause-found c =
    rw c.ok_or.ensures.value (record-found _ _ _ c.of-words.ensures c.record_from_words.ensures.found)

pub returns-clause-only : goal.returns-clause-only
returns-clause-only c =
    λ table request spelled. rw c.ok_or.ensures.value (record-only _ _ _ c.of-words.ensures c.record_from_words.ensures.exact table request spelled)
