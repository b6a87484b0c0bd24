use Rattle.rr_cli.proofs.RunningLemmas.{tells_text}
use Rattle.rr_cli.proofs.running.refuse_words.Goals as goal

pub returns-clause-told : goal.returns-clause-told
returns-clause-told g c =
    tells_text c.send.result _ _ _ _ c.as_bytes.ensures.value c.send.ensures.ok c.send.ensures.err
