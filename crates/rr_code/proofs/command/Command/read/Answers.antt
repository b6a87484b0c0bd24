use Rattle.rr_code.proofs.TextLemmas.{command-found, command-only, command-read}
use Rattle.rr_code.proofs.command.Command.read.Goals as goal

pub returns-clause-found : goal.returns-clause-found
returns-clause-found c =
    rw c.ok_or.ensures.value (command-found _ _ _ c.of-words.ensures c.from_words.ensures.found)

pub returns-clause-only : goal.returns-clause-only
returns-clause-only c =
    λ command spelled. rw c.ok_or.ensures.value (command-only _ _ _ c.of-words.ensures c.from_words.ensures.exact command spelled)

pub returns-clause-exact : goal.returns-clause-exact
returns-clause-exact c =
    rw c.ok_or.ensures.value (command-read _ _ _ c.of-words.ensures c.from_words.ensures.exact c.from_words.ensures.found)
