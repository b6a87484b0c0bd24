use Rattle.rr_store.specs.Lent.{lent_texts}
use Rattle.rr_store.proofs.Formattings.{format_done, leaves_tables}
use Rattle.rr_store.proofs.formatting.put_texts.Goals as goal

pub returns-clause-allowed : goal.returns-clause-allowed
returns-clause-allowed g c = λ honest.
    format_done c.args.version (lent_texts c.args.texts) (g.D.Disk.state c.args.disk.now) (g.D.Disk.state c.format.new.disk) c.requires.right
    (c.in_ok-format.ensures.each honest (c.requires.nothing (c.in_ok-format.ensures.honest honest)))

pub returns-clause-stops : goal.returns-clause-stops
returns-clause-stops g c = λ honest unused. leaves_tables c.args.version (lent_texts c.args.texts) (c.in_ok-format.ensures.any_moment honest unused)

pub returns-in_err-format-clause-stops : goal.returns-in_err-format-clause-stops
returns-in_err-format-clause-stops g c = λ honest unused. leaves_tables c.args.version (lent_texts c.args.texts) (c.in_err-format.ensures.any_moment honest unused)
