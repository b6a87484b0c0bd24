use Rattle.rr_checkpoint.proofs.Writers.{carries_freed}
use Rattle.rr_checkpoint.proofs.writer.Writer.abandon.Goals as goal

pub returns-clause-carries : goal.returns-clause-carries
returns-clause-carries g c =
    let writer = c.args.self.now in
    carries_freed g.C.Codec.codec writer.file writer.checkpoint c.abandon.new.self c.requires c.abandon.ensures.present
