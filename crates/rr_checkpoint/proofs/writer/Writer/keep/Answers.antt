use Rattle.rr_checkpoint.proofs.Writers.{carries_freed}
use Rattle.rr_checkpoint.proofs.writer.Writer.keep.Goals as goal

pub returns-clause-carries : goal.returns-clause-carries
returns-clause-carries g c =
    let writer = c.args.self.now in
    carries_freed g.C.Codec.codec writer.file writer.checkpoint c.keep.new.self c.requires.resting c.keep.ensures.present
