use Rattle.rr_checkpoint.proofs.writer.Writer.new.Goals as goal

pub returns-clause-carries : goal.returns-clause-carries
returns-clause-carries g c = λ layout state world tells between.
    record {
      layout = layout;
      holding = layout.holding;
      tells = tells;
      between = between;
      coming = tt;
    }
