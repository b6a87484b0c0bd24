use Rattle.rr_checkpoint.proofs.writer.Writer.append.Goals as goal

pub returns-in_err-append-clause-stops : goal.returns-in_err-append-clause-stops
returns-in_err-append-clause-stops g c = λ honest old new takes carries. c.in_err-append.ensures.stops honest old new takes c.args.self.now.checkpoint carries

pub returns-clause-stops : goal.returns-clause-stops
returns-clause-stops g c = λ honest old new takes carries. c.in_ok-append.ensures.stops honest old new takes c.args.self.now.checkpoint carries

pub returns-clause-carries : goal.returns-clause-carries
returns-clause-carries g c = λ honest old new takes carries. c.in_ok-append.ensures.carries honest old new takes c.args.self.now.checkpoint carries

pub returns-in_err-append-clause-same_len : goal.returns-in_err-append-clause-same_len
returns-in_err-append-clause-same_len g c = λ honest world carries. c.in_err-append.ensures.same_len honest c.args.self.now.checkpoint world carries

pub returns-clause-same_len : goal.returns-clause-same_len
returns-clause-same_len g c = λ honest world carries. c.in_ok-append.ensures.same_len honest c.args.self.now.checkpoint world carries
