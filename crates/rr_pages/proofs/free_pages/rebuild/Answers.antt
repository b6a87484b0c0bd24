use Rattle.rr_pages.specs.PageSet.{marks_of}
use Rattle.rr_pages.proofs.TakenLemmas.{rebuilt}
use Rattle.rr_pages.proofs.free_pages.rebuild.Goals as goal

pub returns : goal.returns
returns c =
    let reached = c.args.reached.now in
    rebuilt (marks_of c.clear.new.self) (marks_of c.take_front.new.taken) (marks_of reached.set) (marks_of c.union.new.self)
    c.take_front.ensures.whole reached.whole c.clear.ensures.empty c.take_front.ensures.marks c.union.ensures
