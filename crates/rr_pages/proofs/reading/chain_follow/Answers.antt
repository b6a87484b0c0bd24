use Rattle.std.proofs.Common.{List, ◌∙◌, ap}
use Rattle.rr_pages.specs.declared.reading.Link.{Link}
use Rattle.rr_pages.specs.ReachedPages.{marks_of}
use Rattle.rr_pages.specs.Links.{judged}
use Rattle.rr_pages.proofs.Walks.{fit_whole, follow_whole, read_broken}
use Rattle.rr_pages.proofs.reading.chain_follow.Goals as goal

pub returns-in-Some-clause-followed : goal.returns-in-Some-clause-followed
returns-in-Some-clause-followed g c = λ honest.
    let walked = c.in_ok-walked.walked in
    read_broken (g.D.Disk.state c.args.disk.now).content c.args.count (marks_of c.args.reached.now) c.args.head c.args.stated (marks_of c.walk.new.reached) walked.links.items walked.end c.in-Some.damage
    (c.in_ok-walked.ensures.walk honest) (c.in_ok-walked.ensures.links honest)
    (c.in-Some.ensures ∙ ap (λ (ls : List Link). judged ls walked.end c.args.stated) c.deref.ensures.value) c.in_ok-walked.ensures.marks

pub returns-in-None-clause-followed : goal.returns-in-None-clause-followed
returns-in-None-clause-followed g c = λ honest.
    let walked = c.in_ok-walked.walked in
    follow_whole (g.D.Disk.state c.args.disk.now).content c.args.count (marks_of c.args.reached.now) c.args.head c.args.stated (marks_of c.walk.new.reached) walked.links.items walked.end
    (c.in_ok-walked.ensures.walk honest) (c.in_ok-walked.ensures.links honest)
    (c.in-None.ensures ∙ ap (λ (ls : List Link). judged ls walked.end c.args.stated) c.deref.ensures.value) c.in_ok-walked.ensures.marks

pub returns-in-None-clause-fit : goal.returns-in-None-clause-fit
returns-in-None-clause-fit g c =
    let walked = c.in_ok-walked.walked in
    fit_whole c.args.count walked.links.items walked.end c.args.stated c.in_ok-walked.ensures.below
    (c.in-None.ensures ∙ ap (λ (ls : List Link). judged ls walked.end c.args.stated) c.deref.ensures.value)
