use Rattle.std.proofs.Common.{◌≡◌, ℕ, List, Err, ap, ◌∙◌, subst}
use Rattle.std.proofs.lemmas.Result.{err_from_is_err_and}
use Rattle.rr_pages.specs.declared.reading.Link.{Link}
use Rattle.rr_pages.specs.Faults.{OnDeviceFault as OnPagesFault}
use Rattle.rr_pages.specs.Links.{EndsPast, Gathers, pages_of}
use Rattle.rr_reading.specs.Lending.Pages.{joined}
use Rattle.rr_reading.proofs.LendingLemmas.LinkLemmas.{gathers_are, read_past}
use Rattle.rr_reading.proofs.texts.read_text.Goals as goal

pub returns-clause-text : goal.returns-clause-text
returns-clause-text g c = λ honest.
    let file = (g.D.Disk.state c.args.disk.now).content in
    let pages = c.in_ok-read.ensures.pages ∙ ap pages_of c.deref.ensures.value in
    let bytes = gathers_are file c.deref.result.now c.in_ok-read.read.bytes.items (c.in_ok-read.ensures.bytes honest) ∙ ap (joined file) c.deref.ensures.value in
    λ i. record { pages = pages i; text = bytes i }

pub returns-in_err-read-clause-device : goal.returns-in_err-read-clause-device
returns-in_err-read-clause-device g c = λ count fit.
    let told = err_from_is_err_and c.from_residual.result c.from_residual.ensures.1 in
    let links = c.args.text.now.links.items in
    read_past (g.D.Disk.Works c.read_pieces.new.disk) c.from_residual.result c.in_err-read.field-0.0 (g.D.Disk.file_len c.args.disk.now) count links (told.1 ∙ ap (λ f. Err f) told.2)
    (subst (λ (ls : List Link). OnPagesFault {T = Unit {0}} (Err c.in_err-read.field-0.0) (g.D.Disk.Works c.read_pieces.new.disk → EndsPast (g.D.Disk.file_len c.args.disk.now) ls)) c.deref.ensures.value c.in_err-read.ensures.device) fit
