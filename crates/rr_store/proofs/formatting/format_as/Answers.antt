use Rattle.std.proofs.Common.{◌⊎◌, ℕ, List, [], inl, sym, subst, ◌∙◌, Ok}
use Rattle.std.proofs.lemmas.Result.{err_from_is_err_and}
use Rattle.rr_disk.proofs.MomentLemmas.{started}
use Rattle.rr_disk.specs.Moments.{LeavesOnly}
use Rattle.rr_pages.specs.Choosing.{IsNoStore}
use Rattle.rr_reading.specs.declared.dir.version.Version.{Version}
use Rattle.rr_reading.proofs.DirLemmas.VersionLemmas.{one_version}
use Rattle.rr_tables.specs.Records.Headline.{KeepsTables}
use Rattle.rr_store.specs.Allowing.{FormatAllowsAs}
use Rattle.rr_store.specs.Files.{IsNewStoreOf}
use Rattle.rr_store.specs.Lent.{lent_texts}
use Rattle.rr_store.proofs.Formattings.{refused_of}
use Rattle.rr_store.proofs.formatting.format_as.Goals as goal

pub returns-in_default-clause-stops : goal.returns-in_default-clause-stops
returns-in_default-clause-stops g c = λ honest unused.
    let disk = c.args.disk.now in
    started (g.D.Disk.past disk) (g.D.Disk.state disk) (λ (image : List ℕ). IsNoStore image ⊎ KeepsTables (lent_texts c.args.texts) [] image)
    (λ image is. inl (unused.none image is))

pub returns-clause-allowed : goal.returns-clause-allowed
returns-clause-allowed g c = λ honest of numbered.
    subst (λ (v : Version). FormatAllowsAs v (lent_texts c.args.texts) (g.D.Disk.state c.args.disk.now) (g.D.Disk.state c.format_of.new.disk) (Ok tt))
    (one_version c.in-Some.version of (c.in-Some.ensures ∙ sym numbered)) (c.in_ok-format_of.ensures.allowed honest)

pub returns-clause-first : goal.returns-clause-first
returns-clause-first g c = λ honest unused of numbered.
    let before = c.args.disk.now in
    let after = c.format_of.new.disk in
    subst (λ (v : Version). LeavesOnly (g.D.Disk.past before) (g.D.Disk.state before) (g.D.Disk.past after) (g.D.Disk.state after) (λ image. IsNoStore image ⊎ IsNewStoreOf v (lent_texts c.args.texts) image))
    (one_version c.in-Some.version of (c.in-Some.ensures ∙ sym numbered)) (c.in_ok-format_of.ensures.first honest unused)

pub returns-in_err-format_of-clause-refused : goal.returns-in_err-format_of-clause-refused
returns-in_err-format_of-clause-refused g c =
    let p = err_from_is_err_and c.from_residual.result c.from_residual.ensures.1 in
    rw (p.1, p.2) (λ of numbered. refused_of c.in-Some.version of _ _ _ _ (c.in-Some.ensures ∙ sym numbered) c.in_err-format_of.ensures.refused)
