use Rattle.std.proofs.Common.{◌⊎◌, ℕ, List, [], inl}
use Rattle.rr_disk.proofs.MomentLemmas.{started}
use Rattle.rr_pages.specs.Choosing.{IsNoStore}
use Rattle.rr_tables.specs.Records.Headline.{KeepsTables}
use Rattle.rr_store.specs.Files.{IsNewStoreOf}
use Rattle.rr_store.specs.Lent.{lent_texts}
use Rattle.rr_store.proofs.formatting.format_of.Goals as goal

pub returns-in_err-bank-clause-stops : goal.returns-in_err-bank-clause-stops
returns-in_err-bank-clause-stops g c = λ honest unused.
    let disk = c.args.disk.now in
    started (g.D.Disk.past disk) (g.D.Disk.state disk) (λ (image : List ℕ). IsNoStore image ⊎ KeepsTables (lent_texts c.args.texts) [] image)
    (λ image is. inl (unused.none image is))

pub returns-in_err-bank-clause-first : goal.returns-in_err-bank-clause-first
returns-in_err-bank-clause-first g c = λ honest unused.
    let disk = c.args.disk.now in
    started (g.D.Disk.past disk) (g.D.Disk.state disk) (λ (image : List ℕ). IsNoStore image ⊎ IsNewStoreOf c.args.version (lent_texts c.args.texts) image)
    (λ image is. inl (unused.none image is))
