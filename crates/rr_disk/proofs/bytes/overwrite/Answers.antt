use Rattle.std.proofs.Common.{◌≡◌, List, ℕ, length, drop, ◌∙◌, ap, rules}
use Rattle.std.proofs.lemmas.List.{take_at}
use Rattle.rr_disk.specs.Disk.{written}
use Rattle.rr_disk.proofs.ImageLemmas.{written_padded}
use Rattle.rr_disk.proofs.bytes.overwrite.Goals as goal

pub returns-clause-bytes : goal.returns-clause-bytes
returns-clause-bytes c =
    let whole : length c.put.new.file ≡ c.grow.new.file.len = search rules in
    take_at c.put.new.file (drop (length c.put.new.file) c.grow.new.file.items) c.grow.new.file.len whole
    ∙ (c.put.ensures ∙ (ap (λ (file : List ℕ). written file c.args.at c.args.bytes.now) (c.deref_mut.ensures.value ∙ c.grow.ensures.bytes) ∙ written_padded c.args.file.now.items c.args.at c.args.bytes.now))
