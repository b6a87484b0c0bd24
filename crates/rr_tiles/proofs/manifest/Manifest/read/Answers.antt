use Rattle.std.proofs.Common.{map, ap, ◌∙◌}
use Rattle.std.proofs.lemmas.Result.{err_from_is_err_and}
use Rattle.rr_words.specs.Text.{row_of}
use Rattle.rr_tiles.proofs.ManifestLemmas.{Spells-read, Spells-unique, refused-not_ascii, refused-wrong}
use Rattle.rr_tiles.proofs.manifest.Manifest.read.Goals as goal

pub returns-in_default-clause-read : goal.returns-in_default-clause-read
returns-in_default-clause-read c = refused-not_ascii c.args.text.now (rw c.in_default.is at c.in_ok-lines.ensures.rows)

pub returns-in_err-manifest-clause-read : goal.returns-in_err-manifest-clause-read
returns-in_err-manifest-clause-read c =
    let text = rw c.in-Some.is at c.in_ok-lines.ensures.rows in
    let p = err_from_is_err_and c.from_residual-in_err-manifest.result c.from_residual-in_err-manifest.ensures.1 in
    rw (p.1, p.2) (refused-wrong c.args.text.now (map row_of c.deref.result.now) _ text.0 (ap (map row_of) c.deref.ensures.value ∙ text.1) c.in_err-manifest.ensures)

pub returns-clause-read : goal.returns-clause-read
returns-clause-read c =
    let text = rw c.in-Some.is at c.in_ok-lines.ensures.rows in
    Spells-read c.args.text.now (map row_of c.deref.result.now) c.in_ok-manifest.manifest text.0 (ap (map row_of) c.deref.ensures.value ∙ text.1) c.in_ok-manifest.ensures

pub returns-clause-only : goal.returns-clause-only
returns-clause-only c = λ other second. Spells-unique c.args.text.now c.in_ok-manifest.manifest other (returns-clause-read c) second
