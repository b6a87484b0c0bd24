use Rattle.std.proofs.Common.{◌≡◌, List, Some, option_map, ap, sym, ◌∙◌}
use Rattle.std.proofs.lemmas.Result.{err_from_is_err_and}
use Rattle.rr_routes.specs.Sheets.Reading.{cert_words_of}
use Rattle.rr_routes.specs.declared.sheets.word.CertWord.{CertWord}
use Rattle.rr_routes.proofs.SheetsLemmas.CertificateLemmas.{no_form, Spells-tree, refusal}
use Rattle.rr_routes.proofs.sheets.certificate.read_certificate.Goals as goal

pub returns-in_default : goal.returns-in_default
returns-in_default c = no_form c.args.text.now (sym (c.in_ok-words.ensures {u = tt}) ∙ ap (option_map (λ words. words.items)) c.in_default.is)

pub returns-in_err-tree : goal.returns-in_err-tree
returns-in_err-tree c =
    let read : cert_words_of c.args.text.now ≡ Some c.deref.result.now =
    sym (c.in_ok-words.ensures {u = tt}) ∙ ap (option_map (λ words. words.items)) c.in-Some.is ∙ ap (λ (words : List CertWord). Some words) (sym c.deref.ensures.value) in
    let p = err_from_is_err_and c.from_residual-in_err-tree.result c.from_residual-in_err-tree.ensures.1 in
    rw (p.1, p.2) (refusal c.args.text.now c.args.trains c.deref.result.now c.in_err-tree.field-0.0 read (c.in_err-tree.ensures {u = tt}).stopped)

pub returns : goal.returns
returns c =
    let read : cert_words_of c.args.text.now ≡ Some c.deref.result.now =
    sym (c.in_ok-words.ensures {u = tt}) ∙ ap (option_map (λ words. words.items)) c.in-Some.is ∙ ap (λ (words : List CertWord). Some words) (sym c.deref.ensures.value) in
    Spells-tree c.args.text.now c.args.trains c.deref.result.now c.in_ok-tree.tree read (c.in_ok-tree.ensures {u = tt}).tree
