use Rattle.std.proofs.Common.{◌≡◌, ◌<◌, length, is_some, true, false, arith}
use Rattle.std.proofs.lemmas.Grind.{common_steps}
use Rattle.rr_routes.specs.Sheets.Reading.{cert_words_of}
use Rattle.rr_orders.proofs.SpelledLemmas.{certificate-none, certificate-some}
use Rattle.rr_orders.proofs.texts.CertificateWords.of.Goals as goal

pub returns-then-not-is_certificate-clause-exact : goal.returns-then-not-is_certificate-clause-exact
returns-then-not-is_certificate-clause-exact c =
    let told = c.is_empty.ensures in
    let tested = c.if-is_empty.false in
    let some : 0 < length c.in-Some.text.now = grind (arith, common_steps) in
    let read = c.is_certificate.ensures.read in
    let refused = c.if-not-is_certificate.true in
    let no : is_some (cert_words_of c.in-Some.text.now) ≡ false = grind (arith, common_steps) in
    certificate-none _ _ c.in-Some.is some no

pub returns-clause-exact : goal.returns-clause-exact
returns-clause-exact c =
    let told = c.is_empty.ensures in
    let tested = c.if-is_empty.false in
    let some : 0 < length c.in-Some.text.now = grind (arith, common_steps) in
    let read = c.is_certificate.ensures.read in
    let taken = c.if-not-is_certificate.false in
    let yes : is_some (cert_words_of c.in-Some.text.now) ≡ true = grind (arith, common_steps) in
    certificate-some _ _ c.in-Some.is some yes
