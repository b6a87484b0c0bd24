use Rattle.std.proofs.Common.{ℕ, List, length, refl, ap, inl, inr, arith}
use Rattle.rr_routes.specs.declared.net.Link.{Link}
use Rattle.rr_search.proofs.BestRunLemmas.Told.{best_in_words, large_tree}
use Rattle.rr_search.proofs.best_run.finding.best_over.Goals as goal

pub returns-then-links-gt-MOST_LINKS : goal.returns-then-links-gt-MOST_LINKS
returns-then-links-gt-MOST_LINKS c =
    let count = ap (λ (links : List Link). length links) c.links.ensures in
    let many = c.if-links-gt-MOST_LINKS.true in
    inr (refl, inr (inl (large_tree c.args.net.now (omega (arith, count, many)))))

pub returns : goal.returns
returns c =
    let count = ap (λ (links : List Link). length links) c.links.ensures in
    let few = c.if-links-gt-MOST_LINKS.false in
    let same = ap (λ (bytes : List ℕ). length bytes) c.as_bytes.ensures in
    let fits = c.if-as_bytes-most.false in (
      best_in_words c.args.net.now c.args.corp c.in_ok-sheet.sheet c.in_ok-sheet.tree c.in_ok-run.run' (omega (arith, count, few)) c.requires.trains
          (c.in_ok-sheet.ensures {u = tt}) (c.in_ok-run.ensures {u = tt}),
      omega (arith, same, fits),
    )
