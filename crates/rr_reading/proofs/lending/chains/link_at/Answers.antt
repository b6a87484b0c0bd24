use Rattle.std.proofs.Common.{◌≡◌, ◌<◌, ◌≤◌, ◌+◌, ◌∷◌, List, drop, length, get_or, ap, ◌∙◌, sym, arith}
use Rattle.std.proofs.lemmas.List.{drop_all, drop_more}
use Rattle.rr_pages.specs.declared.reading.FollowedChain.{FollowedChain}
use Rattle.rr_pages.specs.declared.reading.Link.{Link}
use Rattle.rr_reading.specs.Lending.Fitting.{links_at}
use Rattle.rr_reading.proofs.LendingLemmas.LinkLemmas.{links_past, links_there}
use Rattle.rr_reading.proofs.lending.chains.link_at.Goals as goal

pub returns-then-index-all-clause-link : goal.returns-then-index-all-clause-link
returns-then-index-all-clause-link c =
    let none = links_past c.args.all.now c.args.index (omega (arith, c.if-index-all.true)) in
    drop_all c.args.passed (links_at c.args.all.now c.args.index) (omega (arith, ap length none))

pub returns-then-passed-links-clause-link : goal.returns-then-passed-links-clause-link
returns-then-passed-links-clause-link c =
    let there = links_there c.args.all.now c.args.index c.index-all-index.result (omega (arith, c.if-index-all.false)) c.index-all-index.is in
    let same : c.as_slice-links.result.now ≡ links_at c.args.all.now c.args.index = c.as_slice-links.ensures.value ∙ ap (λ (chain : FollowedChain). chain.links.items) (sym c.index-all-index.is) ∙ sym there in
    drop_all c.args.passed (links_at c.args.all.now c.args.index) (omega (arith, c.if-passed-links.true, ap length same))

pub returns-clause-link : goal.returns-clause-link
returns-clause-link c =
    let there = links_there c.args.all.now c.args.index c.index-all-index.result (omega (arith, c.if-index-all.false)) c.index-all-index.is in
    let same : c.as_slice-links.result.now ≡ links_at c.args.all.now c.args.index = c.as_slice-links.ensures.value ∙ ap (λ (chain : FollowedChain). chain.links.items) (sym c.index-all-index.is) ∙ sym there in
    let blank : Link = record { page = 0; used = 0 } in
    let link : Link = get_or c.as_slice-links.result.now c.args.passed blank in
    ap (drop c.args.passed) (sym same) ∙ drop_more c.as_slice-links.result.now c.args.passed blank (omega (arith, c.if-passed-links.false))
    ∙ ap (λ (ls : List Link). link ∷ drop (c.args.passed + 1) ls) same
