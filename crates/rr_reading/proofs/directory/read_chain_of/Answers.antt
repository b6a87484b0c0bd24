use Rattle.std.proofs.Common.{ℕ, List, ap, ◌∙◌}
use Rattle.std.proofs.lemmas.Result.{err_from_is_err_and}
use Rattle.rr_disk.specs.Disk.{DiskState}
use Rattle.rr_pages.specs.ReachedPages.{marks_of}
use Rattle.rr_reading.specs.Chains.{held_in}
use Rattle.rr_reading.proofs.Told.{directory_read, directory_told, no_verdict_told}
use Rattle.rr_reading.proofs.directory.read_chain_of.Goals as goal

content : DiskState → List ℕ
content state = state.content

pub returns-in_err-chain-clause-refused : goal.returns-in_err-chain-clause-refused
returns-in_err-chain-clause-refused g c =
    let p = err_from_is_err_and c.from_residual-in_err-chain.result c.from_residual-in_err-chain.ensures.1 in
    rw (p.1, p.2) (λ honest side taken.
    directory_told (g.D.Disk.state c.args.disk.now).content side c.args.root.now taken c.page_count.result c.page_count.ensures.same
    (marks_of c.in_ok-reached.reached) (marks_of c.chain_follow.new.reached) _
    (record { empty = c.in_ok-reached.ensures.empty; whole = c.in_ok-reached.ensures.whole })
    (c.in_err-chain.ensures.followed honest))

pub returns-in_err-reached-clause-refused : goal.returns-in_err-reached-clause-refused
returns-in_err-reached-clause-refused g c =
    let p = err_from_is_err_and c.from_residual.result c.from_residual.ensures.1 in
    rw (p.1, p.2) (λ honest side taken. (side, c.args.root.now, taken))

pub returns-in_err-read-clause-refused : goal.returns-in_err-read-clause-refused
returns-in_err-read-clause-refused g c =
    let p = err_from_is_err_and c.from_residual-in_err-read.result c.from_residual-in_err-read.ensures.1 in
    rw (p.1, p.2) (λ honest side taken.
    no_verdict_told (g.D.Disk.state c.args.disk.now).content _ c.in_err-read.ensures.only (side, c.args.root.now, taken))

pub returns-clause-found : goal.returns-clause-found
returns-clause-found g c = λ honest side taken.
    let first = c.in_ok-read.ensures.honest honest in
    directory_read (g.D.Disk.state c.args.disk.now).content side c.args.root.now taken c.page_count.result c.page_count.ensures.same
    (marks_of c.in_ok-reached.reached) (marks_of c.chain_follow.new.reached) c.in_ok-chain.chain.links.items
    (record { empty = c.in_ok-reached.ensures.empty; whole = c.in_ok-reached.ensures.whole })
    (c.in_ok-chain.ensures.followed first)

pub returns-clause-bytes : goal.returns-clause-bytes
unfolding content
returns-clause-bytes g c = λ honest.
    let first = c.in_ok-read.ensures.honest honest in
    c.in_ok-read.ensures.text honest ∙ ap (λ (file : List ℕ). held_in file c.in_ok-chain.chain) (ap content (c.in_ok-chain.ensures.same_state first))
