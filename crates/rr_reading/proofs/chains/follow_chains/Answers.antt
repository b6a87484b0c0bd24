use Rattle.std.proofs.Common.{ℕ, ◌+◌, List, sym, ◌∙◌, ap, map, take, get_or, arith, rules}
use Rattle.std.proofs.lemmas.Result.{err_from_is_err_and}
use Rattle.rr_reading.specs.declared.dir.directory.ChainRef.{ChainRef}
use Rattle.rr_reading.specs.Dir.Heads.{head_of}
use Rattle.rr_disk.specs.Disk.{DiskState}
use Rattle.rr_pages.specs.ReachedPages.{marks_of}
use Rattle.rr_reading.specs.Chains.{all_held_in}
use Rattle.rr_reading.proofs.ChainLemmas.{call_more, each_more, fits_more, heads_more, all_heads, least_told}
use Rattle.rr_reading.proofs.chains.follow_chains.Goals as goal

content : DiskState → List ℕ
content state = state.content

pub loop-chain-preserved : goal.loop-chain-preserved
unfolding content
loop-chain-preserved g c =
    let chains = c.args.chains.now in
    let n = c.loop-chain.chain-index in
    let none : ChainRef = record { head = 0; length = 0 } in
    record {
      read = λ honest.
          let before = c.in_ok-followed.ensures.honest honest in
          call_more (g.D.Disk.state c.args.disk.now).content (g.D.Disk.state c.loop-chain.disk).content c.args.count (marks_of c.args.reached.now) (marks_of c.loop-chain.reached) (marks_of c.follow.new.reached)
          (map head_of (take n chains)) (map head_of (take (n + 1) chains)) (head_of (get_or chains n none)) c.loop-chain.following.least c.add.new.self.least c.loop-chain.following.whole.items c.add.new.self.whole.items c.in_ok-followed.followed
          (ap content (c.loop-chain.invariant.same_state before)) (heads_more chains n none (omega (arith, c.loop-chain-test.true))) (c.loop-chain.invariant.read before)
          (c.in_ok-followed.ensures.followed honest) c.in_ok-add.ensures.whole c.in_ok-add.ensures.least;
      each = each_more c.loop-chain.following.least c.add.new.self.least n c.loop-chain.following.whole.items c.add.new.self.whole.items c.in_ok-followed.followed c.loop-chain.invariant.each c.in_ok-add.ensures.whole c.in_ok-add.ensures.least;
      fit = fits_more c.args.count c.loop-chain.following.whole.items c.add.new.self.whole.items c.in_ok-followed.followed c.loop-chain.invariant.fit c.in_ok-followed.ensures.fit c.in_ok-add.ensures.whole;
      honest = search rules;
      same_state = search rules;
      same_past = search rules;
      faults = search rules;
      writes = search rules;
      syncs = search rules;
      works = search rules;
      same_len = search rules;
    }

pub returns-in_err-all-clause-broken : goal.returns-in_err-all-clause-broken
returns-in_err-all-clause-broken g c =
    let p = err_from_is_err_and c.from_residual-in_err-all.result c.from_residual-in_err-all.ensures.1 in
    let last = c.loop-chain in
    let file = (g.D.Disk.state c.args.disk.now).content in
    rw (p.1, p.2) (λ honest.
    least_told file c.args.count (marks_of c.args.reached.now) (marks_of last.reached) (map head_of c.args.chains.now) (all_held_in file last.following.whole.items) last.following.least last.following.whole _
    (all_heads file c.args.count (marks_of c.args.reached.now) (marks_of last.reached) c.args.chains.now last.chain-index last.following.least (all_held_in file last.following.whole.items) (omega (arith, c.loop-chain-test.false)) (last.invariant.read honest))
    (sym c.judge.ensures ∙ c.in_err-all.was))
