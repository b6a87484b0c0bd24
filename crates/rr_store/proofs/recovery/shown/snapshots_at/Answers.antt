use Rattle.std.proofs.Common.{◌≡◌, ◌++◌, ◌∷◌, [], List, length, subst, ◌∙◌, length-append, arith, rules}
use Rattle.std.proofs.lemmas.Result.{err_from_is_err_and}
use Rattle.std.proofs.lemmas.Slice.Zip.{zip_end, zip_turn}
use Rattle.std.specs.Iterator.Adapters.{zip_first, zip_second}
use Rattle.std.specs.List.{AllZip}
use Rattle.std.specs.Slice.Iter.{iter_rest}
use Rattle.rr_store.specs.Recovery.Shown.{Shown, SpellsItsGame, SpellsTheGame}
use Rattle.rr_store.proofs.RecoveryLemmas.ShownLemmas.{at_one, at_whole, kept_one_more, wrong_so}
use Rattle.rr_store.proofs.recovery.shown.snapshots_at.Goals as goal

pub loop-entry-preserved : goal.loop-entry-preserved
loop-entry-preserved c =
    let s = c.into_iter-entry-iterator.result in
    let first : iter_rest (zip_first s) ≡ c.args.entries.now = search rules in
    let second : iter_rest (zip_second s) ≡ c.args.chains.now = search rules in
    let so_far = c.loop-entry.yielded in
    let turn = zip_turn c.args.entries.now c.args.chains.now so_far s c.loop-entry.entry-iterator c.next.new.self c.next.result first second c.loop-entry.yielded_by (c.in-Some.entry, c.in-Some.chain) c.in-Some.is c.next.ensures.steps in
    let entry = c.in-Some.entry.now in
    let chain = c.in-Some.chain.now in
    record {
      none = c.keep_shown.ensures.commands ∙ c.loop-entry.invariant.none;
      shown = kept_one_more c.args.entries.now c.args.chains.now (length so_far) entry chain turn.0 turn.1 (turn.2 entry) (turn.3 chain) (length (so_far ++ (c.in-Some.entry, c.in-Some.chain) ∷ []))
          (omega (arith, length-append so_far ((c.in-Some.entry, c.in-Some.chain) ∷ []))) c.args.index c.loop-entry.kept.snapshots c.keep_shown.new.kept.snapshots
          c.loop-entry.invariant.shown c.in_ok-keep_shown.ensures.shown;
    }

pub returns-in_err-keep_shown-clause-refused : goal.returns-in_err-keep_shown-clause-refused
returns-in_err-keep_shown-clause-refused c =
    let p = err_from_is_err_and c.from_residual.result c.from_residual.ensures.1 in
    let s = c.into_iter-entry-iterator.result in
    let first : iter_rest (zip_first s) ≡ c.args.entries.now = search rules in
    let second : iter_rest (zip_second s) ≡ c.args.chains.now = search rules in
    let so_far = c.loop-entry.yielded in
    let turn = zip_turn c.args.entries.now c.args.chains.now so_far s c.loop-entry.entry-iterator c.next.new.self c.next.result first second c.loop-entry.yielded_by (c.in-Some.entry, c.in-Some.chain) c.in-Some.is c.next.ensures.steps in
    let entry = c.in-Some.entry.now in
    let chain = c.in-Some.chain.now in
    rw (p.1, p.2)
    (wrong_so _ c.in_err-keep_shown.ensures.refused (at_one SpellsItsGame c.args.index c.args.entries.now c.args.chains.now (length so_far) entry chain turn.0 turn.1 (turn.2 entry) (turn.3 chain)))

pub returns-clause-shown : goal.returns-clause-shown
returns-clause-shown c =
    let s = c.into_iter-entry-iterator.result in
    let first : iter_rest (zip_first s) ≡ c.args.entries.now = search rules in
    let second : iter_rest (zip_second s) ≡ c.args.chains.now = search rules in
    let so_far = c.loop-entry.yielded in
    let end = zip_end c.args.entries.now c.args.chains.now so_far s c.loop-entry.entry-iterator c.next.new.self c.next.result first second c.loop-entry.yielded_by c.in-None.is c.next.ensures.steps in
    subst (λ (l : List Shown). AllZip SpellsTheGame l c.loop-entry.kept.snapshots) (at_whole c.args.index c.args.entries.now c.args.chains.now (length so_far) end) c.loop-entry.invariant.shown
