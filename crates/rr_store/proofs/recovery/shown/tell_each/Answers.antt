use Rattle.std.proofs.Common.{◌≡◌, ◌++◌, ◌∷◌, [], List, length, subst, refl, length-append, arith, rules}
use Rattle.std.proofs.lemmas.Bool.{iff_false}
use Rattle.std.proofs.lemmas.Slice.Zip.{zip_end, zip_turn}
use Rattle.std.specs.Iterator.Adapters.{zip_first, zip_second}
use Rattle.std.specs.List.{All}
use Rattle.std.specs.Slice.Iter.{iter_rest}
use Rattle.rr_store.specs.Recovery.Shown.{Shown, SpellsItsGame}
use Rattle.rr_store.proofs.RecoveryLemmas.ShownLemmas.{in_one, in_whole, told_one_more}
use Rattle.rr_store.proofs.recovery.shown.tell_each.Goals as goal

pub loop-entry-preserved : goal.loop-entry-preserved
loop-entry-preserved c =
    let s = c.into_iter-entry-iterator.result in
    let first : iter_rest (zip_first s) ≡ c.args.entries.now = search rules in
    let second : iter_rest (zip_second s) ≡ c.args.chains.now = search rules in
    let so_far = c.loop-entry.yielded in
    let turn = zip_turn c.args.entries.now c.args.chains.now so_far s c.loop-entry.entry-iterator c.next.new.self c.next.result first second c.loop-entry.yielded_by (c.in-Some.entry, c.in-Some.chain) c.in-Some.is c.next.ensures.steps in
    let entry = c.in-Some.entry.now in
    let chain = c.in-Some.chain.now in
    told_one_more c.args.entries.now c.args.chains.now (length so_far) entry chain turn.0 turn.1 (turn.2 entry) (turn.3 chain) (length (so_far ++ (c.in-Some.entry, c.in-Some.chain) ∷ []))
    (omega (arith, length-append so_far ((c.in-Some.entry, c.in-Some.chain) ∷ []))) c.loop-entry.invariant (c.in_ok-told.ensures.told.0 c.if-not-told.false)

pub returns-then-not-told-clause-told : goal.returns-then-not-told-clause-told
returns-then-not-told-clause-told c =
    let s = c.into_iter-entry-iterator.result in
    let first : iter_rest (zip_first s) ≡ c.args.entries.now = search rules in
    let second : iter_rest (zip_second s) ≡ c.args.chains.now = search rules in
    let so_far = c.loop-entry.yielded in
    let turn = zip_turn c.args.entries.now c.args.chains.now so_far s c.loop-entry.entry-iterator c.next.new.self c.next.result first second c.loop-entry.yielded_by (c.in-Some.entry, c.in-Some.chain) c.in-Some.is c.next.ensures.steps in
    let entry = c.in-Some.entry.now in
    let chain = c.in-Some.chain.now in (
      λ is. absurd (cc is),
      λ all.
          absurd (iff_false c.in_ok-told.ensures.told c.if-not-told.true
          (in_one SpellsItsGame c.args.entries.now c.args.chains.now (length so_far) entry chain turn.0 turn.1 (turn.2 entry) (turn.3 chain) all)),
    )

pub returns-clause-told : goal.returns-clause-told
returns-clause-told c =
    let s = c.into_iter-entry-iterator.result in
    let first : iter_rest (zip_first s) ≡ c.args.entries.now = search rules in
    let second : iter_rest (zip_second s) ≡ c.args.chains.now = search rules in
    let so_far = c.loop-entry.yielded in
    let end = zip_end c.args.entries.now c.args.chains.now so_far s c.loop-entry.entry-iterator c.next.new.self c.next.result first second c.loop-entry.yielded_by c.in-None.is c.next.ensures.steps in (
      λ is. subst (λ (l : List Shown). All SpellsItsGame l) (in_whole c.args.entries.now c.args.chains.now (length so_far) end) c.loop-entry.invariant,
      λ all. refl,
    )
