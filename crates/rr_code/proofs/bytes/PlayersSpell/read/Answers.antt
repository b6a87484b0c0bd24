use Rattle.std.proofs.Common.{◌≡◌, ◌-◌, false, [], ◌∷◌, ◌++◌, length, take, refl, arith, subst, ◌∙◌, ℕ}
use Rattle.std.proofs.lemmas.Bool.Decides.{nat_tests}
use Rattle.rr_code.specs.Players.{all_different, length-take-filled}
use Rattle.rr_code.proofs.ByteLemmas.{front_more, next_name, no_players}
use Rattle.rr_code.proofs.PlayersLemmas.{IsReadSoFar-more}
use Rattle.rr_code.proofs.bytes.PlayersSpell.read.Goals as goal

pub returns-in_err-first : goal.returns-in_err-first
returns-in_err-first c =
    rw c.from_residual-in_err-first.ensures (λ names rest are same.
    let next = next_name [] names c.in_ok-u8.field-0 c.args.cursor.now c.u8.new.self rest refl are (omega arith) c.in_ok-u8.ensures same in
    c.in_err-first.ensures next.0 next.1 next.2 next.3)

pub returns-in_err-names : goal.returns-in_err-names
returns-in_err-names c =
    rw c.from_residual-in_err-names.ensures (λ names rest are same.
    let so_far = c.loop-index.invariant in
    let next = next_name (take c.loop-index.index c.loop-index.names) names c.from-count.result c.args.cursor.now c.loop-index.cursor rest so_far.players are
    (omega (arith, length-take-filled c.loop-index.index c.loop-index.names so_far.room, c.loop-index-test.true)) so_far.front same in
    c.in_err-names.ensures next.0 next.1 next.2 next.3)

pub loop-index-preserved : goal.loop-index-preserved
loop-index-preserved c =
    let so_far = c.loop-index.invariant in
    let names = c.loop-index.names in
    let name = c.in_ok-names.field-0 in
    let read = c.in_ok-names.ensures in
    let more = IsReadSoFar-more (take c.loop-index.index names ++ name ∷ []) c.loop-index.index names (name ∷ []) name name [] (record { room = so_far.room; players = so_far.players; so_far = refl }) refl refl read.0 (omega arith) in
    record {
      room = more.room;
      players = more.players;
      front = front_more c.from-count.result c.loop-index.index names name c.args.cursor.now c.loop-index.cursor c.read_name-in-loop-index.new.cursor (omega arith) so_far.front read.1;
    }

pub returns-then-not-all_different : goal.returns-then-not-all_different
returns-then-not-all_different c = λ names rest are same.
    let so_far = c.loop-index.invariant in
    let index = c.loop-index.index in
    let end : c.from-count.result - 0 ≡ index = omega (arith, c.loop-index-test.false, c.loop-index.auto.index-end) in
    let some : all_different (take (c.from-count.result - 0) c.loop-index.names) ≡ false = grind (arith, nat_tests, c.all_different.ensures, c.if-not-all_different.true) in
    let equal : all_different (take index c.loop-index.names) ≡ false = subst (λ (n : ℕ). all_different (take n c.loop-index.names) ≡ false) end some in
    let all : length (take index c.loop-index.names) ≡ c.from-count.result = omega (arith, length-take-filled index c.loop-index.names so_far.room, end) in
    no_players (take index c.loop-index.names) names c.from-count.result c.args.cursor.now c.loop-index.cursor rest all equal are so_far.front same
