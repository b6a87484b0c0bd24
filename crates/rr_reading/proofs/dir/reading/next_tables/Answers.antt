use Rattle.std.proofs.Common.{◌≡◌, ◌∷◌, ◌++◌, [], ◌+◌, sym, subst, true}
use Rattle.std.specs.List.{Any}
use Rattle.rr_reading.specs.declared.dir.directory.TableEntry.{TableEntry}
use Rattle.rr_reading.proofs.DirLemmas.TableLemmas.{ReadsTables, tables_damaged, tables_twice, tables_more, tables_begun, counted_tables}
use Rattle.rr_reading.proofs.dir.reading.next_tables.Goals as goal

pub returns-in_default-next_table-clause-damaged : goal.returns-in_default-next_table-clause-damaged
returns-in_default-next_table-clause-damaged c = λ e all r are same.
    let parts = counted_tables c.args.cursor.now c.in-Some.count c.next_count.new.cursor all r c.in-Some.ensures.0 c.in-Some.ensures.1 are same in
    tables_damaged c.next_count.new.cursor c.loop.tables.items c.loop.counter c.in-Some.count c.loop.cursor c.loop.invariant c.loop-test.true all r are parts.0 parts.1 c.in_default-next_table.ensures

pub returns-then-is_named-clause-damaged : goal.returns-then-is_named-clause-damaged
returns-then-is_named-clause-damaged c = λ e all r are same.
    let parts = counted_tables c.args.cursor.now c.in-Some.count c.next_count.new.cursor all r c.in-Some.ensures.0 c.in-Some.ensures.1 are same in
    let read = c.in-Some-next_table.ensures in
    let named = subst (Any (λ (other : TableEntry). other.name ≡ c.in-Some-next_table.table.name)) c.deref.ensures.value (c.is_named.ensures.0 c.if-is_named.true) in
    tables_twice c.next_count.new.cursor c.loop.tables.items c.loop.counter c.in-Some.count c.loop.cursor c.loop.invariant c.loop-test.true all r are parts.0 parts.1 c.in-Some-next_table.table c.next_table.new.cursor read.0 read.1 named

pub loop-preserved : goal.loop-preserved
loop-preserved c =
    let read = c.in-Some-next_table.ensures in
    let table = c.in-Some-next_table.table in
    let more : ReadsTables c.next_count.new.cursor (c.loop.tables.items ++ table ∷ []) (c.loop.counter + 1) c.next_table.new.cursor =
    tables_more c.next_count.new.cursor c.loop.tables.items c.loop.counter c.loop.cursor table c.next_table.new.cursor c.loop.invariant read.0 read.1
    (λ named. let is : c.is_named.result ≡ true = c.is_named.ensures.1 (subst (Any (λ (other : TableEntry). other.name ≡ table.name)) (sym c.deref.ensures.value) named) in absurd (cc)) in
    rw c.in_ok-push.ensures.items more

pub returns-in_err-push-clause-memory : goal.returns-in_err-push-clause-memory
returns-in_err-push-clause-memory c = λ e.
    let read = c.in-Some-next_table.ensures in
    tables_begun c.args.cursor.now c.next_count.new.cursor c.loop.tables.items c.loop.counter c.in-Some.count c.loop.cursor c.in-Some-next_table.table c.next_table.new.cursor c.in-Some.ensures.0 c.in-Some.ensures.1 c.loop.invariant c.loop-test.true read.0 read.1
