use Rattle.std.proofs.Common.{◌≡◌, List, ◌++◌, map, ap, ◌∙◌, append_assoc}
use Rattle.rr_reading.specs.declared.dir.directory.ChainRef.{ChainRef}
use Rattle.rr_reading.specs.declared.dir.directory.SnapshotEntry.{SnapshotEntry}
use Rattle.rr_reading.specs.declared.dir.directory.TableEntry.{TableEntry}
use Rattle.rr_reading.specs.Dir.Heads.{head_of}
use Rattle.rr_reading.proofs.named.named_chains.Goals as goal

-- the texts' chains, those of the tables behind them, and then those of the snapshots
in_turn : (texts with_tables all : List ChainRef) (given tables : List TableEntry) (lent snapshots : List SnapshotEntry) → given ≡ tables → lent ≡ snapshots
    → map head_of with_tables ≡ map head_of texts ++ map (λ (table : TableEntry). head_of table.chain) given
    → map head_of all ≡ map head_of with_tables ++ map (λ (snapshot : SnapshotEntry). head_of snapshot.chain) lent
    → map head_of all ≡ map head_of texts ++ (map (λ (table : TableEntry). head_of table.chain) tables ++ map (λ (snapshot : SnapshotEntry). head_of snapshot.chain) snapshots)
in_turn texts with_tables all given tables lent snapshots same_tables same_snapshots first then =
    then ∙ (λ i. (first ∙ ap (λ (ts : List TableEntry). map head_of texts ++ map (λ (table : TableEntry). head_of table.chain) ts) same_tables) i ++ map (λ (snapshot : SnapshotEntry). head_of snapshot.chain) (same_snapshots i))
    ∙ append_assoc (map head_of texts) (map (λ (table : TableEntry). head_of table.chain) tables) (map (λ (snapshot : SnapshotEntry). head_of snapshot.chain) snapshots)

pub returns-clause-heads : goal.returns-clause-heads
returns-clause-heads c =
    let dir = c.args.dir.now in
    in_turn c.in_ok-chains.chains.items c.add_tables.new.chains.items c.add_snapshots.new.chains.items c.deref.result.now dir.tables.items c.deref-2.result.now dir.snapshots.items c.deref.ensures.value c.deref-2.ensures.value
    c.in_ok-add_tables.ensures.heads c.in_ok-add_snapshots.ensures.heads
    ∙ ap (λ (cs : List ChainRef). map head_of cs ++ (map (λ (table : TableEntry). head_of table.chain) dir.tables.items ++ map (λ (snapshot : SnapshotEntry). head_of snapshot.chain) dir.snapshots.items)) c.in_ok-chains.ensures.items
