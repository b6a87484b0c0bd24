-- A directory has as many entries of snapshots as chains of such were read.
use Rattle.std.proofs.Common.{◌≡◌, ℕ, Bool, List, [], ◌∷◌, ◌++◌, length, map, suc, sym, ap, ◌∙◌, arith, length-append}
use Rattle.std.proofs.lemmas.List.{length-map}
use Rattle.rr_images.specs.Following.{AllRead}
use Rattle.rr_images.specs.Holding.{HeldChain}
use Rattle.rr_reading.specs.Dir.Heads.{head_of, heads_of}
use Rattle.rr_reading.specs.declared.dir.directory.SnapshotEntry.{SnapshotEntry}
use Rattle.rr_reading.specs.declared.dir.directory.TableEntry.{TableEntry}
use Rattle.rr_reading.specs.Held.{Held, chains_of}
use Rattle.rr_reading.specs.Reading.{Holds}

-- as many chains are read as heads are named
read_long : (file : List ℕ) (count : ℕ) (before : List Bool) (heads : List (ℕ × ℕ)) (after : List Bool) (chains : List HeldChain) → AllRead file count before heads after chains → length heads ≡ length chains
read_long file count before [] after chains read = sym (ap (λ (cs : List HeldChain). length cs) read.1)
read_long file count before (head ∷ heads) after chains read =
    ap suc (read_long file count read.2 heads after read.1 read.5) ∙ sym (ap (λ (cs : List HeldChain). length cs) read.3)

-- and as many of them are of tables as there are entries of such
pub as_many : (file : List ℕ) (has : Held) → Holds file has → length has.directory.snapshots ≡ length has.snapshots
as_many file has holds =
    let tables = map (λ (entry : TableEntry). head_of entry.chain) has.directory.tables in
    let snapshots = map (λ (entry : SnapshotEntry). head_of entry.chain) has.directory.snapshots in
    let all : length (heads_of has.directory) ≡ length (chains_of has.texts (has.tables ++ has.snapshots)) =
    read_long file has.root.pages holds.chains.of_directory (heads_of has.directory) has.reached (chains_of has.texts (has.tables ++ has.snapshots)) holds.chains.whole in
    omega (
      arith,
      all,
      length-append tables snapshots,
      length-append has.tables has.snapshots,
      length-map has.directory.tables (λ (entry : TableEntry). head_of entry.chain),
      length-map has.directory.snapshots (λ (entry : SnapshotEntry). head_of entry.chain),
      holds.chains.counted,
    )
