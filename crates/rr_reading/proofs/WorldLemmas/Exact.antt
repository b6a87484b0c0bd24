-- A directory and its chains spell one world.
use Rattle.std.proofs.Common.{◌≡◌, ℕ, List, [], ◌∷◌, ◌++◌, length, ap, sym, ◌∙◌, subst, arith}
use Rattle.rr_reading.specs.declared.dir.directory.TableEntry.{TableEntry}
use Rattle.rr_reading.specs.declared.dir.version.Version.{Version}
use Rattle.rr_reading.specs.Dir.Directory.{Directory}
use Rattle.rr_reading.specs.Dir.Directory as dir
use Rattle.rr_reading.proofs.DirLemmas.KeptLemmas.{one_kept}
use Rattle.rr_reading.proofs.DirLemmas.PieceLemmas.{cut_same}
use Rattle.rr_reading.proofs.DirLemmas.TableLemmas.{one_directory, one_heads}
use Rattle.rr_reading.proofs.DirLemmas.VersionLemmas.{one_version}
use Rattle.rr_images.specs.Codec.{IsExact}
use Rattle.rr_images.specs.Holding.{HeldChain, texts_of}
use Rattle.rr_reading.specs.Chains.{AreOfForm}
use Rattle.rr_reading.specs.Held.{TextChains, chains_of}
use Rattle.rr_reading.specs.Reading.{IsDirectory}
use Rattle.rr_reading.specs.Worlds.World.{Table, World, WorldRules}
use Rattle.rr_reading.specs.Worlds.Spelling.{SpellsTable, SpellsTables, Spells, worlds}

one_table : (entry : TableEntry) (text : List ℕ) (first second : Table) → SpellsTable entry text first → SpellsTable entry text second → first ≡ second
one_table entry text first second a b =
    let named : first.name ≡ second.name = sym a.named ∙ b.named in
    let stamped : first.kept.stamp ≡ second.kept.stamp = sym a.stamped ∙ b.stamped in
    let floored : first.kept.floor ≡ second.kept.floor = sym a.floored ∙ b.floored in
    let commands = one_kept text first.kept.commands second.kept.commands a.spelled b.spelled in
    λ i. record { name = named i; kept = record { commands = commands i; floor = floored i; stamp = stamped i } }

one_tables : (entries : List TableEntry) (texts : List (List ℕ)) (first second : List Table) → SpellsTables entries texts first → SpellsTables entries texts second → first ≡ second
one_tables [] texts first second a b = a.1 ∙ sym b.1
one_tables (entry ∷ entries) texts first second a b =
    let same : (a.0 ∷ a.2) ≡ (b.0 ∷ b.2) = sym a.4 ∙ b.4 in
    let text : b.0 ≡ a.0 = cc in
    let more : b.2 ≡ a.2 = cc in
    let table = one_table entry a.0 a.1 b.1 a.6 (subst (λ (t : List ℕ). SpellsTable entry t b.1) text b.6) in
    let tables = one_tables entries a.2 a.3 b.3 a.7 (subst (λ (ts : List (List ℕ)). SpellsTables entries ts b.3) more b.7) in
    a.5 ∙ ((λ i. table i ∷ tables i) ∙ sym b.5)

-- each table has its text
pub counted_texts : (entries : List TableEntry) (texts : List (List ℕ)) (tables : List Table) → SpellsTables entries texts tables → length texts ≡ length entries
counted_texts [] texts tables spells = ap (λ (ts : List (List ℕ)). length ts) spells.0
counted_texts (entry ∷ entries) texts tables spells =
    omega (arith, ap (λ (ts : List (List ℕ)). length ts) spells.4, counted_texts entries spells.2 spells.3 spells.7)

-- so the texts of tables end at one place
one_front : (entries : List TableEntry) (texts others rest more : List (List ℕ)) (tables worlds : List Table) → SpellsTables entries texts tables → SpellsTables entries others worlds → texts ++ rest ≡ others ++ more → texts ≡ others
one_front entries texts others rest more tables worlds a b same =
    (cut_same texts others rest more (counted_texts entries texts tables a ∙ sym (counted_texts entries others worlds b)) same).0

module _ (rules : WorldRules) where
  pub one_world : (number : ℕ) (bytes : List ℕ) (texts : List (List ℕ)) (first second : World) → Spells rules number bytes texts first → Spells rules number bytes texts second → first ≡ second
  one_world number bytes texts first second a b =
      let there : dir.Spells a.version bytes b.directory = subst (λ (v : Version). dir.Spells v bytes b.directory) (one_version b.version a.version (b.numbered ∙ sym a.numbered)) b.spelled in
      let directory = one_directory a.version bytes a.directory b.directory a.spelled there in
      let same : (first.chart ∷ first.roster ∷ first.tiles ∷ first.board ∷ (a.of_tables ++ a.of_snapshots)) ≡ (second.chart ∷ second.roster ∷ second.tiles ∷ second.board ∷ (b.of_tables ++ b.of_snapshots)) = sym a.of_chains ∙ b.of_chains in
      let chart : first.chart ≡ second.chart = cc in
      let roster : first.roster ≡ second.roster = cc in
      let tiles : first.tiles ≡ second.tiles = cc in
      let board : first.board ≡ second.board = cc in
      let others : b.of_tables ++ b.of_snapshots ≡ a.of_tables ++ a.of_snapshots = cc in
      let here : SpellsTables a.directory.tables b.of_tables second.tables = subst (λ (d : Directory). SpellsTables d.tables b.of_tables second.tables) (sym directory) b.tables in
      let of_tables : b.of_tables ≡ a.of_tables = one_front a.directory.tables b.of_tables a.of_tables b.of_snapshots a.of_snapshots second.tables first.tables here a.tables others in
      let goes : SpellsTables a.directory.tables a.of_tables second.tables = subst (λ (ts : List (List ℕ)). SpellsTables a.directory.tables ts second.tables) of_tables here in
      let tables = one_tables a.directory.tables a.of_tables first.tables second.tables a.tables goes in
      λ i. record { chart = chart i; roster = roster i; tiles = tiles i; board = board i; tables = tables i }

  pub are_exact : ((line : List ℕ) (old first second : World) → rules.takes line old first → rules.takes line old second → first ≡ second) → IsExact (worlds rules)
  are_exact one = record { heads = one_heads; spells = one_world; takes = one }

-- no world is spelled where a table's chain isn't of its form
forms_hold : (entries : List TableEntry) (chains : List HeldChain) (of_tables others : List (List ℕ)) (tables : List Table) → texts_of chains ≡ of_tables ++ others → SpellsTables entries of_tables tables → AreOfForm entries chains
forms_hold [] chains of_tables others tables same spells = tt
forms_hold (entry ∷ entries) [] of_tables others tables same spells =
    absurd (omega (arith, ap (λ (ts : List (List ℕ)). length ts) (same ∙ ap (λ (ts : List (List ℕ)). ts ++ others) spells.4)))
forms_hold (entry ∷ entries) (chain ∷ chains) of_tables others tables same spells =
    let all : (chain.text ∷ texts_of chains) ≡ (spells.0 ∷ (spells.2 ++ others)) = same ∙ ap (λ (ts : List (List ℕ)). ts ++ others) spells.4 in
    let text : spells.0 ≡ chain.text = cc in
    let more : texts_of chains ≡ spells.2 ++ others = cc in
    let here = subst (λ (t : List ℕ). SpellsTable entry t spells.1) text spells.6 in (
      (spells.1.kept.commands, here.spelled, sym here.counted),
      forms_hold entries chains spells.2 others spells.3 more spells.7,
    )

pub forms_spelled : (rules : WorldRules) (number : ℕ) (bytes : List ℕ) (directory : Directory) (texts : TextChains) (others : List HeldChain) (world : World) → IsDirectory number bytes directory → Spells rules number bytes (texts_of (chains_of texts others)) world
    → AreOfForm directory.tables others
forms_spelled rules number bytes directory texts others world is spells =
    let there : dir.Spells is.version bytes spells.directory = subst (λ (v : Version). dir.Spells v bytes spells.directory) (one_version spells.version is.version (spells.numbered ∙ sym is.numbered)) spells.spelled in
    let same = one_directory is.version bytes directory spells.directory is.spelled there in
    let behind : texts_of others ≡ spells.of_tables ++ spells.of_snapshots = cc (spells.of_chains) in
    forms_hold directory.tables others spells.of_tables spells.of_snapshots world.tables behind
    (subst (λ (d : Directory). SpellsTables d.tables spells.of_tables world.tables) (sym same) spells.tables)
