-- The chains of a checkpoint.
use Rattle.std.proofs.Common.{◌≡◌, ℕ, Option, inl, List, [], ◌∷◌, ◌++◌, map, refl, sym, subst, ap}
use Rattle.rr_reading.specs.Dir.Directory.{FitsVersion, IsDirectory}
use Rattle.rr_reading.specs.Dir.Heads.{Heads}
use Rattle.rr_reading.specs.Dir.Version.{version_number}
use Rattle.rr_reading.specs.declared.dir.version.Version.{Version}
use Rattle.rr_images.specs.Holding.{HeldChain, heads_of, texts_of, AreSome}
use Rattle.rr_images.specs.Plans.{Draft, LaidChain, Fresh, laid_as, kept_of, fresh_chains}
use Rattle.rr_images.specs.Plans.{chains_of as drafted}
use Rattle.rr_reading.specs.Held.{TextChains, chains_of}
use Rattle.rr_reading.specs.Worlds.World.{AreShort, AreShown, Snapshot, World, WorldRules}
use Rattle.rr_reading.specs.Worlds.Spelling.{HoldTexts, Spells, all_of, bytes_for, directory_for, drafts_for, table_chains}
use Rattle.rr_reading.specs.Worlds.Laws.{IsCheckpointOf}
use Rattle.rr_reading.proofs.WorldLemmas.ReadBack.{read_back}

-- chains that are laid, and drafts behind them
abbrev laid_first : List LaidChain → List Draft → List Draft
laid_first laid drafts = map (λ (chain : LaidChain). Fresh chain) laid ++ drafts

drafted_first : (laid : List LaidChain) (drafts : List Draft) → drafted (laid_first laid drafts) ≡ map laid_as laid ++ drafted drafts
drafted_first [] drafts = refl
drafted_first (chain ∷ laid) drafts = ap (λ (chains : List HeldChain). laid_as chain ∷ chains) (drafted_first laid drafts)

all_fresh : (laid : List LaidChain) (drafts : List Draft) → fresh_chains (laid_first laid drafts) ≡ laid ++ fresh_chains drafts
all_fresh [] drafts = refl
all_fresh (chain ∷ laid) drafts = ap (λ (chains : List LaidChain). chain ∷ chains) (all_fresh laid drafts)

none_kept : (laid : List LaidChain) (drafts : List Draft) → kept_of (laid_first laid drafts) ≡ kept_of drafts
none_kept [] drafts = refl
none_kept (chain ∷ laid) drafts = none_kept laid drafts

drafted_all : (texts : TextChains) (laid : List LaidChain) (drafts : List Draft) → drafted (drafts_for texts laid drafts) ≡ chains_of texts (all_of (table_chains laid drafts))
drafted_all texts laid drafts = ap (λ (chains : List HeldChain). chains_of texts chains) (drafted_first laid drafts)

pub checkpoints_spell : (rules : WorldRules) (version : Version) (bank : Option ℕ) (texts : TextChains) (laid : List LaidChain) (drafts : List Draft) (world : World) (snapshots : List Snapshot) → HoldTexts texts (table_chains laid drafts) world snapshots → AreShort world.tables
    → AreShown rules world snapshots → FitsVersion version bank → rules.banks world.roster bank → IsDirectory (directory_for bank texts (table_chains laid drafts) world snapshots)
    → IsCheckpointOf rules version texts laid drafts world (bytes_for version bank texts (table_chains laid drafts) world snapshots)
checkpoints_spell rules version bank texts laid drafts world snapshots holds short shown said banked is =
    let chains = table_chains laid drafts in
    let read = read_back rules version bank texts chains world snapshots holds short shown said banked is in
    let all = sym (drafted_all texts laid drafts) in
    let bytes = bytes_for version bank texts chains world snapshots in
    record {
      named = subst (λ (held : List HeldChain). Heads (version_number version) bytes (heads_of held)) all read.named;
      spells = subst (λ (held : List HeldChain). Spells rules (version_number version) bytes (texts_of held) world) all read.spells;
      fresh = all_fresh laid drafts;
      kept = λ olds some.
          inl (refl, inl (refl, inl (refl, inl (refl, subst (λ (held : List HeldChain). AreSome held olds) (sym (none_kept laid drafts)) some))));
    }
