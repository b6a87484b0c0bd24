-- A file has one answer: each step of a reading leads on in one way, or ends in one.
use Rattle.std.proofs.Common.{◌≡◌, inl, inr, ℕ, ◌+◌, Bool, false, List, [], ◌∷◌, ◌++◌, length, Option, None, Some, sym, ap, ◌∙◌, subst}
use Rattle.std.proofs.lemmas.List.{ext_get_or}
use Rattle.rr_reading.specs.declared.dir.version.Version.{Version}
use Rattle.rr_reading.specs.Dir.Directory.{Directory, Spells}
use Rattle.rr_reading.specs.Dir.Heads.{heads_of}
use Rattle.rr_reading.proofs.DirLemmas.PieceLemmas.{cut_same}
use Rattle.rr_reading.proofs.DirLemmas.TableLemmas.{one_directory}
use Rattle.rr_images.specs.Following.{AllRead}
use Rattle.rr_images.specs.Holding.{HeldChain}
use Rattle.rr_images.proofs.OneWorld.{one_chain}
use Rattle.rr_pages.specs.Journal.Run.{Run}
use Rattle.rr_pages.proofs.JournalLemmas.Runs.{one_run}
use Rattle.rr_pages.specs.declared.fault.Damage.{Damage}
use Rattle.rr_pages.specs.declared.root.Root.{Root}
use Rattle.rr_pages.specs.Chains.{next_of}
use Rattle.rr_pages.specs.Pages.{AreData}
use Rattle.rr_pages.specs.Reading.{IsWhole, IsBroken}
use Rattle.rr_pages.specs.Sets.{all_marked, marked}
use Rattle.rr_pages.specs.Walk.{Walk, damage_of}
use Rattle.rr_pages.proofs.ChoosingLemmas.{one_taken}
use Rattle.rr_pages.proofs.Walks.{walk_only}
use Rattle.rr_pages.specs.Journal.Layout.{other_half}
use Rattle.rr_reading.specs.Chains.{FoundChain, AllFollowed}
use Rattle.rr_reading.specs.Held.{TextChains, chains_of, Held}
use Rattle.rr_reading.specs.Reading.{TakesRoot, NoneReached, ReadsDirectory, FollowsDirectory, directory_chain, IsDirectory, HasDirectory, HoldsChains, Holds, HasBadTable, AreFound, Directory_alone, With_named}
use Rattle.rr_reading.proofs.ChainLemmas.{one_followed}
use Rattle.rr_reading.proofs.DirLemmas.VersionLemmas.{one_version}

pub one_empty : (a b : List Bool) → NoneReached a → NoneReached b → a ≡ b
one_empty a b of_a of_b = ext_get_or false a b (of_a.whole ∙ sym of_b.whole) (λ i h. of_a.empty i ∙ sym (of_b.empty i))

module _ (file : List ℕ) (count : ℕ) where
  walk_data : (reached : List Bool) (head : ℕ) (pages : List ℕ) → Walk file count reached head pages None → AreData count pages
  walk_data reached head [] walk = tt
  walk_data reached head (page ∷ pages) walk = elim walk.3 [
    | inl ends ↦ subst (λ (rest : List ℕ). AreData count (page ∷ rest)) (sym ends.1) (walk.1.0, walk.1.1, tt)
    | inr goes ↦ (walk.1.0, walk.1.1, walk_data (marked reached page) (next_of file page) pages goes.1)
  ]

  module _ (before : List Bool) (head : ℕ) (stated : Option ℕ) where
    pub one_whole : (after others : List Bool) (pages more text bytes : List ℕ) → IsWhole file count before head stated after pages text → IsWhole file count before head stated others more bytes → (after ≡ others) × (pages ≡ more) × (text ≡ bytes)
    one_whole after others pages more text bytes a b =
        let only = walk_only file count before head pages more None None a.walk b.walk in
        let chain = one_chain file head count count pages more text bytes a.chain b.chain (walk_data before head pages a.walk) (walk_data before head more b.walk) in
        (a.marks ∙ (ap (all_marked before) only.0 ∙ sym b.marks), only.0, chain.1)

    pub whole_broken : (after others : List Bool) (pages text : List ℕ) (damage : Damage) → IsWhole file count before head stated after pages text → IsBroken file count before head stated others damage → ⊥
    whole_broken after others pages text damage whole broken =
        let only = walk_only file count before head broken.pages pages broken.end None broken.walk whole.walk in
        let same : damage_of file broken.pages broken.end stated ≡ damage_of file pages None stated = λ i. damage_of file (only.0 i) (only.1 i) stated in
        let none : Some damage ≡ None = sym broken.broken ∙ (same ∙ whole.unbroken) in
        absurd (cc)

    one_broken : (after others : List Bool) (damage other : Damage) → IsBroken file count before head stated after damage → IsBroken file count before head stated others other → damage ≡ other
    one_broken after others damage other a b =
        let only = walk_only file count before head a.pages b.pages a.end b.end a.walk b.walk in
        let same : damage_of file a.pages a.end stated ≡ damage_of file b.pages b.end stated = λ i. damage_of file (only.0 i) (only.1 i) stated in
        let one : Some damage ≡ Some other = sym a.broken ∙ (same ∙ b.broken) in
        cc

  -- many chains
  one_all : (heads : List (ℕ × ℕ)) (before after others : List Bool) (chains more : List HeldChain) → AllRead file count before heads after chains → AllRead file count before heads others more → (after ≡ others) × (chains ≡ more)
  one_all [] before after others chains more a b = (a.0 ∙ sym b.0, a.1 ∙ sym b.1)
  one_all (head ∷ heads) before after others chains more a b =
      let one = one_whole before head.0 (Some head.1) a.2 b.2 a.0.pages b.0.pages a.0.text b.0.text a.4 b.4 in
      let there : AllRead file count a.2 heads others b.1 = subst (λ (marks : List Bool). AllRead file count marks heads others b.1) (sym one.0) b.5 in
      let rest = one_all heads a.2 after others a.1 b.1 a.5 there in
      let joined : (a.0 ∷ a.1) ≡ (b.0 ∷ b.1) = λ i. record { pages = one.1 i; text = one.2 i } ∷ rest.1 i in
      (rest.0, a.3 ∙ (joined ∙ sym b.3))

module _ (file : List ℕ) where
  one_meaning : (number : ℕ) (bytes : List ℕ) (first second : Directory) → IsDirectory number bytes first → IsDirectory number bytes second → first ≡ second
  one_meaning number bytes first second a b =
      one_directory a.version bytes first second a.spelled (subst (λ (v : Version). Spells v bytes second) (one_version b.version a.version (b.numbered ∙ sym a.numbered)) b.spelled)

  pub one_read : (root : Root) (reached others : List Bool) (chain more : HeldChain) → ReadsDirectory file root reached chain → ReadsDirectory file root others more → (reached ≡ others) × (chain ≡ more)
  one_read root reached others chain more a b =
      let none = one_empty b.before a.before b.none a.none in
      let there : IsWhole file root.pages a.before root.directory None others more.pages more.text = subst (λ (marks : List Bool). IsWhole file root.pages marks root.directory None others more.pages more.text) none b.whole in
      let one = one_whole file root.pages a.before root.directory None reached others chain.pages more.pages chain.text more.text a.whole there in
      (one.0, λ i. record { pages = one.1 i; text = one.2 i })

  -- the directory's chain is followed in one way
  one_directory_chain : (root : Root) (chain other : FoundChain) → FollowsDirectory file root chain → FollowsDirectory file root other → chain ≡ other
  one_directory_chain root chain other a b =
      let none = one_empty b.before a.before b.none a.none in
      let there : Walk file root.pages a.before root.directory other.pages other.end = subst (λ (marks : List Bool). Walk file root.pages marks root.directory other.pages other.end) none b.walk in
      let only = walk_only file root.pages a.before root.directory chain.pages other.pages chain.end other.end a.walk there in
      λ i. record { pages = only.0 i; end = only.1 i; stated = (a.unstated ∙ sym b.unstated) i }

  -- so it has one directory at most
  pub record OneDirectory (root : Root) (of_a of_b : List Bool) (chain other : HeldChain) (first second : Directory) : Type 0 where
    pub reached : of_a ≡ of_b
    pub chains : chain ≡ other
    pub directories : first ≡ second

  pub one_directory_of : (root : Root) (of_a of_b : List Bool) (chain other : HeldChain) (first second : Directory) → ReadsDirectory file root of_a chain → ReadsDirectory file root of_b other → IsDirectory root.version chain.text first → IsDirectory root.version other.text second
      → OneDirectory root of_a of_b chain other first second
  one_directory_of root of_a of_b chain other first second a b is_first is_second =
      let one = one_read root of_a of_b chain other a b in
      let there : IsDirectory root.version chain.text second = subst (λ (c : HeldChain). IsDirectory root.version c.text second) (sym one.1) is_second in
      record { reached = one.0; chains = one.1; directories = one_meaning root.version chain.text first second is_first there }

  pub same_root : (side other : Bool) (a b : Root) → TakesRoot file side a → TakesRoot file other b → (side ≡ other) × (a ≡ b)
  same_root side other a b of_a of_b = one_taken file side other a b of_a.0 of_b.0 of_a.1 of_b.1

  pub has_there : (side other : Bool) (a b : Root) (reached : List Bool) (chain : HeldChain) (directory : Directory) → (side ≡ other) × (a ≡ b) → HasDirectory file other b reached chain directory → HasDirectory file side a reached chain directory
  has_there side other a b reached chain directory same has =
      subst (λ (root : Root). HasDirectory file side root reached chain directory) (sym same.1) (subst (λ (s : Bool). HasDirectory file s b reached chain directory) (sym same.0) has)

  -- all chains are found in one way
  pub one_found : (first second : List FoundChain) → AreFound file first → AreFound file second → first ≡ second
  one_found first second (Directory_alone side root chain is taken follows none) (Directory_alone other_side other_root other other_is other_taken other_follows other_none) =
      let same = same_root side other_side root other_root taken other_taken in
      let there : FollowsDirectory file root other = subst (λ (r : Root). FollowsDirectory file r other) (sym same.1) other_follows in
      is ∙ (ap (λ (c : FoundChain). c ∷ []) (one_directory_chain root chain other follows there) ∙ sym other_is)
  one_found first second (Directory_alone side root chain is taken follows none) (With_named other_side other_root reached after other directory named other_is has followed) =
      let same = same_root side other_side root other_root taken has.taken in
      absurd (none reached other directory (has_there side other_side root other_root reached other directory same has))
  one_found first second (With_named side root reached after chain directory named is has followed) (Directory_alone other_side other_root other other_is other_taken other_follows none) =
      let same = same_root other_side side other_root root other_taken has.taken in
      absurd (none reached chain directory (has_there other_side side other_root root reached chain directory same has))
  one_found first second (With_named side root reached after chain directory named is has followed) (With_named other_side other_root others then other meaning more other_is other_has other_followed) =
      let same = same_root side other_side root other_root has.taken other_has.taken in
      let there : HasDirectory file side root others other meaning = has_there side other_side root other_root others other meaning same other_has in
      let one = one_directory_of root reached others chain other directory meaning has.read there.read has.form there.form in
      let goes : AllFollowed file root.pages reached (heads_of directory) then more =
      subst (λ (d : Directory). AllFollowed file root.pages reached (heads_of d) then more) (sym one.directories)
      (subst (λ (marks : List Bool). AllFollowed file root.pages marks (heads_of meaning) then more) (sym one.reached)
      (subst (λ (r : Root). AllFollowed file r.pages others (heads_of meaning) then more) (sym same.1) other_followed)) in
      is ∙ ((λ i. directory_chain (one.chains i) ∷ one_followed file root.pages (heads_of directory) reached after then named more followed goes i) ∙ sym other_is)

  -- what was read of a root and of its chains is what any reading finds
  pub record SameChains (first second : List HeldChain) (directory other : Directory) : Type 0 where
    pub same_others : first ≡ second
    pub same_directory : directory ≡ other

  others_of : (texts others : TextChains) (first second : List HeldChain) → chains_of texts first ≡ chains_of others second → first ≡ second
  others_of texts others first second same = cc

  pub same_chains : (a : HasBadTable file) (side : Bool) (root : Root) (directory : Directory) (chain : HeldChain) (texts : TextChains) (tables snapshots : List HeldChain) (reached : List Bool) → HoldsChains file side root directory chain texts tables snapshots reached
      → SameChains a.others (tables ++ snapshots) a.directory directory
  same_chains a side root directory chain texts tables snapshots reached holds =
      let others = tables ++ snapshots in
      let same = same_root a.side side a.root root a.has_directory.taken holds.has_directory.taken in
      let there : HasDirectory file a.side a.root holds.of_directory chain directory = has_there a.side side a.root root holds.of_directory chain directory same holds.has_directory in
      let one = one_directory_of a.root a.of_directory holds.of_directory a.chain chain a.directory directory a.has_directory.read there.read a.has_directory.form there.form in
      let goes : AllRead file a.root.pages a.of_directory (heads_of a.directory) reached (chains_of texts others) =
      subst (λ (d : Directory). AllRead file a.root.pages a.of_directory (heads_of d) reached (chains_of texts others)) (sym one.directories)
      (subst (λ (marks : List Bool). AllRead file a.root.pages marks (heads_of directory) reached (chains_of texts others)) (sym one.reached)
      (subst (λ (r : Root). AllRead file r.pages holds.of_directory (heads_of directory) reached (chains_of texts others)) (sym same.1) holds.whole)) in
      let all = one_all file a.root.pages (heads_of a.directory) a.of_directory a.reached reached (chains_of a.texts a.others) (chains_of texts others) a.whole goes in
      record { same_others = others_of a.texts texts a.others others all.1; same_directory = one.directories }

  same_texts : (texts others : TextChains) (tables more : List HeldChain) → chains_of texts tables ≡ chains_of others more → texts ≡ others
  same_texts texts others tables more same =
      let chart : texts.chart ≡ others.chart = cc in
      let roster : texts.roster ≡ others.roster = cc in
      let tiles : texts.tiles ≡ others.tiles = cc in
      let board : texts.board ≡ others.board = cc in
      λ i. record { chart = chart i; roster = roster i; tiles = tiles i; board = board i }

  pub one_held : (first second : Held) → Holds file first → Holds file second → first ≡ second
  one_held first second a b =
      let of_a = a.chains.has_directory in
      let of_b = b.chains.has_directory in
      let root = one_taken file first.side second.side first.root second.root of_a.taken.0 of_b.taken.0 of_a.taken.1 of_b.taken.1 in
      let read : ReadsDirectory file first.root b.chains.of_directory second.chain = subst (λ (r : Root). ReadsDirectory file r b.chains.of_directory second.chain) (sym root.1) of_b.read in
      let one = one_read first.root a.chains.of_directory b.chains.of_directory first.chain second.chain of_a.read read in
      let form : IsDirectory first.root.version first.chain.text second.directory =
      subst (λ (chain : HeldChain). IsDirectory first.root.version chain.text second.directory) (sym one.1) (subst (λ (r : Root). IsDirectory r.version second.chain.text second.directory) (sym root.1) of_b.form) in
      let directory = one_meaning first.root.version first.chain.text first.directory second.directory of_a.form form in
      let of_first = first.tables ++ first.snapshots in
      let of_second = second.tables ++ second.snapshots in
      let there : AllRead file first.root.pages a.chains.of_directory (heads_of first.directory) second.reached (chains_of second.texts of_second) =
      subst (λ (d : Directory). AllRead file first.root.pages a.chains.of_directory (heads_of d) second.reached (chains_of second.texts of_second)) (sym directory)
      (subst (λ (marks : List Bool). AllRead file first.root.pages marks (heads_of second.directory) second.reached (chains_of second.texts of_second)) (sym one.0)
      (subst (λ (r : Root). AllRead file r.pages b.chains.of_directory (heads_of second.directory) second.reached (chains_of second.texts of_second)) (sym root.1) b.chains.whole)) in
      let all = one_all file first.root.pages (heads_of first.directory) a.chains.of_directory first.reached second.reached (chains_of first.texts of_first) (chains_of second.texts of_second) a.chains.whole there in
      let texts = same_texts first.texts second.texts of_first of_second all.1 in
      let parts = cut_same first.tables second.tables first.snapshots second.snapshots
      (a.chains.counted ∙ ap (λ (d : Directory). length d.tables) directory ∙ sym b.chains.counted) (others_of first.texts second.texts of_first of_second all.1) in
      let near = one_run file first.root.half 0 first.root.first first.near second.near first.near_end second.near_end a.near_run
      (subst (λ (r : Root). Run file r.half 0 r.first second.near second.near_end) (sym root.1) b.near_run) in
      let behind : Run file (other_half first.root.half) 0 (first.root.first + length first.near) second.far second.far_end =
      subst (λ (lines : List (List ℕ)). Run file (other_half first.root.half) 0 (first.root.first + length lines) second.far second.far_end) near.0
      (subst (λ (r : Root). Run file (other_half r.half) 0 (r.first + length second.near) second.far second.far_end) (sym root.1) b.far_run) in
      let far = one_run file (other_half first.root.half) 0 (first.root.first + length first.near) first.far second.far first.far_end second.far_end a.far_run behind in
      λ i. record {
        side = root.0 i;
        root = root.1 i;
        directory = directory i;
        chain = one.1 i;
        texts = texts i;
        tables = parts.0 i;
        snapshots = parts.1 i;
        reached = all.0 i;
        near = sym near.0 i;
        near_end = sym near.1 i;
        far = sym far.0 i;
        far_end = sym far.1 i;
      }
