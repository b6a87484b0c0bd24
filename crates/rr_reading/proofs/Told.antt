-- What is told of a file is its least damage.
use Rattle.std.proofs.Common.{◌≡◌, inl, ℕ, ◌≤◌, Bool, List, [], ◌∷◌, ◌++◌, length, fold, Option, None, Some, Err, refl, sym, ap, ◌∙◌, subst, arith}
use Rattle.rr_reading.specs.Dir.Directory.{Directory, Spells}
use Rattle.rr_reading.specs.Dir.Heads.{heads_of}
use Rattle.rr_reading.specs.declared.dir.fault.Fault.{Fault as FormFault}
use Rattle.rr_reading.specs.declared.dir.fault.Fault.TheVariants as form
use Rattle.rr_reading.specs.Dir.Version.{version_number}
use Rattle.rr_reading.specs.declared.dir.version.Version.{Version}
use Rattle.rr_images.specs.Following.{AllRead}
use Rattle.rr_images.specs.Holding.{HeldChain}
use Rattle.rr_pages.specs.Choosing.{IsNoStore, HasBadField, Chooses}
use Rattle.rr_pages.specs.declared.fault.Damage.{Damage}
use Rattle.rr_pages.specs.declared.fault.Fault.{Fault as PageFault}
use Rattle.rr_pages.specs.declared.fault.Fault.TheVariants as pages
use Rattle.rr_pages.specs.declared.root.Root.{Root}
use Rattle.rr_pages.specs.declared.reading.Link.{Link}
use Rattle.rr_pages.specs.Links.{pages_of}
use Rattle.rr_pages.specs.Reading.{Follows, IsWhole, IsBroken, IsUnbroken}
use Rattle.rr_pages.proofs.ChoosingLemmas.{taken_store, taken_good}
use Rattle.rr_pages.specs.declared.fault.Damage.TheVariants.{RootField, PageOutside, PageTwice, UsedBytes, Form, Kit, Kept, Records}
use Rattle.rr_reading.specs.declared.fault.Fault.{Fault}
use Rattle.rr_reading.specs.declared.fault.Fault.TheVariants.{Damaged, NotAStore, Disk, OutOfMemory}
use Rattle.rr_reading.specs.Chains.{FoundChain, AllFollowed, HasOne, LeadsOutside, ReachesTwice, IsOverfull, HasOtherLength, damage_in, lower_of, least_in, AreOfForm}
use Rattle.rr_pages.specs.Faults.{clause_of}
use Rattle.rr_reading.specs.Faults.{of_pages, of_directory, IsNoVerdict}
use Rattle.rr_reading.specs.Held.{TextChains, Held, chains_of}
use Rattle.rr_reading.specs.Reading.{TakesRoot, HasRoot, NoneReached, ReadsDirectory, directory_chain, IsDirectory, HasDirectory, HoldsChains, Holds, AreFound, Directory_alone, With_named, HasFound, IsOfNoForm, Of_directory, Of_length, Of_table, Breaks, IsDamage, Refuses}
use Rattle.rr_reading.specs.Told.{IsToldBroken}
use Rattle.rr_reading.proofs.ChainLemmas.{all_right, read_followed}
use Rattle.rr_reading.proofs.FormLemmas.{forms_behind}
use Rattle.rr_reading.specs.Lending.Pages.{joined}
use Rattle.rr_reading.proofs.LendingLemmas.LinkLemmas.{whole_joined}
use Rattle.rr_reading.proofs.Least.{IsAtMost, least_is, least_low, least_none, BreaksBy, breaks_of, AllRight, walk_right, outside_low, twice_low, overfull_low, length_low, one_more, none_of}
use Rattle.rr_reading.proofs.OneAnswer.{one_empty, whole_broken, one_read, one_found, same_chains, same_root, has_there}
use Rattle.rr_reading.proofs.DirLemmas.VersionLemmas.{one_version}

clause_some : (damage : Damage) → 1 ≤ clause_of damage
clause_some RootField = omega arith
clause_some PageOutside = omega arith
clause_some PageTwice = omega arith
clause_some UsedBytes = omega arith
clause_some Form = omega arith
clause_some _ = omega arith

clause_low : (file : List ℕ) (damage : Damage) → Breaks file damage → clause_of damage ≤ 5
clause_low file RootField broken = omega arith
clause_low file PageOutside broken = omega arith
clause_low file PageTwice broken = omega arith
clause_low file UsedBytes broken = omega arith
clause_low file Form broken = omega arith
clause_low file _ broken = absurd broken

-- a clause is told by its number
same_damage : (damage other : Damage) → clause_of damage ≡ clause_of other → damage ≡ other
same_damage RootField RootField same = refl
same_damage PageOutside PageOutside same = refl
same_damage PageTwice PageTwice same = refl
same_damage UsedBytes UsedBytes same = refl
same_damage Form Form same = refl
same_damage Kit Kit same = refl
same_damage Kept Kept same = refl
same_damage Records Records same = refl
same_damage first second same = absurd (omega (arith, same))

module _ (file : List ℕ) where
  pub one_damage : (first second : Damage) → IsDamage file first → IsDamage file second → first ≡ second
  one_damage first second a b = same_damage first second (omega (arith, a.least second b.broken, b.least first a.broken))

  pub damaged_store : (damage : Damage) → IsDamage file damage → IsNoStore file → ⊥
  damaged_store damage damaged = damaged.store

  found_taken : (found : List FoundChain) → AreFound file found → (side : Bool) × (root : Root) × TakesRoot file side root
  found_taken found (Directory_alone side root chain is taken follows none) = (side, root, taken)
  found_taken found (With_named side root reached after chain directory named is has followed) = (side, root, has.taken)

  found_store : (found : List FoundChain) → AreFound file found → IsNoStore file → ⊥
  found_store found are none = let taken = found_taken found are in taken_store file taken.0 taken.1 taken.2.0 taken.2.1 none

  found_good : (found : List FoundChain) → AreFound file found → HasBadField file → ⊥
  found_good found are bad = let taken = found_taken found are in taken_good file taken.0 taken.1 taken.2.0 taken.2.1 bad

  pub found_right : (found : List FoundChain) → AreFound file found → AllRight file found
  found_right found (Directory_alone side root chain is taken follows none) =
      subst (λ (fs : List FoundChain). AllRight file fs) (sym is) (walk_right file root.pages follows.before root.directory chain.pages chain.end follows.walk, tt)
  found_right found (With_named side root reached after chain directory named is has followed) =
      subst (λ (fs : List FoundChain). AllRight file fs) (sym is) (inl refl, all_right file root.pages reached (heads_of directory) after named followed)

  -- what one of the chains breaks, the least clause is no higher
  module _ (found : List FoundChain) (are : AreFound file found) where
    here : (P : FoundChain → Type 0) → HasFound file P → HasOne P found
    here P has = subst (λ (fs : List FoundChain). HasOne P fs) (one_found file has.0 found has.1 are) has.2

    low_of : (P : FoundChain → Type 0) (n : ℕ) → ((chain : FoundChain) → P chain → IsAtMost (damage_in file chain) n) → HasFound file P → HasOne (λ chain. IsAtMost (damage_in file chain) n) found
    low_of P n low has = one_more file P (λ chain. IsAtMost (damage_in file chain) n) found (λ chain right is. low chain is) (found_right found are) (here P has)

    over_of : HasFound file (IsOverfull file) → HasOne (λ chain. IsAtMost (damage_in file chain) 4) found
    over_of has =
        one_more file (IsOverfull file) (λ chain. IsAtMost (damage_in file chain) 4) found (λ chain right is. overfull_low file chain right is) (found_right found are) (here (IsOverfull file) has)

    found_least : (damage : Damage) → least_in file found ≡ Some damage → (other : Damage) → Breaks file other → clause_of damage ≤ 5 → clause_of damage ≤ clause_of other
    found_least damage is RootField broken high = absurd (found_good found are broken)
    found_least damage is PageOutside broken high = least_low file found damage 2 is (low_of LeadsOutside 2 (outside_low file) broken)
    found_least damage is PageTwice broken high = least_low file found damage 3 is (low_of ReachesTwice 3 (twice_low file) broken)
    found_least damage is UsedBytes broken high = least_low file found damage 4 is (over_of broken)
    found_least damage is Form broken high = high
    found_least damage is _ broken high = absurd broken

    none_lower : least_in file found ≡ None → (other : Damage) → Breaks file other → 5 ≤ clause_of other
    none_lower is RootField broken = absurd (found_good found are broken)
    none_lower is PageOutside broken = absurd (least_none file found 2 is (low_of LeadsOutside 2 (outside_low file) broken))
    none_lower is PageTwice broken = absurd (least_none file found 3 is (low_of ReachesTwice 3 (twice_low file) broken))
    none_lower is UsedBytes broken = absurd (least_none file found 4 is (over_of broken))
    none_lower is Form broken = omega arith
    none_lower is _ broken = absurd broken

    breaks_by : (damage : Damage) → HasOne (λ chain. BreaksBy file chain damage) found → Breaks file damage
    breaks_by RootField one = absurd (none_of (λ chain. BreaksBy file chain RootField) found (λ chain none. none) one)
    breaks_by PageOutside one = (found, are, one)
    breaks_by PageTwice one = (found, are, one)
    breaks_by UsedBytes one = (found, are, one)
    breaks_by Form one = Of_length (found, are, one)
    breaks_by damage one = absurd (none_of (λ chain. BreaksBy file chain damage) found (λ chain none. none) one)

    pub found_damage : (damage : Damage) → least_in file found ≡ Some damage → IsDamage file damage
    found_damage damage is =
        let broken : Breaks file damage = breaks_by damage (one_more file (λ chain. damage_in file chain ≡ Some damage) (λ chain. BreaksBy file chain damage) found (λ chain right told. breaks_of file chain damage right told) (found_right found are) (least_is file found damage is)) in
        record {
          store = found_store found are;
          broken = broken;
          least = λ other breaks. found_least damage is other breaks (clause_low file damage broken);
        }

    pub found_form : least_in file found ≡ None → IsOfNoForm file → IsDamage file Form
    found_form is formless = record { store = found_store found are; broken = formless; least = λ other broken. none_lower is other broken }

    -- chains that break nothing, and tables of their form, are no damage
    pub found_whole : least_in file found ≡ None → (IsOfNoForm file → ⊥) → (damage : Damage) → IsDamage file damage → ⊥
    found_whole is formed RootField damaged = found_good found are damaged.broken
    found_whole is formed PageOutside damaged = least_none file found 2 is (low_of LeadsOutside 2 (outside_low file) damaged.broken)
    found_whole is formed PageTwice damaged = least_none file found 3 is (low_of ReachesTwice 3 (twice_low file) damaged.broken)
    found_whole is formed UsedBytes damaged = least_none file found 4 is (over_of damaged.broken)
    found_whole is formed Form damaged = formed damaged.broken
    found_whole is formed _ damaged = damaged.broken

    pub lengths_right : least_in file found ≡ None → HasFound file (HasOtherLength file) → ⊥
    lengths_right is has = least_none file found 5 is (low_of (HasOtherLength file) 5 (length_low file) has)

  -- the chains that a directory names, behind its own
  module _ (side : Bool) (root : Root) (reached after : List Bool) (chain : HeldChain) (directory : Directory) (named : List FoundChain) (has : HasDirectory file side root reached chain directory)
      (followed : AllFollowed file root.pages reached (heads_of directory) after named) where
    pub named_found : AreFound file (directory_chain chain ∷ named)
    named_found = With_named side root reached after chain directory named refl has followed

    pub named_least : least_in file (directory_chain chain ∷ named) ≡ least_in file named
    named_least = ap (λ (told : Option Damage). fold (λ least other. lower_of least (damage_in file other)) told named) has.read.whole.unbroken

  -- a root
  pub root_told : (fault : PageFault) → Chooses file (Err fault) → Refuses file (of_pages fault)
  root_told pages.FileFull chosen = absurd chosen
  root_told pages.HalfFull chosen = absurd chosen
  root_told (pages.Damaged damage) chosen =
      subst (λ (d : Damage). IsDamage file d) (sym chosen.0) (record { store = chosen.1; broken = chosen.2; least = λ other broken. clause_some other })
  root_told pages.NotAStore chosen = chosen
  root_told (pages.Disk fault) chosen = tt
  root_told pages.OutOfMemory chosen = absurd chosen

  module _ (side : Bool) (root : Root) (taken : TakesRoot file side root) where
    -- a directory that is broken can't be read
    module _ (before after : List Bool) (none : NoneReached before) (damage : Damage) (broken : IsBroken file root.pages before root.directory None after damage) where
      unread : (reached : List Bool) (chain : HeldChain) (directory : Directory) → HasDirectory file side root reached chain directory → ⊥
      unread reached chain directory has =
          let there : IsWhole file root.pages before root.directory None reached chain.pages chain.text =
          subst (λ (marks : List Bool). IsWhole file root.pages marks root.directory None reached chain.pages chain.text) (one_empty has.read.before before has.read.none none) has.read.whole in
          whole_broken file root.pages before root.directory None reached after chain.pages chain.text damage there broken

      alone : FoundChain
      alone = record { pages = broken.pages; end = broken.end; stated = None }

      directory_broken : IsDamage file damage
      unfolding alone
      directory_broken =
          found_damage (alone ∷ []) (Directory_alone side root alone refl taken (record { before = before; none = none; unstated = refl; walk = broken.walk }) unread) damage broken.broken

    module _ (count : ℕ) (same : root.pages ≤ 65536 → count ≡ root.pages) where
      count_is : count ≡ root.pages
      count_is = same taken.1.sound.pages_high

      pub directory_told : (before after : List Bool) (fault : PageFault) → NoneReached before → Follows file count before root.directory None after (Err fault) → Refuses file (of_pages fault)
      directory_told before after pages.FileFull none read = absurd read
      directory_told before after pages.HalfFull none read = absurd read
      directory_told before after (pages.Damaged damage) none read =
          directory_broken before after none damage (subst (λ (n : ℕ). IsBroken file n before root.directory None after damage) count_is read)
      directory_told before after pages.NotAStore none read = absurd read
      directory_told before after (pages.Disk fault) none read = tt
      directory_told before after pages.OutOfMemory none read = (side, root, taken)

      -- one that was followed has the bytes of its pages
      pub directory_read : (before after : List Bool) (links : List Link) → NoneReached before → IsUnbroken file count before root.directory None after links
          → ReadsDirectory file root after (record { pages = pages_of links; text = joined file links })
      directory_read before after links none followed =
          record {
            before = before;
            none = none;
            whole = subst (λ (n : ℕ). IsWhole file n before root.directory None after (pages_of links) (joined file links)) count_is (whole_joined file count before root.directory None after links followed);
          }

    formless_directory : (reached : List Bool) (chain : HeldChain) → ReadsDirectory file root reached chain → ((directory : Directory) → IsDirectory root.version chain.text directory → ⊥) → IsDamage file Form
    formless_directory reached chain read none =
        found_form (directory_chain chain ∷ [])
        (Directory_alone side root (directory_chain chain) refl taken (record { before = read.before; none = read.none; unstated = refl; walk = read.whole.walk })
        (λ others other directory has.
        let one = one_read file root reached others chain other read has.read in
        none directory (subst (λ (c : HeldChain). IsDirectory root.version c.text directory) (sym one.1) has.form)))
        read.whole.unbroken (Of_directory side root reached chain taken read none)

    pub form_told : (version : Version) (reached : List Bool) (chain : HeldChain) (fault : FormFault) → version_number version ≡ root.version → ReadsDirectory file root reached chain
        → (fault ≡ form.Damaged → (directory : Directory) → Spells version chain.text directory → ⊥) → Refuses file (of_directory fault)
    form_told version reached chain form.Damaged numbered read none =
        formless_directory reached chain read (λ directory is. none refl directory (subst (λ (v : Version). Spells v chain.text directory) (one_version is.version version (is.numbered ∙ sym numbered)) is.spelled))
    form_told version reached chain form.OutOfMemory numbered read none = (side, root, taken)

  -- the chains that a directory names
  module _ (side : Bool) (root : Root) (reached : List Bool) (chain : HeldChain) (directory : Directory) (has : HasDirectory file side root reached chain directory) (count : ℕ) (few : root.pages ≤ 65536 → count ≡ root.pages) where
    pages_are : count ≡ root.pages
    pages_are = few has.taken.1.sound.pages_high

    pub chains_told : (fault : Fault) → IsToldBroken file count reached (heads_of directory) fault → Refuses file fault
    chains_told (Damaged damage) told =
        let broken = told.2 in
        let followed : AllFollowed file root.pages reached (heads_of directory) broken.after broken.found =
        subst (λ (n : ℕ). AllFollowed file n reached (heads_of directory) broken.after broken.found) pages_are broken.followed in
        subst (λ (d : Damage). IsDamage file d) (sym told.1)
        (found_damage (directory_chain chain ∷ broken.found) (named_found side root reached broken.after chain directory broken.found has followed) told.0
        (named_least side root reached broken.after chain directory broken.found has followed ∙ broken.is_least))
    chains_told NotAStore told = absurd told
    chains_told (Disk fault) told = tt
    chains_told OutOfMemory told = (side, root, has.taken)

    module _ (after : List Bool) (texts : TextChains) (others : List HeldChain) (read : AllRead file count reached (heads_of directory) after (chains_of texts others)) where
      all_read : AllRead file root.pages reached (heads_of directory) after (chains_of texts others)
      all_read = subst (λ (n : ℕ). AllRead file n reached (heads_of directory) after (chains_of texts others)) pages_are read

      pub table_told : (AreOfForm directory.tables others → ⊥) → IsDamage file Form
      table_told none =
          let rest = read_followed file root.pages reached (heads_of directory) after (chains_of texts others) all_read in
          found_form (directory_chain chain ∷ rest.found) (named_found side root reached after chain directory rest.found has rest.followed)
          (named_least side root reached after chain directory rest.found has rest.followed ∙ rest.unbroken)
          (Of_table (record {
            side = side;
            root = root;
            of_directory = reached;
            chain = chain;
            directory = directory;
            has_directory = has;
            reached = after;
            texts = texts;
            others = others;
            whole = all_read;
            formless = none;
          }))

    module _ (after : List Bool) (texts : TextChains) (tables snapshots : List HeldChain) (read : AllRead file count reached (heads_of directory) after (chains_of texts (tables ++ snapshots))) where
      pub all_held_there : length tables ≡ length directory.tables → AreOfForm directory.tables tables → HoldsChains file side root directory chain texts tables snapshots after
      all_held_there counted forms =
          record { of_directory = reached; has_directory = has; whole = all_read after texts (tables ++ snapshots) read; counted = counted; forms = forms }

    -- of a disk that has later what it had, and by the heads that were followed
    module _ (now : List ℕ) (heads : List (ℕ × ℕ)) (same : now ≡ file) (heads_are : heads ≡ heads_of directory) where
      pub told_later : (fault : Fault) → IsToldBroken now count reached heads fault → Refuses file fault
      told_later fault told =
          chains_told fault (subst (λ (hs : List (ℕ × ℕ)). IsToldBroken file count reached hs fault) heads_are (subst (λ (f : List ℕ). IsToldBroken f count reached heads fault) same told))

      pub read_later : (after : List Bool) (chains others : List HeldChain) (texts : TextChains) → chains ≡ chains_of texts others → AllRead now count reached heads after chains → AllRead file count reached (heads_of directory) after (chains_of texts others)
      read_later after chains others texts halves read =
          subst (λ (cs : List HeldChain). AllRead file count reached (heads_of directory) after cs) halves
          (subst (λ (hs : List (ℕ × ℕ)). AllRead file count reached hs after chains) heads_are (subst (λ (f : List ℕ). AllRead f count reached heads after chains) same read))

  -- what holds something isn't damaged
  pub held_whole : (has : Held) (damage : Damage) → Holds file has → IsDamage file damage → ⊥
  held_whole has damage holds =
      let chains = holds.chains in
      let there = chains.has_directory in
      let rest = read_followed file has.root.pages chains.of_directory (heads_of has.directory) has.reached (chains_of has.texts (has.tables ++ has.snapshots)) chains.whole in
      let are = named_found has.side has.root chains.of_directory has.reached has.chain has.directory rest.found there rest.followed in
      let none = named_least has.side has.root chains.of_directory has.reached has.chain has.directory rest.found there rest.followed ∙ rest.unbroken in
      found_whole (directory_chain has.chain ∷ rest.found) are none (formed (directory_chain has.chain ∷ rest.found) are none) damage
    where
      formed : (found : List FoundChain) → AreFound file found → least_in file found ≡ None → IsOfNoForm file → ⊥
      formed found are none (Of_directory side root reached chain taken read formless) =
          let there = holds.chains.has_directory in
          let same = same_root file side has.side root has.root taken there.taken in
          let at : HasDirectory file side root holds.chains.of_directory has.chain has.directory = has_there file side has.side root has.root holds.chains.of_directory has.chain has.directory same there in
          let one = one_read file root reached holds.chains.of_directory chain has.chain read at.read in
          formless has.directory (subst (λ (c : HeldChain). IsDirectory root.version c.text has.directory) (sym one.1) at.form)
      formed found are none (Of_length other) = lengths_right found are none other
      formed found are none (Of_table bad) =
          let same = same_chains file bad has.side has.root has.directory has.chain has.texts has.tables has.snapshots has.reached holds.chains in
          let forms = forms_behind has.directory.tables has.tables has.snapshots holds.chains.forms in
          bad.formless (subst (λ (d : Directory). AreOfForm d.tables bad.others) (sym same.same_directory) (subst (λ (cs : List HeldChain). AreOfForm has.directory.tables cs) (sym same.same_others) forms))

  pub held_store : (has : Held) → Holds file has → IsNoStore file → ⊥
  held_store has holds none =
      let taken = holds.chains.has_directory.taken in
      taken_store file has.side has.root taken.0 taken.1 none

-- what a disk has later is what it had
pub refused_later : (file now : List ℕ) (side : Bool) (root : Root) (fault : Fault) → now ≡ file → TakesRoot file side root → ((s : Bool) → TakesRoot now s root → Refuses now fault) → Refuses file fault
refused_later file now side root fault same taken refuses =
    subst (λ (f : List ℕ). Refuses f fault) same (refuses side (subst (λ (f : List ℕ). TakesRoot f side root) (sym same) taken))

-- a fault of the device says nothing of a file, and want of memory that a root is taken
pub no_verdict_told : (file : List ℕ) (fault : Fault) → IsNoVerdict fault → HasRoot file → Refuses file fault
no_verdict_told file (Damaged damage) none has = absurd none
no_verdict_told file NotAStore none has = absurd none
no_verdict_told file (Disk fault) none has = tt
no_verdict_told file OutOfMemory none has = has
