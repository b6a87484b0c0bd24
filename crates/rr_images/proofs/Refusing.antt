-- A file that an opening refuses stands for nothing.
use Rattle.std.proofs.Common.{◌≡◌, ℕ, ◌+◌, ◌≤◌, Bool, not, List, [], ◌++◌, length, None, sym, subst}
use Rattle.rr_pages.specs.declared.journal.reading.RunEnd.{RunEnd}
use Rattle.rr_pages.specs.declared.journal.reading.RunEnd.TheVariants.{Damaged}
use Rattle.rr_pages.specs.Journal.Run.{Run}
use Rattle.rr_pages.proofs.JournalLemmas.Runs.{one_run}
use Rattle.rr_pages.specs.declared.root.Root.{Root}
use Rattle.rr_pages.specs.Roots.{Stale, IsTaken}
use Rattle.rr_pages.proofs.ChoosingLemmas.{one_taken, taken_store, taken_good}
use Rattle.rr_pages.proofs.SetLemmas.{empty_has}
use Rattle.rr_images.specs.Codec.{Codec, IsExact, Replays}
use Rattle.rr_images.specs.Holding.{Holding, heads_of, texts_of, pages_of}
use Rattle.rr_images.specs.Layout.{Stands}
use Rattle.rr_images.specs.Following.{IsRead, ToldBroken}
use Rattle.rr_images.specs.Refusing.{HasNoForm, SpellsNothing, HasDamagedRecord, Near, Far, HasUnlawfulRecord, IsRefused, No_store, Bad_field, Broken_chain, No_form, Nothing_spelled, Damaged_record, Unlawful_record}
use Rattle.rr_images.proofs.OneWorld.{data_front, one_chain, there_of, one_holding_there}
use Rattle.rr_images.proofs.Following.{chain_reached, read_there, spelled_not_broken}
use Rattle.rr_pages.specs.Journal.Layout.{other_half}

module _ (codec : Codec) (exact : IsExact codec) (file : List ℕ) (world : codec.World) (stands : Stands codec file world) where
  -- the root that is taken is the one that stands
  same_root : (side : Bool) (root : Root) (stale : Stale) → IsTaken file side root stale → root ≡ stands.root
  same_root side root stale taken = (one_taken file side stands.side root stands.root stale stands.stale taken stands.taken).1

  low : stands.root.pages ≤ 65536
  low = stands.taken.sound.pages_high

  same_holding : (holding : Holding) (after : List Bool) → IsRead codec file stands.root holding after → holding ≡ stands.holding
  same_holding holding after read =
      one_holding_there codec exact file stands.root holding stands.holding (read_there codec file stands.root holding after low read).there (there_of codec file stands.root stands.holding stands.base stands.spelled)

  has_form : HasNoForm codec file stands.root → ⊥
  has_form none =
      let reach = chain_reached file stands.root.pages low none.none_reached [] none.marks (empty_has none.none_reached none.empty) stands.root.directory None none.of_directory none.directory.pages none.directory.text none.read in
      let same = one_chain file stands.root.directory stands.root.pages stands.root.pages none.directory.pages stands.holding.directory.pages none.directory.text stands.holding.directory.text none.read.chain stands.spelled.directory
      reach.are_new.are_data (data_front stands.root.pages stands.holding.directory.pages (pages_of stands.holding.chains) stands.spelled.in_data) in
      none.formless (heads_of stands.holding.chains) (subst (λ (text : List ℕ). codec.Heads stands.root.version text (heads_of stands.holding.chains)) (sym same.1) stands.spelled.named)

  something_spelled : SpellsNothing codec file stands.root → ⊥
  something_spelled none =
      let same = same_holding none.holding none.after none.read in
      none.nothing stands.base (subst (λ (holding : Holding). codec.Spells stands.root.version holding.directory.text (texts_of holding.chains) stands.base) (sym same) stands.spelled.spells)

  same_near : (near : List (List ℕ)) (end : RunEnd) → Run file stands.root.half 0 stands.root.first near end → (near ≡ stands.near) × (end ≡ stands.near_end)
  same_near near end run = one_run file stands.root.half 0 stands.root.first stands.near near stands.near_end end stands.near_run run

  same_far : (near far : List (List ℕ)) (near_end far_end : RunEnd) → Run file stands.root.half 0 stands.root.first near near_end → Run file (other_half stands.root.half) 0 (stands.root.first + length near) far far_end
      → (far ≡ stands.far) × (far_end ≡ stands.far_end)
  same_far near far near_end far_end near_run far_run =
      one_run file (other_half stands.root.half) 0 (stands.root.first + length stands.near) stands.far far stands.far_end far_end stands.far_run
      (subst (λ (lines : List (List ℕ)). Run file (other_half stands.root.half) 0 (stands.root.first + length lines) far far_end) (same_near near near_end near_run).0 far_run)

  none_damaged : HasDamagedRecord file stands.root → ⊥
  none_damaged (Near near run) = stands.near_whole (sym (same_near near Damaged run).1)
  none_damaged (Far near far end near_run far_run) = stands.far_whole (sym (same_far near far end Damaged near_run far_run).1)

  all_lawful : HasUnlawfulRecord codec file stands.root → ⊥
  all_lawful none =
      let same = same_holding none.holding none.after none.read in
      let base : none.base ≡ stands.base = exact.spells stands.root.version stands.holding.directory.text (texts_of stands.holding.chains) none.base stands.base
      (subst (λ (holding : Holding). codec.Spells stands.root.version holding.directory.text (texts_of holding.chains) none.base) same none.spells) stands.spelled.spells in
      let near = (same_near none.near none.near_end none.near_run).0 in
      let far = (same_far none.near none.far none.near_end none.far_end none.near_run none.far_run).0 in
      let lines : none.near ++ none.far ≡ stands.near ++ stands.far = λ i. near i ++ far i in
      none.unlawful world
      (subst (λ (old : codec.World). Replays codec old (none.near ++ none.far) world) (sym base)
      (subst (λ (all : List (List ℕ)). Replays codec stands.base all world) (sym lines) stands.replayed))

  pub stands_is_not_refused : IsRefused codec file → ⊥
  stands_is_not_refused (No_store is) = taken_store file stands.side stands.root stands.stale stands.taken is
  stands_is_not_refused (Bad_field is) = taken_good file stands.side stands.root stands.stale stands.taken is
  stands_is_not_refused (Broken_chain side root stale damage taken told) =
      spelled_not_broken codec exact file stands.root stands.holding stands.base damage low stands.spelled (subst (λ (r : Root). ToldBroken codec file r damage) (same_root side root stale taken) told)
  stands_is_not_refused (No_form side root stale taken none) = has_form (subst (λ (r : Root). HasNoForm codec file r) (same_root side root stale taken) none)
  stands_is_not_refused (Nothing_spelled side root stale taken none) = something_spelled (subst (λ (r : Root). SpellsNothing codec file r) (same_root side root stale taken) none)
  stands_is_not_refused (Damaged_record side root stale taken has) = none_damaged (subst (λ (r : Root). HasDamagedRecord file r) (same_root side root stale taken) has)
  stands_is_not_refused (Unlawful_record side root stale taken has) = all_lawful (subst (λ (r : Root). HasUnlawfulRecord codec file r) (same_root side root stale taken) has)
