-- Why an opening refuses a file.
use Rattle.std.specs.Prelude.{◌≡◌, ℕ, ◌+◌, Bool, not, List, ◌++◌, length, None}
use Rattle.rr_pages.specs.declared.page.TheConstants.{MOST_PAGES}
use Rattle.rr_pages.specs.declared.journal.reading.RunEnd.{RunEnd}
use Rattle.rr_pages.specs.declared.journal.reading.RunEnd.TheVariants.{Damaged}
use Rattle.rr_pages.specs.Journal.Run.{Run}
use Rattle.rr_pages.specs.declared.fault.Damage.{Damage}
use Rattle.rr_pages.specs.declared.root.Root.{Root}
use Rattle.rr_pages.specs.Choosing.{IsNoStore, HasBadField}
use Rattle.rr_pages.specs.Reading.{IsWhole}
use Rattle.rr_pages.specs.Roots.{Stale, IsTaken}
use Rattle.rr_pages.specs.Sets.{IsEmpty}
use Rattle.rr_images.specs.Codec.{Codec, Replays}
use Rattle.rr_images.specs.Following.{IsRead, ToldBroken}
use Rattle.rr_images.specs.Holding.{HeldChain, Holding, texts_of}
use Rattle.rr_pages.specs.Journal.Layout.{other_half}

-- of the root that is taken the directory is read, and it has no form
pub record HasNoForm (codec : Codec) (file : List ℕ) (root : Root) : Type 0 where
  pub none_reached : List Bool
  pub empty : IsEmpty none_reached
  pub marks : length none_reached ≡ MOST_PAGES
  pub of_directory : List Bool
  pub directory : HeldChain
  pub read : IsWhole file root.pages none_reached root.directory None of_directory directory.pages directory.text
  pub formless : (heads : List (ℕ × ℕ)) → codec.Heads root.version directory.text heads → ⊥

-- all chains are read, and spell no world
pub record SpellsNothing (codec : Codec) (file : List ℕ) (root : Root) : Type 0 where
  pub holding : Holding
  pub after : List Bool
  pub read : IsRead codec file root holding after
  pub nothing : (world : codec.World)
      → codec.Spells root.version holding.directory.text (texts_of holding.chains) world → ⊥

-- a record of the expected number is damaged, in the half that the root names or in the other one
pub data HasDamagedRecord (file : List ℕ) (root : Root) : Type 0 where
  Near : (near : List (List ℕ)) → Run file root.half 0 root.first near Damaged → HasDamagedRecord file root
  Far : (near far : List (List ℕ)) (end : RunEnd) → Run file root.half 0 root.first near end
      → Run file (other_half root.half) 0 (root.first + length near) far Damaged → HasDamagedRecord file root

-- the records can't all be taken
pub record HasUnlawfulRecord (codec : Codec) (file : List ℕ) (root : Root) : Type 0 where
  pub holding : Holding
  pub after : List Bool
  pub base : codec.World
  pub read : IsRead codec file root holding after
  pub spells : codec.Spells root.version holding.directory.text (texts_of holding.chains) base
  pub near : List (List ℕ)
  pub near_end : RunEnd
  pub far : List (List ℕ)
  pub far_end : RunEnd
  pub near_run : Run file root.half 0 root.first near near_end
  pub far_run : Run file (other_half root.half) 0 (root.first + length near) far far_end
  pub unlawful : (world : codec.World) → Replays codec base (near ++ far) world → ⊥

-- the file is none of ours, or a root's field is bad, or one of these holds of the root that is taken
pub data IsRefused (codec : Codec) (file : List ℕ) : Type 0 where
  No_store : IsNoStore file → IsRefused codec file
  Bad_field : HasBadField file → IsRefused codec file
  Broken_chain : (side : Bool) (root : Root) (stale : Stale) (damage : Damage) → IsTaken file side root stale
      → ToldBroken codec file root damage → IsRefused codec file
  No_form : (side : Bool) (root : Root) (stale : Stale) → IsTaken file side root stale
      → HasNoForm codec file root → IsRefused codec file
  Nothing_spelled : (side : Bool) (root : Root) (stale : Stale) → IsTaken file side root stale
      → SpellsNothing codec file root → IsRefused codec file
  Damaged_record : (side : Bool) (root : Root) (stale : Stale) → IsTaken file side root stale
      → HasDamagedRecord file root → IsRefused codec file
  Unlawful_record : (side : Bool) (root : Root) (stale : Stale) → IsTaken file side root stale
      → HasUnlawfulRecord codec file root → IsRefused codec file
