-- Commands that are lent one after another: the first begins a table, the others are played.
use Rattle.std.proofs.Common.{◌≡◌, ◌⊎◌, ℕ, ◌≤◌, Bool, List, [], ◌∷◌, ap, length, Option, Some, Result, Ok, Err, IfOk, IfErr, IfSome, inl, inr, subst}
use Rattle.std.specs.Borrow.{Bor}
use Rattle.rr_code.specs.declared.command.Command.{Command}
use Rattle.rr_game.specs.declared.history.table.Table.{Table}
use Rattle.rr_game.specs.History.Tables.{HasItsSnapshots, IsPlayed, kept_in}
use Rattle.rr_kit.specs.declared.kit.Kit.{Kit}
use Rattle.rr_pages.specs.declared.fault.Fault.{Fault as OfPages}
use Rattle.rr_pages.specs.declared.fault.Damage.TheVariants.{Kept as NotPlayed}
use Rattle.rr_reading.specs.declared.lending.commands.Commands.{Commands}
use Rattle.rr_reading.specs.Lending.Commands.{Begins, LendsWords, rest_of}
use Rattle.rr_store.specs.declared.recovery.fault.Fault.{Fault}
use Rattle.rr_store.specs.declared.recovery.fault.Fault.TheVariants as F
use Rattle.rr_store.specs.Recovery.Fault.{IsOrBreaks}
use Rattle.rr_store.specs.Recovery.Kept.{AreWorded, HasPlayed, HasRoom, IsBegunBy, IsUnlawfulAfter, SpellsNoOpening}
use Rattle.rr_turns.specs.Kept.{Kept}
use Rattle.rr_store.specs.Recovery.Playing.{BeginsNoTable, IsFrontOf, No_opening, None_left, PlaysNoMore, Unlawful}
use Rattle.rr_store.proofs.RecoveryLemmas.PlayingLemmas.{or_breaks, worded_first, worded_more}

-- the words that were lent
pub lent_words : {H : Type 0} (file : List ℕ) (old new : Commands) (lent : Result (Option (Bor (List ℕ))) OfPages) (found : Option (Bor (List ℕ))) (words : Bor (List ℕ)) → lent ≡ Ok found → found ≡ Some words
    → IfOk lent (λ w. H → LendsWords file old w new) → H → Begins (rest_of file old) words.now (rest_of file new)
lent_words {H} file old new lent found words same some lends =
    subst (λ (x : Option (Bor (List ℕ))). H → LendsWords file old x new) some
    (subst (λ (x : Result (Option (Bor (List ℕ))) OfPages). IfOk x (λ w. H → LendsWords file old w new)) same lends)

pub lent_short : (found : Option (Bor (List ℕ))) (words : Bor (List ℕ)) → found ≡ Some words → IfSome found (λ w. length w.now ≤ 65535) → length words.now ≤ 65535
lent_short found words some short = subst (λ (x : Option (Bor (List ℕ))). IfSome x (λ w. length w.now ≤ 65535)) some short

module _ {H : Type 0} (kit : Kit) (file words : List ℕ) (old new : Commands) (passed : H → Begins (rest_of file old) words (rest_of file new)) where
  pub begun_never : (begun : Result Table Fault) → IfErr begun (λ fault. (fault ≡ F.OutOfMemory) ⊎ ((fault ≡ F.Damaged NotPlayed) × SpellsNoOpening words))
      → IfErr begun (IsOrBreaks NotPlayed (H → BeginsNoTable (rest_of file old)))
  begun_never (Ok table) is = tt
  begun_never (Err fault) is = or_breaks fault is (λ none honest. No_opening words (rest_of file new) (passed honest) none)

  pub played_never : (before : Table) (left : ℕ) (more : Result Bool Fault)
      → IfErr more (λ fault. (fault ≡ F.OutOfMemory)
      ⊎ ((fault ≡ F.Damaged NotPlayed) × ((left ≡ 0) ⊎ (IsPlayed kit before → HasRoom before → IsUnlawfulAfter kit (kept_in before).commands words))))
      → IfErr more (IsOrBreaks NotPlayed (IsPlayed kit before → H → PlaysNoMore kit (rest_of file old) before left))
  played_never before left (Ok m) is = tt
  played_never before left (Err fault) is = or_breaks fault is (plays_no_more before left)
    where
      plays_no_more : (before : Table) (left : ℕ) → (left ≡ 0) ⊎ (IsPlayed kit before → HasRoom before → IsUnlawfulAfter kit (kept_in before).commands words) → IsPlayed kit before → H
          → PlaysNoMore kit (rest_of file old) before left
      plays_no_more before left (inl none) played honest = None_left words (rest_of file new) (passed honest) none
      plays_no_more before left (inr unlawful) played honest = Unlawful words (rest_of file new) (passed honest) (unlawful played)

module _ (kit : Kit) (words : List ℕ) (short : length words ≤ 65535) where
  pub begun_worded : (begun : Result Table Fault) → IfOk begun (λ table. IsBegunBy kit words table) → IfOk begun (λ table. AreWorded (kept_in table).commands)
  begun_worded (Ok table) is = worded_first kit words table short is
  begun_worded (Err fault) is = tt

  pub played_worded : (before after : Table) (more : Result Bool Fault) → IfOk more (λ m. HasPlayed kit before words after)
      → IfOk more (λ m. AreWorded (kept_in before).commands → AreWorded (kept_in after).commands)
  played_worded before after (Ok m) is = worded_more kit words before after short is
  played_worded before after (Err fault) is = tt

-- a command more keeps the snapshots as they are to be
pub played_named : (kit : Kit) (words : List ℕ) (before after : Table) (more : Result Bool Fault) → IfOk more (λ m. HasPlayed kit before words after)
    → IfOk more (λ m. IsPlayed kit before → HasItsSnapshots before → HasItsSnapshots after)
played_named kit words before after (Ok m) is = is.named
played_named kit words before after (Err fault) is = tt

-- and what was kept stays in front
pub played_front : (kit : Kit) (words : List ℕ) (before after : Table) (more : Result Bool Fault) → IfOk more (λ m. HasPlayed kit before words after)
    → IfOk more (λ m. IsFrontOf (kept_in before).commands (kept_in after).commands)
played_front kit words before after (Ok m) is = (is.command ∷ [], ap (λ (kept : Kept Command). kept.commands) is.kept)
played_front kit words before after (Err fault) is = tt
