use Rattle.std.proofs.Common.{◌↔◌, ℕ, List, Bool, Option, None, Some, IsTrue, MatchOption, refl, sym, subst}
use Rattle.std.specs.Option.{is_some}
use Rattle.std.specs.Rc.{rc_slice_items}
use Rattle.rr_game.specs.declared.game.Game.{Game}
use Rattle.rr_game.specs.History.GameBytes.{SpellsGame, SpellsOneGame}
use Rattle.rr_store.proofs.recovery.shown.tells_game.Goals as goal

some_told : (bytes : List ℕ) (count : ℕ) (found : Option Game) → MatchOption found (SpellsOneGame bytes count → ⊥) (λ game. SpellsGame bytes count game) → IsTrue (is_some found) ↔ SpellsOneGame bytes count
some_told bytes count None none = (λ is. absurd (cc is), λ one. absurd (none one))
some_told bytes count (Some game) spells = (λ is. (game, spells), λ one. refl)

pub returns-clause-told : goal.returns-clause-told
returns-clause-told c =
    subst (λ (told : Bool). IsTrue told ↔ SpellsOneGame (rc_slice_items c.args.chain.now.bytes) c.args.entry.now.kept) (sym c.is_some.ensures)
    (some_told (rc_slice_items c.args.chain.now.bytes) c.args.entry.now.kept c.in_ok-snapshot.snapshot c.in_ok-snapshot.ensures.value)
