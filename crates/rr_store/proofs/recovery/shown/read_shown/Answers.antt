use Rattle.std.proofs.Common.{◌≡◌, ◌≢◌, ℕ, List, [], ◌++◌, Option, None, Some, MatchOption, ap, sym, subst, ◌∙◌}
use Rattle.std.specs.Rc.{rc_slice_items}
use Rattle.rr_game.specs.declared.game.Game.{Game}
use Rattle.rr_game.specs.declared.parts.Parts.{Parts}
use Rattle.rr_game.specs.History.GameBytes.{SpellsGame, SpellsOneGame}
use Rattle.rr_game.specs.Parts.{game_form, parts_of}
use Rattle.rr_store.proofs.recovery.shown.read_shown.Goals as goal

-- games of the same bytes have played as many commands
as_many : (bytes : List ℕ) (first second : ℕ) (game other : Game) → SpellsGame bytes first game → SpellsGame bytes second other → first ≡ second
as_many bytes first second game other one two =
    let whole : game_form.spelling (parts_of game) ++ [] ≡ game_form.spelling (parts_of other) ++ [] = ap (λ (bs : List ℕ). bs ++ []) (sym one.spelled ∙ two.spelled) in
    let same : parts_of game ≡ parts_of other = (game_form.one_way (parts_of game) (parts_of other) [] [] one.fits two.fits whole).0 in
    let played : game.played ≡ other.played = ap (λ (parts : Parts). parts.played) same in one.counted ∙ played ∙ sym two.counted

of_this_count : (bytes : List ℕ) (count : ℕ) (game : Game) (found : Option Game) → SpellsGame bytes game.played game
    → MatchOption found (game.played ≢ count) (λ g. (g ≡ game) × (game.played ≡ count)) → MatchOption found (SpellsOneGame bytes count → ⊥) (λ g. SpellsGame bytes count g)
of_this_count bytes count game None spells other = λ one. other (as_many bytes game.played count game one.0 spells one.1)
of_this_count bytes count game (Some found) spells same =
    subst (λ (g : Game). SpellsGame bytes count g) (sym same.0) (subst (λ (n : ℕ). SpellsGame bytes n game) same.1 spells)

pub returns-in-Ok-Some-clause-value : goal.returns-in-Ok-Some-clause-value
returns-in-Ok-Some-clause-value c =
    let read = rw c.in-Ok-Some.field-0-is at c.in-Ok-Some.ensures.value in
    of_this_count (rc_slice_items c.args.chain.now.bytes) c.args.entry.now.kept c.in-Ok-Some.snapshot c.of_count.result read c.of_count.ensures

pub returns-in-Ok-None-clause-value : goal.returns-in-Ok-None-clause-value
returns-in-Ok-None-clause-value c =
    let none = rw c.in-Ok-None.field-0-is at c.in-Ok-None.ensures.value in
    λ spells. none c.args.entry.now.kept spells
