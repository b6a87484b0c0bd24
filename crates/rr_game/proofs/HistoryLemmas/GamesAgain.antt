-- The game that a snapshot's bytes spell, made again.
use Rattle.std.specs.Prelude.{MatchOption}
use Rattle.std.proofs.Common.{◌≡◌, ℕ, Bool, false, List, [], ◌++◌, Option, None, Some, ap, refl, subst, sym, ◌∙◌, IsTrue, ◌↔◌}
use Rattle.std.proofs.Math.Logic.{∥∥₁_elim}
use mathlib.Core.HLevel.{⊥_prop}
use Rattle.rr_game.specs.declared.game.Game.{Game}
use Rattle.rr_game.specs.declared.parts.Parts.{Parts}
use Rattle.rr_game.specs.History.GameBytes.{SpellsGame, SpellsOneGame, bytes_of}
use Rattle.rr_game.specs.Parts.{AreParts, game_form, game_of, parts_of}
use Rattle.rr_game.proofs.PartsLemmas.{made_of}

-- bytes that were written behind none spell the game whose values they are
abbrev pub spelled_by : (bytes before : List ℕ) (count : ℕ) (parts : Parts) (game : Game) → count ≡ game.played → before ≡ [] → bytes ≡ before ++ game_form.spelling parts → parts ≡ parts_of game
    → AreParts parts → game_form.Fits parts → SpellsOneGame bytes count
spelled_by bytes before count parts game counted none written same sound fits = (
  game,
  record {
    sound = ∣ subst AreParts same sound ∣₁;
    fits = subst (λ (p : Parts). game_form.Fits p) same fits;
    spelled = written ∙ ap (λ (bs : List ℕ). bs ++ game_form.spelling parts) none ∙ ap game_form.spelling same;
    counted = counted;
  },
)

-- a game that bytes spell is spelled by its own
pub spells_itself : (bytes : List ℕ) (count : ℕ) (game : Game) → SpellsGame bytes count game → SpellsGame (bytes_of game) game.played game
spells_itself bytes count game spelled = record { sound = spelled.sound; fits = spelled.fits; spelled = refl; counted = refl }

-- bytes of values that a game may have spell the game that is made of them
abbrev pub spelled_read : (bytes kept : List ℕ) (count : ℕ) (parts : Parts) → kept ≡ bytes → count ≡ parts.played
    → game_form.Fits parts × (bytes ≡ game_form.spelling parts) → AreParts parts → SpellsOneGame kept count
spelled_read bytes kept count parts same counted is sound =
    spelled_by kept [] count parts (game_of parts sound) counted refl (same ∙ is.1) refl sound is.0

-- bytes of a game are those of some values
pub values_read : (bytes read : List ℕ) (count : ℕ) → read ≡ bytes → SpellsOneGame bytes count → ((parts : Parts) → game_form.Fits parts → read ≡ game_form.spelling parts → ⊥) → ⊥
values_read bytes read count same spelled none = none (parts_of spelled.0) spelled.1.fits (same ∙ spelled.1.spelled)

-- and of the game's alone
its_values : (bytes read : List ℕ) (count : ℕ) (parts : Parts) → read ≡ bytes → (spelled : SpellsOneGame bytes count) → game_form.Fits parts → read ≡ game_form.spelling parts → parts ≡ parts_of spelled.0
its_values bytes read count parts same spelled fits is =
    let whole : game_form.spelling parts ++ [] ≡ game_form.spelling (parts_of spelled.0) ++ [] =
    ap (λ (bs : List ℕ). bs ++ []) (sym is ∙ same ∙ spelled.1.spelled) in
    (game_form.one_way parts (parts_of spelled.0) [] [] fits spelled.1.fits whole).0

-- which a game may have
pub values_sound : (bytes read : List ℕ) (count : ℕ) (parts : Parts) (sound : Bool) → read ≡ bytes → SpellsOneGame bytes count → game_form.Fits parts × (read ≡ game_form.spelling parts)
    → (IsTrue sound ↔ AreParts parts) → sound ≡ false → ⊥
values_sound bytes read count parts sound same spelled is told unsound =
    let none : AreParts parts → ⊥ = λ are. let yes : IsTrue sound = told.1 are in cc in
    ∥∥₁_elim spelled.1.sound ⊥_prop (λ are. none (subst AreParts (sym (its_values bytes read count parts same spelled is.0 is.1)) are))

-- a game may have them, and it is the one that was spelled
pub game_there : (bytes read : List ℕ) (count : ℕ) (parts : Parts) (found : Option Game) → read ≡ bytes → SpellsOneGame bytes count → game_form.Fits parts × (read ≡ game_form.spelling parts)
    → found ≡ None → MatchOption found (AreParts parts → ⊥) (λ game. (sound : AreParts parts) × (game ≡ game_of parts sound)) → ⊥
game_there bytes read count parts found same spelled is nothing made =
    let none = subst (λ (o : Option Game). MatchOption o (AreParts parts → ⊥) (λ game. (sound : AreParts parts) × (game ≡ game_of parts sound))) nothing made in
    ∥∥₁_elim spelled.1.sound ⊥_prop (λ sound. none (subst AreParts (sym (its_values bytes read count parts same spelled is.0 is.1)) sound))

pub game_again : (bytes read : List ℕ) (count : ℕ) (parts : Parts) (found : Option Game) (game : Game) → read ≡ bytes → (spelled : SpellsOneGame bytes count)
    → game_form.Fits parts × (read ≡ game_form.spelling parts)
    → found ≡ Some game → MatchOption found (AreParts parts → ⊥) (λ game. (sound : AreParts parts) × (game ≡ game_of parts sound)) → game ≡ spelled.0
game_again bytes read count parts found game same spelled is there made =
    let one = subst (λ (o : Option Game). MatchOption o (AreParts parts → ⊥) (λ game. (sound : AreParts parts) × (game ≡ game_of parts sound))) there made in
    one.1 ∙ made_of spelled.0 parts (its_values bytes read count parts same spelled is.0 is.1) one.0
