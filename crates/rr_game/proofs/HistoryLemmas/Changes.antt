-- What each request makes of a table.
use Rattle.std.proofs.Common.{◌≡◌, ℕ, ◌+◌, ◌<◌, List, [], ◌∷◌, ◌++◌, length, take, Bool, true, false, Option, None, Some, Result, Ok, Err, IfOk, IfSome, if◌then◌else◌, refl, sym, ap, subst, ◌∙◌, arith, append-nil, length-append}
use Rattle.rr_turns.specs.declared.limits.TheConstants.{LAST_STAMP, MOST_COMMANDS}
use Rattle.rr_kit.specs.declared.kit.Kit.{Kit}
use Rattle.rr_code.specs.declared.command.Command.{Command}
use Rattle.rr_game.specs.declared.game.Game.{Game}
use Rattle.rr_turns.specs.declared.request.Request.TheVariants.{Play, Back, Forget}
use Rattle.rr_turns.specs.Kept.{Kept}
use Rattle.rr_turns.specs.Turns.{first_turns}
use Rattle.rr_game.specs.Keeping.{IsGameOf}
use Rattle.rr_game.proofs.HistoryLemmas.Plays.{goes_on}
use Rattle.rr_game.specs.declared.history.change.Change.{Change}
use Rattle.rr_game.specs.History.Changing.{Fits, IsChangeBy, KeepsBy}
use Rattle.rr_game.specs.History.GameBytes.{SpellsGame, bytes_of}
use Rattle.rr_game.specs.History.Playing.{IsLawfulAfter, IsPlayOf}
use Rattle.rr_game.specs.History.Snapshots.{IsShown, is_spaced, snapshot_due}
use Rattle.rr_game.specs.Turning.{ends_turn}

pub take_all : {X : Type 0} (xs : List X) → take (length xs) xs ≡ xs
take_all [] = refl
take_all (x ∷ xs) = ap (λ l. x ∷ l) (take_all xs)

all_of : {X : Type 0} (n : ℕ) (xs : List X) → n ≡ length xs → take n xs ≡ xs
all_of n xs e = ap (λ m. take m xs) e ∙ take_all xs

-- the commands with one more behind them
with_one : (old : Kept Command) (c : Command) (n : ℕ) → n ≡ length old.commands → take n old.commands ++ c ∷ [] ≡ old.commands ++ c ∷ []
with_one old c n all = ap (λ l. l ++ c ∷ []) (all_of n old.commands all)

pub kept_by : (kit : Kit) (old : Kept Command) (c added : Command) (snapshot : Option Game) (game : Game) (turns n plays : ℕ) → added ≡ c → n ≡ length old.commands
    → KeepsBy kit old turns (Play c) (record { stay = n; least = 0; added = Some added; snapshot = snapshot; game = Some game; floor = old.floor; plays = plays })
kept_by kit old c added snapshot game turns n plays same all =
    let K : List Command → Kept Command = λ l. record { commands = l; floor = old.floor; stamp = old.stamp + 1 } in
    ap (λ (d : Command). K (take n old.commands ++ d ∷ [])) same ∙ ap K (with_one old c n all)

pub fits_by : (old : Kept Command) (added : Command) (snapshot : Option Game) (game : Game) (n plays : ℕ) → n ≡ length old.commands → n < MOST_COMMANDS
    → old.stamp < LAST_STAMP → game.played ≡ n + 1
    → Fits old (record { stay = n; least = 0; added = Some added; snapshot = snapshot; game = Some game; floor = old.floor; plays = plays })
fits_by old added snapshot game n plays all room stamp played =
    let count : length (take n old.commands ++ added ∷ []) ≡ length (old.commands ++ added ∷ []) = ap length (with_one old added n all) in
    let one = length-append old.commands (added ∷ []) in
    record {
      room = omega (arith, all, room, count, one);
      counted = omega (arith, all, played, count, one);
      alone = λ none. absurd cc;
      stamp = stamp;
    }

-- a game's bytes spell it
abbrev pub SpellsItself : Game → Type 0
SpellsItself game = SpellsGame (bytes_of game) game.played game

-- a game that the commands make is that of the first of them, and so is its snapshot
whole_shown : (kit : Kit) (commands : List Command) (game : Game) → IsGameOf kit commands game → SpellsItself game → IsShown kit commands game
whole_shown kit commands game stands spelled =
    let G : List Command → Type 0 = λ l. IsGameOf kit l game in
    record { within = omega (arith, stands.played); stands = subst G (sym (all_of game.played commands stands.played)) stands; spelled = spelled }

due_shown : (kit : Kit) (commands : List Command) (game : Game) (snapshot : Option Game) → snapshot ≡ snapshot_due game → IfSome snapshot SpellsItself → IsGameOf kit commands game
    → IfSome snapshot (IsShown kit commands)
due_shown kit commands game snapshot due spelled stands =
    subst (λ (o : Option Game). IfSome o (IsShown kit commands)) (sym due)
    (step (is_spaced game.played) (subst (λ (o : Option Game). IfSome o SpellsItself) due spelled))
  where
    step : (b : Bool) → IfSome (if b then Some game else None) SpellsItself → IfSome (if b then Some game else None) (IsShown kit commands)
    step true spelled = whole_shown kit commands game stands spelled
    step false nothing = tt

-- a command that was judged, spelled and played
pub command_change : (kit : Kit) (old : Kept Command) (c added : Command) (snapshot : Option Game) (after : Game) (n plays : ℕ)
    → added ≡ c → snapshot ≡ snapshot_due after → IfSome snapshot SpellsItself → n ≡ length old.commands
    → IsLawfulAfter kit old.commands c → IsGameOf kit (old.commands ++ c ∷ []) after
    → IsChangeBy kit old (Play c) (record { stay = n; least = 0; added = Some added; snapshot = snapshot; game = Some after; floor = old.floor; plays = plays })
command_change kit old c added snapshot after n plays same due spelled all lawful next =
    let G : List Command → Type 0 = λ l. IsGameOf kit l after in
    let Q : List Command → Type 0 = λ l. IsPlayOf kit l after in
    let added_there : take n old.commands ++ added ∷ [] ≡ take n old.commands ++ c ∷ [] = ap (λ (d : Command). take n old.commands ++ d ∷ []) same in
    record {
      kept = kept_by kit old c added snapshot after 0 n plays same all;
      played = λ game play. subst Q (sym (added_there ∙ with_one old c n all)) (goes_on kit old.commands c game after play lawful next);
      shown = due_shown kit (take n old.commands ++ added ∷ []) after snapshot due spelled (subst G (sym (added_there ∙ with_one old c n all)) next);
    }

-- a table that is taken back
pub back_change : (kit : Kit) (old : Kept Command) (k n plays : ℕ) (game : Game) → take n old.commands ≡ first_turns (ends_turn kit) k old.commands
    → IsPlayOf kit (take n old.commands) game
    → IsChangeBy kit old (Back k) (record { stay = n; least = 0; added = None; snapshot = None; game = Some game; floor = old.floor; plays = plays })
back_change kit old k n plays game front play =
    let K : List Command → Kept Command = λ l. record { commands = l; floor = old.floor; stamp = old.stamp + 1 } in
    let P : List Command → Type 0 = λ l. IsPlayOf kit l game in
    let none = append-nil (take n old.commands) in
    record { kept = ap K (none ∙ front); played = λ before h. subst P (sym none) play; shown = tt }

-- a table that forgets
pub forget_change : (kit : Kit) (old : Kept Command) (k least n : ℕ) → n ≡ length old.commands
    → IsChangeBy kit old (Forget k) (record { stay = n; least = least; added = None; snapshot = None; game = None; floor = k; plays = 0 })
forget_change kit old k least n all =
    let K : List Command → Kept Command = λ l. record { commands = l; floor = k; stamp = old.stamp + 1 } in
    let P : Game → List Command → Type 0 = λ game l. IsPlayOf kit l game in
    let same : take n old.commands ++ [] ≡ old.commands = append-nil (take n old.commands) ∙ all_of n old.commands all in
    record { kept = ap K same; played = λ game play. subst (P game) (sym same) play; shown = tt }

-- what holds with every kit holds with one
pub with_kit : {E : Type 0} (r : Result Change E) (kit : Kit) (P : Kit → Change → Type 0) → IfOk r (λ change. (other : Kit) → P other change) → IfOk r (λ change. P kit change)
with_kit (Ok change) kit P h = h kit
with_kit (Err fault) kit P h = tt
