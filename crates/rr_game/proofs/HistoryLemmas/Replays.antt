-- A table's first commands, played again.
use Rattle.std.proofs.Common.{◌≡◌, ℕ, zero, suc, ◌+◌, ◌<◌, ◌≤◌, true, List, [], ◌∷◌, ◌++◌, Some, length, take, drop, sym, ap, subst, ◌∙◌, arith, take-append-drop}
use Rattle.std.specs.Prelude.{slice_get}
use Rattle.std.proofs.Math.Logic.{∥∥₁_map}
use Rattle.std.proofs.lemmas.List.{length-take-le, take_more}
use Rattle.std.proofs.lemmas.Option.{get_or_from_slice_get, slice_get_within}
use Rattle.rr_kit.specs.declared.kit.Kit.{Kit}
use Rattle.rr_code.specs.declared.command.Command.{Command}
use Rattle.rr_turns.specs.Turns.{AreLawful}
use Rattle.rr_turns.proofs.LawfulLemmas.{lawful-at, lawful-front}
use Rattle.rr_game.specs.declared.game.Game.{Game}
use Rattle.rr_game.specs.History.Playing.{ArePlayed, IsLawfulAfter}
use Rattle.rr_game.specs.Keeping.{IsGameOf}
use Rattle.rr_game.specs.Play.{begins_with_opening}

-- the first command alone
pub first_alone : (commands : List Command) (opening : Command) → slice_get commands 0 ≡ Some opening → take 1 commands ≡ opening ∷ []
first_alone [] opening here = absurd cc
first_alone (first ∷ others) opening here =
    ap (λ (c : Command). c ∷ []) (get_or_from_slice_get (first ∷ others) 0 opening opening here)

-- a game that an opening began is that of as many commands as it played
pub begun_there : (kit : Kit) (commands : List Command) (opening : Command) (game : Game) → slice_get commands 0 ≡ Some opening
    → IsGameOf kit (opening ∷ []) game → IsGameOf kit (take game.played commands) game
begun_there kit commands opening game here begun =
    let P : List Command → Type 0 = λ cs. IsGameOf kit cs game in
    subst P (sym (ap (λ (n : ℕ). take n commands) begun.played ∙ first_alone commands opening here)) begun

some_begun : (commands : List Command) → begins_with_opening commands ≡ true → 1 ≤ length commands
some_begun [] begun = absurd cc
some_begun (_ ∷ others) begun = omega arith

-- a game of commands has played one of them
pub some_played : (kit : Kit) (commands : List Command) (game : Game) → IsGameOf kit commands game → 1 ≤ game.played
some_played kit commands game stands = omega (arith, stands.played, some_begun commands stands.opening)

-- one command more
pub one_more : (commands : List Command) (n : ℕ) (c : Command) → slice_get commands n ≡ Some c → take (n + 1) commands ≡ take n commands ++ c ∷ []
one_more commands n c here =
    take_more commands n c (slice_get_within commands n c here)
    ∙ ap (λ (d : Command). take n commands ++ d ∷ []) (get_or_from_slice_get commands n c c here)

-- commands up to one of them, it, and those behind it
split_at : (commands : List Command) (count n : ℕ) (c : Command) → n < count → slice_get commands n ≡ Some c
    → take count commands ≡ take n commands ++ c ∷ drop (suc n) (take count commands)
split_at [] count n c less here = absurd cc
split_at (first ∷ others) zero n c less here = absurd (omega (arith, less))
split_at (first ∷ others) (suc count) zero c less here =
    ap (λ (d : Command). d ∷ take count others) (get_or_from_slice_get (first ∷ others) 0 c c here)
split_at (first ∷ others) (suc count) (suc n) c less here =
    ap (λ (cs : List Command). first ∷ cs) (split_at others count n c (omega (arith, less)) here)

-- the first so many begin with the first
pub opened_whole : (commands : List Command) (count : ℕ) (opening : Command) → 1 ≤ count → slice_get commands 0 ≡ Some opening
    → take count commands ≡ opening ∷ drop 1 (take count commands)
opened_whole commands count opening some here = split_at commands count 0 opening (omega (arith, some)) here

lawful_behind : (kit : Kit) (front : List Command) (c : Command) (rest : List Command) → 1 ≤ length front → ArePlayed kit (front ++ c ∷ rest)
    → IsLawfulAfter kit front c
lawful_behind kit [] c rest some played = absurd (omega (arith, some))
lawful_behind kit (opening ∷ others) c rest some played = lawful-at (IsLawfulAfter kit) (opening ∷ []) others c rest played.1

-- of commands that were played each but the opening is lawful after those before it
pub lawful_there : (kit : Kit) (commands : List Command) (count n : ℕ) (c : Command) → 1 ≤ n → n < count → slice_get commands n ≡ Some c
    → ∥ ArePlayed kit (take count commands) ∥₁ → ∥ IsLawfulAfter kit (take n commands) c ∥₁
lawful_there kit commands count n c some less here lawful =
    let front = take n commands in
    let long : length front ≡ n =
    length-take-le n commands (let within : n < length commands = slice_get_within commands n c here in omega (arith, within)) in
    ∥∥₁_map lawful
    (λ played.
    lawful_behind kit front c (drop (suc n) (take count commands)) (omega (arith, some, long))
    (subst (ArePlayed kit) (split_at commands count n c less here) played))

-- the first of commands that were played were played
front_by : (kit : Kit) (commands : List Command) (n : ℕ) → 1 ≤ n → ArePlayed kit commands → ArePlayed kit (take n commands)
front_by kit [] n some none = absurd none
front_by kit (opening ∷ others) zero some both = absurd (omega (arith, some))
front_by kit (opening ∷ others) (suc n) some both =
    let P : List Command → Type 0 = λ l. AreLawful (IsLawfulAfter kit) (opening ∷ []) l in
    (both.0, lawful-front (IsLawfulAfter kit) (opening ∷ []) (take n others) (drop n others) (subst P (sym (take-append-drop n others)) both.1))

pub front_played : (kit : Kit) (commands : List Command) (n : ℕ) → 1 ≤ n → ∥ ArePlayed kit commands ∥₁ → ∥ ArePlayed kit (take n commands) ∥₁
front_played kit commands n some lawful = ∥∥₁_map lawful (front_by kit commands n some)
