-- The counts at the ends of a game's turns.
use Rattle.std.proofs.Common.{◌≡◌, ℕ, ◌+◌, ◌<◌, ◌≤◌, Bool, true, false, List, [], ◌∷◌, ◌++◌, length, take, if◌then◌else◌, sym, ap, subst, ◌∙◌, arith, append-nil, length-append}
use Rattle.std.specs.Prelude.{Option, None, Some, IfSome, slice_get}
use Rattle.std.specs.List.{All}
use Rattle.std.proofs.lemmas.List.Elements.{All-append, All-cons, All-nil, All-weaker}
use Rattle.std.proofs.lemmas.Option.{get_or_from_slice_get, slice_get_within}
use Rattle.rr_turns.specs.declared.limits.TheConstants.{MOST_COMMANDS}
use Rattle.rr_turns.specs.Ends.{kept_at, turn_ends}
use Rattle.rr_turns.specs.Turns.{ended_turns, first_turns}
use Rattle.rr_turns.proofs.EndLemmas.{back_keeps_its_count, each_turn_has_its_end, ends_grow}
use Rattle.rr_kit.specs.declared.kit.Kit.{Kit}
use Rattle.rr_code.specs.declared.command.Command.{Command}
use Rattle.rr_code.specs.declared.command.Command.TheVariants.{Open}
use Rattle.rr_game.specs.declared.game.Game.{Game}
use Rattle.rr_game.specs.Keeping.{IsGameOf}
use Rattle.rr_game.specs.Play.{begins_with_opening}
use Rattle.rr_game.specs.Turning.{AreWithin, ends_turn}
use Rattle.rr_game.proofs.Playing.{opens}

-- with one command more

pub ends_push : (kit : Kit) (accepted : List Command) (c : Command) → begins_with_opening accepted ≡ true
    → turn_ends (ends_turn kit) (accepted ++ c ∷ []) ≡ turn_ends (ends_turn kit) accepted ++ (if ends_turn kit accepted c then (length accepted + 1) ∷ [] else [])
ends_push kit accepted c h =
    let o = opens accepted h in
    let P : List Command → Type 0 = λ cs. turn_ends (ends_turn kit) (cs ++ c ∷ []) ≡ turn_ends (ends_turn kit) cs ++ (if ends_turn kit cs c then (length cs + 1) ∷ [] else []) in
    subst P (sym o.split) (ends_grow Command (ends_turn kit) (Open o.players) o.others c)

pub no_end : (kit : Kit) (accepted : List Command) (c : Command) (game : Game) → IsGameOf kit accepted game → false ≡ ends_turn kit accepted c
    → game.ends ≡ turn_ends (ends_turn kit) (accepted ++ c ∷ [])
no_end kit accepted c game h none =
    let counts = turn_ends (ends_turn kit) accepted in
    h.ends ∙ sym (append-nil counts)
    ∙ ap (λ (b : Bool). counts ++ (if b then (length accepted + 1) ∷ [] else [])) none
    ∙ sym (ends_push kit accepted c h.opening)

pub one_end : (kit : Kit) (accepted : List Command) (c : Command) (game : Game) (new : List ℕ) → IsGameOf kit accepted game → true ≡ ends_turn kit accepted c
    → new ≡ game.ends ++ (game.played + 1) ∷ [] → new ≡ turn_ends (ends_turn kit) (accepted ++ c ∷ [])
one_end kit accepted c game new h some is =
    let counts = turn_ends (ends_turn kit) accepted in
    is ∙ ap (λ (xs : List ℕ). xs ++ (game.played + 1) ∷ []) h.ends
    ∙ ap (λ (n : ℕ). counts ++ (n + 1) ∷ []) h.played
    ∙ ap (λ (b : Bool). counts ++ (if b then (length accepted + 1) ∷ [] else [])) some
    ∙ sym (ends_push kit accepted c h.opening)

-- counts within those of the commands that were played

pub later : (played : ℕ) (counts : List ℕ) → AreWithin played counts → All (λ (earlier : ℕ). earlier < played + 1) counts
later played counts within = All-weaker (λ (count : ℕ). count ≤ played) (λ (count : ℕ). count < played + 1) (λ count h. omega (arith, h)) counts within.most

pub within_still : (played : ℕ) (counts : List ℕ) → AreWithin played counts → AreWithin (played + 1) counts
within_still played counts within = record {
  most = All-weaker (λ (count : ℕ). count ≤ played) (λ (count : ℕ). count ≤ played + 1) (λ count h. omega (arith, h)) counts within.most;
  few = let few = within.few in omega (arith, few);
}

pub within_with : (played : ℕ) (counts new : List ℕ) → AreWithin played counts → new ≡ counts ++ (played + 1) ∷ [] → AreWithin (played + 1) new
within_with played counts new within is =
    let P : ℕ → Type 0 = λ count. count ≤ played + 1 in
    let one : All P ((played + 1) ∷ []) = All-cons P (played + 1) [] (omega arith) (All-nil P) in
    let few = within.few in
    let sum = length-append counts ((played + 1) ∷ []) in
    subst (λ (xs : List ℕ). AreWithin (played + 1) xs) (sym is) (record {
      most = All-append P counts ((played + 1) ∷ []) (within_still played counts within).most one;
      few = omega (arith, few, sum);
    })

pub within_at : (played : ℕ) (counts : List ℕ) (k : ℕ) (r : Option ℕ) → AreWithin played counts → r ≡ slice_get counts k
    → IfSome r (λ count. (1 ≤ count) × (count ≤ MOST_COMMANDS)) → IfSome r (λ count. (1 ≤ count) × (count ≤ played))
within_at played counts k None within is few = tt
within_at played counts k (Some count) within is few =
    let at : kept_at counts k ≡ count = get_or_from_slice_get counts k count 0 (sym is) in
    (few.0, subst (λ (n : ℕ). n ≤ played) at (within.most k 0 (slice_get_within counts k count (sym is))))

-- what they tell of the commands

pub turns_told : (kit : Kit) (accepted : List Command) (game : Game) → IsGameOf kit accepted game → length game.ends ≡ ended_turns (ends_turn kit) accepted + 1
turns_told kit accepted game h =
    let o = opens accepted h.opening in
    let P : List Command → Type 0 = λ cs. length (turn_ends (ends_turn kit) cs) ≡ ended_turns (ends_turn kit) cs + 1 in
    ap length h.ends ∙ subst P (sym o.split) (each_turn_has_its_end Command (ends_turn kit) (Open o.players) o.others)

pub front_told : (kit : Kit) (accepted : List Command) (game : Game) (k : ℕ) → IsGameOf kit accepted game → k ≤ ended_turns (ends_turn kit) accepted
    → first_turns (ends_turn kit) k accepted ≡ take (kept_at game.ends k) accepted
front_told kit accepted game k h ended =
    back_keeps_its_count Command (ends_turn kit) accepted k ended
    ∙ ap (λ (xs : List ℕ). take (kept_at xs k) accepted) (sym h.ends)

pub count_told : (counts : List ℕ) (k count : ℕ) → slice_get counts k ≡ Some count → kept_at counts k ≡ count
count_told counts k count is = get_or_from_slice_get counts k count 0 is

pub kept_within : (kit : Kit) (accepted : List Command) (game : Game) (k : ℕ) → IsGameOf kit accepted game → k ≤ ended_turns (ends_turn kit) accepted
    → kept_at game.ends k ≤ length accepted
kept_within kit accepted game k h ended =
    let told = turns_told kit accepted game h in
    subst (λ (n : ℕ). kept_at game.ends k ≤ n) h.played (game.within.most k 0 (omega (arith, told, ended)))
