-- Snapshots of two tables that keep two commands each.
use Rattle.std.proofs.Common.{◌≡◌, ◌∙◌, ℕ, zero, suc, ◌<◌, ◌≤◌, List, [], ◌∷◌, ◌++◌, length, map, refl, ap, arith}
use Rattle.std.specs.List.{All}
use Rattle.std.proofs.lemmas.List.Elements.{All-nil, All-cons, All-same}
use Rattle.rr_checkpoint.specs.Plan.Snapshots.{IsSnapshotOf, StandsBefore}
use Rattle.rr_reading.specs.Worlds.World.{Snapshot, Table}

abbrev pub count_of : Table → ℕ
count_of table = length table.kept.commands

pub of_two : (tables : List Table) (place kept : ℕ) (bytes : List ℕ) → map count_of tables ≡ 2 ∷ 2 ∷ [] → place < 2 → 1 ≤ kept → kept ≤ 2 → length bytes ≤ 16384 → IsSnapshotOf tables (record { table = place; kept = kept; bytes = bytes })
of_two [] place kept bytes counts within some few short = absurd (cc)
of_two (first ∷ []) place kept bytes counts within some few short = absurd (cc)
of_two (first ∷ second ∷ tables) zero kept bytes counts within some few short =
    let count : count_of first ≡ 2 = cc in
    record { table = first; of_table = refl; some_kept = some; within = omega (arith, count, few); short = short }
of_two (first ∷ second ∷ tables) (suc zero) kept bytes counts within some few short =
    let count : count_of second ≡ 2 = cc in
    record { table = second; of_table = refl; some_kept = some; within = omega (arith, count, few); short = short }
of_two (first ∷ second ∷ tables) (suc (suc place)) kept bytes counts within some few short = absurd (omega (arith, within))

-- a snapshot of the second table stands behind two of the first
pub behind_two : (all one two : List Snapshot) (first second third : Snapshot) → two ≡ one ++ second ∷ [] → one ≡ all ++ first ∷ [] → all ≡ [] → first.table ≡ 0 → second.table ≡ 0 → third.table ≡ 1 → All (λ (other : Snapshot). StandsBefore other third) two
behind_two all one two first second third second_is first_is none a b d =
    let P : Snapshot → Type 0 = λ other. StandsBefore other third in
    let listed : two ≡ first ∷ second ∷ [] = second_is ∙ (ap (λ (xs : List Snapshot). xs ++ second ∷ []) (first_is ∙ ap (λ (xs : List Snapshot). xs ++ first ∷ []) none)) in
    All-same P two (first ∷ second ∷ []) listed
    (All-cons P first (second ∷ []) (omega (arith, a, d), λ same. absurd (omega (arith, a, d, same)))
    (All-cons P second [] (omega (arith, b, d), λ same. absurd (omega (arith, b, d, same))) (All-nil P)))
