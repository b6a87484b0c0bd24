use Rattle.std.proofs.Common.{◌≡◌, ◌∙◌, List, ℕ, arith}
use Rattle.rr_turns.specs.Words.{spelled_commands}
use Rattle.rr_checkpoint.proofs.PlanLemmas.TableLemmas.{same_commands, spells_them}
use Rattle.rr_checkpoint.proofs.plan.table.TableTranscript.of.Goals as goal

pub invariant_of-result : goal.invariant_of-result
invariant_of-result c =
    let bytes : List ℕ = c.in_ok-to_vec.field-0.items in
    let commands = c.args.commands.now.commands in
    let are : bytes ≡ spelled_commands commands = c.in_ok-to_vec.ensures.items_if_clones_equal (λ x y e. e) ∙ c.as_bytes-2.ensures.value in
    record {
      named = c.as_bytes.ensures.spelling;
      stamped = c.requires;
      floored = omega (arith, c.ranges.floor.fits);
      few_kept = omega (arith, c.len.ensures.few);
      spelled = spells_them bytes commands c.len.result c.as_bytes-2.ensures.short are c.len.ensures.value;
    }

pub returns-clause-table : goal.returns-clause-table
returns-clause-table c =
    let bytes : List ℕ = c.in_ok-to_vec.field-0.items in
    let commands = c.args.commands.now.commands in
    let are : bytes ≡ spelled_commands commands = c.in_ok-to_vec.ensures.items_if_clones_equal (λ x y e. e) ∙ c.as_bytes-2.ensures.value in
    let same = same_commands bytes commands c.len.result c.as_bytes-2.ensures.short are c.len.ensures.value in
    λ i. record { name = c.args.name.now; kept = record { commands = same i; floor = c.args.floor; stamp = c.args.stamp } }
