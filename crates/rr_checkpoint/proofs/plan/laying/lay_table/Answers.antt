use Rattle.std.proofs.Common.{◌≡◌, length, sym, ◌∙◌, arith}
use Rattle.rr_reading.proofs.DirLemmas.KeptLemmas.{length-first_commands}
use Rattle.rr_checkpoint.specs.Plan.Transcript.{commands_of, table_of}
use Rattle.rr_checkpoint.proofs.PlanLemmas.TableLemmas.{bytes_counted, bytes_fit}
use Rattle.rr_reading.specs.Worlds.World.{text_for}
use Rattle.rr_checkpoint.proofs.plan.laying.lay_table.Goals as goal

pub overflow_cast-result : goal.overflow_cast-result
overflow_cast-result g c = omega (arith, c.len.ensures, bytes_fit c.args.table.now)

pub returns-clause-entry : goal.returns-clause-entry
returns-clause-entry g c =
    let table = c.args.table.now in
    let kept : table.kept ≡ length (commands_of table) = sym (length-first_commands table.kept table.bytes.items) in
    let long : c.len.result ≡ length (text_for (table_of table)) = c.len.ensures ∙ bytes_counted table in
    λ i. record { name = table.name; stamp = table.stamp; floor = table.floor; kept = kept i; chain = record { head = c.from.result; length = long i } }
