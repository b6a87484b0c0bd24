use Rattle.std.specs.List.{flat_map}
use Rattle.std.proofs.Common.{◌++◌, length, replicate, arith, ◌∙◌, append_assoc}
use Rattle.std.proofs.lemmas.List.{length-replicate}
use Rattle.rr_words.specs.Spelling.Number.{spelled_number}
use Rattle.rr_desk.specs.Layout.Bytes.{lay_form, station_form}
use Rattle.rr_desk.specs.Layout.Slots.{no_lay, no_station}
use Rattle.rr_desk.proofs.LayoutLemmas.ByteLemmas.{behind_row, filled_first}
use Rattle.rr_desk.proofs.layout.bytes.LayoutSpell.read.Goals as goal

pub invariant_of-result : goal.invariant_of-result
invariant_of-result c = (
  filled_first no_lay 600 c.in_ok-lay_count.lay_count c.read_counted.new.slots (rw (← c.no_lay-lays.ensures) c.in_ok-lay_count.ensures.0),
  filled_first no_station 48 c.in_ok-station_count.station_count c.read_counted-2.new.slots (rw (← c.no_station-stations.ensures) c.in_ok-station_count.ensures.0),
)

pub returns-in_err-station_count : goal.returns-in_err-station_count
returns-in_err-station_count c =
    rw c.from_residual-in_err-station_count.ensures (λ value rest fits same.
    let regrouped = same ∙ append_assoc (spelled_number 2 (length value.lays) ++ flat_map lay_form.spelling value.lays) (spelled_number 2 (length value.stations) ++ flat_map station_form.spelling value.stations) rest in
    let read = c.in_ok-lay_count.ensures in
    let mid = behind_row lay_form c.in_ok-lay_count.lay_count (replicate 600 c.no_lay-lays.result) c.read_counted.new.slots value.lays c.args.cursor.now c.read_counted.new.cursor ((spelled_number 2 (length value.stations) ++ flat_map station_form.spelling value.stations) ++ rest)
    (omega (arith, length-replicate 600 c.no_lay-lays.result)) read.0 read.1 (omega (arith, fits.0.0)) fits.0.1 read.2 regrouped in
    c.in_err-station_count.ensures value.stations rest (omega (arith, fits.1.0, length-replicate 48 c.no_station-stations.result)) fits.1.1 mid)
