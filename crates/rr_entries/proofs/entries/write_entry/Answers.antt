use Rattle.rr_entries.proofs.entries.write_entry.Goals as goal

pub returns-in-Mark : goal.returns-in-Mark
returns-in-Mark c = rw c.in-Mark.is (c.write_mark.ensures c.args.players.now)

pub returns-in-Lay : goal.returns-in-Lay
returns-in-Lay c = rw c.in-Lay.is (c.write_lay.ensures c.args.players.now)

pub returns-in-Station : goal.returns-in-Station
returns-in-Station c = rw c.in-Station.is (c.write_station.ensures c.args.players.now)

pub returns-in-Best : goal.returns-in-Best
returns-in-Best c = rw (c.in-Best.is, ← c.as_bytes.ensures) (c.write_best.ensures c.args.players.now c.in-Best.certificate)
