use Rattle.std.proofs.Common.{◌≡◌, ◌∙◌, ℕ, List, map, Option, Some, is_some, IfSome, OnOk, option_map, refl, ap, sym, subst, bytes_eq}
use Rattle.std.specs.Global.{Box}
use Rattle.indexmap.specs.IndexMap.{get}
use Rattle.rr_game.specs.declared.history.table.Table.{Table}
use Rattle.rr_game.specs.History.Tables.{HasItsSnapshots, IsPlayed, kept_in}
use Rattle.rr_game.proofs.HistoryLemmas.Making.{stays_named, stays_played}
use Rattle.rr_tables.specs.Records.World.{TableState}
use Rattle.rr_tables.specs.Changing.{HasRoomIn, IsChangeOf}
use Rattle.rr_tables.specs.Records.Words.{table_in_words}
use Rattle.rr_tables.specs.Tables.{kept_in_box, lent_snapshots, world_by}
use Rattle.rr_tables.specs.Writable.{IsWritable}
use Rattle.rr_tables.proofs.LendingLemmas.{in_box, lent_games_same, lent_set}
use Rattle.rr_tables.proofs.PlayedTables.{if_written, played_at, same_change, shows_at}
use Rattle.rr_tables.proofs.WorldLemmas.{world_same}
use Rattle.rr_tables.proofs.tables.Tables.reserve.Goals as goal

pub invariant_of-self-clause-writable : goal.invariant_of-self-clause-writable
invariant_of-self-clause-writable c = λ name.
    let there : get bytes_eq c.args.self.now.map c.args.name.now ≡ Some c.in-Some.table.now = sym c.in-Some.ensures.value in
    let before = subst (λ (o : Option (Box Table)). IfSome o (λ t. IsWritable (kept_in t.value))) there (c.args.self.now.writable c.args.name.now) in
    let writable = subst (λ (kept : TableState). IsWritable kept) (sym c.make_room.ensures.kept) before in
    let same = ((c.get_mut.follows.holds c.make_room.new.table).3 (ap is_some there)).0 name in
    subst (λ (o : Option (Box Table)). IfSome o (λ t. IsWritable (kept_in t.value))) (sym same)
    (if_written (bytes_eq c.args.name.now name) c.make_room.new.table (get bytes_eq c.args.self.now.map name) (λ t. IsWritable (kept_in t.value)) writable (c.args.self.now.writable name))

pub returns-clause-room : goal.returns-clause-room
returns-clause-room c =
    let there : get bytes_eq c.args.self.now.map c.args.name.now ≡ Some c.in-Some.table.now = sym c.in-Some.ensures.value in
    let here = ((c.get_mut.follows.holds c.make_room.new.table).3 (ap is_some there)).1 in
    subst (λ (o : Option (Box Table)). OnOk c.make_room.result (HasRoomIn o c.args.change.now)) (sym here) c.make_room.ensures.room

pub returns-clause-change : goal.returns-clause-change
returns-clause-change c = λ request change.
    let kit = c.args.self.now.kit in
    let there : get bytes_eq c.args.self.now.map c.args.name.now ≡ Some c.in-Some.table.now = sym c.in-Some.ensures.value in
    let here = ((c.get_mut.follows.holds c.make_room.new.table).3 (ap is_some there)).1 in
    let Is : Option (Box Table) → Type 0 = λ o. IsChangeOf kit o request c.args.change.now in
    subst Is (sym here)
    (same_change kit c.in-Some.table.now.value c.make_room.new.table.value request c.args.change.now c.make_room.ensures.kept c.make_room.ensures.game c.make_room.ensures.snapshots (subst Is there change))

pub returns-clause-same : goal.returns-clause-same
returns-clause-same c =
    let kit = c.args.self.now.kit in
    let there : get bytes_eq c.args.self.now.map c.args.name.now ≡ Some c.in-Some.table.now = sym c.in-Some.ensures.value in
    let written = c.get_mut.follows.holds c.make_room.new.table in
    let updates = written.3 (ap is_some there) in
    let world =
    ap (world_by kept_in_box) written.0
    ∙ world_same kept_in_box c.args.name.now c.args.self.now.map.entries c.in-Some.table.now c.make_room.new.table c.make_room.ensures.kept there in
    let lent =
    ap (λ (es : List (List ℕ × Box Table)). lent_snapshots 0 (map in_box es)) written.0
    ∙ lent_set 0 c.args.name.now c.args.self.now.map.entries c.in-Some.table.now c.make_room.new.table
    (lent_games_same c.in-Some.table.now.value c.make_room.new.table.value c.make_room.ensures.kept c.make_room.ensures.snapshots) there in
    record {
      kit = refl;
      world = world;
      lent = λ i. record {
        tables = map table_in_words (world i);
        snapshots = lent i;
      };
      table =
          ap (option_map kept_in_box) updates.1 ∙ ap (λ (kept : TableState). Some kept) c.make_room.ensures.kept
          ∙ sym (ap (option_map kept_in_box) there);
      played = λ all name.
          subst (λ (o : Option (Box Table)). IfSome o (λ t. IsPlayed kit t.value)) (sym (updates.0 name))
          (if_written (bytes_eq c.args.name.now name) c.make_room.new.table (get bytes_eq c.args.self.now.map name) (λ t. IsPlayed kit t.value)
          (stays_played kit c.in-Some.table.now.value c.make_room.new.table.value c.make_room.ensures.kept c.make_room.ensures.game c.make_room.ensures.snapshots (played_at c.args.self.now c.args.name.now c.in-Some.table.now there all))
          (all name));
      snapshots = λ all name.
          subst (λ (o : Option (Box Table)). IfSome o (λ t. HasItsSnapshots t.value)) (sym (updates.0 name))
          (if_written (bytes_eq c.args.name.now name) c.make_room.new.table (get bytes_eq c.args.self.now.map name) (λ t. HasItsSnapshots t.value)
          (stays_named c.in-Some.table.now.value c.make_room.new.table.value c.make_room.ensures.kept c.make_room.ensures.game c.make_room.ensures.snapshots (shows_at c.args.self.now c.args.name.now c.in-Some.table.now there all))
          (all name));
    }
