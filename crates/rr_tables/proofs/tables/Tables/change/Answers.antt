use Rattle.std.proofs.Common.{◌≡◌, ◌∙◌, Option, Some, is_some, IfSome, option_map, ap, sym, subst, bytes_eq}
use Rattle.std.specs.Global.{Box}
use Rattle.indexmap.specs.IndexMap.{get}
use Rattle.rr_code.specs.declared.command.Command.{Command}
use Rattle.rr_game.specs.declared.history.table.Table.{Table}
use Rattle.rr_game.specs.History.Tables.{HasItsSnapshots, IsPlayed, kept_in}
use Rattle.rr_tables.specs.Records.World.{TableState, state_after}
use Rattle.rr_turns.specs.declared.request.Request.{Request}
use Rattle.rr_tables.specs.Changing.{IsChangeOf, IsWritableChange}
use Rattle.rr_tables.specs.Tables.{kept_in_box, world_by}
use Rattle.rr_tables.specs.Writable.{IsWritable}
use Rattle.rr_tables.proofs.PlayedTables.{if_written, played_at, shows_at, stamp_rises}
use Rattle.rr_tables.proofs.WorldLemmas.{world_set}
use Rattle.rr_tables.proofs.tables.Tables.change.Goals as goal

pub invariant_of-self-clause-writable : goal.invariant_of-self-clause-writable
invariant_of-self-clause-writable c = λ name.
    let kit = c.args.self.now.kit in
    let there : get bytes_eq c.args.self.now.map c.args.name.now ≡ Some c.in-Some.table.now = sym c.in-Some.ensures.value in
    let asked : Request Command = c.requires.by.0 in
    let change : IsWritableChange kit c.in-Some.table.now.value asked c.args.change = subst (λ (o : Option (Box Table)). IsChangeOf kit o asked c.args.change) there c.requires.by.1 in
    let writable = subst (λ (kept : TableState). IsWritable kept) (sym c.make.ensures.with) change.writable in
    let same = ((c.get_mut.follows.holds c.make.new.table).3 (ap is_some there)).0 name in
    subst (λ (o : Option (Box Table)). IfSome o (λ t. IsWritable (kept_in t.value))) (sym same)
    (if_written (bytes_eq c.args.name.now name) c.make.new.table (get bytes_eq c.args.self.now.map name) (λ t. IsWritable (kept_in t.value)) writable (c.args.self.now.writable name))

pub returns-clause-world : goal.returns-clause-world
returns-clause-world c = λ request change all.
    let kit = c.args.self.now.kit in
    let there : get bytes_eq c.args.self.now.map c.args.name.now ≡ Some c.in-Some.table.now = sym c.in-Some.ensures.value in
    let made : IsWritableChange kit c.in-Some.table.now.value request c.args.change = subst (λ (o : Option (Box Table)). IsChangeOf kit o request c.args.change) there change in
    let by = made.by (played_at c.args.self.now c.args.name.now c.in-Some.table.now there all) in
    ap (world_by kept_in_box) (c.get_mut.follows.holds c.make.new.table).0
    ∙ world_set kept_in_box kit c.args.name.now c.args.self.now.map.entries c.in-Some.table.now c.make.new.table request (c.make.ensures.kept kit request by) there

pub returns-clause-stamp : goal.returns-clause-stamp
returns-clause-stamp c = λ request change.
    let kit = c.args.self.now.kit in
    let there : get bytes_eq c.args.self.now.map c.args.name.now ≡ Some c.in-Some.table.now = sym c.in-Some.ensures.value in
    let old = kept_in_box c.in-Some.table.now in
    c.make.ensures.stamp ∙ ap (λ (kept : TableState). kept.stamp) c.make.ensures.with ∙ sym (stamp_rises kit old request)
    ∙ sym (ap (λ (o : Option (Box Table)). (state_after kit (option_map kept_in_box o) request).stamp) there)

pub returns-clause-played : goal.returns-clause-played
returns-clause-played c = λ request change all name.
    let kit = c.args.self.now.kit in
    let there : get bytes_eq c.args.self.now.map c.args.name.now ≡ Some c.in-Some.table.now = sym c.in-Some.ensures.value in
    let made : IsWritableChange kit c.in-Some.table.now.value request c.args.change = subst (λ (o : Option (Box Table)). IsChangeOf kit o request c.args.change) there change in
    let before = played_at c.args.self.now c.args.name.now c.in-Some.table.now there all in
    let same = ((c.get_mut.follows.holds c.make.new.table).3 (ap is_some there)).0 name in
    subst (λ (o : Option (Box Table)). IfSome o (λ t. IsPlayed kit t.value)) (sym same)
    (if_written (bytes_eq c.args.name.now name) c.make.new.table (get bytes_eq c.args.self.now.map name) (λ t. IsPlayed kit t.value) (c.make.ensures.played kit request before (made.by before)) (all name))

pub returns-clause-snapshots : goal.returns-clause-snapshots
returns-clause-snapshots c = λ request change all shown name.
    let kit = c.args.self.now.kit in
    let there : get bytes_eq c.args.self.now.map c.args.name.now ≡ Some c.in-Some.table.now = sym c.in-Some.ensures.value in
    let made : IsWritableChange kit c.in-Some.table.now.value request c.args.change = subst (λ (o : Option (Box Table)). IsChangeOf kit o request c.args.change) there change in
    let before = played_at c.args.self.now c.args.name.now c.in-Some.table.now there all in
    let has = shows_at c.args.self.now c.args.name.now c.in-Some.table.now there shown in
    let same = ((c.get_mut.follows.holds c.make.new.table).3 (ap is_some there)).0 name in
    subst (λ (o : Option (Box Table)). IfSome o (λ t. HasItsSnapshots t.value)) (sym same)
    (if_written (bytes_eq c.args.name.now name) c.make.new.table (get bytes_eq c.args.self.now.map name) (λ t. HasItsSnapshots t.value)
    (c.make.ensures.snapshots kit request before (made.by before) made.shows has) (shown name))
