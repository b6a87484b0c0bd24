use Rattle.rr_world_laws.proofs.FewPlays.{opens_named}
use Rattle.rr_world_laws.proofs.open_in_a_history.Goals as goal

pub returns : goal.returns
returns g c =
    let said = c.open.ensures in
    record {
      opens = record {
        opened = said.opened;
        left = said.left;
        carries = said.carries;
        only = said.only;
        whole = said.whole;
        honest = said.honest;
        honest_left = said.honest_left;
      };
      named = opens_named g.D.Disk.Honest g.D.Disk.state c.args.disk c.open.result said.snapshots said.names said.replayed;
    }
