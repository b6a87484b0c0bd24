use Rattle.std.proofs.Common.{inr, sym, subst}
use Rattle.rr_kit.specs.Kits.{KitTexts}
use Rattle.rr_store.specs.Files.{StandsFor}
use Rattle.rr_store.specs.Holding.{disk_of, held_of}
use Rattle.rr_store.specs.World.{World}
use Rattle.rr_moderator.proofs.OpeningLemmas.{wants_memory}
use Rattle.rr_moderator.proofs.moderator.Moderator.open.Goals as goal

pub returns-in-Ok-make_buffers-clause-opened : goal.returns-in-Ok-make_buffers-clause-opened
returns-in-Ok-make_buffers-clause-opened g c = λ honest texts tables stands.
    let found = c.in-Ok.ensures.opened honest in
    let only = found.1.allowed.2 texts tables stands in
    record {
      texts = found.0;
      right = found.2;
      stands = subst (λ (is : KitTexts × World). StandsFor (g.D.Disk.state c.args.disk).content is.0 is.1) (sym only.same) stands;
      whole = c.in-Ok.ensures.whole;
    }

pub returns-in-Err-make_buffers-clause-left : goal.returns-in-Err-make_buffers-clause-left
returns-in-Err-make_buffers-clause-left g c = λ honest.
    let store = c.in-Ok.store in
    let found = c.in-Ok.ensures.opened (subst g.D.Disk.Honest c.into_disk.ensures honest) in
    wants_memory g.D.Disk.state g.D.Disk.past c.args.disk (disk_of store) c.into_disk.result found.0 (held_of store).tables c.in-Err-make_buffers.fault c.in-Err-make_buffers.ensures c.into_disk.ensures found.1

pub returns-in-Ok-make_buffers-clause-opening : goal.returns-in-Ok-make_buffers-clause-opening
returns-in-Ok-make_buffers-clause-opening g c =
    record {
      opened = c.in-Ok.ensures.opened;
      left = tt;
      carries = c.in-Ok.ensures.carries;
      only = tt;
      whole = c.in-Ok.ensures.whole;
      honest = c.in-Ok.ensures.honest;
      honest_left = tt;
    }

pub returns-in-Err-make_buffers-clause-opening : goal.returns-in-Err-make_buffers-clause-opening
returns-in-Err-make_buffers-clause-opening g c =
    record {
      opened = tt;
      left = returns-in-Err-make_buffers-clause-left g c;
      carries = tt;
      only = λ honest texts kit tables right of_kit keeps. inr c.in-Err-make_buffers.ensures;
      whole = tt;
      honest = tt;
      honest_left = λ honest. c.in-Ok.ensures.honest (subst g.D.Disk.Honest c.into_disk.ensures honest);
    }
