use Rattle.std.proofs.Common.{refl}
use Rattle.rr_tiles.specs.declared.fault.Fault.TheVariants as T
use Rattle.rr_kit.proofs.KitLemmas.{no_manifest}
use Rattle.rr_kit.proofs.kit.read_tiles.Goals as goal

pub returns-in-Err : goal.returns-in-Err
returns-in-Err c = (T.BadManifest 0, refl, no_manifest _ c.in-Err.ensures.cases.0)
