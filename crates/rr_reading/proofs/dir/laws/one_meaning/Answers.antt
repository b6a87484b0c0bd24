use Rattle.rr_reading.proofs.DirLemmas.KeptLemmas.{one_kept}
use Rattle.rr_reading.proofs.DirLemmas.TableLemmas.{one_directory, one_heads}
use Rattle.rr_reading.proofs.DirLemmas.VersionLemmas.{one_version}
use Rattle.rr_reading.proofs.dir.laws.one_meaning.Goals as goal

pub returns-clause-directory : goal.returns-clause-directory
returns-clause-directory _ = one_directory

pub returns-clause-heads : goal.returns-clause-heads
returns-clause-heads _ = one_heads

pub returns-clause-versions : goal.returns-clause-versions
returns-clause-versions _ = one_version

pub returns-clause-kept : goal.returns-clause-kept
returns-clause-kept _ = one_kept
