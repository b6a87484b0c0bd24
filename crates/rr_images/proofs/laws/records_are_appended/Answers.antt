use Rattle.rr_images.proofs.Calls.{appends}
use Rattle.rr_images.proofs.Commits.{journal_keeps}
use Rattle.rr_images.proofs.laws.records_are_appended.Goals as goal

pub returns : goal.returns
returns g c =
    let codec = g.C.Codec.codec in
    record {
      appended = λ layout state progress half number line old new stays takes room low goes_on between. appends codec layout state old stays progress half number line new takes room low goes_on between;
      kept = λ layout state world half number goes_on each. journal_keeps codec layout world state half number goes_on each;
    }
