use Rattle.std.proofs.Common.{ap, refl}
use Rattle.clap.specs.Walk.{texts}
use Rattle.rr_cli.specs.Plan.{AreRefused}
use Rattle.rr_cli.specs.Running.{Not_planned, Planned, Words_refused}
use Rattle.rr_cli.proofs.RunningLemmas.{wants_memory, words_refused}
use Rattle.rr_cli.proofs.running.run.Goals as goal

pub returns-in-Ok : goal.returns-in-Ok
returns-in-Ok g c = Planned c.in-Ok.plan c.in-Ok.ensures.planned c.carry_out.ensures refl

pub returns-in-Err-Words : goal.returns-in-Err-Words
returns-in-Err-Words g c =
    let fault = c.in-Err-Words.field-0 in
    let refused = words_refused fault (AreRefused (texts c.args.words.now)) (ap wants_memory c.in-Err-Words.field-0-is) c.in-Err-Words.ensures.refused in
    Words_refused c.as_str.result.now refused refl refl refl c.refuse_words.ensures.told c.refuse_words.ensures.status c.refuse_words.ensures.left

pub returns : goal.returns
returns g c = Not_planned refl refl refl c.end.ensures
