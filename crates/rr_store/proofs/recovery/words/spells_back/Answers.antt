use Rattle.std.proofs.Common.{codes, refl}
use Rattle.rr_turns.specs.declared.request.Request.TheVariants.{Back}
use Rattle.rr_store.proofs.RecoveryLemmas.FormLemmas.{none_asked, turn_asked}
use Rattle.rr_store.proofs.recovery.words.spells_back.Goals as goal

pub returns-in-Some : goal.returns-in-Some
returns-in-Some c =
    turn_asked (codes "back") Back (λ turn short. short) (λ turn asked. asked) (λ turn. refl) c.args.words.now c.in-Some.turn.now c.number.result c.is_some.result
    c.in-Some.ensures c.number.ensures.spelled c.is_some.ensures

pub returns-in-None : goal.returns-in-None
returns-in-None c = (
  λ h. absurd (cc h),
  λ asked. absurd (none_asked (codes "back") Back (λ turn short. short) (λ turn request. request) (λ turn. refl) c.args.words.now c.in-None.ensures asked),
)
