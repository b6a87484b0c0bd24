use Rattle.std.proofs.Common.{refl, sym, ◌∙◌, inl, inr, true≢false}
use Rattle.rr_operate.proofs.ending.judge_end.Goals as goal

pub returns-then-branch : goal.returns-then-branch
returns-then-branch c book h = inl (inr ((c.in_ok-owes_train.ensures.owes book h).0 c.if-branch.true, refl))

pub returns : goal.returns
returns c book h = inl (λ owes. true≢false (sym ((c.in_ok-owes_train.ensures.owes book h).1 owes) ∙ c.if-branch.false), refl)
