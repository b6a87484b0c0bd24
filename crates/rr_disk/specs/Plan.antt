-- Which device calls of a faulty disk fail.
use Rattle.std.specs.Prelude.{ℕ, zero, suc, Option, Some, None}
use Rattle.rr_disk.specs.declared.plan.Plan.{Plan}
use Rattle.rr_disk.specs.declared.plan.Plan.TheVariants.{After, Once, Never}

-- whether the next call fails, and then after how many bytes of a write
abbrev pub strike_of : Plan → Option ℕ
strike_of (After zero) = Some 0
strike_of (After (suc calls)) = None
strike_of (Once zero bytes) = Some bytes
strike_of (Once (suc calls) bytes) = None
strike_of Never = None

-- the plan for the calls after the next
abbrev pub plan_after : Plan → Plan
plan_after (After zero) = After zero
plan_after (After (suc calls)) = After calls
plan_after (Once zero bytes) = Never
plan_after (Once (suc calls) bytes) = Once calls bytes
plan_after Never = Never
