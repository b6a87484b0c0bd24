use Rattle.std.proofs.Common.{rules}
use Rattle.std.proofs.lemmas.Str.{IsUtf8-from_ascii}
use Rattle.rr_store.proofs.formatting.names_bank.Goals as goal

pub returns-in-Err : goal.returns-in-Err
returns-in-Err c = (λ yes. search rules, λ named. absurd (c.in-Err.ensures.cases.0 (IsUtf8-from_ascii c.args.text.now named.1.ascii)))
