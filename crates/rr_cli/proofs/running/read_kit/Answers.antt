use Rattle.std.proofs.Common.{inl, inr}
use Rattle.std.proofs.lemmas.Result.{err_from_is_err_and}
use Rattle.rr_cli.proofs.running.read_kit.Goals as goal

pub returns-in_err-read-in-Format-2-clause-not_read : goal.returns-in_err-read-in-Format-2-clause-not_read
returns-in_err-read-in-Format-2-clause-not_read g c =
    let p = err_from_is_err_and c.from_residual-in_err-read-in-Format-2.result c.from_residual-in_err-read-in-Format-2.ensures.1 in
    rw (p.1, c.in-Format.is)
    (inr (c.in_ok-read-in-Format.field-0.items, inl (cc (p.2, c.in_ok-read-in-Format.ensures.read, c.in_err-read-in-Format-2.ensures.not_read, c.as_str.ensures.value, c.as_str-in-Format.ensures.value))))

pub returns-in_err-read-in-Format-3-clause-not_read : goal.returns-in_err-read-in-Format-3-clause-not_read
returns-in_err-read-in-Format-3-clause-not_read g c =
    let p = err_from_is_err_and c.from_residual-in_err-read-in-Format-3.result c.from_residual-in_err-read-in-Format-3.ensures.1 in
    rw (p.1, c.in-Format.is)
    (inr (c.in_ok-read-in-Format.field-0.items, inr (c.in_ok-read-in-Format-2.field-0.items, inl (cc (p.2, c.in_ok-read-in-Format.ensures.read, c.in_ok-read-in-Format-2.ensures.read, c.in_err-read-in-Format-3.ensures.not_read, c.as_str.ensures.value, c.as_str-in-Format.ensures.value, c.as_str-in-Format-2.ensures.value)))))

pub returns-in_err-read-in-Format-4-clause-not_read : goal.returns-in_err-read-in-Format-4-clause-not_read
returns-in_err-read-in-Format-4-clause-not_read g c =
    let p = err_from_is_err_and c.from_residual-in_err-read-in-Format-4.result c.from_residual-in_err-read-in-Format-4.ensures.1 in
    rw (p.1, c.in-Format.is)
    (inr (c.in_ok-read-in-Format.field-0.items, inr (c.in_ok-read-in-Format-2.field-0.items, inr (c.in_ok-read-in-Format-3.field-0.items, inl (cc (p.2, c.in_ok-read-in-Format.ensures.read, c.in_ok-read-in-Format-2.ensures.read, c.in_ok-read-in-Format-3.ensures.read, c.in_err-read-in-Format-4.ensures.not_read, c.as_str.ensures.value, c.as_str-in-Format.ensures.value, c.as_str-in-Format-2.ensures.value, c.as_str-in-Format-3.ensures.value))))))
