use Rattle.std.proofs.Common.{◌≡◌, ◌≤◌, length, map, ap, subst, sym, ◌∙◌, arith}
use Rattle.std.proofs.lemmas.Grind.{common_steps}
use Rattle.std.proofs.lemmas.Result.{err_from_is_err_and}
use Rattle.rr_words.specs.Text.{row_of}
use Rattle.rr_kit.specs.Board.Reading.{Spells}
use Rattle.rr_kit.proofs.BoardLemmas.RowLemmas.{IsWholeBoard-spelled, Spells-once, Spells-read, refused-not_ascii, refused-without_hex, refused-wrong}
use Rattle.rr_kit.proofs.board.board.Board.read.Goals as goal

pub returns-in_default-clause-read : goal.returns-in_default-clause-read
returns-in_default-clause-read c = refused-not_ascii c.args.text.now (rw c.in_default.is at c.in_ok-rows.ensures.rows)

pub returns-in_err-draft-clause-read : goal.returns-in_err-draft-clause-read
returns-in_err-draft-clause-read c =
    let text = rw c.in-Some.is at c.in_ok-rows.ensures.rows in
    let p = err_from_is_err_and c.from_residual-in_err-draft.result c.from_residual-in_err-draft.ensures.1 in
    rw (p.1, p.2) (refused-wrong c.args.text.now (map row_of c.deref.result.now) _ text.0 (ap (map row_of) c.deref.ensures.value ∙ text.1) c.in_err-draft.ensures)

pub returns-then-is_empty-clause-read : goal.returns-then-is_empty-clause-read
returns-then-is_empty-clause-read c =
    let text = rw c.in-Some.is at c.in_ok-rows.ensures.rows in
    let none : length c.in_ok-draft.draft.hexes ≡ 0 = grind (arith, common_steps) in
    refused-without_hex c.args.text.now (map row_of c.deref.result.now) c.in_ok-draft.draft text.0 (ap (map row_of) c.deref.ensures.value ∙ text.1) c.in_ok-draft.ensures none

pub of-requires : goal.of-requires
of-requires c =
    let text = rw c.in-Some.is at c.in_ok-rows.ensures.rows in
    let some : 1 ≤ length c.in_ok-draft.draft.hexes = grind (arith, common_steps) in
    IsWholeBoard-spelled c.args.text.now c.in_ok-draft.draft (Spells-read c.args.text.now (map row_of c.deref.result.now) c.in_ok-draft.draft text.0 (ap (map row_of) c.deref.ensures.value ∙ text.1) c.in_ok-draft.ensures some)

pub returns-clause-read : goal.returns-clause-read
returns-clause-read c =
    let text = rw c.in-Some.is at c.in_ok-rows.ensures.rows in
    let some : 1 ≤ length c.in_ok-draft.draft.hexes = grind (arith, common_steps) in
    subst (Spells c.args.text.now) (sym c.of.ensures) (Spells-read c.args.text.now (map row_of c.deref.result.now) c.in_ok-draft.draft text.0 (ap (map row_of) c.deref.ensures.value ∙ text.1) c.in_ok-draft.ensures some)

pub returns-clause-only : goal.returns-clause-only
returns-clause-only c = λ other spelled. Spells-once c.args.text.now c.of.result other (returns-clause-read c) spelled
