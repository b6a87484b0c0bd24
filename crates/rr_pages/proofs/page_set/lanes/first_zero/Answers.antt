use Rattle.std.proofs.Common.{◌+◌, ◌*◌, ap, ◌∙◌, arith}
use Rattle.rr_pages.specs.Marks.{bit_of}
use Rattle.rr_pages.proofs.WordLemmas.{bit_of-full, zero_at, ones_below}
use Rattle.rr_pages.proofs.page_set.lanes.first_zero.Goals as goal

pub returns-then-open-words-clause-set : goal.returns-then-open-words-clause-set
returns-then-open-words-clause-set c page lt =
    let open_at = c.first_open-open.result in
    ones_below c.args.words.now open_at c.first_open-open.ensures.full (c.type_inv.words open_at).fits (c.first_open-open.ensures.«open» c.if-open-words.true) page (omega arith)

pub returns-then-open-words-clause-zero : goal.returns-then-open-words-clause-zero
returns-then-open-words-clause-zero c lt =
    let open_at = c.first_open-open.result in
    ap (λ k. bit_of c.args.words.now (64 * open_at + k)) c.trailing_ones.ensures
    ∙ zero_at c.args.words.now open_at c.first_open-open.ensures.full (c.type_inv.words open_at).fits (c.first_open-open.ensures.«open» c.if-open-words.true)

pub returns-else-open-words-clause-set : goal.returns-else-open-words-clause-set
returns-else-open-words-clause-set c = bit_of-full c.args.words.now c.first_open-open.result c.first_open-open.ensures.full
