use Rattle.rr_disk.proofs.CallLemmas.{on_err}
use Rattle.rr_log.proofs.FormattingLemmas.Calls.{zero_page_is}
use Rattle.rr_log.proofs.formatting.pages.write_zeros.Goals as goal

pub write_zero_pages-requires-clause-zeros : goal.write_zero_pages-requires-clause-zeros
write_zero_pages-requires-clause-zeros g c = zero_page_is

pub returns-in_err-write_zero_pages-clause-stops : goal.returns-in_err-write_zero_pages-clause-stops
returns-in_err-write_zero_pages-clause-stops g c = on_err c.from_residual.result c.in_err-write_zero_pages.ensures.stops
