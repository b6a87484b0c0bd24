-- The buffer that appends write from.
use Rattle.std.specs.Prelude.{ℕ, vec_len}
use Rattle.rr_pages.specs.declared.journal.buffer.RecordBuffer.{RecordBuffer}

-- how many bytes it holds
abbrev pub room : RecordBuffer → ℕ
room buffer = vec_len buffer.bytes
