-- What a buffer lends.
use Rattle.std.specs.Prelude.{ℕ, List, take}
use Rattle.rr_reading.specs.declared.lending.page_buffer.PageBuffer.{PageBuffer}

-- the used bytes of the page that was read last
unfoldable pub piece_in : PageBuffer → List ℕ
piece_in buffer = take buffer.used buffer.bytes.items
