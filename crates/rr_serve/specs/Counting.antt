-- What the readers and writers that count their failures are made of.
use Rattle.std.specs.Prelude.{ℕ, List, [], Option, Some, if◌then◌else◌}
use Rattle.rr_serve.specs.Streams.{InputState, OutputState}
use Rattle.rr_serve.specs.declared.input.CountingReader.{CountingReader}
use Rattle.rr_serve.specs.declared.output.CountingWriter.{CountingWriter}

-- the reader beneath
abbrev pub reader_beneath : {R : Type 0} → CountingReader R → R
reader_beneath counting = counting.reader

-- what it has seen: at its end nothing is left, before that what is left of the reader beneath
abbrev pub input_state : {R : Type 0} → (R → Option (List ℕ)) → CountingReader R → InputState
input_state remaining counting =
    record {
      given = counting.notes.bytes;
      remaining = if counting.at_end then Some [] else remaining counting.reader;
      most = counting.left;
      failures = counting.failures;
    }

-- the writer beneath
abbrev pub writer_beneath : {W : Type 0} → CountingWriter W → W
writer_beneath counting = counting.writer

abbrev pub output_state : {W : Type 0} → (W → Option (List ℕ)) → CountingWriter W → OutputState
output_state contents counting =
    record {
      written = counting.notes.bytes;
      contents = contents counting.writer;
      flushed = counting.notes.flushed;
      flushes = counting.notes.flushes;
      failures = counting.failures;
    }
