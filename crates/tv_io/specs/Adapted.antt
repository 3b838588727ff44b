-- What contracts see of a reader that serves as a source and of a writer that serves as a sink.
use Rattle.std.specs.Prelude.{ℕ}
use Rattle.tv_io.specs.declared.adapters.ReaderSource.{ReaderSource}
use Rattle.tv_io.specs.declared.adapters.WriterSink.{WriterSink}

-- the reader, as it stands
abbrev pub source_reader : {R : Type 0} → ReaderSource R → R
source_reader s = s.reader

-- how many of its reads failed
abbrev pub source_faults : {R : Type 0} → ReaderSource R → ℕ
source_faults s = s.faults

-- the writer, as it stands
abbrev pub sink_writer : {W : Type 0} → WriterSink W → W
sink_writer s = s.writer

-- how many of its writes failed
abbrev pub sink_faults : {W : Type 0} → WriterSink W → ℕ
sink_faults s = s.faults
