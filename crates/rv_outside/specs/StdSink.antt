-- What a sink over a writer shows of itself.
use Rattle.std.specs.Prelude.{None}
use Rattle.rv_outside.specs.Sink.{SinkState}
use Rattle.rv_outside.specs.declared.std_sink.StdSink.{StdSink}

-- the writer
abbrev pub writer_of : {W : Type 0} → StdSink W → W
writer_of sink = sink.under

-- its counts: what the system's writers took is not told
abbrev pub std_sink_state : {W : Type 0} → StdSink W → SinkState
std_sink_state sink = record { written = None; faults = sink.faults; wants = sink.wants }
