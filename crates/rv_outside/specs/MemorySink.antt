-- What a sink in memory holds.
use Rattle.std.specs.Prelude.{◌≡◌, ◌↔◌, ℕ, List, Some, Contains}
use Rattle.rv_outside.specs.Causes.{Rose}
use Rattle.rv_outside.specs.Sink.{SinkState}
use Rattle.rv_outside.specs.declared.memory_sink.MemorySink.{MemorySink}

-- the bytes that it took
abbrev pub sink_bytes : MemorySink → List ℕ
sink_bytes sink = sink.bytes.items

-- the numbers of the calls that are to fail
abbrev pub failing_puts : MemorySink → List ℕ
failing_puts sink = sink.failing.items

-- how many calls there were
abbrev pub puts_of : MemorySink → ℕ
puts_of sink = sink.puts

-- what it shows of itself
abbrev pub memory_sink_state : MemorySink → SinkState
memory_sink_state sink = record { written = Some (sink_bytes sink); faults = sink.faults; wants = sink.wants }

-- a call was counted, failed exactly where its number was set to fail, and what is set to fail stays set
pub record KeepsWord (failed : Type 0) (old new : MemorySink) : Type 0 where
  pub counted : Rose (puts_of old) (puts_of new)
  pub fails : failed ↔ Contains (failing_puts old) (puts_of new)
  pub set : failing_puts new ≡ failing_puts old
