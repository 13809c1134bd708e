-- What a sink of the system counts.
use Rattle.par_io.specs.Causes.{SinkCounts}
use Rattle.par_io.specs.declared.host_sink.HostSink.{HostSink}

-- its puts, and those that failed
abbrev pub counts_of : {R : Type 0} → HostSink R → SinkCounts
counts_of s = record { puts = s.puts; faults = s.faults }
