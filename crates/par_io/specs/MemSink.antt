-- What a sink in memory holds, and what its next put lets in.
use Rattle.std.specs.Prelude.{ℕ, ◌+◌, ◌-◌, List, Option, Some, None, take, length, if◌then◌else◌}
use Rattle.std.specs.Prelude.{◌==◌}
use Rattle.par_io.specs.Causes.{SinkCounts}
use Rattle.par_io.specs.declared.mem_sink.FailingPut.{FailingPut}
use Rattle.par_io.specs.declared.mem_sink.MemSink.{MemSink}

-- the bytes put so far
abbrev pub bytes_of : MemSink → List ℕ
bytes_of s = s.held.items

-- how many bytes fit in all
abbrev pub room_of : MemSink → ℕ
room_of s = s.room

-- how many more bytes fit
abbrev pub room_left : MemSink → ℕ
room_left s = room_of s - length (bytes_of s)

-- the number of the next put, counted from 1
abbrev pub next_put : MemSink → ℕ
next_put s = s.puts + 1

-- its puts, and those that failed
abbrev pub counts_of : MemSink → SinkCounts
counts_of s = record { puts = s.puts; faults = s.faults }

-- how many bytes a put of this number is to keep by a setting, where the setting is of it
abbrev pub keeps_at : Option FailingPut → ℕ → Option ℕ
keeps_at None call = None
keeps_at (Some set) call = if set.call == call then Some set.keep else None

-- how many bytes this put is to keep, where it is set to fail
abbrev pub put_keeps : MemSink → ℕ → Option ℕ
put_keeps s call = keeps_at s.failing call

-- the bytes that a put is to let in, the room aside
abbrev pub let_in : Option ℕ → List ℕ → List ℕ
let_in None bytes = bytes
let_in (Some keep) bytes = take keep bytes

-- the bytes that the next put lets in: as many as fit, and no more than a setting says
abbrev pub taken : MemSink → List ℕ → List ℕ
taken s bytes = take (room_left s) (let_in (put_keeps s (next_put s)) bytes)
