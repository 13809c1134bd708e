-- What a folder in memory holds, and which of its calls are set to fail.
use Rattle.std.specs.Prelude.{◌≡◌, ℕ, ◌+◌, Bool, Option, option_map}
use Rattle.std.specs.Ordering.{nat_cmp}
use Rattle.std.specs.BTreeMap.{get_by_text}
use Rattle.std.specs.BTreeMap as map
use Rattle.std.specs.BTreeSet as set
use Rattle.par_io.specs.Causes.{Files, FolderCounts}
use Rattle.par_io.specs.declared.mem_folder.MemFolder.{MemFolder}

-- the files by their names
abbrev pub files_of : MemFolder → Files
files_of f name = option_map (λ bytes. bytes.items) (get_by_text f.files name)

-- whether this read is set to fail
abbrev pub is_read_set : MemFolder → ℕ → Bool
is_read_set f call = set.contains nat_cmp f.failing_reads call

-- how many bytes this write is to leave, where it is set to fail
abbrev pub write_keeps : MemFolder → ℕ → Option ℕ
write_keeps f call = map.get nat_cmp f.failing_writes call

-- the number of the next read, counted from 1
abbrev pub next_read : MemFolder → ℕ
next_read f = f.reads + 1

-- the number of the next write, counted from 1
abbrev pub next_write : MemFolder → ℕ
next_write f = f.writes + 1

-- its calls, and its answers of each kind
abbrev pub counts_of : MemFolder → FolderCounts
counts_of f = record {
  reads = f.reads;
  writes = f.writes;
  faults = f.faults;
  absents = f.absents;
  longs = f.longs;
}

-- in both the same reads are set to fail
abbrev pub SameReadsSet : MemFolder → MemFolder → Type 0
SameReadsSet f g = (call : ℕ) → is_read_set g call ≡ is_read_set f call

-- in both the same writes are set to fail, and leave as many bytes
abbrev pub SameWritesSet : MemFolder → MemFolder → Type 0
SameWritesSet f g = (call : ℕ) → write_keeps g call ≡ write_keeps f call
