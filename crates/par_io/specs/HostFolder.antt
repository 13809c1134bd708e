-- What a folder of the system counts.
use Rattle.par_io.specs.Causes.{FolderCounts}
use Rattle.par_io.specs.declared.host_folder.HostFolder.{HostFolder}

-- its calls, and its answers of each kind
abbrev pub counts_of : {R : Type 0} → HostFolder R → FolderCounts
counts_of f = record {
  reads = f.reads;
  writes = f.writes;
  faults = f.faults;
  absents = f.absents;
  longs = f.longs;
}
