-- What channels are found by.
use Rattle.std.specs.Prelude.{Bool, ◌&&◌}
use Rattle.std.specs.Str.{bytes_eq}
use Rattle.par_run_laws.specs.Names.{Member}
use Rattle.par_trace.specs.declared.channels.Key.{Key}

-- the channel that a key is that of
abbrev pub named : Key → Member
named key = record { class = key.class.now; name = key.name.now }

abbrev pub same_key : Key → Key → Bool
same_key key other =
    bytes_eq key.class.now other.class.now && bytes_eq key.name.now other.name.now
