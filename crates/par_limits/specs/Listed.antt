-- The policies of a program that are listed by their places.
use Rattle.std.specs.Prelude.{List, ◌∷◌, ◌++◌, map}
use Rattle.par_tree.specs.Plain.{Source}
use Rattle.par_resolved.specs.declared.entries.Entry.{Entry}
use Rattle.par_resolved.specs.Policies.{Known, bottom}
use Rattle.par_parts.specs.Written.{written}
use Rattle.par_resolved.specs.Numbered.{written_entry, query_entries, by_place}

-- `bottom`, and what is written by place
abbrev pub by_place_entries : Known → Source → List Entry
by_place_entries k source =
    record { at = 0; policy = bottom k.numbers }
    ∷ by_place (map (written_entry k) (written source) ++ query_entries source)
