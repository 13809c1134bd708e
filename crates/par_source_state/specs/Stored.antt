-- What a store holds.
use Rattle.std.specs.Prelude.{ℕ, nat_lt, if◌then◌else◌, unwrap_or}
use Rattle.par_typed.specs.declared.table.Table.{Table}
use Rattle.par_values.specs.declared.value.MVal.{MVal}
use Rattle.par_values.specs.declared.value.MVal.TheVariants.{Null}
use Rattle.par_run_laws.specs.Names.{first_field}
use Rattle.par_source_state.specs.declared.store.Store.{Store}
use Rattle.par_source_state.specs.Held.{Held, static_in, births_in, field_in, input_in}

abbrev pub holds : Store → Held
holds store = record {
  statics = static_in store.statics;
  births = births_in store.births;
  fields = field_in store.fields;
  inputs = input_in store.inputs;
  locks = store.locks;
}

-- what a field of an object holds, null where there is no such object
abbrev pub field_held : Table → Held → ℕ → ℕ → ℕ → MVal
field_held table h c n f =
    if nat_lt n (h.births c) then unwrap_or (h.fields c n f) (first_field table c f) else Null
