-- Fields by numbers.
use Rattle.std.specs.Prelude.{◌≡◌, List}
use Rattle.par_values.specs.declared.value.MVal.{MVal}
use Rattle.par_values.specs.declared.link.FieldLink.{FieldLink}
use Rattle.par_values.specs.Areas.{Name, Areas}
use Rattle.par_actions.specs.declared.fields.Field.{Field}
use Rattle.par_actions.specs.Fits.{Takes}

-- The numbers are those of a field, where the classes have these names.
pub record IsField (classes : List Name) (f : FieldLink) (field : Field) : Type 0 where
  pub is_static : f.is_static ≡ field.is_static
  pub place : f.place ≡ field.place
  pub takes : Takes classes f.kind field.fit

-- the program with these static fields
abbrev pub with_statics : List MVal → Areas → Areas
with_statics statics program = record program { statics = statics }
