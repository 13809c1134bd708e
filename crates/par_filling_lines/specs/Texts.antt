-- The lines that tell of inferred fields.
use Rattle.std.specs.Prelude.{ℕ, List, [], ◌∷◌, ◌++◌, map, length, slice_get, codes}
use Rattle.std.specs.List.{flat_map}
use Rattle.std.specs.Option.{option_map_or}
use Rattle.std.specs.Fmt.{decimal}
use Rattle.par_policy.specs.declared.clauses.Clause.{Clause}
use Rattle.par_bits.specs.Sets.{has}
use Rattle.par_typed.specs.declared.table.FieldInfo.{FieldInfo}
use Rattle.par_typed.specs.declared.table.Table.{Table}
use Rattle.par_event_lines.specs.Texts.{Text}
use Rattle.par_trace.specs.Texts.{actor_text, lock_text}
use Rattle.par_infer.specs.declared.filling.FilledField.{FilledField}
use Rattle.par_told.specs.Told.{told_numbers}

-- texts with another between each two
abbrev pub joined_by : Text → List Text → Text
joined_by between [] = []
joined_by between (text ∷ texts) = text ++ flat_map (λ next. between ++ next) texts

-- the number of inferred fields
abbrev pub inferred_text : ℕ → Text
inferred_text number = codes "inferred " ++ (decimal number ++ codes "\n")

module _ (table : Table) where
  -- the locks of a clause, where it has some
  abbrev pub locks_text : List ℕ → Text
  locks_text [] = []
  locks_text (lock ∷ locks) =
      codes " " ++ joined_by (codes ", ") (map (lock_text table) (lock ∷ locks))

  abbrev pub clause_text : Clause → Text
  clause_text c = actor_text table c.actor ++ (codes ":" ++ locks_text c.locks)

  abbrev pub clauses_text : List Clause → Text
  clauses_text cs = joined_by (codes "; ") (map clause_text cs)

  -- a policy in its normal form
  abbrev pub literal_text : List Clause → Text
  literal_text p = codes "{" ++ (clauses_text p ++ codes "}")

  -- that of a number
  abbrev pub policy_text : ℕ → Text
  policy_text n = option_map_or literal_text (slice_get table.policies n) []

  -- the join of those of some numbers
  abbrev pub join_text : List ℕ → Text
  join_text [] = codes "bottom"
  join_text (n ∷ ns) = joined_by (codes " * ") (map policy_text (n ∷ ns))

  -- ---- fields

  abbrev pub class_text : ℕ → Text
  class_text class = option_map_or (λ c. c.name) (slice_get table.classes class) []

  abbrev pub fields_of : ℕ → List FieldInfo
  fields_of class = option_map_or (λ c. c.fields) (slice_get table.classes class) []

  abbrev pub name_text : (class field : ℕ) → Text
  name_text class field = option_map_or (λ f. f.name) (slice_get (fields_of class) field) []

  -- the class and the name of a field, and the policy that is inferred for it
  abbrev pub field_text : FilledField → Text
  field_text f =
      codes "field " ++ (class_text f.class ++ (codes "." ++ (name_text f.class f.field
      ++ (codes " " ++ (join_text (told_numbers table.policies (has f.policies))
      ++ codes "\n")))))

  abbrev pub filling_lines : List FilledField → List Text
  filling_lines fields = map field_text fields ++ inferred_text (length fields) ∷ []
