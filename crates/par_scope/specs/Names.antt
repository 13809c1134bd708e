-- The names that a table gives, and the numbers that they stand for.
use Rattle.std.specs.Prelude.{ℕ, ◌<◌, ◌^◌, List, [], map, length, Option, Some, None}
use Rattle.std.specs.List.{position, All}
use Rattle.std.specs.Str.{bytes_eq}
use Rattle.par_typed.specs.declared.table.ClassInfo.{ClassInfo}
use Rattle.par_typed.specs.declared.table.Table.{Table}

-- the names of the members of a class, each kind by its numbers
pub record MemberNames : Type 0 where
  pub fields : List (List ℕ)
  pub channels : List (List ℕ)
  pub methods : List (List ℕ)

-- the names of the classes and of their members, by the numbers of the classes
pub record Names : Type 0 where
  pub classes : List (List ℕ)
  pub members : List MemberNames

abbrev pub member_names : ClassInfo → MemberNames
member_names class = record {
  fields = map (λ f. f.name) class.fields;
  channels = map (λ c. c.name) class.channels;
  methods = map (λ m. m.name) class.methods;
}

-- the names of a table
abbrev pub names_of : Table → Names
names_of table = record {
  classes = map (λ c. c.name) table.classes;
  members = map member_names table.classes;
}

-- the number of the first of these that is the name
abbrev pub number_in : List (List ℕ) → List ℕ → Option ℕ
number_in names name = position (bytes_eq name) names

abbrev pub fields_in : Option MemberNames → List (List ℕ)
fields_in None = []
fields_in (Some class) = class.fields

abbrev pub channels_in : Option MemberNames → List (List ℕ)
channels_in None = []
channels_in (Some class) = class.channels

abbrev pub methods_in : Option MemberNames → List (List ℕ)
methods_in None = []
methods_in (Some class) = class.methods

-- there are few enough to number
pub record IsFewMembers (class : MemberNames) : Type 0 where
  pub fields : length class.fields < 2 ^ 16
  pub channels : length class.channels < 2 ^ 16
  pub methods : length class.methods < 2 ^ 16

pub record AreFew (names : Names) : Type 0 where
  pub classes : length names.classes < 2 ^ 16
  pub members : All IsFewMembers names.members

-- a table with few enough classes and members to number
abbrev pub IsFewTable : Table → Type 0
IsFewTable table = AreFew (names_of table)
