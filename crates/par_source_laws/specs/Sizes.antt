-- How many bytes the names of classes and members have, with the descriptors of the members.
use Rattle.std.specs.Prelude.{ℕ, ◌+◌, cond, List, [], ◌∷◌, length, Option, Some, None}
use Rattle.par_names.specs.par_tree.declared.types.TypeTree.{TypeTree}
use Rattle.par_names.specs.par_tree.declared.types.TypeTree.TheVariants as type
use Rattle.par_names.specs.par_tree.declared.decl.FieldDecl.{FieldDecl}
use Rattle.par_names.specs.par_tree.declared.decl.ChannelDecl.{ChannelDecl}
use Rattle.par_names.specs.par_tree.declared.decl.ParamDecl.{ParamDecl}
use Rattle.par_names.specs.par_tree.Plain.{Method, Class, Declaration, Source, Actors, Lock, Policy}
use Rattle.par_names.specs.par_tree.Plain.{Declared}

-- `I`, `Z` or `LName;`
abbrev pub type_size : TypeTree → ℕ
type_size (type.Int at) = 1
type_size (type.Boolean at) = 1
type_size (type.Class id) = length id.name + 2

-- of a result, which may be `V`
abbrev pub result_size : Option TypeTree → ℕ
result_size None = 1
result_size (Some t) = type_size t

abbrev pub params_size : List ParamDecl → ℕ
params_size [] = 0
params_size (p ∷ ps) = type_size p.ty + params_size ps

-- ---- members, each with its name

abbrev pub field_size : FieldDecl → ℕ
field_size f = length f.id.name + type_size f.ty

-- `()I` of a channel into the program, `(I)V` of one out of it
abbrev pub channel_size : ChannelDecl → ℕ
channel_size c = length c.id.name + cond c.is_input 3 4

-- the types of the parameters between `(` and `)`, and the result
abbrev pub method_size : Method → ℕ
method_size m = length m.id.name + (2 + params_size m.params + result_size m.result)

abbrev pub fields_size : List FieldDecl → ℕ
fields_size [] = 0
fields_size (f ∷ fs) = field_size f + fields_size fs

abbrev pub channels_size : List ChannelDecl → ℕ
channels_size [] = 0
channels_size (c ∷ cs) = channel_size c + channels_size cs

abbrev pub methods_size : List Method → ℕ
methods_size [] = 0
methods_size (m ∷ ms) = method_size m + methods_size ms

-- ---- classes

abbrev pub class_size : Class → ℕ
class_size c =
    length c.id.name + (fields_size c.fields + channels_size c.channels + methods_size c.methods)

abbrev pub declaration_size : Declaration → ℕ
declaration_size (Actors ids) = 0
declaration_size (Lock lock) = 0
declaration_size (Policy policy) = 0
declaration_size (Declared class) = class_size class

-- all texts of a source, each counted at its declaration
abbrev pub source_texts : Source → ℕ
source_texts [] = 0
source_texts (d ∷ ds) = declaration_size d + source_texts ds
