-- A class file as it stands in its bytes: each method keeps the order of its attributes.
use Rattle.std.specs.Prelude.{ℕ, List, [], ◌∷◌, map, Option, Some, None}
use Rattle.par_pool.specs.declared.constant.Constant.{Constant}
use Rattle.par_class.specs.declared.file.Attribute.{Attribute}
use Rattle.par_class.specs.declared.file.CodeAttr.{CodeAttr}
use Rattle.par_class.specs.declared.file.FieldFile.{FieldFile}
use Rattle.par_class.specs.declared.file.MethodFile.{MethodFile}
use Rattle.par_class.specs.declared.file.ClassFile.{ClassFile}
use Rattle.par_class.specs.declared.file.Piece.{Piece}
use Rattle.par_class.specs.declared.file.Piece.TheVariants.{Plain, Code}

-- a method, with its code among its other attributes
pub record Method : Type 0 where
  pub access : ℕ
  pub name : ℕ
  pub descriptor : ℕ
  pub pieces : List Piece

pub record Layout : Type 0 where
  pub minor : ℕ
  pub major : ℕ
  pub entries : List Constant
  pub access : ℕ
  pub this_class : ℕ
  pub super_class : ℕ
  pub fields : List FieldFile
  pub methods : List Method
  pub attributes : List Attribute

-- the later of two values that may be missing
abbrev pub later : Option CodeAttr → CodeAttr → CodeAttr
later None code = code
later (Some last) code = last

-- the code among the attributes of a method
unfoldable pub code_in : List Piece → Option CodeAttr
code_in [] = None
code_in (Plain attribute ∷ pieces) = code_in pieces
code_in (Code name code ∷ pieces) = Some (later (code_in pieces) code)

-- the other attributes
unfoldable pub others_in : List Piece → List Attribute
others_in [] = []
others_in (Plain attribute ∷ pieces) = attribute ∷ others_in pieces
others_in (Code name code ∷ pieces) = others_in pieces

-- the method without the order of its attributes
abbrev pub method_of : Method → MethodFile
method_of m = record {
  access = m.access;
  name = m.name;
  descriptor = m.descriptor;
  code = code_in m.pieces;
  attributes = others_in m.pieces;
}

-- the file without that order
abbrev pub file_of : Layout → ClassFile
file_of l = record {
  minor = l.minor;
  major = l.major;
  pool = record { entries = l.entries };
  access = l.access;
  this_class = l.this_class;
  super_class = l.super_class;
  fields = l.fields;
  methods = map method_of l.methods;
  attributes = l.attributes;
}
