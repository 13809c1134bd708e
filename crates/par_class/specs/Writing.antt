-- The one way in which a class file is written: code first, under the least index of a text `Code`.
use Rattle.std.specs.Prelude.{ℕ, ◌+◌, ◌<◌, ◌^◌, List, [], ◌∷◌, ◌++◌, length, map, Option, Some}
use Rattle.std.specs.Prelude.{None, IfSome, codes}
use Rattle.std.specs.List.{All, flat_map, position_or_len}
use Rattle.par_pool.specs.declared.constant.Constant.{Constant}
use Rattle.par_pool.specs.Spelling.{u2, IsPool}
use Rattle.par_class.specs.declared.file.Attribute.{Attribute}
use Rattle.par_class.specs.declared.file.CodeAttr.{CodeAttr}
use Rattle.par_class.specs.declared.file.FieldFile.{FieldFile}
use Rattle.par_class.specs.declared.file.MethodFile.{MethodFile}
use Rattle.par_class.specs.declared.file.ClassFile.{ClassFile}
use Rattle.par_class.specs.declared.file.Piece.{Piece}
use Rattle.par_class.specs.declared.file.Piece.TheVariants.{Plain, Code}
use Rattle.par_class.specs.Layout.{Method, Layout}
use Rattle.par_class.specs.Spelling.{counted, is_named, attribute, code, piece, field, method}

-- the least index of a text `Code`, or the index behind the pool where there is none
abbrev pub least_code : List Constant → ℕ
least_code entries =
    position_or_len (λ constant. is_named (codes "Code") (Some constant)) entries + 1

-- the code, if there is any, as an attribute under this name
abbrev pub code_piece : ℕ → Option CodeAttr → List Piece
code_piece name None = []
code_piece name (Some c) = Code name c ∷ []

-- the attributes of a method as they are written
abbrev pub pieces_of : ℕ → MethodFile → List Piece
pieces_of name m = code_piece name m.code ++ map (λ a. Plain a) m.attributes

abbrev pub method_laid : ℕ → MethodFile → Method
method_laid name m = record {
  access = m.access;
  name = m.name;
  descriptor = m.descriptor;
  pieces = pieces_of name m;
}

-- a file as it is written
abbrev pub layout_of : ClassFile → Layout
layout_of f = record {
  minor = f.minor;
  major = f.major;
  entries = f.pool.entries;
  access = f.access;
  this_class = f.this_class;
  super_class = f.super_class;
  fields = f.fields;
  methods = map (method_laid (least_code f.pool.entries)) f.methods;
  attributes = f.attributes;
}

-- the attributes of a method as they are put
abbrev pub parts : ℕ → MethodFile → List ℕ
parts name m =
    u2 (length (pieces_of 0 m))
    ++ (flat_map piece (code_piece name m.code) ++ flat_map attribute m.attributes)

-- methods as they are put
abbrev pub each_method : ℕ → List MethodFile → List ℕ
each_method name methods =
    u2 (length methods) ++ flat_map (λ m. method (method_laid name m)) methods

-- what stands behind the constant pool, as it is put
unfoldable pub back_with : ℕ → ClassFile → List ℕ
back_with name f =
    u2 f.access ++ (u2 f.this_class ++ (u2 f.super_class ++ (u2 0
    ++ (counted field f.fields
    ++ (each_method name f.methods ++ counted attribute f.attributes)))))

-- ---- what is few enough to be written

abbrev pub IsSized : Attribute → Type 0
IsSized a = length a.bytes < 2 ^ 32

pub record SizedCode (c : CodeAttr) : Type 0 where
  pub code_bytes : length c.code < 2 ^ 32
  pub few_catches : length c.catches < 2 ^ 16
  pub few : length c.attributes < 2 ^ 16
  pub each : All IsSized c.attributes
  pub whole : length (code c) < 2 ^ 32

pub record SizedField (f : FieldFile) : Type 0 where
  pub few : length f.attributes < 2 ^ 16
  pub each : All IsSized f.attributes

pub record SizedMethod (m : MethodFile) : Type 0 where
  pub code_sized : IfSome m.code SizedCode
  pub few : length (pieces_of 0 m) < 2 ^ 16
  pub each : All IsSized m.attributes

pub record SizedFile (f : ClassFile) : Type 0 where
  pub is_pool : IsPool f.pool.entries
  pub few_fields : length f.fields < 2 ^ 16
  pub fields : All SizedField f.fields
  pub few_methods : length f.methods < 2 ^ 16
  pub methods : All SizedMethod f.methods
  pub few : length f.attributes < 2 ^ 16
  pub each : All IsSized f.attributes
