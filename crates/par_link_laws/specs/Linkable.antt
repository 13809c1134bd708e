-- What of a program lets its class files link: names are names and differ, and its code names what
-- the program has.
use Rattle.std.specs.Prelude.{◌≡◌, ℕ, ◌<◌, ◌≤◌, nat_lt, ◌⊎◌, Bool, true, List, [], ◌∷◌, length}
use Rattle.std.specs.Prelude.{map, take, cond, if◌then◌else◌, Some, codes}
use Rattle.std.specs.List.{AllByRecursion, flat_map}
use Rattle.par_base.specs.Names.{IsName}
use Rattle.par_typed.specs.declared.ty.Ty.{Ty}
use Rattle.par_typed.specs.declared.ty.Ty.TheVariants as ty
use Rattle.par_typed.specs.declared.table.ChannelInfo.{ChannelInfo}
use Rattle.par_typed.specs.declared.table.ClassInfo.{ClassInfo}
use Rattle.par_typed.specs.declared.table.FieldInfo.{FieldInfo}
use Rattle.par_typed.specs.declared.table.MethodInfo.{MethodInfo}
use Rattle.par_typed.specs.declared.table.Table.{Table}
use Rattle.par_typed.specs.Plain.{TSta, Body}
use Rattle.par_typed.specs.Members.{IsClass, field_at, channel_at, method_at}
use Rattle.par_program_laws.specs.TableNames.{AreNamesApart}
use Rattle.par_values.specs.Areas.{Name}
use Rattle.par_compile_laws.specs.par_run_laws.Names.{body_of}
use Rattle.par_compile_laws.specs.par_code_form.declared.item.Item.{Item}
use Rattle.par_compile_laws.specs.par_code_form.declared.item.Item.TheVariants.{Label, Op, Const}
use Rattle.par_compile_laws.specs.par_code_form.declared.item.Item.TheVariants.{Jump}
use Rattle.par_compile_laws.specs.par_code_form.declared.item.Item.TheVariants.{Member}
use Rattle.par_compile_laws.specs.par_code_form.declared.item.Item.TheVariants.{ClassOp, LockOp}
use Rattle.par_compile_laws.specs.par_code_form.declared.labelled.Labelled.{Labelled}
use Rattle.par_compile_laws.specs.par_code_form.Method.{labelled}
use Rattle.par_compile_laws.specs.par_code_form.Named.{class_word, descriptor, method_descriptor}
use Rattle.par_compile_laws.specs.par_code_form.Named.{words_of}
use Rattle.par_compile_laws.specs.par_code_form.Opcodes.{INVOKEVIRTUAL}
use Rattle.par_compile_laws.specs.Constants.{frame_classes}
use Rattle.par_compile_laws.specs.Files.{FIRST_DECLARED, declared_classes}

-- the descriptor of an input or of an output
abbrev pub channel_descriptor : Bool → Name
channel_descriptor is_input = if is_input then codes "()I" else codes "(I)V"

module _ (table : Table) where
  -- ---- what code names

  pub record IsClassWord (class : Name) : Type 0 where
    pub number : ℕ
    pub there : IsClass table number
    pub is : class ≡ class_word table number

  pub record IsFieldWord (class name of_type : Name) : Type 0 where
    pub number : ℕ
    pub field : ℕ
    pub info : FieldInfo
    pub there : field_at table number field ≡ Some info
    pub is_class : class ≡ class_word table number
    pub is_name : name ≡ info.name
    pub is_type : of_type ≡ descriptor table info.ty

  pub record IsChannelWord (class name of_type : Name) : Type 0 where
    pub number : ℕ
    pub channel : ℕ
    pub info : ChannelInfo
    pub there : channel_at table number channel ≡ Some info
    pub is_class : class ≡ class_word table number
    pub is_name : name ≡ info.name
    pub is_type : of_type ≡ channel_descriptor info.is_input

  pub record IsMethodWord (class name of_type : Name) : Type 0 where
    pub number : ℕ
    pub method : ℕ
    pub info : MethodInfo
    pub there : method_at table number method ≡ Some info
    pub is_class : class ≡ class_word table number
    pub is_name : name ≡ info.name
    pub is_type : of_type ≡ method_descriptor table info

  pub record IsInitializerWord (class name of_type : Name) : Type 0 where
    pub is_class : IsClassWord class
    pub is_name : name ≡ codes "<init>"
    pub is_type : of_type ≡ codes "()V"

  -- a method that a class has in its file
  pub data IsCalleeWord (class name of_type : Name) : Type 0 where
    made : IsInitializerWord class name of_type → IsCalleeWord class name of_type
    channelled : IsChannelWord class name of_type → IsCalleeWord class name of_type
    called : IsMethodWord class name of_type → IsCalleeWord class name of_type

  -- an item names a class, a field or a method of the program, or one of the 256 locks
  abbrev pub NamesThere : Item → Type 0
  NamesThere (Label l) = Unit {0}
  NamesThere (Op i) = Unit {0}
  NamesThere (Const v) = Unit {0}
  NamesThere (Jump opcode l) = Unit {0}
  NamesThere (Member opcode class name of_type) =
      cond (nat_lt opcode INVOKEVIRTUAL) (IsFieldWord class name of_type)
      (IsCalleeWord class name of_type)
  NamesThere (ClassOp opcode class) = IsClassWord class
  NamesThere (LockOp opcode lock) = lock < 256

  -- so do all items, and handlers and frames name classes of the program
  pub record CodeNamesThere (code : Labelled) : Type 0 where
    pub items : AllByRecursion NamesThere code.items
    pub handlers : AllByRecursion (λ h. IsClassWord h.class) code.handlers
    pub frames : AllByRecursion IsClassWord (flat_map frame_classes code.frames)

  -- ---- what is declared

  -- the type of a field, a parameter or a local
  abbrev pub IsValueType : Ty → Type 0
  IsValueType ty.Int = Unit {0}
  IsValueType ty.Boolean = Unit {0}
  IsValueType (ty.Class c) = IsClass table c
  IsValueType ty.Null = ⊥
  IsValueType ty.Void = ⊥

  pub record FieldLinks (f : FieldInfo) : Type 0 where
    pub named : IsName f.name
    pub of_type : IsValueType f.ty

  pub record MethodLinks (m : MethodInfo) : Type 0 where
    pub named : IsName m.name
    pub params : AllByRecursion (λ p. IsValueType p.ty) m.params
    pub result : IsValueType m.result ⊎ (m.result ≡ ty.Void)

  pub record ClassLinks (c : ClassInfo) : Type 0 where
    pub named : IsName c.name
    pub fields : AllByRecursion FieldLinks c.fields
    pub channels : AllByRecursion (λ k. IsName k.name) c.channels
    pub methods : AllByRecursion MethodLinks c.methods

  -- the exceptions that every program has come first, and have no members
  pub record BuiltInsLink : Type 0 where
    pub names : map (λ c. c.name) (take FIRST_DECLARED table.classes)
        ≡ codes "ArithmeticException" ∷ codes "NullPointerException" ∷ []
    pub no_fields : AllByRecursion (λ c. c.fields ≡ []) (take FIRST_DECLARED table.classes)
    pub no_channels : AllByRecursion (λ c. c.channels ≡ []) (take FIRST_DECLARED table.classes)
    pub no_methods : AllByRecursion (λ c. c.methods ≡ []) (take FIRST_DECLARED table.classes)

  -- the class that the table tells has the method with which a run begins
  pub record HasMain : Type 0 where
    pub number : ℕ
    pub info : MethodInfo
    pub there : method_at table table.main number ≡ Some info
    pub named : info.name ≡ codes "main"
    pub is_static : info.is_static ≡ true
    pub params : info.params ≡ []
    pub result : info.result ≡ ty.Void

-- The files of such a program link.
pub record IsLinkable (table : Table) (bodies : List Body) : Type 0 where
  pub few : length (declared_classes table) ≤ 128
  pub built_in : BuiltInsLink table
  pub classes : AllByRecursion (ClassLinks table) table.classes
  pub apart : AreNamesApart table
  pub main : HasMain table
  pub code : (c i : ℕ) (m : MethodInfo) (body : TSta) → method_at table c i ≡ Some m
      → body_of bodies c i ≡ Some body → CodeNamesThere table (labelled (words_of table) m body)
