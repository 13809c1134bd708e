-- Classes in kinds and in an attribute, where the built-in exceptions have their whole names.
use Rattle.std.specs.Prelude.{◌≡◌, ℕ, Bool, true, false, not, if◌then◌else◌, List, [], ◌∷◌, ◌++◌}
use Rattle.std.specs.Prelude.{Option}
use Rattle.std.specs.Prelude.{Some, None, codes}
use Rattle.std.specs.List.{flat_map}
use Rattle.std.specs.Str.{bytes_eq}
use Rattle.par_frame_forms.specs.par_pool.declared.constant.Constant.{Constant}
use Rattle.par_frame_forms.specs.par_pool.declared.constant.Constant.TheVariants as constant
use Rattle.par_frame_forms.specs.par_pool.Entries.{entry_at, IsClassAt}
use Rattle.par_kinds.specs.par_values.Areas.{Name}
use Rattle.par_kinds.specs.par_single.Members.{text_at}
use Rattle.par_kinds.specs.par_link.entry.Builtin.{Builtin}
use Rattle.par_kinds.specs.par_link.entry.Builtin.TheVariants as builtin
use Rattle.par_kinds.specs.par_link.Builtins as builtins
use Rattle.par_frame_forms.specs.declared.form.PlaceType.{PlaceType}
use Rattle.par_frame_forms.specs.declared.form.PlaceType.TheVariants as place
use Rattle.par_kinds.specs.declared.frame.VKind.{VKind}
use Rattle.par_kinds.specs.declared.frame.VKind.TheVariants.{Top, Int, Null, Object, Base}
use Rattle.par_kinds.specs.declared.frame.PlacedFrame.{PlacedFrame}
use Rattle.par_kinds.specs.Shapes.{text_kind}

abbrev pub whole_name : Name → Name
whole_name name =
    if bytes_eq name (codes "ArithmeticException") then codes "java/lang/ArithmeticException"
    else if bytes_eq name (codes "NullPointerException")
    then codes "java/lang/NullPointerException"
    else name

abbrev pub base_name : Bool → Name
base_name true = codes "java/lang/Exception"
base_name false = codes "java/lang/Object"

-- the class that a kind names
abbrev pub class_of : VKind → List Name
class_of (Object name) = whole_name name ∷ []
class_of (Base exception) = base_name exception ∷ []
class_of k = []

abbrev pub classes_of : List VKind → List Name
classes_of ks = flat_map class_of ks

abbrev pub classes_in : PlacedFrame → List Name
classes_in f = classes_of f.frame.locals ++ classes_of f.frame.stack

-- the classes that frames name
abbrev pub classes_named : List PlacedFrame → List Name
classes_named fs = flat_map classes_in fs

unfoldable pub same_kind : VKind → VKind → Bool
same_kind Top Top = true
same_kind Int Int = true
same_kind Null Null = true
same_kind (Object m) (Object n) = bytes_eq m n
same_kind (Base true) (Base b) = b
same_kind (Base false) (Base b) = not b
same_kind k l = false

-- ---- from a kind to an index

pub record IsClassType (pool : List Constant) (t : PlaceType) (name : Name) : Type 0 where
  pub index : ℕ
  pub is : t ≡ place.Class index
  pub named : IsClassAt pool index name

-- how a kind is written
abbrev pub StandsFor : List Constant → VKind → PlaceType → Type 0
StandsFor pool Top t = t ≡ place.Top
StandsFor pool Int t = t ≡ place.Int
StandsFor pool Null t = t ≡ place.Null
StandsFor pool (Object name) t = IsClassType pool t (whole_name name)
StandsFor pool (Base exception) t = IsClassType pool t (base_name exception)

-- ---- from an index to a kind

-- none of `paragon/Locks`
abbrev pub kind_of_class : Option Builtin → Name → Option VKind
kind_of_class (Some builtin.Locks) name = None
kind_of_class b name = Some (text_kind b name)

abbrev pub kind_of_entry : List Constant → Option Constant → Option VKind
kind_of_entry entries (Some (constant.Class name)) =
    kind_of_class (builtins.builtin (text_at entries name)) (text_at entries name)
kind_of_entry entries _ = None

abbrev pub kind_of : List Constant → PlaceType → Option VKind
kind_of entries place.Top = Some Top
kind_of entries place.Int = Some Int
kind_of entries place.Null = Some Null
kind_of entries (place.Class index) = kind_of_entry entries (entry_at entries index)
