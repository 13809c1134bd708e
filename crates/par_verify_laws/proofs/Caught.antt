-- What a handler takes at linked files is what the text of its class says.
use Rattle.std.proofs.Common.{◌≡◌, ℕ, zero, suc, Bool, true, false, cond, ◌==◌, List}
use Rattle.std.proofs.Common.{Some, None, Option, refl, ap, ◌∙◌, codes}
use Rattle.std.specs.List.{slice_get}
use Rattle.std.specs.Option.{option_map_or}
use Rattle.std.specs.Str.{bytes_eq}
use Rattle.par_pool.specs.declared.constant.Constant.{Constant}
use Rattle.par_pool.specs.declared.constant.Constant.TheVariants as constant
use Rattle.par_pool.specs.Entries.{entry_at}
use Rattle.par_class.specs.declared.file.ClassFile.{ClassFile}
use Rattle.par_values.specs.Areas.{Name, class_named, name_or_none}
use Rattle.par_kinds.specs.par_link.entry.Builtin.{Builtin}
use Rattle.par_kinds.specs.par_link.entry.Builtin.TheVariants as builtin
use Rattle.par_kinds.specs.par_link.entry.Named.{Named}
use Rattle.par_kinds.specs.par_link.entry.Named.TheVariants as named
use Rattle.par_kinds.specs.par_link.Builtins as builtins
use Rattle.par_kinds.specs.par_link.Linked.{AreLinked, named_in}
use Rattle.par_kinds.specs.par_link.Named.{named_by, class_of, class_place, field_of}
use Rattle.par_kinds.specs.par_link.Named.{method_of}
use Rattle.par_kinds.specs.par_link.Named.{declared}
use Rattle.par_kinds.specs.par_link.Named.{place_in, fields_of, methods_of, field_declared}
use Rattle.par_kinds.specs.par_link.Named.{method_declared}
use Rattle.par_kinds.specs.par_link.Named as links
use Rattle.par_kinds.specs.par_link.Rules.{is_nothing}
use Rattle.par_single.specs.Members.{Member, text_at, own_name, own_names, is_initializer}
use Rattle.par_kinds.specs.par_step_laws.Classes.{class_names}
use Rattle.par_kinds.specs.par_step_laws.Methods.{pool_of}
use Rattle.par_kinds.specs.declared.frame.VKind.TheVariants.{Object as AnObject}
use Rattle.par_kinds.specs.declared.frame.VKind.TheVariants.{Base as ABase}
use Rattle.par_kinds.specs.Linked.{named_kind}
use Rattle.par_kinds.specs.Shapes.{text_kind, caught_of_entry}
use Rattle.par_verify_laws.specs.LinkedLaws.{TextsTellHandlers}
use Rattle.par_verify_laws.proofs.Linking.{get-front, get-map}
use Rattle.par_verify_laws.proofs.Texts.{class-there, file-found}

module _ (files : List ClassFile) where
  -- members and locks are no classes
  abbrev IsNoClass : Named → Type 0
  IsNoClass n = named_kind files n ≡ ABase false

  declared-field : (class : ℕ) (o : Option ℕ) → IsNoClass (declared named.Field class o)
  declared-field class None = refl
  declared-field class (Some n) = refl

  declared-method : (class : ℕ) (o : Option ℕ) → IsNoClass (declared named.Method class o)
  declared-method class None = refl
  declared-method class (Some n) = refl

  no-lock : (o : Option ℕ) → IsNoClass (builtins.lock_or_nothing o)
  no-lock None = refl
  no-lock (Some n) = refl

  builtin-field : (b : Builtin) (m : Member) → IsNoClass (builtins.builtin_field b m)
  unfolding builtins.builtin_field
  builtin-field builtin.Locks m = in_case (bytes_eq m.descriptor (codes "Z")) where
    in_case : (b : Bool)
        → IsNoClass (cond b (builtins.lock_or_nothing (builtins.lock_number m.name)) named.Nothing)
    in_case true = no-lock (builtins.lock_number m.name)
    in_case false = refl
  builtin-field b m = refl

  builtin-method : (b : Builtin) (m : Member) → IsNoClass (builtins.builtin_method b m)
  unfolding builtins.builtin_method
  builtin-method builtin.Locks m = refl
  builtin-method b m = in_case (is_initializer m) where
    in_case : (c : Bool) → IsNoClass (cond c (named.Initializer b) named.Nothing)
    in_case true = refl
    in_case false = refl

  no-field : (m : Member) (n : Named) → IsNoClass (field_of files m n)
  unfolding field_of
  no-field m (named.Class class) = declared-field class (place_in fields_of files class m)
  no-field m (named.Builtin b) = builtin-field b m
  no-field m n = refl

  no-method : (m : Member) (n : Named) → IsNoClass (method_of files m n)
  unfolding method_of
  no-method m (named.Class class) = declared-method class (place_in methods_of files class m)
  no-method m (named.Builtin b) = builtin-method b m
  no-method m n = refl

module _ (files : List ClassFile) (linked : AreLinked files) where
  -- a class of the files has the name by which it is found
  own-class : (text : Name) (class : ℕ) → class_place files text ≡ Some class
      → class_named (class_names files) class ≡ text
  own-class text class at =
      let f = file-found files linked text class at in
      ap name_or_none
      (get-front (own_names files) _ class (own_name f.0) (get-map own_name files class f.0 f.1))
      ∙ f.2

  class-caught : (text : Name) → is_nothing (links.class_named files text) ≡ false
      → named_kind files (links.class_named files text) ≡ text_kind (builtins.builtin text) text
  class-caught text there =
      in_case (builtins.builtin text) (class_place files text) refl there
    where
      in_case : (o : Option Builtin) (c : Option ℕ) → class_place files text ≡ c
          → is_nothing (class_of o c) ≡ false → named_kind files (class_of o c) ≡ text_kind o text
      in_case (Some b) c at there = refl
      in_case None None at there = absurd (cc there)
      in_case None (Some class) at there = ap AnObject (own-class text class at)

  entry-caught : (class : ℕ) (file : ClassFile) → slice_get files class ≡ Some file → (place : ℕ)
      (o : Option Constant) → slice_get file.pool.entries place ≡ o
      → named_kind files (option_map_or (named_by files file.pool.entries) o named.Nothing)
      ≡ caught_of_entry file.pool.entries o
  unfolding named_by
  entry-caught class file listed place None at = refl
  entry-caught class file listed place (Some (constant.Class name)) at =
      class-caught (text_at file.pool.entries name)
      (class-there files linked class file listed place name at)
  entry-caught class file listed place (Some (constant.Field c member)) at = no-field files _ _
  entry-caught class file listed place (Some (constant.Method c member)) at = no-method files _ _
  entry-caught class file listed place (Some c) at = refl

  index-caught : (class index : ℕ) (o : Option ClassFile) → slice_get files class ≡ o
      → named_kind files (named_in files o index)
      ≡ caught_of_entry (pool_of o) (entry_at (pool_of o) index)
  index-caught class zero None is = refl
  index-caught class (suc place) None is = refl
  index-caught class zero (Some file) is = refl
  index-caught class (suc place) (Some file) is =
      entry-caught class file is place (slice_get file.pool.entries place) refl

pub texts_tell_handlers : TextsTellHandlers
texts_tell_handlers files linked class c =
    ap (cond (c.class == 0) (ABase true))
    (index-caught files linked class c.class (slice_get files class) refl)
