-- Loaded files of a program that links are known.
use Rattle.std.proofs.Common.{◌≡◌, ℕ, zero, suc, ◌<◌, ◌⊎◌, inl, inr, Bool, true, false, not, ◌&&◌}
use Rattle.std.proofs.Common.{List, [], ◌∷◌, ◌++◌, length, map, take, Option, Some, None, slice_get}
use Rattle.std.proofs.Common.{refl, sym, ap, subst, ◌∙◌, arith, codes}
use Rattle.std.specs.Prelude.{is_none}
use Rattle.std.specs.List.{AllByRecursion, IsDistinct}
use Rattle.std.specs.Str.{bytes_eq}
use Rattle.std.specs.List.{list_any}
use Rattle.std.proofs.lemmas.Bool.{not-false}
use Rattle.par_base.specs.Names.{IsName}
use Rattle.par_typed.specs.declared.ty.Ty.{Ty}
use Rattle.par_typed.specs.declared.ty.Ty.TheVariants as ty
use Rattle.par_typed.specs.declared.table.ClassInfo.{ClassInfo}
use Rattle.par_typed.specs.declared.table.MethodInfo.{MethodInfo}
use Rattle.par_typed.specs.declared.table.ParamInfo.{ParamInfo}
use Rattle.par_typed.specs.declared.table.Table.{Table}
use Rattle.par_typed.specs.Plain.{TSta, Body}
use Rattle.par_typed.specs.Members.{methods_in, method_at}
use Rattle.par_program_laws.specs.TableNames.{HasOwnNames}
use Rattle.par_class.specs.declared.file.ClassFile.{ClassFile}
use Rattle.par_run_laws.specs.Names.{body_of}
use Rattle.par_index.proofs.Places.{position-is_some}
use Rattle.par_pool.specs.declared.constant.Constant.TheVariants as constant
use Rattle.par_pool.specs.Entries.{IsClassAt}
use Rattle.par_single.specs.Members.{own_names}
use Rattle.par_values.specs.Areas.{Name}
use Rattle.par_link_laws.specs.par_link.entry.Builtin.{Builtin}
use Rattle.par_link_laws.specs.par_link.Builtins.{builtin}
use Rattle.par_link_laws.specs.par_link.Named.{class_named, class_of, listed, class_place}
use Rattle.par_link_laws.specs.par_link.Rules.{is_nothing}
use Rattle.par_link_laws.proofs.par_link.Passing.{any-at}
use Rattle.par_link_laws.specs.par_loader.Mentions.{is_unread, names_unread}
use Rattle.par_code_form.specs.declared.item.Item.{Item}
use Rattle.par_code_form.specs.declared.item.Item.TheVariants.{Label, Op, Const, Jump, Member}
use Rattle.par_code_form.specs.declared.item.Item.TheVariants.{ClassOp, LockOp}
use Rattle.par_code_form.specs.Code.{body_code}
use Rattle.par_code_form.specs.Named.{class_word, words_of}
use Rattle.par_source_code_laws.specs.par_evaluation_laws.Laid.{Meth}
use Rattle.par_compile_laws.specs.DescriptorLaws.{HasValueTypes, IsResultType}
use Rattle.par_compile_laws.specs.DescriptorLaws as said
use Rattle.par_source_code_laws.specs.Methods.{meth, may_meth}
use Rattle.par_link_laws.specs.Linkable.{IsLinkable, ClassLinks, FieldLinks, MethodLinks}
use Rattle.par_link_laws.specs.Linkable.{IsValueType, NamesThere}
use Rattle.par_link_laws.specs.Parts.{AreLoadedFiles}
use Rattle.par_file_run_laws.specs.LoadedLaws.{HasKinds, LoadedFilesAreKnown}
use Rattle.par_file_run_laws.specs.Parts.{IsKnownClass, Known, NamesLock}
use Rattle.par_file_run_laws.proofs.Lists.{each-item, found}
use Rattle.par_file_run_laws.proofs.Texts.{text-said}
use Rattle.par_file_run_laws.proofs.Known.{word-is}

-- the first of some keys that are apart are apart
first-distinct : {K : Type 0} (same : K → K → Bool) (xs ys : List K)
    → IsDistinct same (xs ++ ys) → IsDistinct same xs
unfolding IsDistinct
first-distinct same [] ys distinct = tt
first-distinct same (x ∷ xs) ys distinct =
    (front xs distinct.0, first-distinct same xs ys distinct.1)
  where
    front : (zs : List _) → AllByRecursion (λ y. same x y ≡ false) (zs ++ ys)
        → AllByRecursion (λ y. same x y ≡ false) zs
    front [] all = tt
    front (z ∷ zs) all = (all.0, front zs all.1)

names-locks : (table : Table) (items : List Item) → AllByRecursion (NamesThere table) items
    → AllByRecursion NamesLock items
names-locks table [] all = tt
names-locks table (Label l ∷ items) all = (tt, names-locks table items all.1)
names-locks table (Op i ∷ items) all = (tt, names-locks table items all.1)
names-locks table (Const v ∷ items) all = (tt, names-locks table items all.1)
names-locks table (Jump o l ∷ items) all = (tt, names-locks table items all.1)
names-locks table (Member o c n d ∷ items) all = (tt, names-locks table items all.1)
names-locks table (ClassOp o c ∷ items) all = (tt, names-locks table items all.1)
names-locks table (LockOp o l ∷ items) all = (all.0, names-locks table items all.1)

past : (cs : List ClassInfo) (i : ℕ) → i < length cs → slice_get cs i ≡ None → ⊥
past [] i less none = absurd (omega arith)
past (x ∷ cs) zero less none = absurd (cc none)
past (x ∷ cs) (suc i) less none = past cs i (omega arith) none

-- ---- classes that constants name

unread-there : (files : List ClassFile) (name : Name) → is_unread files name ≡ false
    → is_nothing (class_named files name) ≡ false
unread-there files name read = in_case (builtin name) refl where
  in_case : (b : Option Builtin) → builtin name ≡ b → is_nothing (class_named files name) ≡ false
  in_case (Some b) is =
      ap (λ (o : Option Builtin). is_nothing (class_of o (class_place files name))) is
  in_case None is =
      let any =
      not-false (list_any (bytes_eq name) (own_names files))
      (ap (λ (o : Option Builtin). is_none o && not (list_any (bytes_eq name) (own_names files)))
      (sym is) ∙ read) in
      let place =
      found (class_place files name) (position-is_some (bytes_eq name) (own_names files) ∙ any) in
      ap (λ (o : Option Builtin). is_nothing (class_of o (class_place files name))) is
      ∙ ap (λ (o : Option ℕ). is_nothing (listed o)) place.is

closed-there : (files : List ClassFile) (file : ClassFile)
    → list_any (names_unread files file.pool.entries) file.pool.entries ≡ false
    → (index : ℕ) (name : Name) → IsClassAt file.pool.entries index name
    → is_nothing (class_named files name) ≡ false
unfolding names_unread
closed-there files file none zero name is = absurd (cc (is.entry))
closed-there files file none (suc place) name is =
    let entries = file.pool.entries in
    unread-there files name
    (sym (ap (is_unread files) (text-said entries is.text name is.is_name))
    ∙ in_case (names_unread files entries (constant.Class is.text)) refl)
  where
    in_case : (b : Bool)
        → names_unread files file.pool.entries (constant.Class is.text) ≡ b
        → names_unread files file.pool.entries (constant.Class is.text) ≡ false
    in_case false same = same
    in_case true same =
        absurd (cc (sym none ∙ any-at (names_unread files file.pool.entries) file.pool.entries place
        (constant.Class is.text) is.entry same))

module _ (table : Table) (bodies : List Body) (linkable : IsLinkable table bodies)
    (kinds : HasKinds table) where
  class-links : (c : ℕ) (class : ClassInfo) → slice_get table.classes c ≡ Some class
      → ClassLinks table class
  class-links c class at = each-item (ClassLinks table) table.classes linkable.classes c class at

  named-class : (c : ℕ) → c < length table.classes → IsName (class_word table c)
  named-class c less = in_case (slice_get table.classes c) refl where
    in_case : (o : Option ClassInfo) → slice_get table.classes c ≡ o → IsName (class_word table c)
    in_case None none = absurd (past table.classes c less none)
    in_case (Some class) at =
        subst IsName (sym (word-is table c class at)) (class-links c class at).named

  value-type : (t : Ty) → IsValueType table t → said.IsValueType table t
  value-type ty.Int is = tt
  value-type ty.Boolean is = tt
  value-type (ty.Class c) is = named-class c is
  value-type ty.Null is = absurd is
  value-type ty.Void is = absurd is

  result-type : (t : Ty) → IsValueType table t ⊎ (t ≡ ty.Void) → IsResultType table t
  result-type ty.Int is = tt
  result-type ty.Boolean is = tt
  result-type (ty.Class c) (inl is) = named-class c is
  result-type (ty.Class c) (inr void) = absurd (cc void)
  result-type ty.Null (inl is) = absurd is
  result-type ty.Null (inr void) = absurd (cc void)
  result-type ty.Void is = tt

  param-types : (ps : List ParamInfo) → AllByRecursion (λ p. IsValueType table p.ty) ps
      → AllByRecursion (λ p. said.IsValueType table p.ty) ps
  param-types [] all = tt
  param-types (p ∷ ps) all = (value-type p.ty all.0, param-types ps all.1)

  known-class : (c : ℕ) (class : ClassInfo) → slice_get table.classes c ≡ Some class
      → IsKnownClass table class
  known-class c class at =
      let links = class-links c class at in
      let names = each-item HasOwnNames table.classes linkable.apart.members c class at in
      record {
        named = links.named;
        bare = kinds.bare c class at;
        fields = λ f info has.
            value-type info.ty
            (each-item (FieldLinks table) class.fields links.fields f info has).of_type;
        channels = first-distinct bytes_eq (map (λ k. k.name) class.channels) _ names.callees;
        methods = λ i m has.
            let method = each-item (MethodLinks table) class.methods links.methods i m has in (
              method.named,
              record {
                params = param-types m.params method.params;
                result = result-type m.result method.result;
              },
              kinds.room c i m (ap (λ (o : Option ClassInfo). slice_get (methods_in o) i) at ∙ has),
            );
      }

  built-in : (cs : List ClassInfo) → table.classes ≡ cs
      → map (λ c. c.name) (take 2 cs)
      ≡ codes "ArithmeticException" ∷ codes "NullPointerException" ∷ []
      → ((class : ClassInfo) × (slice_get cs 0 ≡ Some class)
      × (class.name ≡ codes "ArithmeticException") × (class.exception ≡ true))
      × ((class : ClassInfo) × (slice_get cs 1 ≡ Some class)
      × (class.name ≡ codes "NullPointerException") × (class.exception ≡ true))
  built-in [] are names = absurd (cc names)
  built-in (a ∷ []) are names = absurd (cc names)
  built-in (a ∷ b ∷ cs) are names =
      let first : a.name ≡ codes "ArithmeticException" = cc names in
      let second : b.name ≡ codes "NullPointerException" = cc names in (
        (a, refl, first, kinds.exceptions 0 a (omega arith) (ap (λ xs. slice_get xs 0) are)),
        (b, refl, second, kinds.exceptions 1 b (omega arith) (ap (λ xs. slice_get xs 1) are)),
      )

  few-locks : (c i : ℕ) (me : Meth) (o : Option MethodInfo) (body : Option TSta)
      → method_at table c i ≡ o → body_of bodies c i ≡ body → may_meth o body ≡ Some me
      → AllByRecursion NamesLock (body_code (words_of table) me.body)
  few-locks c i me None body at is same = absurd (cc same)
  few-locks c i me (Some m) None at is same = absurd (cc same)
  few-locks c i me (Some m) (Some body) at is same =
      let one : meth m body ≡ me = cc same in
      subst (λ (x : Meth). AllByRecursion NamesLock (body_code (words_of table) x.body)) one
      (names-locks table (body_code (words_of table) body) (linkable.code c i m body at is).items)

  pub known : (files : List ClassFile) → AreLoadedFiles table bodies files
      → Known table bodies files
  known files loaded =
      let two = built-in table.classes refl linkable.built_in.names in
      record {
        each = λ n file listed.
            let of = loaded.each n file listed in (
              of.0,
              record {
                class = of.1.class;
                there = of.1.there;
                declared = of.1.declared;
                is = of.1.is;
              },
            );
        linked = loaded.linked;
        closed = λ n file listed. closed-there files file (loaded.closed n file listed);
        apart = linkable.apart.classes;
        first = two.0;
        second = two.1;
        classes = known-class;
        locks = λ c i me is.
            few-locks c i me (method_at table c i) (body_of bodies c i) refl refl is;
        main = (loaded.main.file, loaded.main.first, loaded.main.own);
      }

pub loaded_files_are_known : LoadedFilesAreKnown
loaded_files_are_known table bodies files linkable kinds loaded =
    known table bodies linkable kinds files loaded
