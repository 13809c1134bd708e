-- The receiver and the arguments of a method in its file are those of its code.
use Rattle.std.proofs.Common.{◌≡◌, ℕ, suc, ◌+◌, Bool, true, false, cond, List, [], ◌∷◌, ◌++◌}
use Rattle.std.proofs.Common.{◌≤◌, length, map, take, Option, refl, sym, ap, ap₂, subst, ◌∙◌, arith}
use Rattle.std.specs.Prelude.{if◌then◌else◌}
use Rattle.std.specs.List.{AllByRecursion}
use Rattle.std.proofs.lemmas.List.{length-map, length-take}
use Rattle.par_base.specs.Names.{IsName}
use Rattle.par_typed.specs.declared.ty.Ty.{Ty}
use Rattle.par_typed.specs.declared.ty.Ty.TheVariants as ty
use Rattle.par_typed.specs.declared.table.ClassInfo.{ClassInfo}
use Rattle.par_typed.specs.declared.table.MethodInfo.{MethodInfo}
use Rattle.par_typed.specs.declared.table.ParamInfo.{ParamInfo}
use Rattle.par_typed.specs.declared.table.Table.{Table}
use Rattle.par_typed.specs.Plain.{TSta}
use Rattle.par_program_laws.specs.Locals.{BeginsWith, arriving}
use Rattle.par_erase.specs.Erased.{erased_method, erased_param}
use Rattle.par_class.specs.declared.file.ClassFile.{ClassFile}
use Rattle.par_class.specs.declared.file.MethodFile.{MethodFile}
use Rattle.par_values.specs.declared.kind.Kind.{Kind}
use Rattle.par_values.specs.Areas.{Name}
use Rattle.par_single.specs.Descriptors.{Text, kind_at, kinds_in}
use Rattle.par_single.specs.Links.{signature_said, signature_or_none}
use Rattle.par_single.specs.Members.{own_name, text_at, is_static}
use Rattle.par_given_frames.specs.par_kinds.declared.frame.VKind.{VKind}
use Rattle.par_given_frames.specs.par_kinds.Kinds.{vkind}
use Rattle.par_given_frames.specs.par_kinds.Linked.{given_to}
use Rattle.par_given_frames.specs.par_frames.Given.{start_of}
use Rattle.par_code_form.specs.declared.labelled.Labelled.{Labelled}
use Rattle.par_code_form.specs.Frames.{Types, slot}
use Rattle.par_code_form.specs.Method.{set_by_call, labelled}
use Rattle.par_code_form.specs.Named.{class_word, words_of}
use Rattle.par_compile_laws.specs.Framed.{kind_of, kinds_of}
use Rattle.par_given_frames.specs.Laws.{AreNamedKinds}
use Rattle.par_compile_laws.specs.DescriptorLaws as said
use Rattle.par_compile_laws.specs.DescriptorLaws.{HasValueTypes}
use Rattle.par_compile_laws.proofs.Described.{methods_are_described}
use Rattle.par_file_run_laws.specs.par_compile_laws.Members.{Member, member_access, initializer}
use Rattle.par_file_run_laws.specs.par_compile_laws.Members.{initializer_of, method}
use Rattle.par_file_run_laws.specs.par_compile_laws.Files.{IsMethodOf}
use Rattle.par_file_run_laws.proofs.Texts.{text-said}

-- the code of a method begins with what its file says
pub record Begins (file : ClassFile) (m : MethodFile) (code : Labelled) : Type 0 where
  pub same : start_of file m ≡ kinds_of code.start
  pub named : AreNamedKinds (kinds_of code.start)
  pub few : length (kinds_of code.start) ≤ code.max_locals

-- what a file says of a method with these access flags and this descriptor
abbrev said_start : ClassFile → (access : ℕ) → Text → List VKind
said_start file access of_type =
    map vkind (given_to (is_static access) (own_name file) (signature_said of_type).takes)

module _ (file : ClassFile) (x : Member) (m : MethodFile)
    (is : IsMethodOf file.pool.entries x m) where
  start_said : start_of file m ≡ said_start file x.access x.descriptor
  start_said =
      ap (λ (access : ℕ). said_start file access (text_at file.pool.entries m.descriptor)) is.access
      ∙ ap (said_start file x.access)
      (text-said file.pool.entries m.descriptor x.descriptor is.descriptor_is)

-- ---- initializers

pub initializer_begins : (file : ClassFile) (class : ClassInfo) (m : MethodFile)
    → own_name file ≡ class.name → IsName class.name
    → IsMethodOf file.pool.entries (initializer class) m → Begins file m (initializer_of class)
unfolding kind_at kinds_in
initializer_begins file class m own named is = record {
  same =
      start_said file (initializer class) m is
      ∙ ap (λ (name : Name). map vkind (given_to false name [])) own;
  named = (named, tt);
  few = omega arith;
}

-- ---- methods

module _ (table : Table) where
  abbrev kinds_said : List ParamInfo → List Kind
  kinds_said ps = map (λ p. said.kind_of table p.ty) ps

  -- a slot of a type of values holds what its descriptor says
  same_kind : (u : Ty) → said.IsValueType table u
      → kind_of (slot (words_of table) u) ≡ vkind (said.kind_of table u)
  same_kind ty.Int is = refl
  same_kind ty.Boolean is = refl
  same_kind (ty.Class c) is = refl
  same_kind ty.Null is = absurd is
  same_kind ty.Void is = refl

  arguments : (ps : List ParamInfo) (rest : Types)
      → AllByRecursion (λ p. said.IsValueType table p.ty) ps
      → kinds_of (map (slot (words_of table)) (take (length ps) (map (λ p. p.ty) ps ++ rest)))
      ≡ map vkind (kinds_said ps)
  arguments [] rest all = refl
  arguments (p ∷ ps) rest all =
      ap₂ (λ (k : VKind) (ks : List VKind). k ∷ ks) (same_kind p.ty all.0)
      (arguments ps rest all.1)

  named_kind : (u : Ty) (ks : List VKind) → said.IsValueType table u → AreNamedKinds ks
      → AreNamedKinds (vkind (said.kind_of table u) ∷ ks)
  named_kind ty.Int ks is named = (tt, named)
  named_kind ty.Boolean ks is named = (tt, named)
  named_kind (ty.Class c) ks is named = (is, named)
  named_kind ty.Null ks is named = absurd is
  named_kind ty.Void ks is named = (tt, named)

  arguments_named : (ps : List ParamInfo) → AllByRecursion (λ p. said.IsValueType table p.ty) ps
      → AreNamedKinds (map vkind (kinds_said ps))
  arguments_named [] all = tt
  arguments_named (p ∷ ps) all =
      named_kind p.ty (map vkind (kinds_said ps)) all.0 (arguments_named ps all.1)

  -- the receiver, where there is one, and the arguments
  all_begin : (static : Bool) (c : ℕ) (ps : List ParamInfo) (rest : Types)
      → AllByRecursion (λ p. said.IsValueType table p.ty) ps
      → kinds_of (map (slot (words_of table)) (take (length ps + (if static then 0 else 1))
      ((cond static [] (ty.Class c ∷ []) ++ map (λ p. p.ty) ps) ++ rest)))
      ≡ map vkind (given_to static (class_word table c) (kinds_said ps))
  all_begin true c ps rest all =
      let none : length ps + 0 ≡ length ps = omega arith in
      ap (λ (n : ℕ). kinds_of (map (slot (words_of table)) (take n (map (λ p. p.ty) ps ++ rest))))
      none
      ∙ arguments ps rest all
  all_begin false c ps rest all =
      let one : length ps + 1 ≡ suc (length ps) = omega arith in
      ap (λ (n : ℕ). kinds_of (map (slot (words_of table))
      (take n (ty.Class c ∷ map (λ p. p.ty) ps ++ rest)))) one
      ∙ ap (λ (ks : List VKind). vkind (said.kind_of table (ty.Class c)) ∷ ks)
      (arguments ps rest all)

  all_named : (static : Bool) (name : Name) (ps : List ParamInfo) → IsName name
      → AllByRecursion (λ p. said.IsValueType table p.ty) ps
      → AreNamedKinds (map vkind (given_to static name (kinds_said ps)))
  all_named true name ps is all = arguments_named ps all
  all_named false name ps is all = (is, arguments_named ps all)

  static_is : (b : Bool) → is_static (member_access b) ≡ b
  static_is true = refl
  static_is false = refl

  module _ (file : ClassFile) (c : ℕ) (m : MethodInfo) (body : TSta) (x : MethodFile)
      (bodies : Option TSta) (own : own_name file ≡ class_word table c)
      (named : IsName (class_word table c)) (types : HasValueTypes table m)
      (arrive : BeginsWith (arriving c m) m.locals) where
    takes_said : (signature_said (method table [] m bodies).descriptor).takes ≡ kinds_said m.params
    takes_said =
        ap (λ o. (signature_or_none o).takes) (methods_are_described table m types)

    code_start : kinds_of (labelled (words_of table) m body).start
        ≡ map vkind (given_to m.is_static (class_word table c) (kinds_said m.params))
    code_start =
        ap (λ (ls : Types). kinds_of (map (slot (words_of table)) (take (set_by_call m) ls)))
        arrive.1
        ∙ all_begin m.is_static c m.params arrive.0 types.params

    pub method_begins : IsMethodOf file.pool.entries (method table [] m bodies) x
        → Begins file x (labelled (words_of table) m body)
    method_begins is = record {
      same =
          start_said file (method table [] m bodies) x is
          ∙ ap (λ (b : Bool). map vkind (given_to b (own_name file)
          (signature_said (method table [] m bodies).descriptor).takes)) (static_is m.is_static)
          ∙ ap (λ (ks : List Kind). map vkind (given_to m.is_static (own_name file) ks)) takes_said
          ∙ ap (λ (name : Name). map vkind (given_to m.is_static name (kinds_said m.params))) own
          ∙ sym code_start;
      named =
          subst AreNamedKinds (sym code_start)
          (all_named m.is_static (class_word table c) m.params named types.params);
      few =
          let ts : Types = take (set_by_call m) m.locals in omega (
            arith,
            length-map (map (slot (words_of table)) ts) kind_of,
            length-map ts (slot (words_of table)),
            length-take (set_by_call m) m.locals,
          );
    }

-- a method without policies has the same locals from its call
same_types : (ps : List ParamInfo)
    → map (λ p. p.ty) (map erased_param ps) ≡ map (λ p. p.ty) ps
same_types [] = refl
same_types (p ∷ ps) = ap (λ (us : Types). p.ty ∷ us) (same_types ps)

pub still_arrive : (c : ℕ) (m : MethodInfo) → BeginsWith (arriving c m) m.locals
    → BeginsWith (arriving c (erased_method m)) (erased_method m).locals
still_arrive c m arrive = (
  arrive.0,
  arrive.1
      ∙ ap (λ (us : Types). (cond m.is_static [] (ty.Class c ∷ []) ++ us) ++ arrive.0)
      (sym (same_types m.params)),
)
