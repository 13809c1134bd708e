-- What the machine finds at an index of linked files is what the texts of the constant pool say.
use Rattle.std.proofs.Common.{◌≡◌, ℕ, zero, suc, Bool, true, false, not, ◌&&◌, ◌||◌, cond, List, []}
use Rattle.std.proofs.Common.{◌∷◌, map, Some, None, Option, refl, sym, ap, subst, ◌∙◌, codes}
use Rattle.std.proofs.Common.{is_some, ◌⊎◌, inl, inr, ⊎_elim}
use Rattle.std.specs.List.{slice_get, position}
use Rattle.std.specs.Str.{bytes_eq}
use Rattle.std.specs.Option.{option_map, option_map_or, option_or, option_and_then}
use Rattle.std.proofs.lemmas.Bool.{and_parts}
use Rattle.par_pool.specs.declared.constant.Constant.{Constant}
use Rattle.par_pool.specs.declared.constant.Constant.TheVariants as constant
use Rattle.par_pool.specs.Entries.{entry_at}
use Rattle.par_pool.proofs.Positions.{position-none}
use Rattle.par_class.specs.declared.file.FieldFile.{FieldFile}
use Rattle.par_class.specs.declared.file.MethodFile.{MethodFile}
use Rattle.par_class.specs.declared.file.ClassFile.{ClassFile}
use Rattle.par_class.specs.Spelling.{is_native}
use Rattle.par_values.specs.declared.kind.Kind.TheVariants.{Object}
use Rattle.par_values.specs.Areas.{Name}
use Rattle.par_kinds.proofs.par_link.Passing.{same_text}
use Rattle.par_kinds.specs.par_link.entry.Builtin.{Builtin}
use Rattle.par_kinds.specs.par_link.entry.Builtin.TheVariants as builtin
use Rattle.par_kinds.specs.par_link.entry.Named.TheVariants as named
use Rattle.par_kinds.specs.par_link.Builtins as builtins
use Rattle.par_kinds.specs.par_link.Linked.{AreLinked, named_in}
use Rattle.par_kinds.specs.par_link.Named.{named_by, class_of, class_named, class_place}
use Rattle.par_kinds.specs.par_link.Named.{field_of}
use Rattle.par_kinds.specs.par_link.Named.{method_of}
use Rattle.par_kinds.specs.par_link.Named.{declared, place_in, fields_of, methods_of, is_same}
use Rattle.par_kinds.specs.par_link.Named.{listed}
use Rattle.par_kinds.specs.par_link.Named.{field_declared, method_declared}
use Rattle.par_kinds.specs.par_link.Order.{at, member_fault, description_fault, constant_fault}
use Rattle.par_kinds.specs.par_link.Order.{code_fault}
use Rattle.par_kinds.specs.par_link.Rules.{is_nothing, is_of}
use Rattle.par_single.specs.Members.{Member, member_at, text_at, own_name, own_names}
use Rattle.par_single.specs.Members.{is_initializer, is_static}
use Rattle.par_single.specs.Links.{kind_said, signature_said, locals_of}
use Rattle.par_single.specs.Described.{field_named, method_named, is_channel_right, is_of_channel}
use Rattle.par_single.proofs.Found.{found_at}
use Rattle.par_single.specs.Descriptors as said
use Rattle.par_single.specs.Descriptors.{method_signature}
use Rattle.par_base.specs.Names.{is_name}
use Rattle.par_values.specs.declared.link.Target.TheVariants.{Code}
use Rattle.par_kinds.specs.par_step_laws.Links.{channel_of, method_link, builtin_initializer}
use Rattle.par_kinds.specs.par_step_laws.Links.{link_of}
use Rattle.par_kinds.specs.par_step_laws.Links.{field_link}
use Rattle.par_kinds.specs.par_step_laws.Links.{number_or, class_link, field_in, method_in}
use Rattle.par_kinds.specs.par_step_laws.Links.{builtin_class}
use Rattle.par_kinds.specs.par_step_laws.Methods.{method_descriptor, descriptor_in}
use Rattle.par_kinds.specs.par_step_laws.Methods.{methods_of as methods_at}
use Rattle.par_kinds.specs.par_step_laws.Methods.{class_pool, pool_of}
use Rattle.par_kinds.specs.Linked.{results_of, kinds_given, act_at, result_of}
use Rattle.par_kinds.specs.Shapes.{method_standing, receiver_of, receiver_also}
use Rattle.par_kinds.specs.Shapes.{Shape}
use Rattle.par_kinds.specs.Shapes.{Number}
use Rattle.par_kinds.specs.Shapes.{Class, Other, simple, is_made, class_shape}
use Rattle.par_kinds.specs.Shapes.{shape_at}
use Rattle.par_kinds.specs.Shapes.{shape_in}
use Rattle.par_kinds.specs.Shapes.{shape_of_entry, shape_of_link, fields_in}
use Rattle.par_kinds.specs.Shapes.{methods_in}
use Rattle.par_kinds.specs.Shapes.{ShapesAgree, field_shape, method_shape, standing}
use Rattle.par_kinds.specs.Shapes.{field_standing}
use Rattle.par_kinds.specs.Shapes.{act_of}
use Rattle.par_verify_laws.specs.LinkedLaws.{TextsTellActs}
use Rattle.par_kinds.proofs.par_link.Faultless.{method-right, unbroken, or-none, map-none}
use Rattle.par_kinds.specs.Shapes as shape
use Rattle.par_instr.specs.declared.instr.Instr.{Instr}
use Rattle.par_verify_laws.proofs.Shaped.{acts_agree}

-- the full name of a built-in class
abbrev full : Builtin → Name
full builtin.Object = codes "java/lang/Object"
full builtin.Exception = codes "java/lang/Exception"
full builtin.ArithmeticException = codes "java/lang/ArithmeticException"
full builtin.NullPointerException = codes "java/lang/NullPointerException"
full builtin.Locks = codes "paragon/Locks"

full-name : (name : Name) (b : Builtin) → builtins.builtin name ≡ Some b → name ≡ full b
full-name name b =
    choose (bytes_eq name (codes "java/lang/Object")) refl
    (bytes_eq name (codes "java/lang/Exception")) refl
    (bytes_eq name (codes "java/lang/ArithmeticException")) refl
    (bytes_eq name (codes "java/lang/NullPointerException")) refl
    (bytes_eq name (codes "paragon/Locks")) refl
  where
    is : (c : Builtin) → bytes_eq name (full c) ≡ true → Some c ≡ Some b → name ≡ full b
    is c e same = let one : c ≡ b = cc same in same_text name (full c) e ∙ ap full one

    choose : (o : Bool) → bytes_eq name (codes "java/lang/Object") ≡ o
        → (e : Bool) → bytes_eq name (codes "java/lang/Exception") ≡ e
        → (a : Bool) → bytes_eq name (codes "java/lang/ArithmeticException") ≡ a
        → (n : Bool) → bytes_eq name (codes "java/lang/NullPointerException") ≡ n
        → (l : Bool) → bytes_eq name (codes "paragon/Locks") ≡ l
        → cond o (Some builtin.Object) (cond e (Some builtin.Exception)
        (cond a (Some builtin.ArithmeticException) (cond n (Some builtin.NullPointerException)
        (cond l (Some builtin.Locks) None)))) ≡ Some b
        → name ≡ full b
    choose true p e q a r n s l t same = is builtin.Object p same
    choose false p true q a r n s l t same = is builtin.Exception q same
    choose false p false q true r n s l t same = is builtin.ArithmeticException r same
    choose false p false q false r true s l t same = is builtin.NullPointerException s same
    choose false p false q false r false s true t same = is builtin.Locks t same
    choose false p false q false r false s false t same = absurd (cc same)

unmap : {A B : Type 0} (f : A → B) (xs : List A) (n : ℕ) (y : B) → slice_get (map f xs) n ≡ Some y
    → (x : A) × (slice_get xs n ≡ Some x) × (f x ≡ y)
unmap f [] n y is = absurd (cc is)
unmap f (x ∷ xs) zero y is = (x, refl, cc is)
unmap f (x ∷ xs) (suc n) y is = unmap f xs n y is

module _ (files : List ClassFile) (linked : AreLinked files) where
  -- each class that is named is there
  pub class-there : (class : ℕ) (file : ClassFile) → slice_get files class ≡ Some file
      → (place name : ℕ) → slice_get file.pool.entries place ≡ Some (constant.Class name)
      → is_nothing (class_named files (text_at file.pool.entries name)) ≡ false
  unfolding constant_fault is_of named_by
  class-there class file listed place name at_place =
      let all = unbroken files linked class file listed in
      let three = (or-none (option_or (option_or (member_fault file) (description_fault file))
      (constant_fault files file)) (code_fault file) all).0 in
      let constants = (or-none (option_or (member_fault file) (description_fault file))
      (constant_fault files file) three).1 in
      let classes = (or-none _ _ (or-none _ _ constants).0).0 in
      let none = map-none _ _ (map-none _ _ classes) in
      position-none _ file.pool.entries none place (constant.Class name) at_place

  -- ---- classes

  builtin-shape : (b : Builtin)
      → shape_of_link files (named.Builtin b) (builtin_class files b)
      ≡ Class (simple (Some b) (full b)) (is_made (Some b))
  builtin-shape builtin.Object = refl
  builtin-shape builtin.Exception = refl
  builtin-shape builtin.ArithmeticException = refl
  builtin-shape builtin.NullPointerException = refl
  builtin-shape builtin.Locks = refl

  -- the file of a class that is found
  pub file-found : (name : Name) (class : ℕ) → class_place files name ≡ Some class
      → (file : ClassFile) × (slice_get files class ≡ Some file) × (own_name file ≡ name)
  file-found name class is =
      let found = found_at (bytes_eq name) (own_names files) class is in
      let file = unmap own_name files class found.item found.stands in
      (file.0, file.1, file.2 ∙ sym (same_text name found.item found.passes))

  class-agrees : (text : Name) → is_nothing (class_named files text) ≡ false
      → shape_of_link files (class_named files text) (link_of files (class_named files text))
      ≡ class_shape text
  class-agrees text there =
      in_case (builtins.builtin text) refl (class_place files text) refl there where
        in_case : (o : Option Builtin) → builtins.builtin text ≡ o
            → (c : Option ℕ) → class_place files text ≡ c
            → is_nothing (class_of o c) ≡ false
            → shape_of_link files (class_of o c) (link_of files (class_of o c))
            ≡ Class (simple o text) (is_made o)
        in_case (Some b) is c at there =
            builtin-shape b ∙ ap (λ (n : Name). Class (simple (Some b) n) (is_made (Some b)))
            (sym (full-name text b is))
        in_case None is None at there = absurd (cc there)
        in_case None is (Some c) at there =
            let f = file-found text c at in
            ap (λ (o : Option ClassFile). shape_of_link files (named.Class c) (class_link c o)) f.1
            ∙ ap (λ (n : Name). Class n true) f.2

  -- ---- fields

  -- where a member of a class of the files is found
  field-agrees : (m : Member)
      → shape_of_link files (field_declared files m) (link_of files (field_declared files m))
      ≡ field_shape m (fields_in files m)
  unfolding field_of said.kind_at builtins.builtin_field
  field-agrees m = in_class (builtins.builtin m.class) refl (class_place files m.class) refl where
    in_file : (class : ℕ) → class_place files m.class ≡ Some class → (o : Option ℕ)
        → place_in fields_of files class m ≡ o
        → shape_of_link files (declared named.Field class o)
        (link_of files (declared named.Field class o))
        ≡ field_shape m (standing files (declared named.Field class o))
    in_file class at None is = refl
    in_file class at (Some place) is =
        let f = file-found m.class class at in
        let here : position (is_same m) (fields_of f.0) ≡ Some place =
        sym (ap (option_and_then (λ file. position (is_same m) (fields_of file))) f.1) ∙ is in
        let found = found_at (is_same m) (fields_of f.0) place here in
        let field = unmap (field_named (f.0).pool.entries) (f.0).fields place found.item
        found.stands in
        let same = and_parts (bytes_eq m.name (found.item).name)
        (bytes_eq m.descriptor (found.item).descriptor) found.passes in
        let text : m.descriptor ≡ text_at (f.0).pool.entries (field.0).descriptor =
        same_text m.descriptor (found.item).descriptor same.1
        ∙ sym (ap (λ (x : Member). x.descriptor) field.2) in
        ap (λ (o : Option ClassFile). shape_of_link files
        (named.Field (record { class = class; place = place })) (field_in files class place o)) f.1
        ∙ ap (λ (o : Option FieldFile). shape_of_link files
        (named.Field (record { class = class; place = place }))
        (field_link files class f.0 place o)) field.1
        ∙ (λ i. shape.Field (f.2 i) (is_static (field.0).access) (kind_said (sym text i)))
        ∙ sym (ap (λ (o : Option ClassFile). field_shape m (field_standing o place)) f.1
        ∙ ap (λ (o : Option FieldFile). field_shape m (option_map (λ f. is_static f.access) o))
        field.1)

    lock : (o : Option ℕ) → m.class ≡ codes "paragon/Locks" → m.descriptor ≡ codes "Z"
        → shape_of_link files (builtins.lock_or_nothing o)
        (link_of files (builtins.lock_or_nothing o))
        ≡ field_shape m (standing files (builtins.lock_or_nothing o))
    lock None class descriptor = refl
    lock (Some n) class descriptor =
        sym (λ i. shape.Field (class i) true (kind_said (descriptor i)))

    built : (b : Builtin) → builtins.builtin m.class ≡ Some b
        → shape_of_link files (builtins.builtin_field b m)
        (link_of files (builtins.builtin_field b m))
        ≡ field_shape m (standing files (builtins.builtin_field b m))
    built builtin.Locks is = by_text (bytes_eq m.descriptor (codes "Z")) refl where
      by_text : (t : Bool) → bytes_eq m.descriptor (codes "Z") ≡ t
          → shape_of_link files (cond t (builtins.lock_or_nothing (builtins.lock_number m.name))
          named.Nothing)
          (link_of files (cond t (builtins.lock_or_nothing (builtins.lock_number m.name))
          named.Nothing))
          ≡ field_shape m
          (standing files (cond t (builtins.lock_or_nothing (builtins.lock_number m.name))
          named.Nothing))
      by_text true e =
          lock (builtins.lock_number m.name) (full-name m.class builtin.Locks is)
          (same_text m.descriptor (codes "Z") e)
      by_text false e = refl
    built builtin.Object is = refl
    built builtin.Exception is = refl
    built builtin.ArithmeticException is = refl
    built builtin.NullPointerException is = refl

    in_class : (o : Option Builtin) → builtins.builtin m.class ≡ o
        → (c : Option ℕ) → class_place files m.class ≡ c
        → shape_of_link files (field_of files m (class_of o c))
        (link_of files (field_of files m (class_of o c)))
        ≡ field_shape m (standing files (field_of files m (class_of o c)))
    in_class None is None at = refl
    in_class None is (Some class) at = in_file class at (place_in fields_of files class m) refl
    in_class (Some b) is c at = built b is

  -- ---- methods

  module _ (class place : ℕ) (file : ClassFile) (listed_at : slice_get files class ≡ Some file)
      (m : MethodFile) (at_place : slice_get file.methods place ≡ Some m) where
    abbrev text : Name
    text = text_at file.pool.entries m.descriptor

    or-cases : (a b : Bool) → (a || b) ≡ true → (a ≡ true) ⊎ (b ≡ true)
    or-cases true b e = inl refl
    or-cases false b e = inr e

    channel-text : is_native m.access ≡ true → is_of_channel text ≡ true
    channel-text native =
        let right = method-right files linked class file listed_at place m at_place in
        let second = (and_parts (is_some (method_signature text))
        (not (is_native m.access) || is_channel_right file.pool.entries m) right).1 in
        let channel : is_channel_right file.pool.entries m ≡ true =
        sym (ap (λ b. not b || is_channel_right file.pool.entries m) native) ∙ second in
        (and_parts (is_name (text_at file.pool.entries m.name) && is_static m.access)
        (is_of_channel text) channel).1

    channel-results : (c n : Name) (t : Name) → is_of_channel t ≡ true
        → results_of files (channel_of c n (signature_said t).takes)
        ≡ kinds_given (signature_said t).gives
    unfolding said.kinds_in said.kind_at
    channel-results c n t right =
        ⊎_elim
        (λ e. subst (λ (t : Name). results_of files (channel_of c n (signature_said t).takes)
        ≡ kinds_given (signature_said t).gives) (sym (same_text t (codes "()I") e)) refl)
        (λ e. subst (λ (t : Name). results_of files (channel_of c n (signature_said t).takes)
        ≡ kinds_given (signature_said t).gives) (sym (same_text t (codes "(I)V") e)) refl)
        (or-cases (bytes_eq t (codes "()I")) (bytes_eq t (codes "(I)V")) right)

    descriptor-is : method_descriptor files class place ≡ text
    descriptor-is =
        ap (λ o. descriptor_in (pool_of o) (slice_get (methods_at o) place)) listed_at
        ∙ ap (descriptor_in file.pool.entries) at_place

    target-results : (b : Bool) → is_native m.access ≡ b
        → results_of files
        (cond b (channel_of (own_name file) (text_at file.pool.entries m.name)
        (signature_said text).takes)
        (Code class place (locals_of m.code)))
        ≡ kinds_given (signature_said text).gives
    target-results true native =
        channel-results (own_name file) (text_at file.pool.entries m.name) text
        (channel-text native)
    target-results false native =
        ap (λ (t : Name). kinds_given (signature_said t).gives) descriptor-is

  method-agrees : (m : Member)
      → shape_of_link files (method_declared files m) (link_of files (method_declared files m))
      ≡ method_shape m (methods_in files m)
  unfolding method_of said.kinds_in said.kind_at builtins.builtin_method
  method-agrees m = in_class (builtins.builtin m.class) refl (class_place files m.class) refl where
    shaped : Option Builtin → Bool → Shape
    shaped b static =
        shape.Method (record {
          static = static;
          initializer = is_initializer m;
          receiver = receiver_of b m.class;
          takes = (signature_said m.descriptor).takes;
          results = kinds_given (signature_said m.descriptor).gives;
          also = receiver_also b;
        })

    in_file : builtins.builtin m.class ≡ None → (class : ℕ) → class_place files m.class ≡ Some class
        → (o : Option ℕ) → place_in methods_of files class m ≡ o
        → shape_of_link files (declared named.Method class o)
        (link_of files (declared named.Method class o))
        ≡ method_shape m (standing files (declared named.Method class o))
    in_file own class at None is = refl
    in_file own class at (Some place) is =
        let f = file-found m.class class at in
        let here : position (is_same m) (methods_of f.0) ≡ Some place =
        sym (ap (option_and_then (λ file. position (is_same m) (methods_of file))) f.1) ∙ is in
        let found = found_at (is_same m) (methods_of f.0) place here in
        let method = unmap (method_named (f.0).pool.entries) (f.0).methods place found.item
        found.stands in
        let same = and_parts (bytes_eq m.name (found.item).name)
        (bytes_eq m.descriptor (found.item).descriptor) found.passes in
        let text : text_at (f.0).pool.entries (method.0).descriptor ≡ m.descriptor =
        ap (λ (x : Member). x.descriptor) method.2
        ∙ sym (same_text m.descriptor (found.item).descriptor same.1) in
        let name : text_at (f.0).pool.entries (method.0).name ≡ m.name =
        ap (λ (x : Member). x.name) method.2 ∙ sym (same_text m.name (found.item).name same.0) in
        let results = target-results class place f.0 f.1 method.0 method.1
        (is_native (method.0).access) refl in
        let n = named.Method (record { class = class; place = place }) in
        let receiver : Object m.class ≡ receiver_of (builtins.builtin m.class) m.class =
        ap (λ b. receiver_of b m.class) (sym own) in
        ap (λ (o : Option ClassFile). shape_of_link files n (method_in class place o)) f.1
        ∙ ap (λ (o : Option MethodFile). shape_of_link files n (method_link class f.0 place o))
        method.1 ∙ (λ i. shape.Method (record {
          static = is_static (method.0).access;
          initializer = bytes_eq (name i) (codes "<init>") && bytes_eq (text i) (codes "()V");
          receiver = Object (f.2 i);
          takes = (signature_said (text i)).takes;
          results = (results ∙ ap (λ (t : Name). kinds_given (signature_said t).gives) text) i;
          also = shape.receiver_also None;
        }))
        ∙ ap (λ b. shaped b (is_static (method.0).access)) (sym own)
        ∙ sym (ap (λ (o : Option ClassFile). method_shape m (method_standing o place)) f.1
        ∙ ap (λ (o : Option MethodFile). method_shape m (option_map (λ f. is_static f.access) o))
        method.1)

    -- the initializer of a built-in class, as frames see it
    made : Builtin → Shape
    made b =
        shape.Method (record {
          static = false;
          initializer = true;
          receiver = receiver_of (Some b) m.class;
          takes = [];
          results = [];
          also = receiver_also (Some b);
        })

    by_text : (b : Builtin) → builtins.builtin m.class ≡ Some b
        → shape_of_link files (named.Initializer b) (builtin_initializer b) ≡ made b
        → shape_of_link files (builtins.initializer b m) (link_of files (builtins.initializer b m))
        ≡ method_shape m (standing files (builtins.initializer b m))
    by_text b is plain = in_case (is_initializer m) refl where
      in_case : (t : Bool) → is_initializer m ≡ t
          → shape_of_link files (cond t (named.Initializer b) named.Nothing)
          (link_of files (cond t (named.Initializer b) named.Nothing))
          ≡ method_shape m (standing files (cond t (named.Initializer b) named.Nothing))
      in_case false e = refl
      in_case true e =
          let both = and_parts (bytes_eq m.name (codes "<init>"))
          (bytes_eq m.descriptor (codes "()V")) e in
          let descriptor = sym (same_text m.descriptor (codes "()V") both.1) in
          let start = sym e in
          plain
          ∙ (λ i. shape.Method (record {
            static = false;
            initializer = start i;
            receiver = receiver_of (Some b) m.class;
            takes = (signature_said (descriptor i)).takes;
            results = kinds_given (signature_said (descriptor i)).gives;
            also = receiver_also (Some b);
          }))
          ∙ ap (λ b. shaped b false) (sym is)

    built : (b : Builtin) → builtins.builtin m.class ≡ Some b
        → shape_of_link files (builtins.builtin_method b m)
        (link_of files (builtins.builtin_method b m))
        ≡ method_shape m (standing files (builtins.builtin_method b m))
    built builtin.Locks is = refl
    built builtin.Object is = by_text builtin.Object is refl
    built builtin.Exception is = by_text builtin.Exception is refl
    built builtin.ArithmeticException is = by_text builtin.ArithmeticException is refl
    built builtin.NullPointerException is = by_text builtin.NullPointerException is refl

    in_class : (o : Option Builtin) → builtins.builtin m.class ≡ o
        → (c : Option ℕ) → class_place files m.class ≡ c
        → shape_of_link files (method_of files m (class_of o c))
        (link_of files (method_of files m (class_of o c)))
        ≡ method_shape m (standing files (method_of files m (class_of o c)))
    in_class None is None at = refl
    in_class None is (Some class) at = in_file is class at (place_in methods_of files class m) refl
    in_class (Some b) is c at = built b is

  -- ---- indices

  abbrev fields : shape.Members
  fields = fields_in files

  abbrev methods : shape.Members
  methods = methods_in files

  entry-agrees : (class : ℕ) (file : ClassFile) → slice_get files class ≡ Some file
      → (place : ℕ) (o : Option Constant) → slice_get file.pool.entries place ≡ o
      → shape_of_link files (option_map_or (named_by files file.pool.entries) o named.Nothing)
      (number_or (link_of files (option_map_or (named_by files file.pool.entries) o named.Nothing))
      o)
      ≡ shape_of_entry fields methods file.pool.entries o
  unfolding named_by
  entry-agrees class file listed_at place None at_place = refl
  entry-agrees class file listed_at place (Some (constant.Class name)) at_place =
      class-agrees (text_at file.pool.entries name)
      (class-there class file listed_at place name at_place)
  entry-agrees class file listed_at place (Some (constant.Field c member)) at_place =
      field-agrees (member_at file.pool.entries c member)
  entry-agrees class file listed_at place (Some (constant.Method c member)) at_place =
      method-agrees (member_at file.pool.entries c member)
  entry-agrees class file listed_at place (Some c) at_place = refl

  abbrev AgreesIn : Option ClassFile → ℕ → Type 0
  AgreesIn o index =
      shape_of_link files (named_in files o index)
      (number_or (link_of files (named_in files o index)) (entry_at (pool_of o) index))
      ≡ shape_in fields methods (pool_of o) index

  index-agrees : (class index : ℕ) (o : Option ClassFile) → slice_get files class ≡ o
      → AgreesIn o index
  index-agrees class zero None is = refl
  index-agrees class (suc place) None is = refl
  index-agrees class zero (Some file) is = refl
  index-agrees class (suc place) (Some file) is =
      entry-agrees class file is place (slice_get file.pool.entries place) refl

  pub shapes_agree : ShapesAgree files
  shapes_agree class index = index-agrees class index (slice_get files class) refl

  -- the rule of an instruction by texts, at any method of the files
  pub acts_by_text : (class method : ℕ) (i : Instr)
      → act_at files class method i
      ≡ act_of (result_of files class method) (shape_in fields methods (class_pool files class)) i
  acts_by_text class method i =
      acts_agree files class method i
      ∙ (λ j. act_of (result_of files class method) (λ (index : ℕ). shapes_agree class index j) i)

pub texts_tell_acts : TextsTellActs
texts_tell_acts = acts_by_text
