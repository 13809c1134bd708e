-- What an index of an invoke tells of the method that it names.
use Rattle.std.proofs.Common.{◌≡◌, ℕ, ◌+◌, ◌-◌, ◌<◌, Bool, true, false, not, if◌then◌else◌, List}
use Rattle.std.proofs.Common.{[], ◌∷◌, length, ◌++◌, drop, reverse, Option, Some, None, slice_get}
use Rattle.std.proofs.Common.{refl, sym, ap, subst, ◌∙◌, length-drop}
use Rattle.std.proofs.Math.Path.{fun_ext}
use Rattle.std.proofs.lemmas.List.{length-append, length-reverse}
use Rattle.std.proofs.lemmas.Option.{slice_get_within}
use Rattle.par_pool.specs.declared.constant.Constant.{Constant}
use Rattle.par_pool.specs.declared.constant.Constant.TheVariants as constant
use Rattle.par_pool.specs.Entries.{entry_at}
use Rattle.par_class.specs.declared.file.MethodFile.{MethodFile}
use Rattle.par_class.specs.declared.file.ClassFile.{ClassFile}
use Rattle.par_class.specs.Spelling.{is_native}
use Rattle.par_values.specs.declared.value.MVal.{MVal}
use Rattle.par_values.specs.declared.value.MVal.TheVariants.{Int, Null, Ref}
use Rattle.par_values.specs.declared.kind.Kind.{Kind}
use Rattle.par_values.specs.declared.kind.Kind.TheVariants.{AnyObject}
use Rattle.par_values.specs.declared.inputs.ChannelInput.{ChannelInput}
use Rattle.par_values.specs.declared.link.MethodLink.{MethodLink}
use Rattle.par_values.specs.declared.link.Link.{Link}
use Rattle.par_values.specs.declared.link.Link.TheVariants as link
use Rattle.par_values.specs.declared.link.Target.{Target}
use Rattle.par_values.specs.declared.link.Target.TheVariants as target
use Rattle.par_values.specs.Areas.{Name, Areas, InputLists, operand}
use Rattle.par_values.specs.Effects.{Calls, effect, called, called_on}
use Rattle.par_values.specs.Operations.{Operation, InvokeStatic, InvokeSpecial, InvokeVirtual}
use Rattle.par_values.specs.Operations.{Misnamed, of_method, takes}
use Rattle.par_values.specs.Reasons.{is_of}
use Rattle.par_method_area.specs.par_link.entry.Builtin.TheVariants as builtin
use Rattle.par_method_area.specs.par_link.entry.Named.{Named}
use Rattle.par_method_area.specs.par_link.entry.Named.TheVariants as named
use Rattle.par_method_area.specs.par_link.Linked.{named_at}
use Rattle.par_method_area.specs.par_step_laws.Classes.{exceptions}
use Rattle.par_method_area.specs.par_step_laws.Links.{link_of, link_at, number_or, class_link}
use Rattle.par_method_area.specs.par_step_laws.Links.{field_in}
use Rattle.par_method_area.specs.par_step_laws.Links.{field_link}
use Rattle.par_method_area.specs.par_step_laws.Links.{method_in, method_link, initializer_link}
use Rattle.par_method_area.specs.par_step_laws.Links.{channel_of}
use Rattle.par_method_area.specs.par_step_laws.Methods.{class_pool}
use Rattle.par_method_area.specs.par_step_laws.State.{whole_inputs}
use Rattle.par_method_area.specs.par_step_laws.Step.{is_no_exception}
use Rattle.par_method_area.specs.par_actions.declared.callee.Callee.{Callee}
use Rattle.par_method_area.specs.par_actions.Calls.{is_misreceived}
use Rattle.par_lines.specs.Lines.{AreLeft}
use Rattle.par_method_area.specs.Area.{Area}
use Rattle.par_method_area.specs.Known.{KnowsMethod, IsNamedMethod, is_exception_initializer}
use Rattle.par_method_area.proofs.Linking.{linked}

-- a method is known only where the index names one
pub method_known : (area : Area) (n : Named) (l : Link) (x : Callee) → KnowsMethod area n l (Some x)
    → (m : MethodLink) × (l ≡ link.Method m) × IsNamedMethod area n m x
method_known area n (link.Number v) x known = absurd known
method_known area n (link.Field f) x known = absurd known
method_known area n (link.Method m) x known = (m, refl, known)
method_known area n (link.Class c) x known = absurd known
method_known area n link.Other x known = absurd known

-- where no method is known, the index is of another kind
pub method_unknown : (area : Area) (n : Named) (l : Link) (form : MethodLink → Operation)
    (kinds : List Kind) (k : ℕ)
    → KnowsMethod area n l None
    → of_method form (Misnamed kinds k) l ≡ Misnamed kinds k
method_unknown area n (link.Number v) form kinds k known = refl
method_unknown area n (link.Field f) form kinds k known = refl
method_unknown area n (link.Method m) form kinds k known = absurd known
method_unknown area n (link.Class c) form kinds k known = refl
method_unknown area n link.Other form kinds k known = refl

-- ---- the initializer of all exceptions, which takes no argument

abbrev takes_of : Link → ℕ
takes_of (link.Method m) = length m.takes
takes_of _ = 0

module _ (files : List ClassFile) (class index : ℕ) where
  module _ (m : MethodLink) (only : Bool) (a : Areas)
      (is : link_at files class index ≡ link.Method m) where
    abbrev Received : Named → Type 0
    Received n = is_no_exception (exceptions files) n (operand 0 a) ≡ is_misreceived only
        (exceptions files) (operand (length m.takes) a)

    not_only : only ≡ false → false ≡ is_misreceived only (exceptions files)
        (operand (length m.takes) a)
    not_only never = ap (λ b. is_misreceived b (exceptions files) (operand (length m.takes) a))
        (sym never)

    -- who may receive the call is told by the callee as by what is named
    pub received_known : (n : Named) → n ≡ named_at files class index
        → only ≡ is_exception_initializer n → Received n
    received_known (named.Initializer builtin.Exception) at only_is =
        let l : initializer_link AnyObject ≡ link.Method m =
        linked files class index (named.Initializer builtin.Exception) at (λ none. cc none) ∙ is in
        let none : length m.takes ≡ 0 = ap takes_of (sym l) in
        ap (λ k. not (is_of (exceptions files) (operand k a))) (sym none)
        ∙ ap (λ b. is_misreceived b (exceptions files) (operand (length m.takes) a)) (sym only_is)
    received_known (named.Initializer builtin.Object) at only_is = not_only only_is
    received_known (named.Initializer builtin.ArithmeticException) at only_is = not_only only_is
    received_known (named.Initializer builtin.NullPointerException) at only_is = not_only only_is
    received_known (named.Initializer builtin.Locks) at only_is = not_only only_is
    received_known (named.Class c) at only_is = not_only only_is
    received_known (named.Builtin b) at only_is = not_only only_is
    received_known (named.Field d) at only_is = not_only only_is
    received_known (named.Method d) at only_is = not_only only_is
    received_known (named.Lock k) at only_is = not_only only_is
    received_known named.Nothing at only_is = not_only only_is

-- where no method is known, the call is received
pub received_unknown : (area : Area) (class index : ℕ) (v : MVal) (n : Named)
    → n ≡ named_at area.files class index
    → KnowsMethod area n (link_at area.files class index) None
    → is_no_exception (exceptions area.files) n v ≡ false
received_unknown area class index v (named.Initializer builtin.Exception) at known =
    absurd
    (subst (λ l. KnowsMethod area (named.Initializer builtin.Exception) l None)
    (sym (linked area.files class index (named.Initializer builtin.Exception) at (λ none. cc none)))
    known)
received_unknown area class index v (named.Initializer builtin.Object) at known = refl
received_unknown area class index v (named.Initializer builtin.ArithmeticException) at known = refl
received_unknown area class index v (named.Initializer builtin.NullPointerException) at known = refl
received_unknown area class index v (named.Initializer builtin.Locks) at known = refl
received_unknown area class index v (named.Class c) at known = refl
received_unknown area class index v (named.Builtin b) at known = refl
received_unknown area class index v (named.Field d) at known = refl
received_unknown area class index v (named.Method d) at known = refl
received_unknown area class index v (named.Lock k) at known = refl
received_unknown area class index v named.Nothing at known = refl

-- ---- a method of code is one of a class of the files

abbrev target_in : Link → Target
target_in (link.Method m) = m.target
target_in _ = target.Nothing

module _ (m : MethodLink) (c method locals : ℕ) (code : m.target ≡ target.Code c method locals)
  where
    by_native : (b : Bool) (kinds : List Kind) (class place l : ℕ) (named_class name : Name)
        → (if b then channel_of named_class name kinds else target.Code class place l)
        ≡ target.Code c method locals → class ≡ c
    by_native true [] class place l named_class name is = absurd (cc)
    by_native true (kind ∷ kinds) class place l named_class name is = absurd (cc)
    by_native false kinds class place l named_class name is = cc

    in_class : (class : ℕ) (file : ClassFile) (place : ℕ) (o : Option MethodFile)
        → method_link class file place o ≡ link.Method m → class ≡ c
    in_class class file place None is = absurd (cc)
    in_class class file place (Some f) is = by_native (is_native f.access) _ class place _ _ _
        (ap target_in is ∙ code)

    in_file : (files : List ClassFile) (class place : ℕ) (o : Option ClassFile)
        → slice_get files class ≡ o → method_in class place o ≡ link.Method m
        → c < length files
    in_file files class place None at is = absurd (cc)
    in_file files class place (Some file) at is =
        let same = in_class class file place (slice_get file.methods place) is in
        subst (λ k. k < length files) same (slice_get_within files class file at)

    no_class : (class : ℕ) (o : Option ClassFile) → class_link class o ≡ link.Method m → ⊥
    no_class class None is = cc
    no_class class (Some file) is = cc

    no_member : (files : List ClassFile) (class : ℕ) (file : ClassFile) (place : ℕ)
        → field_link files class file place (slice_get file.fields place) ≡ link.Method m
        → ⊥
    no_member files class file place is = by_field (slice_get file.fields place) is where
      by_field : (o : Option _) → field_link files class file place o ≡ link.Method m → ⊥
      by_field None e = cc
      by_field (Some f) e = cc

    no_field : (files : List ClassFile) (class place : ℕ) (o : Option ClassFile)
        → field_in files class place o ≡ link.Method m → ⊥
    no_field files class place None is = cc
    no_field files class place (Some file) is = no_member files class file place is

    no_code : (kind : Kind) → initializer_link kind ≡ link.Method m → ⊥
    no_code kind is = let e = ap target_in is ∙ code in cc

    of_named : (files : List ClassFile) (n : Named) → link_of files n ≡ link.Method m
        → c < length files
    of_named files (named.Method d) is = in_file files d.class d.place
        (slice_get files d.class) refl is
    of_named files (named.Class class) is = absurd (no_class class (slice_get files class) is)
    of_named files (named.Builtin builtin.Object) is = absurd (cc)
    of_named files (named.Builtin builtin.Exception) is = absurd (cc)
    of_named files (named.Builtin builtin.ArithmeticException) is = absurd (cc)
    of_named files (named.Builtin builtin.NullPointerException) is = absurd (cc)
    of_named files (named.Builtin builtin.Locks) is = absurd (cc)
    of_named files (named.Field d) is = absurd (no_field files d.class d.place
        (slice_get files d.class) is)
    of_named files (named.Lock k) is = absurd (cc)
    of_named files (named.Initializer builtin.Object) is = absurd (no_code _ is)
    of_named files (named.Initializer builtin.Exception) is = absurd (no_code _ is)
    of_named files (named.Initializer builtin.ArithmeticException) is = absurd (no_code _ is)
    of_named files (named.Initializer builtin.NullPointerException) is = absurd (no_code _ is)
    of_named files (named.Initializer builtin.Locks) is = absurd (cc)
    of_named files named.Nothing is = absurd (cc)

    of_number : (l : Link) (e : Option Constant) → number_or l e ≡ link.Method m → l ≡ link.Method m
    of_number l None is = is
    of_number l (Some (constant.Integer n)) is = absurd (cc)
    of_number l (Some _) is = is

    -- the class of the code is one of the files
    pub code_listed : (files : List ClassFile) (class index : ℕ)
        → link_at files class index ≡ link.Method m → c < length files
    code_listed files class index is =
        of_named files (named_at files class index)
        (of_number (link_of files (named_at files class index))
        (entry_at (class_pool files class) index) is)

-- ---- what a call leaves

-- the operands that a call of an operation leaves
abbrev pub Leaves : List Name → Operation → Areas → Type 0
Leaves classes o a =
    (class method locals : ℕ) (arguments : List MVal) (after : Areas)
    → effect classes o a ≡ Calls class method locals arguments after
    → length after.operands ≡ length a.operands - length (takes o)

module _ (a : Areas) (class method locals : ℕ) (arguments : List MVal) (after : Areas) where
  called_leaves : (n : ℕ) (t : Target) → called n t a ≡ Calls class method locals arguments after
      → after.operands ≡ drop n a.operands
  called_leaves n (target.Input c name) is = absurd (cc)
  called_leaves n (target.Output c name) is = absurd (cc)
  called_leaves n (target.Code c k l) is = cc
  called_leaves n target.Nothing is = absurd (cc)

  called_on_leaves : (v : MVal) (n : ℕ) (t : Target)
      → called_on v n t a ≡ Calls class method locals arguments after
      → after.operands ≡ drop (n + 1) a.operands
  called_on_leaves Null n t is = absurd (cc)
  called_on_leaves (Int v) n t is = called_leaves (n + 1) t is
  called_on_leaves (Ref c k) n t is = called_leaves (n + 1) t is

dropped : (n : ℕ) (vs left : List MVal) → left ≡ drop n vs → length left ≡ length vs - n
dropped n vs left is = ap (λ (xs : List MVal). length xs) is ∙ length-drop n vs

on_object : (m : MethodLink) → length (reverse m.takes ++ m.receiver ∷ []) ≡ length m.takes + 1
on_object m = length-append (reverse m.takes) (m.receiver ∷ [])
    ∙ ap (λ n. n + 1) (length-reverse m.takes)

-- a static call takes its arguments
pub static_leaves : (classes : List Name) (m : MethodLink) (a : Areas)
    → Leaves classes (InvokeStatic m) a
unfolding effect
static_leaves classes m a class method locals arguments after is =
    dropped (length m.takes) a.operands after.operands
    (called_leaves a class method locals arguments after (length m.takes) m.target is)
    ∙ ap (λ n. length a.operands - n) (sym (length-reverse m.takes))

-- a call of an initializer takes its object too
pub special_leaves : (classes : List Name) (m : MethodLink) (a : Areas)
    → Leaves classes (InvokeSpecial m) a
unfolding effect
special_leaves classes m a class method locals arguments after is =
    dropped (length m.takes + 1) a.operands after.operands
    (called_on_leaves a class method locals arguments after (operand (length m.takes) a)
    (length m.takes) m.target is)
    ∙ ap (λ n. length a.operands - n) (sym (on_object m))

-- and so does a call of a method
pub virtual_leaves : (classes : List Name) (m : MethodLink) (a : Areas)
    → Leaves classes (InvokeVirtual m) a
unfolding effect
virtual_leaves classes m a class method locals arguments after is =
    dropped (length m.takes + 1) a.operands after.operands
    (called_on_leaves a class method locals arguments after (operand (length m.takes) a)
    (length m.takes) m.target is)
    ∙ ap (λ n. length a.operands - n) (sym (on_object m))

-- ---- what the lines have left

-- lines with nothing else left are equal inputs
pub inputs_are : (lines : List ChannelInput) (inputs : InputLists) → AreLeft lines inputs
    → whole_inputs lines ≡ inputs
inputs_are lines inputs left = fun_ext (λ class. fun_ext (λ name. sym (left class name)))
