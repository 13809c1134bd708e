-- What a layout says of classes and members, in terms of the table and the loaded files.
use Rattle.std.proofs.Common.{◌≡◌, ℕ, zero, suc, ◌<◌, Bool, true, false, cond, List, Option}
use Rattle.std.proofs.Common.{Some, None, slice_get, refl, sym, ap, ◌∙◌, arith}
use Rattle.std.proofs.Common.{⊎_elim}
use Rattle.std.proofs.lemmas.Bool.{and_parts, or_cases, not-true, ltb-true}
use Rattle.par_typed.specs.declared.ty.Ty.{Ty}
use Rattle.par_typed.specs.declared.table.ChannelInfo.{ChannelInfo}
use Rattle.par_typed.specs.declared.table.ClassInfo.{ClassInfo}
use Rattle.par_typed.specs.declared.table.FieldInfo.{FieldInfo}
use Rattle.par_typed.specs.declared.table.MethodInfo.{MethodInfo}
use Rattle.par_typed.specs.declared.table.Table.{Table}
use Rattle.par_typed.specs.Plain.{TSta, Body}
use Rattle.par_typed.specs.Members.{fields_in, channels_in, methods_in, field_at, channel_at}
use Rattle.par_typed.specs.Members.{method_at}
use Rattle.par_class.specs.declared.file.ClassFile.{ClassFile}
use Rattle.par_run_laws.specs.Names.{body_of}
use Rattle.par_source_code_laws.specs.par_evaluation_laws.Laid.{Meth, IsMade, IsThrown, HasStatic}
use Rattle.par_source_code_laws.specs.par_evaluation_laws.Laid.{HasOwn, IsInput}
use Rattle.par_source_code_laws.specs.par_evaluation_laws.Laid.{IsOutput}
use Rattle.par_source_code_laws.specs.par_evaluation_laws.Laid.{HasMethod}
use Rattle.par_source_code_laws.specs.Methods.{meth, may_meth, meth_at, is_ordinary}
use Rattle.par_typed.specs.Members.{class_is_exception}
use Rattle.par_source_code_laws.specs.Methods.{static_type}
use Rattle.par_source_code_laws.specs.Methods.{own_type, is_input, is_output}
use Rattle.par_file_run_laws.specs.Layout.{file_place, is_loaded, layout_of}
use Rattle.par_file_run_laws.proofs.Lists.{found, chosen}
use Rattle.par_file_run_laws.specs.Parts.{Known}
use Rattle.par_file_run_laws.proofs.Known.{Stands, stands}
use Rattle.par_file_run_laws.proofs.Classes.{Raised, raised, raised-first, raised-second}

-- ---- members of a class

pub record FieldIn (class : ClassInfo) (f : ℕ) (shared : Bool) (t : Ty) : Type 0 where
  pub info : FieldInfo
  pub has : slice_get class.fields f ≡ Some info
  pub static : info.is_static ≡ shared
  pub type : info.ty ≡ t

pub record ChannelIn (class : ClassInfo) (k : ℕ) (takes : Bool) : Type 0 where
  pub info : ChannelInfo
  pub has : slice_get class.channels k ≡ Some info
  pub kind : info.is_input ≡ takes

pub record MethodIn (bodies : List Body) (class : ClassInfo) (c i : ℕ) (me : Meth) : Type 0 where
  pub info : MethodInfo
  pub body : TSta
  pub has : slice_get class.methods i ≡ Some info
  pub body_is : body_of bodies c i ≡ Some body
  pub is : meth info body ≡ me

static-in-class : (class : ClassInfo) (f : ℕ) (t : Ty) (o : Option FieldInfo)
    → slice_get class.fields f ≡ o → static_type o ≡ Some t → FieldIn class f true t
static-in-class class f t None has is = absurd (cc is)
static-in-class class f t (Some info) has is =
    let both = chosen info.is_static (Some info.ty) t is in
    let same : info.ty ≡ t = cc (both.1) in
    record { info = info; has = has; static = both.0; type = same }

own-in-class : (class : ClassInfo) (f : ℕ) (t : Ty) (o : Option FieldInfo)
    → slice_get class.fields f ≡ o → own_type o ≡ Some t → FieldIn class f false t
own-in-class class f t None has is = absurd (cc is)
own-in-class class f t (Some info) has is = in_case info.is_static refl is where
  in_case : (b : Bool) → info.is_static ≡ b → cond b None (Some info.ty) ≡ Some t
      → FieldIn class f false t
  in_case true static some = absurd (cc some)
  in_case false static some =
      let same : info.ty ≡ t = cc some in
      record { info = info; has = has; static = static; type = same }

input-in-class : (class : ClassInfo) (k : ℕ) (o : Option ChannelInfo)
    → slice_get class.channels k ≡ o → is_input o ≡ true → ChannelIn class k true
input-in-class class k None has is = absurd (cc is)
input-in-class class k (Some info) has is = record { info = info; has = has; kind = is }

output-in-class : (class : ClassInfo) (k : ℕ) (o : Option ChannelInfo)
    → slice_get class.channels k ≡ o → is_output o ≡ true → ChannelIn class k false
output-in-class class k None has is = absurd (cc is)
output-in-class class k (Some info) has is =
    record { info = info; has = has; kind = not-true info.is_input is }

method-in-class : (bodies : List Body) (class : ClassInfo) (c i : ℕ) (me : Meth)
    (o : Option MethodInfo) (body : Option TSta) → slice_get class.methods i ≡ o
    → body_of bodies c i ≡ body → may_meth o body ≡ Some me → MethodIn bodies class c i me
method-in-class bodies class c i me None body has body_is is = absurd (cc is)
method-in-class bodies class c i me (Some info) None has body_is is = absurd (cc is)
method-in-class bodies class c i me (Some info) (Some body) has body_is is =
    let same : meth info body ≡ me = cc is in
    record { info = info; body = body; has = has; body_is = body_is; is = same }

-- an exception is no other class
both-kinds : (o : Option ClassInfo) → is_ordinary o ≡ true → class_is_exception o ≡ true → ⊥
both-kinds None ordinary exception = absurd (cc ordinary)
both-kinds (Some class) ordinary exception =
    absurd (cc (sym exception ∙ not-true class.exception ordinary))

module _ (table : Table) (bodies : List Body) (files : List ClassFile)
    (known : Known table bodies files) where
  abbrev pub Here : ℕ → Type 0
  Here c = (n : ℕ) × Stands table bodies files c n

  pub here : (c : ℕ) → is_loaded files table c ≡ true → Here c
  here c is =
      let placed = found (file_place files table c) is in
      (placed.item, stands table bodies files known c placed.item placed.is)

  -- ---- classes

  pub made-here : (c : ℕ) → IsMade (layout_of files table bodies) c → Here c
  made-here c is = here c (and_parts (is_loaded files table c) _ is).0

  pub made-ordinary : (c : ℕ) → IsMade (layout_of files table bodies) c
      → is_ordinary (slice_get table.classes c) ≡ true
  made-ordinary c is = (and_parts (is_loaded files table c) _ is).1

  pub ordinary-class : (c n : ℕ) (s : Stands table bodies files c n)
      → is_ordinary (slice_get table.classes c) ≡ true → s.class.exception ≡ false
  ordinary-class c n s is = not-true s.class.exception (ap is_ordinary (sym s.there) ∙ is)

  pub thrown-exception : (x : ℕ) → IsThrown (layout_of files table bodies) x
      → class_is_exception (slice_get table.classes x) ≡ true
  thrown-exception x is = (and_parts _ (class_is_exception (slice_get table.classes x)) is).1

  early-raised : (x : ℕ) → x < 2 → Raised table files x
  early-raised zero early = raised-first table bodies files known
  early-raised (suc zero) early = raised-second table bodies files known
  early-raised (suc (suc x)) early = absurd (omega arith)

  pub thrown-raised : (x : ℕ) → IsThrown (layout_of files table bodies) x → Raised table files x
  thrown-raised x is =
      ⊎_elim
      (λ loaded. let at = here x loaded in
      raised table bodies files known x at.0 at.1
      (ap class_is_exception (sym at.1.there) ∙ thrown-exception x is))
      (λ early. early-raised x (ltb-true x 2 early))
      (or_cases (is_loaded files table x) _
      (and_parts _ (class_is_exception (slice_get table.classes x)) is).0)

  pub not-both : (c x : ℕ) → IsMade (layout_of files table bodies) c
      → IsThrown (layout_of files table bodies) x → c ≡ x → ⊥
  not-both c x made thrown same =
      both-kinds (slice_get table.classes x)
      (ap (λ (d : ℕ). is_ordinary (slice_get table.classes d)) (sym same) ∙ made-ordinary c made)
      (thrown-exception x thrown)

  -- ---- fields

  pub static-here : (c f : ℕ) (t : Ty) → HasStatic (layout_of files table bodies) c f t → Here c
  static-here c f t is = here c (chosen (is_loaded files table c) _ t is).0

  pub static-in : (c f : ℕ) (t : Ty) → HasStatic (layout_of files table bodies) c f t → (n : ℕ)
      (s : Stands table bodies files c n) → FieldIn s.class f true t
  static-in c f t is n s =
      static-in-class s.class f t (field_at table c f)
      (ap (λ (o : Option ClassInfo). slice_get (fields_in o) f) (sym s.there))
      (chosen (is_loaded files table c) (static_type (field_at table c f)) t is).1

  pub own-here : (c f : ℕ) (t : Ty) → HasOwn (layout_of files table bodies) c f t → Here c
  own-here c f t is = here c (chosen (is_loaded files table c) _ t is).0

  pub own-in : (c f : ℕ) (t : Ty) → HasOwn (layout_of files table bodies) c f t → (n : ℕ)
      (s : Stands table bodies files c n) → FieldIn s.class f false t
  own-in c f t is n s =
      own-in-class s.class f t (field_at table c f)
      (ap (λ (o : Option ClassInfo). slice_get (fields_in o) f) (sym s.there))
      (chosen (is_loaded files table c) (own_type (field_at table c f)) t is).1

  -- ---- channels

  pub input-here : (c k : ℕ) → IsInput (layout_of files table bodies) c k → Here c
  input-here c k is = here c (and_parts (is_loaded files table c) _ is).0

  pub input-in : (c k : ℕ) → IsInput (layout_of files table bodies) c k → (n : ℕ)
      (s : Stands table bodies files c n) → ChannelIn s.class k true
  input-in c k is n s =
      input-in-class s.class k (channel_at table c k)
      (ap (λ (o : Option ClassInfo). slice_get (channels_in o) k) (sym s.there))
      (and_parts (is_loaded files table c) (is_input (channel_at table c k)) is).1

  pub output-here : (c k : ℕ) → IsOutput (layout_of files table bodies) c k → Here c
  output-here c k is = here c (and_parts (is_loaded files table c) _ is).0

  pub output-in : (c k : ℕ) → IsOutput (layout_of files table bodies) c k → (n : ℕ)
      (s : Stands table bodies files c n) → ChannelIn s.class k false
  output-in c k is n s =
      output-in-class s.class k (channel_at table c k)
      (ap (λ (o : Option ClassInfo). slice_get (channels_in o) k) (sym s.there))
      (and_parts (is_loaded files table c) (is_output (channel_at table c k)) is).1

  -- ---- methods

  pub method-here : (c i : ℕ) (me : Meth) → HasMethod (layout_of files table bodies) c i me
      → Here c
  method-here c i me is = here c (chosen (is_loaded files table c) _ me is).0

  pub method-in : (c i : ℕ) (me : Meth) → HasMethod (layout_of files table bodies) c i me → (n : ℕ)
      (s : Stands table bodies files c n) → MethodIn bodies s.class c i me
  method-in c i me is n s =
      method-in-class bodies s.class c i me (method_at table c i) (body_of bodies c i)
      (ap (λ (o : Option ClassInfo). slice_get (methods_in o) i) (sym s.there)) refl
      (chosen (is_loaded files table c) (meth_at table bodies c i) me is).1
