-- When names and numbers are the same to a program and to a machine, and when their states agree.
use Rattle.par_evaluation_laws.specs.Laid.{HasMethod, HasOwn, HasStatic, IsInput, IsLock, IsMade}
use Rattle.par_evaluation_laws.specs.Laid.{IsOutput}
use Rattle.par_evaluation_laws.specs.Laid.{IsThrown}
use Rattle.std.specs.Prelude.{◌≡◌, ℕ, ◌≤◌, ◌<◌, true, false, not, ◌&&◌, List, [], ◌∷◌, ◌⊎◌}
use Rattle.std.specs.Prelude.{length, Option, Some, None, map, codes}
use Rattle.std.specs.Prelude.{◌==◌}
use Rattle.std.specs.List.{slice_get}
use Rattle.std.specs.Str.{bytes_eq}
use Rattle.par_policy.specs.Numbers.{has}
use Rattle.par_run_laws.specs.par_typed.declared.ty.Ty.{Ty}
use Rattle.par_run_laws.specs.par_typed.declared.ty.Ty.TheVariants as ty
use Rattle.par_run_laws.specs.par_typed.declared.table.Table.{Table}
use Rattle.par_run_laws.specs.par_values.declared.kind.Kind.{Kind}
use Rattle.par_run_laws.specs.par_values.declared.kind.Kind.TheVariants as kind
use Rattle.par_run_laws.specs.par_values.declared.link.Link.TheVariants as link
use Rattle.par_run_laws.specs.par_values.declared.link.Target.TheVariants as to
use Rattle.par_run_laws.specs.par_values.declared.link.MethodLink.{MethodLink}
use Rattle.par_run_laws.specs.par_values.declared.link.Target.{Target}
use Rattle.par_run_laws.specs.Values.{truth}
use Rattle.par_run_laws.specs.par_values.declared.value.MVal.{MVal}
use Rattle.par_run_laws.specs.par_values.declared.value.MVal.TheVariants as value
use Rattle.par_run_laws.specs.par_values.Areas.{Name, Areas, InputLists, Objects, fits, first_value}
use Rattle.par_run_laws.specs.par_values.Areas.{local_value}
use Rattle.par_run_laws.specs.par_values.Areas.{objects_of, list_or_none, value_or_null}
use Rattle.par_run_laws.specs.par_values.Areas.{class_named}
use Rattle.par_run_laws.specs.par_values.Areas.{taken_from}
use Rattle.par_run_laws.specs.par_values.Areas.{left}
use Rattle.par_run_laws.specs.par_values.Areas as areas
use Rattle.par_run_laws.specs.par_values.Reasons.{is_of}
use Rattle.par_run_laws.specs.State.{State}
use Rattle.par_run_laws.specs.Names as names
use Rattle.par_match_laws.specs.Labelled.{Naming}
use Rattle.par_match_laws.specs.par_code_form.Code.{Words, is_void}
use Rattle.par_evaluation_laws.specs.Laid.{Layout, Meth, OfValues, given_types, moved, HasType}
use Rattle.par_program_laws.specs.Locals.{IsSet}
use Rattle.par_evaluation_laws.specs.Laid.{kind_of}

-- an initializer
abbrev pub initializer : Kind → Target → MethodLink
initializer receiver target = record {
  is_static = false;
  is_initializer = true;
  receiver = receiver;
  takes = [];
  gives = false;
  target = target;
}

-- what an initializer runs: nothing where its class has no file
abbrev pub init_target : ℕ → Option ℕ → Target
init_target number None = to.Nothing
init_target number (Some at) = to.Code number at 1

module _ (env : Naming) (w : Words) (lay : Layout) (t : Table) where
  -- what names and numbers are to the source and to the machine
  pub record Lays : Type 0 where
    pub number_one : (c d : ℕ) → IsMade lay c → IsMade lay d → lay.number c ≡ lay.number d → c ≡ d
    pub number_named : (c : ℕ) → IsMade lay c → class_named env.names (lay.number c) ≡ w.class c
    pub class_named : (c : ℕ) → IsMade lay c → names.class_named t c ≡ Some (w.class c)
    pub made_named : (c : ℕ) → IsMade lay c → names.made_named t c ≡ Some (w.class c)
    pub made_link : (c : ℕ) → IsMade lay c → (fields : List Kind)
        × (env.class (w.class c) ≡ link.Class (record {
          name = w.class c;
          number = lay.number c;
          fields = fields;
          is_exception = false;
          is_made = true;
        }))
        × ((f : ℕ) (ty : Ty) → HasOwn lay c f ty
        → slice_get (map first_value fields)
        (lay.field_at c f) ≡ Some (moved lay (names.first_field t c f)))
    pub first_typed : (c f : ℕ) (ty : Ty) (b : ℕ → ℕ) → HasOwn lay c f ty
        → HasType lay b ty (names.first_field t c f)
    pub plain : (c f : ℕ) (ty : Ty) → HasStatic lay c f ty
        → bytes_eq (w.class c) (codes "paragon/Locks") ≡ false
    pub static_named : (c f : ℕ) (ty : Ty) → HasStatic lay c f ty
        → names.field_named t c f ≡ Some (record { class = w.class c; name = w.field c f })
    pub static_link : (c f : ℕ) (ty : Ty) → HasStatic lay c f ty
        → env.field (w.class c) (w.field c f) (w.field_type c f) ≡ link.Field (record {
          class = w.class c;
          name = w.field c f;
          is_static = true;
          kind = kind_of w ty;
          place = lay.static_at c f;
        })
    pub static_one : (c f d g : ℕ) (ty u : Ty) → HasStatic lay c f ty → HasStatic lay d g u
        → lay.static_at c f ≡ lay.static_at d g → (c ≡ d) × (f ≡ g)
    pub static_typed : (c f : ℕ) (ty u : Ty) → HasStatic lay c f ty → HasStatic lay c f u → ty ≡ u
    pub static_value : (c f : ℕ) (u : Ty) → HasStatic lay c f u → u ≡ ty.Void → ⊥
    pub own_value : (c f : ℕ) (u : Ty) → HasOwn lay c f u → u ≡ ty.Void → ⊥
    pub own_named : (c f : ℕ) (ty : Ty) → HasOwn lay c f ty
        → names.field_named t c f ≡ Some (record { class = w.class c; name = w.field c f })
    pub own_link : (c f : ℕ) (ty : Ty) → HasOwn lay c f ty
        → env.field (w.class c) (w.field c f) (w.field_type c f) ≡ link.Field (record {
          class = w.class c;
          name = w.field c f;
          is_static = false;
          kind = kind_of w ty;
          place = lay.field_at c f;
        })
    pub own_one : (c f g : ℕ) (ty u : Ty) → HasOwn lay c f ty → HasOwn lay c g u
        → lay.field_at c f ≡ lay.field_at c g → f ≡ g
    pub own_typed : (c f : ℕ) (ty u : Ty) → HasOwn lay c f ty → HasOwn lay c f u → ty ≡ u
    pub in_named : (c k : ℕ) → IsInput lay c k
        → names.channel_named t c k ≡ Some (record { class = w.class c; name = w.channel c k })
    pub in_link : (c k : ℕ) → IsInput lay c k
        → env.method (w.class c) (w.channel c k) (codes "()I") ≡ link.Method (record {
          is_static = true;
          is_initializer = false;
          receiver = kind.Object (w.class c);
          takes = [];
          gives = true;
          target = to.Input (w.class c) (w.channel c k);
        })
    pub in_plain : (c k : ℕ) → IsInput lay c k
        → env.wants_exception (w.class c) (w.channel c k) (codes "()I") ≡ false
    pub out_plain : (c k : ℕ) → IsOutput lay c k
        → env.wants_exception (w.class c) (w.channel c k) (codes "(I)V") ≡ false
    pub method_plain : (c i : ℕ) (me : Meth) → HasMethod lay c i me
        → env.wants_exception (w.class c) (w.method c i) (w.method_type c i) ≡ false
    pub method_link : (c i : ℕ) (me : Meth) → HasMethod lay c i me
        → env.method (w.class c) (w.method c i) (w.method_type c i) ≡ link.Method (record {
          is_static = me.static;
          is_initializer = false;
          receiver = kind.Object (w.class c);
          takes = map (kind_of w) me.takes;
          gives = not (is_void me.result);
          target = to.Code (lay.number c) (lay.method_at c i) me.many;
        })
    pub method_values : (c i : ℕ) (me : Meth) → HasMethod lay c i me → OfValues me.takes
    pub method_room : (c i : ℕ) (me : Meth) → HasMethod lay c i me
        → length (given_types c me) ≤ me.many
    pub init_plain : (c : ℕ) → IsMade lay c ⊎ IsThrown lay c
        → env.wants_exception (w.class c) (codes "<init>") (codes "()V") ≡ false
    pub init_link : (c : ℕ) → IsMade lay c ⊎ IsThrown lay c
        → env.method (w.class c) (codes "<init>") (codes "()V")
        ≡ link.Method (initializer (kind.Object (w.class c)) (init_target (lay.number c)
        (lay.init_at c)))
    -- the initializers of all objects and of all exceptions do nothing
    pub object_link : env.method (codes "java/lang/Object") (codes "<init>") (codes "()V")
        ≡ link.Method (initializer kind.AnyObject to.Nothing)
    pub exception_link : env.method (codes "java/lang/Exception") (codes "<init>") (codes "()V")
        ≡ link.Method (initializer kind.AnyObject to.Nothing)
    pub object_plain : env.wants_exception (codes "java/lang/Object") (codes "<init>")
        (codes "()V") ≡ false
    pub thrown_number : (x : ℕ) → IsThrown lay x → env.number (w.class x) ≡ lay.number x
    pub thrown_one : (x y : ℕ) → IsThrown lay x → IsThrown lay y → lay.number x ≡ lay.number y
        → x ≡ y
    pub thrown_is : (x n : ℕ) → IsThrown lay x
        → is_of env.exceptions (value.Ref (lay.number x) n) ≡ true
    pub thrown_source : (x : ℕ) → IsThrown lay x → names.class_named t x ≡ Some (w.class x)
    pub thrown_named : (x : ℕ) → IsThrown lay x
        → areas.class_named env.names (lay.number x) ≡ w.class x
    pub thrown_link : (x : ℕ) → IsThrown lay x → env.class (w.class x) ≡ link.Class (record {
      name = w.class x;
      number = lay.number x;
      fields = [];
      is_exception = true;
      is_made = true;
    })
    -- the locks that are asked for
    pub lock_link : (l : ℕ) → IsLock lay l → (name : Name) × (env.lock l ≡ link.Field (record {
      class = codes "paragon/Locks";
      name = name;
      is_static = true;
      kind = kind.Number;
      place = lay.lock_at l;
    }))
    pub lock_one : (l k : ℕ) → IsLock lay l → IsLock lay k → lay.lock_at l ≡ lay.lock_at k → l ≡ k
    pub lock_beside : (c f l : ℕ) (ty : Ty) → HasStatic lay c f ty → IsLock lay l
        → lay.static_at c f ≡ lay.lock_at l → ⊥
    pub in_one : (c k d j : ℕ) → IsInput lay c k → IsInput lay d j
        → (bytes_eq (w.class d) (w.class c) && bytes_eq (w.channel d j)
        (w.channel c k)) ≡ ((d == c) && (j == k))
    pub out_named : (c k : ℕ) → IsOutput lay c k
        → names.channel_named t c k ≡ Some (record { class = w.class c; name = w.channel c k })
    pub out_link : (c k : ℕ) → IsOutput lay c k
        → env.method (w.class c) (w.channel c k) (codes "(I)V") ≡ link.Method (record {
          is_static = true;
          is_initializer = false;
          receiver = kind.Object (w.class c);
          takes = kind.Number ∷ [];
          gives = false;
          target = to.Output (w.class c) (w.channel c k);
        })
    -- the two exceptions that every program has
    pub arithmetic : env.exception_named (codes "ArithmeticException") ≡ lay.number 0
    pub null_pointer : env.exception_named (codes "NullPointerException") ≡ lay.number 1
    pub zero_thrown : IsThrown lay 0
    pub one_thrown : IsThrown lay 1
    pub apart : (c x : ℕ) → IsMade lay c → IsThrown lay x → lay.number c ≡ lay.number x → ⊥

  module _ (tys : ℕ → Ty) (many : ℕ) (base : ℕ → ℕ) where
    -- the locals that are set are as in the source, and so are fields, objects and inputs
    pub record Good (set : List ℕ) (s : State) (locals : List (Option MVal)) (statics : List MVal)
        (objects : Objects) (inputs : InputLists) : Type 0 where
      pub size : length locals ≡ many
      pub locals_are : (x : ℕ) → IsSet set x
          → (local_value (slice_get locals x) ≡ Some (moved lay (s.locals x)))
          × HasType lay s.births (tys x) (s.locals x)
      pub statics_are : (c f : ℕ) (ty : Ty) → HasStatic lay c f ty
          → (slice_get statics (lay.static_at c f) ≡ Some (moved lay (s.statics c f)))
          × HasType lay s.births ty (s.statics c f)
      pub many_are : (c : ℕ) → IsMade lay c
          → length (list_or_none (slice_get objects (lay.number c))) ≡ s.births c
      pub there : (c : ℕ) → IsMade lay c → lay.number c < length objects
      pub fields_are : (c n f : ℕ) (ty : Ty) → HasOwn lay c f ty → IsMade lay c → n < s.births c
          → (slice_get (list_or_none (slice_get (list_or_none (slice_get objects (lay.number c)))
          n)) (lay.field_at c f)
          ≡ Some (moved lay (s.fields c n f))) × HasType lay s.births ty (s.fields c n f)
      -- births only rise, from what they were where the method was entered
      pub grown : (c : ℕ) → base c ≤ s.births c
      pub locks_are : (l : ℕ) → IsLock lay l
          → slice_get statics (lay.lock_at l) ≡ Some (truth (has s.locks l))
      pub inputs_are : (c k : ℕ) → IsInput lay c k → inputs (w.class c)
          (w.channel c k) ≡ s.inputs c k

    abbrev pub Fine : List ℕ → State → Areas → Type 0
    Fine set s a = Good set s a.locals a.statics a.objects a.inputs
