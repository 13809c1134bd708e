-- Whether an instruction stands where one goes on.
use Rattle.std.proofs.Common.{◌≡◌, ℕ, ◌+◌, pos, ◌+ℤ◌, Bool, true, false, if◌then◌else◌, List, codes}
use Rattle.std.proofs.Common.{refl, sym, ap, ◌∙◌}
use Rattle.std.specs.Str.{bytes_eq}
use Rattle.std.proofs.lemmas.Bool.{false≢true}
use Rattle.par_instr.specs.declared.instr.Instr.{Instr}
use Rattle.par_instr.specs.declared.instr.Instr.TheVariants as instr
use Rattle.par_values.specs.declared.kind.Kind.{Kind}
use Rattle.par_values.specs.declared.run.Event.{Event}
use Rattle.par_values.specs.declared.run.Event.TheVariants.{Out, Set, Put, Born}
use Rattle.par_values.specs.declared.link.FieldLink.{FieldLink}
use Rattle.par_values.specs.declared.link.MethodLink.{MethodLink}
use Rattle.par_values.specs.declared.link.Link.{Link}
use Rattle.par_values.specs.declared.link.Link.TheVariants as link
use Rattle.par_values.specs.Areas.{Areas}
use Rattle.par_values.specs.Operations.{Operation, Misnamed, PutStatic, GetStatic, GetField}
use Rattle.par_values.specs.Operations.{PutField, InvokeStatic, InvokeSpecial, InvokeVirtual}
use Rattle.par_values.specs.Operations.{operation, constant, of_field, of_method, of_class}
use Rattle.par_values.specs.Effects.{Effect, Goes, Happens, Jumps, Calls, Throws, ThrowsObject}
use Rattle.par_values.specs.Effects.{Returns, ReturnsWith}
use Rattle.par_method_area.specs.par_step_laws.Step.{without_locks, unless_lock, next_of}
use Rattle.par_single.specs.Walk.{starts_at, stands_at}
use Rattle.par_method_area.specs.par_actions.declared.done.Ways.{Ways}
use Rattle.par_method_area.specs.par_actions.Done.{distance, way_of}
use Rattle.par_starts.specs.Standing.{reach_of}
use Rattle.par_machine.specs.Instructions.{is_branch}
use Rattle.par_machine.proofs.Effected.{is_fork, IsEffectOf}

next_unless : (e : Event) (a : Areas) (at size : ℕ)
    → next_of (unless_lock e a) at size ≡ pos (at + size)
next_unless (Out class name n) a at size = refl
next_unless (Put class n name v) a at size = refl
next_unless (Born class n) a at size = refl
next_unless (Set class name v) a at size = by_lock (bytes_eq class (codes "paragon/Locks")) where
  by_lock : (b : Bool) → next_of (if b then Goes a else Happens (Set class name v) a) at size ≡ pos
      (at + size)
  by_lock true = refl
  by_lock false = refl

-- the way that an effect takes
pub way_stands : (code : List ℕ) (at size : ℕ) (ways : Ways) (o : Operation) (e : Effect)
    → IsEffectOf o e
    → starts_at code (at + size) ≡ ways.ahead → stands_at code (pos at +ℤ distance o) ≡ ways.aside
    → stands_at code (next_of (without_locks e) at size) ≡ way_of ways e
way_stands code at size ways o (Goes a) is ahead aside = ahead
way_stands code at size ways o (Happens e a) is ahead aside =
    ap (λ to. stands_at code to) (next_unless e a at size) ∙ ahead
way_stands code at size ways o (Jumps to a) is ahead aside =
    ap (λ d. stands_at code (pos at +ℤ d)) is.0 ∙ aside
way_stands code at size ways o (Calls class method locals arguments a) is ahead aside = ahead
way_stands code at size ways o (Throws name) is ahead aside = ahead
way_stands code at size ways o (ThrowsObject v) is ahead aside = ahead
way_stands code at size ways o Returns is ahead aside = ahead
way_stands code at size ways o (ReturnsWith v) is ahead aside = ahead

-- one that cannot go on at a distance goes on behind itself
pub ahead_stands : (code : List ℕ) (at size : ℕ) (ahead : Bool) (o : Operation) (e : Effect)
    → IsEffectOf o e → is_fork o ≡ false
    → starts_at code (at + size) ≡ ahead → stands_at code
    (next_of (without_locks e) at size) ≡ ahead
ahead_stands code at size ahead o (Goes a) is plain h = h
ahead_stands code at size ahead o (Happens e a) is plain h =
    ap (λ to. stands_at code to) (next_unless e a at size) ∙ h
ahead_stands code at size ahead o (Jumps to a) is plain h = absurd (false≢true (sym plain ∙ is.1))
ahead_stands code at size ahead o (Calls class method locals arguments a) is plain h = h
ahead_stands code at size ahead o (Throws name) is plain h = h
ahead_stands code at size ahead o (ThrowsObject v) is plain h = h
ahead_stands code at size ahead o Returns is plain h = h
ahead_stands code at size ahead o (ReturnsWith v) is plain h = h

-- ---- what is known of an operation by its instruction

-- whether an operation writes a static field
abbrev pub is_put : Operation → Bool
is_put (PutStatic f) = true
is_put _ = false

-- whether an instruction may
abbrev pub may_put : Instr → Bool
may_put (instr.Putstatic index) = true
may_put _ = false

-- What an instruction that names something comes to is no branch, and reaches no other offset.
pub record IsPlain (o : Operation) : Type 0 where
  pub fork : is_fork o ≡ false
  pub distance : distance o ≡ pos 0

plain_constant : (l : Link) → IsPlain (constant l)
plain_constant (link.Number v) = record { fork = refl; distance = refl }
plain_constant (link.Field f) = record { fork = refl; distance = refl }
plain_constant (link.Method f) = record { fork = refl; distance = refl }
plain_constant (link.Class c) = record { fork = refl; distance = refl }
plain_constant link.Other = record { fork = refl; distance = refl }

plain_field : (form : FieldLink → Operation) (kinds : List Kind) (k : ℕ)
    → ((f : FieldLink) → IsPlain (form f)) → (l : Link)
    → IsPlain (of_field form (Misnamed kinds k) l)
plain_field form kinds k is (link.Number v) = record { fork = refl; distance = refl }
plain_field form kinds k is (link.Field f) = is f
plain_field form kinds k is (link.Method f) = record { fork = refl; distance = refl }
plain_field form kinds k is (link.Class c) = record { fork = refl; distance = refl }
plain_field form kinds k is link.Other = record { fork = refl; distance = refl }

plain_method : (form : MethodLink → Operation) (kinds : List Kind) (k : ℕ)
    → ((m : MethodLink) → IsPlain (form m)) → (l : Link)
    → IsPlain (of_method form (Misnamed kinds k) l)
plain_method form kinds k is (link.Number v) = record { fork = refl; distance = refl }
plain_method form kinds k is (link.Field f) = record { fork = refl; distance = refl }
plain_method form kinds k is (link.Method m) = is m
plain_method form kinds k is (link.Class c) = record { fork = refl; distance = refl }
plain_method form kinds k is link.Other = record { fork = refl; distance = refl }

plain_class : (l : Link) → IsPlain (of_class l)
plain_class (link.Number v) = record { fork = refl; distance = refl }
plain_class (link.Field f) = record { fork = refl; distance = refl }
plain_class (link.Method m) = record { fork = refl; distance = refl }
plain_class (link.Class c) = record { fork = refl; distance = refl }
plain_class link.Other = record { fork = refl; distance = refl }

-- and so is what its instruction is
pub is_plain : (names : ℕ → Link) (i : Instr) → is_branch i ≡ false → IsPlain (operation names i)
is_plain names (instr.Ldc n) plain = plain_constant (names n)
is_plain names (instr.LdcW n) plain = plain_constant (names n)
is_plain names (instr.Getstatic n) plain = plain_field GetStatic _ _
    (λ f. record { fork = refl; distance = refl }) (names n)
is_plain names (instr.Putstatic n) plain = plain_field PutStatic _ _
    (λ f. record { fork = refl; distance = refl }) (names n)
is_plain names (instr.Getfield n) plain = plain_field GetField _ _
    (λ f. record { fork = refl; distance = refl }) (names n)
is_plain names (instr.Putfield n) plain = plain_field PutField _ _
    (λ f. record { fork = refl; distance = refl }) (names n)
is_plain names (instr.Invokevirtual n) plain =
    plain_method InvokeVirtual _ _ (λ f. record { fork = refl; distance = refl }) (names n)
is_plain names (instr.Invokespecial n) plain =
    plain_method InvokeSpecial _ _ (λ f. record { fork = refl; distance = refl }) (names n)
is_plain names (instr.Invokestatic n) plain =
    plain_method InvokeStatic _ _ (λ f. record { fork = refl; distance = refl }) (names n)
is_plain names (instr.New n) plain = plain_class (names n)
is_plain names (instr.If test to) plain = absurd (cc)
is_plain names (instr.IfIcmp test to) plain = absurd (cc)
is_plain names (instr.IfAcmpeq to) plain = absurd (cc)
is_plain names (instr.IfAcmpne to) plain = absurd (cc)
is_plain names (instr.Goto to) plain = absurd (cc)
is_plain names (instr.Ifnull to) plain = absurd (cc)
is_plain names (instr.Ifnonnull to) plain = absurd (cc)
is_plain names _ plain = record { fork = refl; distance = refl }

-- the distance of an operation is that of its instruction
pub distance_is : (names : ℕ → Link) (i : Instr) → distance (operation names i) ≡ reach_of i
distance_is names (instr.Ldc n) = (is_plain names (instr.Ldc n) refl).distance
distance_is names (instr.LdcW n) = (is_plain names (instr.LdcW n) refl).distance
distance_is names (instr.Getstatic n) = (is_plain names (instr.Getstatic n) refl).distance
distance_is names (instr.Putstatic n) = (is_plain names (instr.Putstatic n) refl).distance
distance_is names (instr.Getfield n) = (is_plain names (instr.Getfield n) refl).distance
distance_is names (instr.Putfield n) = (is_plain names (instr.Putfield n) refl).distance
distance_is names (instr.Invokevirtual n) = (is_plain names (instr.Invokevirtual n) refl).distance
distance_is names (instr.Invokespecial n) = (is_plain names (instr.Invokespecial n) refl).distance
distance_is names (instr.Invokestatic n) = (is_plain names (instr.Invokestatic n) refl).distance
distance_is names (instr.New n) = (is_plain names (instr.New n) refl).distance
distance_is names _ = refl

not_put_field : (form : FieldLink → Operation) (kinds : List Kind) (k : ℕ)
    → ((f : FieldLink) → is_put (form f) ≡ false) → (l : Link)
    → is_put (of_field form (Misnamed kinds k) l) ≡ false
not_put_field form kinds k is (link.Number v) = refl
not_put_field form kinds k is (link.Field f) = is f
not_put_field form kinds k is (link.Method f) = refl
not_put_field form kinds k is (link.Class c) = refl
not_put_field form kinds k is link.Other = refl

not_put_method : (form : MethodLink → Operation) (kinds : List Kind) (k : ℕ)
    → ((m : MethodLink) → is_put (form m) ≡ false) → (l : Link)
    → is_put (of_method form (Misnamed kinds k) l) ≡ false
not_put_method form kinds k is (link.Number v) = refl
not_put_method form kinds k is (link.Field f) = refl
not_put_method form kinds k is (link.Method m) = is m
not_put_method form kinds k is (link.Class c) = refl
not_put_method form kinds k is link.Other = refl

not_put_constant : (l : Link) → is_put (constant l) ≡ false
not_put_constant (link.Number v) = refl
not_put_constant (link.Field f) = refl
not_put_constant (link.Method m) = refl
not_put_constant (link.Class c) = refl
not_put_constant link.Other = refl

not_put_class : (l : Link) → is_put (of_class l) ≡ false
not_put_class (link.Number v) = refl
not_put_class (link.Field f) = refl
not_put_class (link.Method m) = refl
not_put_class (link.Class c) = refl
not_put_class link.Other = refl

-- an instruction that is no write of a static field is none as an operation
pub not_put : (names : ℕ → Link) (i : Instr) → may_put i ≡ false
    → is_put (operation names i) ≡ false
not_put names (instr.Ldc n) plain = not_put_constant (names n)
not_put names (instr.LdcW n) plain = not_put_constant (names n)
not_put names (instr.Getstatic n) plain = not_put_field GetStatic _ _ (λ f. refl) (names n)
not_put names (instr.Putstatic n) plain = absurd (cc)
not_put names (instr.Getfield n) plain = not_put_field GetField _ _ (λ f. refl) (names n)
not_put names (instr.Putfield n) plain = not_put_field PutField _ _ (λ f. refl) (names n)
not_put names (instr.Invokevirtual n) plain = not_put_method InvokeVirtual _ _ (λ f. refl) (names n)
not_put names (instr.Invokespecial n) plain = not_put_method InvokeSpecial _ _ (λ f. refl) (names n)
not_put names (instr.Invokestatic n) plain = not_put_method InvokeStatic _ _ (λ f. refl) (names n)
not_put names (instr.New n) plain = not_put_class (names n)
not_put names _ plain = refl

-- an operation that writes no static field writes no lock
pub no_lock : (o : Operation) (e : Effect) → is_put o ≡ false → IsEffectOf o e → without_locks e ≡ e
no_lock o (Goes a) plain is = refl
no_lock o (Happens (Out class name n) a) plain is = refl
no_lock o (Happens (Set class name v) a) plain is = absurd (false≢true (sym plain ∙ ap is_put is.1))
no_lock o (Happens (Put class n name v) a) plain is = refl
no_lock o (Happens (Born class n) a) plain is = refl
no_lock o (Jumps to a) plain is = refl
no_lock o (Calls class method locals arguments a) plain is = refl
no_lock o (Throws name) plain is = refl
no_lock o (ThrowsObject v) plain is = refl
no_lock o Returns plain is = refl
no_lock o (ReturnsWith v) plain is = refl
