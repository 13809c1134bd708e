-- What an instruction that came to something is known by.
use Rattle.std.proofs.Common.{◌≡◌, ℕ, suc, ◌+◌, ◌<◌, ◌≤◌, ℤ, pos, ◌+ℤ◌, Bool, true, false, not}
use Rattle.std.proofs.Common.{◌||◌, ◌==◌, eqb-true, if◌then◌else◌, List, [], ◌∷◌, length, Option}
use Rattle.std.proofs.Common.{Some, None, is_none, is_some, refl, sym, ap, subst, ◌∙◌, arith}
use Rattle.std.specs.List.{list_any}
use Rattle.std.proofs.lemmas.Bool.{false≢true}
use Rattle.par_class.specs.declared.file.ClassFile.{ClassFile}
use Rattle.par_values.specs.declared.value.MVal.{MVal}
use Rattle.par_values.specs.declared.value.MVal.TheVariants.{Int, Null, Ref}
use Rattle.par_values.specs.declared.kind.Kind.{Kind}
use Rattle.par_values.specs.declared.run.Event.TheVariants.{Out, Set, Put, Born}
use Rattle.par_values.specs.declared.link.ClassLink.{ClassLink}
use Rattle.par_values.specs.declared.link.MethodLink.{MethodLink}
use Rattle.par_values.specs.declared.link.Link.{Link}
use Rattle.par_values.specs.declared.link.Link.TheVariants as link
use Rattle.par_values.specs.declared.link.Target.{Target}
use Rattle.par_values.specs.declared.link.Target.TheVariants as target
use Rattle.par_values.specs.Areas.{Name, Areas, operand, shown_value}
use Rattle.par_values.specs.declared.run.Val.{Val}
use Rattle.par_values.specs.Operations.{Operation, PutStatic, PutField, InvokeStatic, InvokeSpecial}
use Rattle.par_values.specs.Operations.{InvokeVirtual, Create, Throw, LeaveWith}
use Rattle.par_values.specs.Effects.{Effect, Happens, Jumps, ThrowsObject, ReturnsWith, effect}
use Rattle.par_values.specs.Effects.{thrown}
use Rattle.par_values.specs.Reasons.{is_of}
use Rattle.par_method_area.specs.par_actions.declared.done.Done.{Done}
use Rattle.par_method_area.specs.par_actions.declared.done.Done.TheVariants as done
use Rattle.par_method_area.specs.par_actions.Done.{lesser, thrown_reason, distance, target_of}
use Rattle.par_method_area.specs.par_actions.Done.{out_by, born_event}
use Rattle.par_method_area.specs.par_actions.Done.{set_event, put_event}
use Rattle.par_single.specs.Links.{signature_said}
use Rattle.par_single.specs.Walk.{stands_at}
use Rattle.par_values.specs.Operations.{operation}
use Rattle.par_values.specs.Reasons.{falls, misreturns, misused}
use Rattle.par_stack.specs.declared.point.Point.{Point}
use Rattle.par_stack.specs.Frames.{running}
use Rattle.par_method_area.specs.par_step_laws.Classes.{class_names, exceptions}
use Rattle.par_method_area.specs.par_step_laws.Handlers.{is_lost, is_roomless}
use Rattle.par_method_area.specs.par_step_laws.Links.{link_at}
use Rattle.par_method_area.specs.par_step_laws.Methods.{method_descriptor}
use Rattle.par_method_area.specs.par_step_laws.Step.{next_of, offset, handlers, number_of_class}
use Rattle.par_method_area.specs.par_step_laws.Step.{thrown_class}
use Rattle.par_machine.specs.Frames.{code_of, gives}
use Rattle.par_starts.specs.Standing.{reach_of}
use Rattle.par_machine.specs.Instructions.{index_of}
use Rattle.par_machine.specs.Running.{here, below}
use Rattle.par_machine.specs.Site.{areas_at, operation_at, does, spot_of, against, decoded}
use Rattle.par_machine.specs.Site.{named_by, IsCome, IsKnown}
use Rattle.par_machine.specs.declared.run.Running.{Running}
use Rattle.par_machine.specs.declared.site.Site.{Site}
use Rattle.par_machine.proofs.Free.{IsFree, is_free, or_2_none}
use Rattle.par_machine.proofs.Linking.{link_of}
use Rattle.par_machine.proofs.Standing.{distance_is}
use Rattle.par_machine.proofs.Within.{stand_within}
use Rattle.par_machine.proofs.Effected.{callee_of, IsEventOf, IsEffectOf, effect_of}
use Rattle.par_machine.proofs.Linking.{IsLinkOf}
use Rattle.par_machine.specs.Site.{IsMade, IsOutput, is_object}
use Rattle.par_method_area.specs.par_step_laws.Classes.{is_exception, exceptions_from}

-- whether an operation writes a field
abbrev pub is_write : Operation → Bool
is_write (PutStatic f) = true
is_write (PutField f) = true
is_write _ = false

-- ---- the kinds of effects that are known, whatever the operation

-- the class of an object that is made is the one that is named
pub made_by : (o : Operation) (l : Link) (class : Name) (n : ℕ) → IsEventOf o (Born class n)
    → IsLinkOf o l → (c : ClassLink) × (o ≡ Create c) × (l ≡ link.Class c)
made_by o l class n is by = (is.0, is.1, subst (λ o. IsLinkOf o l) is.1 by)

called_link : (o : Operation) (m : MethodLink) (l : Link) → callee_of o ≡ Some m → IsLinkOf o l
    → l ≡ link.Method m
called_link (InvokeStatic k) m l is by = by ∙ ap (λ (q : MethodLink). link.Method q) (the_callee is)
  where
    the_callee : Some k ≡ Some m → k ≡ m
    the_callee e = cc
called_link (InvokeSpecial k) m l is by = by ∙ ap (λ (q : MethodLink). link.Method q)
    (the_callee is) where
      the_callee : Some k ≡ Some m → k ≡ m
      the_callee e = cc
called_link (InvokeVirtual k) m l is by = by ∙ ap (λ (q : MethodLink). link.Method q)
    (the_callee is) where
      the_callee : Some k ≡ Some m → k ≡ m
      the_callee e = cc
called_link _ m l is by = absurd (cc)

-- the channel of what is put out is the one that is named
pub output_by : (o : Operation) (l : Link) (class name : Name) (n : ℤ)
    → IsEventOf o (Out class name n) → IsLinkOf o l → IsOutput l
output_by o l class name n is by =
    subst IsOutput (sym (called_link o is.0 l is.1 by)) (class, name, is.2)

out_is : (t : Target) (n : ℤ) → (class : Name) × (name : Name) × (out_by t n ≡ Out class name n)
out_is (target.Output class name) n = (class, name, refl)
out_is (target.Input class name) n = ([], [], refl)
out_is (target.Code class method locals) n = ([], [], refl)
out_is target.Nothing n = ([], [], refl)

-- ---- what an instruction that writes no field is known by

object_is : (v : MVal) (class n : ℕ) → v ≡ Ref class n → is_object v ≡ true
object_is v class n is = ap is_object is

-- a class among some, where the first of them is or is not
first_or_later : (b : Bool) (from class : ℕ) (others : List ℕ) (bound : ℕ) → from < bound
    → (list_any (λ d. d == class) others ≡ true → class < bound)
    → list_any (λ d. d == class) (if b then from ∷ others else others) ≡ true → class < bound
first_or_later false from class others bound first later is = later is
first_or_later true from class others bound first later is = by_place (from == class) refl is where
  by_place : (a : Bool) → (from == class) ≡ a → (a || list_any (λ d. d == class) others) ≡ true
      → class < bound
  by_place true e is = let same = eqb-true from class e in omega arith
  by_place false e is = later is

-- a class of an exception is one of the program
pub in_exceptions : (files : List ClassFile) (from class : ℕ)
    → list_any (λ d. d == class) (exceptions_from from files) ≡ true
    → class < from + length files + 2
unfolding exceptions_from
in_exceptions [] from class is =
    first_or_later true from class (suc from ∷ []) (from + 0 + 2) (omega arith)
    (first_or_later true (suc from) class [] (from + 0 + 2) (omega arith) (λ h. absurd (cc))) is
in_exceptions (file ∷ files) from class is =
    first_or_later (is_exception file) from class (exceptions_from (suc from) files)
    (from + length (file ∷ files) + 2) (omega arith)
    (λ h. let within = in_exceptions files (suc from) class h in omega arith) is

unfallen : (stands lost : Bool) (to : ℤ) (after : Areas)
    → falls stands lost (Jumps to after) ≡ false → stands ≡ true
unfallen true lost to after is = refl
unfallen false lost to after is = absurd (cc)

given : (kind : Option Kind) → is_none kind ≡ false → is_some kind ≡ true
given None is = absurd (cc)
given (Some kind) is = refl

first_false : (a b : Bool) → (a || b) ≡ false → a ≡ false
first_false true b is = absurd (cc)
first_false false b is = refl

born_is : (o : Operation) (n : ℕ) → (class : Name) × (born_event o n ≡ Born class n)
born_is (Create c) n = (c.name, refl)
born_is _ n = ([], refl)

made : (c : ClassLink) → not c.is_made ≡ false → c.is_made ≡ true
made c is = unmade c.is_made is where
  unmade : (b : Bool) → not b ≡ false → b ≡ true
  unmade true e = refl
  unmade false e = absurd (cc)

thrown_is : (w v : MVal) → thrown w ≡ ThrowsObject v → w ≡ v
thrown_is Null v is = absurd (cc)
thrown_is (Int n) v is = absurd (cc)
thrown_is (Ref c n) v is = cc

not_false : (b : Bool) → not b ≡ false → b ≡ true
not_false true is = refl
not_false false is = absurd (cc)

set_is : (classes : List Name) (o : Operation) (v : MVal)
    → (class : Name) × (name : Name) × (w : Val) × (set_event classes o v ≡ Set class name w)
set_is classes (PutStatic f) v = (f.class, f.name, shown_value classes v, refl)
set_is classes _ v = ([], [], shown_value classes v, refl)

put_is : (classes : List Name) (o : Operation) (n : ℕ) (v : MVal)
    → (class : Name) × (name : Name) × (w : Val) × (put_event classes o n v ≡ Put class n name w)
put_is classes (PutField f) n v = (f.class, f.name, shown_value classes v, refl)
put_is classes _ n v = ([], [], shown_value classes v, refl)

-- ---- by what it came to

module _ (files : List ClassFile) (old : Running) (s : Site) where
  abbrev o_at : Operation
  o_at = operation_at files old s

  abbrev plain_e : Effect
  plain_e = effect (class_names files) o_at (areas_at files old)

  told : IsEffectOf o_at plain_e
  told = effect_of (class_names files) o_at (areas_at files old)

  linked : (point : (running old.stack).point ≡ s.point) → IsLinkOf o_at (named_by files s)
  linked point =
      subst (λ (p : Point). IsLinkOf (operation (link_at files p.class) s.instr)
      (link_at files s.point.class (index_of s.instr))) (sym point)
      (link_of (link_at files s.point.class) s.instr)

  free : against files old s ≡ None → IsFree (class_names files) (spot_of files old s) o_at
      (areas_at files old)
  free none = is_free (class_names files) (spot_of files old s) o_at (areas_at files old)
      (or_2_none _ _ none).1

  -- its effect is the plain one
  module _ (plain : does files old s ≡ plain_e) where
    tells : (e : Effect) → does files old s ≡ e → IsEffectOf o_at e
    tells e is = subst (λ e. IsEffectOf o_at e) (sym plain ∙ is) told

    known_jump : (after : Areas) → (running old.stack).point ≡ s.point → against files old s ≡ None
        → does files old s ≡ Jumps (distance o_at) after
        → offset (pos s.point.at +ℤ reach_of s.instr) ≤ length (code_of files s.point).code
    known_jump after point none is =
        let f = free none in
        let stands : (spot_of files old s).stands ≡ true =
        unfallen (spot_of files old s).stands (spot_of files old s).is_lost (distance o_at) after
        (ap (λ e. falls (spot_of files old s).stands (spot_of files old s).is_lost e)
        (sym is ∙ plain) ∙ f.falls) in
        let to : stands_at (code_of files (running old.stack).point).code
        (pos (running old.stack).point.at +ℤ distance o_at) ≡ true =
        ap (λ e. stands_at (code_of files (running old.stack).point).code
        (next_of e (running old.stack).point.at (decoded s).size)) (sym is) ∙ stands in
        let d : distance o_at ≡ reach_of s.instr =
        distance_is (link_at files (here old).class) s.instr in
        subst (λ (p : Point). offset (pos p.at +ℤ reach_of s.instr) ≤ length (code_of files p).code)
        point
        (subst (λ z. offset (pos (running old.stack).point.at +ℤ z) ≤ length
        (code_of files (running old.stack).point).code) d
        (stand_within _ _ to))

    known_gives : (v : MVal) → (running old.stack).point ≡ s.point → against files old s ≡ None
        → does files old s ≡ ReturnsWith v
        → gives files s.point ≡ true
    known_gives v point none is =
        let t = tells (ReturnsWith v) is in
        let f = free none in
        let m : misreturns (spot_of files old s) (LeaveWith t.0) ≡ false =
        ap (misreturns (spot_of files old s)) (sym t.1) ∙ f.misreturns in
        subst (λ (p : Point). gives files p ≡ true) point
        (given (signature_said (method_descriptor files (here old).class (here old).method)).gives
        (first_false _ _ m))

    known_made : (after : Areas) (n : ℕ) → (running old.stack).point ≡ s.point
        → against files old s ≡ None
        → does files old s ≡ Happens (born_event o_at n) after → IsMade (named_by files s)
    known_made after n point none is =
        let at = born_is o_at n in
        let t = made_by o_at (named_by files s) at.0 n
        (tells (Happens (Born at.0 n) after) (is ∙ ap (λ e. Happens e after) at.1))
        (linked point) in
        let f = free none in
        subst IsMade (sym t.2)
        (made t.0 (ap (λ o. misused (spot_of files old s).exceptions o (areas_at files old))
        (sym t.1) ∙ f.misused))

    -- an object that is thrown is an exception where no other reason stands against it, since
    -- nothing of a handler stands against one that is none
    exception_thrown : (v : MVal) → against files old s ≡ thrown_reason None (spot_of files old s)
        → does files old s ≡ ThrowsObject v
        → (b : Bool) → is_of (exceptions files) v ≡ b → is_of (exceptions files) v ≡ true
    unfolding effect
    exception_thrown v r is true flies = flies
    exception_thrown v r is false flies =
        let t = tells (ThrowsObject v) is in
        let unhandled : handlers files (thrown_class files (does files old s))
        (here old ∷ below old) ≡ [] =
        ap (λ e. handlers files (thrown_class files e) (here old ∷ below old)) is
        ∙ ap (λ b. handlers files (if b then number_of_class v else None) (here old ∷ below old))
        flies in
        let unopposed : thrown_reason None (spot_of files old s) ≡ None =
        ap (λ left. lesser (if is_roomless files left then Some 3 else
        (if is_lost files left then Some 5 else None)) None) unhandled in
        let f = free (r ∙ unopposed) in
        let last : operand 0 (areas_at files old) ≡ v =
        thrown_is (operand 0 (areas_at files old)) v
        (ap (λ o. effect (class_names files) o (areas_at files old)) (sym t.0) ∙ sym plain ∙ is) in
        let used : misused (spot_of files old s).exceptions Throw (areas_at files old) ≡ false =
        ap (λ o. misused (spot_of files old s).exceptions o (areas_at files old)) (sym t.0)
        ∙ f.misused in
        not_false _ (ap (λ w. not (is_of (exceptions files) w)) (sym last) ∙ used)

    known_thrown : (v : MVal) (later : Option ℕ)
        → against files old s ≡ thrown_reason later (spot_of files old s)
        → does files old s ≡ ThrowsObject v
        → (is_object v ≡ true) × (later ≡ None → is_of (exceptions files) v ≡ true)
    known_thrown v later r is =
        let t = tells (ThrowsObject v) is in (
          object_is v t.1 t.2 t.3,
          λ none.
              exception_thrown v (r ∙ ap (λ n. thrown_reason n (spot_of files old s)) none) is
              (is_of (exceptions files) v) refl,
        )

  -- what an instruction that writes no field is known by
  pub known : (done : Done) (new : Running) → IsCome files old s done new
      → does files old s ≡ plain_e → is_write o_at ≡ false → IsKnown files s done
  known done.Goes new come plain other = tt
  known done.Jumps new come plain other = known_jump plain come.after come.point come.is.0 come.is.1
  known done.ThrowsArithmetic new come plain other = tt
  known (done.ThrowsNull later) new come plain other = tt
  known (done.Throws v later) new come plain other = known_thrown plain v later come.is.0 come.is.1
  known (done.Sets v) new come plain other =
      let at = set_is (class_names files) o_at v in
      let t = tells plain (Happens (Set at.0 at.1 at.2) come.after)
      (come.is.1 ∙ ap (λ e. Happens e come.after) at.3) in
      absurd (false≢true (sym other ∙ ap is_write t.1))
  known (done.Puts n v) new come plain other =
      let at = put_is (class_names files) o_at n v in
      let t = tells plain (Happens (Put at.0 n at.1 at.2) come.after)
      (come.is.1 ∙ ap (λ e. Happens e come.after) at.3) in
      absurd (false≢true (sym other ∙ ap is_write t.1))
  known (done.Born n) new come plain other = known_made plain come.after n come.point come.is.0
      come.is.1
  known (done.Outs n) new come plain other =
      let at = out_is (target_of o_at) n in
      output_by o_at (named_by files s) at.0 at.1 n
      (tells plain (Happens (Out at.0 at.1 n) come.after)
      (come.is.1 ∙ ap (λ e. Happens e come.after) at.2)) (linked come.point)
  known done.Calls new come plain other = tt
  known done.Returns new come plain other = tt
  known (done.ReturnsWith v) new come plain other =
      known_gives plain v come.point come.is.0 come.is.1
  known (done.Bad n) new come plain other = tt
