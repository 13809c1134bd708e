-- Why an operation cannot be run: each reason by its number.
use Rattle.std.specs.Prelude.{ℕ, suc, ◌+◌, ◌-◌, Bool, true, false, not, ◌&&◌, ◌||◌, ◌==◌, nat_lt}
use Rattle.std.specs.Prelude.{List, [], ◌∷◌, length, Option, Some, None}
use Rattle.std.specs.List.{list_any}
use Rattle.par_values.specs.declared.value.MVal.{MVal}
use Rattle.par_values.specs.declared.value.MVal.TheVariants.{Int, Null, Ref}
use Rattle.par_values.specs.declared.kind.Kind.{Kind}
use Rattle.par_values.specs.declared.kind.Kind.TheVariants.{Number, Object, AnyObject}
use Rattle.par_values.specs.declared.link.Target.{Target}
use Rattle.par_values.specs.declared.link.Target.TheVariants.{Code}
use Rattle.par_values.specs.Areas.{Name, Areas, fits, operand, local_at}
use Rattle.par_values.specs.Effects.{Effect, Goes, Happens, Jumps, Calls, Throws, ThrowsObject}
use Rattle.par_values.specs.Effects.{Returns, ReturnsWith, effect}
use Rattle.par_values.specs.Operations.{Operation, Load, Store, Increase, GetStatic, PutStatic}
use Rattle.par_values.specs.Operations.{GetField, PutField, InvokeStatic, InvokeSpecial}
use Rattle.par_values.specs.Operations.{InvokeVirtual, Create, Throw, Leave, LeaveWith, Misnamed}
use Rattle.par_values.specs.Operations.{takes, gives}

-- what of the place where an operation stands decides whether it can be run
pub record Spot : Type 0 where
  -- the most operands
  pub room : ℕ
  -- whether an instruction stands where it goes on, behind it or where it jumps to
  pub stands : Bool
  -- whether the method around it gives no result; else the kind of its result
  pub gives_nothing : Bool
  pub result : Kind
  -- the numbers of the classes of exceptions
  pub exceptions : List ℕ
  -- of the handler that takes what it throws, where there is one: whether no instruction stands
  -- there, and whether its method has no room for an operand
  pub is_lost : Bool
  pub is_roomless : Bool

-- 1: an operand is missing
abbrev pub lacks : Operation → Areas → Bool
lacks o a = nat_lt (length a.operands) (length (takes o))

-- whether each value is of the kind at its place, as far as there are both
abbrev pub all_fit : List Name → List Kind → List MVal → Bool
all_fit classes [] vs = true
all_fit classes (k ∷ ks) [] = true
all_fit classes (k ∷ ks) (v ∷ vs) = fits classes k v && all_fit classes ks vs

-- 2: an operand is of the wrong kind or class
abbrev pub unfit : List Name → Operation → Areas → Bool
unfit classes o a = not (all_fit classes (takes o) a.operands)

-- whether a result of this kind is of the method's, and the value is not
abbrev pub unfit_result : List Name → Kind → Kind → MVal → Bool
unfit_result classes AnyObject (Object name) v = not (fits classes (Object name) v)
unfit_result classes _ result v = false

-- 2, too: a result is of the wrong class
abbrev pub misgiven : List Name → Spot → Operation → Areas → Bool
misgiven classes spot (LeaveWith kind) a =
    not spot.gives_nothing && unfit_result classes kind spot.result (operand 0 a)
misgiven classes spot _ a = false

-- 3: the operand list would exceed its room
abbrev pub exceeds : ℕ → Operation → Areas → Bool
exceeds room o a = nat_lt room (length a.operands - length (takes o) + gives o)

-- whether something is thrown
abbrev pub throws : Effect → Bool
throws (Throws class) = true
throws (ThrowsObject v) = true
throws _ = false

-- whether a local holds a value of a kind
abbrev pub holds : List Name → Kind → Option MVal → Bool
holds classes kind None = false
holds classes kind (Some v) = fits classes kind v

-- whether a method has fewer locals than it is given arguments
abbrev pub is_crowded : Target → ℕ → Bool
is_crowded (Code class method locals) arguments = nat_lt locals arguments
is_crowded _ arguments = false

-- 4: a local is out of range, unset or of the wrong kind, or the arguments exceed the locals
abbrev pub misplaced : List Name → Operation → Areas → Bool
misplaced classes (Load x kind) a = not (holds classes kind (local_at x a))
misplaced classes (Store x kind) a = not (nat_lt x (length a.locals))
misplaced classes (Increase x by) a = not (holds classes Number (local_at x a))
misplaced classes (InvokeStatic m) a = is_crowded m.target (length m.takes)
misplaced classes (InvokeSpecial m) a = is_crowded m.target (length m.takes + 1)
misplaced classes (InvokeVirtual m) a = is_crowded m.target (length m.takes + 1)
misplaced classes _ a = false

-- 5: no instruction stands where it goes on, or at the handler of what it throws
abbrev pub falls : (stands is_lost : Bool) → Effect → Bool
falls stands is_lost (Goes a) = not stands
falls stands is_lost (Happens event a) = not stands
falls stands is_lost (Jumps to a) = not stands
falls stands is_lost (Calls class method locals arguments a) = not stands
falls stands is_lost (Throws class) = is_lost
falls stands is_lost (ThrowsObject v) = is_lost
falls stands is_lost Returns = false
falls stands is_lost (ReturnsWith v) = false

-- 6: an index is of the wrong kind, or names a method that invokespecial does not call
abbrev pub misnamed : Operation → Bool
misnamed (Misnamed kinds n) = true
misnamed (InvokeSpecial m) = not m.is_initializer
misnamed _ = false

-- 7: static and instance do not agree
abbrev pub disagrees : Operation → Bool
disagrees (GetStatic f) = not f.is_static
disagrees (PutStatic f) = not f.is_static
disagrees (GetField f) = f.is_static
disagrees (PutField f) = f.is_static
disagrees (InvokeStatic m) = not m.is_static
disagrees (InvokeSpecial m) = m.is_static
disagrees (InvokeVirtual m) = m.is_static
disagrees _ = false

-- whether a method with this kind of result is left with one of that kind
abbrev pub is_result : Kind → Kind → Bool
is_result Number Number = true
is_result AnyObject (Object name) = true
is_result AnyObject AnyObject = true
is_result _ _ = false

-- 8: the return does not fit the descriptor of the method
abbrev pub misreturns : Spot → Operation → Bool
misreturns spot Leave = not spot.gives_nothing
misreturns spot (LeaveWith kind) = spot.gives_nothing || not (is_result kind spot.result)
misreturns spot _ = false

-- whether an object is of one of these classes
abbrev pub is_of : List ℕ → MVal → Bool
is_of classes (Ref c n) = list_any (λ d. d == c) classes
is_of classes Null = true
is_of classes (Int v) = true

-- 9: an object that is thrown is no exception, or one is made of a class of which none is made
abbrev pub misused : List ℕ → Operation → Areas → Bool
misused exceptions Throw a = not (is_of exceptions (operand 0 a))
misused exceptions (Create c) a = not c.is_made
misused exceptions _ a = false

-- the reasons from 1 on, each with whether it applies
abbrev pub reasons : List Name → Spot → Operation → Areas → List Bool
reasons classes spot o a =
    let done = effect classes o a in
    lacks o a ∷ (misgiven classes spot o a || unfit classes o a)
    ∷ ((spot.is_roomless && throws done) || exceeds spot.room o a) ∷ misplaced classes o a
    ∷ falls spot.stands spot.is_lost done ∷ misnamed o ∷ disagrees o ∷ misreturns spot o
    ∷ misused spot.exceptions o a ∷ []

-- the number of the first that applies, where the list starts at a number
abbrev pub least_from : ℕ → List Bool → Option ℕ
least_from n [] = None
least_from n (true ∷ applies) = Some n
least_from n (false ∷ applies) = least_from (suc n) applies

-- the least reason why an operation cannot be run, none where it can
unfoldable pub reason : List Name → Spot → Operation → Areas → Option ℕ
reason classes spot o a = least_from 1 (reasons classes spot o a)
