-- Labelled code as a program for the machine. A place is the position of an item that is no label.
use Rattle.std.specs.Prelude.{ℕ, suc, ◌-◌, ◌==◌, ◌&&◌, nat_le, nat_lt, ℤ, pos, negsuc, ◌-ℤ◌}
use Rattle.std.specs.Prelude.{Bool, true, false, if◌then◌else◌, List, [], ◌∷◌, drop, Option, Some}
use Rattle.std.specs.Prelude.{None}
use Rattle.std.specs.Prelude.{codes}
use Rattle.par_code_form.specs.declared.item.Item.{Item}
use Rattle.par_code_form.specs.declared.item.Item.TheVariants.{Label, Op, Const, Jump, Member}
use Rattle.par_code_form.specs.declared.item.Item.TheVariants.{ClassOp, LockOp}
use Rattle.par_code_form.specs.declared.labelled.Handler.{Handler}
use Rattle.par_code_form.specs.par_values.declared.kind.Kind.{Kind}
use Rattle.par_code_form.specs.par_values.declared.kind.Kind.TheVariants.{Anything, AnyObject}
use Rattle.par_code_form.specs.par_values.declared.link.Link.{Link}
use Rattle.par_code_form.specs.par_values.declared.link.Link.TheVariants as link
use Rattle.par_code_form.specs.par_values.Areas.{Name}
use Rattle.par_code_form.specs.par_values.Operations.{Operation, operation, of_field, of_method}
use Rattle.par_code_form.specs.par_values.Operations.{of_class}
use Rattle.par_code_form.specs.par_values.Operations.{Misnamed}
use Rattle.par_code_form.specs.par_values.Operations.{Push, Jump as Goes_to, JumpIf, JumpIfBoth}
use Rattle.par_code_form.specs.par_values.Operations.{JumpIfSame}
use Rattle.par_code_form.specs.par_values.Operations.{JumpIfNull, GetStatic, PutStatic, GetField}
use Rattle.par_code_form.specs.par_values.Operations.{PutField}
use Rattle.par_code_form.specs.par_values.Operations.{InvokeStatic, InvokeSpecial, InvokeVirtual}
use Rattle.par_match_laws.specs.Engine.{Found, Program}

-- the code of a method, and the kind of what the method gives
pub record Labelled : Type 0 where
  pub items : List Item
  pub handlers : List Handler
  pub max_stack : ℕ
  pub max_locals : ℕ
  pub gives : Option Kind

-- what names are to instructions, and the classes by their numbers
pub record Naming : Type 0 where
  pub names : List Name
  pub exceptions : List ℕ
  pub exception_named : Name → ℕ
  pub number : Name → ℕ
  pub class : Name → Link
  pub field : (class name descriptor : Name) → Link
  pub method : (class name descriptor : Name) → Link
  pub lock : ℕ → Link
  -- the initializer of all exceptions, which takes no other object
  pub wants_exception : (class name descriptor : Name) → Bool

-- a branch to a distance
abbrev pub branch : ℕ → ℤ → Operation
branch opcode to =
    if opcode == 167 then Goes_to to
    else if opcode == 165 then JumpIfSame true to
    else if opcode == 166 then JumpIfSame false to
    else if opcode == 198 then JumpIfNull true to
    else if opcode == 199 then JumpIfNull false to
    else if nat_lt opcode 159 then JumpIf (opcode - 153) to
    else JumpIfBoth (opcode - 159) to

-- an instruction on a field, and an invoke
abbrev pub on_field : ℕ → Link → Operation
on_field opcode l =
    if opcode == 178 then of_field GetStatic (Misnamed [] 1) l
    else if opcode == 179 then of_field PutStatic (Misnamed (Anything ∷ []) 0) l
    else if opcode == 180 then of_field GetField (Misnamed (AnyObject ∷ []) 1) l
    else of_field PutField (Misnamed (Anything ∷ AnyObject ∷ []) 0) l

abbrev pub on_method : ℕ → Link → Operation
on_method opcode l =
    if opcode == 182 then of_method InvokeVirtual (Misnamed (Anything ∷ []) 0) l
    else if opcode == 183 then of_method InvokeSpecial (Misnamed (Anything ∷ []) 0) l
    else of_method InvokeStatic (Misnamed [] 0) l

-- the position of a label
abbrev pub spot : List Item → ℕ → ℕ
spot [] l = 0
spot (Label k ∷ xs) l = if k == l then 0 else suc (spot xs l)
spot (x ∷ xs) l = suc (spot xs l)

-- how many labels come first
abbrev pub lead : List Item → ℕ
lead [] = 0
lead (Label k ∷ xs) = suc (lead xs)
lead (x ∷ xs) = 0

-- the first position from one on at which no label stands, where these items are left there
abbrev pub skip : List Item → ℕ → ℕ
skip [] p = p
skip (Label k ∷ xs) p = skip xs (suc p)
skip (x ∷ xs) p = p

abbrev pub target : List Item → ℕ → ℕ
target all l = skip (drop (spot all l) all) (spot all l)

abbrev pub calls : Bool → Operation → ℕ → Option Found
calls wants o size = Some (record { op = o; size = size; wants_exception = wants })

abbrev pub silent : Operation → ℕ → Option Found
silent o size = calls false o size

-- what stands at a position, where these items are left there
abbrev pub found : Naming → List Item → ℕ → List Item → Option Found
found env all p [] = None
found env all p (Label l ∷ xs) = None
found env all p (Op i ∷ xs) = silent (operation (λ n. link.Other) i) (suc (lead xs))
found env all p (Const n ∷ xs) = silent (Push n) (suc (lead xs))
found env all p (Jump opcode l ∷ xs) =
    silent (branch opcode (pos (target all l) -ℤ pos p)) (suc (lead xs))
found env all p (Member opcode c m d ∷ xs) =
    if nat_lt opcode 182 then silent (on_field opcode (env.field c m d)) (suc (lead xs))
    else calls (env.wants_exception c m d) (on_method opcode (env.method c m d)) (suc (lead xs))
found env all p (ClassOp opcode c ∷ xs) = silent (of_class (env.class c)) (suc (lead xs))
found env all p (LockOp opcode l ∷ xs) = silent (on_field opcode (env.lock l)) (suc (lead xs))

abbrev pub is_there : List Item → Bool
is_there [] = false
is_there (Label l ∷ xs) = false
is_there (x ∷ xs) = true

abbrev pub stands : List Item → ℤ → Bool
stands all (pos p) = is_there (drop p all)
stands all (negsuc n) = false

abbrev pub covers : List Item → Handler → ℕ → Bool
covers all h p = nat_le (spot all h.from) p && nat_lt p (spot all h.to)

abbrev pub handled : Naming → List Item → List Handler → ℕ → ℕ → Option ℕ
handled env all [] p c = None
handled env all (h ∷ hs) p c =
    if covers all h p && env.number h.class == c then Some (target all h.goes)
    else handled env all hs p c

-- labelled code by class and method
abbrev pub of_labelled : Naming → (ℕ → ℕ → Labelled) → (ℕ → ℕ → Name) → Program
of_labelled env codes method_name = record {
  names = env.names;
  exceptions = env.exceptions;
  exception_named = env.exception_named;
  entry = λ c m. skip (codes c m).items 0;
  found = λ c m p. found env (codes c m).items p (drop p (codes c m).items);
  stands = λ c m z. stands (codes c m).items z;
  handler = λ thrown c m p. handled env (codes c m).items (codes c m).handlers p thrown;
  room = λ c m. (codes c m).max_stack;
  gives = λ c m. (codes c m).gives;
  method_name = method_name;
}
