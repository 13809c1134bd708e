-- What an operation tells of what its index names.
use Rattle.std.proofs.Common.{List, ◌≡◌, ℕ, refl}
use Rattle.par_instr.specs.declared.instr.Instr.{Instr}
use Rattle.par_instr.specs.declared.instr.Instr.TheVariants as instr
use Rattle.par_values.specs.declared.kind.Kind.{Kind}
use Rattle.par_values.specs.declared.link.FieldLink.{FieldLink}
use Rattle.par_values.specs.declared.link.MethodLink.{MethodLink}
use Rattle.par_values.specs.declared.link.Link.{Link}
use Rattle.par_values.specs.declared.link.Link.TheVariants as link
use Rattle.par_values.specs.Operations.{Operation, Misnamed, GetStatic, PutStatic, GetField}
use Rattle.par_values.specs.Operations.{PutField, InvokeStatic, InvokeSpecial, InvokeVirtual}
use Rattle.par_values.specs.Operations.{Create, operation, constant, of_field, of_method, of_class}
use Rattle.par_machine.specs.Instructions.{index_of}

-- an operation of what an index names
abbrev pub IsLinkOf : Operation → Link → Type 0
IsLinkOf (GetStatic f) l = l ≡ link.Field f
IsLinkOf (PutStatic f) l = l ≡ link.Field f
IsLinkOf (GetField f) l = l ≡ link.Field f
IsLinkOf (PutField f) l = l ≡ link.Field f
IsLinkOf (InvokeStatic m) l = l ≡ link.Method m
IsLinkOf (InvokeSpecial m) l = l ≡ link.Method m
IsLinkOf (InvokeVirtual m) l = l ≡ link.Method m
IsLinkOf (Create c) l = l ≡ link.Class c
IsLinkOf _ l = Unit {0}

constant_link : (l m : Link) → IsLinkOf (constant l) m
constant_link (link.Number v) m = tt
constant_link (link.Field f) m = tt
constant_link (link.Method f) m = tt
constant_link (link.Class c) m = tt
constant_link link.Other m = tt

field_link : (form : FieldLink → Operation) (kinds : List Kind) (k : ℕ)
    → ((f : FieldLink) → IsLinkOf (form f) (link.Field f)) → (l : Link)
    → IsLinkOf (of_field form (Misnamed kinds k) l) l
field_link form kinds k is (link.Number v) = tt
field_link form kinds k is (link.Field f) = is f
field_link form kinds k is (link.Method f) = tt
field_link form kinds k is (link.Class c) = tt
field_link form kinds k is link.Other = tt

method_link : (form : MethodLink → Operation) (kinds : List Kind) (k : ℕ)
    → ((m : MethodLink) → IsLinkOf (form m) (link.Method m)) → (l : Link)
    → IsLinkOf (of_method form (Misnamed kinds k) l) l
method_link form kinds k is (link.Number v) = tt
method_link form kinds k is (link.Field f) = tt
method_link form kinds k is (link.Method m) = is m
method_link form kinds k is (link.Class c) = tt
method_link form kinds k is link.Other = tt

class_link : (l : Link) → IsLinkOf (of_class l) l
class_link (link.Number v) = tt
class_link (link.Field f) = tt
class_link (link.Method m) = tt
class_link (link.Class c) = refl
class_link link.Other = tt

-- the operation of an instruction is of what its index names
pub link_of : (names : ℕ → Link) (i : Instr) → IsLinkOf (operation names i) (names (index_of i))
link_of names (instr.Ldc n) = constant_link (names n) _
link_of names (instr.LdcW n) = constant_link (names n) _
link_of names (instr.Getstatic n) = field_link GetStatic _ _ (λ f. refl) (names n)
link_of names (instr.Putstatic n) = field_link PutStatic _ _ (λ f. refl) (names n)
link_of names (instr.Getfield n) = field_link GetField _ _ (λ f. refl) (names n)
link_of names (instr.Putfield n) = field_link PutField _ _ (λ f. refl) (names n)
link_of names (instr.Invokevirtual n) = method_link InvokeVirtual _ _ (λ f. refl) (names n)
link_of names (instr.Invokespecial n) = method_link InvokeSpecial _ _ (λ f. refl) (names n)
link_of names (instr.Invokestatic n) = method_link InvokeStatic _ _ (λ f. refl) (names n)
link_of names (instr.New n) = class_link (names n)
link_of names _ = tt
