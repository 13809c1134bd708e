-- What an instruction reads and writes: locals and operands of its frame, static fields, objects
-- and
-- input lists of the program (Java Virtual Machine Specification, Java SE 7, sections 2.5 and 2.6).
use Rattle.std.specs.Prelude.{ℕ, Bool, true, false, ◌&&◌, if◌then◌else◌, ℤ, pos, List, [], ◌∷◌}
use Rattle.std.specs.Prelude.{◌++◌, Option, Some, None, slice_get, slice_set, map, replicate}
use Rattle.std.specs.Prelude.{length, ◌-◌, drop}
use Rattle.std.specs.Str.{bytes_eq}
use Rattle.par_values.specs.declared.value.MVal.{MVal}
use Rattle.par_values.specs.declared.value.MVal.TheVariants.{Int, Null, Ref}
use Rattle.par_values.specs.declared.kind.Kind.{Kind}
use Rattle.par_values.specs.declared.kind.Kind.TheVariants.{Number, Object, AnyObject, Anything}
use Rattle.par_values.specs.declared.run.Val.{Val}
use Rattle.par_values.specs.declared.run.Val.TheVariants as shown

abbrev pub Name : Type 0
Name = List ℕ

-- the numbers that an input channel, by its class and name, has left
abbrev pub InputLists : Type 0
InputLists = Name → Name → List ℤ

-- the objects of each class by its number, in the order of their birth, each the values of its
-- fields
abbrev pub Objects : Type 0
Objects = List (List (List MVal))

pub record Areas : Type 0 where
  -- a local holds nothing until it is set
  pub locals : List (Option MVal)
  -- the operand that was pushed last comes first
  pub operands : List MVal
  pub statics : List MVal
  pub objects : Objects
  pub inputs : InputLists

-- a name, or no bytes where there is none
abbrev pub name_or_none : Option Name → Name
name_or_none None = []
name_or_none (Some name) = name

-- the name of the class of this number
abbrev pub class_named : List Name → ℕ → Name
class_named classes c = name_or_none (slice_get classes c)

-- whether a value is of a kind, where the classes have these names
abbrev pub fits : List Name → Kind → MVal → Bool
fits classes Anything v = true
fits classes Number (Int n) = true
fits classes Number Null = false
fits classes Number (Ref c n) = false
fits classes (Object name) (Int n) = false
fits classes (Object name) Null = true
fits classes (Object name) (Ref c n) = bytes_eq (class_named classes c) name
fits classes AnyObject (Int n) = false
fits classes AnyObject Null = true
fits classes AnyObject (Ref c n) = true

-- a value as a run shows it
abbrev pub shown_value : List Name → MVal → Val
shown_value classes (Int n) = shown.Int n
shown_value classes Null = shown.Null
shown_value classes (Ref c n) = shown.Ref (class_named classes c) n

-- what a field holds before it is written
abbrev pub first_value : Kind → MVal
first_value Number = Int (pos 0)
first_value (Object name) = Null
first_value AnyObject = Null
first_value Anything = Null

abbrev pub push : MVal → Areas → Areas
push v a = record a { operands = v ∷ a.operands }

-- without the operands that were pushed last, so many
abbrev pub pop : ℕ → Areas → Areas
pop n a = record a { operands = drop n a.operands }

-- a value, or null where there is none
abbrev pub value_or_null : Option MVal → MVal
value_or_null None = Null
value_or_null (Some v) = v

-- the operand with so many pushed after it
abbrev pub operand : ℕ → Areas → MVal
operand n a = value_or_null (slice_get a.operands n)

-- the number of a value
abbrev pub number_of : MVal → ℤ
number_of (Int n) = n
number_of Null = pos 0
number_of (Ref c n) = pos 0

abbrev pub set_local : ℕ → MVal → Areas → Areas
set_local x v a = record a { locals = slice_set a.locals x (Some v) }

-- what a local holds
abbrev pub local_value : Option (Option MVal) → Option MVal
local_value None = None
local_value (Some held) = held

abbrev pub local_at : ℕ → Areas → Option MVal
local_at x a = local_value (slice_get a.locals x)

abbrev pub set_static : ℕ → MVal → Areas → Areas
set_static place v a = record a { statics = slice_set a.statics place v }

-- a list, or the empty one where there is none
abbrev pub list_or_none : {A : Type 0} → Option (List A) → List A
list_or_none None = []
list_or_none (Some xs) = xs

-- the objects of a class
abbrev pub objects_of : ℕ → Areas → List (List MVal)
objects_of c a = list_or_none (slice_get a.objects c)

-- the fields of an object
abbrev pub object_at : ℕ → ℕ → Areas → List MVal
object_at c n a = list_or_none (slice_get (objects_of c a) n)

-- what a field of an object holds, by its place in the object
abbrev pub field_at : ℕ → ℕ → ℕ → Areas → MVal
field_at c n place a = value_or_null (slice_get (object_at c n a) place)

abbrev pub set_objects : ℕ → List (List MVal) → Areas → Areas
set_objects c objects a = record a { objects = slice_set a.objects c objects }

abbrev pub set_field : ℕ → ℕ → ℕ → MVal → Areas → Areas
set_field c n place v a =
    set_objects c (slice_set (objects_of c a) n (slice_set (object_at c n a) place v)) a

-- the number of the next object of a class
abbrev pub next_number : ℕ → Areas → ℕ
next_number c a = length (objects_of c a)

-- one object more of a class, with these fields
abbrev pub with_object : ℕ → List MVal → Areas → Areas
with_object c fields a = set_objects c (objects_of c a ++ fields ∷ []) a

-- the number that is taken from a list, 0 from a spent one
abbrev pub next : List ℤ → ℤ
next [] = pos 0
next (n ∷ ns) = n

abbrev pub left : List ℤ → List ℤ
left [] = []
left (n ∷ ns) = ns

-- the input lists after a number is taken from one
abbrev pub taken_from : Name → Name → InputLists → InputLists
taken_from class name inputs c n =
    if bytes_eq c class && bytes_eq n name then left (inputs c n) else inputs c n

abbrev pub take_input : Name → Name → Areas → Areas
take_input class name a = record a { inputs = taken_from class name a.inputs }

-- the locals of a called method: its arguments, and so many in all
abbrev pub first_locals : ℕ → List MVal → List (Option MVal)
first_locals many arguments = map Some arguments ++ replicate (many - length arguments) None
