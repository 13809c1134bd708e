-- What kinds of values the places of a frame hold, and which kind fits into which.
use Rattle.std.specs.Prelude.{◌≡◌, ℕ, Bool, true, false, List, [], ◌∷◌, Option, Some, None}
use Rattle.std.specs.List.{list_any, slice_get}
use Rattle.std.specs.Str.{bytes_eq}
use Rattle.par_step_laws.specs.par_values.declared.kind.Kind.{Kind}
use Rattle.par_step_laws.specs.par_values.declared.kind.Kind.TheVariants.{Number, Object, AnyObject}
use Rattle.par_step_laws.specs.par_values.declared.kind.Kind.TheVariants.{Anything}
use Rattle.par_step_laws.specs.par_values.Areas.{Name}
use Rattle.par_kinds.specs.declared.frame.VKind.{VKind}
use Rattle.par_kinds.specs.declared.frame.VKind.TheVariants.{Top as ATop, Int as AnInt}
use Rattle.par_kinds.specs.declared.frame.VKind.TheVariants.{Null as ANull, Object as AnObject}
use Rattle.par_kinds.specs.declared.frame.VKind.TheVariants.{Base as ABase}

-- What the places of a frame hold.
pub record KFrame : Type 0 where
  pub locals : List VKind
  -- the operand that was pushed last comes first
  pub stack : List VKind

-- whether a class is one of exceptions, by their names
abbrev pub is_in : List Name → Name → Bool
is_in names name = list_any (bytes_eq name) names

-- whether a kind fits into another, where the exceptions have these names
unfoldable pub into : List Name → VKind → VKind → Bool
into exc k ATop = true
into exc AnInt AnInt = true
into exc k AnInt = false
into exc ANull ANull = true
into exc k ANull = false
into exc ANull (AnObject n) = true
into exc (AnObject m) (AnObject n) = bytes_eq m n
into exc k (AnObject n) = false
into exc ANull (ABase b) = true
into exc (AnObject m) (ABase true) = is_in exc m
into exc (AnObject m) (ABase false) = true
into exc (ABase true) (ABase b) = true
into exc (ABase false) (ABase false) = true
into exc k (ABase b) = false

-- whether each value of a kind of places is one that an instruction takes
unfoldable pub accepts : Kind → VKind → Bool
accepts Anything k = true
accepts Number AnInt = true
accepts Number k = false
accepts (Object n) ANull = true
accepts (Object n) (AnObject m) = bytes_eq m n
accepts (Object n) k = false
accepts AnyObject ANull = true
accepts AnyObject (AnObject m) = true
accepts AnyObject (ABase b) = true
accepts AnyObject k = false

-- whether each such value can be thrown
unfoldable pub throwable : List Name → VKind → Bool
throwable exc ANull = true
throwable exc (AnObject m) = is_in exc m
throwable exc (ABase true) = true
throwable exc k = false

-- whether each is null or an object of an exception class
unfoldable pub exceptional : List Name → VKind → Bool
exceptional exc ANull = true
exceptional exc (AnObject m) = is_in exc m
exceptional exc k = false

-- the kind of what a descriptor says
abbrev pub vkind : Kind → VKind
vkind Number = AnInt
vkind (Object n) = AnObject n
vkind AnyObject = ABase false
vkind Anything = ATop

-- two lists of one length, item by item
abbrev pub Both : {A B : Type 0} → (A → B → Type 0) → List A → List B → Type 0
Both R [] [] = Unit {0}
Both R [] (y ∷ ys) = ⊥
Both R (x ∷ xs) [] = ⊥
Both R (x ∷ xs) (y ∷ ys) = R x y × Both R xs ys

-- each item of the first list has its own of the second, which may have more
abbrev pub Front : {A B : Type 0} → (A → B → Type 0) → List A → List B → Type 0
Front R [] ys = Unit {0}
Front R (x ∷ xs) [] = ⊥
Front R (x ∷ xs) (y ∷ ys) = R x y × Front R xs ys

abbrev pub Each : {A : Type 0} → (A → Type 0) → List A → Type 0
Each P [] = Unit {0}
Each P (x ∷ xs) = P x × Each P xs

abbrev pub Into : List Name → VKind → VKind → Type 0
Into exc k l = into exc k l ≡ true

-- a frame fits into another
pub record FrameInto (exc : List Name) (k l : KFrame) : Type 0 where
  pub locals : Both (Into exc) k.locals l.locals
  pub stack : Both (Into exc) k.stack l.stack

abbrev pub top_or : Option VKind → VKind
top_or None = ATop
top_or (Some k) = k

-- the kind of a local, and of an operand with so many pushed after it
abbrev pub kind_at : List VKind → ℕ → VKind
kind_at ks n = top_or (slice_get ks n)
