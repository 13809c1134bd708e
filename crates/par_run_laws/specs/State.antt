-- What a run remembers.
use Rattle.std.specs.Prelude.{ℕ, ◌+◌, not, ◌==◌, nat_lt, if◌then◌else◌, ℤ, List, [], ◌∷◌}
use Rattle.std.specs.List.{filter, slice_get}
use Rattle.par_secrecy.specs.par_values.declared.value.MVal.{MVal}
use Rattle.par_secrecy.specs.par_values.declared.value.MVal.TheVariants.{Null}
use Rattle.par_secrecy.specs.par_values.Areas.{value_or_null, left}

pub record State : Type 0 where
  -- of the method that runs: what its locals hold, and what it is to return
  pub locals : ℕ → MVal
  pub result : MVal
  -- what static fields hold, by class and field
  pub statics : ℕ → ℕ → MVal
  -- how many objects a class has
  pub births : ℕ → ℕ
  -- what fields of objects hold, by class, number of the object and field
  pub fields : ℕ → ℕ → ℕ → MVal
  -- what an input channel has left, by class and channel
  pub inputs : ℕ → ℕ → List ℤ
  -- the open locks, ascending
  pub locks : List ℕ

-- a function with another value at x
abbrev pub put : {A : Type 0} → (ℕ → A) → ℕ → A → ℕ → A
put f x v y = if y == x then v else f y

abbrev pub set_local : ℕ → MVal → State → State
set_local x v s = record s { locals = put s.locals x v }

abbrev pub set_result : MVal → State → State
set_result v s = record s { result = v }

abbrev pub set_static : ℕ → ℕ → MVal → State → State
set_static c f v s = record s { statics = put s.statics c (put (s.statics c) f v) }

-- a write to a field of an object; where the class has no object of that number, nothing is written
abbrev pub set_field : ℕ → ℕ → ℕ → MVal → State → State
set_field c n f v s =
    if nat_lt n (s.births c)
    then record s { fields = put s.fields c (put (s.fields c) n (put (s.fields c n) f v)) } else s

-- one object more of a class, whose fields hold these values
abbrev pub with_object : ℕ → (ℕ → MVal) → State → State
with_object c values s =
    record s {
      births = put s.births c (s.births c + 1);
      fields = put s.fields c (put (s.fields c) (s.births c) values);
    }

-- without the next number of an input channel
abbrev pub take_input : ℕ → ℕ → State → State
take_input c k s = record s { inputs = put s.inputs c (put (s.inputs c) k (left (s.inputs c k))) }

-- a set of locks with one more
abbrev pub opened : ℕ → List ℕ → List ℕ
opened l [] = l ∷ []
opened l (m ∷ ms) = if l == m then m ∷ ms else if nat_lt l m then l ∷ m ∷ ms else m ∷ opened l ms

-- a set of locks without one
abbrev pub closed : ℕ → List ℕ → List ℕ
closed l ms = filter (λ m. not (m == l)) ms

abbrev pub open_lock : ℕ → State → State
open_lock l s = record s { locks = opened l s.locks }

abbrev pub close_lock : ℕ → State → State
close_lock l s = record s { locks = closed l s.locks }

-- in a called method, whose first locals hold these values, and the others null
abbrev pub entered : List MVal → State → State
entered values s = record s { locals = λ x. value_or_null (slice_get values x); result = Null }

-- back in a caller, with its locals and what it is to return
abbrev pub restored : (ℕ → MVal) → MVal → State → State
restored locals result s = record s { locals = locals; result = result }
