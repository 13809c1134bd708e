-- What the declarations of a program say of flow, by numbers.
use Rattle.std.specs.Prelude.{ℕ, Bool, true, Option, Some, None, List, [], ◌∷◌, slice_get}
use Rattle.par_typed.specs.par_policy.Numbers.{has}
use Rattle.par_typed.specs.par_bits.Sets.{Set, none}
use Rattle.par_typed.specs.declared.table.Table.{Table}
use Rattle.par_typed.specs.declared.table.ClassInfo.{ClassInfo}
use Rattle.par_typed.specs.declared.table.FieldInfo.{FieldInfo}
use Rattle.par_typed.specs.declared.table.ChannelInfo.{ChannelInfo}
use Rattle.par_typed.specs.declared.table.MethodInfo.{MethodInfo}
use Rattle.par_typed.specs.declared.table.ParamInfo.{ParamInfo}
use Rattle.par_typed.specs.declared.table.ThrowInfo.{ThrowInfo}
use Rattle.par_typed.specs.declared.table.GroundLock.{GroundLock}

-- a class that a method may throw, and the number of its policy
pub record Thrown : Type 0 where
  pub class : ℕ
  pub policy : ℕ

-- policies by their numbers, and locks by theirs
pub record Method : Type 0 where
  pub is_static : Bool
  pub params : List ℕ
  pub result : ℕ
  pub effect : ℕ
  pub expects : Set
  pub opens : Set
  pub closes : Set
  pub throws : List Thrown

-- the policy of each field, channel and lock, that of the births of each class, and the methods
pub record Declares : Type 0 where
  pub field : ℕ → ℕ → ℕ
  pub channel : ℕ → ℕ → ℕ
  pub birth : ℕ → ℕ
  pub lock : ℕ → ℕ
  pub method : ℕ → ℕ → Method

-- where no method has the number
abbrev pub NO_METHOD : Method
NO_METHOD = record {
  is_static = true;
  params = [];
  result = 0;
  effect = 0;
  expects = none;
  opens = none;
  closes = none;
  throws = [];
}

abbrev pub params_of : List ParamInfo → List ℕ
params_of [] = []
params_of (p ∷ ps) = p.policy ∷ params_of ps

abbrev pub throws_of : List ThrowInfo → List Thrown
throws_of [] = []
throws_of (t ∷ ts) = record { class = t.class; policy = t.policy } ∷ throws_of ts

abbrev pub method_of : Option MethodInfo → Method
method_of None = NO_METHOD
method_of (Some m) = record {
  is_static = m.is_static;
  params = params_of m.params;
  result = m.policy;
  effect = m.effect;
  expects = has m.expects;
  opens = has m.opens;
  closes = has m.closes;
  throws = throws_of m.throws;
}

abbrev pub field_of : Option FieldInfo → ℕ
field_of None = 0
field_of (Some f) = f.policy

abbrev pub channel_of : Option ChannelInfo → ℕ
channel_of None = 0
channel_of (Some c) = c.policy

-- a lock that a `when` asks for has a policy
abbrev pub lock_policy : Option ℕ → ℕ
lock_policy None = 0
lock_policy (Some n) = n

abbrev pub lock_of : Option GroundLock → ℕ
lock_of None = 0
lock_of (Some l) = lock_policy l.policy

abbrev pub birth_of : Option ClassInfo → ℕ
birth_of None = 0
birth_of (Some c) = c.birth

abbrev pub fields_of : Option ClassInfo → ℕ → ℕ
fields_of None f = 0
fields_of (Some c) f = field_of (slice_get c.fields f)

abbrev pub channels_of : Option ClassInfo → ℕ → ℕ
channels_of None k = 0
channels_of (Some c) k = channel_of (slice_get c.channels k)

abbrev pub methods_of : Option ClassInfo → ℕ → Method
methods_of None m = NO_METHOD
methods_of (Some c) m = method_of (slice_get c.methods m)

-- what a table declares
unfoldable pub declares : Table → Declares
declares table = record {
  field = λ c f. fields_of (slice_get table.classes c) f;
  channel = λ c k. channels_of (slice_get table.classes c) k;
  birth = λ c. birth_of (slice_get table.classes c);
  lock = λ l. lock_of (slice_get table.locks l);
  method = λ c m. methods_of (slice_get table.classes c) m;
}
