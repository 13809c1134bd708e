-- What the program holds but for locals and inputs.
use Rattle.std.specs.Prelude.{◌≡◌, ℕ, ℤ, ◌+◌, ◌≤◌, Bool, false, is_some, ◌==◌, ◌&&◌, nat_eq, nat_lt}
use Rattle.std.specs.Prelude.{if◌then◌else◌, List, [], Option, Some, None, unwrap_or}
use Rattle.std.specs.Borrow.{Bor}
use Rattle.std.specs.HashMap.{HashMap, get}
use Rattle.std.specs.declared.hash.FoldHasher.{FoldHasher}
use Rattle.std.specs.declared.hash.BuildHasherDefault.{BuildHasherDefault}
use Rattle.par_values.specs.declared.value.MVal.{MVal}
use Rattle.par_run_laws.specs.State.{put, opened, closed}

pub record Held : Type 0 where
  -- the static fields that were written, by class and field
  pub statics : ℕ → ℕ → Option MVal
  -- how many objects a class has
  pub births : ℕ → ℕ
  -- the fields of objects that were written, by class, number of the object and field
  pub fields : ℕ → ℕ → ℕ → Option MVal
  -- what the input channels have left that were read, by class and channel
  pub inputs : ℕ → ℕ → Option (List ℤ)
  -- the open locks, ascending
  pub locks : List ℕ

abbrev pub Kept : Type 0 → Type 0 → Type 0
Kept K V = HashMap K V (BuildHasherDefault FoldHasher)

abbrev pub same_member : ℕ × ℕ → ℕ × ℕ → Bool
same_member a b = a.0 == b.0 && a.1 == b.1

abbrev pub same_field : ℕ × ℕ × ℕ → ℕ × ℕ × ℕ → Bool
same_field a b = a.0 == b.0 && a.1 == b.1 && a.2 == b.2

abbrev pub static_in : Kept (ℕ × ℕ) MVal → ℕ → ℕ → Option MVal
static_in kept c f = get same_member kept (c, f)

abbrev pub births_in : Kept ℕ ℕ → ℕ → ℕ
births_in kept c = unwrap_or (get nat_eq kept c) 0

abbrev pub field_in : Kept (ℕ × ℕ × ℕ) MVal → ℕ → ℕ → ℕ → Option MVal
field_in kept c n f = get same_field kept (c, n, f)

abbrev pub numbers_left : Option (Bor (List ℤ)) → Option (List ℤ)
numbers_left None = None
numbers_left (Some left) = Some left.now

abbrev pub input_in : Kept (ℕ × ℕ) (Bor (List ℤ)) → ℕ → ℕ → Option (List ℤ)
input_in kept c k = numbers_left (get same_member kept (c, k))

-- no field of an object is written before the object is born
abbrev pub NoneUnborn : Kept ℕ ℕ → Kept (ℕ × ℕ × ℕ) MVal → Type 0
NoneUnborn births fields =
    (c n f : ℕ) → births_in births c ≤ n → is_some (field_in fields c n f) ≡ false

-- nothing is written, no object is born and no lock is open
abbrev pub nothing_held : Held
nothing_held = record {
  statics = λ c f. None;
  births = λ c. 0;
  fields = λ c n f. None;
  inputs = λ c k. None;
  locks = [];
}

abbrev pub write_static : ℕ → ℕ → MVal → Held → Held
write_static c f v h = record h { statics = put h.statics c (put (h.statics c) f (Some v)) }

abbrev pub bear : ℕ → Held → Held
bear c h = record h { births = put h.births c (h.births c + 1) }

abbrev pub write_here : ℕ → ℕ → ℕ → MVal → Held → Held
write_here c n f v h =
    record h { fields = put h.fields c (put (h.fields c) n (put (h.fields c n) f (Some v))) }

-- a write to a field of an object that is there
abbrev pub write_field : ℕ → ℕ → ℕ → MVal → Held → Held
write_field c n f v h = if nat_lt n (h.births c) then write_here c n f v h else h

abbrev pub keep_input : ℕ → ℕ → List ℤ → Held → Held
keep_input c k left h = record h { inputs = put h.inputs c (put (h.inputs c) k (Some left)) }

abbrev pub opens : ℕ → Held → Held
opens l h = record h { locks = opened l h.locks }

abbrev pub closes : ℕ → Held → Held
closes l h = record h { locks = closed l h.locks }
