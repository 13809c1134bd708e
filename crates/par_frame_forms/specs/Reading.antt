-- Which forms bytes spell, as a function of the bytes.
use Rattle.std.specs.Prelude.{ℕ, zero, suc, ◌-◌, ◌==◌, nat_le, nat_lt, if◌then◌else◌, List, [], ◌∷◌}
use Rattle.std.specs.Prelude.{length, drop, Option, Some, None}
use Rattle.byteorder.specs.Endian.{big_number}
use Rattle.par_frame_forms.specs.declared.form.PlaceType.{PlaceType}
use Rattle.par_frame_forms.specs.declared.form.PlaceType.TheVariants.{Top, Int, Null, Class}
use Rattle.par_frame_forms.specs.declared.form.FrameForm.{FrameForm}
use Rattle.par_frame_forms.specs.declared.form.FrameForm.TheVariants.{Same, OneOperand}
use Rattle.par_frame_forms.specs.declared.form.FrameForm.TheVariants.{OneOperandFar, Cut, More}
use Rattle.par_frame_forms.specs.declared.form.FrameForm.TheVariants.{Full}

-- what was read, and the bytes behind it
pub record Read (A : Type 0) : Type 0 where
  pub value : A
  pub rest : List ℕ

abbrev pub and_read : {A B : Type 0} → Option (Read A) → (A → List ℕ → Option (Read B))
    → Option (Read B)
and_read None next = None
and_read (Some r) next = next r.value r.rest

abbrev pub gives : {A : Type 0} → A → List ℕ → Option (Read A)
gives x rest = Some (record { value = x; rest = rest })

abbrev pub read_u2 : List ℕ → Option (Read ℕ)
read_u2 bytes =
    if nat_le 2 (length bytes) then gives (big_number 2 bytes) (drop 2 bytes) else None

-- other types are refused
abbrev pub type_of : ℕ → List ℕ → Option (Read PlaceType)
type_of tag bytes =
    if tag == 0 then gives Top bytes
    else if tag == 1 then gives Int bytes
    else if tag == 5 then gives Null bytes
    else if tag == 7 then and_read (read_u2 bytes) (λ index rest. gives (Class index) rest)
    else None

abbrev pub read_type : List ℕ → Option (Read PlaceType)
read_type [] = None
read_type (tag ∷ bytes) = type_of tag bytes

abbrev pub read_types : ℕ → List ℕ → Option (Read (List PlaceType))
read_types zero bytes = gives [] bytes
read_types (suc many) bytes =
    and_read (read_type bytes)
    (λ t rest. and_read (read_types many rest) (λ ts last. gives (t ∷ ts) last))

abbrev pub read_list : List ℕ → Option (Read (List PlaceType))
read_list bytes = and_read (read_u2 bytes) (λ many rest. read_types many rest)

-- behind a tag of at least 247 and a distance
abbrev pub form_behind : ℕ → ℕ → List ℕ → Option (Read FrameForm)
form_behind tag delta bytes =
    if tag == 247
    then and_read (read_type bytes) (λ t rest. gives (OneOperandFar delta t) rest)
    else if nat_lt tag 251 then gives (Cut (251 - tag) delta) bytes
    else if nat_lt tag 255
    then and_read (read_types (tag - 251) bytes) (λ ts rest. gives (More delta ts) rest)
    else and_read (read_list bytes)
    (λ locals rest. and_read (read_list rest) (λ stack last. gives (Full delta locals stack) last))

-- tags from 128 to 246 are refused
abbrev pub form_of : ℕ → List ℕ → Option (Read FrameForm)
form_of tag bytes =
    if nat_lt tag 64 then gives (Same tag) bytes
    else if nat_lt tag 128
    then and_read (read_type bytes) (λ t rest. gives (OneOperand (tag - 64) t) rest)
    else if nat_lt tag 247 then None
    else and_read (read_u2 bytes) (λ delta rest. form_behind tag delta rest)

abbrev pub read_form : List ℕ → Option (Read FrameForm)
read_form [] = None
read_form (tag ∷ bytes) = form_of tag bytes

-- so many forms, one behind the other
abbrev pub read_forms : ℕ → List ℕ → Option (Read (List FrameForm))
read_forms zero bytes = gives [] bytes
read_forms (suc many) bytes =
    and_read (read_form bytes)
    (λ f rest. and_read (read_forms many rest) (λ fs last. gives (f ∷ fs) last))
