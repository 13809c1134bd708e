-- The frames that the attributes of a method's code give.
use Rattle.std.specs.Prelude.{ℕ, ◌+◌, ◌-◌, nat_le, Bool, if◌then◌else◌, List, [], ◌∷◌, ◌++◌}
use Rattle.std.specs.Prelude.{length, take, map, Option, Some, None, codes}
use Rattle.std.specs.List.{filter}
use Rattle.std.specs.Option.{option_map}
use Rattle.par_frame_forms.specs.par_pool.declared.constant.Constant.{Constant}
use Rattle.par_frame_forms.specs.par_pool.Entries.{entry_at}
use Rattle.par_kinds.specs.par_class.declared.file.Attribute.{Attribute}
use Rattle.par_kinds.specs.par_class.declared.file.MethodFile.{MethodFile}
use Rattle.par_kinds.specs.par_class.declared.file.ClassFile.{ClassFile}
use Rattle.par_kinds.specs.par_class.Spelling.{is_named}
use Rattle.par_kinds.specs.par_single.Members.{own_name, text_at, is_static}
use Rattle.par_kinds.specs.par_single.Links.{signature_said}
use Rattle.par_frame_forms.specs.declared.form.PlaceType.{PlaceType}
use Rattle.par_frame_forms.specs.declared.form.FrameForm.{FrameForm}
use Rattle.par_frame_forms.specs.declared.form.FrameForm.TheVariants.{OneOperand, OneOperandFar}
use Rattle.par_frame_forms.specs.declared.form.FrameForm.TheVariants.{Cut, More, Full}
use Rattle.par_frame_forms.specs.Spelled.{says}
use Rattle.par_frame_forms.specs.Reading.{Read, and_read, read_u2, read_forms}
use Rattle.par_kinds.specs.declared.frame.VKind.{VKind}
use Rattle.par_kinds.specs.declared.frame.PlacedFrame.{PlacedFrame}
use Rattle.par_kinds.specs.Kinds.{vkind}
use Rattle.par_kinds.specs.Linked.{given_to}
use Rattle.par_frames.specs.Names.{kind_of}

abbrev pub on_some : {A B : Type 0} → Option A → (A → Option B) → Option B
on_some None next = None
on_some (Some x) next = next x

abbrev pub kinds_of : List Constant → List PlaceType → Option (List VKind)
kinds_of pool [] = Some []
kinds_of pool (t ∷ ts) =
    on_some (kind_of pool t) (λ k. option_map (λ ks. k ∷ ks) (kinds_of pool ts))

-- the locals that a form lists behind others; no more are cut than are listed
abbrev pub locals_said : List Constant → List VKind → FrameForm → Option (List VKind)
locals_said pool listed (Cut many delta) =
    if nat_le many (length listed) then Some (take (length listed - many) listed) else None
locals_said pool listed (More delta ts) = option_map (λ ks. listed ++ ks) (kinds_of pool ts)
locals_said pool listed (Full delta locals stack) = kinds_of pool locals
locals_said pool listed f = Some listed

abbrev pub stack_said : List Constant → FrameForm → Option (List VKind)
stack_said pool (OneOperand delta t) = kinds_of pool (t ∷ [])
stack_said pool (OneOperandFar delta t) = kinds_of pool (t ∷ [])
stack_said pool (Full delta locals stack) = kinds_of pool stack
stack_said pool f = Some []

abbrev pub frame_said : List Constant → ℕ → List VKind → FrameForm → Option PlacedFrame
frame_said pool from listed f =
    on_some (locals_said pool listed f) (λ locals. option_map
    (λ stack. record {
      offset = from + (says [] f).delta;
      frame = record { locals = locals; stack = stack };
    })
    (stack_said pool f))

-- The frames of forms: the first distance counts from an offset, a later one from the offset behind
-- the frame before.
abbrev pub frames_said : List Constant → ℕ → List VKind → List FrameForm
    → Option (List PlacedFrame)
frames_said pool from listed [] = Some []
frames_said pool from listed (f ∷ fs) =
    on_some (frame_said pool from listed f) (λ p. option_map (λ ps. p ∷ ps)
    (frames_said pool (p.offset + 1) p.frame.locals fs))

-- forms with nothing behind them
abbrev pub to_the_end : Option (Read (List FrameForm)) → Option (List FrameForm)
to_the_end None = None
to_the_end (Some r) = if nat_le 1 (length r.rest) then None else Some r.value

abbrev pub forms_in : List ℕ → Option (List FrameForm)
forms_in bytes = to_the_end (and_read (read_u2 bytes) read_forms)

abbrev pub frames_in : List Constant → List VKind → List ℕ → Option (List PlacedFrame)
frames_in pool start bytes = on_some (forms_in bytes) (frames_said pool 0 start)

abbrev pub is_table : List Constant → Attribute → Bool
is_table pool a = is_named (codes "StackMapTable") (entry_at pool a.name)

-- two attributes give nothing, none gives no frames
abbrev pub frames_of_tables : List Constant → List VKind → List Attribute
    → Option (List PlacedFrame)
frames_of_tables pool start [] = Some []
frames_of_tables pool start (a ∷ []) = frames_in pool start a.bytes
frames_of_tables pool start (a ∷ b ∷ more) = None

-- the receiver and the arguments of a method
abbrev pub start_of : ClassFile → MethodFile → List VKind
start_of file m =
    map vkind (given_to (is_static m.access) (own_name file)
    (signature_said (text_at file.pool.entries m.descriptor)).takes)

abbrev pub frames_given : ClassFile → MethodFile → List Attribute → Option (List PlacedFrame)
frames_given file m attributes =
    frames_of_tables file.pool.entries (start_of file m)
    (filter (is_table file.pool.entries) attributes)
