-- What is known of the classes that a constant pool names, and which forms attributes spell.
use Rattle.std.specs.Prelude.{◌≡◌, ℕ, List, [], ◌∷◌, Option, Some, None}
use Rattle.std.specs.List.{filter}
use Rattle.par_base.specs.Names.{IsName}
use Rattle.par_pool.specs.declared.constant.Constant.{Constant}
use Rattle.par_pool.specs.declared.constant.Constant.TheVariants.{Class}
use Rattle.par_pool.specs.Entries.{entry_at}
use Rattle.par_class.specs.declared.file.Attribute.{Attribute}
use Rattle.par_class.specs.declared.file.CodeAttr.{CodeAttr}
use Rattle.par_class.specs.declared.file.MethodFile.{MethodFile}
use Rattle.par_class.specs.declared.file.ClassFile.{ClassFile}
use Rattle.par_single.specs.Members.{text_at}
use Rattle.par_frames.specs.par_link.Builtins.{builtin}
use Rattle.par_frame_forms.specs.declared.form.FrameForm.{FrameForm}
use Rattle.par_kinds.specs.declared.frame.PlacedFrame.{PlacedFrame}
use Rattle.par_frames.specs.Given.{forms_in, is_table}
use Rattle.par_frames.specs.Broken.{AreGiven}

-- each class that is named is built in, or has a name of programs
abbrev pub AreNamed : List Constant → Type 0
AreNamed pool =
    (index name : ℕ) → entry_at pool index ≡ Some (Class name)
    → builtin (text_at pool name) ≡ None → IsName (text_at pool name)

abbrev pub forms_of_tables : List Attribute → Option (List FrameForm)
forms_of_tables [] = Some []
forms_of_tables (a ∷ []) = forms_in a.bytes
forms_of_tables (a ∷ b ∷ more) = None

-- the forms that attributes of code spell
abbrev pub forms_given : List Constant → List Attribute → Option (List FrameForm)
forms_given pool attributes = forms_of_tables (filter (is_table pool) attributes)

-- the attributes of code give frames
abbrev pub GivesFrames : ClassFile → MethodFile → CodeAttr → Type 0
GivesFrames file m code = (fs : List PlacedFrame) × AreGiven file m code fs
