-- The methods of a class's file, as a plain program has them, and how many entries the pool of the
-- file has room for.
use Rattle.std.specs.Prelude.{ℕ, ◌+◌, ◌*◌, ◌≤◌, Bool, true, false, List, [], ◌∷◌, ◌++◌, map}
use Rattle.std.specs.Prelude.{length, Some}
use Rattle.std.specs.List.{All}
use Rattle.par_base.specs.Names.{IsName}
use Rattle.par_code_form.specs.declared.labelled.Labelled.{Labelled}
use Rattle.par_code_form.specs.Method.{labelled}
use Rattle.par_code_form.specs.Named.{words_of}
use Rattle.par_code_form.specs.Placeable.{IsPlaceable}
use Rattle.par_code_form.specs.PlaceableFrames.{AreFramesPlaceable}
use Rattle.par_framing.specs.par_compile_laws.Framed.{classes_with, entries_with}
use Rattle.par_framing.specs.par_frames.Room.{HasRoom, SPARE}
use Rattle.par_erase.specs.declared.program.PlainMethod.{PlainMethod}
use Rattle.par_erase.specs.declared.program.PlainClass.{PlainClass}
use Rattle.par_erase.specs.declared.program.Plain.{Plain}
use Rattle.par_erase.specs.Shown.{Name, does, method_info, channel_info, class_info, table_of}
use Rattle.par_erase.specs.Shown.{bodies_of, inputs_of}
use Rattle.par_compile_laws.specs.Members.{Member, initializer, channel, method}

-- the code of a method
abbrev pub code_in : Plain → PlainMethod → Labelled
code_in p m = labelled (words_of (table_of p)) (method_info m) (does (inputs_of p) m.body)

abbrev pub method_in : Plain → PlainMethod → Member
method_in p m =
    method (table_of p) (bodies_of p) (method_info m) (Some (does (inputs_of p) m.body))

-- a channel of this direction and name
abbrev pub channel_in : Bool → Name → Member
channel_in is_input name = channel (channel_info is_input name)

-- `()I` of a channel into the program, `(I)V` of one out of it
abbrev pub channel_kind : Bool → Name
channel_kind is_input = (channel_in is_input []).descriptor

-- the methods of a class's file
abbrev pub own_members : Plain → PlainClass → List Member
own_members p k =
    initializer (class_info k) ∷ [] ++ (map (channel_in true) k.inputs
    ++ (map (channel_in false) k.outputs ++ map (method_in p) k.methods))

-- how many entries the code of a method needs, with its frames or without them
abbrev pub code_entries : Bool → Plain → PlainMethod → ℕ
code_entries frames p m = entries_with frames (code_in p m)

-- the classes that its frames name
abbrev pub code_classes : Bool → Plain → PlainMethod → List Name
code_classes frames p m = classes_with frames (code_in p m)

-- methods need these and two texts each, and where frames are written a few more stay free
abbrev pub methods_entries : Bool → Plain → List PlainMethod → ℕ
methods_entries frames p [] = SPARE
methods_entries frames p (m ∷ ms) = (code_entries frames p m + 2) + methods_entries frames p ms

abbrev pub methods_classes : Bool → Plain → List PlainMethod → List Name
methods_classes frames p [] = []
methods_classes frames p (m ∷ ms) = code_classes frames p m ++ methods_classes frames p ms

-- the initializer needs eight, a channel two
abbrev pub members_entries : Bool → Plain → PlainClass → ℕ
members_entries frames p k =
    8 + (2 * length k.inputs + (2 * length k.outputs + methods_entries frames p k.methods))

-- the text `Code`, the class and the class above need five, a field two
abbrev pub class_entries : Bool → Plain → PlainClass → ℕ
class_entries frames p k = 5 + (2 * length k.fields + members_entries frames p k)

-- the most parameters of a method
abbrev pub MOST_PARAMS : ℕ
MOST_PARAMS = 16

pub record IsMethodReady (p : Plain) (m : PlainMethod) : Type 0 where
  pub few : length m.params ≤ MOST_PARAMS
  pub placeable : IsPlaceable (code_in p m)
  pub framed : AreFramesPlaceable (code_in p m)

-- the file of the class can be written, with frames and without them
pub record IsReady (p : Plain) (k : PlainClass) : Type 0 where
  pub methods : All (IsMethodReady p) k.methods
  pub room : (frames : Bool)
      → HasRoom [] (class_entries frames p k) (methods_classes frames p k.methods)

-- classes are called by names
abbrev pub AreNamed : Plain → Type 0
AreNamed p = All (λ k. IsName k.name) p.classes
