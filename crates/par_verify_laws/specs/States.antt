-- When the state of a machine fits the frames that are given for its methods.
use Rattle.std.specs.Prelude.{◌≡◌, ℕ, ◌<◌, Bool, true, false, List, [], ◌∷◌, ◌++◌, length, map}
use Rattle.std.specs.Prelude.{replicate, Option, Some, None}
use Rattle.std.specs.List.{slice_get, filter}
use Rattle.par_class.specs.declared.file.ClassFile.{ClassFile}
use Rattle.par_values.specs.declared.value.MVal.{MVal}
use Rattle.par_values.specs.declared.value.MVal.TheVariants.{Int, Null, Ref}
use Rattle.par_values.specs.declared.kind.Kind.{Kind}
use Rattle.par_values.specs.declared.kind.Kind.TheVariants.{Number, Object}
use Rattle.par_values.specs.Areas.{Objects, fits, list_or_none}
use Rattle.par_values.specs.Reasons.{is_of}
use Rattle.par_kinds.specs.par_step_laws.Classes.{class_names, exceptions}
use Rattle.par_kinds.specs.par_step_laws.Fields.{is_shared, kind_of, kinds_in}
use Rattle.par_kinds.specs.par_step_laws.State.{Frame, State}
use Rattle.par_kinds.specs.par_step_laws.Step.{Turn, Silent, Shows, Ends, IsBad, past}
use Rattle.par_kinds.specs.declared.frame.VKind.{VKind}
use Rattle.par_kinds.specs.declared.frame.VKind.TheVariants.{Top as ATop, Int as AnInt}
use Rattle.par_kinds.specs.declared.frame.VKind.TheVariants.{Null as ANull, Object as AnObject}
use Rattle.par_kinds.specs.declared.frame.VKind.TheVariants.{Base as ABase}
use Rattle.par_kinds.specs.Kinds.{KFrame, vkind, Both, Each, Into}
use Rattle.par_kinds.specs.Linked.{AllGiven, result_of, coded_at, exception_names}

-- ---- values

abbrev pub is_object : MVal → Bool
is_object (Int n) = false
is_object Null = true
is_object (Ref c n) = true

-- a value is of a kind
unfoldable pub Has : List ClassFile → VKind → MVal → Type 0
Has files ATop v = Unit {0}
Has files AnInt v = fits (class_names files) Number v ≡ true
Has files ANull v = v ≡ Null
Has files (AnObject name) v = fits (class_names files) (Object name) v ≡ true
Has files (ABase true) v = (is_object v ≡ true) × (is_of (exceptions files) v ≡ true)
Has files (ABase false) v = is_object v ≡ true

-- an object is there
abbrev pub Live : Objects → MVal → Type 0
Live objects (Int n) = Unit {0}
Live objects Null = Unit {0}
Live objects (Ref c n) = n < length (list_or_none (slice_get objects c))

pub record Good (files : List ClassFile) (objects : Objects) (k : VKind) (v : MVal) : Type 0 where
  pub has : Has files k v
  pub live : Live objects v

-- what a local holds is of a kind
abbrev pub Holds : List ClassFile → Objects → VKind → Option MVal → Type 0
Holds files objects k (Some v) = Good files objects k v
Holds files objects ATop None = Unit {0}
Holds files objects k None = ⊥

-- ---- fields

abbrev pub shared_kinds : ClassFile → List Kind
shared_kinds file = map (kind_of file.pool.entries) (filter is_shared file.fields)

unfoldable pub all_shared : List ClassFile → List Kind
all_shared [] = []
all_shared (file ∷ files) = shared_kinds file ++ all_shared files

-- the kinds of all static fields, those of the locks behind them
abbrev pub static_kinds : List ClassFile → List Kind
static_kinds files = all_shared files ++ replicate 256 Number

-- the kinds of the fields of an object of a class
abbrev pub class_kinds : List ClassFile → ℕ → List Kind
class_kinds files class = kinds_in (slice_get files class)

abbrev pub Keeps : List ClassFile → Objects → Kind → MVal → Type 0
Keeps files objects kind v = Good files objects (vkind kind) v

pub record HeapFits (files : List ClassFile) (statics : List MVal) (objects : Objects) : Type 0
  where
    pub fields : Both (Keeps files objects) (static_kinds files) statics
    pub many : length objects ≡ length (class_names files)
    pub each : (c : ℕ) →
        Each (Both (Keeps files objects) (class_kinds files c)) (list_or_none (slice_get objects c))

-- ---- frames

module _ (files : List ClassFile) (given : AllGiven) (objects : Objects) where
  -- a frame has locals of the kinds that are given where it stands
  pub record Stands (f : Frame) : Type 0 where
    pub coded : coded_at files f.class f.method ≡ true
    pub kinds : KFrame
    pub at : given f.class f.method f.at ≡ Some kinds
    pub locals : Both (Holds files objects) kinds.locals f.locals

  -- and the first one also operands
  pub record Runs (f : Frame) : Type 0 where
    pub stands : Stands f
    pub operands : Both (Good files objects) stands.kinds.stack f.operands

  -- with what a call has given, operands fit what is given behind the call
  abbrev pub Takes : Option Kind → List VKind → List MVal → Type 0
  Takes None ks vs = Both (Good files objects) ks vs
  Takes (Some kind) [] vs = ⊥
  Takes (Some kind) (k ∷ ks) vs =
      Into (exception_names files) (vkind kind) k × Both (Good files objects) ks vs

  -- a frame waits for a method that gives this
  pub record Waits (gives : Option Kind) (f : Frame) : Type 0 where
    pub stands : Stands f
    pub behind : KFrame
    pub at : given f.class f.method (past files f).at ≡ Some behind
    pub locals : Both (Holds files objects) behind.locals f.locals
    pub operands : Takes gives behind.stack f.operands

  abbrev pub Below : Option Kind → List Frame → Type 0
  Below gives [] = Unit {0}
  Below gives (f ∷ frames) = Waits gives f × Below (result_of files f.class f.method) frames

  abbrev pub FramesFit : List Frame → Type 0
  FramesFit [] = Unit {0}
  FramesFit (f ∷ frames) = Runs f × Below (result_of files f.class f.method) frames

pub record StateFits (files : List ClassFile) (given : AllGiven) (s : State) : Type 0 where
  pub heap : HeapFits files s.statics s.objects
  pub frames : FramesFit files given s.objects s.frames

abbrev pub TurnFits : List ClassFile → AllGiven → Turn → Type 0
TurnFits files given (Silent s) = StateFits files given s
TurnFits files given (Shows e s) = StateFits files given s
TurnFits files given (Ends ending) = Unit {0}
TurnFits files given (IsBad class method offset reason) = ⊥
