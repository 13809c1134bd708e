-- Frames that wait fit still where objects are more.
use Rattle.std.proofs.Common.{List, [], ◌∷◌, Some, None, Option}
use Rattle.par_class.specs.declared.file.ClassFile.{ClassFile}
use Rattle.par_values.specs.declared.value.MVal.{MVal}
use Rattle.par_values.specs.declared.kind.Kind.{Kind}
use Rattle.par_values.specs.Areas.{Objects}
use Rattle.par_kinds.specs.par_step_laws.State.{Frame}
use Rattle.par_kinds.specs.declared.frame.VKind.{VKind}
use Rattle.par_kinds.specs.Linked.{AllGiven, result_of}
use Rattle.par_verify_laws.specs.States.{Stands, Below, Takes}
use Rattle.par_verify_laws.proofs.Heap.{Grows, goods-grow, held-grow}

module _ (files : List ClassFile) (given : AllGiven) (some more : Objects)
    (grows : Grows some more) where
  pub stands-grow : (f : Frame) → Stands files given some f → Stands files given more f
  stands-grow f s = record {
    coded = s.coded;
    kinds = s.kinds;
    at = s.at;
    locals = held-grow files some more grows s.kinds.locals f.locals s.locals;
  }

  takes-grow : (gives : Option Kind) (ks : List VKind) (vs : List MVal)
      → Takes files given some gives ks vs → Takes files given more gives ks vs
  takes-grow None ks vs takes = goods-grow files some more grows ks vs takes
  takes-grow (Some kind) [] vs takes = absurd takes
  takes-grow (Some kind) (k ∷ ks) vs takes =
      (takes.0, goods-grow files some more grows ks vs takes.1)

  pub below-grow : (gives : Option Kind) (frames : List Frame)
      → Below files given some gives frames → Below files given more gives frames
  below-grow gives [] below = tt
  below-grow gives (f ∷ frames) below = (
    record {
      stands = stands-grow f below.0.stands;
      behind = below.0.behind;
      at = below.0.at;
      locals = held-grow files some more grows below.0.behind.locals f.locals below.0.locals;
      operands = takes-grow gives below.0.behind.stack f.operands below.0.operands;
    },
    below-grow (result_of files f.class f.method) frames below.1,
  )
