-- The kinds, frames and acts that a verifier keeps, as those that they stand for.
use Rattle.std.specs.Prelude.{List, [], ◌∷◌, Option, Some, None, map, reverse}
use Rattle.par_values.specs.declared.kind.Kind.{Kind}
use Rattle.par_values.specs.declared.kind.Kind.TheVariants as asks
use Rattle.par_kinds.specs.declared.frame.VKind.{VKind}
use Rattle.par_kinds.specs.Kinds.{KFrame}
use Rattle.par_kinds.specs.Linked.{padded}
use Rattle.par_kinds.specs.Acts as spec
use Rattle.par_place_kinds.specs.declared.kind.PlaceKind.{PlaceKind}
pub use Rattle.par_place_kinds.specs.Marks.{names, kind_of, kinds_of}
use Rattle.par_frame_steps.specs.declared.frame.PlaceFrame.{PlaceFrame}
use Rattle.par_frame_steps.specs.declared.act.Asked.{Asked}
use Rattle.par_frame_steps.specs.declared.act.Asked.TheVariants as asked
use Rattle.par_frame_steps.specs.declared.act.Also.{Also}
use Rattle.par_frame_steps.specs.declared.act.Also.TheVariants as also
use Rattle.par_frame_steps.specs.declared.act.Leaves.{Leaves}
use Rattle.par_frame_steps.specs.declared.act.Leaves.TheVariants as leaves
use Rattle.par_frame_steps.specs.declared.act.Flow.{Flow}
use Rattle.par_frame_steps.specs.declared.act.Flow.TheVariants as flow
use Rattle.par_frame_steps.specs.declared.act.Act.{Act}

-- locals that are not listed hold anything
abbrev pub locals_of : PlaceFrame → List VKind
locals_of f = padded f.many (kinds_of f.locals)

-- the operand that was pushed last stands last
abbrev pub operands_of : List PlaceKind → List VKind
operands_of kinds = reverse (kinds_of kinds)

abbrev pub frame_of : PlaceFrame → KFrame
frame_of f = record { locals = locals_of f; stack = operands_of f.stack }

-- ---- acts

abbrev pub asked_of : Asked → Kind
asked_of asked.Number = asks.Number
asked_of (asked.Object name) = asks.Object name.now
asked_of asked.AnyObject = asks.AnyObject
asked_of asked.Anything = asks.Anything

abbrev pub also_of : Also → spec.Also
also_of also.Nothing = spec.Nothing
also_of also.Throwable = spec.Throwable
also_of also.Exceptional = spec.Exceptional
also_of (also.Result kind) = spec.Result (asked_of kind)
also_of (also.Local x kind) = spec.Local x (asked_of kind)
also_of (also.InRange x) = spec.InRange x

abbrev pub given : Option PlaceKind → List VKind
given None = []
given (Some k) = kind_of k ∷ []

abbrev pub leaves_of : Leaves → spec.Leaves
leaves_of (leaves.Gives k) = spec.Gives (given k)
leaves_of (leaves.Loads x) = spec.Loads x
leaves_of leaves.Copies = spec.Copies
leaves_of (leaves.Stores x) = spec.Stores x

abbrev pub flow_of : Flow → spec.Flow
flow_of flow.Onward = spec.Onward
flow_of (flow.Jumps to) = spec.Jumps to
flow_of (flow.Branches to) = spec.Branches to
flow_of flow.Nowhere = spec.Nowhere

abbrev pub act_of : Act → spec.Act
act_of a = record {
  wrong = a.wrong;
  takes = map asked_of a.takes.items;
  also = also_of a.also;
  leaves = leaves_of a.leaves;
  flow = flow_of a.flow;
}
