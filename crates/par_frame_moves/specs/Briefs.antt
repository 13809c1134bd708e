-- Instructions that name no class, as the acts that they stand for.
use Rattle.std.specs.Prelude.{false, List, [], ◌∷◌}
use Rattle.par_values.specs.declared.kind.Kind.{Kind}
use Rattle.par_values.specs.declared.kind.Kind.TheVariants as asks
use Rattle.par_kinds.specs.declared.frame.VKind.TheVariants.{Int, Null}
use Rattle.par_kinds.specs.Acts as spec
use Rattle.par_frame_steps.specs.Marks.{flow_of}
use Rattle.par_frame_moves.specs.declared.brief.Want.{Want}
use Rattle.par_frame_moves.specs.declared.brief.Want.TheVariants as want
use Rattle.par_frame_moves.specs.declared.brief.Takes.{Takes}
use Rattle.par_frame_moves.specs.declared.brief.Takes.TheVariants as takes
use Rattle.par_frame_moves.specs.declared.brief.Work.{Work}
use Rattle.par_frame_moves.specs.declared.brief.Work.TheVariants as work
use Rattle.par_frame_moves.specs.declared.brief.Brief.{Brief}

abbrev pub want_of : Want → Kind
want_of want.Number = asks.Number
want_of want.Reference = asks.AnyObject
want_of want.Anything = asks.Anything

abbrev pub takes_of : Takes → List Kind
takes_of takes.Nothing = []
takes_of (takes.One w) = want_of w ∷ []
takes_of (takes.Two w) = want_of w ∷ want_of w ∷ []

abbrev pub also_of : Work → spec.Also
also_of (work.Load x w) = spec.Local x (want_of w)
also_of (work.Increase x) = spec.Local x asks.Number
also_of (work.Store x) = spec.InRange x
also_of _ = spec.Nothing

abbrev pub leaves_of : Work → spec.Leaves
leaves_of work.PushNumber = spec.Gives (Int ∷ [])
leaves_of work.PushNull = spec.Gives (Null ∷ [])
leaves_of (work.Load x w) = spec.Loads x
leaves_of work.Copy = spec.Copies
leaves_of (work.Store x) = spec.Stores x
leaves_of _ = spec.Gives []

abbrev pub act_of : Brief → spec.Act
act_of b = record {
  wrong = false;
  takes = takes_of b.takes;
  also = also_of b.work;
  leaves = leaves_of b.work;
  flow = flow_of b.flow;
}
