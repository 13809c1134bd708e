use Rattle.std.proofs.Common.{◌≡◌, ◌∙◌, ap, subst}
use Rattle.par_sample.specs.Source.{source}
use Rattle.par_sample.specs.Counted.{summary_of}
use Rattle.par_tool.specs.Outside.{Text}
use Rattle.par_tool.specs.Sources.{IsSecureAs}
use Rattle.par_tool.specs.Samples.{Sampled}
use Rattle.par_tool.specs.Failures.{IsFailure}
use Rattle.par_tool.proofs.Loads.{handed}
use Rattle.par_tool.proofs.Counted.{small_classes, two_classes, unaccepted}
use Rattle.par_tool.proofs.samples.make_sample.Goals as goal

-- the source that was made is accepted as this program
pub class_files-requires-clause-accepted : goal.class_files-requires-clause-accepted
class_files-requires-clause-accepted c =
    (c.as_slice.result.now, c.in_ok-typed.ensures.accepted)

pub class_files-requires-clause-well_formed : goal.class_files-requires-clause-well_formed
class_files-requires-clause-well_formed c = c.in_ok-typed.ensures.well_formed

pub returns-in_err-typed-clause-failed : goal.returns-in_err-typed-clause-failed
returns-in_err-typed-clause-failed c =
    handed c.from_residual-in_err-typed.result c.in_err-typed.field-0.0
    (IsFailure (Sampled c.args.number)) c.from_residual-in_err-typed.ensures.1
    (unaccepted c.args.number c.as_slice.result.now
    (c.as_slice.ensures.value ∙ c.in_ok-source.ensures.made) c.in_err-typed.field-0.0
    c.in_err-typed.ensures.failed)

pub summary_of-requires-clause-built_in : goal.summary_of-requires-clause-built_in
summary_of-requires-clause-built_in c =
    two_classes c.in_ok-typed.typed.table c.in_ok-typed.ensures.well_formed.typed_well.built_in

pub summary_of-requires-clause-few : goal.summary_of-requires-clause-few
summary_of-requires-clause-few c = c.in_ok-typed.ensures.well_formed.typed_well.few_classes

pub summary_of-requires-clause-small : goal.summary_of-requires-clause-small
summary_of-requires-clause-small c =
    small_classes c.in_ok-typed.typed.table.classes
    c.in_ok-typed.ensures.well_formed.typed_well.few_members

pub returns-clause-sampled : goal.returns-clause-sampled
returns-clause-sampled c =
    let made : c.as_slice.result.now ≡ source c.args.number =
    c.as_slice.ensures.value ∙ c.in_ok-source.ensures.made in
    record {
      typed = c.in_ok-typed.typed;
      accepted =
          subst (λ (s : Text). IsSecureAs s c.in_ok-typed.typed) made
          c.in_ok-typed.ensures.accepted;
      classes = c.in_ok-classes.classes;
      compiled = c.in_ok-classes.ensures.are;
      summary_is =
          c.summary_of.ensures
          ∙ ap (λ n. summary_of c.args.number c.in_ok-typed.typed.table n) c.len-files.ensures;
    }
