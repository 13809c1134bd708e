use Rattle.std.proofs.Common.{◌≡◌, ◌<◌, ◌^◌, ap, sym, subst, ◌∙◌, length}
use Rattle.std.specs.Prelude.{List, IfOk}
use Rattle.par_tree.specs.Plain.{Source}
use Rattle.par_tree.specs.Shown.{source}
use Rattle.par_typed.specs.declared.program.TBody.{TBody}
use Rattle.par_typed.specs.declared.table.Table.{Table}
use Rattle.par_typed.specs.Shown.{bodies}
use Rattle.par_scope.specs.Names.{IsFewTable, names_of}
use Rattle.par_annotation.specs.par_type_rules.TypedStmts.{Written}
use Rattle.par_annotation.specs.par_type_rules.TypedBodies.{typed_program}
use Rattle.par_typed_laws.proofs.par_faults.Within.{limits_kept}
use Rattle.par_typing.proofs.Small.{small_source}
use Rattle.par_typing.proofs.Tables.{few_table, few_policies}
use Rattle.par_typing.proofs.Written.{written_is}
use Rattle.par_typing.proofs.program.bodies_of.Goals as goal

abbrev IsMadeBy : Table → Source → Written → List TBody → Type 0
IsMadeBy table tree w found = bodies found ≡ typed_program w table tree

pub of-numbering-requires : goal.of-numbering-requires
of-numbering-requires c =
    let policies = c.as_slice.ensures ∙ ap (λ t. t.policies) c.requires.tabled in
    subst (λ ps. length ps < 2 ^ 16) (sym policies)
    (few_policies (source c.args.program.now) (limits_kept (source c.args.program.now)
    c.requires.named))

pub type_bodies-requires : goal.type_bodies-requires
type_bodies-requires c =
    let limits = limits_kept (source c.args.program.now) c.requires.named in
    record {
      few = subst IsFewTable (sym c.requires.tabled) (few_table (source c.args.program.now) limits);
      small =
          small_source c.args.table.now (names_of c.args.table.now) (source c.args.program.now)
          limits.class_limits_kept c.requires.numbers c.requires.typed;
    }

pub returns : goal.returns
returns c =
    let policies = c.as_slice.ensures ∙ ap (λ t. t.policies) c.requires.tabled in
    let numbered = c.of-numbering.ensures ∙ written_is c.args.known c.as_slice.result.now
    (source c.args.program.now) c.requires.known policies in
    subst
    (λ w. IfOk c.type_bodies.result (IsMadeBy c.args.table.now (source c.args.program.now) w))
    numbered c.type_bodies.ensures
