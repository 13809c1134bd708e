-- Each method of a program is one of its erased program.
use Rattle.std.proofs.Common.{Some, ap, ◌∙◌}
use Rattle.par_evaluation_laws.specs.par_run_laws.Names.{body_of}
use Rattle.par_erase.specs.Erased.{erased_method, erased_bodies}
use Rattle.par_source_code_laws.specs.Methods.{may_meth}
use Rattle.par_source_code_laws.specs.Laws.{MethodsAreKept}
use Rattle.par_source_code_laws.proofs.Members.{method_erased}
use Rattle.par_source_code_laws.proofs.Bodies.{body_stands}

pub methods_are_kept : MethodsAreKept
methods_are_kept t bodies c i m h =
    let body = body_stands t bodies c i m h in (
      body.0,
      ap (λ o. may_meth o (body_of (erased_bodies t bodies) c i)) (method_erased t c i m h)
          ∙ ap (may_meth (Some (erased_method m))) body.1,
    )
