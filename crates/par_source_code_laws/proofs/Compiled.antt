-- The code of a well-typed program is what a run asks of it as a whole.
use Rattle.std.proofs.Common.{◌∙◌}
use Rattle.par_source_code_laws.specs.Compiled.{WellTypedProgramsAreCompiled}
use Rattle.par_source_code_laws.proofs.Main.{main_is_kept}
use Rattle.par_source_code_laws.proofs.Whole.{well_typed_bodies_are_coded}

pub well_typed_programs_are_compiled : WellTypedProgramsAreCompiled
well_typed_programs_are_compiled t bodies order main proper env labelled w lay lays inits out =
    let begin = main_is_kept t bodies main in
    record {
      lays = lays;
      inits = inits;
      methods = λ c i me has.
          well_typed_bodies_are_coded t bodies order proper labelled w lay c i me
          (out.methods c i me has) (out.code c i me has) (out.named c i me has);
      others = out.others;
      main = (begin.0, out.main ∙ begin.1, begin.2, begin.3);
    }
