-- What an instruction comes to, from the reason against it and its effect.
use Rattle.std.proofs.Common.{◌≡◌, List, ◌∷◌, Option, Some, None, ap, ◌∙◌}
use Rattle.par_instr.specs.Decoding.{Decoded, decoded_at}
use Rattle.par_class.specs.declared.file.ClassFile.{ClassFile}
use Rattle.par_values.specs.Effects.{Effect}
use Rattle.par_method_area.specs.par_step_laws.Methods.{method_code}
use Rattle.par_method_area.specs.par_step_laws.State.{Frame, State}
use Rattle.par_method_area.specs.par_step_laws.Step.{turn, turn_of, turn_at, areas_of, done_by}
use Rattle.par_method_area.specs.par_step_laws.Step.{reason_against, decided}
use Rattle.par_method_area.specs.par_step_laws.Step.{applied}

module _ (files : List ClassFile) (f : Frame) (frames : List Frame) (s : State) where
  -- where the frame stands, an instruction is found or is not
  pub turn_found : (d : Option Decoded) → s.frames ≡ f ∷ frames
      → decoded_at (method_code files f.class f.method).code f.at ≡ d
      → turn files s ≡ turn_at files d f frames s
  unfolding turn
  turn_found d is found = ap (λ fs. turn_of files fs s) is
      ∙ ap (λ d. turn_at files d f frames s) found

  module _ (d : Decoded) where
    -- with no reason against it, its effect is applied
    pub turn_runs : (e : Effect) → reason_against files d f frames (areas_of f s) ≡ None
        → done_by files f.class d.instr (areas_of f s) ≡ e
        → turn_at files (Some d) f frames s ≡ applied files e d.size f frames s
    turn_runs e none does =
        ap (λ r. decided files r d f frames s) none
        ∙ ap (λ e. applied files e d.size f frames s) does
