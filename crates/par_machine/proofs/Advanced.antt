-- What a run comes to with one instruction, from what it has done and what it goes on to.
use Rattle.std.proofs.Common.{◌≡◌, ℕ, suc, ◌≤◌, Bool, true, false, List, length, Result, IsTrue}
use Rattle.std.proofs.Common.{refl, ap, ◌∙◌, inl, arith}
use Rattle.std.proofs.lemmas.Bool.{false≢true}
use Rattle.par_class.specs.declared.file.ClassFile.{ClassFile}
use Rattle.par_heap.specs.Heap.{objects_of}
use Rattle.par_method_area.specs.par_actions.declared.done.Done.{Done}
use Rattle.par_method_area.specs.par_actions.declared.done.Done.TheVariants as done
use Rattle.par_method_area.specs.par_actions.Done.{is_still}
use Rattle.par_method_area.specs.Area.{Area}
use Rattle.par_machine.specs.Advanced.{IsAdvanced}
use Rattle.par_machine.specs.Running.{state_in}
use Rattle.par_machine.specs.Settled.{turn_from, IsSettled}
use Rattle.par_machine.specs.Site.{CameTo, IsPerformed}
use Rattle.par_machine.specs.Turn.{calls_or_makes}
use Rattle.par_machine.specs.declared.run.Running.{Running}
use Rattle.par_machine.specs.declared.site.Site.{Site}
use Rattle.par_machine.specs.declared.turn.Turn.{Turn}
use Rattle.par_machine.specs.declared.turn.Stuck.{Stuck}

-- where nothing is changed the state is the same
pub still_state : (files : List ClassFile) (before : Running) (s : Site) (d : Done) (old : Running)
    → CameTo files before s d old → IsTrue (is_still d)
    → state_in files old ≡ state_in files before
still_state files before s done.ThrowsArithmetic old come still = come.still still
still_state files before s (done.ThrowsNull later) old come still = come.still still
still_state files before s (done.Throws v later) old come still = come.still still
still_state files before s done.Returns old come still = come.still still
still_state files before s (done.ReturnsWith v) old come still = come.still still
still_state files before s (done.Bad n) old come still = come.still still
still_state files before s done.Goes old come still = come.still still
still_state files before s done.Jumps old come still = come.still still
still_state files before s (done.Sets v) old come still = come.still still
still_state files before s (done.Puts n v) old come still = come.still still
still_state files before s (done.Born n) old come still = come.still still
still_state files before s (done.Outs n) old come still = come.still still
still_state files before s done.Calls old come still = absurd (false≢true still)

module _ (area : Area) (before : Running) (s : Site) (d : Done) (old new : Running)
    (result : Result Turn Stuck) (done_is : IsPerformed area before s d old)
    (settled : IsSettled area s d old result new) where
  grown_by : (b : Bool) → is_still d ≡ b → (class : ℕ)
      → length (objects_of new.heap class) ≤ suc (length (objects_of before.heap class))
  grown_by true still class =
      let one = settled.grown class in
      let same = ap (λ h. length (objects_of h class)) (done_is.still still) in
      omega (arith, one, same)
  grown_by false moved class =
      let one = done_is.grown class in
      let same = ap (λ h. length (objects_of h class)) (settled.unmade moved) in
      omega (arith, one, same)

  pub advanced :
      IsAdvanced area (calls_or_makes s.instr) (turn_from area.files before s) before result new
  advanced = record {
    is = settled.is before done_is.came;
    memory = λ is. inl (settled.memory before done_is.came is);
    over = λ is.
        let both = settled.over is in
        ap (λ r. state_in area.files r) both.0
        ∙ still_state area.files before s d old done_is.came both.1;
    sound = settled.sound;
    grown = grown_by (is_still d) refl;
  }
