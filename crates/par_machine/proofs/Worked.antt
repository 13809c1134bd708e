-- What an instruction that works on the frame that runs has done, where it goes on by itself.
use Rattle.std.proofs.Common.{◌≡◌, true, false, List, IsTrue, ap, ◌∙◌}
use Rattle.par_class.specs.declared.file.ClassFile.{ClassFile}
use Rattle.par_instr.specs.declared.instr.Instr.{Instr}
use Rattle.par_stack.specs.Frames as stack
use Rattle.par_values.specs.Areas.{Name, Areas}
use Rattle.par_values.specs.Operations.{operation}
use Rattle.par_values.specs.Reasons.{Spot}
use Rattle.par_method_area.specs.par_step_laws.Classes.{class_names}
use Rattle.par_method_area.specs.par_step_laws.Links.{link_at}
use Rattle.par_method_area.specs.par_actions.declared.done.Done.{Done}
use Rattle.par_method_area.specs.par_actions.Done.{IsAt, Comes, Keeps, is_still}
use Rattle.par_method_area.specs.Area.{Area}
use Rattle.par_machine.specs.Instructions.{is_branch, is_work}
use Rattle.par_machine.specs.Quiet.{is_loud}
use Rattle.par_machine.specs.Running.{here, IsSound}
use Rattle.par_machine.specs.Site.{areas_at, spot_of, IsThere, IsPerformed}
use Rattle.par_machine.specs.declared.run.Running.{Running}
use Rattle.par_machine.specs.declared.site.Site.{Site}
use Rattle.par_machine.proofs.Coming.{is_at}
use Rattle.par_machine.proofs.Owned.{work_own, work_unbranched}
use Rattle.par_machine.proofs.Performed.{performs}
use Rattle.par_machine.proofs.QuietSteps.{work_quiet}

pub worked : (area : Area) (old : Running) (s : Site) (d : Done) (frames : List stack.Frame)
    (i : Instr)
    → IsSound area old → IsThere area.files old s true → s.instr ≡ i → is_work i ≡ true
    → ((classes : List Name) (spot : Spot) (program : Areas) → IsAt spot true old.stack
    → Comes d classes spot (operation (link_at area.files (here old).class) i) program old.stack
    frames)
    → Keeps old.stack frames → (IsTrue (is_still d) → frames ≡ old.stack)
    → IsPerformed area old s d (record old { stack = frames }) × (is_loud s.instr ≡ false)
worked area old s d frames i sound there is work does kept still =
    let files : List ClassFile = area.files in
    let own = work_own (link_at files (here old).class) i work in
    let at = is_at files old s true there (ap is_branch is ∙ work_unbranched i work) in (
      performs area old s true d frames i (operation (link_at files (here old).class) i) sound there
          is own.unput own.uncalled (ap (operation (link_at files (here old).class)) is)
          own.unwritten
          (does (class_names files) (spot_of files old s) (areas_at files old) at) kept still,
      ap is_loud is ∙ work_quiet i work,
    )
