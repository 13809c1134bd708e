-- What stands before a body is gone over in three parts.
use Rattle.std.proofs.Common.{◌≡◌, Option, sym, ap, ◌∙◌}
use Rattle.par_tree.specs.Plain.{Method}
use Rattle.par_refusals.specs.declared.refusal.Refusal.{Refusal}
use Rattle.par_refusals.specs.First.{first_of}
use Rattle.par_refusals.proofs.First.{first_of_append}
use Rattle.par_names.specs.Policies.{View}
use Rattle.par_names.specs.Methods.{head_faults}
use Rattle.par_faults.specs.Heads.{signature_faults, mark_faults, thrown_faults}

in_parts : (o : Option Refusal) (v : View) (m : Method)
    → first_of o (head_faults v m)
    ≡ first_of (first_of (first_of o (signature_faults v m)) (mark_faults v m)) (thrown_faults v m)
in_parts o v m = simp first_of_append

-- what each part breaks is noted
pub noted_in_parts : (o p q r : Option Refusal) (v : View) (m : Method)
    → p ≡ first_of o (signature_faults v m) → q ≡ first_of p (mark_faults v m)
    → r ≡ first_of q (thrown_faults v m)
    → r ≡ first_of o (head_faults v m)
noted_in_parts o p q r v m signature marks thrown =
    thrown ∙ ap (λ (x : Option Refusal). first_of x (thrown_faults v m))
    (marks ∙ ap (λ (x : Option Refusal). first_of x (mark_faults v m)) signature)
    ∙ sym (in_parts o v m)
