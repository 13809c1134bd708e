-- Linked class files are few.
use Rattle.std.proofs.Common.{◌≡◌, ◌≤◌, Bool, true, false, List, length, None, refl, sym, ◌∙◌}
use Rattle.std.proofs.lemmas.Bool.{ltb-false}
use Rattle.par_single.specs.par_class.declared.file.ClassFile.{ClassFile}
use Rattle.par_link.specs.Order.{first_broken}
use Rattle.par_link.specs.Rules.{are_too_many}
use Rattle.par_link.proofs.Ordering.{broken-many}

-- a list that breaks no rule is not too long
pub few : (files : List ClassFile) → first_broken files ≡ None → length files ≤ 128
few files unbroken = in_case (are_too_many files) refl where
  in_case : (b : Bool) → are_too_many files ≡ b → length files ≤ 128
  in_case true many = absurd (cc (sym unbroken ∙ broken-many files many))
  in_case false short = ltb-false 128 (length files) short
