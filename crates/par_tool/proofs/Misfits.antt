-- The places of lines that do not fit, where there are few lines.
use Rattle.std.proofs.Common.{◌≡◌, ℕ, ◌<◌, ◌^◌, Bool, true, false, cond, List, Some, None, length}
use Rattle.std.proofs.Common.{refl, ap, arith}
use Rattle.std.specs.Prelude.{nat_lt, option_map}
use Rattle.std.proofs.lemmas.Bool.{le-leb, ltb-true}
use Rattle.par_values.specs.declared.inputs.ChannelInput.{ChannelInput}
use Rattle.par_class.specs.declared.file.ClassFile.{ClassFile}
use Rattle.par_link.specs.Inputs.{first_misfit, told_place}

-- a place of 32 bits is told as it is
told_as_it_is : (place : ℕ) → place < 2 ^ 32 → told_place place ≡ place
told_as_it_is place small =
    ap (λ b. cond b place 4294967295) (le-leb place 4294967295 (omega (arith, small)))

told_within : (many place : ℕ) (b : Bool) → nat_lt place many ≡ b → many < 2 ^ 32
    → option_map told_place (cond b (Some place) None) ≡ cond b (Some place) None
told_within many place true e few =
    let less : place < many = ltb-true place many e in
    ap Some (told_as_it_is place (omega (arith, less, few)))
told_within many place false e few = refl

-- of fewer lines than there are numbers of 32 bits, each place is told as it is
pub told_of_few : (files : List ClassFile) (lines : List ChannelInput) → length lines < 2 ^ 32
    → option_map told_place (first_misfit files lines) ≡ first_misfit files lines
told_of_few files lines few = told_within (length lines) _ _ refl few
