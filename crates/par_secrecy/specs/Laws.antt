-- For each observer, inputs that it cannot tell apart are as good as equal; and for the files of a
-- program, inputs are as good as those of them that fit.
use Rattle.std.specs.Prelude.{◌≡◌, true}
use Rattle.par_values.specs.declared.inputs.Inputs.{Inputs}
use Rattle.par_secrecy.specs.Subject.{Name, Subject, given}
use Rattle.par_secrecy.specs.Shown.{Observer, Alike}
use Rattle.par_secrecy.specs.Target.{Target, fitting}

abbrev pub AlikeIsReflexive : Type 0
AlikeIsReflexive = (s : Subject) (o : Observer) (a : Inputs) → Alike s o a a

abbrev pub AlikeIsSymmetric : Type 0
AlikeIsSymmetric = (s : Subject) (o : Observer) (a b : Inputs) → Alike s o a b → Alike s o b a

abbrev pub AlikeIsTransitive : Type 0
AlikeIsTransitive =
    (s : Subject) (o : Observer) (a b c : Inputs) → Alike s o a b → Alike s o b c → Alike s o a c

-- what the lines give to a channel that the files have is what those of them give that fit
abbrev pub FittingGivesTheSame : Type 0
FittingGivesTheSame =
    (target : Target) (inputs : Inputs) (class name : Name) → target.has_input class name ≡ true
    → given (fitting target inputs).channels class name ≡ given inputs.channels class name
