-- What arguments have to be, as a descriptor is gone through.
use Rattle.std.proofs.lemmas.Grind.{common_steps}
use Rattle.std.proofs.Common.{◌≡◌, ◌==◌, Bool, true, false, cond, arith, List, [], ◌∷◌, ◌++◌, map}
use Rattle.std.proofs.Common.{Option, Some, None, refl, sym, ap, ◌∙◌, append_assoc}
use Rattle.std.specs.Prelude.{IfSome}
use Rattle.par_values.specs.declared.kind.Kind.{Kind}
use Rattle.par_values.specs.Areas.{Name}
use Rattle.par_single.specs.Descriptors.{Text, no_kinds, kind_before}
use Rattle.par_actions.specs.declared.fit.Fit.{Fit}
use Rattle.par_method_area.specs.Fits.{fit_of}

-- by numbers of classes
abbrev pub fitted : List Name → Option (List Kind × Text) → Option (List Fit)
fitted classes None = None
fitted classes (Some found) = Some (map (fit_of classes) found.0)

-- what is known before what follows
abbrev pub joined_fits : List Name → List Fit → Option (List Kind × Text) → Option (List Fit)
joined_fits classes fits None = None
joined_fits classes fits (Some found) = Some (fits ++ map (fit_of classes) found.0)

pub joined-first : (classes : List Name) (o : Option (List Kind × Text))
    → joined_fits classes [] o ≡ fitted classes o
joined-first classes None = refl
joined-first classes (Some found) = refl

pub joined-before : (classes : List Name) (fits : List Fit) (kind : Kind)
    (o : Option (List Kind × Text))
    → joined_fits classes fits (kind_before kind o)
    ≡ joined_fits classes (fits ++ fit_of classes kind ∷ []) o
joined-before classes fits kind None = refl
joined-before classes fits kind (Some found) =
    ap Some (sym (append_assoc fits (fit_of classes kind ∷ []) (map (fit_of classes) found.0)))

-- where none follow they are all
pub joined-last : (classes : List Name) (fits : List Fit) (rest : Text)
    (o : Option (List Kind × Text))
    → joined_fits classes fits (no_kinds rest) ≡ fitted classes o
    → IfSome o (λ found. fits ≡ map (fit_of classes) found.0)
joined-last classes fits rest None same = tt
joined-last classes fits [] (Some found) same = absurd (cc same)
joined-last classes fits (byte ∷ rest) (Some found) same = in_case (byte == 41) same where
  whole : fits ++ [] ≡ fits
  whole = grind (arith, common_steps)

  in_case : (b : Bool) → joined_fits classes fits (cond b (Some ([], rest)) None)
      ≡ Some (map (fit_of classes) found.0) → fits ≡ map (fit_of classes) found.0
  in_case true all =
      let same : fits ++ [] ≡ map (fit_of classes) found.0 = cc all in sym whole ∙ same
  in_case false all = absurd (cc all)
