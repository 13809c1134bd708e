-- A name stands at one place among names of which no two are equal.
use Rattle.std.proofs.Common.{◌≡◌, ℕ, zero, suc, false, List, [], ◌∷◌, Some, refl, sym, ap, ◌∙◌}
use Rattle.std.specs.Prelude.{slice_get}
use Rattle.std.specs.List.{AllByRecursion, IsDistinct}
use Rattle.std.specs.Str.{bytes_eq}
use Rattle.std.proofs.lemmas.Slice.Eq.{bytes_eq-Decides}
use Rattle.par_program_laws.specs.TableLaws.{NamesStandOnce}

-- a name does not stand among others that differ from it
not_among : (name : List ℕ) (names : List (List ℕ)) (i : ℕ)
    → AllByRecursion (λ other. bytes_eq name other ≡ false) names
    → slice_get names i ≡ Some name → ⊥
not_among name [] i h e = absurd (cc e)
not_among name (other ∷ names) zero h e =
    let same : name ≡ other = cc e in
    absurd (cc (sym ((bytes_eq-Decides name other).1 same) ∙ h.0))
not_among name (other ∷ names) (suc i) h e = not_among name names i h.1 e

pub names_stand_once : NamesStandOnce
unfolding IsDistinct
names_stand_once [] i j name h first second = absurd (cc first)
names_stand_once (x ∷ names) zero zero name h first second = refl
names_stand_once (x ∷ names) zero (suc j) name h first second =
    let same : x ≡ name = cc first in
    absurd (not_among x names j h.0 (second ∙ ap Some (sym same)))
names_stand_once (x ∷ names) (suc i) zero name h first second =
    let same : x ≡ name = cc second in
    absurd (not_among x names i h.0 (first ∙ ap Some (sym same)))
names_stand_once (x ∷ names) (suc i) (suc j) name h first second =
    ap suc (names_stand_once names i j name h.1 first second)
