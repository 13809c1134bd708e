-- What is asked of arguments, as a descriptor is gone through.
use Rattle.std.proofs.Common.{◌≡◌, List, [], ◌∷◌, ◌++◌, Option, map, ap, ◌∙◌}
use Rattle.std.proofs.lemmas.List.{map-append}
use Rattle.par_values.specs.declared.kind.Kind.{Kind}
use Rattle.par_single.specs.Descriptors.{Text}
use Rattle.par_single.proofs.Following.{joined}
use Rattle.par_frame_steps.specs.declared.act.Asked.{Asked}
use Rattle.par_frame_steps.specs.Marks.{asked_of}

-- one more argument
pub joined-more : (all more : List Asked) (asked : Asked) (kind : Kind)
    (o : Option (List Kind × Text)) → more ≡ all ++ asked ∷ [] → asked_of asked ≡ kind
    → joined (map asked_of more) o ≡ joined (map asked_of all ++ kind ∷ []) o
joined-more all more asked kind o is same =
    ap (λ ks. joined ks o)
    (ap (map asked_of) is ∙ map-append asked_of all (asked ∷ [])
    ∙ ap (λ k. map asked_of all ++ k ∷ []) same)
