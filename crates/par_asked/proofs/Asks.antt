-- Rules put behind others.
use Rattle.std.proofs.Common.{◌≡◌, List, [], ◌∷◌, ◌++◌, refl, ap, append_assoc}
use Rattle.std.proofs.lemmas.List.{append-nil}
use Rattle.par_asked.specs.declared.check.Check.{Check}
use Rattle.par_asked.specs.Seen.{seen_check, seen_checks}

pub seen_pushed : (cs : List Check) (c : Check)
    → seen_checks (cs ++ c ∷ []) ≡ seen_checks cs ++ seen_check c ∷ []
unfolding seen_checks
seen_pushed [] c = refl
seen_pushed (x ∷ cs) c = ap (λ ds. seen_check x ∷ ds) (seen_pushed cs c)

pub ruleset asks = (append_assoc, append-nil)

pub seen_none : seen_checks [] ≡ []
unfolding seen_checks
seen_none = refl

pub ruleset starts = (seen_none, append_assoc)
