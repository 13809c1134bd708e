-- The broken rules of one class more are noted.
use Rattle.std.proofs.Common.{◌≡◌, ℕ, ◌+◌, ◌<◌, ◌≤◌, List, length, drop, get_or, Option, sym, ap}
use Rattle.std.proofs.Common.{◌∙◌}
use Rattle.std.specs.Borrow.{Bor}
use Rattle.std.specs.List.{flat_map}
use Rattle.par_tree.specs.declared.decl.ClassDecl.{ClassDecl}
use Rattle.par_tree.specs.Plain.{Class}
use Rattle.par_tree.specs.Shown.{class_of}
use Rattle.par_refusals.specs.declared.refusal.Refusal.{Refusal}
use Rattle.par_refusals.specs.First.{first_of}
use Rattle.par_refusals.proofs.First.{first_of_none, first_of_append}
use Rattle.par_parts.specs.Gathered.{classes_of}
use Rattle.par_resolved.proofs.Loops.{drop_more, none_left}

pub note_class : (f : Class → List Refusal) (xs : List (Bor ClassDecl)) (i : ℕ) (r : Bor ClassDecl)
    (old new whole : Option Refusal)
    → i < length xs → r ≡ get_or xs i r → new ≡ first_of old (f (class_of r.now))
    → first_of old (flat_map f (classes_of (drop i xs))) ≡ whole
    → first_of new (flat_map f (classes_of (drop (i + 1) xs))) ≡ whole
note_class f xs i r old new whole inside is noted so =
    let rest = flat_map f (classes_of (drop (i + 1) xs)) in
    ap (λ o. first_of o rest) noted ∙ sym (first_of_append old (f (class_of r.now)) rest)
    ∙ ap (λ ys. first_of old (flat_map f (classes_of ys))) (sym (drop_more xs i r inside is)) ∙ so

pub noted_classes : (f : Class → List Refusal) (xs : List (Bor ClassDecl)) (i : ℕ)
    (old whole : Option Refusal) → length xs ≤ i
    → first_of old (flat_map f (classes_of (drop i xs))) ≡ whole → old ≡ whole
noted_classes f xs i old whole past so =
    sym (first_of_none old) ∙ ap (λ ys. first_of old (flat_map f (classes_of ys)))
    (sym (none_left xs i past)) ∙ so
