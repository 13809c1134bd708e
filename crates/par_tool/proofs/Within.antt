-- An accepted source keeps all limits.
use Rattle.std.proofs.Common.{◌≡◌, ℕ, ◌+◌, ◌≤◌, List, [], ◌∷◌, length, refl, sym, subst, arith}
use Rattle.std.specs.Prelude.{count_by}
use Rattle.std.proofs.lemmas.List.{length-append}
use Rattle.par_tree.specs.Plain.{Class}
use Rattle.par_typed.specs.declared.table.Table.{Table}
use Rattle.par_typed.specs.declared.program.Typed.{Typed}
use Rattle.par_names.specs.Declarations.{builtins, classes, declared_classes}
use Rattle.par_resolved.specs.Resolved.{Resolved, resolved, class_infos, table_of}
use Rattle.par_observer.specs.par_faults.Faults.{all_faults}
use Rattle.par_audit.proofs.par_typed_laws.Unbroken.{first_pass}
use Rattle.par_observer.proofs.par_faults.Within.{IsWithinLimits, limits_kept}
use Rattle.par_observer.specs.Passes.{typed_faults}
use Rattle.par_observer.specs.Judgements.{IsAcceptedAs}
use Rattle.par_tool.specs.Outside.{Text}

many_infos : (r : Resolved) (class next : ℕ) (cs : List Class)
    → length (class_infos r class next cs) ≡ length cs
many_infos r class next [] = refl
many_infos r class next (c ∷ cs) =
    let more = many_infos r (class + 1) (next + count_by (λ f. f.inferred) c.fields) cs in omega
    (arith, more)

module _ (source : Text) (typed : Typed) (is : IsAcceptedAs source typed) where
  pub within_limits : IsWithinLimits is.tree
  within_limits =
      limits_kept is.tree
      (first_pass (all_faults is.tree) (typed_faults is.tree) is.keeps.0.faultless)

  -- the declared classes and the two exceptions that every program has
  pub most_classes : length typed.table.classes ≤ 130
  most_classes =
      let r = resolved is.tree in
      let infos : length (table_of is.tree).classes ≡ length (classes is.tree) =
      many_infos r 0 (length r.policies) (classes is.tree) in
      let all = length-append builtins (declared_classes is.tree) in
      let two : length builtins ≡ 2 = refl in
      subst (λ (t : Table). length t.classes ≤ 130) (sym is.keeps.1.table_is)
      (omega (arith, infos, all, two, within_limits.few_classes))
