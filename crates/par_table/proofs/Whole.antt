-- The parts of a table are those of the program.
use Rattle.std.proofs.Common.{◌≡◌, ℕ, List, [], ◌∷◌, map, length, sym, ap, ◌∙◌}
use Rattle.std.specs.Prelude.{unwrap_or}
use Rattle.std.specs.List.{position}
use Rattle.par_policy.specs.declared.clauses.Clause.{Clause}
use Rattle.par_tree.specs.declared.decl.PolicyDecl.{PolicyDecl}
use Rattle.par_tree.specs.Plain.{Source}
use Rattle.par_typed.specs.declared.table.GroundLock.{GroundLock}
use Rattle.par_typed.specs.declared.table.ClassInfo.{ClassInfo}
use Rattle.par_typed.specs.declared.table.Table.{Table}
use Rattle.par_names.specs.Declarations.{actors, policies, classes}
use Rattle.par_resolved.specs.Numbers.{numbers}
use Rattle.par_resolved.specs.Policies.{Known, known, known_behind, with_value, value_of}
use Rattle.par_resolved.specs.Policies.{nothing_known}
use Rattle.par_resolved.specs.Numbered.{numbered}
use Rattle.par_resolved.specs.Resolved.{resolved, ground_locks, class_infos, has_main}
use Rattle.par_resolved.specs.Resolved.{table_of}
use Rattle.par_resolved.proofs.Behind.{behind_none, behind_more}

numbers_behind : (k : Known) (ds : List PolicyDecl) → (known_behind k ds).numbers ≡ k.numbers
numbers_behind k [] = ap (λ k. k.numbers) (behind_none k)
numbers_behind k (d ∷ ds) =
    ap (λ k. k.numbers) (behind_more k d ds)
    ∙ numbers_behind (with_value k (value_of k d.policy)) ds

-- what is read of policies changes no number
pub known_numbers : (s : Source) → (known s).numbers ≡ numbers s
known_numbers s = numbers_behind (nothing_known s) (policies s)

abbrev table : List (List ℕ) → List GroundLock → List (List Clause) → List ClassInfo → ℕ → Table
table a l p c m = record { actors = a; locks = l; policies = p; classes = c; main = m }

pub put_together : (s : Source) (a : List (List ℕ)) (l : List GroundLock) (p : List (List Clause))
    (c : List ClassInfo) (m : ℕ)
    → a ≡ map (λ id. id.name) (actors s) → l ≡ ground_locks (resolved s) s
    → p ≡ map (λ e. e.policy) (numbered (known s) s)
    → c ≡ class_infos (resolved s) 0 (length (resolved s).policies) (classes s)
    → m ≡ unwrap_or (position has_main (classes s)) 0
    → table a l p c m ≡ table_of s
put_together s a l p c m of_actors of_locks of_policies of_classes of_main =
    let named = of_actors ∙ sym (ap (λ n. n.actors) (known_numbers s)) in
    let all = map (λ e. e.policy) (numbered (known s) s) in
    let infos = class_infos (resolved s) 0 (length (resolved s).policies) (classes s) in
    ap (λ x. table x l p c m) named ∙ ap (λ x. table (known s).numbers.actors x p c m) of_locks
    ∙ ap (λ x. table (known s).numbers.actors (ground_locks (resolved s) s) x c m) of_policies
    ∙ ap (λ x. table (known s).numbers.actors (ground_locks (resolved s) s) all x m) of_classes
    ∙ ap (λ x. table (known s).numbers.actors (ground_locks (resolved s) s) all infos x) of_main
