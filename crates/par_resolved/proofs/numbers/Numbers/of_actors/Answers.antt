use Rattle.std.proofs.Common.{◌≡◌, ◌≤◌, ◌∙◌, ap, sym, subst, List, length, IfOk, arith}
use Rattle.std.proofs.lemmas.List.{length-map}
use Rattle.std.specs.Prelude.{sum_by}
use Rattle.std.specs.Borrow.{Bor}
use Rattle.par_tree.specs.declared.decl.LockDecl.{LockDecl}
use Rattle.par_tree.specs.declared.ident.Ident.{Ident}
use Rattle.par_tree.specs.Shown.{source}
use Rattle.par_names.specs.Declarations.{actors}
use Rattle.par_resolved.specs.Numbers.{ground_count, numbers_of}
use Rattle.par_resolved.specs.SeenNumbers.{seen}
use Rattle.par_resolved.specs.declared.limits.TheConstants.{MOST_GROUND_LOCKS}
use Rattle.par_parts.specs.Gathered.{all_of}
use Rattle.par_resolved.proofs.numbers.Numbers.of_actors.Goals as goal

-- as many references as actors
counted : (ids : List (Bor Ident)) (names : List Ident) → all_of ids ≡ names
    → length ids ≡ length names
counted ids names are = sym (length-map ids (λ (r : Bor Ident). r.now)) ∙ ap length are

-- the locks that are declared, by the references to them
declared : (refs decls : List (Bor LockDecl)) (ls : List LockDecl) → refs ≡ decls
    → all_of decls ≡ ls → all_of refs ≡ ls
declared refs decls ls same are = ap all_of same ∙ are

pub of_declared-numbers-requires-clause-few_actors :
    goal.of_declared-numbers-requires-clause-few_actors
of_declared-numbers-requires-clause-few_actors c =
    omega (arith, counted c.args.ids.now _ c.requires.actors, c.requires.few.few_actors)

pub of_declared-numbers-requires-clause-few_locks :
    goal.of_declared-numbers-requires-clause-few_locks
of_declared-numbers-requires-clause-few_locks c =
    let n = counted c.args.ids.now _ c.requires.actors in
    let ls = declared c.as_slice.result.now _ _ c.as_slice.ensures.value c.in_ok-decls.ensures in
    subst (λ k. sum_by (ground_count k) (all_of c.as_slice.result.now) ≤ MOST_GROUND_LOCKS) (sym n)
    (subst (λ l. sum_by (ground_count (length (actors (source c.args.program.now)))) l
    ≤ MOST_GROUND_LOCKS) (sym ls) c.requires.few.few_locks)

pub returns : goal.returns
returns c =
    let ls = declared c.as_slice.result.now _ _ c.as_slice.ensures.value c.in_ok-decls.ensures in
    let both = ap (λ ids. numbers_of ids (all_of c.as_slice.result.now)) c.requires.actors
    ∙ ap (numbers_of (actors (source c.args.program.now))) ls in
    subst (λ n. IfOk c.of_declared-numbers.result (λ found. seen found ≡ n)) both
    c.of_declared-numbers.ensures
