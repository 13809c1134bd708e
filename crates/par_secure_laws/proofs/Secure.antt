-- Accepted programs are secure.
use Rattle.std.proofs.Common.{◌≡◌, ℕ, inl, inr, ⊎_elim, List, [], ◌∷◌, Option, Some}
use Rattle.std.proofs.Common.{None, refl, ap}
use Rattle.std.proofs.Common.{suc, ◌++◌, sym, ◌∙◌, subst, length}
use Rattle.std.specs.Prelude.{IsTrue, Contains, slice_get}
use Rattle.std.specs.List.{AllByRecursion}
use Rattle.par_policy.specs.declared.clauses.Clause.{Clause}
use Rattle.par_policy.specs.Numbers.{has}
use Rattle.par_typed.specs.declared.table.Table.{Table}
use Rattle.par_typed.specs.declared.program.TBody.{TBody}
use Rattle.par_typed.specs.declared.program.Typed.{Typed}
use Rattle.par_typed.specs.Plain.{Body}
use Rattle.par_typed.specs.Shown.{bodies}
use Rattle.par_program_laws.specs.Lattice.{numbers, joined, seen_by}
use Rattle.par_program_laws.specs.Facts.{Facts}
use Rattle.par_program_laws.specs.Rules.{Holds}
use Rattle.par_check_laws.specs.Asked.{Check}
use Rattle.par_check_laws.specs.Checks.{checks}
use Rattle.par_check_laws.specs.Keeps.{Satisfies, locks_in}
use Rattle.par_check_laws.specs.Verdict.{KeepsNumbered, given}
use Rattle.par_check_laws.proofs.Monotone.{joined_more}
use Rattle.par_program_laws.specs.Proper.{IsProper}
use Rattle.par_program_laws.specs.Births.{AreFieldsWritten}
use Rattle.par_program_laws.specs.WellDeclared.{IsWellDeclared}
use Rattle.par_typed_laws.specs.WellTyped.{IsWellTyped}
use Rattle.par_check_laws.specs.Right.{AreAllRight}
use Rattle.par_check_laws.specs.Accepted.{AreAllKept, IsAcceptedBy}
use Rattle.par_secrecy.specs.Runs.{Witnessed}
use Rattle.par_secrecy.specs.Shown.{Observer, sees}
use Rattle.par_secrecy.specs.Secure.{Secure}
use Rattle.par_run_laws.specs.Source.{source}
use Rattle.par_alike.specs.Subject.{subject, policy_or_none}
use Rattle.par_secure_laws.proofs.Runs.{explained}
use Rattle.par_secure_laws.specs.Explained.{IsPair, Here, Later, Explains, IsExplained}
use Rattle.par_secure_laws.proofs.Watching.{within_has, had, watch, explains}
use Rattle.par_secure_laws.proofs.Bodies.{AreFacts, known}
use Rattle.par_secure_laws.proofs.Sounds.{sound}
use Rattle.par_secure_laws.proofs.Begins.{main_there, main_free, main_static, alike}

-- ---- what the facts of a body are

facts_of : (table : Table) (b : Body) (f : Facts numbers) (bs : List Body)
    (fs : List (Facts numbers)) → IsPair b f bs fs → AllByRecursion (IsProper table) bs
    → AreAllRight table bs fs → AreAllKept table bs fs → AreFacts table b f
facts_of table b f _ _ (Here bs fs) proper right kept = record {
  proper = proper.0;
  closed = right.0.closed;
  possible = right.0.possible;
  kept = kept.0;
}
facts_of table b f _ _ (Later c g bs fs pair) proper right kept =
    facts_of table b f bs fs pair proper.1 right.1 kept.1

-- the facts of a body keep its rules
kept_of : (table : Table) (b : Body) (f : Facts numbers) (bs : List Body)
    (fs : List (Facts numbers)) → IsPair b f bs fs → AreAllKept table bs fs → (c : Check)
    → Contains (checks table b) c → KeepsNumbered table f c
kept_of table b f _ _ (Here bs fs) kept = kept.0
kept_of table b f _ _ (Later c g bs fs pair) kept = kept_of table b f bs fs pair kept.1

-- there are as many
as_many : (bs : List TBody) → length (bodies bs) ≡ length bs
as_many [] = refl
as_many (b ∷ bs) = ap suc (as_many bs)

-- ---- from explained differences to Secure

-- who sees a policy of the table sees what has its number
seen_so : (o : Observer) (p : Option (List Clause)) → IsTrue (sees o (policy_or_none p))
    → IsTrue (seen_by p o.actor o.locks)
seen_so o None h = refl
seen_so o (Some p) h = h

-- a value that is released to a policy that the observer sees is seen by it, if it has the locks
released : (table : Table) (bs : List Body) (fs : List (Facts numbers)) (o : Observer)
    (x y : Witnessed) (r : Explains table bs fs o x y) → AreAllKept table bs fs
    → ((l : ℕ) → IsTrue (r.at.locks l) → IsTrue (has o.locks l))
    → IsTrue (joined table.policies (r.facts r.value).value o.actor o.locks)
released table bs fs o x y r kept held =
    let keeps = kept_of table r.body r.facts bs fs r.pair kept r.check r.asked in
    let here = subst
    (λ w. Holds numbers w
    (λ w. Satisfies numbers (joined table.policies) (given table) r.facts w r.check.condition))
    r.spot keeps in
    let told = subst (λ c. Satisfies numbers (joined table.policies) (given table) r.facts r.at c)
    r.condition here in
    joined_more table.policies (r.facts r.value).value o.actor (o.locks ++ locks_in r.at.locks)
    o.locks (had o r.at.locks held)
    (told o.actor o.locks (seen_so o (slice_get table.policies r.policy) r.seen))

-- a release to what the observer sees is of what it sees, if it has the locks
secure_if_explained : (typed : Typed) (fs : List (Facts numbers))
    → AreAllKept typed.table (bodies typed.bodies) fs
    → IsExplained (subject typed) (Explains typed.table (bodies typed.bodies) fs)
    → Secure (subject typed)
secure_if_explained typed fs kept h o small one other fit fit' told m n k a b p q e wa wb =
    ⊎_elim (λ i. i)
    (λ r. absurd
    (r.unseen
    (released typed.table (bodies typed.bodies) fs o a b r kept
    (λ l i. within_has a.locks o.locks wa l (r.one_open l i)))))
    (h o small one other fit fit' told m n k a b p q e)

-- ---- of a program that is accepted

module _ (typed : Typed) (fs : List (Facts numbers))
    (typed_well : IsWellTyped typed.table (bodies typed.bodies))
    (declared_well : IsWellDeclared typed.table) (written : AreFieldsWritten typed.table)
    (accepted : IsAcceptedBy typed fs) where
  -- a first difference is explained
  pub differences_explained : IsExplained (subject typed)
      (Explains typed.table (bodies typed.bodies) fs)
  unfolding source
  differences_explained o small one other fit fit' told m n k a b p q e =
      let bs = bodies typed.bodies in
      let on = watch typed.table bs fs o in
      let right = λ (b : Body) (f : Facts numbers) (pair : IsPair b f bs fs). facts_of typed.table
      b f bs fs pair typed_well.proper accepted.right accepted.kept in
      let many : length fs ≡ length bs = accepted.many ∙ sym (as_many typed.bodies) in
      ⊎_elim (λ i. inl i) (λ r. inr (explains typed.table bs fs o a b r))
      (explained on
      (sound on typed_well.in_range declared_well.names typed_well.built_in declared_well.births
      written) bs (known typed.table bs fs o typed_well.one_each many right)
      (main_there on typed_well.main) (main_free on typed_well.main)
      (main_static on typed_well.main) one.channels other.channels
      (alike typed on refl typed_well.in_range one other told) m n k a b p q e)

  -- so the program is secure
  pub accepted_is_secure : Secure (subject typed)
  accepted_is_secure = secure_if_explained typed fs accepted.kept differences_explained
