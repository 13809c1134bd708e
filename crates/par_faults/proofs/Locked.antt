-- The limit on locks, lock by lock.
use Rattle.std.proofs.Common.{◌≡◌, ℕ, ◌+◌, ◌<◌, List, [], ◌∷◌, ◌++◌, Bool, false, not, ◌&&◌, refl}
use Rattle.std.proofs.Common.{ap, ◌∙◌, arith}
use Rattle.std.specs.Prelude.{nat_le}
use Rattle.std.proofs.lemmas.Bool.Decides.{nat_tests}
use Rattle.par_refusals.specs.declared.refusal.Refusal.{Refusal}
use Rattle.par_refusals.specs.First.{when, exceeded}
use Rattle.par_tree.specs.declared.decl.LockDecl.{LockDecl}
use Rattle.par_limits.specs.par_resolved.Numbers.{ground_count}
use Rattle.par_faults.specs.Limits.{tellable, lock_limit, locks_limit}
use Rattle.par_faults.specs.declared.limit.TheConstants.{LOCKS}

pub locks_end : (actors sum : ℕ) → locks_limit actors sum [] ≡ []
unfolding locks_limit
locks_end actors sum = refl

pub locks_more : (actors sum : ℕ) (lock : LockDecl) (locks : List LockDecl)
    → locks_limit actors sum (lock ∷ locks)
    ≡ lock_limit actors sum lock ++ locks_limit actors (sum + ground_count actors lock) locks
unfolding locks_limit
locks_more actors sum lock locks = refl

fails_le : (m n : ℕ) → n < m → nat_le m n ≡ false
fails_le m n lt = grind (arith, nat_tests)

pub ruleset locked = (locks_end, locks_more)

nothing : (sum : ℕ) (b : Bool) (f : Refusal) → LOCKS.most < sum
    → when (nat_le sum LOCKS.most && b) f ≡ []
unfolding when
nothing sum b f lt = rw (fails_le sum LOCKS.most lt) refl

-- none behind the one with which the sum exceeds
pub past : (actors sum : ℕ) (locks : List LockDecl) → LOCKS.most < sum
    → locks_limit actors sum locks ≡ []
unfolding locks_limit
past actors sum [] lt = refl
past actors sum (lock ∷ locks) lt =
    let rest = past actors (sum + ground_count actors lock) locks (omega arith) in
    let none =
    nothing sum (not (nat_le (sum + ground_count actors lock) LOCKS.most))
    (exceeded LOCKS.number (tellable (sum + ground_count actors lock)) lock.id.at) lt in
    ap (λ fs. fs ++ locks_limit actors (sum + ground_count actors lock) locks) none ∙ rest

-- what is told as too much is too much
pub too_much : (told sum : ℕ) → told ≡ tellable sum → LOCKS.most < told → LOCKS.most < sum
too_much told sum e lt = omega arith
