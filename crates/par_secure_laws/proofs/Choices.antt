-- Tests of locks, and handlers, in two runs.
use Rattle.std.proofs.Common.{◌≡◌, ℕ, zero, Bool, true, false, ◌&&◌, ⊎_elim, Option, Some, None}
use Rattle.std.proofs.Common.{[], ◌∷◌, refl, subst, if◌then◌else◌}
use Rattle.std.specs.Prelude.{slice_get}
use Rattle.std.proofs.lemmas.Bool.{cases_Bool}
use Rattle.par_policy.specs.Numbers.{has}
use Rattle.par_program_laws.specs.Kinds as kind
use Rattle.par_program_laws.specs.Kinds.{Kind}
use Rattle.par_program_laws.specs.Ways.{MayLand}
use Rattle.par_program_laws.specs.Facts.{Facts}
use Rattle.par_program_laws.specs.Declares.{declares, lock_of, lock_policy}
use Rattle.par_typed.specs.declared.table.GroundLock.{GroundLock}
use Rattle.par_program_laws.specs.Kinds.{Next, Loop, Catches, Absorber}
use Rattle.par_program_laws.specs.Rules.{can}
use Rattle.par_program_laws.specs.Body.{exp, if_not, args, sta, past}
use Rattle.par_program_laws.specs.Body as body
use Rattle.par_typed.specs.Plain.{TSta, TCatches, point}
use Rattle.par_alike.specs.par_check_laws.Checks as checks
use Rattle.par_run_laws.specs.Meaning.{Calls, go_catch}
use Rattle.par_program_laws.specs.BodyNames.{CatchesName}
use Rattle.par_secure_laws.proofs.Needs.{CatchesReady}
use Rattle.par_program_laws.specs.Makes.{CatchesMake}
use Rattle.par_values.specs.declared.value.MVal.{MVal}
use Rattle.par_run_laws.specs.Tasks.{Exit, Broken, Continued, Returned, Thrown, Task, asked, caught}
use Rattle.par_alike.specs.par_check_laws.Checks.{lock_written}
use Rattle.par_pass_laws.proofs.Along.{and_r}
use Rattle.par_alike.proofs.States.{Watch, Any, Exits, Frame, Gives, Other, Restores, Sees}
use Rattle.par_alike.proofs.States.{Unseen, Way, broken, continued, declared, each_exit}
use Rattle.par_alike.proofs.States.{exits}
use Rattle.par_alike.proofs.States.{lands_is, lands_raised, lattice, raised, returned}
use Rattle.par_alike.proofs.States.{thrown}
use Rattle.par_alike.proofs.TwoRuns.{Step, over_raised, step_apart, step_body, step_other}
use Rattle.par_alike.proofs.OneRun.{Tail, tail_normal, tail_other}
use Rattle.par_alike.proofs.Locks.{opening, step_when}
use Rattle.par_alike.proofs.Leaves.{Sound}
use Rattle.par_alike.proofs.Calls.{Silent}
use Rattle.par_secure_laws.proofs.StaPoints.{Stretch}
use Rattle.par_secure_laws.proofs.Points.{AllKept, Has}
use Rattle.par_secure_laws.proofs.QuietStas.{tail_catch}

module _ (on : Watch) where
  module _ (a : Facts (lattice on)) where
    -- one choice in both runs
    pub step_if_is : {g : Frame} {w : Way on} {x : Exits on} {R : MVal → MVal → Type 0}
        {b c b' c' : Task} (v : Bool) → (v ≡ true → Step on g w x R b b')
        → (v ≡ false → Step on g w x R c c')
        → Step on g w x R (if v then b else c) (if v then b' else c')
    step_if_is true p q = p refl
    step_if_is false p q = q refl

    -- a lock that is asked for has its policy
    lock_number : (l p : ℕ) → lock_written (slice_get on.table.locks l) ≡ Some p
        → (declared on).lock l ≡ p
    unfolding declares
    lock_number l p e = go (slice_get on.table.locks l) e
      where
        number : (x : Option ℕ) → x ≡ Some p → lock_policy x ≡ p
        number None e = absurd cc
        number (Some n) e = cc

        go : (x : Option GroundLock) → lock_written x ≡ Some p → lock_of x ≡ p
        go None e = absurd cc
        go (Some x) e = number x.policy e

    -- a lock is asked for
    pub step_query : {g : Frame} {z w : Way on} {x : Exits on} {b c b' c' : Task} (l p : ℕ)
        → lock_written (slice_get on.table.locks l) ≡ Some p → Restores on w x
        → Tail on g (raised on z ((lattice on).given ((declared on).lock l))) x
        (asked (λ s. has s.locks l) b c)
        → Tail on g (raised on z ((lattice on).given ((declared on).lock l))) x
        (asked (λ s. has s.locks l) b' c')
        → Step on g (opening on l (raised on z ((lattice on).given ((declared on).lock l)))) x Any
        b b' → Step on g (raised on z ((lattice on).given ((declared on).lock l))) x Any c c'
        → Step on g z x Any (asked (λ s. has s.locks l) b c) (asked (λ s. has s.locks l) b' c')
    step_query {g} {z} {w} l p e rs tl tr i j =
        ⊎_elim (λ s. step_body on (lands_raised on ((lattice on).given ((declared on).lock l)))
        (step_when on l p e (subst (Sees on) (lock_number l p e) s) i j))
        (λ s.
        let un : Unseen (z.context && (lattice on).given ((declared on).lock l)) = λ b. let c =
        and_r z.context ((lattice on).given ((declared on).lock l)) b in
        cc in step_apart on rs (λ b c. tt)
        (over_raised on ((lattice on).given ((declared on).lock l)) un tl)
        (over_raised on ((lattice on).given ((declared on).lock l)) un tr))
        (cases_Bool ((lattice on).given ((declared on).lock l)))

    -- what follows a block with catches, in one run
    pub tail_handled : (sound : Sound on) (run : Calls) (silent : Silent on run) (m : ℕ) {p : ℕ}
        {from : Option (Way on)} (cs : TCatches) (s : TSta) (g : Frame)
        → Stretch on a p s (Catches (body.caught cs)) from
        → MayLand (lattice on) ((a (point s)).exit kind.Normal) ((a p).exit kind.Normal)
        → Has on a p None (a (point s) ∷ [])
        (body.catches (declared on) (sta (declared on) s) cs zero)
        → ((c : ℕ) → can (sta (declared on) s) (kind.Throw c) ≡ false
        → (a (point s)).exit (kind.Throw c) ≡ None)
        → AllKept on a (checks.catches_checks on.table g.own cs) × CatchesName on.table cs
        × CatchesMake on.table g.own.is_static cs × CatchesReady on.table g.own.is_static cs
        → (j : Exit) (v : Way on) (u : MVal) → exits on a (point s) j ≡ Some v → Gives on j u
        → Tail on g v (exits on a p) (λ f. caught (go_catch on.table run m cs) f j u)
    tail_handled sound run silent m {p} cs s g t l h sharp k =
        each_exit
        (λ j. (v : Way on) (u : MVal) → exits on a (point s) j ≡ Some v → Gives on j u
        → Tail on g v (exits on a p) (λ f. caught (go_catch on.table run m cs) f j u))
        (λ v u e j. tail_normal on u j (lands_is on v _ _ e l))
        (λ v u e j. tail_other on Broken u broken (t.leaves Broken v refl e))
        (λ v u e j. tail_other on Continued u continued (t.leaves Continued v refl e))
        (λ v u e j. tail_other on Returned u returned (t.leaves Returned v refl e))
        (λ c v u e j. tail_catch on a sound run silent m cs s c g v zero refl e (sharp c)
        (λ z. t.leaves (Thrown c) v z e) h k)

    -- and in two
    pub step_handled : (run run' : Calls) (m m' : ℕ) {p : ℕ} {from : Option (Way on)} {g : Frame}
        (cs : TCatches) (s : TSta) → Stretch on a p s (Catches (body.caught cs)) from
        → ((c : ℕ) (z : Way on) → exits on a (point s) (Thrown c) ≡ Some z
        → Step on g z (exits on a p) Any (go_catch on.table run m cs c)
        (go_catch on.table run' m' cs c)) → (j : Exit) (z : Way on) (u v : MVal) → Other j
        → exits on a (point s) j ≡ Some z
        → Step on g z (exits on a p) Any (λ f. caught (go_catch on.table run m cs) f j u)
        (λ f. caught (go_catch on.table run' m' cs) f j v)
    step_handled run run' m m' cs s t h _ z u v broken e =
        step_other on Broken u v broken (t.leaves Broken z refl e)
    step_handled run run' m m' cs s t h _ z u v continued e =
        step_other on Continued u v continued (t.leaves Continued z refl e)
    step_handled run run' m m' cs s t h _ z u v returned e =
        step_other on Returned u v returned (t.leaves Returned z refl e)
    step_handled run run' m m' cs s t h _ z u v (thrown c) e = h c z e
