-- A part of a form with what comes next, and null tests.
use Rattle.std.proofs.Common.{◌≡◌, ℕ, Bool, true, false, ◌&&◌, ⊎_elim, Option, Some, refl, subst}
use Rattle.std.specs.Prelude.{IsTrue}
use Rattle.std.proofs.lemmas.Bool.{cases_Bool}
use Rattle.par_program_laws.specs.Ways.{Lands}
use Rattle.par_values.specs.declared.value.MVal.{MVal}
use Rattle.par_values.specs.declared.value.MVal.TheVariants as value
use Rattle.par_values.specs.Areas.{next, left}
use Rattle.par_run_laws.specs.State.{State}
use Rattle.par_run_laws.specs.Tasks.{Exit, Normal, Broken, Continued, Returned, Thrown}
use Rattle.par_run_laws.specs.Tasks.{Rests}
use Rattle.par_run_laws.specs.Tasks.{Task}
use Rattle.par_run_laws.specs.Tasks.{nothing, done, follow, and_then, tested}
use Rattle.par_run_laws.specs.Tasks.{NULL_POINTER}
use Rattle.par_check_laws.proofs.par_pass_laws.Along.{and_r}
use Rattle.par_alike.proofs.States.{Watch, Agrees, Any, Exits, FlowsTo, Frame, Gives, IsMade}
use Rattle.par_alike.proofs.States.{Leaves, Like, Merges, Other, Restores, Unseen, Values}
use Rattle.par_alike.proofs.States.{Way}
use Rattle.par_alike.proofs.States.{broken, continued, each_exit, exit_cases, lands_raised}
use Rattle.par_alike.proofs.States.{lattice, raised, returned, thrown}
use Rattle.par_alike.proofs.OneRun.{Tail, tail_other}
use Rattle.par_alike.proofs.TwoRuns.{Both, Over, Step, apart, apart_left, apart_right}
use Rattle.par_alike.proofs.TwoRuns.{over_normal, over_other, over_raised, over_tail}
use Rattle.par_alike.proofs.TwoRuns.{step_apart, step_body, step_normal, step_other}
use Rattle.par_alike.proofs.TwoRuns.{step_through}

module _ (on : Watch) where
  -- ---- parts
  -- what comes behind an unseen part
  over_next : {g : Frame} {y x : Exits on} (l : Leaves on y x) (next : MVal → Task)
      → ((u : MVal) (n : Way on) → IsMade on u → y Normal ≡ Some n → Tail on g n x (next u))
      → (i : Exit) (v : Way on) (u : MVal) → y i ≡ Some v → Gives on i u → Unseen v.context
      → Over on g v x (λ f. follow next f i u)
  over_next {g} {y} {x} l next tl =
      each_exit
      (λ i. (v : Way on) (u : MVal) → y i ≡ Some v → Gives on i u → Unseen v.context
      → Over on g v x (λ f. follow next f i u)) (λ v u e j un. over_tail on un (tl u v j e))
      (λ v u e j un. over_other on Broken u broken un (l Broken v broken e))
      (λ v u e j un. over_other on Continued u continued un (l Continued v continued e))
      (λ v u e j un. over_other on Returned u returned un (l Returned v returned e))
      (λ i v u e j un. over_other on (Thrown i) u (thrown i) un (l (Thrown i) v (thrown i) e))

  -- a part, and what comes next
  pub step_part : {g : Frame} {z r : Way on} {y x : Exits on} {i : Option (Way on)}
      {S R : MVal → MVal → Type 0} {c c' : Task} (q : FlowsTo on z i) → Leaves on y x
      → (next next' : MVal → Task) → Restores on r x → Step on g q.way y S c c'
      → ((u v : MVal) (n : Way on) → IsMade on u → IsMade on v → y Normal ≡ Some n → S u v
      → Step on g n x R (next u) (next' v))
      → ((u : MVal) (n : Way on) → IsMade on u → y Normal ≡ Some n → Tail on g n x (next u))
      → ((v : MVal) (n : Way on) → IsMade on v → y Normal ≡ Some n → Tail on g n x (next' v))
      → Step on g z x R (and_then c next) (and_then c' next')
  step_part {g} {z} {r} {y} {x} {i} {S} {R} {c} {c'} q l next next' rs ih k left right =
      step_body on q.higher.lands
      (step_through on {g = g} {w = q.way} {x = x} {y = y} {R = S} {S = R} {c = c} {c' = c'}
      (follow next) (follow next') ih (λ z u v e iu iv a. k u v z iu iv e a) both
      (λ i i' z z' u v a gu gv e e' un un' f f' b s t m n lk. ⊎_elim
      (λ j. gone_left i i' z z' u v j gv e e' un un' f f' b s t m n lk)
      (λ j. gone_right i i' z z' u v j gu e e' un un' f f' b s t m n lk) a))
    where
      both : (i : Exit) (z : Way on) (u v : MVal) → Other i → y i ≡ Some z
          → Step on g z x R (λ f. follow next f i u) (λ f. follow next' f i v)
      both _ z u v broken e = step_other on Broken u v broken (l Broken z broken e)
      both _ z u v continued e = step_other on Continued u v continued (l Continued z continued e)
      both _ z u v returned e = step_other on Returned u v returned (l Returned z returned e)
      both _ z u v (thrown i) e =
          step_other on (Thrown i) u v (thrown i) (l (Thrown i) z (thrown i) e)

      gone_left : (i i' : Exit) (z z' : Way on) (u v : MVal) → Other i → Gives on i' v
          → y i ≡ Some z → y i' ≡ Some z' → Unseen z.context → Unseen z'.context → (f f' : Rests)
          → Both on g x R f f' → (s t : State) (m n : ℕ) → Like on g z z' s t
          → Agrees on (follow next f i u s m).events (follow next' f' i' v t n).events
      gone_left _ i' z z' u v broken gv e e' un un' f f' b s t m n lk =
          apart_left on r z z' Broken u s t f f' m n rs broken un (l Broken z broken e) lk b
          (over_next l next' right i' z' v e' gv un')
      gone_left _ i' z z' u v continued gv e e' un un' f f' b s t m n lk =
          apart_left on r z z' Continued u s t f f' m n rs continued un
          (l Continued z continued e) lk b (over_next l next' right i' z' v e' gv un')
      gone_left _ i' z z' u v returned gv e e' un un' f f' b s t m n lk =
          apart_left on r z z' Returned u s t f f' m n rs returned un (l Returned z returned e) lk
          b (over_next l next' right i' z' v e' gv un')
      gone_left _ i' z z' u v (thrown a) gv e e' un un' f f' b s t m n lk =
          apart_left on r z z' (Thrown a) u s t f f' m n rs (thrown a) un
          (l (Thrown a) z (thrown a) e) lk b (over_next l next' right i' z' v e' gv un')

      gone_right : (i i' : Exit) (z z' : Way on) (u v : MVal) → Other i' → Gives on i u
          → y i ≡ Some z → y i' ≡ Some z' → Unseen z.context → Unseen z'.context → (f f' : Rests)
          → Both on g x R f f' → (s t : State) (m n : ℕ) → Like on g z z' s t
          → Agrees on (follow next f i u s m).events (follow next' f' i' v t n).events
      gone_right i _ z z' u v broken gu e e' un un' f f' b s t m n lk =
          apart_right on r z z' Broken v s t f f' m n rs broken un' (l Broken z' broken e') lk b
          (over_next l next left i z u e gu un)
      gone_right i _ z z' u v continued gu e e' un un' f f' b s t m n lk =
          apart_right on r z z' Continued v s t f f' m n rs continued un'
          (l Continued z' continued e') lk b (over_next l next left i z u e gu un)
      gone_right i _ z z' u v returned gu e e' un un' f f' b s t m n lk =
          apart_right on r z z' Returned v s t f f' m n rs returned un'
          (l Returned z' returned e') lk b (over_next l next left i z u e gu un)
      gone_right i _ z z' u v (thrown a) gu e e' un un' f f' b s t m n lk =
          apart_right on r z z' (Thrown a) v s t f f' m n rs (thrown a) un'
          (l (Thrown a) z' (thrown a) e') lk b (over_next l next left i z u e gu un)

  -- a statement's part, by its exits
  pub step_exits : {g : Frame} {w r : Way on} {x y : Exits on} {c c' : Task}
      (T T' : Rests → Rests) → Restores on r x → Step on g w y Any c c'
      → ((z : Way on) (u v : MVal) → IsMade on u → IsMade on v → y Normal ≡ Some z
      → Step on g z x Any (λ f. T f Normal u) (λ f. T' f Normal v))
      → ((k : Exit) (z : Way on) (u v : MVal) → Other k → y k ≡ Some z
      → Step on g z x Any (λ f. T f k u) (λ f. T' f k v))
      → ((k : Exit) (z : Way on) (u : MVal) → Gives on k u → y k ≡ Some z → Unseen z.context
      → Over on g z x (λ f. T f k u))
      → ((k : Exit) (z : Way on) (u : MVal) → Gives on k u → y k ≡ Some z → Unseen z.context
      → Over on g z x (λ f. T' f k u)) → Step on g w x Any (λ f. c (T f)) (λ f. c' (T' f))
  step_exits {g} {w} {r} {x} {y} {c} {c'} T T' rs q h o left right =
      step_through on {g = g} {w = w} {x = x} {y = y} {R = Any} {S = Any} {c = c} {c' = c'} T T' q
      (λ z u v e iu iv a. h z u v iu iv e) o
      (λ k k' z z' u v a gu gv e e' un un' f f' b s t m n l. apart on r z z' s t f f' m n rs
      (λ u v. tt) l b (left k z u gu e un) (right k' z' v gv e' un'))

  -- a part that is the last of the form
  pub step_branch : {g : Frame} {z r : Way on} {y x : Exits on} {i : Option (Way on)}
      {c c' : Task} (q : FlowsTo on z i) → Merges on y x → Restores on r x
      → Step on g q.way y Any c c' → Step on g z x Any c c'
  step_branch {g} {z} {r} {y} {x} {i} {c} {c'} q l rs k =
      step_body on q.higher.lands
      (step_exits {g = g} {w = q.way} {r = r} {x = x} {y = y} {c = c} {c' = c'} (λ f. f) (λ f. f)
      rs k (λ z u v iu iv e. step_normal on u v iu iv (l.normal z e) tt)
      (λ k z u v j e. step_other on k u v j (l.leaves k z j e)) over_branch over_branch)
    where
      over_branch : (k : Exit) (z : Way on) (u : MVal) → Gives on k u → y k ≡ Some z
          → Unseen z.context → Over on g z x (done k u)
      over_branch =
          exit_cases
          (λ k. (z : Way on) (u : MVal) → Gives on k u → y k ≡ Some z → Unseen z.context
          → Over on g z x (done k u)) (λ z u i e un. over_normal on u i (l.normal z e))
          (λ k j z u i e un. over_other on k u j un (l.leaves k z j e))

  -- null tests
  pub tail_tested : {g : Frame} {z : Way on} {x : Exits on} {c : Task} (sure : Bool) (r : MVal)
      → (sure ≡ false → FlowsTo on z (x (Thrown NULL_POINTER))) → Tail on g z x c
      → Tail on g z x (tested sure r c)
  tail_tested true r q h = h
  tail_tested false (value.Int n) q h =
      tail_other on (Thrown NULL_POINTER) nothing (thrown NULL_POINTER) (q refl)
  tail_tested false value.Null q h =
      tail_other on (Thrown NULL_POINTER) nothing (thrown NULL_POINTER) (q refl)
  tail_tested false (value.Ref k n) q h = h

  -- a null test with one answer
  step_test : {g : Frame} {z n : Way on} {x : Exits on} {R : MVal → MVal → Type 0} {c c' : Task}
      (sure : Bool) (r : MVal) → Lands (lattice on) n z
      → (sure ≡ false → FlowsTo on z (x (Thrown NULL_POINTER))) → Step on g n x R c c'
      → Step on g n x R (tested sure r c) (tested sure r c')
  step_test true r e q h = h
  step_test false (value.Int n) e q h =
      step_body on e
      (step_other on (Thrown NULL_POINTER) nothing nothing (thrown NULL_POINTER) (q refl))
  step_test false value.Null e q h =
      step_body on e
      (step_other on (Thrown NULL_POINTER) nothing nothing (thrown NULL_POINTER) (q refl))
  step_test false (value.Ref k n) e q h = h

  -- a null test in both runs
  pub step_tested : {g : Frame} {n w : Way on} {V : Bool} {x : Exits on}
      {R : MVal → MVal → Type 0} {c c' : Task} (sure : Bool) (r r' : MVal) → Restores on w x
      → (sure ≡ false → FlowsTo on (raised on n V) (x (Thrown NULL_POINTER))) → Values V r r'
      → (Unseen V → (u v : MVal) → R u v) → Tail on g (raised on n V) x c
      → Tail on g (raised on n V) x c' → (IsTrue V → Step on g n x R c c')
      → Step on g n x R (tested sure r c) (tested sure r' c')
  step_tested {g} {n} {w} {V} {x} {R} {c} {c'} sure r r' rs q e all h h' k =
      ⊎_elim (λ p. subst (λ r'. Step on g n x R (tested sure r c) (tested sure r' c')) (e p)
      (step_test sure r (lands_raised on V) q (k p)))
      (λ p.
      let un : Unseen (n.context && V) = λ a. let b = and_r n.context V a in
      cc in step_apart on rs (all (λ a. cc)) (over_raised on V un (tail_tested sure r q h))
      (over_raised on V un (tail_tested sure r' q h'))) (cases_Bool V)
