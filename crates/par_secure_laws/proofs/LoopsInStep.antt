-- Loops in two runs.
use Rattle.std.proofs.Common.{◌≡◌, ℕ, zero, suc, ◌&&◌, ⊎_elim, Some, refl, ap, if◌then◌else◌}
use Rattle.std.proofs.lemmas.Bool.{cases_Bool}
use Rattle.par_program_laws.specs.Kinds as kind
use Rattle.par_program_laws.specs.Kinds.{Kind}
use Rattle.par_program_laws.specs.Facts.{Facts}
use Rattle.par_program_laws.specs.Kinds.{Next, Loop, Catches, Absorber}
use Rattle.par_program_laws.specs.Body.{exp, if_not, args, sta, past}
use Rattle.par_program_laws.specs.Body as body
use Rattle.par_typed.specs.Plain.{TExp, TSta, mark, point}
use Rattle.par_run_laws.specs.Meaning.{Calls, eval}
use Rattle.par_run_laws.specs.Values.{is_true}
use Rattle.par_values.specs.declared.value.MVal.{MVal}
use Rattle.par_run_laws.specs.Tasks.{Exit, Returned, Thrown, Task, nothing, fine, paid, and_then}
use Rattle.par_run_laws.specs.Tasks.{looped, turn, turns}
use Rattle.par_pass_laws.proofs.Along.{and_r}
use Rattle.par_alike.proofs.Lists.{agree_nil}
use Rattle.par_alike.proofs.States.{Watch, Any, Blocked, Explained, FlowsTo, Frame, Gives}
use Rattle.par_alike.proofs.States.{Other, Restores, Unseen, Way, broken, continued, exits}
use Rattle.par_alike.proofs.States.{flows_here, flows_is, flows_raised, lands_is}
use Rattle.par_alike.proofs.States.{lands_raised}
use Rattle.par_alike.proofs.States.{lattice, raised, raised_lands, returned, thrown}
use Rattle.par_secure_laws.proofs.Loops.{Looping, block_each, loop_tail, turn_tail, yes_of}
use Rattle.par_secure_laws.proofs.Loops.{yes_step}
use Rattle.par_alike.proofs.OneRun.{Hush, Tail, tail_higher}
use Rattle.par_alike.proofs.TwoRuns.{Over, Step, over_raised, over_tail, step_apart}
use Rattle.par_alike.proofs.TwoRuns.{step_body}
use Rattle.par_alike.proofs.TwoRuns.{step_if, step_normal, step_other, step_paid}
use Rattle.par_secure_laws.proofs.Points.{Good, raised_is}
use Rattle.par_alike.proofs.Parts.{step_exits, step_part}
use Rattle.par_alike.proofs.Leaves.{Sound}
use Rattle.par_alike.proofs.Calls.{InStep, Silent}
use Rattle.par_secure_laws.proofs.Exps.{step_exp}

module _ (on : Watch) where
  module _ (a : Facts (lattice on)) where
    module _ {p : ℕ} (e : TExp) (s : TSta) (lp : Looping on a p e s) where
      block_over : {g : Frame} (again : Task)
          → ((h : Way on) → (a (mark e).point).entry ≡ Some h → Tail on g h (exits on a p) again)
          → (k : Exit) (v : Way on) (u : MVal) → Gives on k u → exits on a (point s) k ≡ Some v
          → Unseen v.context → Over on g v (exits on a p) (λ f. looped again f k u)
      block_over again ih k v u j i un = over_tail on un (block_each on a e s lp again ih k v u i j)

      block_other : {g : Frame} (again again' : Task)
          → ((h : Way on) → (a (mark e).point).entry ≡ Some h
          → Step on g h (exits on a p) Any again again') → (k : Exit) (z : Way on) (u v : MVal)
          → Other k → exits on a (point s) k ≡ Some z
          → Step on g z (exits on a p) Any (λ f. looped again f k u) (λ f. looped again' f k v)
      block_other again again' ih _ z u v broken i =
          step_normal on nothing nothing tt tt (lands_is on z _ _ i lp.breaks) tt
      block_other again again' ih _ z u v continued i =
          let q = flows_is on z _ _ i lp.continues in
          step_body on q.higher.lands (ih q.way q.there)
      block_other again again' ih _ z u v returned i =
          step_other on Returned u v returned (lp.block.leaves Returned z refl i)
      block_other again again' ih _ z u v (thrown c) i =
          step_other on (Thrown c) u v (thrown c) (lp.block.leaves (Thrown c) z refl i)

      block_step : {g : Frame} {w : Way on} {n : Way on} (again again' blk blk' : Task)
          → Restores on w (exits on a p) →
          ((h : Way on) → (a (mark e).point).entry ≡ Some h
          → Step on g h (exits on a p) Any again again')
          → ((h : Way on) → (a (mark e).point).entry ≡ Some h → Tail on g h (exits on a p) again)
          → ((h : Way on) → (a (mark e).point).entry ≡ Some h → Tail on g h (exits on a p) again')
          → ((y : Way on) → (a (point s)).entry ≡ Some y
          → Step on g y (exits on a (point s)) Any blk blk')
          → (a (mark e).point).exit kind.Normal ≡ Some n
          → Step on g (raised on n (a (mark e).point).value) (exits on a p) Any
          (λ rest. blk (looped again rest)) (λ rest. blk' (looped again' rest))
      block_step {g} {w} {n} again again' blk blk' rs ih tl tr hs i =
          let q = flows_is on (raised on n (a (mark e).point).value) _ _
          (raised_is on a (mark e).point n i) lp.block.enters in
          step_body on q.higher.lands
          (step_exits on {r = w} (looped again) (looped again') rs (hs q.way q.there)
          (λ z u v iu iv j.
          let q = flows_is on z _ _ j lp.again in
          step_body on q.higher.lands (ih q.way q.there)) (block_other again again' ih)
          (block_over again tl) (block_over again' tr))

    -- a loop, by the turns that are left in both runs
    pub loop_step : (sound : Sound on) (run run' : Calls) (silent : Silent on run)
        (silent' : Silent on run') (paired : InStep on run run') {p : ℕ} (e : TExp) (s : TSta)
        (lp : Looping on a p e s) {g : Frame} {w : Way on} (blk blk' : Task)
        → Restores on w (exits on a p) → Good on a g e
        → ((y : Way on) → (a (point s)).entry ≡ Some y → Blocked on g y
        → Hush on g y (exits on a (point s)) blk)
        → ((y : Way on) → (a (point s)).entry ≡ Some y → Blocked on g y
        → Hush on g y (exits on a (point s)) blk')
        → ((y : Way on) → (a (point s)).entry ≡ Some y
        → Step on g y (exits on a (point s)) Any blk blk') → (n n' : ℕ) (h : Way on)
        → (a (mark e).point).entry ≡ Some h
        → Step on g h (exits on a p) Any (turns n (turn is_true (eval on.table run e) blk))
        (turns n' (turn is_true (eval on.table run' e) blk'))
    loop_step sound run run' silent silent' paired e s lp blk blk' rs k hl hr hs zero n' h i =
        record { at = λ s t f f' m n l b. tt }
    loop_step sound run run' silent silent' paired e s lp blk blk' rs k hl hr hs (suc n) zero h
        i = record { at = λ s t f f' m n l b. agree_nil (Explained on) _ }
    loop_step sound run run' silent silent' paired {p} e s lp {g} {w} blk blk' rs k hl hr hs
        (suc n) (suc n') h i =
        let again = turns n (turn is_true (eval on.table run e) blk) in
        let again' = turns n' (turn is_true (eval on.table run' e) blk') in
        let ih = loop_step sound run run' silent silent' paired e s lp {g = g} {w = w} blk blk' rs
        k hl hr hs n n' in
        let tl = loop_tail on a sound run silent e s lp {g = g} blk k hl n in
        let tr = loop_tail on a sound run' silent' e s lp {g = g} blk' k hr n' in
        let here : FlowsTo on h (a (mark e).point).entry = record {
          way = h;
          there = i;
          higher = flows_here on;
        } in
        let V = (a (mark e).point).value in
        let body_of = λ (v : MVal).
        (if is_true v then (λ rest. blk (looped again rest)) else fine) in
        let body_of' = λ (v : MVal).
        (if is_true v then (λ rest. blk' (looped again' rest)) else fine) in
        let whole : Step on g h (exits on a p) Any (paid (and_then (eval on.table run e) body_of))
        (paid (and_then (eval on.table run' e) body_of')) = step_paid on _ _
        (⊎_elim (λ y. yes_step on a run run' e (yes_of on a e y) here (lp.test h i) body_of
        body_of' (λ v j. step_body on (lands_raised on V)
        (block_step e s lp again again' blk blk' rs ih tl tr hs j)))
        (λ y. step_part on {r = w} here lp.leaves body_of body_of' rs
        (step_exp on a sound run run' silent silent' paired e g h i (lp.test h i) k)
        (λ u u' j iu iu' e' r. ⊎_elim
        (λ q. step_body on (lands_raised on V)
        (step_if on (is_true u) (is_true u') (ap is_true (r q))
        (block_step e s lp again again' blk blk' rs ih tl tr hs e')
        (step_normal on nothing nothing tt tt
        (raised_lands on V (lands_is on j _ _ e' (lp.over y))) tt)))
        (λ q.
        let un : Unseen (j.context && V) = λ b. let c = and_r j.context V b in
        cc in step_apart on rs (λ b c. tt)
        (over_raised on V un (turn_tail on a e s lp again blk tl hl e' u (λ z. y)))
        (over_raised on V un (turn_tail on a e s lp again' blk' tr hr e' u' (λ z. y))))
        (cases_Bool V))
        (λ u j iu e'. tail_higher on (flows_raised on V)
        (turn_tail on a e s lp again blk tl hl e' u (λ z. y)))
        (λ u j iu e'. tail_higher on (flows_raised on V)
        (turn_tail on a e s lp again' blk' tr hr e' u (λ z. y)))) (cases_Bool (body.is_forever e)))
        in
        record { at = λ s t f f' m n l b. whole.at s t f f' m n l b }
