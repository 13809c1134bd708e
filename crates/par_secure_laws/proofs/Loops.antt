-- Loops in one run.
use Rattle.std.proofs.Common.{◌≡◌, ℕ, zero, suc, Bool, true, false, ⊎_elim, Option, Some, None}
use Rattle.std.proofs.Common.{List, [], refl, sym, subst, if◌then◌else◌}
use Rattle.std.proofs.lemmas.Bool.{cases_Bool}
use Rattle.par_program_laws.specs.Kinds as kind
use Rattle.par_program_laws.specs.Kinds.{Kind}
use Rattle.par_program_laws.specs.Ways as ways
use Rattle.par_program_laws.specs.Ways.{Flows, Lands, MayFlow, MayLand, MayRaise}
use Rattle.par_program_laws.specs.Facts.{Fact, Facts}
use Rattle.par_program_laws.specs.Rules as rules
use Rattle.par_program_laws.specs.Rules.{From, Entry, After, Tested, node, Rules, Node}
use Rattle.par_program_laws.specs.Kinds.{Next, Loop, Catches, Absorber}
use Rattle.par_program_laws.specs.Rules.{can}
use Rattle.par_program_laws.specs.Body.{exp, if_not, args, sta, past}
use Rattle.par_program_laws.specs.Body as body
use Rattle.par_typed.specs.Plain as plain
use Rattle.par_typed.specs.Plain.{TExp, TExps, MayTExp, TSta, TStas, TCatches, Mark, mark, point}
use Rattle.par_typed.specs.Plain.{Body}
use Rattle.par_run_laws.specs.Meaning.{Calls, eval}
use Rattle.par_run_laws.specs.Values.{truth, is_true}
use Rattle.par_values.specs.declared.value.MVal.{MVal}
use Rattle.par_values.specs.Areas.{next}
use Rattle.par_run_laws.specs.Tasks.{Exit, Returned, Thrown, Task, nothing, fine, paid, and_then}
use Rattle.par_run_laws.specs.Tasks.{looped, turn, turns}
use Rattle.par_alike.proofs.States.{Watch, Blocked, Exits, FlowsTo, Frame, Gives, Leaves}
use Rattle.par_alike.proofs.States.{Way}
use Rattle.par_alike.proofs.States.{declared, each_exit, exits, flows_here, flows_is}
use Rattle.par_alike.proofs.States.{flows_raised, lands_is, lattice, raised, raised_lands}
use Rattle.par_alike.proofs.States.{returned, thrown}
use Rattle.par_secure_laws.proofs.Points.{Good, Has, Obey, open_leaves, open_node, raised_is}
use Rattle.par_secure_laws.proofs.Points.{restores_of}
use Rattle.par_alike.proofs.OneRun.{Hush, Tail, tail_higher, tail_normal, tail_other}
use Rattle.par_alike.proofs.OneRun.{tail_paid, tail_part, tail_through}
use Rattle.par_secure_laws.proofs.Operators.{step_given, tail_given, tail_if_is}
use Rattle.par_alike.proofs.TwoRuns.{Step, step_body}
use Rattle.par_secure_laws.proofs.StaPoints.{Stretch, open_heads, open_test, part_sta}
use Rattle.par_alike.proofs.Leaves.{Sound}
use Rattle.par_alike.proofs.Calls.{Silent}
use Rattle.par_secure_laws.proofs.QuietExps.{hush_exp}

module _ (on : Watch) where
  module _ (a : Facts (lattice on)) where
    -- a literal `true`
    pub record IsYes (e : TExp) : Type 0 where
      pub m : Mark
      pub is : e ≡ plain.Boolean true m

    -- the test of a loop that is left by a break alone
    pub yes_of : (e : TExp) → body.is_forever e ≡ true → IsYes e
    yes_of (plain.Boolean true m) e = record { m = m; is = refl }
    yes_of (plain.Boolean false m) e = absurd cc
    yes_of _ e = absurd cc

    yes_behind : (m : Mark) {z : Way on} (q : FlowsTo on z (a m.point).entry)
        → Obey on a (exp (declared on) (plain.Boolean true m))
        → (w : Way on) × ((a m.point).exit kind.Normal ≡ Some w) × Flows (lattice on) z w
    unfolding exp rules.way
    yes_behind m q ob =
        let h = open_node on a ob in
        let l = lands_is on q.way _ _ q.there (open_leaves on a h.1).0 in
        let rs = restores_of on a m.point q.way q.there h.0 in (
          l.way,
          l.there,
          record {
            context = λ p. q.higher.context (rs.entry l.way l.there p);
            lands = record {
              env = λ i p. q.higher.lands.env i (l.higher.env i p);
              locks = λ i p. q.higher.lands.locks i (l.higher.locks i p);
            };
          },
        )

    yes_at : (run : Calls) (m : Mark) {g : Frame} {z : Way on} {x : Exits on}
        (q : FlowsTo on z (a (mark (plain.Boolean true m)).point).entry)
        → Obey on a (exp (declared on) (plain.Boolean true m)) → (next : MVal → Task)
        → ((w : Way on) → (a (mark (plain.Boolean true m)).point).exit kind.Normal ≡ Some w
        → Tail on g w x (next (truth true)))
        → Tail on g z x (and_then (eval on.table run (plain.Boolean true m)) next)
    unfolding mark eval
    yes_at run m q ob next h =
        let w = yes_behind m q ob in
        tail_higher on w.2 (tail_given on a (truth true) next (h w.0 w.1))

    -- that test in one run
    yes_tail : (run : Calls) (y : TExp) (l : IsYes y) {g : Frame} {z : Way on} {x : Exits on}
        (q : FlowsTo on z (a (mark y).point).entry) → Obey on a (exp (declared on) y)
        → (next : MVal → Task) →
        ((w : Way on) → (a (mark y).point).exit kind.Normal ≡ Some w
        → Tail on g w x (next (truth true))) → Tail on g z x (and_then (eval on.table run y) next)
    yes_tail run y l {g} {z} {x} =
        subst (λ y. (q : FlowsTo on z (a (mark y).point).entry) → Obey on a (exp (declared on) y)
        → (next : MVal → Task) →
        ((w : Way on) → (a (mark y).point).exit kind.Normal ≡ Some w
        → Tail on g w x (next (truth true))) → Tail on g z x (and_then (eval on.table run y) next))
        (sym l.is) (λ q ob next h. yes_at run l.m q ob next h)

    yes_step_at : (run run' : Calls) (m : Mark) {g : Frame} {z : Way on} {x : Exits on}
        {R : MVal → MVal → Type 0}
        (q : FlowsTo on z (a (mark (plain.Boolean true m)).point).entry)
        → Obey on a (exp (declared on) (plain.Boolean true m)) → (next next' : MVal → Task)
        → ((w : Way on) → (a (mark (plain.Boolean true m)).point).exit kind.Normal ≡ Some w
        → Step on g w x R (next (truth true)) (next' (truth true)))
        → Step on g z x R (and_then (eval on.table run (plain.Boolean true m)) next)
        (and_then (eval on.table run' (plain.Boolean true m)) next')
    unfolding mark eval
    yes_step_at run run' m q ob next next' h =
        let w = yes_behind m q ob in
        step_body on w.2.lands (step_given on a (truth true) (truth true) next next' (h w.0 w.1))

    -- and in two
    pub yes_step : (run run' : Calls) (y : TExp) (l : IsYes y) {g : Frame} {z : Way on}
        {x : Exits on} {R : MVal → MVal → Type 0} (q : FlowsTo on z (a (mark y).point).entry)
        → Obey on a (exp (declared on) y) → (next next' : MVal → Task)
        → ((w : Way on) → (a (mark y).point).exit kind.Normal ≡ Some w
        → Step on g w x R (next (truth true)) (next' (truth true)))
        → Step on g z x R (and_then (eval on.table run y) next)
        (and_then (eval on.table run' y) next')
    yes_step run run' y l {g} {z} {x} {R} =
        subst (λ y. (q : FlowsTo on z (a (mark y).point).entry) → Obey on a (exp (declared on) y)
        → (next next' : MVal → Task) →
        ((w : Way on) → (a (mark y).point).exit kind.Normal ≡ Some w
        → Step on g w x R (next (truth true)) (next' (truth true)))
        → Step on g z x R (and_then (eval on.table run y) next)
        (and_then (eval on.table run' y) next')) (sym l.is)
        (λ q ob next next' h. yes_step_at run run' l.m q ob next next' h)

    -- a loop
    pub record Looping (p : ℕ) (e : TExp) (s : TSta) : Type 0 where
      pub test : (y : Way on) → (a (mark e).point).entry ≡ Some y → Obey on a (exp (declared on) e)
      pub leaves : Leaves on (exits on a (mark e).point) (exits on a p)
      pub entry : MayFlow (lattice on) (a p).entry (a (mark e).point).entry
      pub over : body.is_forever e ≡ false
          → MayLand (lattice on) ((a (mark e).point).exit kind.Normal) ((a p).exit kind.Normal)
      pub block : Stretch on a p s Loop
          (ways.moved (lattice on) (ways.raised (lattice on) (a (mark e).point).value)
          ((a (mark e).point).exit kind.Normal))
      pub again : MayFlow (lattice on) ((a (point s)).exit kind.Normal) (a (mark e).point).entry
      pub continues : MayFlow (lattice on) ((a (point s)).exit kind.Continue)
          (a (mark e).point).entry
      pub breaks : MayLand (lattice on) ((a (point s)).exit kind.Break) ((a p).exit kind.Normal)

    open_over : {p : ℕ} {head : Option ℕ} {fs : List (Fact (lattice on))} (from : From)
        (more : Rules) (b : Bool) → Has on a p head fs (if_not b (rules.goes_on from) more)
        → (b ≡ false → MayLand (lattice on) (rules.way (lattice on) (a p).entry fs from)
        ((a p).exit kind.Normal)) × Has on a p head fs more
    open_over from more true h = ((λ e. absurd cc), h)
    open_over from more false h = let i = open_leaves on a h in ((λ e. i.0), i.1)

    abbrev loop_end : TSta → Rules
    loop_end s =
        rules.Part body.tested Loop (sta (declared on) s)
        (rules.Heads past
        (rules.Heads (After 0 kind.Continue) (rules.goes_on (After 0 kind.Break) rules.Done)))

    -- the rules of a loop
    pub looping : {p : ℕ} (e : TExp) (s : TSta)
        → Has on a p None []
        (rules.Test (exp (declared on) e)
        (rules.Heads Entry (if_not (body.is_forever e) (rules.goes_on past) (loop_end s))))
        → Looping p e s
    unfolding rules.way
    looping e s h =
        let t = open_test on a e h in
        let u = open_heads on a t.2 in
        let v = open_over past (loop_end s) (body.is_forever e) u.1 in
        let x = part_sta on a s v.1 in
        let y = open_heads on a x.1 in
        let z = open_heads on a y.1 in
        record {
          test = t.0;
          leaves = t.1;
          entry = u.0;
          over = v.0;
          block = x.0;
          again = y.0;
          continues = z.0;
          breaks = (open_leaves on a z.1).0;
        }

    module _ {p : ℕ} (e : TExp) (s : TSta) (lp : Looping p e s) where
      -- what follows the block of a loop, by its exits
      pub block_each : {g : Frame} (again : Task)
          → ((h : Way on) → (a (mark e).point).entry ≡ Some h → Tail on g h (exits on a p) again)
          → (k : Exit) (v : Way on) (u : MVal) → exits on a (point s) k ≡ Some v → Gives on k u
          → Tail on g v (exits on a p) (λ f. looped again f k u)
      block_each {g} again ih =
          each_exit
          (λ k. (v : Way on) (u : MVal) → exits on a (point s) k ≡ Some v → Gives on k u
          → Tail on g v (exits on a p) (λ f. looped again f k u))
          (λ v u i j.
          let q = flows_is on v _ _ i lp.again in
          tail_higher on q.higher (ih q.way q.there))
          (λ v u i j. tail_normal on nothing tt (lands_is on v _ _ i lp.breaks))
          (λ v u i j.
          let q = flows_is on v _ _ i lp.continues in
          tail_higher on q.higher (ih q.way q.there))
          (λ v u i j. tail_other on Returned u returned (lp.block.leaves Returned v refl i))
          (λ c v u i j. tail_other on (Thrown c) u (thrown c)
          (lp.block.leaves (Thrown c) v refl i))

      -- the block of a loop
      block_tail : {g : Frame} {n : Way on} (again blk : Task)
          → ((h : Way on) → (a (mark e).point).entry ≡ Some h → Tail on g h (exits on a p) again)
          → ((y : Way on) → (a (point s)).entry ≡ Some y → Blocked on g y
          → Hush on g y (exits on a (point s)) blk) → (a (mark e).point).exit kind.Normal ≡ Some n
          → Tail on g (raised on n (a (mark e).point).value) (exits on a p)
          (λ rest. blk (looped again rest))
      block_tail {g} {n} again blk ih hs i =
          let q = flows_is on (raised on n (a (mark e).point).value) _ _
          (raised_is on a (mark e).point n i) lp.block.enters in
          tail_higher on q.higher
          (tail_through on (looped again) (λ b. hs q.way q.there b) (block_each again ih))

      -- a turn of a loop
      pub turn_tail : {g : Frame} {n : Way on} (again blk : Task)
          → ((h : Way on) → (a (mark e).point).entry ≡ Some h → Tail on g h (exits on a p) again)
          → ((y : Way on) → (a (point s)).entry ≡ Some y → Blocked on g y
          → Hush on g y (exits on a (point s)) blk) → (a (mark e).point).exit kind.Normal ≡ Some n
          → (v : MVal) → (is_true v ≡ false → body.is_forever e ≡ false)
          → Tail on g (raised on n (a (mark e).point).value) (exits on a p)
          (if is_true v then (λ rest. blk (looped again rest)) else fine)
      turn_tail {g} {n} again blk ih hs i v ends =
          tail_if_is on a (is_true v) (λ t. block_tail again blk ih hs i)
          (λ f. tail_normal on nothing tt
          (raised_lands on (a (mark e).point).value (lands_is on n _ _ i (lp.over (ends f)))))

    -- a loop, by the turns that are left
    pub loop_tail : (sound : Sound on) (run : Calls) (silent : Silent on run) {p : ℕ} (e : TExp)
        (s : TSta) (lp : Looping p e s) {g : Frame} (blk : Task) → Good on a g e
        → ((y : Way on) → (a (point s)).entry ≡ Some y → Blocked on g y
        → Hush on g y (exits on a (point s)) blk) → (n : ℕ) (h : Way on)
        → (a (mark e).point).entry ≡ Some h
        → Tail on g h (exits on a p) (turns n (turn is_true (eval on.table run e) blk))
    loop_tail sound run silent e s lp blk k hs zero h i = record {
      at = λ w s t f n ys b op r k. tt;
    }
    loop_tail sound run silent {p} e s lp {g} blk k hs (suc n) h i =
        let again = turns n (turn is_true (eval on.table run e) blk) in
        let ih = loop_tail sound run silent e s lp blk k hs n in
        let here : FlowsTo on h (a (mark e).point).entry = record {
          way = h;
          there = i;
          higher = flows_here on;
        } in
        let body_of = λ (v : MVal).
        (if is_true v then (λ rest. blk (looped again rest)) else fine) in
        let whole : Tail on g h (exits on a p) (paid (and_then (eval on.table run e) body_of)) =
        tail_paid on _
        (⊎_elim (λ y. yes_tail run e (yes_of e y) here (lp.test h i) body_of
        (λ v j. tail_higher on (flows_raised on (a (mark e).point).value)
        (turn_tail e s lp again blk ih hs j (truth true) (λ z. absurd cc))))
        (λ y. tail_part on here lp.leaves body_of
        (λ b. hush_exp on a sound run silent e g h b i (lp.test h i) k)
        (λ v j iv e'. tail_higher on (flows_raised on (a (mark e).point).value)
        (turn_tail e s lp again blk ih hs e' v (λ z. y)))) (cases_Bool (body.is_forever e))) in
        record { at = λ w s t f n ys b op r k. whole.at w s t f n ys b op r k }
