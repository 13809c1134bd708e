-- Statements in two runs.
use Rattle.std.proofs.Common.{◌≡◌, ℕ, zero, suc, Bool, false, ◌&&◌, ◌||◌, ⊎_elim, Option, Some}
use Rattle.std.proofs.Common.{None, List, [], ◌∷◌, ◌++◌, refl, ap, ◌∙◌, subst, if◌then◌else◌}
use Rattle.std.proofs.Common.{◌==◌}
use Rattle.std.specs.Prelude.{IsTrue}
use Rattle.std.proofs.lemmas.Bool.{cases_Bool, eqb-true, eq-eqb}
use Rattle.par_policy.specs.Numbers.{has}
use Rattle.par_bits.specs.Sets.{IsWithin, adding, none}
use Rattle.par_program_laws.specs.Kinds as kind
use Rattle.par_program_laws.specs.Kinds.{Kind}
use Rattle.par_program_laws.specs.Ways as ways
use Rattle.par_program_laws.specs.Ways.{Flows, Lands, MayFlow, MayLand, MayRaise}
use Rattle.par_program_laws.specs.Facts.{Fact, Facts}
use Rattle.par_program_laws.specs.Rules as rules
use Rattle.par_program_laws.specs.Rules.{From, Entry, After, Tested, node, Rules, Node}
use Rattle.par_program_laws.specs.Kinds.{Next, Loop, Catches, Absorber}
use Rattle.par_program_laws.specs.Rules.{can}
use Rattle.par_program_laws.specs.Body.{exp, if_not, args, sta, past}
use Rattle.par_program_laws.specs.Body as body
use Rattle.par_typed.specs.Plain as plain
use Rattle.par_typed.specs.Plain.{TExp, TExps, MayTExp, TSta, TStas, TCatches, Mark, mark, point}
use Rattle.par_alike.specs.par_check_laws.Asked as ask
use Rattle.par_alike.specs.par_check_laws.Asked.{Condition, Check, Spot}
use Rattle.par_alike.specs.par_check_laws.Checks as checks
use Rattle.par_program_laws.specs.Uses.{StaUses}
use Rattle.par_secure_laws.specs.Release.{IsRelease}
use Rattle.std.proofs.Common.{inl, inr}
use Rattle.par_typed.specs.Plain.{Body}
use Rattle.par_run_laws.specs.Meaning.{Calls, eval, go, go_else, go_all, go_catch}
use Rattle.par_run_laws.specs.Values.{is_true}
use Rattle.par_program_laws.specs.BodyNames.{ExpNames, StaNames, StasName, CatchesName}
use Rattle.par_secure_laws.proofs.Needs.{StasReady, CatchesReady}
use Rattle.par_program_laws.specs.Makes.{ExpMakes, StaMakes, StasMake, CatchesMake}
use Rattle.par_values.specs.declared.value.MVal.{MVal}
use Rattle.par_values.specs.Areas.{next}
use Rattle.par_run_laws.specs.State.{set_local, set_result, open_lock, close_lock}
use Rattle.par_run_laws.specs.Tasks.{Broken, Continued, Returned, Thrown, Task, nothing, and_then}
use Rattle.par_run_laws.specs.Tasks.{NULL_POINTER, caught}
use Rattle.par_pass_laws.proofs.Along.{and_r}
use Rattle.par_alike.proofs.States.{Watch, Any, Exits, FlowsTo, Frame, IsMade, Restores}
use Rattle.par_alike.proofs.States.{Sees}
use Rattle.par_alike.proofs.States.{Unseen, Values, Way, broken, continued, declared, exits}
use Rattle.par_alike.proofs.States.{flows_is, flows_raised, lands_is, lands_raised, lattice}
use Rattle.par_alike.proofs.States.{raised, raised_lands, returned, thrown}
use Rattle.par_alike.proofs.Leaves.{Sound}
use Rattle.par_alike.proofs.Calls.{InStep, Silent}
use Rattle.par_secure_laws.proofs.Points.{AllKept, Good, Has, Obey, Piece, holds_is, kept_app}
use Rattle.par_secure_laws.proofs.Points.{open_if_not, open_leaves, open_node, part_exp, raised_is}
use Rattle.par_secure_laws.proofs.Points.{restores_of, throws_there}
use Rattle.par_alike.proofs.TwoRuns.{Step, over_raised, over_tail, step_apart, step_body}
use Rattle.par_alike.proofs.TwoRuns.{step_change, step_if, step_normal, step_other}
use Rattle.par_alike.proofs.TwoRuns.{step_paid}
use Rattle.par_alike.proofs.OneRun.{Tail, tail_branch, tail_change, tail_higher, tail_if}
use Rattle.par_alike.proofs.OneRun.{tail_normal, tail_other}
use Rattle.par_alike.proofs.Parts.{step_branch, step_exits, step_part, step_tested}
use Rattle.par_alike.proofs.Parts.{tail_tested}
use Rattle.par_secure_laws.proofs.Exps.{step_exp}
use Rattle.par_secure_laws.proofs.StaPoints.{only_possible, GoodSta, field_asks, field_writes}
use Rattle.par_secure_laws.proofs.StaPoints.{handler_flows}
use Rattle.par_secure_laws.proofs.StaPoints.{merges_of, next_leaves, part_sta, throw_ranged}
use Rattle.par_secure_laws.proofs.StaPoints.{written_way}
use Rattle.par_secure_laws.proofs.QuietStas.{hush_sta, tail_all, tail_exp}
use Rattle.par_secure_laws.proofs.Loops.{looping}
use Rattle.par_secure_laws.proofs.LoopsInStep.{loop_step}
use Rattle.par_secure_laws.proofs.Choices.{step_handled, step_if_is, step_query, tail_handled}
use Rattle.par_alike.proofs.Locals.{assigned, local_keeps, local_like, result_keeps}
use Rattle.par_alike.proofs.Locals.{result_like}
use Rattle.par_alike.proofs.Locks.{close_like, open_like, opening, shutting, tail_when}
use Rattle.par_alike.proofs.Writes.{step_field, step_static, tail_field, tail_static}

module _ (on : Watch) where
  module _ (a : Facts (lattice on)) where
    module _ (sound : Sound on) (run run' : Calls) (silent : Silent on run)
        (silent' : Silent on run') (paired : InStep on run run') (m m' : ℕ) where
      -- an expression whose value goes on to next
      step_next : {p : ℕ} {g : Frame} {z r : Way on} {from : Option (Way on)} (e : TExp)
          → Piece on a p e from → Good on a g e → from ≡ Some z → (next next' : MVal → Task)
          → Restores on r (exits on a p) →
          ((u v : MVal) (n : Way on) → IsMade on u → IsMade on v
          → (a (mark e).point).exit kind.Normal ≡ Some n → Values (a (mark e).point).value u v
          → Step on g n (exits on a p) Any (next u) (next' v))
          → ((u : MVal) (n : Way on) → IsMade on u → (a (mark e).point).exit kind.Normal ≡ Some n
          → Tail on g n (exits on a p) (next u))
          → ((v : MVal) (n : Way on) → IsMade on v → (a (mark e).point).exit kind.Normal ≡ Some n
          → Tail on g n (exits on a p) (next' v))
          → Step on g z (exits on a p) Any (and_then (eval on.table run e) next)
          (and_then (eval on.table run' e) next')
      step_next {p} {g} {z} {r} {from} e s k i next next' rs h l t =
          let q = flows_is on z _ _ i s.enters in
          step_part on {r = r} q s.leaves next next' rs
          (step_exp on a sound run run' silent silent' paired e g q.way q.there
          (s.obeys q.way q.there) k) h l t

      -- a choice by a value
      step_choice : {g : Frame} {n w : Way on} {x : Exits on} {b c b' c' : Task} (V : Bool)
          (u u' : MVal) → Restores on w x → Values V u u' → Step on g (raised on n V) x Any b b'
          → Step on g (raised on n V) x Any c c'
          → Tail on g (raised on n V) x (if is_true u then b else c)
          → Tail on g (raised on n V) x (if is_true u' then b' else c')
          → Step on g n x Any (if is_true u then b else c) (if is_true u' then b' else c')
      step_choice {g} {n} {w} V u u' rs r p q tl tr =
          ⊎_elim (λ s. step_body on (lands_raised on V)
          (step_if on (is_true u) (is_true u') (ap is_true (r s)) p q))
          (λ s.
          let un : Unseen (n.context && V) = λ b. let c = and_r n.context V b in
          cc in step_apart on rs (λ b c. tt) (over_raised on V un tl) (over_raised on V un tr))
          (cases_Bool V)

      mutual
        unfolding sta point go go_else go_all go_catch rules.way rules.worth checks.sta_checks
            StaNames StaMakes StaUses ExpNames ExpMakes

        -- a statement
        pub step_sta : (s : TSta) (g : Frame) (w : Way on) → (a (point s)).entry ≡ Some w
            → Obey on a (sta (declared on) s) → GoodSta on a g s
            → Step on g w (exits on a (point s)) Any (go on.table run m s) (go on.table run' m' s)
        step_sta (plain.Block ss at p) g w i ob k =
            let h = open_node on a ob in
            step_paid on _ _ (step_all Entry ss g w w (restores_of on a p w i h.0) i h.1 k)
        step_sta (plain.If e s plain.NoElse at p) g w i ob k =
            let h = open_node on a ob in
            let t = part_exp on a e h.1 in
            let l = open_leaves on a t.1 in
            let u = part_sta on a s l.1 in
            let l' = open_leaves on a u.1 in
            let kr = kept_app on a
            (checks.exp_checks on.table g.own e ++ checks.sta_checks on.table g.own s) [] k.0 in
            let ks = kept_app on a (checks.exp_checks on.table g.own e)
            (checks.sta_checks on.table g.own s) kr.0 in
            let V = (a (mark e).point).value in
            let rs = restores_of on a p w i h.0 in
            let good : GoodSta on a g s = (ks.1, k.1.1, k.2.1, k.3.0) in
            let q = λ (n : Way on) (e' : (a (mark e).point).exit kind.Normal ≡ Some n). flows_is
            on (raised on n V) _ _ (raised_is on a (mark e).point n e') u.0.enters in
            let tl = λ (run : Calls) (silent : Silent on run) (m : ℕ) (v : MVal) (n : Way on)
            (e' : (a (mark e).point).exit kind.Normal ≡ Some n). tail_if on {g = g}
            {z = raised on n V} {x = exits on a p} (is_true v)
            (
            let q = q n e' in
            tail_branch on q (merges_of on a u.0 l'.0)
            (λ b. hush_sta on a sound run silent m s g q.way b q.there (u.0.obeys q.way q.there)
            good)) (tail_normal on nothing tt (raised_lands on V (lands_is on n _ _ e' l.0))) in
            step_paid on _ _
            (step_next e t.0 (ks.0, k.1.0, k.2.0) i _ _ rs
            (λ v v' n iv iv' e' r. step_choice V v v' rs r
            (
            let q = q n e' in
            step_branch on q (merges_of on a u.0 l'.0) rs
            (step_sta s g q.way q.there (u.0.obeys q.way q.there) good))
            (step_normal on nothing nothing tt tt (raised_lands on V (lands_is on n _ _ e' l.0))
            tt) (tl run silent m v n e') (tl run' silent' m' v' n e'))
            (λ v n iv e'. tail_higher on (flows_raised on V) (tl run silent m v n e'))
            (λ v n iv e'. tail_higher on (flows_raised on V) (tl run' silent' m' v n e')))
        step_sta (plain.If e s (plain.Otherwise t) at p) g w i ob k =
            let h = open_node on a ob in
            let r = part_exp on a e h.1 in
            let u = part_sta on a s r.1 in
            let l = open_leaves on a u.1 in
            let u' = part_sta on a t l.1 in
            let l' = open_leaves on a u'.1 in
            let kr = kept_app on a
            (checks.exp_checks on.table g.own e ++ checks.sta_checks on.table g.own s)
            (checks.sta_checks on.table g.own t) k.0 in
            let ks = kept_app on a (checks.exp_checks on.table g.own e)
            (checks.sta_checks on.table g.own s) kr.0 in
            let V = (a (mark e).point).value in
            let rs = restores_of on a p w i h.0 in
            let good : GoodSta on a g s = (ks.1, k.1.1, k.2.1, k.3.0) in
            let good' : GoodSta on a g t = (kr.1, k.1.2, k.2.2, k.3.1) in
            let q = λ (n : Way on) (e' : (a (mark e).point).exit kind.Normal ≡ Some n). flows_is
            on (raised on n V) _ _ (raised_is on a (mark e).point n e') u.0.enters in
            let q' = λ (n : Way on) (e' : (a (mark e).point).exit kind.Normal ≡ Some n). flows_is
            on (raised on n V) _ _ (raised_is on a (mark e).point n e') u'.0.enters in
            let tl = λ (run : Calls) (silent : Silent on run) (m : ℕ) (v : MVal) (n : Way on)
            (e' : (a (mark e).point).exit kind.Normal ≡ Some n). tail_if on {g = g}
            {z = raised on n V} {x = exits on a p} (is_true v)
            (
            let q = q n e' in
            tail_branch on q (merges_of on a u.0 l.0)
            (λ b. hush_sta on a sound run silent m s g q.way b q.there (u.0.obeys q.way q.there)
            good)) (
            let q = q' n e' in
            tail_branch on q (merges_of on a u'.0 l'.0)
            (λ b. hush_sta on a sound run silent m t g q.way b q.there (u'.0.obeys q.way q.there)
            good')) in
            step_paid on _ _
            (step_next e r.0 (ks.0, k.1.0, k.2.0) i _ _ rs
            (λ v v' n iv iv' e' r. step_choice V v v' rs r
            (
            let q = q n e' in
            step_branch on q (merges_of on a u.0 l.0) rs
            (step_sta s g q.way q.there (u.0.obeys q.way q.there) good))
            (
            let q = q' n e' in
            step_branch on q (merges_of on a u'.0 l'.0) rs
            (step_sta t g q.way q.there (u'.0.obeys q.way q.there) good'))
            (tl run silent m v n e') (tl run' silent' m' v' n e'))
            (λ v n iv e'. tail_higher on (flows_raised on V) (tl run silent m v n e'))
            (λ v n iv e'. tail_higher on (flows_raised on V) (tl run' silent' m' v n e')))
        step_sta (plain.While e s at p) g w i ob k =
            let h = open_node on a ob in
            let lp = looping on a e s h.1 in
            let ks = kept_app on a (checks.exp_checks on.table g.own e)
            (checks.sta_checks on.table g.own s) k.0 in
            let q = flows_is on w _ _ i lp.entry in
            let good : GoodSta on a g s = (ks.1, k.1.1, k.2.1, k.3) in
            step_body on q.higher.lands
            (loop_step on a sound run run' silent silent' paired e s lp (go on.table run m s)
            (go on.table run' m' s) (restores_of on a p w i h.0) (ks.0, k.1.0, k.2.0)
            (λ y j b. hush_sta on a sound run silent m s g y b j (lp.block.obeys y j) good)
            (λ y j b. hush_sta on a sound run' silent' m' s g y b j (lp.block.obeys y j) good)
            (λ y j. step_sta s g y j (lp.block.obeys y j) good) m m' q.way q.there)
        step_sta (plain.Try s cs at p) g w i ob k =
            let h = open_node on a ob in
            let t = part_sta on a s h.1 in
            let l = open_leaves on a t.1 in
            let q = flows_is on w _ _ i t.0.enters in
            let ks = kept_app on a (checks.sta_checks on.table g.own s)
            (checks.catches_checks on.table g.own cs) k.0 in
            let rs = restores_of on a p w i h.0 in
            let good : GoodSta on a g s = (ks.0, k.1.0, k.2.0, k.3.0) in
            let sharp = λ (c : ℕ). only_possible on a s (t.0.obeys q.way q.there)
            (kind.Throw c) in
            step_paid on _ _
            (step_body on q.higher.lands
            (step_exits on {r = w} {y = exits on a (point s)}
            (caught (go_catch on.table run m cs)) (caught (go_catch on.table run' m' cs)) rs
            (step_sta s g q.way q.there (t.0.obeys q.way q.there) good)
            (λ z u v iu iv e. step_normal on u v iu iv (lands_is on z _ _ e l.0) tt)
            (λ j z u v x e. step_handled on a run run' m m' cs s t.0
            (λ c z e. step_catch cs s c g z w zero rs refl e (sharp c)
            (λ y. t.0.leaves (Thrown c) z y e) l.1 (ks.1, k.1.1, k.2.1, k.3.1)) j z u v x e)
            (λ j z u gi e un. over_tail on un
            (tail_handled on a sound run silent m cs s g t.0 l.0 l.1 sharp
            (ks.1, k.1.1, k.2.1, k.3.1) j z u e gi))
            (λ j z u gi e un. over_tail on un
            (tail_handled on a sound run' silent' m' cs s g t.0 l.0 l.1 sharp
            (ks.1, k.1.1, k.2.1, k.3.1) j z u e gi))))
        step_sta (plain.Return plain.Absent at p) g w i ob k =
            let h = open_node on a ob in
            let l = open_leaves on a h.1 in
            step_paid on _ _
            (step_other on Returned nothing nothing returned (flows_is on w _ _ i l.0))
        step_sta (plain.Return (plain.Present e) at p) g w i ob k =
            let h = open_node on a ob in
            let t = part_exp on a e h.1 in
            let l = open_leaves on a t.1 in
            let ks = kept_app on a (checks.exp_checks on.table g.own e)
            (checks.returned on.table g.own (plain.Present e) at p) k.0 in
            let V = (a (mark e).point).value in
            let seen = λ (n : Way on) (e' : (a (mark e).point).exit kind.Normal ≡ Some n).
            holds_is on a _ n (λ w. Sees on g.own.result → IsTrue (V && w.context)) e' ks.1.0 in
            let tl = λ (v : MVal) (n : Way on) (iv : IsMade on v)
            (e' : (a (mark e).point).exit kind.Normal ≡ Some n). tail_change on {g = g} {z = n} n
            {x = exits on a p} (set_result v) (λ b s op. result_keeps on g n v V s iv (seen n e'))
            (tail_other on Returned nothing returned (flows_is on n _ _ e' l.0)) in
            step_paid on _ _
            (step_next e t.0 (ks.0, k.1, k.2) i _ _ (restores_of on a p w i h.0)
            (λ u v n iu iv e' r. step_change on n (set_result u) (set_result v)
            (result_like on g n u v V iu iv (seen n e') r)
            (step_other on Returned nothing nothing returned (flows_is on n _ _ e' l.0))) tl tl)
        step_sta (plain.Break at p) g w i ob k =
            let h = open_node on a ob in
            let l = open_leaves on a h.1 in
            step_paid on _ _
            (step_other on Broken nothing nothing broken (flows_is on w _ _ i l.0))
        step_sta (plain.Continue at p) g w i ob k =
            let h = open_node on a ob in
            let l = open_leaves on a h.1 in
            step_paid on _ _
            (step_other on Continued nothing nothing continued (flows_is on w _ _ i l.0))
        step_sta (plain.Throw c at p) g w i ob k =
            let h = open_node on a ob in
            let l = open_leaves on a h.1 in
            step_paid on _ _
            (step_other on (Thrown c) nothing nothing (thrown c)
            (throws_there on a c _ _ (throw_ranged on a c k.1) (flows_is on w _ _ i l.0)))
        step_sta (plain.Open l at p) g w i ob k =
            let h = open_node on a ob in
            let q = open_leaves on a h.1 in
            step_paid on _ _
            (step_change on (opening on l w) (open_lock l) (open_lock l) (open_like on g w l)
            (step_normal on nothing nothing tt tt
            (lands_is on _ _ _
            (ap (ways.moved (lattice on) (ways.opened (lattice on) (adding none l))) i) q.0) tt))
        step_sta (plain.Close l at p) g w i ob k =
            let h = open_node on a ob in
            let q = open_leaves on a h.1 in
            let mine : IsTrue (g.own.closes l) =
            (holds_is on a _ w (λ w. IsWithin (adding none l) g.own.closes) i k.0.0) l
            (eq-eqb l l refl) in
            step_paid on _ _
            (step_change on (shutting on l w) (close_lock l) (close_lock l)
            (close_like on g w l mine)
            (step_normal on nothing nothing tt tt
            (lands_is on _ _ _
            (ap (ways.moved (lattice on) (ways.shut (lattice on) (adding none l))) i) q.0) tt))
        step_sta (plain.SetLocal x y e at p) g w i ob k =
            let h = open_node on a ob in
            let t = part_exp on a e h.1 in
            let l = open_leaves on a t.1 in
            let ks = kept_app on a (checks.exp_checks on.table g.own e)
            (checks.set on.table g.own y e at p) k.0 in
            let V = (a (mark e).point).value in
            let to = λ (n : Way on) (e' : (a (mark e).point).exit kind.Normal ≡ Some n). lands_is
            on (assigned on x V n) _ _
            (ap (ways.moved (lattice on) (ways.assigned (lattice on) x V)) e') l.0 in
            let tl = λ (v : MVal) (n : Way on) (iv : IsMade on v)
            (e' : (a (mark e).point).exit kind.Normal ≡ Some n). tail_change on {g = g} {z = n}
            (assigned on x V n) {x = exits on a p} (set_local x v)
            (λ b s op. local_keeps on g n x v V s k.3 iv) (tail_normal on nothing tt (to n e')) in
            step_paid on _ _
            (step_next e t.0 (ks.0, k.1, k.2) i _ _ (restores_of on a p w i h.0)
            (λ u v n iu iv e' r. step_change on (assigned on x V n) (set_local x u)
            (set_local x v) (local_like on g n x u v V k.3 iu iv r)
            (step_normal on nothing nothing tt tt (to n e') tt)) tl tl)
        step_sta (plain.SetStatic c f e at p) g w i ob k =
            let h = open_node on a ob in
            let t = part_exp on a e h.1 in
            let l = open_leaves on a t.1 in
            let ks = kept_app on a (checks.exp_checks on.table g.own e)
            (checks.ask 401 at (checks.behind p e)
            (ask.Released (mark e).point ((declared on).field c f))
            ∷ checks.learns on.table g.own at (checks.behind p e) ((declared on).field c f))
            k.0 in
            let V = (a (mark e).point).value in
            let tl = λ (v : MVal) (n : Way on) (iv : IsMade on v)
            (e' : (a (mark e).point).exit kind.Normal ≡ Some n). tail_static on sound {g = g}
            {z = n} {x = exits on a p} c f v iv
            (record {
              context =
                  holds_is on a _ n (λ w. Sees on ((declared on).field c f) → IsTrue w.context) e'
                  ks.1.1.0;
              effect =
                  holds_is on a _ n
                  (λ w. Sees on ((declared on).field c f) → Sees on g.own.effect) e' ks.1.1.1.0;
            }) (lands_is on n _ _ e' l.0) in
            step_paid on _ _
            (step_next e t.0 (ks.0, k.1.1, k.2) i _ _ (restores_of on a p w i h.0)
            (λ u v n iu iv e' r. step_static on sound c f V u v iu iv
            (holds_is on a _ n
            (λ w. IsRelease 401 → on.Release ((declared on).field c f) V w.locks) e' ks.1.0
            (inl refl)) r (lands_is on n _ _ e' l.0)) tl tl)
        step_sta (plain.SetField y c f e at p) g w i ob k =
            let h = open_node on a ob in
            let r = part_exp on a y h.1 in
            let t = part_exp on a e r.1 in
            let u = open_if_not on a (Tested 1 past) (kind.Throw NULL_POINTER) (mark y).sure
            t.1 in
            let l = open_leaves on a u.1 in
            let kr = kept_app on a
            (checks.exp_checks on.table g.own y ++ checks.exp_checks on.table g.own e)
            (field_asks on a g p y e c f at) k.0 in
            let ks = kept_app on a (checks.exp_checks on.table g.own y)
            (checks.exp_checks on.table g.own e) kr.0 in
            let V = (a (mark y).point).value in
            let U = (a (mark e).point).value in
            let rs = restores_of on a p w i h.0 in
            let throw = λ (j : Way on) (e'' : (a (mark e).point).exit kind.Normal ≡ Some j)
            (z : (mark y).sure ≡ false). throws_there on a NULL_POINTER (raised on j V)
            ((a p).exit (kind.Throw 1)) sound.null_pointer
            (flows_is on _ _ _ (ap (ways.moved (lattice on) (ways.raised (lattice on) V)) e'')
            (u.0 z)) in
            let tf = λ (r' : MVal) (v : MVal) (iv : IsMade on v) (j : Way on)
            (e'' : (a (mark e).point).exit kind.Normal ≡ Some j). tail_field on sound {g = g}
            {z = raised on j V} {x = exits on a p} c f r' v iv
            (field_writes on a g p y e c f at j e'' kr.1)
            (raised_lands on V (lands_is on j _ _ e'' l.0)) in
            let te = λ (r' : MVal) (v : MVal) (j : Way on) (iv : IsMade on v)
            (e'' : (a (mark e).point).exit kind.Normal ≡ Some j). tail_higher on
            (flows_raised on V)
            (tail_tested on (mark y).sure r' (throw j e'') (tf r' v iv j e'')) in
            let good : Good on a g e = (ks.1, k.1.3, k.2.1) in
            step_paid on _ _
            (step_next y r.0 (ks.0, k.1.2, k.2.0) i _ _ rs
            (λ r1 r2 n i1 i2 e' er. step_next e t.0 good e' _ _ rs
            (λ v v' j iv iv' e'' ev.
            let wy = written_way on a p y e j e'' in
            step_tested on (mark y).sure r1 r2 rs (throw j e'') er (λ un b c. tt)
            (tf r1 v iv j e'') (tf r2 v' iv' j e'')
            (λ sv. step_field on sound c f U r1 r2 v v' k.1.1 iv iv'
            (subst (λ ls. on.Release ((declared on).field c f) U ls) wy.locks
            (holds_is on a _ wy.way
            (λ w. IsRelease 402 → on.Release ((declared on).field c f) U w.locks) wy.is kr.1.0
            (inr (inl refl))))
            (λ vis. er
            (holds_is on a _ wy.way (λ w. Sees on ((declared on).field c f) → IsTrue V) wy.is
            kr.1.1.0 vis)) ev (lands_is on j _ _ e'' l.0))) (te r1) (te r2))
            (λ r1 n ir e'. tail_exp on a sound run silent m e t.0 good e' _ (te r1))
            (λ r2 n ir e'. tail_exp on a sound run' silent' m' e t.0 good e' _ (te r2)))
        step_sta (plain.Eval e at p) g w i ob k =
            let h = open_node on a ob in
            let t = part_exp on a e h.1 in
            let l = open_leaves on a t.1 in
            step_paid on _ _
            (step_next e t.0 (k.0, k.1, k.2) i _ _ (restores_of on a p w i h.0)
            (λ u v n iu iv e' r. step_normal on nothing nothing tt tt (lands_is on n _ _ e' l.0)
            tt) (λ v n iv e'. tail_normal on nothing tt (lands_is on n _ _ e' l.0))
            (λ v n iv e'. tail_normal on nothing tt (lands_is on n _ _ e' l.0)))
        step_sta (plain.When l s plain.NoElse at p) g w i ob k =
            let h = open_node on a ob in
            let l1 = open_leaves on a h.1 in
            let u = part_sta on a s l1.1 in
            let l2 = open_leaves on a u.1 in
            let ks = kept_app on a (checks.sta_checks on.table g.own s) [] k.0 in
            let V = (lattice on).given ((declared on).lock l) in
            let rs = restores_of on a p w i h.0 in
            let q = flows_is on (opening on l (raised on w V)) _ _
            (ap (λ z. ways.moved (lattice on) (ways.opened (lattice on) (adding none l))
            (ways.moved (lattice on) (ways.raised (lattice on) V) z)) i) u.0.enters in
            let good : GoodSta on a g s = (ks.0, k.1.0, k.2.0, k.3.1) in
            let tl = λ (run : Calls) (silent : Silent on run) (m : ℕ). tail_when on {g = g}
            {z = raised on w V} {x = exits on a p} l
            (tail_branch on q (merges_of on a u.0 l2.0)
            (λ b. hush_sta on a sound run silent m s g q.way b q.there (u.0.obeys q.way q.there)
            good)) (tail_normal on nothing tt (raised_lands on V (lands_is on w _ _ i l1.0))) in
            step_paid on _ _
            (step_query on a l k.3.0.0 k.3.0.1 rs (tl run silent m) (tl run' silent' m')
            (step_branch on q (merges_of on a u.0 l2.0) rs
            (step_sta s g q.way q.there (u.0.obeys q.way q.there) good))
            (step_normal on nothing nothing tt tt (raised_lands on V (lands_is on w _ _ i l1.0))
            tt))
        step_sta (plain.When l s (plain.Otherwise t) at p) g w i ob k =
            let h = open_node on a ob in
            let u = part_sta on a s h.1 in
            let l1 = open_leaves on a u.1 in
            let u' = part_sta on a t l1.1 in
            let l2 = open_leaves on a u'.1 in
            let ks = kept_app on a (checks.sta_checks on.table g.own s)
            (checks.sta_checks on.table g.own t) k.0 in
            let V = (lattice on).given ((declared on).lock l) in
            let rs = restores_of on a p w i h.0 in
            let q = flows_is on (opening on l (raised on w V)) _ _
            (ap (λ z. ways.moved (lattice on) (ways.opened (lattice on) (adding none l))
            (ways.moved (lattice on) (ways.raised (lattice on) V) z)) i) u.0.enters in
            let q' = flows_is on (raised on w V) _ _
            (ap (ways.moved (lattice on) (ways.raised (lattice on) V)) i) u'.0.enters in
            let good : GoodSta on a g s = (ks.0, k.1.0, k.2.0, k.3.1) in
            let good' : GoodSta on a g t = (ks.1, k.1.1, k.2.1, k.3.2) in
            let tl = λ (run : Calls) (silent : Silent on run) (m : ℕ). tail_when on {g = g}
            {z = raised on w V} {x = exits on a p} l
            (tail_branch on q (merges_of on a u.0 l1.0)
            (λ b. hush_sta on a sound run silent m s g q.way b q.there (u.0.obeys q.way q.there)
            good)) (tail_branch on q' (merges_of on a u'.0 l2.0)
            (λ b. hush_sta on a sound run silent m t g q'.way b q'.there
            (u'.0.obeys q'.way q'.there) good')) in
            step_paid on _ _
            (step_query on a l k.3.0.0 k.3.0.1 rs (tl run silent m) (tl run' silent' m')
            (step_branch on q (merges_of on a u.0 l1.0) rs
            (step_sta s g q.way q.there (u.0.obeys q.way q.there) good))
            (step_branch on q' (merges_of on a u'.0 l2.0) rs
            (step_sta t g q'.way q'.there (u'.0.obeys q'.way q'.there) good')))

        -- statements, one after the other
        pub step_all : {p : ℕ} {fs : List (Fact (lattice on))} (from : From) (ss : TStas)
            (g : Frame) (z r : Way on) → Restores on r (exits on a p)
            → rules.way (lattice on) (a p).entry fs from ≡ Some z
            → Has on a p None fs (body.stas (declared on) from ss)
            → AllKept on a (checks.stas_checks on.table g.own ss) × StasName on.table ss
            × StasMake on.table g.own.is_static ss × StasReady on.table g.own.is_static ss
            → Step on g z (exits on a p) Any (go_all on.table run m ss)
            (go_all on.table run' m' ss)
        step_all from plain.End g z r rs i h k =
            step_normal on nothing nothing tt tt (lands_is on z _ _ i (open_leaves on a h).0) tt
        step_all from (plain.Then s ss) g z r rs i h k =
            let t = part_sta on a s h in
            let q = flows_is on z _ _ i t.0.enters in
            let ks = kept_app on a (checks.sta_checks on.table g.own s)
            (checks.stas_checks on.table g.own ss) k.0 in
            step_part on {r = r} {S = Any} q (next_leaves on a t.0)
            (λ v. go_all on.table run m ss) (λ v. go_all on.table run' m' ss) rs
            (step_sta s g q.way q.there (t.0.obeys q.way q.there) (ks.0, k.1.0, k.2.0, k.3.0))
            (λ u v n iu iv e x. step_all past ss g n r rs e t.1 (ks.1, k.1.1, k.2.1, k.3.1))
            (λ v n iv e. tail_all on a sound run silent m past ss g n e t.1
            (ks.1, k.1.1, k.2.1, k.3.1))
            (λ v n iv e. tail_all on a sound run' silent' m' past ss g n e t.1
            (ks.1, k.1.1, k.2.1, k.3.1))

        -- a caught class, behind as many other catches
        pub step_catch : {p : ℕ} {fs : List (Fact (lattice on))} (cs : TCatches) (s : TSta)
            (c : ℕ) (g : Frame) (v r : Way on) (before : ℕ) → Restores on r (exits on a p)
            → rules.part_at (lattice on) fs before ≡ a (point s)
            → exits on a (point s) (Thrown c) ≡ Some v
            → (can (sta (declared on) s) (kind.Throw c) ≡ false
            → (a (point s)).exit (kind.Throw c) ≡ None)
            → (has (body.caught cs) c ≡ false → FlowsTo on v (exits on a p (Thrown c)))
            → Has on a p None fs (body.catches (declared on) (sta (declared on) s) cs before)
            → AllKept on a (checks.catches_checks on.table g.own cs) × CatchesName on.table cs
            × CatchesMake on.table g.own.is_static cs × CatchesReady on.table g.own.is_static cs
            → Step on g v (exits on a p) Any (go_catch on.table run m cs c)
            (go_catch on.table run' m' cs c)
        step_catch plain.NoCatch s c g v r before rs at e sharp out h k =
            step_other on (Thrown c) nothing nothing (thrown c) (out refl)
        step_catch {p} {fs} (plain.Catch c' t cs) s c g v r before rs at e sharp out h k =
            let u = part_sta on a t h in
            let l = open_leaves on a u.1 in
            let ks = kept_app on a (checks.sta_checks on.table g.own t)
            (checks.catches_checks on.table g.own cs) k.0 in
            step_if_is on a (c' == c)
            (λ i.
            let q = handler_flows on a fs s c c' v before at e sharp (eqb-true c' c i) u.0 in
            step_branch on q (merges_of on a u.0 l.0) rs
            (step_sta t g q.way q.there (u.0.obeys q.way q.there) (ks.0, k.1.1, k.2.0, k.3.0)))
            (λ i. step_catch cs s c g v r (suc before) rs at e sharp
            (λ z. out (ap (λ b. b || has (body.caught cs) c) i ∙ z)) l.1
            (ks.1, k.1.2, k.2.1, k.3.1))
