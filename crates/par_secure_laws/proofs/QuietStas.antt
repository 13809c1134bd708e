-- Statements in one run.
use Rattle.std.proofs.Common.{◌≡◌, ℕ, zero, suc, false, ◌&&◌, ◌||◌, Option, Some, None, List, []}
use Rattle.std.proofs.Common.{◌∷◌, ◌++◌, refl, ap, ◌∙◌, ◌==◌}
use Rattle.std.specs.Prelude.{IsTrue}
use Rattle.std.proofs.lemmas.Bool.{eqb-true, eq-eqb}
use Rattle.par_policy.specs.Numbers.{has}
use Rattle.par_bits.specs.Sets.{IsWithin, adding, none}
use Rattle.par_program_laws.specs.Kinds as kind
use Rattle.par_program_laws.specs.Kinds.{Kind}
use Rattle.par_program_laws.specs.Ways as ways
use Rattle.par_program_laws.specs.Ways.{Flows, Lands, MayFlow, MayLand, MayRaise}
use Rattle.par_program_laws.specs.Facts.{Fact, Facts}
use Rattle.par_program_laws.specs.Rules as rules
use Rattle.par_program_laws.specs.Rules.{From, Entry, After, Tested, node, Rules, Node}
use Rattle.par_program_laws.specs.Kinds.{Next, Loop, Catches, Absorber}
use Rattle.par_program_laws.specs.Rules.{can}
use Rattle.par_program_laws.specs.Body.{exp, if_not, args, sta, past}
use Rattle.par_program_laws.specs.Body as body
use Rattle.par_typed.specs.Plain as plain
use Rattle.par_typed.specs.Plain.{TExp, TExps, MayTExp, TSta, TStas, TCatches, Mark, mark, point}
use Rattle.par_alike.specs.par_check_laws.Asked as ask
use Rattle.par_alike.specs.par_check_laws.Asked.{Condition, Check, Spot}
use Rattle.par_alike.specs.par_check_laws.Checks as checks
use Rattle.par_program_laws.specs.Uses.{StaUses}
use Rattle.par_typed.specs.Plain.{Body}
use Rattle.par_run_laws.specs.Meaning.{Calls, eval, go, go_else, go_all, go_catch}
use Rattle.par_run_laws.specs.Values.{is_true}
use Rattle.par_program_laws.specs.BodyNames.{ExpNames, StaNames, StasName, CatchesName}
use Rattle.par_secure_laws.proofs.Needs.{StasReady, CatchesReady}
use Rattle.par_program_laws.specs.Makes.{ExpMakes, StaMakes, StasMake, CatchesMake}
use Rattle.par_values.specs.declared.value.MVal.{MVal}
use Rattle.par_values.specs.Areas.{next}
use Rattle.par_run_laws.specs.State.{set_local, set_result, open_lock, close_lock}
use Rattle.par_run_laws.specs.Tasks.{Broken, Continued, Returned, Thrown, Task, nothing, and_then}
use Rattle.par_run_laws.specs.Tasks.{NULL_POINTER, caught}
use Rattle.par_alike.proofs.States.{Watch, Blocked, FlowsTo, Frame, Gives, IsMade, Sees, Way}
use Rattle.par_alike.proofs.States.{broken, continued, declared, each_exit, exits, flows_is}
use Rattle.par_alike.proofs.States.{flows_raised, lands_is, lattice, raised, raised_lands}
use Rattle.par_alike.proofs.States.{returned, thrown}
use Rattle.par_alike.proofs.Leaves.{Sound}
use Rattle.par_alike.proofs.Calls.{Silent}
use Rattle.par_secure_laws.proofs.Points.{AllKept, Good, Has, Obey, Piece, holds_is, kept_app}
use Rattle.par_secure_laws.proofs.Points.{open_if_not, open_leaves, open_node, part_exp, raised_is}
use Rattle.par_secure_laws.proofs.Points.{restores_of, throws_there}
use Rattle.par_alike.proofs.OneRun.{Hush, Tail, hush_node, tail_branch, tail_change}
use Rattle.par_alike.proofs.OneRun.{tail_higher, tail_if, tail_normal, tail_other, tail_paid}
use Rattle.par_alike.proofs.OneRun.{tail_part, tail_through}
use Rattle.par_secure_laws.proofs.QuietExps.{hush_exp}
use Rattle.par_secure_laws.proofs.StaPoints.{only_possible, GoodSta, field_asks, field_writes}
use Rattle.par_secure_laws.proofs.StaPoints.{handler_flows}
use Rattle.par_secure_laws.proofs.StaPoints.{learns_of, merges_of, next_leaves, part_sta}
use Rattle.par_secure_laws.proofs.StaPoints.{throw_ranged}
use Rattle.par_secure_laws.proofs.Loops.{loop_tail, looping}
use Rattle.par_alike.proofs.Locals.{assigned, local_keeps, result_keeps}
use Rattle.par_alike.proofs.Locks.{close_keeps, open_keeps, opening, shutting, tail_when}
use Rattle.par_alike.proofs.Writes.{tail_field, tail_static}
use Rattle.par_alike.proofs.Parts.{tail_tested}
use Rattle.par_secure_laws.proofs.Operators.{tail_if_is}

module _ (on : Watch) where
  module _ (a : Facts (lattice on)) where
    module _ (sound : Sound on) (run : Calls) (silent : Silent on run) (m : ℕ) where
      -- a part that is an expression, whose value goes on to next
      pub tail_exp : {p : ℕ} {g : Frame} {z : Way on} {from : Option (Way on)} (e : TExp)
          → Piece on a p e from → Good on a g e → from ≡ Some z → (next : MVal → Task)
          → ((v : MVal) (n : Way on) → IsMade on v → (a (mark e).point).exit kind.Normal ≡ Some n
          → Tail on g n (exits on a p) (next v))
          → Tail on g z (exits on a p) (and_then (eval on.table run e) next)
      tail_exp {p} {g} {z} {from} e s k i next h =
          let q = flows_is on z _ _ i s.enters in
          tail_part on q s.leaves next
          (λ b. hush_exp on a sound run silent e g q.way b q.there (s.obeys q.way q.there) k) h

      mutual
        unfolding sta point go go_else go_all go_catch rules.way rules.worth checks.sta_checks
            StaNames StaMakes StaUses ExpNames ExpMakes

        -- a statement
        pub hush_sta : (s : TSta) (g : Frame) (w : Way on) → Blocked on g w
            → (a (point s)).entry ≡ Some w → Obey on a (sta (declared on) s) → GoodSta on a g s
            → Hush on g w (exits on a (point s)) (go on.table run m s)
        hush_sta (plain.Block ss at p) g w b i ob k =
            let h = open_node on a ob in
            hush_node on (restores_of on a p w i h.0) b
            (tail_paid on _ (tail_all Entry ss g w i h.1 k))
        hush_sta (plain.If e s plain.NoElse at p) g w b i ob k =
            let h = open_node on a ob in
            let t = part_exp on a e h.1 in
            let l = open_leaves on a t.1 in
            let u = part_sta on a s l.1 in
            let l' = open_leaves on a u.1 in
            let kr = kept_app on a
            (checks.exp_checks on.table g.own e ++ checks.sta_checks on.table g.own s) [] k.0 in
            let ks = kept_app on a (checks.exp_checks on.table g.own e)
            (checks.sta_checks on.table g.own s) kr.0 in
            let V = (a (mark e).point).value in
            hush_node on (restores_of on a p w i h.0) b
            (tail_paid on _
            (tail_exp e t.0 (ks.0, k.1.0, k.2.0) i _
            (λ v n iv e'. tail_higher on (flows_raised on V)
            (tail_if on (is_true v)
            (
            let q = flows_is on _ _ _ (raised_is on a (mark e).point n e') u.0.enters in
            tail_branch on q (merges_of on a u.0 l'.0)
            (λ b. hush_sta s g q.way b q.there (u.0.obeys q.way q.there)
            (ks.1, k.1.1, k.2.1, k.3.0)))
            (tail_normal on nothing tt (raised_lands on V (lands_is on n _ _ e' l.0)))))))
        hush_sta (plain.If e s (plain.Otherwise t) at p) g w b i ob k =
            let h = open_node on a ob in
            let r = part_exp on a e h.1 in
            let u = part_sta on a s r.1 in
            let l = open_leaves on a u.1 in
            let u' = part_sta on a t l.1 in
            let l' = open_leaves on a u'.1 in
            let kr = kept_app on a
            (checks.exp_checks on.table g.own e ++ checks.sta_checks on.table g.own s)
            (checks.sta_checks on.table g.own t) k.0 in
            let ks = kept_app on a (checks.exp_checks on.table g.own e)
            (checks.sta_checks on.table g.own s) kr.0 in
            let V = (a (mark e).point).value in
            hush_node on (restores_of on a p w i h.0) b
            (tail_paid on _
            (tail_exp e r.0 (ks.0, k.1.0, k.2.0) i _
            (λ v n iv e'. tail_higher on (flows_raised on V)
            (tail_if on (is_true v)
            (
            let q = flows_is on _ _ _ (raised_is on a (mark e).point n e') u.0.enters in
            tail_branch on q (merges_of on a u.0 l.0)
            (λ b. hush_sta s g q.way b q.there (u.0.obeys q.way q.there)
            (ks.1, k.1.1, k.2.1, k.3.0)))
            (
            let q = flows_is on _ _ _ (raised_is on a (mark e).point n e') u'.0.enters in
            tail_branch on q (merges_of on a u'.0 l'.0)
            (λ b. hush_sta t g q.way b q.there (u'.0.obeys q.way q.there)
            (kr.1, k.1.2, k.2.2, k.3.1)))))))
        hush_sta (plain.While e s at p) g w b i ob k =
            let h = open_node on a ob in
            let lp = looping on a e s h.1 in
            let ks = kept_app on a (checks.exp_checks on.table g.own e)
            (checks.sta_checks on.table g.own s) k.0 in
            let q = flows_is on w _ _ i lp.entry in
            hush_node on (restores_of on a p w i h.0) b
            (tail_higher on q.higher
            (loop_tail on a sound run silent e s lp (go on.table run m s) (ks.0, k.1.0, k.2.0)
            (λ y j b. hush_sta s g y b j (lp.block.obeys y j) (ks.1, k.1.1, k.2.1, k.3)) m q.way
            q.there))
        hush_sta (plain.Try s cs at p) g w b i ob k =
            let h = open_node on a ob in
            let t = part_sta on a s h.1 in
            let l = open_leaves on a t.1 in
            let q = flows_is on w _ _ i t.0.enters in
            let ks = kept_app on a (checks.sta_checks on.table g.own s)
            (checks.catches_checks on.table g.own cs) k.0 in
            hush_node on (restores_of on a p w i h.0) b
            (tail_paid on _
            (tail_higher on q.higher
            (tail_through on (caught (go_catch on.table run m cs))
            (λ b. hush_sta s g q.way b q.there (t.0.obeys q.way q.there)
            (ks.0, k.1.0, k.2.0, k.3.0))
            (each_exit
            (λ j. (v : Way on) (u : MVal) → exits on a (point s) j ≡ Some v → Gives on j u
            → Tail on g v (exits on a p) (λ f. caught (go_catch on.table run m cs) f j u))
            (λ v u e j. tail_normal on u j (lands_is on v _ _ e l.0))
            (λ v u e j. tail_other on Broken u broken (t.0.leaves Broken v refl e))
            (λ v u e j. tail_other on Continued u continued (t.0.leaves Continued v refl e))
            (λ v u e j. tail_other on Returned u returned (t.0.leaves Returned v refl e))
            (λ c v u e j. tail_catch cs s c g v zero refl e
            (only_possible on a s (t.0.obeys q.way q.there) (kind.Throw c))
            (λ z. t.0.leaves (Thrown c) v z e) l.1 (ks.1, k.1.1, k.2.1, k.3.1))))))
        hush_sta (plain.Return plain.Absent at p) g w b i ob k =
            let h = open_node on a ob in
            let l = open_leaves on a h.1 in
            hush_node on (restores_of on a p w i h.0) b
            (tail_paid on _ (tail_other on Returned nothing returned (flows_is on w _ _ i l.0)))
        hush_sta (plain.Return (plain.Present e) at p) g w b i ob k =
            let h = open_node on a ob in
            let t = part_exp on a e h.1 in
            let l = open_leaves on a t.1 in
            let ks = kept_app on a (checks.exp_checks on.table g.own e)
            (checks.returned on.table g.own (plain.Present e) at p) k.0 in
            hush_node on (restores_of on a p w i h.0) b
            (tail_paid on _
            (tail_exp e t.0 (ks.0, k.1, k.2) i _
            (λ v n iv e'. tail_change on n (set_result v)
            (λ b s op. result_keeps on g n v (a (mark e).point).value s iv
            (holds_is on a _ n
            (λ w. Sees on g.own.result → IsTrue ((a (mark e).point).value && w.context)) e' ks.1.0))
            (tail_other on Returned nothing returned (flows_is on n _ _ e' l.0)))))
        hush_sta (plain.Break at p) g w b i ob k =
            let h = open_node on a ob in
            let l = open_leaves on a h.1 in
            hush_node on (restores_of on a p w i h.0) b
            (tail_paid on _ (tail_other on Broken nothing broken (flows_is on w _ _ i l.0)))
        hush_sta (plain.Continue at p) g w b i ob k =
            let h = open_node on a ob in
            let l = open_leaves on a h.1 in
            hush_node on (restores_of on a p w i h.0) b
            (tail_paid on _ (tail_other on Continued nothing continued (flows_is on w _ _ i l.0)))
        hush_sta (plain.Throw c at p) g w b i ob k =
            let h = open_node on a ob in
            let l = open_leaves on a h.1 in
            hush_node on (restores_of on a p w i h.0) b
            (tail_paid on _
            (tail_other on (Thrown c) nothing (thrown c)
            (throws_there on a c _ _ (throw_ranged on a c k.1) (flows_is on w _ _ i l.0))))
        hush_sta (plain.Open l at p) g w b i ob k =
            let h = open_node on a ob in
            let q = open_leaves on a h.1 in
            hush_node on (restores_of on a p w i h.0) b
            (tail_paid on _
            (tail_change on (opening on l w) (open_lock l)
            (λ b s op. open_keeps on g w l (learns_of on a g w l p at _ refl i k.0) b s)
            (tail_normal on nothing tt
            (lands_is on _ _ _
            (ap (ways.moved (lattice on) (ways.opened (lattice on) (adding none l))) i) q.0))))
        hush_sta (plain.Close l at p) g w b i ob k =
            let h = open_node on a ob in
            let q = open_leaves on a h.1 in
            let mine : IsTrue (g.own.closes l) =
            (holds_is on a _ w (λ w. IsWithin (adding none l) g.own.closes) i k.0.0) l
            (eq-eqb l l refl) in
            hush_node on (restores_of on a p w i h.0) b
            (tail_paid on _
            (tail_change on (shutting on l w) (close_lock l)
            (λ b s op. close_keeps on g w l mine (learns_of on a g w l p at _ refl i k.0.1) b s)
            (tail_normal on nothing tt
            (lands_is on _ _ _
            (ap (ways.moved (lattice on) (ways.shut (lattice on) (adding none l))) i) q.0))))
        hush_sta (plain.SetLocal x y e at p) g w b i ob k =
            let h = open_node on a ob in
            let t = part_exp on a e h.1 in
            let l = open_leaves on a t.1 in
            let ks = kept_app on a (checks.exp_checks on.table g.own e)
            (checks.set on.table g.own y e at p) k.0 in
            let V = (a (mark e).point).value in
            hush_node on (restores_of on a p w i h.0) b
            (tail_paid on _
            (tail_exp e t.0 (ks.0, k.1, k.2) i _
            (λ v n iv e'. tail_change on (assigned on x V n) (set_local x v)
            (λ b s op. local_keeps on g n x v V s k.3 iv)
            (tail_normal on nothing tt
            (lands_is on _ _ _ (ap (ways.moved (lattice on) (ways.assigned (lattice on) x V)) e')
            l.0)))))
        hush_sta (plain.SetStatic c f e at p) g w b i ob k =
            let h = open_node on a ob in
            let t = part_exp on a e h.1 in
            let l = open_leaves on a t.1 in
            let ks = kept_app on a (checks.exp_checks on.table g.own e)
            (checks.ask 401 at (checks.behind p e)
            (ask.Released (mark e).point ((declared on).field c f))
            ∷ checks.learns on.table g.own at (checks.behind p e) ((declared on).field c f))
            k.0 in
            hush_node on (restores_of on a p w i h.0) b
            (tail_paid on _
            (tail_exp e t.0 (ks.0, k.1.1, k.2) i _
            (λ v n iv e'. tail_static on sound c f v iv
            (record {
              context =
                  holds_is on a _ n (λ w. Sees on ((declared on).field c f) → IsTrue w.context) e'
                  ks.1.1.0;
              effect =
                  holds_is on a _ n
                  (λ w. Sees on ((declared on).field c f) → Sees on g.own.effect) e' ks.1.1.1.0;
            }) (lands_is on n _ _ e' l.0))))
        hush_sta (plain.SetField y c f e at p) g w b i ob k =
            let h = open_node on a ob in
            let r = part_exp on a y h.1 in
            let t = part_exp on a e r.1 in
            let u = open_if_not on a (Tested 1 past) (kind.Throw NULL_POINTER) (mark y).sure
            t.1 in
            let l = open_leaves on a u.1 in
            let kr = kept_app on a
            (checks.exp_checks on.table g.own y ++ checks.exp_checks on.table g.own e)
            (field_asks on a g p y e c f at) k.0 in
            let ks = kept_app on a (checks.exp_checks on.table g.own y)
            (checks.exp_checks on.table g.own e) kr.0 in
            let V = (a (mark y).point).value in
            hush_node on (restores_of on a p w i h.0) b
            (tail_paid on _
            (tail_exp y r.0 (ks.0, k.1.2, k.2.0) i _
            (λ r' n ir e'. tail_exp e t.0 (ks.1, k.1.3, k.2.1) e' _
            (λ v j iv e''. tail_higher on (flows_raised on V)
            (tail_tested on (mark y).sure r'
            (λ z. throws_there on a NULL_POINTER _ _ sound.null_pointer
            (flows_is on _ _ _ (ap (ways.moved (lattice on) (ways.raised (lattice on) V)) e'')
            (u.0 z)))
            (tail_field on sound c f r' v iv (field_writes on a g p y e c f at j e'' kr.1)
            (raised_lands on V (lands_is on j _ _ e'' l.0))))))))
        hush_sta (plain.Eval e at p) g w b i ob k =
            let h = open_node on a ob in
            let t = part_exp on a e h.1 in
            let l = open_leaves on a t.1 in
            hush_node on (restores_of on a p w i h.0) b
            (tail_paid on _
            (tail_exp e t.0 (k.0, k.1, k.2) i _
            (λ v n iv e'. tail_normal on nothing tt (lands_is on n _ _ e' l.0))))
        hush_sta (plain.When l s plain.NoElse at p) g w b i ob k =
            let h = open_node on a ob in
            let l1 = open_leaves on a h.1 in
            let u = part_sta on a s l1.1 in
            let l2 = open_leaves on a u.1 in
            let ks = kept_app on a (checks.sta_checks on.table g.own s) [] k.0 in
            let V = (lattice on).given ((declared on).lock l) in
            let q = flows_is on (opening on l (raised on w V)) _ _
            (ap (λ z. ways.moved (lattice on) (ways.opened (lattice on) (adding none l))
            (ways.moved (lattice on) (ways.raised (lattice on) V) z)) i) u.0.enters in
            hush_node on (restores_of on a p w i h.0) b
            (tail_paid on _
            (tail_higher on (flows_raised on V)
            (tail_when on l
            (tail_branch on q (merges_of on a u.0 l2.0)
            (λ b. hush_sta s g q.way b q.there (u.0.obeys q.way q.there)
            (ks.0, k.1.0, k.2.0, k.3.1)))
            (tail_normal on nothing tt (raised_lands on V (lands_is on w _ _ i l1.0))))))
        hush_sta (plain.When l s (plain.Otherwise t) at p) g w b i ob k =
            let h = open_node on a ob in
            let u = part_sta on a s h.1 in
            let l1 = open_leaves on a u.1 in
            let u' = part_sta on a t l1.1 in
            let l2 = open_leaves on a u'.1 in
            let ks = kept_app on a (checks.sta_checks on.table g.own s)
            (checks.sta_checks on.table g.own t) k.0 in
            let V = (lattice on).given ((declared on).lock l) in
            let q = flows_is on (opening on l (raised on w V)) _ _
            (ap (λ z. ways.moved (lattice on) (ways.opened (lattice on) (adding none l))
            (ways.moved (lattice on) (ways.raised (lattice on) V) z)) i) u.0.enters in
            let q' = flows_is on (raised on w V) _ _
            (ap (ways.moved (lattice on) (ways.raised (lattice on) V)) i) u'.0.enters in
            hush_node on (restores_of on a p w i h.0) b
            (tail_paid on _
            (tail_higher on (flows_raised on V)
            (tail_when on l
            (tail_branch on q (merges_of on a u.0 l1.0)
            (λ b. hush_sta s g q.way b q.there (u.0.obeys q.way q.there)
            (ks.0, k.1.0, k.2.0, k.3.1)))
            (tail_branch on q' (merges_of on a u'.0 l2.0)
            (λ b. hush_sta t g q'.way b q'.there (u'.0.obeys q'.way q'.there)
            (ks.1, k.1.1, k.2.1, k.3.2))))))

        -- statements, one after the other
        pub tail_all : {p : ℕ} {fs : List (Fact (lattice on))} (from : From) (ss : TStas)
            (g : Frame) (z : Way on) → rules.way (lattice on) (a p).entry fs from ≡ Some z
            → Has on a p None fs (body.stas (declared on) from ss)
            → AllKept on a (checks.stas_checks on.table g.own ss) × StasName on.table ss
            × StasMake on.table g.own.is_static ss × StasReady on.table g.own.is_static ss
            → Tail on g z (exits on a p) (go_all on.table run m ss)
        tail_all from plain.End g z i h k =
            tail_normal on nothing tt (lands_is on z _ _ i (open_leaves on a h).0)
        tail_all from (plain.Then s ss) g z i h k =
            let t = part_sta on a s h in
            let q = flows_is on z _ _ i t.0.enters in
            let ks = kept_app on a (checks.sta_checks on.table g.own s)
            (checks.stas_checks on.table g.own ss) k.0 in
            tail_part on q (next_leaves on a t.0) (λ v. go_all on.table run m ss)
            (λ b. hush_sta s g q.way b q.there (t.0.obeys q.way q.there)
            (ks.0, k.1.0, k.2.0, k.3.0))
            (λ v n iv e. tail_all past ss g n e t.1 (ks.1, k.1.1, k.2.1, k.3.1))

        -- a caught class, behind as many other catches
        pub tail_catch : {p : ℕ} {fs : List (Fact (lattice on))} (cs : TCatches) (s : TSta)
            (c : ℕ) (g : Frame) (v : Way on) (before : ℕ)
            → rules.part_at (lattice on) fs before ≡ a (point s)
            → exits on a (point s) (Thrown c) ≡ Some v
            → (can (sta (declared on) s) (kind.Throw c) ≡ false
            → (a (point s)).exit (kind.Throw c) ≡ None)
            → (has (body.caught cs) c ≡ false → FlowsTo on v (exits on a p (Thrown c)))
            → Has on a p None fs (body.catches (declared on) (sta (declared on) s) cs before)
            → AllKept on a (checks.catches_checks on.table g.own cs) × CatchesName on.table cs
            × CatchesMake on.table g.own.is_static cs × CatchesReady on.table g.own.is_static cs
            → Tail on g v (exits on a p) (go_catch on.table run m cs c)
        tail_catch plain.NoCatch s c g v before at e sharp out h k =
            tail_other on (Thrown c) nothing (thrown c) (out refl)
        tail_catch {p} {fs} (plain.Catch c' t cs) s c g v before at e sharp out h k =
            let u = part_sta on a t h in
            let l = open_leaves on a u.1 in
            let ks = kept_app on a (checks.sta_checks on.table g.own t)
            (checks.catches_checks on.table g.own cs) k.0 in
            tail_if_is on a (c' == c)
            (λ i.
            let q = handler_flows on a fs s c c' v before at e sharp (eqb-true c' c i) u.0 in
            tail_branch on q (merges_of on a u.0 l.0)
            (λ b. hush_sta t g q.way b q.there (u.0.obeys q.way q.there)
            (ks.0, k.1.1, k.2.0, k.3.0)))
            (λ i. tail_catch cs s c g v (suc before) at e sharp
            (λ z. out (ap (λ b. b || has (body.caught cs) c) i ∙ z)) l.1
            (ks.1, k.1.2, k.2.1, k.3.1))
