-- Expressions in one run.
use Rattle.std.proofs.Common.{◌≡◌, ℕ, not, Some, None, List, [], ◌∷◌, ◌++◌, subst}
use Rattle.std.specs.Prelude.{IsTrue}
use Rattle.par_program_laws.specs.Kinds as kind
use Rattle.par_program_laws.specs.Kinds.{Kind}
use Rattle.par_program_laws.specs.Facts.{Facts}
use Rattle.par_typed.specs.Members.{method_at}
use Rattle.par_program_laws.specs.BodyNames.{ExpsName}
use Rattle.par_program_laws.specs.Makes.{ExpsMake}
use Rattle.par_program_laws.specs.Rules as rules
use Rattle.par_program_laws.specs.Rules.{From, Entry, After, Tested, node, Rules, Node}
use Rattle.par_program_laws.specs.Kinds.{Next, Loop, Catches, Absorber}
use Rattle.par_program_laws.specs.Rules.{can}
use Rattle.par_program_laws.specs.Body.{exp, if_not, args, sta, past}
use Rattle.par_program_laws.specs.Body as body
use Rattle.par_typed.specs.Plain as plain
use Rattle.par_typed.specs.Plain.{TExp, TExps, MayTExp, TSta, TStas, TCatches, Mark, mark, point}
use Rattle.par_alike.specs.par_check_laws.Checks as checks
use Rattle.std.specs.Prelude.{map}
use Rattle.par_typed.specs.Plain.{Body}
use Rattle.par_run_laws.specs.Meaning.{Calls, calls, eval, eval_all}
use Rattle.par_run_laws.specs.Values.{truth, is_true}
use Rattle.par_values.specs.Arithmetic.{negated}
use Rattle.par_program_laws.specs.BodyNames.{ExpNames}
use Rattle.par_program_laws.specs.Makes.{ExpMakes}
use Rattle.par_values.specs.declared.value.MVal.{MVal}
use Rattle.par_values.specs.declared.value.MVal.TheVariants as value
use Rattle.par_values.specs.Areas.{number_of, next}
use Rattle.par_run_laws.specs.Names.{made_named}
use Rattle.par_run_laws.specs.Meaning.{born}
use Rattle.par_run_laws.specs.Tasks.{Task, NULL_POINTER}
use Rattle.par_alike.proofs.States.{Watch, Blocked, Frame, Sees, Way, declared, exits}
use Rattle.par_alike.proofs.States.{flows_is, flows_raised, lands_is, lattice}
use Rattle.par_alike.proofs.Leaves.{Sound, tail_input, tail_named, tail_read}
use Rattle.par_alike.proofs.Calls.{Silent}
use Rattle.par_secure_laws.proofs.Points.{AllKept, Good, Has, Obey, holds_is, kept_app}
use Rattle.par_secure_laws.proofs.Points.{open_if_not}
use Rattle.par_secure_laws.proofs.Points.{open_leaves, open_node, part_exp, raised_is, restores_of}
use Rattle.par_secure_laws.proofs.Points.{throws_there, writes_at}
use Rattle.par_alike.proofs.OneRun.{Hush, Tail, hush_node, tail_higher, tail_normal}
use Rattle.par_alike.proofs.OneRun.{tail_paid}
use Rattle.par_alike.proofs.OneRun.{tail_part}
use Rattle.par_alike.proofs.Arguments.{AllMade, all_made, truth_made}
use Rattle.par_alike.proofs.Writes.{tail_born, tail_output}
use Rattle.par_secure_laws.proofs.Operators.{Pairwise, field_tail, second_is, second_tail}
use Rattle.par_secure_laws.proofs.CallPoints.{args_past_past, call_spot, called_there, calling_of}
use Rattle.par_secure_laws.proofs.CallPoints.{enter_tail, receiver_tail}

module _ (on : Watch) where
  module _ (a : Facts (lattice on)) where
    module _ (sound : Sound on) (run : Calls) (silent : Silent on run) where
      mutual
        unfolding exp mark eval rules.way rules.worth checks.exp_checks ExpNames ExpMakes

        -- an expression
        pub hush_exp : (e : TExp) (g : Frame) (w : Way on) → Blocked on g w
            → (a (mark e).point).entry ≡ Some w → Obey on a (exp (declared on) e) → Good on a g e
            → Hush on g w (exits on a (mark e).point) (eval on.table run e)
        hush_exp (plain.Int n m) g w b i ob k =
            let h = open_node on a ob in
            let l = open_leaves on a h.1 in
            hush_node on (restores_of on a m.point w i h.0) b
            (tail_paid on _ (tail_normal on (value.Int n) tt (lands_is on w _ _ i l.0)))
        hush_exp (plain.Boolean v m) g w b i ob k =
            let h = open_node on a ob in
            let l = open_leaves on a h.1 in
            hush_node on (restores_of on a m.point w i h.0) b
            (tail_paid on _ (tail_normal on (truth v) (truth_made on v) (lands_is on w _ _ i l.0)))
        hush_exp (plain.Null m) g w b i ob k =
            let h = open_node on a ob in
            let l = open_leaves on a h.1 in
            hush_node on (restores_of on a m.point w i h.0) b
            (tail_paid on _ (tail_normal on value.Null tt (lands_is on w _ _ i l.0)))
        hush_exp (plain.This m) g w b i ob k =
            let h = open_node on a ob in
            let l = open_leaves on a h.1 in
            hush_node on (restores_of on a m.point w i h.0) b
            (tail_paid on _
            (tail_read on (λ s. s.locals 0) (λ s m. m.locals 0) (lands_is on w _ _ i l.0)))
        hush_exp (plain.New c m) g w b i ob k =
            let h = open_node on a ob in
            let l = open_leaves on a h.1 in
            let q = lands_is on w _ _ i l.0 in
            hush_node on (restores_of on a m.point w i h.0) b
            (tail_paid on _
            (tail_named on (made_named on.table c) (born on.table c) q
            (λ name is. tail_born on sound c name is
            (writes_at on a g m.point ((declared on).birth c) w 409 409 m.at i k.0) q)))
        hush_exp (plain.Local x m) g w b i ob k =
            let h = open_node on a ob in
            let l = open_leaves on a h.1 in
            hush_node on (restores_of on a m.point w i h.0) b
            (tail_paid on _
            (tail_read on (λ s. s.locals x) (λ s m. m.locals x) (lands_is on w _ _ i l.0)))
        hush_exp (plain.Static c f m) g w b i ob k =
            let h = open_node on a ob in
            let l = open_leaves on a h.1 in
            hush_node on (restores_of on a m.point w i h.0) b
            (tail_paid on _
            (tail_read on (λ s. s.statics c f) (λ s m. m.statics c f) (lands_is on w _ _ i l.0)))
        hush_exp (plain.Input c j m) g w b i ob k =
            let h = open_node on a ob in
            let l = open_leaves on a h.1 in
            hush_node on (restores_of on a m.point w i h.0) b
            (tail_paid on _
            (tail_input on c j
            (writes_at on a g m.point ((declared on).channel c j) w 404 404 m.at i k.0)
            (lands_is on w _ _ i l.0)))
        hush_exp (plain.Field e c f m) g w b i ob k =
            let h = open_node on a ob in
            let s = part_exp on a e h.1 in
            let q = flows_is on w _ _ i s.0.enters in
            let t = open_if_not on a body.tested (kind.Throw NULL_POINTER) (mark e).sure s.1 in
            let l = open_leaves on a t.1 in
            hush_node on (restores_of on a m.point w i h.0) b
            (tail_paid on _
            (tail_part on q s.0.leaves _
            (λ b. hush_exp e g q.way b q.there (s.0.obeys q.way q.there) (k.0, k.1.2, k.2))
            (λ v n j e'. tail_higher on (flows_raised on (a (mark e).point).value)
            (field_tail on a (a (mark e).point).value (mark e).sure v c f
            (λ z. throws_there on a NULL_POINTER _ _ sound.null_pointer
            (flows_is on _ _ _ (raised_is on a (mark e).point n e') (t.0 z)))
            (lands_is on n _ _ e' l.0)))))
        hush_exp (plain.Output c j e m) g w b i ob k =
            let h = open_node on a ob in
            let s = part_exp on a e h.1 in
            let q = flows_is on w _ _ i s.0.enters in
            let l = open_leaves on a s.1 in
            let ks = kept_app on a (checks.exp_checks on.table g.own e) _ k.0 in
            hush_node on (restores_of on a m.point w i h.0) b
            (tail_paid on _
            (tail_part on q s.0.leaves _
            (λ b. hush_exp e g q.way b q.there (s.0.obeys q.way q.there) (ks.0, k.1.1, k.2))
            (λ v n i e'. tail_output on sound c j v
            (record {
              context =
                  holds_is on a _ n (λ w. Sees on ((declared on).channel c j) → IsTrue w.context)
                  e' ks.1.1.0;
              effect =
                  holds_is on a _ n
                  (λ w. Sees on ((declared on).channel c j) → Sees on g.own.effect) e' ks.1.1.1.0;
            }) (lands_is on n _ _ e' l.0))))
        hush_exp (plain.Call c j plain.Absent es m) g w b i ob k =
            let h = open_node on a ob in
            let spot = call_spot on a m.point (checks.points_past [] es)
            (body.args_past Entry es) in
            let kr = kept_app on a
            (checks.args_checks on.table g.own es
            ++ checks.arguments on.table g.own ((declared on).method c j).params es)
            (checks.called on.table g.own m.at spot ((declared on).method c j)) k.0 in
            let ks = kept_app on a (checks.args_checks on.table g.own es)
            (checks.arguments on.table g.own ((declared on).method c j).params es) kr.0 in
            hush_node on (restores_of on a m.point w i h.0) b
            (tail_paid on _
            (hush_args es Entry []
            (body.called (declared on) ((declared on).method c j) (body.args_past Entry es)) g w i
            h.1 (ks.0, k.1.3, k.2.1) (calls run c j)
            (λ vs n mv e q. enter_tail on a sound run silent g n c j
            (called_there on a (method_at on.table c j) plain.Absent es k.1.0)
            (calling_of on a sound g (checks.points_past [] es) (body.args_past Entry es) c j n
            m.at e q kr.1) vs (all_made on vs mv))))
        hush_exp (plain.Call c j (plain.Present e) es m) g w b i ob k =
            let h = open_node on a ob in
            let t = part_exp on a e h.1 in
            let q = flows_is on w _ _ i t.0.enters in
            let spot = call_spot on a m.point (checks.points_past ((mark e).point ∷ []) es)
            (body.args_tested es) in
            let kq = kept_app on a
            ((checks.exp_checks on.table g.own e ++ checks.args_checks on.table g.own es)
            ++ checks.arguments on.table g.own ((declared on).method c j).params es)
            (checks.called on.table g.own m.at spot ((declared on).method c j)) k.0 in
            let kr = kept_app on a
            (checks.exp_checks on.table g.own e ++ checks.args_checks on.table g.own es)
            (checks.arguments on.table g.own ((declared on).method c j).params es) kq.0 in
            let ks = kept_app on a (checks.exp_checks on.table g.own e)
            (checks.args_checks on.table g.own es) kr.0 in
            hush_node on (restores_of on a m.point w i h.0) b
            (tail_paid on _
            (tail_part on q t.0.leaves _
            (λ b. hush_exp e g q.way b q.there (t.0.obeys q.way q.there) (ks.0, k.1.2, k.2.0))
            (λ r n ir e'. hush_args es past ((mark e).point ∷ [])
            (body.null_test e (body.args_tested es)
            (rules.Worths (rules.Value (body.args_count es))
            (body.called (declared on) ((declared on).method c j) (body.args_tested es)))) g n e'
            t.1 (ks.1, k.1.3, k.2.1) _
            (λ vs y mv e'' hs. receiver_tail on a sound run silent g y c j e es m.point m.at r vs
            (called_there on a (method_at on.table c j) (plain.Present e) es k.1.0) ir mv
            (subst (λ f. rules.way (lattice on) (a m.point).entry
            (map a (checks.points_past ((mark e).point ∷ []) es)) f ≡ Some y)
            (args_past_past on a es) e'') hs kq.1))))
        hush_exp (plain.Neg e m) g w b i ob k =
            let h = open_node on a ob in
            let s = part_exp on a e h.1 in
            let q = flows_is on w _ _ i s.0.enters in
            let l = open_leaves on a s.1 in
            hush_node on (restores_of on a m.point w i h.0) b
            (tail_paid on _
            (tail_part on q s.0.leaves _
            (λ b. hush_exp e g q.way b q.there (s.0.obeys q.way q.there) k)
            (λ v n j e'. tail_normal on (value.Int (negated (number_of v))) tt
            (lands_is on n _ _ e' l.0))))
        hush_exp (plain.Not e m) g w b i ob k =
            let h = open_node on a ob in
            let s = part_exp on a e h.1 in
            let q = flows_is on w _ _ i s.0.enters in
            let l = open_leaves on a s.1 in
            hush_node on (restores_of on a m.point w i h.0) b
            (tail_paid on _
            (tail_part on q s.0.leaves _
            (λ b. hush_exp e g q.way b q.there (s.0.obeys q.way q.there) k)
            (λ v n j e'. tail_normal on (truth (not (is_true v))) (truth_made on _)
            (lands_is on n _ _ e' l.0))))
        hush_exp (plain.Binary op x y m) g w b i ob k =
            let h = open_node on a ob in
            let s = part_exp on a x h.1 in
            let q = flows_is on w _ _ i s.0.enters in
            let t = part_exp on a y s.1 in
            let pr : Pairwise on a sound m.point op x y = record { sub = t.0; rest = t.1 } in
            let ks = kept_app on a (checks.exp_checks on.table g.own x)
            (checks.exp_checks on.table g.own y) k.0 in
            hush_node on (restores_of on a m.point w i h.0) b
            (tail_paid on _
            (tail_part on q s.0.leaves _
            (λ b. hush_exp x g q.way b q.there (s.0.obeys q.way q.there) (ks.0, k.1.0, k.2.0))
            (λ u n iu e'.
            let z = second_is on a op (mark x).point n (a m.point).entry e' in
            tail_higher on z.higher
            (second_tail on a sound run op x y pr u iu e'
            (λ w e b. hush_exp y g w b e (t.0.obeys w e) (ks.1, k.1.1, k.2.1)) z))))

        -- arguments
        pub hush_args : {p : ℕ} (es : TExps) (from : From) (ps : List ℕ) (more : Rules)
            (g : Frame) (z : Way on) → rules.way (lattice on) (a p).entry (map a ps) from ≡ Some z
            → Has on a p None (map a ps) (body.args (declared on) from es more)
            → AllKept on a (checks.args_checks on.table g.own es) × ExpsName on.table es
            × ExpsMake on.table g.own.is_static es → (next : List MVal → Task)
            → ((vs : List MVal) (k : Way on) → AllMade on vs
            → rules.way (lattice on) (a p).entry (map a (checks.points_past ps es))
            (body.args_past from es) ≡ Some k
            → Has on a p None (map a (checks.points_past ps es)) more
            → Tail on g k (exits on a p) (next vs))
            → Tail on g z (exits on a p) (eval_all on.table run es next)
        hush_args plain.NoExps from ps more g z i ob k next h = h [] z tt i ob
        hush_args {p} (plain.More e es) from ps more g z i ob k next h =
            let t = part_exp on a e ob in
            let q = flows_is on z _ _ i t.0.enters in
            let ks = kept_app on a (checks.exp_checks on.table g.own e)
            (checks.args_checks on.table g.own es) k.0 in
            tail_part on q t.0.leaves _
            (λ b. hush_exp e g q.way b q.there (t.0.obeys q.way q.there) (ks.0, k.1.0, k.2.0))
            (λ v n iv e'. hush_args es past ((mark e).point ∷ ps) more g n e' t.1
            (ks.1, k.1.1, k.2.1) (λ vs. next (v ∷ vs))
            (λ vs y mv e'' hs. h (v ∷ vs) y (iv, mv)
            (subst (λ f. rules.way (lattice on) (a p).entry
            (map a (checks.points_past ((mark e).point ∷ ps) es)) f ≡ Some y)
            (args_past_past on a es) e'') hs))
