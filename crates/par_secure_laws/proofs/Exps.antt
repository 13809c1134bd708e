-- Expressions in two runs.
use Rattle.std.proofs.Common.{◌≡◌, ℕ, Bool, true, false, not, Some, None, List, [], ◌∷◌, ◌++◌}
use Rattle.std.proofs.Common.{refl, ap, sym, ◌∙◌, subst}
use Rattle.std.specs.Prelude.{IsTrue}
use Rattle.par_program_laws.specs.Kinds as kind
use Rattle.par_program_laws.specs.Kinds.{Kind}
use Rattle.par_program_laws.specs.Facts.{Facts}
use Rattle.par_typed.specs.Members.{method_at}
use Rattle.par_program_laws.specs.BodyNames.{ExpsName}
use Rattle.par_program_laws.specs.Makes.{ExpsMake}
use Rattle.par_program_laws.specs.Rules as rules
use Rattle.par_program_laws.specs.Rules.{From, Entry, After, Tested, node, Rules, Node}
use Rattle.par_program_laws.specs.Kinds.{Next, Loop, Catches, Absorber}
use Rattle.par_program_laws.specs.Rules.{can}
use Rattle.par_program_laws.specs.Body.{exp, if_not, args, sta, past}
use Rattle.par_program_laws.specs.Body as body
use Rattle.par_typed.specs.Plain as plain
use Rattle.par_typed.specs.Plain.{TExp, TExps, MayTExp, TSta, TStas, TCatches, Mark, mark, point}
use Rattle.par_alike.specs.par_check_laws.Checks as checks
use Rattle.par_secure_laws.specs.Release.{IsRelease}
use Rattle.std.proofs.Common.{inr}
use Rattle.std.specs.Prelude.{map}
use Rattle.par_typed.specs.Plain.{Body}
use Rattle.par_run_laws.specs.Meaning.{Calls, calls, eval, eval_all}
use Rattle.par_run_laws.specs.Values.{truth, is_true}
use Rattle.par_values.specs.Arithmetic.{negated}
use Rattle.par_program_laws.specs.BodyNames.{ExpNames}
use Rattle.par_program_laws.specs.Makes.{ExpMakes}
use Rattle.par_values.specs.declared.value.MVal.{MVal}
use Rattle.par_values.specs.declared.value.MVal.TheVariants as value
use Rattle.par_values.specs.Areas.{number_of, next}
use Rattle.par_run_laws.specs.Names.{made_named}
use Rattle.par_run_laws.specs.Values.{object_number}
use Rattle.par_run_laws.specs.Meaning.{born}
use Rattle.par_run_laws.specs.Tasks.{Task, tested, NULL_POINTER}
use Rattle.par_alike.proofs.States.{Watch, Frame, IsMade, Restores, Sees, Values, Way}
use Rattle.par_alike.proofs.States.{Writes}
use Rattle.par_alike.proofs.States.{declared, exits, flows_is, flows_raised, lands_is}
use Rattle.par_alike.proofs.States.{lands_raised, lattice, raised, raised_lands}
use Rattle.par_alike.proofs.Leaves.{Sound, step_input, step_named, step_read, tail_read}
use Rattle.par_alike.proofs.Calls.{InStep, Silent}
use Rattle.par_secure_laws.proofs.CallPoints.{Aligned, args_past_past, call_spot, called_static}
use Rattle.par_secure_laws.proofs.CallPoints.{called_there, calling_of, enter_step, enter_tail}
use Rattle.par_secure_laws.proofs.CallPoints.{instance_env, instance_of, method_is, received}
use Rattle.par_secure_laws.proofs.CallPoints.{receiver_tail, static_env, static_of}
use Rattle.par_secure_laws.proofs.Points.{AllKept, Good, Has, Obey, holds_is, kept_app}
use Rattle.par_secure_laws.proofs.Points.{open_if_not}
use Rattle.par_secure_laws.proofs.Points.{open_leaves, open_node, open_worths, part_exp, raised_is}
use Rattle.par_secure_laws.proofs.Points.{restores_of, throws_there}
use Rattle.par_alike.proofs.TwoRuns.{Step, step_body, step_normal, step_paid}
use Rattle.par_alike.proofs.Arguments.{AllMade, AreGiven, all_made, truth_made}
use Rattle.par_alike.proofs.Writes.{step_born, step_output, tail_output}
use Rattle.par_alike.proofs.Parts.{step_part, step_tested}
use Rattle.par_alike.proofs.OneRun.{Tail, tail_higher, tail_normal}
use Rattle.par_secure_laws.proofs.Operators.{Pairwise, Second, binary_step, field_tail, second_is}
use Rattle.par_secure_laws.proofs.Operators.{second_step, second_tail}
use Rattle.par_secure_laws.proofs.QuietExps.{hush_args, hush_exp}

module _ (on : Watch) where
  module _ (a : Facts (lattice on)) where
    module _ (sound : Sound on) (run run' : Calls) (silent : Silent on run)
        (silent' : Silent on run') (paired : InStep on run run') where
      mutual
        unfolding exp mark eval rules.way rules.worth checks.exp_checks ExpNames ExpMakes Aligned

        -- an expression
        pub step_exp : (e : TExp) (g : Frame) (w : Way on) → (a (mark e).point).entry ≡ Some w
            → Obey on a (exp (declared on) e) → Good on a g e
            → Step on g w (exits on a (mark e).point) (Values (a (mark e).point).value)
            (eval on.table run e) (eval on.table run' e)
        step_exp (plain.Int n m) g w i ob k =
            let h = open_node on a ob in
            let l = open_leaves on a h.1 in
            step_paid on _ _
            (step_normal on (value.Int n) (value.Int n) tt tt (lands_is on w _ _ i l.0)
            (λ p. refl))
        step_exp (plain.Boolean v m) g w i ob k =
            let h = open_node on a ob in
            let l = open_leaves on a h.1 in
            step_paid on _ _
            (step_normal on (truth v) (truth v) (truth_made on v) (truth_made on v)
            (lands_is on w _ _ i l.0) (λ p. refl))
        step_exp (plain.Null m) g w i ob k =
            let h = open_node on a ob in
            let l = open_leaves on a h.1 in
            step_paid on _ _
            (step_normal on value.Null value.Null tt tt (lands_is on w _ _ i l.0) (λ p. refl))
        step_exp (plain.This m) g w i ob k =
            let h = open_node on a ob in
            let l = open_leaves on a h.1 in
            step_paid on _ _
            (step_read on (λ s. s.locals 0) (λ s. s.locals 0) (λ s m. m.locals 0)
            (λ s m. m.locals 0) (lands_is on w _ _ i l.0) (λ s t l p. l.this k.2))
        step_exp (plain.New c m) g w i ob k =
            let h = open_node on a ob in
            let l = open_leaves on a h.1 in
            let v = open_worths on a l.1 in
            let q = lands_is on w _ _ i l.0 in
            step_paid on _ _
            (step_named on (made_named on.table c) (born on.table c) (born on.table c) q
            (λ p. refl) (λ name is. step_born on sound c name is q (λ u u' e p. e (v.0 p))))
        step_exp (plain.Local x m) g w i ob k =
            let h = open_node on a ob in
            let l = open_leaves on a h.1 in
            let v = open_worths on a l.1 in
            let seen = λ (p : IsTrue (a m.point).value). subst
            (λ y. IsTrue (rules.held (lattice on) y x)) i (v.0 p) in
            step_paid on _ _
            (step_read on (λ s. s.locals x) (λ s. s.locals x) (λ s m. m.locals x)
            (λ s m. m.locals x) (lands_is on w _ _ i l.0)
            (λ s t l p. l.locals x (seen p) (seen p)))
        step_exp (plain.Static c f m) g w i ob k =
            let h = open_node on a ob in
            let l = open_leaves on a h.1 in
            let v = open_worths on a l.1 in
            step_paid on _ _
            (step_read on (λ s. s.statics c f) (λ s. s.statics c f) (λ s m. m.statics c f)
            (λ s m. m.statics c f) (lands_is on w _ _ i l.0)
            (λ s t l p. l.outer.statics c f (v.0 p)))
        step_exp (plain.Input c j m) g w i ob k =
            let h = open_node on a ob in
            let l = open_leaves on a h.1 in
            let v = open_worths on a l.1 in
            step_paid on _ _
            (step_input on c j k.1 (lands_is on w _ _ i l.0) (λ u u' e p. e (v.0 p)))
        step_exp (plain.Field e c f m) g w i ob k =
            let h = open_node on a ob in
            let s = part_exp on a e h.1 in
            let q = flows_is on w _ _ i s.0.enters in
            let t = open_if_not on a body.tested (kind.Throw NULL_POINTER) (mark e).sure s.1 in
            let l = open_leaves on a t.1 in
            let v = open_worths on a l.1 in
            let v' = open_worths on a v.1 in
            let V = (a (mark e).point).value in
            let rs = restores_of on a m.point w i h.0 in
            let throw = λ (n : Way on) (e' : (a (mark e).point).exit kind.Normal ≡ Some n)
            (z : (mark e).sure ≡ false). throws_there on a NULL_POINTER (raised on n V)
            ((a m.point).exit (kind.Throw 1)) sound.null_pointer
            (flows_is on _ _ _ (raised_is on a (mark e).point n e') (t.0 z)) in
            step_paid on _ _
            (step_part on q s.0.leaves _ _ rs
            (step_exp e g q.way q.there (s.0.obeys q.way q.there) (k.0, k.1.2, k.2))
            (λ u u' n iu iu' e' r.
            let b = lands_is on n _ _ e' l.0 in
            step_tested on (mark e).sure u u' rs (throw n e') r (λ un x y p. absurd (un (v.0 p)))
            (tail_read on (λ s. s.fields c (object_number u) f)
            (λ s m. m.fields c (object_number u) f) (raised_lands on V b))
            (tail_read on (λ s. s.fields c (object_number u') f)
            (λ s m. m.fields c (object_number u') f) (raised_lands on V b))
            (λ sv. step_read on (λ s. s.fields c (object_number u) f)
            (λ s. s.fields c (object_number u') f) (λ s m. m.fields c (object_number u) f)
            (λ s m. m.fields c (object_number u') f) b
            (λ s t l p. l.outer.fields c f k.1.1 (v'.0 p) (object_number u)
            ∙ ap (λ z. t.fields c (object_number z) f) (r sv))))
            (λ u n iu e'. tail_higher on (flows_raised on V)
            (field_tail on a V (mark e).sure u c f (throw n e') (lands_is on n _ _ e' l.0)))
            (λ u n iu e'. tail_higher on (flows_raised on V)
            (field_tail on a V (mark e).sure u c f (throw n e') (lands_is on n _ _ e' l.0))))
        step_exp (plain.Output c j e m) g w i ob k =
            let h = open_node on a ob in
            let s = part_exp on a e h.1 in
            let q = flows_is on w _ _ i s.0.enters in
            let l = open_leaves on a s.1 in
            let ks = kept_app on a (checks.exp_checks on.table g.own e) _ k.0 in
            let wr = λ (n : Way on) (e' : (a (mark e).point).exit kind.Normal ≡ Some n).
            (
            let r : Writes on g n ((declared on).channel c j) = record {
              context =
                  holds_is on a _ n (λ w. Sees on ((declared on).channel c j) → IsTrue w.context)
                  e' ks.1.1.0;
              effect =
                  holds_is on a _ n
                  (λ w. Sees on ((declared on).channel c j) → Sees on g.own.effect) e' ks.1.1.1.0;
            } in
            r) in
            step_paid on _ _
            (step_part on q s.0.leaves _ _ (restores_of on a m.point w i h.0)
            (step_exp e g q.way q.there (s.0.obeys q.way q.there) (ks.0, k.1.1, k.2))
            (λ u u' n iu iu' e' r. step_output on sound c j (a (mark e).point).value u u'
            (λ p. refl)
            (holds_is on a _ n
            (λ w. IsRelease 403
            → on.Release ((declared on).channel c j) (a (mark e).point).value w.locks) e' ks.1.0
            (inr (inr refl))) r (lands_is on n _ _ e' l.0))
            (λ u n iu e'. tail_output on sound c j u (wr n e') (lands_is on n _ _ e' l.0))
            (λ u n iu e'. tail_output on sound c j u (wr n e') (lands_is on n _ _ e' l.0)))
        step_exp (plain.Call c j plain.Absent es m) g w i ob k =
            let h = open_node on a ob in
            let spot = call_spot on a m.point (checks.points_past [] es)
            (body.args_past Entry es) in
            let kr = kept_app on a
            (checks.args_checks on.table g.own es
            ++ checks.arguments on.table g.own ((declared on).method c j).params es)
            (checks.called on.table g.own m.at spot ((declared on).method c j)) k.0 in
            let ks = kept_app on a (checks.args_checks on.table g.own es)
            (checks.arguments on.table g.own ((declared on).method c j).params es) kr.0 in
            let rs = restores_of on a m.point w i h.0 in
            let cs = subst (λ y. (false ≡ not y.is_static) × Aligned on a y.params es)
            (sym (method_is on c j))
            (called_static on a (method_at on.table c j) plain.Absent es k.1.0) in
            let there = called_there on a (method_at on.table c j) plain.Absent es k.1.0 in
            let st = static_of on a ((declared on).method c j).is_static cs.0 in
            step_paid on _ _
            (step_args (a m.point).value es Entry []
            (body.called (declared on) ((declared on).method c j) (body.args_past Entry es))
            ((declared on).method c j).params g w w rs i h.1 (ks.0, k.1.3, k.2.1) ks.1 cs.1
            (calls run c j) (calls run' c j)
            (λ vs vs' n mv mv' gv e q. enter_step on a run run' paired g n w c j there
            (calling_of on a sound g (checks.points_past [] es) (body.args_past Entry es) c j n
            m.at e q kr.1) vs vs' rs (all_made on vs mv) (all_made on vs' mv')
            (static_env on a ((declared on).method c j) st vs vs' gv) (λ z. absurd cc))
            (λ vs n mv e q. enter_tail on a sound run silent g n c j there
            (calling_of on a sound g (checks.points_past [] es) (body.args_past Entry es) c j n
            m.at e q kr.1) vs (all_made on vs mv))
            (λ vs n mv e q. enter_tail on a sound run' silent' g n c j there
            (calling_of on a sound g (checks.points_past [] es) (body.args_past Entry es) c j n
            m.at e q kr.1) vs (all_made on vs mv)))
        step_exp (plain.Call c j (plain.Present e) es m) g w i ob k =
            let h = open_node on a ob in
            let t = part_exp on a e h.1 in
            let q = flows_is on w _ _ i t.0.enters in
            let spot = call_spot on a m.point (checks.points_past ((mark e).point ∷ []) es)
            (body.args_tested es) in
            let kq = kept_app on a
            ((checks.exp_checks on.table g.own e ++ checks.args_checks on.table g.own es)
            ++ checks.arguments on.table g.own ((declared on).method c j).params es)
            (checks.called on.table g.own m.at spot ((declared on).method c j)) k.0 in
            let kr = kept_app on a
            (checks.exp_checks on.table g.own e ++ checks.args_checks on.table g.own es)
            (checks.arguments on.table g.own ((declared on).method c j).params es) kq.0 in
            let ks = kept_app on a (checks.exp_checks on.table g.own e)
            (checks.args_checks on.table g.own es) kr.0 in
            let rs = restores_of on a m.point w i h.0 in
            let V = (a (mark e).point).value in
            let cs = subst (λ y. (true ≡ not y.is_static) × Aligned on a y.params es)
            (sym (method_is on c j))
            (called_static on a (method_at on.table c j) (plain.Present e) es k.1.0) in
            let there = called_there on a (method_at on.table c j) (plain.Present e) es k.1.0 in
            let st = instance_of on a ((declared on).method c j).is_static cs.0 in
            let more = body.null_test e (body.args_tested es)
            (rules.Worths (rules.Value (body.args_count es))
            (body.called (declared on) ((declared on).method c j) (body.args_tested es))) in
            let at_past = λ (y : Way on) (e'' : rules.way (lattice on) (a m.point).entry
            (map a (checks.points_past ((mark e).point ∷ []) es)) (body.args_past past es)
            ≡ Some y). subst
            (λ f. rules.way (lattice on) (a m.point).entry
            (map a (checks.points_past ((mark e).point ∷ []) es)) f ≡ Some y)
            (args_past_past on a es) e'' in
            let tl = λ (run : Calls) (silent : Silent on run) (r : MVal) (n : Way on)
            (ir : IsMade on r) (e' : (a (mark e).point).exit kind.Normal ≡ Some n). hush_args on a
            sound run silent es past ((mark e).point ∷ []) more g n e' t.1 (ks.1, k.1.3, k.2.1)
            (λ vs. tested (mark e).sure r (calls run c j (r ∷ vs)))
            (λ vs y mv e'' hs. receiver_tail on a sound run silent g y c j e es m.point m.at r vs
            there ir mv (at_past y e'') hs kq.1) in
            step_paid on _ _
            (step_part on q t.0.leaves _ _ rs
            (step_exp e g q.way q.there (t.0.obeys q.way q.there) (ks.0, k.1.2, k.2.0))
            (λ r r' n ir ir' e' er. step_args (a m.point).value es past ((mark e).point ∷ []) more
            ((declared on).method c j).params g n w rs e' t.1 (ks.1, k.1.3, k.2.1) kr.1 cs.1 _ _
            (λ vs vs' y mv mv' gv e'' hs.
            let x = received on a sound g y c j e es m.point m.at (at_past y e'') hs kq.1 in
            step_tested on (mark e).sure r r' rs x.throw er (λ un u v p. absurd (un (x.worth p)))
            (enter_tail on a sound run silent g (raised on y V) c j there x.calling (r ∷ vs)
            (all_made on (r ∷ vs) (ir, mv)))
            (enter_tail on a sound run' silent' g (raised on y V) c j there x.calling (r' ∷ vs')
            (all_made on (r' ∷ vs') (ir', mv')))
            (λ sv. step_body on (lands_raised on V)
            (enter_step on a run run' paired g (raised on y V) w c j there x.calling (r ∷ vs)
            (r' ∷ vs') rs (all_made on (r ∷ vs) (ir, mv)) (all_made on (r' ∷ vs') (ir', mv'))
            (instance_env on a ((declared on).method c j) st r r' (er sv) vs vs' gv) (λ z. er sv))))
            (λ vs y mv e'' hs. receiver_tail on a sound run silent g y c j e es m.point m.at r vs
            there ir mv (at_past y e'') hs kq.1)
            (λ vs y mv e'' hs. receiver_tail on a sound run' silent' g y c j e es m.point m.at r'
            vs there ir' mv (at_past y e'') hs kq.1)) (λ r n ir e'. tl run silent r n ir e')
            (λ r n ir e'. tl run' silent' r n ir e'))
        step_exp (plain.Neg e m) g w i ob k =
            let h = open_node on a ob in
            let s = part_exp on a e h.1 in
            let q = flows_is on w _ _ i s.0.enters in
            let l = open_leaves on a s.1 in
            let v = open_worths on a l.1 in
            step_paid on _ _
            (step_part on q s.0.leaves _ _ (restores_of on a m.point w i h.0)
            (step_exp e g q.way q.there (s.0.obeys q.way q.there) k)
            (λ u u' n iu iu' e' r. step_normal on (value.Int (negated (number_of u)))
            (value.Int (negated (number_of u'))) tt tt (lands_is on n _ _ e' l.0)
            (λ p. ap (λ z. value.Int (negated (number_of z))) (r (v.0 p))))
            (λ u n iu e'. tail_normal on (value.Int (negated (number_of u))) tt
            (lands_is on n _ _ e' l.0))
            (λ u n iu e'. tail_normal on (value.Int (negated (number_of u))) tt
            (lands_is on n _ _ e' l.0)))
        step_exp (plain.Not e m) g w i ob k =
            let h = open_node on a ob in
            let s = part_exp on a e h.1 in
            let q = flows_is on w _ _ i s.0.enters in
            let l = open_leaves on a s.1 in
            let v = open_worths on a l.1 in
            step_paid on _ _
            (step_part on q s.0.leaves _ _ (restores_of on a m.point w i h.0)
            (step_exp e g q.way q.there (s.0.obeys q.way q.there) k)
            (λ u u' n iu iu' e' r. step_normal on (truth (not (is_true u)))
            (truth (not (is_true u'))) (truth_made on _) (truth_made on _)
            (lands_is on n _ _ e' l.0) (λ p. ap (λ z. truth (not (is_true z))) (r (v.0 p))))
            (λ u n iu e'. tail_normal on (truth (not (is_true u))) (truth_made on _)
            (lands_is on n _ _ e' l.0))
            (λ u n iu e'. tail_normal on (truth (not (is_true u))) (truth_made on _)
            (lands_is on n _ _ e' l.0)))
        step_exp (plain.Binary op x y m) g w i ob k =
            let h = open_node on a ob in
            let s = part_exp on a x h.1 in
            let q = flows_is on w _ _ i s.0.enters in
            let t = part_exp on a y s.1 in
            let pr : Pairwise on a sound m.point op x y = record { sub = t.0; rest = t.1 } in
            let ks = kept_app on a (checks.exp_checks on.table g.own x)
            (checks.exp_checks on.table g.own y) k.0 in
            let rs = restores_of on a m.point w i h.0 in
            let V = (a (mark x).point).value in
            let tail = λ (run : Calls) (silent : Silent on run) (u : MVal) (n : Way on)
            (iu : IsMade on u) (e' : (a (mark x).point).exit kind.Normal ≡ Some n) (z : Second on
            a op (mark x).point n
            (rules.way (lattice on) (a m.point).entry (a (mark x).point ∷ []) (body.second op))).
            second_tail on a sound run op x y pr {g = g} u iu e'
            (λ w e b. hush_exp on a sound run silent y g w b e (t.0.obeys w e)
            (ks.1, k.1.1, k.2.1)) z in
            step_paid on _ _
            (step_part on q s.0.leaves _ _ rs
            (step_exp x g q.way q.there (s.0.obeys q.way q.there) (ks.0, k.1.0, k.2.0))
            (λ u u' n iu iu' e' r.
            let z = second_is on a op (mark x).point n (a m.point).entry e' in
            let q' = flows_is on z.way _ _ z.is t.0.enters in
            second_step on a sound run run' op x y pr u u' iu iu' e' r rs z
            (binary_step on a sound run run' op x y pr q' u u' rs r
            (step_exp y g q'.way q'.there (t.0.obeys q'.way q'.there) (ks.1, k.1.1, k.2.1)))
            (tail run silent u n iu e' z) (tail run' silent' u' n iu' e' z))
            (λ u n iu e'.
            let z = second_is on a op (mark x).point n (a m.point).entry e' in
            tail_higher on z.higher (tail run silent u n iu e' z))
            (λ u n iu e'.
            let z = second_is on a op (mark x).point n (a m.point).entry e' in
            tail_higher on z.higher (tail run' silent' u n iu e' z)))

        -- arguments, one after the other
        pub step_args : {p : ℕ} (V : Bool) (es : TExps) (from : From) (ps : List ℕ) (more : Rules)
            (params : List ℕ) (g : Frame) (z r : Way on) → Restores on r (exits on a p)
            → rules.way (lattice on) (a p).entry (map a ps) from ≡ Some z
            → Has on a p None (map a ps) (body.args (declared on) from es more)
            → AllKept on a (checks.args_checks on.table g.own es) × ExpsName on.table es
            × ExpsMake on.table g.own.is_static es
            → AllKept on a (checks.arguments on.table g.own params es) → Aligned on a params es
            → (next next' : List MVal → Task)
            → ((vs vs' : List MVal) (k : Way on) → AllMade on vs → AllMade on vs'
            → AreGiven on params vs vs' → rules.way (lattice on) (a p).entry
            (map a (checks.points_past ps es)) (body.args_past from es) ≡ Some k
            → Has on a p None (map a (checks.points_past ps es)) more
            → Step on g k (exits on a p) (Values V) (next vs) (next' vs'))
            → ((vs : List MVal) (k : Way on) → AllMade on vs
            → rules.way (lattice on) (a p).entry (map a (checks.points_past ps es))
            (body.args_past from es) ≡ Some k
            → Has on a p None (map a (checks.points_past ps es)) more
            → Tail on g k (exits on a p) (next vs))
            → ((vs : List MVal) (k : Way on) → AllMade on vs
            → rules.way (lattice on) (a p).entry (map a (checks.points_past ps es))
            (body.args_past from es) ≡ Some k
            → Has on a p None (map a (checks.points_past ps es)) more
            → Tail on g k (exits on a p) (next' vs))
            → Step on g z (exits on a p) (Values V) (eval_all on.table run es next)
            (eval_all on.table run' es next')
        step_args V plain.NoExps from ps more [] g z r rs i ob k ka al next next' h l t =
            h [] [] z tt tt tt i ob
        step_args V plain.NoExps from ps more (q ∷ qs) g z r rs i ob k ka al next next' h l t =
            absurd al
        step_args V (plain.More e es) from ps more [] g z r rs i ob k ka al next next' h l t =
            absurd al
        step_args {p} V (plain.More e es) from ps more (x ∷ xs) g z r rs i ob k ka al next next' h
            l t =
            let u = part_exp on a e ob in
            let q = flows_is on z _ _ i u.0.enters in
            let ks = kept_app on a (checks.exp_checks on.table g.own e)
            (checks.args_checks on.table g.own es) k.0 in
            let at_past = λ (y : Way on) (e'' : rules.way (lattice on) (a p).entry
            (map a (checks.points_past ((mark e).point ∷ ps) es)) (body.args_past past es)
            ≡ Some y). subst
            (λ f. rules.way (lattice on) (a p).entry
            (map a (checks.points_past ((mark e).point ∷ ps) es)) f ≡ Some y)
            (args_past_past on a es) e'' in
            let seen = holds_is on a _ q.way (λ w. Sees on x → IsTrue (a (mark e).point).value)
            q.there ka.0 in
            step_part on q u.0.leaves _ _ rs
            (step_exp e g q.way q.there (u.0.obeys q.way q.there) (ks.0, k.1.0, k.2.0))
            (λ v v' n iv iv' e' er. step_args V es past ((mark e).point ∷ ps) more xs g n r rs e'
            u.1 (ks.1, k.1.1, k.2.1) ka.1 al (λ vs. next (v ∷ vs)) (λ vs. next' (v' ∷ vs))
            (λ vs vs' y mv mv' gv e'' hs. h (v ∷ vs) (v' ∷ vs') y (iv, mv) (iv', mv')
            ((λ vis. er (seen vis)), gv) (at_past y e'') hs)
            (λ vs y mv e'' hs. l (v ∷ vs) y (iv, mv) (at_past y e'') hs)
            (λ vs y mv e'' hs. t (v' ∷ vs) y (iv', mv) (at_past y e'') hs))
            (λ v n iv e'. hush_args on a sound run silent es past ((mark e).point ∷ ps) more g n
            e' u.1 (ks.1, k.1.1, k.2.1) (λ vs. next (v ∷ vs))
            (λ vs y mv e'' hs. l (v ∷ vs) y (iv, mv) (at_past y e'') hs))
            (λ v n iv e'. hush_args on a sound run' silent' es past ((mark e).point ∷ ps) more g n
            e' u.1 (ks.1, k.1.1, k.2.1) (λ vs. next' (v ∷ vs))
            (λ vs y mv e'' hs. t (v ∷ vs) y (iv, mv) (at_past y e'') hs))
