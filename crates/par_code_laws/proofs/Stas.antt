-- Statements without policies.
use Rattle.std.proofs.Common.{◌≡◌, ℕ, Bool, true, false, ◌||◌, ◌==◌, if◌then◌else◌, List, ◌∷◌}
use Rattle.std.proofs.Common.{Option, Some, refl, ap, sym, ◌∙◌, subst, slice_get}
use Rattle.std.specs.Prelude.{IsTrue, nat_eq}
use Rattle.std.proofs.lemmas.Bool.{eqb-true, eq-eqb, or_left, or_right}
use Rattle.par_policy.specs.Numbers.{has}
use Rattle.par_typed.specs.declared.table.Table.{Table}
use Rattle.par_typed.specs.Plain as plain
use Rattle.par_typed.specs.Plain.{TExp, TSta, TStas, MayTSta, TCatches, mark}
use Rattle.par_values.specs.declared.run.Event.TheVariants.{Set, Put}
use Rattle.par_values.specs.declared.value.MVal.{MVal}
use Rattle.par_completes.specs.Typed.{completes}
use Rattle.par_program_laws.specs.Locals.{IsSet, behind}
use Rattle.par_program_laws.specs.Forms.{Setting, SetsLocal}
use Rattle.par_program_laws.specs.Proper.{ExpIsProper, MayExpIsProper}
use Rattle.par_program_laws.specs.Proper.{StaIsProper, ElseIsProper, AllAreProper, CatchesAreProper}
use Rattle.par_run_laws.specs.Names.{field_named}
use Rattle.par_run_laws.specs.State.{put, set_local, set_result, set_static, set_field}
use Rattle.par_run_laws.specs.Tasks.{Task, nothing, fine, change, happens, named, and_then}
use Rattle.par_run_laws.specs.Values.{is_true, object_number, shown_value}
use Rattle.par_run_laws.specs.Meaning.{writes_static, writes_field, Calls, eval, go, go_else}
use Rattle.par_run_laws.specs.Meaning.{go_all}
use Rattle.par_run_laws.specs.Meaning.{go_catch}
use Rattle.par_erase.specs.Asked.{Locks, only, either, asks, else_asks, all_ask, catches_ask}
use Rattle.par_erase.specs.Erased.{erased_table, erased_exp, erased_may, erased_sta, erased_else}
use Rattle.par_erase.specs.Erased.{erased_all, erased_catches, set_if}
use Rattle.par_code_laws.proofs.Names.{same_field, same_value}
use Rattle.par_code_laws.proofs.Tasks.{IsObject, Locals, Known, Does, does_of, does_gives}
use Rattle.par_code_laws.proofs.Tasks.{does_broken, does_continued, does_returned, does_thrown}
use Rattle.par_code_laws.proofs.Tasks.{does_paid, does_change, does_happens, does_then, does_if}
use Rattle.par_code_laws.proofs.Tasks.{does_named, does_tested, does_turns, does_caught}
use Rattle.par_code_laws.proofs.Tasks.{does_asked}
use Rattle.par_code_laws.proofs.Tasks.{does_opened, does_closed, does_unopened, does_unclosed}
use Rattle.par_code_laws.proofs.Tasks.{local_outside, result_outside, static_outside}
use Rattle.par_code_laws.proofs.Tasks.{field_outside, field_leaves}
use Rattle.par_code_laws.proofs.Exps.{Pairs, Holds, Valued, does_value, erased_unsure, exp_does}

-- what a statement leaves set stays set
stays : (s : TSta) (set : List ℕ) (j : ℕ) → IsSet set j → IsSet (behind set s) j
unfolding behind
stays (plain.Block ss at p) set j h = h
stays (plain.If e s o at p) set j h = h
stays (plain.While e s at p) set j h = h
stays (plain.Try s cs at p) set j h = h
stays (plain.Return o at p) set j h = h
stays (plain.Break at p) set j h = h
stays (plain.Continue at p) set j h = h
stays (plain.Throw c at p) set j h = h
stays (plain.Open l at p) set j h = h
stays (plain.Close l at p) set j h = h
stays (plain.SetLocal x q e at p) set j h = or_right (nat_eq x j) (has set j) h
stays (plain.SetStatic c f e at p) set j h = h
stays (plain.SetField o c f e at p) set j h = h
stays (plain.Eval e at p) set j h = h
stays (plain.When l s o at p) set j h = h

-- these locks are among those
abbrev pub Within : Locks → Locks → Type 0
Within asked asked_for = (l : ℕ) → IsTrue (asked l) → IsTrue (asked_for l)

module _ (p q asked_for : Locks) (within : Within (either p q) asked_for) where
  pub left_within : Within p asked_for
  unfolding either
  left_within l h = within l (or_left (p l) (q l) h)

  pub right_within : Within q asked_for
  unfolding either
  right_within l h = within l (or_right (p l) (q l) h)

-- the lock of a `when`
has_only : (l : ℕ) → IsTrue (only l l)
unfolding only
has_only l = eq-eqb l l refl

-- ---- writes

does_static : (t : Table) (asked_for : Locks) (P : Known) (c f : ℕ) (v : MVal)
    → Does t asked_for P (λ v. P) P (writes_static t c f v) (writes_static (erased_table t) c f v)
does_static t asked_for P c f v =
    subst (λ o. Does t asked_for P (λ v. P) P (writes_static t c f v)
    (named o (λ m. happens (Set m.class m.name (shown_value (erased_table t) v))
    (change (set_static c f v) fine)))) (sym (same_field t c f))
    (subst (λ w. Does t asked_for P (λ v. P) P (writes_static t c f v)
    (named (field_named t c f) (λ m. happens (Set m.class m.name w)
    (change (set_static c f v) fine)))) (sym (same_value t v))
    (does_named t asked_for P (λ v. P) P (field_named t c f) _ (λ none x p. p)
    (λ m. does_happens t asked_for P (λ v. P) P _ _ _
    (does_change t asked_for P P (λ v. P) P (set_static c f v) fine fine
    (static_outside t asked_for c f v) (λ s p. p)
    (does_gives t asked_for P (λ v. P) P nothing (λ x p. p))))))

does_field : (t : Table) (asked_for : Locks) (P : Known) (c f : ℕ) (r v : MVal)
    → Does t asked_for P (λ v. P) P (writes_field t c f r v)
    (writes_field (erased_table t) c f r v)
does_field t asked_for P c f r v =
    subst (λ o. Does t asked_for P (λ v. P) P (writes_field t c f r v)
    (named o (λ m. happens
    (Put m.class (object_number r) m.name (shown_value (erased_table t) v))
    (change (set_field c (object_number r) f v) fine)))) (sym (same_field t c f))
    (subst (λ w. Does t asked_for P (λ v. P) P (writes_field t c f r v)
    (named (field_named t c f) (λ m. happens (Put m.class (object_number r) m.name w)
    (change (set_field c (object_number r) f v) fine)))) (sym (same_value t v))
    (does_named t asked_for P (λ v. P) P (field_named t c f) _ (λ none x p. p)
    (λ m. does_happens t asked_for P (λ v. P) P _ _ _
    (does_change t asked_for P P (λ v. P) P (set_field c (object_number r) f v) fine fine
    (field_outside t asked_for c (object_number r) f v)
    (field_leaves t asked_for c (object_number r) f v P)
    (does_gives t asked_for P (λ v. P) P nothing (λ x p. p))))))

module _ (st : Setting) (asked_for : Locks) where
  -- what is known of locals before a statement is known behind it
  forget : (s : TSta) (set : List ℕ) (x : Locals) → Holds st asked_for (behind set s) x
      → Holds st asked_for set x
  forget s set x h j is = h j (stays s set j is)

  -- a local that is set
  put_holds : (set : List ℕ) (x : ℕ) (q : Option ℕ) (e : TExp) (v : MVal) (locals : Locals)
      → SetsLocal st x q e → ((mark e).sure ≡ true → IsObject v) → Holds st asked_for set locals
      → Holds st asked_for (x ∷ set) (put locals x v)
  put_holds set x q e v locals sets object h j is sure =
      by_place (j == x) refl (nat_eq x j) refl is
    where
      by_place : (b : Bool) → (j == x) ≡ b → (c : Bool) → nat_eq x j ≡ c
          → IsTrue (c || has set j) → IsObject (if b then v else locals j)
      by_place true here c turned is =
          let at = eqb-true j x here in
          let same : Some sets.sure ≡ Some true =
          sym sets.local_sure ∙ ap (slice_get st.sures) (sym at) ∙ sure in
          object (sets.given.sure cc)
      by_place false here true turned is =
          let yes : IsTrue (j == x) = eq-eqb j x (sym (eqb-true x j turned)) in
          absurd cc
      by_place false here false turned is = h j is sure

  module _ (run run' : Calls) (pairs : Pairs st.table asked_for run run') (m : ℕ) where
    -- from locals that are set to others, a statement shows the same
    abbrev Shows : List ℕ → List ℕ → Task → Task → Type 0
    Shows set after c d =
        Does st.table asked_for (Holds st asked_for set) (λ v. Holds st asked_for after)
        (Holds st asked_for set) c d

    -- a value, and then a task
    on_value : (e : TExp) (set after : List ℕ) (next next' : MVal → Task) → ExpIsProper st set e
        → ((v : MVal) → ((mark e).sure ≡ true → IsObject v)
        → Shows set after (next v) (next' v))
        → Shows set after (and_then (eval st.table run e) next)
        (and_then (eval (erased_table st.table) run' (erased_exp st.table e)) next')
    on_value e set after next next' h k =
        does_value st asked_for set (mark e).sure (λ v. Holds st asked_for after) _ _ next next'
        (exp_does st asked_for run run' pairs e set h) k

    -- what a statement sets is forgotten behind it
    loosely : (s : TSta) (set : List ℕ) (c d : Task) → Shows set (behind set s) c d
        → Shows set set c d
    loosely s set c d h =
        does_of st.table asked_for (Holds st asked_for set) (Holds st asked_for set)
        (λ v. Holds st asked_for (behind set s)) (λ v. Holds st asked_for set)
        (Holds st asked_for set) (Holds st asked_for set) c d (λ x q. q)
        (λ v x q. forget s set x q) (λ x q. q) h

    -- nothing is done
    does_fine : (set : List ℕ) → Shows set set fine fine
    does_fine set =
        does_gives st.table asked_for (Holds st asked_for set) (λ v. Holds st asked_for set)
        (Holds st asked_for set) nothing (λ x h. h)

    -- a lock is opened, in the second run where some `when` asks for it
    does_open : (set : List ℕ) (l at p : ℕ) (b : Bool) → asked_for l ≡ b
        → Shows set set (go st.table run m (plain.Open l at p))
        (go (erased_table st.table) run' m (set_if b l true))
    unfolding go
    does_open set l at p true e =
        does_paid st.table asked_for _ _ _ _ _
        (does_opened st.table asked_for (Holds st asked_for set) (λ v. Holds st asked_for set)
        (Holds st asked_for set) l (λ x h. h))
    does_open set l at p false e =
        does_paid st.table asked_for _ _ _ _ _
        (does_unopened st.table asked_for (Holds st asked_for set) (λ v. Holds st asked_for set)
        (Holds st asked_for set) l e (λ x h. h))

    does_close : (set : List ℕ) (l at p : ℕ) (b : Bool) → asked_for l ≡ b
        → Shows set set (go st.table run m (plain.Close l at p))
        (go (erased_table st.table) run' m (set_if b l false))
    unfolding go
    does_close set l at p true e =
        does_paid st.table asked_for _ _ _ _ _
        (does_closed st.table asked_for (Holds st asked_for set) (λ v. Holds st asked_for set)
        (Holds st asked_for set) l (λ x h. h))
    does_close set l at p false e =
        does_paid st.table asked_for _ _ _ _ _
        (does_unclosed st.table asked_for (Holds st asked_for set) (λ v. Holds st asked_for set)
        (Holds st asked_for set) l e (λ x h. h))

    mutual
      unfolding go go_else go_all go_catch erased_sta erased_else erased_all erased_catches
          erased_may StaIsProper ElseIsProper AllAreProper CatchesAreProper MayExpIsProper behind
          asks else_asks all_ask catches_ask

      -- a statement
      pub sta_does : (s : TSta) (looped : Bool) (set : List ℕ) → StaIsProper st looped set s
          → Within (asks s) asked_for
          → Shows set (behind set s) (go st.table run m s)
          (go (erased_table st.table) run' m (erased_sta st.table asked_for s))
      sta_does (plain.Block ss at p) looped set h w =
          does_paid st.table asked_for _ _ _ _ _ (all_do ss looped true set h w)
      sta_does (plain.If e s o at p) looped set h w =
          does_paid st.table asked_for _ _ _ _ _
          (on_value e set set _ _ h.1
          (λ v object. does_if st.table asked_for _ _ _ (is_true v) _ _ _ _
          (loosely s set _ _
          (sta_does s looped set h.2 (left_within (asks s) (else_asks o) asked_for w)))
          (else_does o looped set h.3 (right_within (asks s) (else_asks o) asked_for w))))
      sta_does (plain.While e s at p) looped set h w =
          does_turns st.table asked_for (Holds st asked_for set) (λ v. Holds st asked_for set) m
          is_true _ _ _ _ (λ v x q. q)
          (does_of st.table asked_for (Holds st asked_for set) (Holds st asked_for set)
          (Valued st asked_for set (mark e).sure) (λ v. Holds st asked_for set)
          (Holds st asked_for set) (Holds st asked_for set) _ _ (λ x q. q) (λ v x q. q.0)
          (λ x q. q) (exp_does st asked_for run run' pairs e set h.1))
          (loosely s set _ _ (sta_does s true set h.2 w))
      sta_does (plain.Try s cs at p) looped set h w =
          does_paid st.table asked_for _ _ _ _ _
          (does_caught st.table asked_for (Holds st asked_for set) (λ v. Holds st asked_for set)
          (Holds st asked_for set) _ _ _ _
          (loosely s set _ _
          (sta_does s looped set h.0 (left_within (asks s) (catches_ask cs) asked_for w)))
          (λ j. catches_do cs j looped set h.1
          (right_within (asks s) (catches_ask cs) asked_for w)))
      sta_does (plain.Return plain.Absent at p) looped set h w =
          does_paid st.table asked_for _ _ _ _ _
          (does_returned st.table asked_for (Holds st asked_for set)
          (λ v. Holds st asked_for set) nothing)
      sta_does (plain.Return (plain.Present e) at p) looped set h w =
          does_paid st.table asked_for _ _ _ _ _
          (on_value e set set _ _ h.1
          (λ v object. does_change st.table asked_for (Holds st asked_for set)
          (Holds st asked_for set) (λ v. Holds st asked_for set) (Holds st asked_for set)
          (set_result v) _ _ (result_outside st.table asked_for v) (λ s q. q)
          (does_returned st.table asked_for (Holds st asked_for set)
          (λ v. Holds st asked_for set) nothing)))
      sta_does (plain.Break at p) looped set h w =
          does_paid st.table asked_for _ _ _ _ _
          (does_broken st.table asked_for (Holds st asked_for set)
          (λ v. Holds st asked_for set) nothing)
      sta_does (plain.Continue at p) looped set h w =
          does_paid st.table asked_for _ _ _ _ _
          (does_continued st.table asked_for (Holds st asked_for set)
          (λ v. Holds st asked_for set) nothing)
      sta_does (plain.Throw c at p) looped set h w =
          does_paid st.table asked_for _ _ _ _ _
          (does_thrown st.table asked_for (Holds st asked_for set)
          (λ v. Holds st asked_for set) c nothing)
      sta_does (plain.Open l at p) looped set h w = does_open set l at p (asked_for l) refl
      sta_does (plain.Close l at p) looped set h w = does_close set l at p (asked_for l) refl
      sta_does (plain.SetLocal x q e at p) looped set h w =
          does_paid st.table asked_for _ _ _ _ _
          (on_value e set (x ∷ set) _ _ h.1
          (λ v object. does_change st.table asked_for (Holds st asked_for set)
          (Holds st asked_for (x ∷ set)) (λ v. Holds st asked_for (x ∷ set))
          (Holds st asked_for set) (set_local x v) _ _ (local_outside st.table asked_for x v)
          (λ s k. put_holds set x q e v s.locals h.0 object k)
          (does_gives st.table asked_for (Holds st asked_for (x ∷ set))
          (λ v. Holds st asked_for (x ∷ set)) (Holds st asked_for set) nothing (λ y k. k))))
      sta_does (plain.SetStatic c f e at p) looped set h w =
          does_paid st.table asked_for _ _ _ _ _
          (on_value e set set _ _ h.1
          (λ v object. does_static st.table asked_for (Holds st asked_for set) c f v))
      sta_does (plain.SetField o c f e at p) looped set h w =
          does_paid st.table asked_for _ _ _ _ _
          (on_value o set set _ _ h.2
          (λ r object. on_value e set set _ _ h.3
          (λ v other. does_tested st.table asked_for (Holds st asked_for set)
          (λ v. Holds st asked_for set) (mark o).sure (mark (erased_exp st.table o)).sure r _ _
          (erased_unsure st.table o) object
          (λ is. does_field st.table asked_for (Holds st asked_for set) c f r v))))
      sta_does (plain.Eval e at p) looped set h w =
          does_paid st.table asked_for _ _ _ _ _
          (on_value e set set _ _ h (λ v object. does_fine set))
      sta_does (plain.When l s o at p) looped set h w =
          let parts = right_within (only l) (either (asks s) (else_asks o)) asked_for w in
          does_paid st.table asked_for _ _ _ _ _
          (does_asked st.table asked_for _ _ _ l _ _ _ _
          (left_within (only l) (either (asks s) (else_asks o)) asked_for w l (has_only l))
          (loosely s set _ _
          (sta_does s looped set h.1 (left_within (asks s) (else_asks o) asked_for parts)))
          (else_does o looped set h.2 (right_within (asks s) (else_asks o) asked_for parts)))

      pub else_does : (o : MayTSta) (looped : Bool) (set : List ℕ) → ElseIsProper st looped set o
          → Within (else_asks o) asked_for
          → Shows set set (go_else st.table run m o)
          (go_else (erased_table st.table) run' m (erased_else st.table asked_for o))
      else_does plain.NoElse looped set h w = does_fine set
      else_does (plain.Otherwise s) looped set h w = loosely s set _ _ (sta_does s looped set h w)

      pub all_do : (ss : TStas) (looped reached : Bool) (set : List ℕ)
          → AllAreProper st looped reached set ss → Within (all_ask ss) asked_for
          → Shows set set (go_all st.table run m ss)
          (go_all (erased_table st.table) run' m (erased_all st.table asked_for ss))
      all_do plain.End looped reached set h w = does_fine set
      all_do (plain.Then s ss) looped reached set h w =
          does_then st.table asked_for (Holds st asked_for set)
          (λ v. Holds st asked_for (behind set s)) (λ v. Holds st asked_for set)
          (Holds st asked_for set) _ _ _ _
          (sta_does s looped set h.1 (left_within (asks s) (all_ask ss) asked_for w))
          (λ v. does_of st.table asked_for (Holds st asked_for (behind set s))
          (Holds st asked_for (behind set s)) (λ v. Holds st asked_for (behind set s))
          (λ v. Holds st asked_for set) (Holds st asked_for (behind set s))
          (Holds st asked_for set) _ _ (λ x q. q) (λ v x q. forget s set x q)
          (λ x q. forget s set x q)
          (all_do ss looped (completes s) (behind set s) h.2
          (right_within (asks s) (all_ask ss) asked_for w)))

      pub catches_do : (cs : TCatches) (c : ℕ) (looped : Bool) (set : List ℕ)
          → CatchesAreProper st looped set cs → Within (catches_ask cs) asked_for
          → Shows set set (go_catch st.table run m cs c)
          (go_catch (erased_table st.table) run' m (erased_catches st.table asked_for cs) c)
      catches_do plain.NoCatch c looped set h w =
          does_thrown st.table asked_for (Holds st asked_for set)
          (λ v. Holds st asked_for set) c nothing
      catches_do (plain.Catch d s cs) c looped set h w =
          does_if st.table asked_for _ _ _ (d == c) _ _ _ _
          (loosely s set _ _
          (sta_does s looped set h.1 (left_within (asks s) (catches_ask cs) asked_for w)))
          (catches_do cs c looped set h.2 (right_within (asks s) (catches_ask cs) asked_for w))
