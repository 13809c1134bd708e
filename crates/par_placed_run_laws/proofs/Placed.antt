-- Two programs that differ only in their places run alike, instruction by instruction.
use Rattle.std.proofs.Common.{◌≡◌, ℕ, zero, suc, ◌+◌, ◌-◌, Bool, true, false, not, ◌&&◌, List, []}
use Rattle.std.proofs.Common.{◌∷◌, Option, Some, None}
use Rattle.std.proofs.Common.{length, refl, ap, sym, ◌∙◌, subst}
use Rattle.std.specs.Prelude.{ℤ, pos, ◌+ℤ◌, nat_lt}
use Rattle.std.proofs.lemmas.Bool.{or_parts, or_from}
use Rattle.par_values.specs.declared.value.MVal.{MVal}
use Rattle.par_values.specs.declared.value.MVal.TheVariants.{Ref}
use Rattle.par_values.specs.Areas.{Name, Areas, next_number, with_object}
use Rattle.par_values.specs.Operations.{Operation, takes, gives}
use Rattle.par_values.specs.Reasons.{throws, Spot, reasons, reason, least_from, lacks, misgiven}
use Rattle.par_values.specs.Reasons.{unfit, exceeds, misplaced, falls, misnamed, disagrees}
use Rattle.par_values.specs.Reasons.{misreturns, misused}
use Rattle.par_values.specs.declared.run.Event.TheVariants as ev
use Rattle.std.specs.Prelude.{if◌then◌else◌}
use Rattle.par_values.specs.Effects.{Effect, Goes, Happens, Jumps, Calls, Throws, ThrowsObject}
use Rattle.par_values.specs.Effects.{Returns, ReturnsWith, effect}
use Rattle.par_values.specs.Ran.{Ran, with_event}
use Rattle.par_step_laws.specs.par_secrecy.Shows.{IsFine}
use Rattle.par_step_laws.specs.State.{Frame, State}
use Rattle.par_step_laws.specs.Handlers.{caught_by}
use Rattle.par_step_laws.specs.Step.{Turn, Silent, Shows, Ends, IsBad, areas_of, without_locks}
use Rattle.par_step_laws.specs.Step.{or_2}
use Rattle.par_step_laws.specs.Step.{next_of, number_of_class, thrown_to}
use Rattle.par_step_laws.specs.Run.{followed}
use Rattle.par_match_laws.specs.Engine.{Found, Program, turn, run, caught}
use Rattle.par_match_laws.specs.Engine as gen
use Rattle.par_placed_run_laws.specs.Relocated.{Places, there, moved, moved_all, moved_state}
use Rattle.par_placed_run_laws.specs.Relocated.{moved_to}
use Rattle.par_placed_run_laws.specs.Relocated.{Shifts, Kin, IsPlaced, IsReal, AreReal, moved_turn}
use Rattle.par_placed_run_laws.specs.Relocated.{IsGood, below, SameTurns, SameRuns}

un_not : (b : Bool) → not b ≡ false → b ≡ true
un_not true h = refl
un_not false h = cc

abbrev AllFalse : List Bool → Type 0
AllFalse [] = Unit {0}
AllFalse (b ∷ bs) = (b ≡ false) × AllFalse bs

all_false : (n : ℕ) (bs : List Bool) → least_from n bs ≡ None → AllFalse bs
all_false n [] h = tt
all_false n (true ∷ bs) h = cc
all_false n (false ∷ bs) h = (refl, all_false (suc n) bs h)

none_applies : (n : ℕ) (bs : List Bool) → AllFalse bs → least_from n bs ≡ None
none_applies n [] h = refl
none_applies n (true ∷ bs) h = cc
none_applies n (false ∷ bs) h = none_applies (suc n) bs h.1

flags : (ns : List Name) (sp : Spot) (o : Operation) (a : Areas) → reason ns sp o a ≡ None
    → AllFalse (reasons ns sp o a)
unfolding reason
flags ns sp o a h = all_false 1 (reasons ns sp o a) h

no_flags : (ns : List Name) (sp : Spot) (o : Operation) (a : Areas)
    → AllFalse (reasons ns sp o a) → reason ns sp o a ≡ None
unfolding reason
no_flags ns sp o a h = none_applies 1 (reasons ns sp o a) h

or_2_none : (b : Bool) (r : Option ℕ) → or_2 b r ≡ None → (b ≡ false) × (r ≡ None)
or_2_none false r h = (refl, h)
or_2_none true None h = cc
or_2_none true (Some n) h = cc

module _ (p : Program) (places : Places) where
  abbrev off : ℕ → ℕ → ℕ → ℕ
  off = places.off

  abbrev found2 : (class method at : ℕ) → Option Found
  found2 = places.found

  abbrev stands2 : (class method : ℕ) → ℤ → Bool
  stands2 = places.stands

  abbrev handler2 : (thrown class method at : ℕ) → Option ℕ
  handler2 = places.handler

  module _ (pl : IsPlaced p places) where
    caught-moved : (x : ℕ) (fs : List Frame) → AreReal p places fs
        → caught (there p places) x (moved_all p places fs) ≡ moved_all p places (caught p x fs)
    unfolding caught
    caught-moved x [] h = refl
    caught-moved x (f ∷ fs) h =
        ap (λ o. caught_by o (moved p places f) (moved_all p places fs)
        (caught (there p places) x (moved_all p places fs)))
        (pl.handled x f.class f.method f.at h.0.0 h.0.1)
        ∙ ap (λ r. caught_by (moved_to p places f.class f.method (p.handler x f.class f.method
        f.at)) (moved p places f) (moved_all p places fs) r) (caught-moved x fs h.1)
        ∙ pick (p.handler x f.class f.method f.at) (caught p x fs)
      where
        pick : (o : Option ℕ) (rest : List Frame)
            → caught_by (moved_to p places f.class f.method o) (moved p places f)
            (moved_all p places fs) (moved_all p places rest) ≡ moved_all p places (caught_by o
            f fs rest)
        pick None rest = refl
        pick (Some q) rest = refl

    lost-moved : (fs : List Frame) → gen.is_lost p fs ≡ false
        → gen.is_lost (there p places) (moved_all p places fs) ≡ false
    lost-moved [] h = refl
    lost-moved (f ∷ fs) h = ap not (pl.stands_same f.class f.method f.at (un_not _ h))

    roomless-moved : (fs : List Frame) → gen.is_roomless (there p places)
        (moved_all p places fs) ≡ gen.is_roomless p fs
    roomless-moved [] = refl
    roomless-moved (f ∷ fs) = refl

    handlers-moved : (o : Option ℕ) (fs : List Frame) → AreReal p places fs
        → gen.handlers (there p places) o (moved_all p places fs) ≡ moved_all p places
        (gen.handlers p o fs)
    handlers-moved None fs h = refl
    handlers-moved (Some x) fs h = caught-moved x fs h

    to-moved : (v : MVal) (x : ℕ) (fs : List Frame) (a : Areas)
        → Rattle.par_step_laws.specs.Step.thrown_to p.names v x (moved_all p places fs) a
        ≡ moved_turn p places (Rattle.par_step_laws.specs.Step.thrown_to p.names v x fs a)
    to-moved v x [] a = refl
    to-moved v x (f ∷ fs) a = refl

    throws-moved : (v : MVal) (o : Option ℕ) (fs : List Frame) (a : Areas) → AreReal p places fs
        → gen.throws (there p places) v o (moved_all p places fs) a ≡ moved_turn p places
        (gen.throws p v o fs a)
    throws-moved v None fs a h = refl
    throws-moved v (Some x) fs a h =
        ap (λ gs. Rattle.par_step_laws.specs.Step.thrown_to p.names v x gs a) (caught-moved x fs h)
        ∙ to-moved v x (caught p x fs) a

    past-moved : (f : Frame) → IsReal p places f → gen.past (there p places)
        (moved p places f) ≡ moved p places (gen.past p f)
    past-moved f h =
        let y = pl.found_there f.class f.method f.at h.0 h.1 in
        ap (λ z. record f { at = off f.class f.method f.at + gen.size_found z }) y.1
        ∙ ap (λ n. record f { at = n }) (y.2).size
        ∙ ap (λ z. record f { at = off f.class f.method (f.at + gen.size_found z) }) (sym h.1)

    returned-moved : (fs : List Frame) (s : State) → AreReal p places fs
        → gen.returned (there p places) (moved_all p places fs)
        (moved_state p places s) ≡ moved_turn p places (gen.returned p fs s)
    returned-moved [] s h = refl
    returned-moved (f ∷ fs) s h = ap (λ g. Silent (record s {
      frames = g ∷ moved_all p places fs;
    })) (past-moved f h.0)

    returned-with-moved : (v : MVal) (fs : List Frame) (s : State) → AreReal p places fs
        → gen.returned_with (there p places) v (moved_all p places fs)
        (moved_state p places s) ≡ moved_turn p places (gen.returned_with p v fs s)
    returned-with-moved v [] s h = refl
    returned-with-moved v (f ∷ fs) s h = ap (λ (g : Frame). Silent (record s {
      frames = record g {
        operands = v ∷ f.operands;
      } ∷ moved_all p places fs;
    })) (past-moved f h.0)

    applied-moved : (e d : Effect) (n m : ℕ) (f : Frame) (fs : List Frame) (s : State)
        → AreReal p places (f ∷ fs) → Shifts p places f.class f.method f.at e d
        → off f.class f.method f.at + m ≡ off f.class f.method (f.at + n)
        → gen.applied (there p places) d m (moved p places f) (moved_all p places fs)
        (moved_state p places s) ≡ moved_turn p places (gen.applied p e n f fs s)
    applied-moved (Goes a) d n m f fs s h sh e =
        ap (λ d. gen.applied (there p places) d m (moved p places f) (moved_all p places fs)
        (moved_state p places s)) sh
        ∙ ap (λ q. Silent (Rattle.par_step_laws.specs.Step.state_with
        (Rattle.par_step_laws.specs.Step.moved q a f ∷ moved_all p places fs) a)) e
    applied-moved (Happens v a) d n m f fs s h sh e =
        ap (λ d. gen.applied (there p places) d m (moved p places f) (moved_all p places fs)
        (moved_state p places s)) sh
        ∙ ap (λ q. Shows v (Rattle.par_step_laws.specs.Step.state_with
        (Rattle.par_step_laws.specs.Step.moved q a f ∷ moved_all p places fs) a)) e
    applied-moved (Jumps z a) d n m f fs s h sh e =
        ap (λ d. gen.applied (there p places) d m (moved p places f) (moved_all p places fs)
        (moved_state p places s)) sh.2
        ∙ ap (λ q. Silent (Rattle.par_step_laws.specs.Step.state_with
        (Rattle.par_step_laws.specs.Step.moved (Rattle.par_step_laws.specs.Step.offset q) a f ∷
        moved_all p places fs) a)) sh.4
        ∙ ap (λ q. Silent (Rattle.par_step_laws.specs.Step.state_with
        (Rattle.par_step_laws.specs.Step.moved (off f.class f.method
        (Rattle.par_step_laws.specs.Step.offset q)) a f ∷ moved_all p places fs) a)) (sym sh.3)
    applied-moved (Calls c i l vs a) d n m f fs s h sh e = ap (λ d. gen.applied (there p places) d
        m (moved p places f) (moved_all p places fs) (moved_state p places s)) sh
    applied-moved (Throws name) d n m f fs s h sh e =
        let x = p.exception_named name in
        let a = areas_of f s in
        ap (λ d. gen.applied (there p places) d m (moved p places f) (moved_all p places fs)
        (moved_state p places s)) sh
        ∙ throws-moved (Rattle.par_values.specs.declared.value.MVal.TheVariants.Ref x
        (Rattle.par_values.specs.Areas.next_number x a)) (Some x) (f ∷ fs)
        (Rattle.par_values.specs.Areas.with_object x [] a) h
    applied-moved (ThrowsObject v) d n m f fs s h sh e =
        ap (λ d. gen.applied (there p places) d m (moved p places f) (moved_all p places fs)
        (moved_state p places s)) sh
        ∙ throws-moved v (Rattle.par_step_laws.specs.Step.number_of_class v) (f ∷ fs)
        (areas_of f s) h
    applied-moved Returns d n m f fs s h sh e =
        ap (λ d. gen.applied (there p places) d m (moved p places f) (moved_all p places fs)
        (moved_state p places s)) sh ∙ returned-moved fs s h.1
    applied-moved (ReturnsWith v) d n m f fs s h sh e =
        ap (λ d. gen.applied (there p places) d m (moved p places f) (moved_all p places fs)
        (moved_state p places s)) sh ∙ returned-with-moved v fs s h.1

    keep : (v : Rattle.par_values.specs.declared.run.Event.Event) (c m q : ℕ) (a : Areas)
        → Shifts p places c m q (Rattle.par_step_laws.specs.Step.unless_lock v a)
        (Rattle.par_step_laws.specs.Step.unless_lock v a)
    keep (ev.Out x y n) c m q a = refl
    keep (ev.Put x i y n) c m q a = refl
    keep (ev.Born x i) c m q a = refl
    keep (ev.Set x y n) c m q a = pick (Rattle.std.specs.Str.bytes_eq x
        (Rattle.std.specs.Prelude.codes "paragon/Locks"))
      where
        pick : (b : Bool) → Shifts p places c m q (if b then Goes a else Happens (ev.Set x y n) a)
            (if b then Goes a else Happens (ev.Set x y n) a)
        pick true = refl
        pick false = refl

    shifts-without : (e d : Effect) (c m q : ℕ) → Shifts p places c m q e d
        → Shifts p places c m q (without_locks e) (without_locks d)
    shifts-without (Goes a) d c m q h = ap without_locks h
    shifts-without (Happens v a) d c m q h = subst (λ d. Shifts p places c m q (without_locks
        (Happens v a)) (without_locks d)) (sym h) (keep v c m q a)
    shifts-without (Jumps z a) d c m q h = (h.0, h.1, ap without_locks h.2, h.3, h.4)
    shifts-without (Calls x y l vs a) d c m q h = ap without_locks h
    shifts-without (Throws n) d c m q h = ap without_locks h
    shifts-without (ThrowsObject v) d c m q h = ap without_locks h
    shifts-without Returns d c m q h = ap without_locks h
    shifts-without (ReturnsWith v) d c m q h = ap without_locks h

    -- the same instruction, where no reason stands against it
    decided-moved : (x y : Found) (f : Frame) (fs : List Frame) (s : State)
        → AreReal p places (f ∷ fs) → Kin p places f.class f.method f.at x y
        → gen.decided (there p places) None y (moved p places f) (moved_all p places fs)
        (moved_state p places s) ≡ moved_turn p places (gen.decided p None x f fs s)
    decided-moved x y f fs s h k =
        let e = effect p.names x.op (areas_of f s) in
        let d = effect p.names y.op (areas_of f s) in
        applied-moved (without_locks e) (without_locks d) x.size y.size f fs s h (shifts-without e
        d f.class f.method f.at (k.effect_same (areas_of f s))) k.size

    throws-same : (e d : Effect) (c m q : ℕ) → Shifts p places c m q e d → throws d ≡ throws e
    throws-same (Goes a) d c m q h = ap throws h
    throws-same (Happens v a) d c m q h = ap throws h
    throws-same (Jumps z a) d c m q h = ap throws h.2
    throws-same (Calls x y l vs a) d c m q h = ap throws h
    throws-same (Throws n) d c m q h = ap throws h
    throws-same (ThrowsObject v) d c m q h = ap throws h
    throws-same Returns d c m q h = ap throws h
    throws-same (ReturnsWith v) d c m q h = ap throws h

    thrown-same : (e d : Effect) (c m q : ℕ) → Shifts p places c m q e d
        → gen.thrown_class (there p places) d ≡ gen.thrown_class p e
    thrown-same (Goes a) d c m q h = ap (gen.thrown_class p) h
    thrown-same (Happens v a) d c m q h = ap (gen.thrown_class p) h
    thrown-same (Jumps z a) d c m q h = ap (gen.thrown_class p) h.2
    thrown-same (Calls x y l vs a) d c m q h = ap (gen.thrown_class p) h
    thrown-same (Throws n) d c m q h = ap (gen.thrown_class p) h
    thrown-same (ThrowsObject v) d c m q h = ap (gen.thrown_class p) h
    thrown-same Returns d c m q h = ap (gen.thrown_class p) h
    thrown-same (ReturnsWith v) d c m q h = ap (gen.thrown_class p) h

    next-unless : (v : Rattle.par_values.specs.declared.run.Event.Event) (a : Areas) (at size : ℕ)
        → next_of (Rattle.par_step_laws.specs.Step.unless_lock v a) at size ≡ pos (at + size)
    next-unless (ev.Out x y n) a at size = refl
    next-unless (ev.Put x i y n) a at size = refl
    next-unless (ev.Born x i) a at size = refl
    next-unless (ev.Set x y n) a at size = pick (Rattle.std.specs.Str.bytes_eq x
        (Rattle.std.specs.Prelude.codes "paragon/Locks"))
      where
        pick : (b : Bool) → next_of (if b then Goes a else Happens (ev.Set x y n) a) at size ≡ pos
            (at + size)
        pick true = refl
        pick false = refl

    falls-moved : (e d : Effect) (c m q n k : ℕ) (l1 l2 : Bool) → Shifts p places c m q e d
        → off c m q + k ≡ off c m (q + n) → (l1 ≡ false → l2 ≡ false)
        → falls (p.stands c m (next_of (without_locks e) q n)) l1 e ≡ false
        → falls (stands2 c m (next_of (without_locks d) (off c m q) k)) l2 d ≡ false
    falls-moved (Goes a) d c m q n k l1 l2 h s l f =
        ap (λ d. falls (stands2 c m (next_of (without_locks d) (off c m q) k)) l2 d) h
        ∙ ap (λ r. not (stands2 c m (pos r))) s ∙ ap not (pl.stands_same c m (q + n)
        (un_not _ f))
    falls-moved (Happens v a) d c m q n k l1 l2 h s l f =
        ap (λ d. falls (stands2 c m (next_of (without_locks d) (off c m q) k)) l2 d) h
        ∙ ap (λ z. not (stands2 c m z)) (next-unless v a (off c m q) k)
        ∙ ap (λ r. not (stands2 c m (pos r))) s
        ∙ ap not (pl.stands_same c m (q + n) (sym (ap (λ z. p.stands c m z)
        (next-unless v a q n)) ∙ un_not _ f))
    falls-moved (Jumps z a) d c m q n k l1 l2 h s l f =
        ap (λ d. falls (stands2 c m (next_of (without_locks d) (off c m q) k)) l2 d) h.2
        ∙ ap (λ r. not (stands2 c m r)) h.4
        ∙ ap not (pl.stands_same c m h.1 (sym (ap (λ z. p.stands c m z) h.3) ∙ un_not _ f))
    falls-moved (Calls x y i vs a) d c m q n k l1 l2 h s l f =
        ap (λ d. falls (stands2 c m (next_of (without_locks d) (off c m q) k)) l2 d) h
        ∙ ap (λ r. not (stands2 c m (pos r))) s ∙ ap not (pl.stands_same c m (q + n)
        (un_not _ f))
    falls-moved (Throws x) d c m q n k l1 l2 h s l f = ap (λ d. falls (stands2 c m (next_of
        (without_locks d) (off c m q) k)) l2 d) h ∙ l f
    falls-moved (ThrowsObject v) d c m q n k l1 l2 h s l f = ap (λ d. falls (stands2 c m (next_of
        (without_locks d) (off c m q) k)) l2 d) h ∙ l f
    falls-moved Returns d c m q n k l1 l2 h s l f = ap (λ d. falls (stands2 c m (next_of
        (without_locks d) (off c m q) k)) l2 d) h
    falls-moved (ReturnsWith v) d c m q n k l1 l2 h s l f = ap (λ d. falls (stands2 c m (next_of
        (without_locks d) (off c m q) k)) l2 d) h

    -- no reason stands against it on the other side either
    reason-moved : (x y : Found) (f : Frame) (fs : List Frame) (a : Areas)
        → AreReal p places (f ∷ fs) → Kin p places f.class f.method f.at x y
        → gen.reason_against p x f fs a ≡ None
        → gen.reason_against (there p places) y (moved p places f)
        (moved_all p places fs) a ≡ None
    reason-moved x y f fs a h k none =
        let e = effect p.names x.op a in
        let d = effect p.names y.op a in
        let sh = k.effect_same a in
        let both = or_2_none (gen.is_misreceived p x.wants_exception a)
        (reason p.names (gen.spot p f fs x.size (without_locks e)) x.op a) none in
        let sp = gen.spot p f fs x.size (without_locks e) in
        let sp2 = gen.spot (there p places) (moved p places f)
        (moved_all p places fs) y.size (without_locks d) in
        let fl = flags p.names sp x.op a both.1 in
        let gs = gen.handlers p (gen.thrown_class p (without_locks e)) (f ∷ fs) in
        let hs : gen.handlers (there p places) (gen.thrown_class (there p places)
        (without_locks d)) (moved_all p places (f ∷ fs)) ≡ moved_all p places gs =
        ap (λ o. gen.handlers (there p places) o (moved_all p places (f ∷ fs)))
        (thrown-same (without_locks e) (without_locks d) f.class f.method f.at (shifts-without
        e d f.class f.method f.at sh))
        ∙ handlers-moved (gen.thrown_class p (without_locks e)) (f ∷ fs) h in
        let one = or_parts _ _ fl.1.0 in
        let two = or_parts _ _ fl.1.1.0 in
        let r : reason p.names sp2 y.op a ≡ None =
        no_flags p.names sp2 y.op a (
          ap (λ ks. nat_lt (length a.operands) (length ks)) k.takes_same ∙ fl.0,
          (
            or_from _ _ (k.stays sp2 sp a refl refl ∙ one.0)
                (ap (λ ks. not (Rattle.par_values.specs.Reasons.all_fit p.names ks a.operands))
                k.takes_same ∙ one.1),
            (
              or_from _ _ (ap (λ gs. gen.is_roomless (there p places) gs && throws d) hs
                  ∙ ap (λ b. b && throws d) (roomless-moved gs)
                  ∙ ap (λ b. gen.is_roomless p gs && b) (throws-same e d f.class f.method f.at sh)
                  ∙ two.0)
                  (ap (λ ks. nat_lt (p.room f.class f.method)
                  (length a.operands - length ks + gives y.op)) k.takes_same
                  ∙ ap (λ n. nat_lt (p.room f.class f.method)
                  (length a.operands - length (takes x.op) + n)) k.gives_same ∙ two.1),
              (
                k.placed a ∙ fl.1.1.1.0,
                (
                  falls-moved e d f.class f.method f.at x.size y.size (gen.is_lost p gs)
                      (gen.is_lost (there p places) (gen.handlers (there p places)
                      (gen.thrown_class (there p places) (without_locks d))
                      (moved_all p places (f ∷ fs)))) sh k.size
                      (λ q. ap (gen.is_lost (there p places)) hs ∙ lost-moved gs q) fl.1.1.1.1.0,
                  (
                    k.named ∙ fl.1.1.1.1.1.0,
                    (
                      k.agrees ∙ fl.1.1.1.1.1.1.0,
                      (
                        k.comes sp2 sp refl refl
                            ∙ fl.1.1.1.1.1.1.1.0,
                        (k.used a ∙ fl.1.1.1.1.1.1.1.1.0, tt),
                      ),
                    ),
                  ),
                ),
              ),
            ),
          ),
        ) in
        ap (λ b. or_2 b (reason p.names sp2 y.op a)) (k.wants a both.0) ∙ r

    -- one instruction is the same on both sides
    pub turn-moved : (s : State) → AreReal p places s.frames → IsGood p places (turn p s)
        → turn (there p places) (moved_state p places s) ≡ moved_turn p places (turn p s)
    unfolding turn
    turn-moved s h good = pick s.frames h good
      where
        finish : (f : Frame) (fs : List Frame) (s : State) (x y : Found)
            → AreReal p places (f ∷ fs) → Kin p places f.class f.method f.at x y → (r : Option ℕ)
            → gen.reason_against p x f fs (areas_of f s) ≡ r
            → IsGood p places (gen.decided p r x f fs s)
            → gen.turn_at (there p places) (Some y) (moved p places f) (moved_all p places fs)
            (moved_state p places s) ≡ moved_turn p places (gen.decided p r x f fs s)
        finish f fs s x y h k (Some r) e g = absurd g
        finish f fs s x y h k None e g =
            ap (λ r. gen.decided (there p places) r y (moved p places f) (moved_all p places fs)
            (moved_state p places s)) (reason-moved x y f fs (areas_of f s) h k e)
            ∙ decided-moved x y f fs s h k

        pick : (frames : List Frame) → AreReal p places frames
            → IsGood p places (gen.turn_of p frames s)
            → gen.turn_of (there p places) (moved_all p places frames)
            (moved_state p places s) ≡ moved_turn p places (gen.turn_of p frames s)
        pick [] h g = refl
        pick (f ∷ fs) h g =
            let y = pl.found_there f.class f.method f.at h.0.0 h.0.1 in
            ap (λ z. gen.turn_at (there p places) z (moved p places f) (moved_all p places fs)
            (moved_state p places s)) y.1
            ∙ finish f fs s h.0.0 y.0 h y.2 (gen.reason_against p h.0.0 f fs (areas_of f s)) refl
            (subst (λ z. IsGood p places (gen.turn_at p z f fs s)) h.0.1 g)
            ∙ ap (λ z. moved_turn p places (gen.turn_at p z f fs s)) (sym h.0.1)

    good_of : (t : Turn) (rest : State → Ran)
        → IsFine (Rattle.par_step_laws.specs.Run.followed t rest).ending → IsGood p places t
    good_of (Silent s) rest h = tt
    good_of (Shows e s) rest h = tt
    good_of (Ends e) rest h = tt
    good_of (IsBad c m o r) rest h = let e = h.1 in cc

    -- ---- frames below the first stand at instructions

    abbrev BelowReal : Turn → Type 0
    BelowReal (Silent s) = AreReal p places (below s.frames)
    BelowReal (Shows e s) = AreReal p places (below s.frames)
    BelowReal (Ends e) = Unit {0}
    BelowReal (IsBad c m o r) = Unit {0}

    caught-real : (x : ℕ) (fs : List Frame) → AreReal p places fs
        → AreReal p places (below (caught p x fs))
    unfolding caught
    caught-real x [] h = tt
    caught-real x (f ∷ fs) h =
        pick (p.handler x f.class f.method f.at) (caught p x fs) (caught-real x fs h.1)
      where
        pick : (o : Option ℕ) (rest : List Frame) → AreReal p places (below rest)
            → AreReal p places (below (caught_by o f fs rest))
        pick None rest k = k
        pick (Some q) rest k = h.1

    thrown-real : (v : MVal) (x : ℕ) (fs : List Frame) (a : Areas) → AreReal p places (below fs)
        → BelowReal (thrown_to p.names v x fs a)
    thrown-real v x [] a h = tt
    thrown-real v x (f ∷ fs) a h = h

    throws-real : (v : MVal) (o : Option ℕ) (fs : List Frame) (a : Areas) → AreReal p places fs
        → BelowReal (gen.throws p v o fs a)
    throws-real v None fs a h = tt
    throws-real v (Some x) fs a h = thrown-real v x (caught p x fs) a (caught-real x fs h)

    returned-real : (fs : List Frame) (s : State) → AreReal p places fs
        → BelowReal (gen.returned p fs s)
    returned-real [] s h = tt
    returned-real (f ∷ fs) s h = h.1

    returned-with-real : (v : MVal) (fs : List Frame) (s : State) → AreReal p places fs
        → BelowReal (gen.returned_with p v fs s)
    returned-with-real v [] s h = tt
    returned-with-real v (f ∷ fs) s h = h.1

    -- a call leaves the caller at its invoke
    applied-real : (e : Effect) (n : ℕ) (f : Frame) (fs : List Frame) (s : State)
        → AreReal p places (f ∷ fs) → BelowReal (gen.applied p e n f fs s)
    applied-real (Goes a) n f fs s h = h.1
    applied-real (Happens v a) n f fs s h = h.1
    applied-real (Jumps z a) n f fs s h = h.1
    applied-real (Calls c i l vs a) n f fs s h = h
    applied-real (Throws name) n f fs s h =
        let x = p.exception_named name in
        let a = areas_of f s in
        throws-real (Ref x (next_number x a)) (Some x) (f ∷ fs) (with_object x [] a) h
    applied-real (ThrowsObject v) n f fs s h =
        throws-real v (number_of_class v) (f ∷ fs) (areas_of f s) h
    applied-real Returns n f fs s h = returned-real fs s h.1
    applied-real (ReturnsWith v) n f fs s h = returned-with-real v fs s h.1

    decided-real : (r : Option ℕ) (x : Found) (f : Frame) (fs : List Frame) (s : State)
        → AreReal p places (f ∷ fs) → BelowReal (gen.decided p r x f fs s)
    decided-real (Some r) x f fs s h = tt
    decided-real None x f fs s h =
        applied-real (gen.done_by p x.op (areas_of f s)) x.size f fs s h

    turn-real : (s : State) → AreReal p places s.frames → BelowReal (turn p s)
    unfolding turn
    turn-real s h = pick s.frames h
      where
        at : (o : Option Found) (f : Frame) (fs : List Frame) → AreReal p places (f ∷ fs)
            → BelowReal (gen.turn_at p o f fs s)
        at None f fs h = tt
        at (Some x) f fs h =
            decided-real (gen.reason_against p x f fs (areas_of f s)) x f fs s h

        pick : (frames : List Frame) → AreReal p places frames
            → BelowReal (gen.turn_of p frames s)
        pick [] h = tt
        pick (f ∷ fs) h = at (p.found f.class f.method f.at) f fs h

    -- a turn that is no bad code is that of a frame at an instruction
    first-real : (s : State) → AreReal p places (below s.frames) → IsGood p places (turn p s)
        → AreReal p places s.frames
    unfolding turn
    first-real s h good = pick s.frames h good
      where
        stands : (f : Frame) (fs : List Frame) (o : Option Found)
            → p.found f.class f.method f.at ≡ o → IsGood p places (gen.turn_at p o f fs s)
            → IsReal p places f
        stands f fs None e g = absurd g
        stands f fs (Some x) e g = (x, e)

        pick : (frames : List Frame) → AreReal p places (below frames)
            → IsGood p places (gen.turn_of p frames s) → AreReal p places frames
        pick [] h g = tt
        pick (f ∷ fs) h g = (stands f fs (p.found f.class f.method f.at) refl g, h)

    follows : (t : Turn) (one other : State → Ran) → BelowReal t
        → IsFine (followed t other).ending
        → ((s : State) → AreReal p places (below s.frames) → IsFine (other s).ending
        → one (moved_state p places s) ≡ other s)
        → followed (moved_turn p places t) one ≡ followed t other
    follows (Silent s) one other r h k = k s r h
    follows (Shows e s) one other r h k = ap (with_event e) (k s r h)
    follows (Ends e) one other r h k = refl
    follows (IsBad c m o r') one other r h k = refl

    -- whole runs that end fine are the same, instruction by instruction
    pub run-moved : (m : ℕ) (s : State) → AreReal p places (below s.frames)
        → IsFine (run p m s).ending
        → run (there p places) m (moved_state p places s) ≡ run p m s
    run-moved zero s h fine = refl
    run-moved (suc m) s h fine =
        let g = good_of (turn p s) (run p m) fine in
        let real = first-real s h g in
        ap (λ t. followed t (run (there p places) m)) (turn-moved s real g)
        ∙ follows (turn p s) (run (there p places) m) (run p m) (turn-real s real) fine
        (run-moved m)

pub same_turns : SameTurns
same_turns p places pl = turn-moved p places pl

pub same_runs : SameRuns
same_runs p places pl = run-moved p places pl
