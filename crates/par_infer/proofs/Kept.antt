-- Facts over sets of numbers, and what they stand for.
use Rattle.std.proofs.Common.{◌≡◌, ℕ, ◌&&◌, Option, Some, None, List, [], ◌∷◌, refl, ap, subst}
use Rattle.std.specs.Prelude.{map}
use Rattle.par_bits.specs.Sets.{union}
use Rattle.par_program_laws.specs.Lattice.{Seen, numbers}
use Rattle.par_program_laws.specs.Ways as rules
use Rattle.par_program_laws.specs.Ways.{Flows, MayFlow}
use Rattle.par_program_laws.specs.Facts.{Facts}
use Rattle.par_program_laws.specs.Rules.{way, Holds}
use Rattle.par_pass_laws.specs.Exits.{Way}
use Rattle.par_pass_laws.specs.Low as lower
use Rattle.par_pass_laws.specs.Low.{IsLow, FlowsUnder}
use Rattle.par_pass_laws.proofs.Order.{sub_trans, union_l, union_r}
use Rattle.std.proofs.lemmas.Bool.{and_from}
use Rattle.par_pass_laws.proofs.Along.{as_way, as_may, as_facts, as_all, way_lower}
use Rattle.par_pass_laws.proofs.Under.{AreAllLow, way_low}
use Rattle.par_check.specs.par_check_laws.Asked.{Condition, Open, Released, Worth, Joined}
use Rattle.par_check.specs.par_check_laws.Asked.{Context}
use Rattle.par_check.specs.par_check_laws.Asked.{Effect, Among}
use Rattle.par_check.specs.par_check_laws.Asked.{Never, Check}
use Rattle.par_check.proofs.par_check_laws.Monotone.{more_open}
use Rattle.par_pass_laws.specs.Seens.{given_of, join_of, seen_as}
use Rattle.par_infer.specs.Seens.{IsPolicy}
use Rattle.par_check.specs.par_check_laws.Keeps.{Satisfies, Keeps}
use Rattle.par_infer.proofs.Seens.{join_order, join_more, join_below}
use Rattle.par_pass_laws.proofs.Instances.{stands}
use Rattle.par_infer.proofs.Instances.{stand_for}

module _ (ps : List Seen) (policies : (n : ℕ) → IsPolicy (given_of ps n)) where
  module _ (f : Facts numbers) where
    -- the facts over policies that these stand for
    abbrev pub meant : Facts (seen_as ps)
    meant = as_facts (seen_as ps) (stand_for ps) f

    parts_meant : (qs : List ℕ) → as_all (seen_as ps) (stand_for ps) (map f qs) ≡ map meant qs
    parts_meant [] = refl
    parts_meant (q ∷ qs) = ap (λ fs. meant q ∷ fs) (parts_meant qs)

    satisfied : (w : Way) (x : rules.Way (seen_as ps))
        → Flows (seen_as ps) x (as_way (seen_as ps) (stand_for ps) w) → (c : Condition)
        → Satisfies numbers (join_of ps) (given_of ps) f w c
        → Satisfies (seen_as ps) (λ p. p) (given_of ps) meant x c
    unfolding stand_for
    satisfied w x h (Open locks) k = sub_trans _ _ _ k h.lands.locks
    satisfied w x h (Released v p) k = λ actor locks s.
        join_more ps policies (f v).value actor _ _
        (more_open locks w.locks x.locks h.lands.locks) (k actor locks s)
    satisfied w x h (Worth v p) k = k
    satisfied w x h (Joined v p) k = λ actor locks s.
        let all = k actor locks s in
        let value =
        join_order ps (f v).value (union (f v).value w.context)
        (union_l (f v).value w.context) actor locks all in
        let context =
        join_order ps w.context (union (f v).value w.context)
        (union_r (f v).value w.context) actor locks all in
        and_from (join_of ps (f v).value actor locks) (x.context actor locks) value
        (h.context actor locks context)
    satisfied w x h (Context p) k = λ actor locks s. h.context actor locks (k actor locks s)
    satisfied w x h (Effect e p) k = k
    satisfied w x h (Among locks those) k = k
    satisfied w x h Never k = absurd k

    holds : (o : Option Way) (p : Option (rules.Way (seen_as ps)))
        → MayFlow (seen_as ps) p (as_may (seen_as ps) (stand_for ps) o)
        → (c : Condition)
        → Holds numbers o (λ w. Satisfies numbers (join_of ps) (given_of ps) f w c)
        → Holds (seen_as ps) p (λ x. Satisfies (seen_as ps) (λ p. p) (given_of ps) meant x c)
    holds o None h c k = tt
    holds None (Some x) h c k = absurd h
    holds (Some w) (Some x) h c k = satisfied w x h c k

    pub kept : (c : Check) → Keeps numbers (join_of ps) (given_of ps) f c
        → Keeps (seen_as ps) (λ p. p) (given_of ps) meant c
    kept c k =
        let spot = c.spot in
        let under =
        way_lower (seen_as ps) (stand_for ps) (f spot.point).entry
        (map f spot.parts) spot.from in
        holds (way numbers (f spot.point).entry (map f spot.parts) spot.from)
        (way (seen_as ps) (meant spot.point).entry (map meant spot.parts) spot.from)
        (subst (λ fs. MayFlow (seen_as ps) (way (seen_as ps) (meant spot.point).entry fs spot.from)
        (as_may (seen_as ps) (stand_for ps)
        (way numbers (f spot.point).entry (map f spot.parts) spot.from)))
        (parts_meant spot.parts) under)
        c.condition k

  module _ (f : Facts numbers) (a : Facts (seen_as ps))
      (low : (point : ℕ) → IsLow (seen_as ps) (stands ps) (f point) (a point)) where
    parts_low : (qs : List ℕ) → AreAllLow (seen_as ps) (stands ps) (map f qs) (map a qs)
    parts_low [] = tt
    parts_low (q ∷ qs) = (low q, parts_low qs)

    satisfied_below : (w : Way) (x : rules.Way (seen_as ps))
        → FlowsUnder (seen_as ps) (stands ps) w x → (c : Condition)
        → Satisfies (seen_as ps) (λ p. p) (given_of ps) a x c
        → Satisfies numbers (join_of ps) (given_of ps) f w c
    unfolding stands
    satisfied_below w x h (Open locks) k = sub_trans _ _ _ k h.lands.locks
    satisfied_below w x h (Released v p) k = λ actor locks s.
        let few =
        join_below ps (f v).value (a v).value (low v).value actor _ (k actor locks s) in
        join_more ps policies (f v).value actor _ _
        (more_open locks x.locks w.locks h.lands.locks) few
    satisfied_below w x h (Worth v p) k =
        λ actor locks s. join_below ps (f v).value (a v).value (low v).value actor locks
        (k actor locks s)
    satisfied_below w x h (Joined v p) k = λ actor locks s.
        join_below ps (union (f v).value w.context)
        (λ actor locks. (a v).value actor locks && x.context actor locks)
        ((stands ps).joined (f v).value w.context (a v).value x.context
        (low v).value h.context) actor locks (k actor locks s)
    satisfied_below w x h (Context p) k =
        λ actor locks s. join_below ps w.context x.context h.context actor locks
        (k actor locks s)
    satisfied_below w x h (Effect e p) k = k
    satisfied_below w x h (Among locks those) k = k
    satisfied_below w x h Never k = absurd k

    holds_below : (o : Option Way) (p : Option (rules.Way (seen_as ps)))
        → lower.MayFlow (seen_as ps) (stands ps) o p → (c : Condition)
        → Holds (seen_as ps) p (λ x. Satisfies (seen_as ps) (λ p. p) (given_of ps) a x c)
        → Holds numbers o (λ w. Satisfies numbers (join_of ps) (given_of ps) f w c)
    holds_below None p h c k = tt
    holds_below (Some w) None h c k = absurd h
    holds_below (Some w) (Some x) h c k = satisfied_below w x h c k

    pub kept_below : (c : Check) → Keeps (seen_as ps) (λ p. p) (given_of ps) a c
        → Keeps numbers (join_of ps) (given_of ps) f c
    kept_below c k =
        let spot = c.spot in
        holds_below (way numbers (f spot.point).entry (map f spot.parts) spot.from)
        (way (seen_as ps) (a spot.point).entry (map a spot.parts) spot.from)
        (way_low (seen_as ps) (stands ps) (f spot.point).entry (a spot.point).entry
        (map f spot.parts) (map a spot.parts) (low spot.point).entry (parts_low spot.parts)
        spot.from)
        c.condition k
