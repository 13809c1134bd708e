-- What facts over sets of numbers keep, the policies that the sets stand for keep.
use Rattle.std.proofs.Common.{◌≡◌, ℕ, Option, Some, None, List, [], ◌∷◌, refl, ap, subst}
use Rattle.std.specs.Prelude.{map}
use Rattle.std.proofs.lemmas.Bool.{and_from}
use Rattle.par_bits.specs.Sets.{Set, IsWithin, union}
use Rattle.par_pass_laws.specs.par_typed.declared.table.Table.{Table}
use Rattle.par_pass_laws.specs.par_program_laws.Lattice.{numbers, joined, IsSeenBelow}
use Rattle.par_pass_laws.specs.par_program_laws.Ways as rules
use Rattle.par_pass_laws.specs.par_program_laws.Ways.{Flows, MayFlow}
use Rattle.par_pass_laws.specs.par_program_laws.Facts.{Facts}
use Rattle.par_pass_laws.specs.par_program_laws.Declares.{declares}
use Rattle.par_pass_laws.specs.par_program_laws.Rules.{way, Holds}
use Rattle.par_pass_laws.specs.Exits.{Way}
use Rattle.par_pass_laws.proofs.Order.{sub_trans, union_l, union_r}
use Rattle.par_pass_laws.proofs.Along.{as_way, as_may, as_facts, as_all, way_lower, closed_along}
use Rattle.par_pass_laws.proofs.Along.{stand_for}
use Rattle.par_check_laws.specs.Asked.{Condition, Open, Released, Worth, Joined, Context, Effect}
use Rattle.par_check_laws.specs.Asked.{Among}
use Rattle.par_check_laws.specs.Asked.{Never, Check}
use Rattle.par_check_laws.specs.Keeps.{Satisfies}
use Rattle.par_check_laws.specs.Verdict.{among, given, KeepsSeen, KeepsNumbered}
use Rattle.par_check_laws.specs.Laws.{ClosedFactsThatKeepAccept}
use Rattle.par_check_laws.proofs.Monotone.{joined_more, more_open}

module _ (table : Table) (f : Facts numbers) where
  -- the facts over policies that these stand for
  abbrev pub meant : Facts (among table)
  meant = as_facts (among table) (stand_for table.policies) f

  joined_order_at : (s t : Set) → IsWithin s t
      → IsSeenBelow (joined table.policies s) (joined table.policies t)
  unfolding stand_for
  joined_order_at s t h = (stand_for table.policies).order s t h

  parts_meant : (ps : List ℕ) → as_all (among table) (stand_for table.policies) (map f ps)
      ≡ map meant ps
  parts_meant [] = refl
  parts_meant (p ∷ ps) = ap (λ fs. meant p ∷ fs) (parts_meant ps)

  satisfied : (w : Way) (x : rules.Way (among table))
      → Flows (among table) x (as_way (among table) (stand_for table.policies) w) → (c : Condition)
      → Satisfies numbers (joined table.policies) (given table) f w c
      → Satisfies (among table) (λ p. p) (given table) meant x c
  unfolding stand_for
  satisfied w x h (Open locks) k = sub_trans _ _ _ k h.lands.locks
  satisfied w x h (Released v p) k = λ actor locks s.
      joined_more table.policies (f v).value actor _ _
      (more_open locks w.locks x.locks h.lands.locks) (k actor locks s)
  satisfied w x h (Worth v p) k = k
  satisfied w x h (Joined v p) k = λ actor locks s.
      let all = k actor locks s in
      let value =
      joined_order_at (f v).value (union (f v).value w.context)
      (union_l (f v).value w.context) actor locks all in
      let context =
      joined_order_at w.context (union (f v).value w.context)
      (union_r (f v).value w.context) actor locks all in
      and_from (joined table.policies (f v).value actor locks) (x.context actor locks) value
      (h.context actor locks context)
  satisfied w x h (Context p) k = λ actor locks s. h.context actor locks (k actor locks s)
  satisfied w x h (Effect e p) k = k
  satisfied w x h (Among locks those) k = k
  satisfied w x h Never k = absurd k

  holds : (o : Option Way) (p : Option (rules.Way (among table)))
      → MayFlow (among table) p (as_may (among table) (stand_for table.policies) o)
      → (c : Condition)
      → Holds numbers o (λ w. Satisfies numbers (joined table.policies) (given table) f w c)
      → Holds (among table) p (λ x. Satisfies (among table) (λ p. p) (given table) meant x c)
  holds o None h c k = tt
  holds None (Some x) h c k = absurd h
  holds (Some w) (Some x) h c k = satisfied w x h c k

  pub kept : (c : Check) → KeepsNumbered table f c → KeepsSeen table meant c
  kept c k =
      let spot = c.spot in
      let lower =
      way_lower (among table) (stand_for table.policies) (f spot.point).entry
      (map f spot.parts) spot.from in
      holds (way numbers (f spot.point).entry (map f spot.parts) spot.from)
      (way (among table) (meant spot.point).entry (map meant spot.parts) spot.from)
      (subst (λ fs. MayFlow (among table) (way (among table) (meant spot.point).entry fs spot.from)
      (as_may (among table) (stand_for table.policies)
      (way numbers (f spot.point).entry (map f spot.parts) spot.from)))
      (parts_meant spot.parts) lower)
      c.condition k

pub keep_accept : ClosedFactsThatKeepAccept
keep_accept table b f closed keeps = record {
  facts = meant table f;
  closed = closed_along (among table) (stand_for table.policies) f (declares table) b closed;
  kept = λ c asked. kept table f c (keeps c asked);
}
