-- What closed facts keep, the least facts over sets of numbers keep.
use Rattle.std.proofs.Common.{ℕ, ◌&&◌, Option, Some, None, List, [], ◌∷◌, refl}
use Rattle.std.specs.Prelude.{map}
use Rattle.par_bits.specs.Sets.{union}
use Rattle.par_pass_laws.specs.par_typed.declared.table.Table.{Table}
use Rattle.par_pass_laws.specs.par_program_laws.Lattice.{numbers, joined}
use Rattle.par_pass_laws.specs.par_program_laws.Ways as rules
use Rattle.par_pass_laws.specs.par_program_laws.Facts.{Facts}
use Rattle.par_pass_laws.specs.par_program_laws.Rules.{way, Holds}
use Rattle.par_pass_laws.specs.Exits.{Way}
use Rattle.par_pass_laws.specs.Low.{IsLow, FlowsUnder, MayFlow}
use Rattle.par_pass_laws.proofs.Order.{sub_trans}
use Rattle.par_pass_laws.proofs.Instances.{seen}
use Rattle.par_pass_laws.proofs.Under.{AreAllLow, way_low}
use Rattle.par_check_laws.specs.Asked.{Condition, Open, Released, Worth, Joined, Context, Effect}
use Rattle.par_check_laws.specs.Asked.{Among}
use Rattle.par_check_laws.specs.Asked.{Never, Check}
use Rattle.par_check_laws.specs.Keeps.{Satisfies}
use Rattle.par_check_laws.specs.Verdict.{among, given, Seeing, KeepsSeen, KeepsNumbered}
use Rattle.par_check_laws.specs.Laws.{LeastFactsThatFailRefuse}
use Rattle.par_check_laws.proofs.Monotone.{joined_more, joined_below, more_open}

module _ (table : Table) (f : Facts numbers) (a : Seeing table)
    (low : (point : ℕ) → IsLow (among table) (seen table.policies) (f point) (a point)) where
  parts_low : (ps : List ℕ) → AreAllLow (among table) (seen table.policies) (map f ps) (map a ps)
  parts_low [] = tt
  parts_low (p ∷ ps) = (low p, parts_low ps)

  satisfied : (w : Way) (x : rules.Way (among table))
      → FlowsUnder (among table) (seen table.policies) w x → (c : Condition)
      → Satisfies (among table) (λ p. p) (given table) a x c
      → Satisfies numbers (joined table.policies) (given table) f w c
  unfolding seen
  satisfied w x h (Open locks) k = sub_trans _ _ _ k h.lands.locks
  satisfied w x h (Released v p) k = λ actor locks s.
      let few =
      joined_below table.policies (f v).value (a v).value (low v).value actor _ (k actor locks s) in
      joined_more table.policies (f v).value actor _ _
      (more_open locks x.locks w.locks h.lands.locks) few
  satisfied w x h (Worth v p) k =
      λ actor locks s. joined_below table.policies (f v).value (a v).value (low v).value actor locks
      (k actor locks s)
  satisfied w x h (Joined v p) k = λ actor locks s.
      joined_below table.policies (union (f v).value w.context)
      (λ actor locks. (a v).value actor locks && x.context actor locks)
      ((seen table.policies).joined (f v).value w.context (a v).value x.context
      (low v).value h.context) actor locks (k actor locks s)
  satisfied w x h (Context p) k =
      λ actor locks s. joined_below table.policies w.context x.context h.context actor locks
      (k actor locks s)
  satisfied w x h (Effect e p) k = k
  satisfied w x h (Among locks those) k = k
  satisfied w x h Never k = absurd k

  holds : (o : Option Way) (p : Option (rules.Way (among table)))
      → MayFlow (among table) (seen table.policies) o p → (c : Condition)
      → Holds (among table) p (λ x. Satisfies (among table) (λ p. p) (given table) a x c)
      → Holds numbers o (λ w. Satisfies numbers (joined table.policies) (given table) f w c)
  holds None p h c k = tt
  holds (Some w) None h c k = absurd h
  holds (Some w) (Some x) h c k = satisfied w x h c k

  pub kept_below : (c : Check) → KeepsSeen table a c → KeepsNumbered table f c
  kept_below c k =
      let spot = c.spot in
      holds (way numbers (f spot.point).entry (map f spot.parts) spot.from)
      (way (among table) (a spot.point).entry (map a spot.parts) spot.from)
      (way_low (among table) (seen table.policies) (f spot.point).entry (a spot.point).entry
      (map f spot.parts) (map a spot.parts) (low spot.point).entry (parts_low spot.parts) spot.from)
      c.condition k

pub fail_refuse : LeastFactsThatFailRefuse
fail_refuse table b f least c asked fails a closed = record {
  check = c;
  asked = asked;
  rule_is = refl;
  at_is = refl;
  broken = λ k. fails (kept_below table f a (least a closed) c k);
}
