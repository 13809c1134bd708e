-- Conditions that are met where a test says so, if it does not end for want of memory.
use Rattle.std.proofs.Common.{◌≡◌, ◌↔◌, ℕ, Bool, Some, sym, subst}
use Rattle.std.specs.Prelude.{IsTrue, IfOk, Result, Ok, Err, slice_get}
use Rattle.par_bits.specs.Sets.{Set, union}
use Rattle.par_typed.specs.declared.table.Table.{Table}
use Rattle.par_asked.specs.par_program_laws.Lattice.{numbers, joined, seen_by, IsSeenBelow}
use Rattle.par_asked.specs.par_program_laws.Facts.{Facts}
use Rattle.par_asked.specs.par_check_laws.Keeps.{IsSeenBelowAt}
use Rattle.par_asked.specs.par_check_laws.Verdict.{KeepsNumbered}
use Rattle.par_asked.specs.declared.check.Check.{Check}
use Rattle.par_asked.specs.declared.check.Condition.{Condition}
use Rattle.par_asked.specs.declared.check.Condition.TheVariants.{Released, Worth, Joined}
use Rattle.par_asked.specs.declared.check.Condition.TheVariants.{Context, Effect}
use Rattle.par_asked.specs.Seen.{seen_check, seen_condition}
use Rattle.par_flow.specs.declared.known.Known.{Known}
use Rattle.par_flow.specs.Standing.{Standing, stand, stands}
use Rattle.par_check.specs.Meets.{value_of, Meets}
use Rattle.par_check.specs.Spots.{at_spot}
use Rattle.par_check.proofs.Kept.{kept_reached}

abbrev Tells : {E : Type 0} → Result Bool E → Type 0 → Type 0
Tells r P = IfOk r (λ b. IsTrue b ↔ P)

module _ (table : Table) (v : Set) (s : Standing) {E : Type 0} (r : Result Bool E) where
  abbrev TellsBelow : Set → ℕ → Type 0
  TellsBelow set p =
      Tells r (IsSeenBelow (joined table.policies set) (seen_by (slice_get table.policies p)))

  abbrev TellsMet : Condition → Type 0
  TellsMet c = Tells r (Meets table v s (seen_condition c))

  pub met_released : (c : Condition) (e p : ℕ) → c ≡ Released e p
      → Tells r (IsSeenBelowAt (joined table.policies v) s.locks
      (seen_by (slice_get table.policies p)))
      → TellsMet c
  met_released c e p is h = subst TellsMet (sym is) h

  pub met_worth : (c : Condition) (e p : ℕ) → c ≡ Worth e p → TellsBelow v p → TellsMet c
  met_worth c e p is h = subst TellsMet (sym is) h

  pub met_joined : (c : Condition) (e p : ℕ) (set : Set) → c ≡ Joined e p
      → set ≡ union v s.context → TellsBelow set p → TellsMet c
  met_joined c e p set is value h =
      subst TellsMet (sym is) (subst (λ t. TellsBelow t p) value h)

  pub met_context : (c : Condition) (p : ℕ) → c ≡ Context p → TellsBelow s.context p → TellsMet c
  met_context c p is h = subst TellsMet (sym is) h

  pub met_effect : (c : Condition) (e p : ℕ) → c ≡ Effect e p
      → Tells r (IsSeenBelow (seen_by (slice_get table.policies e))
      (seen_by (slice_get table.policies p)))
      → TellsMet c
  met_effect c e p is h = subst TellsMet (sym is) h

-- and rules that are kept
pub kept_met : {E : Type 0} (table : Table) (f : Facts numbers) (c : Check) (v : Set) (k : Known)
    (r : Result Bool E)
    → stands (Some k) ≡ at_spot f c.point c.way → v ≡ value_of f (seen_condition c.condition)
    → Tells r (Meets table v (stand k) (seen_condition c.condition))
    → Tells r (KeepsNumbered table f (seen_check c))
kept_met table f c v k (Err e) reached is h = h
kept_met table f c v k (Ok b) reached is h =
    let iff = kept_reached table f c k reached in
    let met = subst (λ u. IsTrue b ↔ Meets table u (stand k) (seen_condition c.condition)) is h in
    (λ t. iff.0 (met.0 t), λ t. met.1 (iff.1 t))
