-- A rule is kept with numbers replaced where its condition holds so of what is known at its spot.
use Rattle.std.proofs.Common.{◌≡◌, ◌↔◌, ℕ, zero, suc, Bool, true, false, ◌||◌, ◌&&◌, not, Option}
use Rattle.std.proofs.Common.{Some, None, sym, subst, ap, refl, ◌∙◌}
use Rattle.std.proofs.Math.Path.{fun_ext}
use Rattle.std.specs.Prelude.{IsTrue, IfOk, Result, Ok, Err}
use Rattle.par_bits.specs.Sets.{Set, has, union}
use Rattle.par_typed.specs.declared.table.Table.{Table}
use Rattle.par_program_laws.specs.Lattice.{numbers, joined, IsSeenBelow}
use Rattle.par_program_laws.specs.Ways.{Way}
use Rattle.par_program_laws.specs.Facts.{Facts}
use Rattle.par_program_laws.specs.Rules.{Holds}
use Rattle.par_program_laws.specs.Inferred.{inferred}
use Rattle.par_check.specs.par_check_laws.Asked.{Condition, Open, Released, Worth, Joined}
use Rattle.par_check.specs.par_check_laws.Asked.{Context}
use Rattle.par_check.specs.par_check_laws.Asked.{Effect, Among}
use Rattle.par_check.specs.par_check_laws.Asked.{Never}
use Rattle.par_check.specs.par_check_laws.Keeps.{Satisfies, Keeps}
use Rattle.par_check.specs.par_check_laws.Verdict.{given}
use Rattle.par_asked.specs.declared.check.Check.{Check}
use Rattle.par_asked.specs.Seen.{seen_check, seen_condition}
use Rattle.par_flow.specs.declared.known.Known.{Known}
use Rattle.par_flow.specs.Standing.{Standing, standing, stand, stands}
use Rattle.par_check.specs.Meets.{value_of, Meets}
use Rattle.par_check.specs.Spots.{at_spot}
use Rattle.par_infer.specs.Bounds.{any_below, replaced}
use Rattle.par_check.specs.par_check_laws.Asked as asked
use Rattle.par_infer.specs.Keeps.{limit}
use Rattle.par_infer.specs.Laws.{is_in, KeepsOther, KeepsReplaced}

-- ---- replacement goes into unions

spread : (a b c : Bool) → ((a || b) && c) ≡ ((a && c) || (b && c))
spread true true true = refl
spread true true false = refl
spread true false true = refl
spread true false false = refl
spread false b c = refl

mixed : (a b x y : Bool) → ((a || b) || (x || y)) ≡ ((a || x) || (b || y))
mixed true b x y = refl
mixed false true true y = refl
mixed false true false y = refl
mixed false false x y = refl

module _ (is : Set) (σ : ℕ → Set) (s t : Set) (n : ℕ) where
  abbrev comes : Set → ℕ → Bool
  comes u i = (u i && is i) && σ i n

  comes_union : (i : ℕ) → comes (union s t) i ≡ (comes s i || comes t i)
  comes_union i =
      ap (λ b. b && σ i n) (spread (s i) (t i) (is i)) ∙ spread (s i && is i) (t i && is i) (σ i n)

  any_union : (k : ℕ) → any_below k (comes (union s t))
      ≡ (any_below k (comes s) || any_below k (comes t))
  any_union zero = refl
  any_union (suc k) =
      ap (λ b. b || any_below k (comes (union s t))) (comes_union k)
      ∙ ap (λ b. (comes s k || comes t k) || b) (any_union k)
      ∙ mixed (comes s k) (comes t k) (any_below k (comes s)) (any_below k (comes t))

  union_at : replaced is σ (union s t) n ≡ (replaced is σ s n || replaced is σ t n)
  union_at =
      ap (λ b. b || any_below 256 (comes (union s t))) (spread (s n) (t n) (not (is n)))
      ∙ ap (λ b. ((s n && not (is n)) || (t n && not (is n))) || b) (any_union 256)
      ∙ mixed (s n && not (is n)) (t n && not (is n)) (any_below 256 (comes s))
      (any_below 256 (comes t))

replaced_union : (is : Set) (σ : ℕ → Set) (s t : Set)
    → replaced is σ (union s t) ≡ union (replaced is σ s) (replaced is σ t)
replaced_union is σ s t = fun_ext λ n. union_at is σ s t n

-- ---- rules

module _ (table : Table) (is : Set) (σ : ℕ → Set) (f : Facts numbers) where
  abbrev by : Set → Set
  by = replaced is σ

  abbrev pub KeepsBy : Check → Type 0
  KeepsBy c =
      Keeps numbers (λ s. joined table.policies (by s)) (given table) f (seen_check c)

  abbrev MeetsBy : Standing → Condition → Type 0
  MeetsBy s c = Meets table (by (value_of f c)) (record s { context = by s.context }) c

  abbrev MeetsThere : Option Standing → Condition → Type 0
  MeetsThere None c = Unit {0}
  MeetsThere (Some s) c = MeetsBy s c

  meets_iff : (o : Option (Way numbers)) (c : Condition) → MeetsThere (standing o) c
      ↔ Holds numbers o (λ w.
      Satisfies numbers (λ s. joined table.policies (by s)) (given table) f w c)
  meets_iff None c = (λ h. h, λ h. h)
  meets_iff (Some w) (Open locks) = (λ h. h, λ h. h)
  meets_iff (Some w) (Released v p) = (λ h. h, λ h. h)
  meets_iff (Some w) (Worth v p) = (λ h. h, λ h. h)
  meets_iff (Some w) (Joined v p) =
      let e = replaced_union is σ (f v).value w.context in (
        λ h. subst (λ s. IsSeenBelow (joined table.policies s) (given table p)) (sym e) h,
        λ h. subst (λ s. IsSeenBelow (joined table.policies s) (given table p)) e h,
      )
  meets_iff (Some w) (Context p) = (λ h. h, λ h. h)
  meets_iff (Some w) (Effect e p) = (λ h. h, λ h. h)
  meets_iff (Some w) (Among locks those) = (λ h. h, λ h. h)
  meets_iff (Some w) Never = (λ h. h, λ h. h)

  keeps_iff : (c : Check) → MeetsThere (at_spot f c.point c.way) (seen_condition c.condition)
      ↔ KeepsBy c
  unfolding at_spot
  keeps_iff c = meets_iff _ (seen_condition c.condition)

  unreached : (c : Check) → stands None ≡ at_spot f c.point c.way → KeepsBy c
  unreached c e =
      (keeps_iff c).0 (subst (λ o. MeetsThere o (seen_condition c.condition)) e tt)

  reached : (c : Check) (s : Standing) → Some s ≡ at_spot f c.point c.way
      → MeetsBy s (seen_condition c.condition) ↔ KeepsBy c
  reached c s e = (
    λ h. (keeps_iff c).0 (subst (λ o. MeetsThere o (seen_condition c.condition)) e h),
    λ h. subst (λ o. MeetsThere o (seen_condition c.condition)) (sym e) ((keeps_iff c).1 h),
  )

-- where the spot is not reached
pub kept_unreached : (table : Table) (σ : ℕ → Set) (f : Facts numbers) (c : Check)
    → stands None ≡ at_spot f c.point c.way → KeepsReplaced table σ f (seen_check c)
kept_unreached table σ f c e = unreached table (inferred table) σ f c e

-- and where it is
pub kept_reached : {E : Type 0} (table : Table) (is : Set) (σ : ℕ → Set) (f : Facts numbers)
    (c : Check) (spoken value : Set) (k other : Known) (r : Result Bool E)
    → ((n : ℕ) → is n ≡ inferred table n)
    → stands (Some k) ≡ at_spot f c.point c.way → spoken ≡ value_of f (seen_condition c.condition)
    → ((n : ℕ) → value n ≡ replaced is σ spoken n)
    → ((n : ℕ) → has other.context n ≡ replaced is σ (has k.context) n)
    → other.locks ≡ k.locks
    → IfOk r (λ b. IsTrue b ↔ Meets table value (stand other) (seen_condition c.condition))
    → IfOk r (λ b. IsTrue b ↔ KeepsReplaced table σ f (seen_check c))
kept_reached table is σ f c spoken value k other (Err e) same there said v context locks h = h
kept_reached table is σ f c spoken value k other (Ok b) same there said v context locks h =
    let cond = seen_condition c.condition in
    let values : value ≡ replaced is σ (value_of f cond) =
    fun_ext v ∙ ap (λ s. replaced is σ s) said in
    let contexts : has other.context ≡ replaced is σ (has k.context) = fun_ext context in
    let met : IsTrue b ↔ Meets table (replaced is σ (value_of f cond))
    (record { context = replaced is σ (has k.context); locks = has k.locks }) cond =
    subst (λ v. IsTrue b ↔ Meets table v
    (record { context = replaced is σ (has k.context); locks = has k.locks }) cond) values
    (subst (λ x. IsTrue b ↔ Meets table value (record { context = x; locks = has k.locks }) cond)
    contexts
    (subst (λ l. IsTrue b ↔ Meets table value
    (record { context = has other.context; locks = has l })
    cond) locks h)) in
    let iff = reached table is σ f c (stand k) there in
    let by_is : IsTrue b ↔ KeepsBy table is σ f c =
    (λ t. iff.0 (met.0 t), λ t. met.1 (iff.1 t)) in
    subst (λ is. IsTrue b ↔ KeepsBy table is σ f c) (fun_ext same) by_is

-- a rule that is no lower bound
pub other_kept : {E : Type 0} (table : Table) (is : Set) (σ : ℕ → Set) (f : Facts numbers)
    (c : asked.Check) (r : Result Bool E) → ((n : ℕ) → is n ≡ inferred table n)
    → is_in is (limit c.condition) ≡ false
    → IfOk r (λ b. IsTrue b ↔ KeepsReplaced table σ f c)
    → IfOk r (λ b. IsTrue b ↔ KeepsOther table σ f c)
other_kept table is σ f c (Err e) same other h = h
other_kept table is σ f c (Ok b) same other h =
    let out : is_in (inferred table) (limit c.condition) ≡ false =
    subst (λ (s : Set). is_in s (limit c.condition) ≡ false) (fun_ext same) other in
    (λ t bound. h.0 t, λ k. h.1 (k out))
