-- Lower bounds, as rules that are kept.
use Rattle.std.proofs.Common.{◌≡◌, ℕ, Bool, true, false, cond, ◌||◌, ◌&&◌, not}
use Rattle.std.proofs.Common.{Option, Some, None, List, [], ◌∷◌, refl, sym, subst, Contains}
use Rattle.std.proofs.Common.{eq-eqb}
use Rattle.std.specs.Prelude.{IsTrue, nat_eq, map}
use Rattle.std.proofs.lemmas.Bool.{eqb-true, and_parts, and_from, or_left, or_right}
use Rattle.par_policy.proofs.Ordered.{Contains-nil, Contains-first}
use Rattle.par_policy.proofs.Ordered.{Contains-later}
use Rattle.par_bits.specs.Sets.{Set, none, union}
use Rattle.par_typed.specs.declared.table.ClassInfo.{ClassInfo}
use Rattle.par_typed.specs.declared.table.FieldInfo.{FieldInfo}
use Rattle.par_program_laws.specs.Lattice.{Seen, numbers, IsSeenBelow}
use Rattle.par_program_laws.specs.Ways.{Way}
use Rattle.par_program_laws.specs.Facts.{Facts}
use Rattle.par_program_laws.specs.Rules.{way, Holds}
use Rattle.par_check.specs.par_check_laws.Asked.{Condition, Open, Released, Worth, Joined}
use Rattle.par_check.specs.par_check_laws.Asked.{Context}
use Rattle.par_check.specs.par_check_laws.Asked.{Effect, Among}
use Rattle.par_check.specs.par_check_laws.Asked.{Never, Check}
use Rattle.par_pass_laws.specs.Seens.{given_of, join_of}
use Rattle.par_check.specs.par_check_laws.Keeps.{Satisfies, Keeps}
use Rattle.par_infer.specs.Keeps.{unopened, strict, limit}
use Rattle.par_infer.specs.Bounds.{compared, compared_at, is_at, asked_above, all_above, born_above}
use Rattle.par_infer.specs.Bounds.{births_above}
use Rattle.par_infer.specs.Laws.{is_in}
use Rattle.par_pass_laws.proofs.Instances.{in_either}
use Rattle.par_infer.proofs.Choices.{first_or_later}
use Rattle.par_infer.proofs.Seens.{join_below, join_member, given_join}

unopened_in : (is : Set) (v p : ℕ) → IsTrue (is p) → unopened is (Released v p) ≡ Worth v p
unopened_in is v p e = pick (is p) e where
  pick : (b : Bool) → IsTrue b → cond b (Worth v p) (Released v p) ≡ Worth v p
  pick true e = refl
  pick false e = cc

module _ (is : Set) (ps : List Seen) (f : Facts numbers) where
  -- what a kept bound says of each policy that is compared
  satisfied_above : (w : Way numbers) (c : Condition) (i : ℕ) → IsTrue (is i)
      → IsTrue (is_at (limit c) i)
      → Satisfies numbers (join_of ps) (given_of ps) f w (unopened is c)
      → IsSeenBelow (join_of ps (compared f w c)) (given_of ps i)
  satisfied_above w (Released v p) i s e k =
      let same = eqb-true p i e in
      let k : IsSeenBelow (join_of ps (f v).value) (given_of ps p) =
      subst (Satisfies numbers (join_of ps) (given_of ps) f w)
      (unopened_in is v p (subst (λ j. IsTrue (is j)) (sym same) s)) k in
      subst (λ j. IsSeenBelow (join_of ps (f v).value) (given_of ps j)) same k
  satisfied_above w (Worth v p) i s e k =
      subst (λ j. IsSeenBelow (join_of ps (f v).value) (given_of ps j)) (eqb-true p i e) k
  satisfied_above w (Joined v p) i s e k =
      subst (λ j. IsSeenBelow (join_of ps (union (f v).value w.context)) (given_of ps j))
      (eqb-true p i e) k
  satisfied_above w (Context p) i s e k =
      subst (λ j. IsSeenBelow (join_of ps w.context) (given_of ps j)) (eqb-true p i e) k
  satisfied_above w (Effect d p) i s e k = λ actor locks h.
      given_join ps d actor locks
      (subst (λ j. IsSeenBelow (given_of ps d) (given_of ps j)) (eqb-true p i e) k actor locks h)
  satisfied_above w (Open locks) i s e k = cc
  satisfied_above w (Among locks those) i s e k = cc
  satisfied_above w Never i s e k = cc

  holds_above : (o : Option (Way numbers)) (c : Condition) (i : ℕ) → IsTrue (is i)
      → IsTrue (is_at (limit c) i)
      → Holds numbers o (λ w. Satisfies numbers (join_of ps) (given_of ps) f w (unopened is c))
      → IsSeenBelow (join_of ps (compared_at f o c)) (given_of ps i)
  holds_above None c i s e k = join_below ps none (given_of ps i) (λ n h. cc)
  holds_above (Some w) c i s e k = satisfied_above w c i s e k

  pub kept_above : (c : Check) (i n : ℕ) → IsTrue (is i) → IsTrue (asked_above f c i n)
      → Keeps numbers (join_of ps) (given_of ps) f (strict is c)
      → IsSeenBelow (given_of ps n) (given_of ps i)
  kept_above c i n s h k = λ actor locks e.
      let parts = and_parts _ _ h in
      join_member ps _ n parts.1 actor locks
      (holds_above (way numbers (f c.spot.point).entry (map f c.spot.parts) c.spot.from) c.condition
      i s parts.0 k actor locks e)

  -- and the other way round
  above_satisfied : (w : Way numbers) (c : Condition) → IsTrue (is_in is (limit c))
      → ((i n : ℕ) → IsTrue (is i) → IsTrue (is_at (limit c) i) → IsTrue (compared f w c n)
      → IsSeenBelow (given_of ps n) (given_of ps i))
      → Satisfies numbers (join_of ps) (given_of ps) f w (unopened is c)
  above_satisfied w (Released v p) s g =
      subst (Satisfies numbers (join_of ps) (given_of ps) f w) (sym (unopened_in is v p s))
      (join_below ps (f v).value (given_of ps p) (λ n h. g p n s (eq-eqb p p refl) h))
  above_satisfied w (Worth v p) s g =
      join_below ps (f v).value (given_of ps p) (λ n h. g p n s (eq-eqb p p refl) h)
  above_satisfied w (Joined v p) s g =
      join_below ps (union (f v).value w.context) (given_of ps p)
      (λ n h. g p n s (eq-eqb p p refl) h)
  above_satisfied w (Context p) s g =
      join_below ps w.context (given_of ps p) (λ n h. g p n s (eq-eqb p p refl) h)
  above_satisfied w (Effect e p) s g = g p e s (eq-eqb p p refl) (eq-eqb e e refl)
  above_satisfied w (Open locks) s g = cc
  above_satisfied w (Among locks those) s g = cc
  above_satisfied w Never s g = cc

  above_holds : (o : Option (Way numbers)) (c : Condition) → IsTrue (is_in is (limit c))
      → ((i n : ℕ) → IsTrue (is i) → IsTrue (is_at (limit c) i) → IsTrue (compared_at f o c n)
      → IsSeenBelow (given_of ps n) (given_of ps i))
      → Holds numbers o (λ w. Satisfies numbers (join_of ps) (given_of ps) f w (unopened is c))
  above_holds None c s g = tt
  above_holds (Some w) c s g = above_satisfied w c s g

  pub above_kept : (c : Check) → IsTrue (is_in is (limit c.condition))
      → ((i n : ℕ) → IsTrue (is i) → IsTrue (asked_above f c i n)
      → IsSeenBelow (given_of ps n) (given_of ps i))
      → Keeps numbers (join_of ps) (given_of ps) f (strict is c)
  above_kept c s g =
      above_holds (way numbers (f c.spot.point).entry (map f c.spot.parts) c.spot.from)
      c.condition s
      (λ i n e j h. g i n e (and_from _ _ j h))

-- ---- lists

pub asked_in : (f : Facts numbers) (cs : List Check) (c : Check) (i n : ℕ) → Contains cs c
    → IsTrue (asked_above f c i n) → IsTrue (all_above f cs i n)
asked_in f [] c i n m h = absurd (Contains-nil c m)
asked_in f (d ∷ cs) c i n m h =
    first_or_later d cs c (IsTrue (asked_above f d i n || all_above f cs i n))
    (λ e. or_left _ _ (subst (λ d. IsTrue (asked_above f d i n)) e h))
    (λ m. or_right _ _ (asked_in f cs c i n m h)) m

pub in_asked : (f : Facts numbers) (cs : List Check) (i n : ℕ) (C : Type 0)
    → ((c : Check) → Contains cs c → IsTrue (asked_above f c i n) → C)
    → IsTrue (all_above f cs i n) → C
in_asked f [] i n C g h = cc
in_asked f (c ∷ cs) i n C g h =
    in_either (asked_above f c i n) (all_above f cs i n) C (g c (Contains-first c cs))
    (in_asked f cs i n C (λ d m. g d (Contains-later c cs d m))) h

abbrev pub is_born : ℕ → FieldInfo → ℕ → ℕ → Bool
is_born birth f i n = (f.inferred && not f.is_static) && (nat_eq f.policy i && nat_eq birth n)

pub born_in : (birth : ℕ) (fs : List FieldInfo) (f : FieldInfo) (i n : ℕ) → Contains fs f
    → IsTrue (is_born birth f i n) → IsTrue (born_above birth fs i n)
born_in birth [] f i n m h = absurd (Contains-nil f m)
born_in birth (g ∷ fs) f i n m h =
    first_or_later g fs f (IsTrue (is_born birth g i n || born_above birth fs i n))
    (λ e. or_left _ _ (subst (λ g. IsTrue (is_born birth g i n)) e h))
    (λ m. or_right _ _ (born_in birth fs f i n m h)) m

pub in_born : (birth : ℕ) (fs : List FieldInfo) (i n : ℕ) (C : Type 0)
    → ((f : FieldInfo) → Contains fs f → IsTrue (is_born birth f i n) → C)
    → IsTrue (born_above birth fs i n) → C
in_born birth [] i n C g h = cc
in_born birth (f ∷ fs) i n C g h =
    in_either (is_born birth f i n) (born_above birth fs i n) C (g f (Contains-first f fs))
    (in_born birth fs i n C (λ d m. g d (Contains-later f fs d m))) h

pub births_in : (cs : List ClassInfo) (c : ClassInfo) (i n : ℕ) → Contains cs c
    → IsTrue (born_above c.birth c.fields i n) → IsTrue (births_above cs i n)
births_in [] c i n m h = absurd (Contains-nil c m)
births_in (d ∷ cs) c i n m h =
    first_or_later d cs c (IsTrue (born_above d.birth d.fields i n || births_above cs i n))
    (λ e. or_left _ _ (subst (λ d. IsTrue (born_above d.birth d.fields i n)) e h))
    (λ m. or_right _ _ (births_in cs c i n m h)) m

pub in_births : (cs : List ClassInfo) (i n : ℕ) (C : Type 0)
    → ((c : ClassInfo) → Contains cs c → IsTrue (born_above c.birth c.fields i n) → C)
    → IsTrue (births_above cs i n) → C
in_births [] i n C g h = cc
in_births (c ∷ cs) i n C g h =
    in_either (born_above c.birth c.fields i n) (births_above cs i n) C (g c (Contains-first c cs))
    (in_births cs i n C (λ d m. g d (Contains-later c cs d m))) h
