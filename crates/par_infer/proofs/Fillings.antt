-- The laws of fillings.
use Rattle.std.proofs.Common.{◌≡◌, ℕ, ◌<◌, true, false, ◌||◌, ◌&&◌}
use Rattle.std.proofs.Common.{Option, Some, None, List, [], ◌∷◌, refl, sym, subst, Contains}
use Rattle.std.proofs.Common.{eq-eqb, length}
use Rattle.std.specs.Prelude.{IsTrue, nat_eq}
use Rattle.std.proofs.lemmas.Bool.{eqb-true, and_parts, and_from, or_left, or_right}
use Rattle.par_policy.proofs.Ordered.{Contains-nil, Contains-first, Contains-later}
use Rattle.par_bits.specs.Sets.{Set}
use Rattle.par_typed.specs.declared.table.Table.{Table}
use Rattle.par_typed.specs.declared.table.ClassInfo.{ClassInfo}
use Rattle.par_typed.specs.declared.table.FieldInfo.{FieldInfo}
use Rattle.par_typed.specs.Plain.{Body}
use Rattle.par_program_laws.specs.Lattice.{Seen, numbers, IsSeenBelow, joined}
use Rattle.par_program_laws.specs.Facts.{Facts}
use Rattle.par_program_laws.specs.Declares.{declares}
use Rattle.par_program_laws.specs.Closed.{IsClosed}
use Rattle.par_pass_laws.proofs.Instances.{in_either}
use Rattle.par_pass_laws.proofs.Along.{closed_along}
use Rattle.par_check.specs.par_check_laws.Asked.{Check}
use Rattle.par_check.specs.par_check_laws.Checks.{checks}
use Rattle.par_check.proofs.par_check_laws.Monotone.{joined_more}
use Rattle.par_reached.specs.Reached.{AreLeastSets, Reaches, Straight, Through}
use Rattle.par_pass_laws.specs.Seens.{given_of, join_of, seen_as, plain}
use Rattle.par_infer.specs.Seens.{IsPolicy}
use Rattle.par_check.specs.par_check_laws.Keeps.{Keeps}
use Rattle.par_infer.specs.Keeps.{limit, strict}
use Rattle.par_program_laws.specs.Inferred.{inferred, inferred_among, inferred_in}
use Rattle.par_infer.specs.Bounds.{bounds, replaced}
use Rattle.par_infer.specs.Bounds.{bodies_above, births_above, all_above}
use Rattle.par_infer.specs.Bounds.{is_at}
use Rattle.par_infer.specs.Filling.{Filling, with_filling, ArePolicies, AreBirthsBelow, IsAccepted}
use Rattle.par_infer.specs.Filling.{IsFillingBelow, join_filling, IsBodyAccepted}
use Rattle.par_check.specs.par_check_laws.Right.{AreRight, AreAllRight}
use Rattle.par_infer.proofs.Effects.{AreApart, apart}
use Rattle.par_infer.specs.Laws.{AreAll, KeepOthers, KeepsReplaced, MeetsBounds}
use Rattle.par_infer.specs.Laws.{is_bound, is_in, LeastSetsAreBelow, KeptSetsAreAccepted}
use Rattle.par_infer.specs.Laws.{FailedRuleRefuses}
use Rattle.par_infer.proofs.Choices.{by_cases, first_or_later, not_true, true_not}
use Rattle.par_infer.proofs.Seens.{plain_policy, plain_join, join_below, join_member, filled_inside}
use Rattle.par_infer.proofs.Seens.{filled_outside}
use Rattle.par_infer.proofs.Instances.{stand_for}
use Rattle.par_infer.proofs.Kept.{meant, kept, kept_below}
use Rattle.par_infer.proofs.Reached.{reached_least}
use Rattle.par_infer.proofs.Bounds.{kept_above, above_kept, asked_in, in_asked, born_in, in_born}
use Rattle.par_infer.proofs.Bounds.{births_in, in_births}
use Rattle.par_infer.proofs.Replaced.{placed_out, set_member, set_below}
use Rattle.par_infer.proofs.Replaced.{replaced_lower, replaced_upper, new_kept, old_kept}

at_seen : (p q : Seen) → p ≡ q → IsSeenBelow p q
at_seen p q e actor locks h = subst (λ (r : Seen). IsTrue (r actor locks)) (sym e) h

below_trans : (p q r : Seen) → IsSeenBelow p q → IsSeenBelow q r → IsSeenBelow p r
below_trans p q r f g actor locks h = f actor locks (g actor locks h)

-- ---- inferred numbers

field_inferred : (fs : List FieldInfo) (f : FieldInfo) → Contains fs f → IsTrue f.inferred
    → IsTrue (inferred_among fs f.policy)
field_inferred [] f m h = absurd (Contains-nil f m)
field_inferred (g ∷ fs) f m h =
    first_or_later g fs f (IsTrue ((g.inferred && nat_eq g.policy f.policy)
    || inferred_among fs f.policy))
    (λ e. or_left _ _ (subst (λ (g : FieldInfo). IsTrue (g.inferred && nat_eq g.policy f.policy)) e
    (and_from _ _ h (eq-eqb f.policy f.policy refl))))
    (λ m. or_right _ _ (field_inferred fs f m h)) m

class_inferred : (cs : List ClassInfo) (c : ClassInfo) (n : ℕ) → Contains cs c
    → IsTrue (inferred_among c.fields n) → IsTrue (inferred_in cs n)
class_inferred [] c n m h = absurd (Contains-nil c m)
class_inferred (d ∷ cs) c n m h =
    first_or_later d cs c (IsTrue (inferred_among d.fields n || inferred_in cs n))
    (λ e. or_left _ _ (subst (λ (d : ClassInfo). IsTrue (inferred_among d.fields n)) e h))
    (λ m. or_right _ _ (class_inferred cs c n m h)) m

bound_of : (is : Set) (o : Option ℕ) (i : ℕ) → IsTrue (is_at o i) → IsTrue (is i)
    → is_in is o ≡ true
bound_of is None i h e = cc
bound_of is (Some p) i h e = subst (λ j. is j ≡ true) (sym (eqb-true p i h)) e

-- ---- fillings

module _ (table : Table) (ψ : Filling) (policies : ArePolicies table ψ)
    (ranges : (i : ℕ) → IsTrue (inferred table i) → i < length table.policies) where
  abbrev with_ : List Seen
  with_ = with_filling table ψ

  inside : (i : ℕ) → IsTrue (inferred table i) → given_of with_ i ≡ ψ i
  inside i e = filled_inside table.policies (inferred table) ψ i e (ranges i e)

  outside : (n : ℕ) → inferred table n ≡ false
      → given_of with_ n ≡ given_of (plain table.policies) n
  outside n e = filled_outside table.policies (inferred table) ψ n e

  pub are_policies : (n : ℕ) → IsPolicy (given_of with_ n)
  are_policies n =
      by_cases (inferred table n) (IsPolicy (given_of with_ n))
      (λ e. subst (λ (q : Seen). IsPolicy q) (sym (inside n e)) (policies n e))
      (λ e. subst (λ (q : Seen). IsPolicy q) (sym (outside n e)) (plain_policy table.policies n))

-- what an accepted filling keeps, the least facts keep
writes_kept : (table : Table) (ψ : Filling) (qs : List Seen)
    → ((n : ℕ) → IsPolicy (given_of qs n)) → qs ≡ with_filling table ψ
    → (bs : List Body) (fs : List (Facts numbers)) → AreAll (AreRight table) bs fs
    → ((b : Body) → Contains bs b → IsBodyAccepted table ψ b)
    → AreAll (λ b f. (c : Check) → Contains (checks table b) c → is_bound table c ≡ true
    → Keeps numbers (join_of (with_filling table ψ)) (given_of (with_filling table ψ)) f
    (strict (inferred table) c)) bs fs
writes_kept table ψ qs p e [] fs found accepted = tt
writes_kept table ψ qs p e (b ∷ bs) [] found accepted = absurd found
writes_kept table ψ qs p e (b ∷ bs) (f ∷ fs) found accepted =
    let a = accepted b (Contains-first b bs) in (
      λ c asked bound.
          kept_below (with_filling table ψ)
          (subst (λ qs. (n : ℕ) → IsPolicy (given_of qs n)) e p) f a.facts
          (found.0.whichever (with_filling table ψ) a.facts a.closed)
          (strict (inferred table) c) (a.kept c asked),
      writes_kept table ψ qs p e bs fs found.1 (λ d m. accepted d (Contains-later b bs d m)),
    )

module _ (table : Table) (bs : List Body) (fs : List (Facts numbers))
    (fields : AreApart table bs) where
  abbrev is : Set
  is = inferred table

  accepted_meets : AreAll (AreRight table) bs fs → (ψ : Filling) → IsAccepted table bs ψ
      → MeetsBounds table bs fs ψ
  accepted_meets found ψ a = record {
    policies = a.policies;
    births = a.births;
    writes =
        writes_kept table ψ (with_filling table ψ)
        (are_policies table ψ a.policies fields.ranges) refl bs fs found a.bodies;
  }

  -- a filling that meets the bounds is above them
  module _ (ψ : Filling) where
    abbrev Above : ℕ → ℕ → Type 0
    Above i n = IsSeenBelow (given_of (with_filling table ψ) n) (given_of (with_filling table ψ) i)

    above_births : AreBirthsBelow table ψ → (i n : ℕ) → IsTrue (births_above table.classes i n)
        → Above i n
    above_births births i n h =
        in_births table.classes i n (Above i n) (λ c mc k.
        in_born c.birth c.fields i n (Above i n) (λ f mf j.
        let p = and_parts _ _ j in let q = and_parts _ _ p.0 in let r = and_parts _ _ p.1 in
        subst (λ m. Above i m) (eqb-true c.birth n r.1)
        (subst (λ m. Above m c.birth) (eqb-true f.policy i r.0)
        (births c f mc mf q.0 (true_not f.is_static q.1)))) k) h

    above_bodies : (cs : List Body) (gs : List (Facts numbers))
        → AreAll (λ b f. (c : Check) → Contains (checks table b) c → is_bound table c ≡ true
        → Keeps numbers (join_of (with_filling table ψ)) (given_of (with_filling table ψ)) f
        (strict (inferred table) c)) cs gs
        → (i n : ℕ) → IsTrue (is i) → IsTrue (bodies_above table cs gs i n) → Above i n
    above_bodies [] gs w i n s h = cc
    above_bodies (b ∷ cs) [] w i n s h = cc
    above_bodies (b ∷ cs) (f ∷ gs) w i n s h =
        in_either (all_above f (checks table b) i n) (bodies_above table cs gs i n) (Above i n)
        (in_asked f (checks table b) i n (Above i n) (λ c mc k.
        kept_above is (with_filling table ψ) f c i n s k
        (w.0 c mc (bound_of is (limit c.condition) i (and_parts _ _ k).0 s))))
        (above_bodies cs gs w.1 i n s) h

    above : MeetsBounds table bs fs ψ → (i n : ℕ) → IsTrue (is i)
        → IsTrue (bounds table bs fs i n) → Above i n
    above m i n s h =
        in_either (births_above table.classes i n) (bodies_above table bs fs i n) (Above i n)
        (above_births m.births i n) (above_bodies bs fs m.writes i n s) h

    reached_above : MeetsBounds table bs fs ψ → (i n : ℕ) → IsTrue (is i)
        → Reaches is (bounds table bs fs) i n
        → IsSeenBelow (given_of (plain table.policies) n) (given_of (with_filling table ψ) i)
    reached_above m _ _ s (Straight i n h e) =
        below_trans _ _ _ (at_seen _ _ (sym (outside table ψ m.policies fields.ranges n e)))
        (above m i n s h)
    reached_above m _ _ s (Through i j n h e r) =
        below_trans _ _ _ (reached_above m j n e r) (above m i j s h)

  module _ (σ : ℕ → Set) (least : AreLeastSets is (bounds table bs fs) σ) where
    abbrev own : Filling
    own = join_filling table σ

    sets_below : (ψ : Filling) → MeetsBounds table bs fs ψ → IsFillingBelow table own ψ
    sets_below ψ m i s actor locks h =
        subst (λ b. IsTrue b) (plain_join table.policies (σ i) actor locks)
        (join_below (plain table.policies) (σ i) (ψ i) (λ n k.
        below_trans _ _ _ (reached_above ψ m i n s ((least.exact i n s).0 k))
        (at_seen _ _ (inside table ψ m.policies fields.ranges i s)))
        actor locks h)

    own_policies : ArePolicies table own
    own_policies i e actor few more w h = joined_more table.policies (σ i) actor few more w h

    -- the least sets are above the bounds
    own_above : (i n : ℕ) → IsTrue (is i) → IsTrue (bounds table bs fs i n) → Above own i n
    own_above i n s h =
        let cover = (reached_least is (bounds table bs fs) σ least).0 i s n h in
        by_cases (is n) (Above own i n)
        (λ e. set_below table.policies is σ fields.ranges fields.few n
        (given_of (with_filling table own) i) e
        (λ m k. set_member table.policies is σ fields.ranges fields.few i m s (cover.1 e m k)))
        (λ e. below_trans _ _ _
        (at_seen _ _ (placed_out table.policies is σ fields.ranges fields.few n e))
        (set_member table.policies is σ fields.ranges fields.few i n s (cover.0 e)))

    own_births : AreBirthsBelow table own
    own_births c f mc mf e static =
        own_above f.policy c.birth
        (class_inferred table.classes c f.policy mc (field_inferred c.fields f mf e))
        (or_left _ _ (births_in table.classes c f.policy c.birth mc
        (born_in c.birth c.fields f f.policy c.birth mf
        (and_from _ _ (and_from _ _ e (not_true f.is_static static))
        (and_from _ _ (eq-eqb f.policy f.policy refl) (eq-eqb c.birth c.birth refl))))))

    own_writes : (cs : List Body) (gs : List (Facts numbers)) → AreAll (AreRight table) cs gs
        → ((i n : ℕ) → IsTrue (bodies_above table cs gs i n) → IsTrue (bounds table bs fs i n))
        → AreAll (λ b f. (c : Check) → Contains (checks table b) c → is_bound table c ≡ true
        → Keeps numbers (join_of (with_filling table own)) (given_of (with_filling table own)) f
        (strict (inferred table) c)) cs gs
    own_writes [] gs found sub = tt
    own_writes (b ∷ cs) [] found sub = absurd found
    own_writes (b ∷ cs) (f ∷ gs) found sub = (
      λ c asked bound.
          above_kept is (with_filling table own) f c bound
          (λ i n s h. own_above i n s
          (sub i n (or_left _ _ (asked_in f (checks table b) c i n asked h)))),
      own_writes cs gs found.1 (λ i n h. sub i n (or_right _ _ h)),
    )

    pub own_meets : AreAll (AreRight table) bs fs → MeetsBounds table bs fs own
    own_meets found = record {
      policies = own_policies;
      births = own_births;
      writes = own_writes bs fs found (λ i n h. or_right _ _ h);
    }

    own_bodies : (cs : List Body) (gs : List (Facts numbers)) → AreAll (AreRight table) cs gs
        → AreAll (KeepOthers table σ) cs gs
        → AreAll (λ b f. (c : Check) → Contains (checks table b) c → is_bound table c ≡ true
        → Keeps numbers (join_of (with_filling table own)) (given_of (with_filling table own)) f
        (strict (inferred table) c)) cs gs
        → ((b : Body) → Contains cs b → Contains bs b)
        → (b : Body) → Contains cs b → IsBodyAccepted table own b
    own_bodies [] gs found others writes sub b m = absurd (Contains-nil b m)
    own_bodies (d ∷ cs) [] found others writes sub b m = absurd found
    own_bodies (d ∷ cs) (f ∷ gs) found others writes sub b m =
        let qs = with_filling table own in
        let p = are_policies table own own_policies fields.ranges in
        first_or_later d cs b (IsBodyAccepted table own b)
        (λ e. subst (λ d. IsBodyAccepted table own d) (sym e) (record {
          facts = meant qs p f;
          closed = closed_along (seen_as qs) (stand_for qs) f (declares table) d found.0.closed;
          kept = λ c asked. kept qs p f (strict is c)
              (by_cases (is_bound table c)
              (Keeps numbers (join_of qs) (given_of qs) f (strict is c))
              (writes.0 c asked)
              (λ e. new_kept table.policies is own (replaced is σ) f
              (replaced_upper table.policies is σ fields.ranges fields.few) c e
              (λ g p k. fields.effects d c g p (sub d (Contains-first d cs)) asked k)
              (others.0 c asked e)));
        }))
        (own_bodies cs gs found.1 others.1 writes.1 (λ b m. sub b (Contains-later d cs b m)) b) m

    own_accepted : AreAll (AreRight table) bs fs → AreAll (KeepOthers table σ) bs fs
        → IsAccepted table bs own
    own_accepted found others =
        let meets = own_meets found in record {
          policies = own_policies;
          births = own_births;
          bodies = own_bodies bs fs found others meets.writes (λ b m. m);
        }

    -- with a filling that meets the bounds a set stands for more
    lower : (ψ : Filling) → MeetsBounds table bs fs ψ → (s : Set)
        → IsSeenBelow (joined table.policies (replaced is σ s)) (join_of (with_filling table ψ) s)
    lower ψ m s =
        below_trans _ _ _ (replaced_lower table.policies is σ fields.ranges fields.few s)
        (join_below (with_filling table own) s (join_of (with_filling table ψ) s) (λ n k.
        below_trans _ _ _
        (by_cases (is n)
        (IsSeenBelow (given_of (with_filling table own) n) (given_of (with_filling table ψ) n))
        (λ e. below_trans _ _ _ (at_seen _ _ (inside table own own_policies fields.ranges n e))
        (below_trans _ _ _ (sets_below ψ m n e)
        (at_seen _ _ (sym (inside table ψ m.policies fields.ranges n e)))))
        (λ e. below_trans _ _ _ (at_seen _ _ (outside table own own_policies fields.ranges n e))
        (at_seen _ _ (sym (outside table ψ m.policies fields.ranges n e)))))
        (λ actor locks h. join_member (with_filling table ψ) s n k actor locks h)))

    module _ (b : Body) (f : Facts numbers) (c : Check) (there : Contains bs b)
        (right : AreRight table b f) (asked : Contains (checks table b) c)
        (other : is_bound table c ≡ false) (fails : KeepsReplaced table σ f c → ⊥) where
      pub failed : (ψ : Filling) → MeetsBounds table bs fs ψ
          → (a : Facts (seen_as (with_filling table ψ)))
          → IsClosed (seen_as (with_filling table ψ)) (declares table) b a
          → Keeps (seen_as (with_filling table ψ)) (λ p. p) (given_of (with_filling table ψ)) a
          (strict is c)
          → ⊥
      failed ψ m a closed k =
          let qs = with_filling table ψ in
          fails (old_kept table.policies is ψ (replaced is σ) f (lower ψ m) c other
          (λ g p e. fields.effects b c g p there asked e)
          (kept_below qs (are_policies table ψ m.policies fields.ranges) f a
          (right.whichever qs a closed) (strict is c) k))

      pub refused : AreAll (AreRight table) bs fs → (ψ : Filling) → IsAccepted table bs ψ → ⊥
      refused found ψ a =
          let d = a.bodies b there in
          failed ψ (accepted_meets found ψ a) d.facts d.closed (d.kept c asked)

pub all_right : (table : Table) (bs : List Body) (fs : List (Facts numbers))
    → AreAllRight table bs fs → AreAll (AreRight table) bs fs
all_right table [] fs h = tt
all_right table (b ∷ bs) [] h = absurd h
all_right table (b ∷ bs) (f ∷ fs) h = (h.0, all_right table bs fs h.1)

pub sets_are_below : LeastSetsAreBelow
sets_are_below table bs fs σ fields few right least =
    let own = apart table bs fields few in
    let found = all_right table bs fs right in (
      own_meets table bs fs own σ least found,
      accepted_meets table bs fs own found,
      sets_below table bs fs own σ least,
    )

pub kept_accepted : KeptSetsAreAccepted
kept_accepted table bs fs σ fields few right least others =
    own_accepted table bs fs (apart table bs fields few) σ least (all_right table bs fs right)
    others

pub failed_refuses : FailedRuleRefuses
failed_refuses table bs fs σ fields few right least b f c there found asked other fails =
    let own = apart table bs fields few in (
      failed table bs fs own σ least b f c there found asked other fails,
      refused table bs fs own σ least b f c there found asked other fails
          (all_right table bs fs right),
    )
