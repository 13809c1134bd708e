-- What the clauses of an actor decide, and what it means that none of its releases is there.
use Rattle.std.proofs.Common.{◌≡◌, ◌⊎◌, ℕ, Bool, true, false, ◌&&◌, ◌||◌, not, List, [], ◌∷◌, ◌++◌}
use Rattle.std.proofs.Common.{refl, sym, subst, inl, inr, Contains, cond}
use Rattle.std.specs.Prelude.{IsTrue, nat_eq, map}
use Rattle.std.specs.List.{list_any, filter}
use Rattle.std.proofs.lemmas.Bool.{and_parts, and_from, or_left, or_right}
use Rattle.par_policy.specs.declared.clauses.Clause.{Clause}
use Rattle.par_policy.specs.Sees.{allows, sees}
use Rattle.par_policy.proofs.Ordered.{Contains-nil, Contains-cons_cases}
use Rattle.par_policy.proofs.Seen.{within_itself}
use Rattle.par_bits.specs.Sets.{Set}
use Rattle.par_typed.specs.declared.table.Table.{Table}
use Rattle.par_typed.specs.Plain.{Body}
use Rattle.par_typed.specs.Shown.{bodies}
use Rattle.par_program_laws.specs.Lattice.{numbers, joined}
use Rattle.par_program_laws.specs.Facts.{Facts}
use Rattle.par_pass_laws.proofs.Instances.{in_either}
use Rattle.par_check_laws.specs.Asked.{Condition, Check}
use Rattle.par_check_laws.specs.Checks.{checks}
use Rattle.par_check_laws.proofs.Monotone.{joined_more}
use Rattle.par_secrecy.specs.Subject.{Subject}
use Rattle.par_alike.specs.Subject.{policy_at, subject}
use Rattle.par_secure_laws.specs.Explained.{IsPair, Here, Later, Explains, IsExplained}
use Rattle.par_secure_laws.proofs.Secure.{differences_explained}
use Rattle.par_audit.specs.declared.release.Release.{Release}
use Rattle.par_audit.specs.Released.{IsReleased, is_released}
use Rattle.par_audit.specs.Release.{as_release, is_release}
use Rattle.par_audit.specs.Release.{all_releases}
use Rattle.par_audit.specs.SecureFor.{SecureFor}
use Rattle.par_audit.specs.Laws.{ClausesDecide, NoReleaseIsSecure}

not_from : (b : Bool) → (IsTrue b → ⊥) → IsTrue (not b)
not_from true f = absurd (f refl)
not_from false f = refl

not_both : (b : Bool) → IsTrue (not b) → IsTrue b → ⊥
not_both true h k = cc
not_both false h k = cc

module _ (ps : List (List Clause)) (v : Set) (actor : ℕ) where
  abbrev fits : Clause → Bool
  fits c = nat_eq c.actor actor && not (joined ps v actor c.locks)

  found : (q : List Clause) → IsTrue (is_released ps v q actor) → IsReleased ps v q actor
  found [] h = cc
  found (c ∷ q) h =
      in_either (fits c) (list_any fits q) (IsReleased ps v (c ∷ q) actor)
      (λ e. let p = and_parts _ _ e in (
        c.locks,
        or_left _ _ (and_from _ _ p.0 (within_itself c.locks)),
        not_both (joined ps v actor c.locks) p.1,
      ))
      (λ e. let r = found q e in (r.0, or_right _ _ r.1, r.2)) h

  -- some locks tell, so those of the clause that allows the observer do
  tells : (q : List Clause) (locks : List ℕ) → IsTrue (sees q actor locks)
      → (IsTrue (joined ps v actor locks) → ⊥) → IsTrue (is_released ps v q actor)
  tells [] locks h n = cc
  tells (c ∷ q) locks h n =
      in_either (allows actor locks c) (sees q actor locks) (IsTrue (fits c || list_any fits q))
      (λ e. let p = and_parts _ _ e in
      or_left _ _ (and_from _ _ p.0 (not_from (joined ps v actor c.locks)
      (λ k. n (joined_more ps v actor c.locks locks p.1 k)))))
      (λ e. or_right _ _ (tells q locks e n)) h

pub clauses_decide : ClausesDecide
clauses_decide ps v q actor =
    (found ps v actor q, λ r. tells ps v actor q r.0 r.1 r.2)

-- ---- where none is listed

some : (b : Bool) (c : Check) (cs : List Check) → IsTrue b
    → map as_release (cond b (c ∷ cs) cs) ≡ [] → ⊥
some true c cs h e = cc
some false c cs h e = cc

rest : (b : Bool) (c : Check) (cs : List Check) → map as_release (cond b (c ∷ cs) cs) ≡ []
    → map as_release cs ≡ []
rest true c cs e = cc
rest false c cs e = e

either : (A B : Type 0) → (A → ⊥) → (B → ⊥) → A ⊎ B → ⊥
either A B f g (inl a) = f a
either A B f g (inr b) = g b

none_kept : (test : Check → Bool) (cs : List Check) → map as_release (filter test cs) ≡ []
    → (c : Check) → Contains cs c → IsTrue (test c) → ⊥
none_kept test [] e c m h = Contains-nil c m
none_kept test (d ∷ cs) e c m h =
    either (c ≡ d) (Contains cs c)
    (λ q. some (test d) d (filter test cs) (subst (λ (d : Check). IsTrue (test d)) q h) e)
    (λ m. none_kept test cs (rest (test d) d (filter test cs) e) c m h)
    (Contains-cons_cases d cs c m)

empty_left : (xs ys : List Release) → xs ++ ys ≡ [] → xs ≡ []
empty_left [] ys e = refl
empty_left (x ∷ xs) ys e = cc

empty_right : (xs ys : List Release) → xs ++ ys ≡ [] → ys ≡ []
empty_right [] ys e = e
empty_right (x ∷ xs) ys e = cc

none_there : (table : Table) (actor : ℕ) (b : Body) (f : Facts numbers) (bs : List Body)
    (fs : List (Facts numbers)) → IsPair b f bs fs → all_releases table actor bs fs ≡ []
    → (c : Check) → Contains (checks table b) c → IsTrue (is_release table actor f c.condition) → ⊥
none_there table actor b f _ _ (Here bs fs) e =
    none_kept (λ (c : Check). is_release table actor f c.condition) (checks table b)
    (empty_left _ _ e)
none_there table actor b f _ _ (Later c g bs fs p) e =
    none_there table actor b f bs fs p (empty_right _ _ e)

settled : (A B : Type 0) → (B → ⊥) → A ⊎ B → A
settled A B n (inl a) = a
settled A B n (inr b) = absurd (n b)

-- what explains a difference is a release for the observer's actor
explained_secure : (s : Subject) (table : Table) (bs : List Body) (fs : List (Facts numbers))
    (actor : ℕ) → IsExplained s (Explains table bs fs) → all_releases table actor bs fs ≡ []
    → SecureFor s actor
explained_secure s table bs fs actor explained none o is declared one other fits fits' alike m n k
    a b p q e =
    settled (a.event ≡ b.event) (Explains table bs fs o a b)
    (λ x. none_there table actor x.body x.facts bs fs x.pair none x.check x.asked
    (subst (λ (d : Condition). IsTrue (is_release table actor x.facts d)) (sym x.condition)
    (subst (λ (z : ℕ). IsTrue (is_released table.policies (x.facts x.value).value
    (policy_at table x.policy) z)) is
    (tells table.policies (x.facts x.value).value o.actor (policy_at table x.policy) o.locks
    x.seen x.unseen))))
    (explained o declared one other fits fits' alike m n k a b p q e)

pub no_release_secure : NoReleaseIsSecure
no_release_secure typed fs actor typed_well declared_well written accepted none =
    explained_secure (subject typed) typed.table (bodies typed.bodies) fs actor
    (differences_explained typed fs typed_well declared_well written accepted) none
