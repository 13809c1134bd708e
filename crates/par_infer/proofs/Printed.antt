-- Each member is below one that is printed.
use Rattle.std.proofs.Common.{◌≡◌, ℕ, zero, suc, ◌<◌, Bool, false, not, refl, sym}
use Rattle.std.proofs.Common.{subst, ◌∙◌, eq-eqb, arith, List}
use Rattle.std.specs.Prelude.{IsTrue, nat_eq, slice_get}
use Rattle.std.proofs.lemmas.Bool.{eqb-true, and_parts, and_from}
use Rattle.par_policy.specs.declared.clauses.Clause.{Clause}
use Rattle.par_bits.specs.Sets.{Set, IsWithin, size}
use Rattle.par_bits.proofs.Sizes.{size_grows_by_member}
use Rattle.par_program_laws.specs.Lattice.{IsSeenBelow, joined, seen_by}
use Rattle.par_pass_laws.specs.Seens.{given_of, join_of, plain}
use Rattle.par_infer.specs.Bounds.{any_below}
use Rattle.par_infer.specs.Printed.{above, highest, Orders, HighestStandForAll}
use Rattle.par_infer.proofs.Choices.{by_cases, not_true, true_not}
use Rattle.par_infer.proofs.Seens.{join_below, join_member, join_order, plain_join, plain_given}
use Rattle.par_infer.proofs.Replaced.{in_any, clash}

module _ (ps : List (List Clause)) (s : Set) (below : ℕ → ℕ → Bool) (o : Orders ps s below) where
  abbrev Below : ℕ → ℕ → Type 0
  Below m n = IsSeenBelow (seen_by (slice_get ps m)) (seen_by (slice_get ps n))

  not_above : (m : ℕ) → above below s m m ≡ false
  not_above m =
      by_cases (above below s m m) (above below s m m ≡ false)
      (λ e.
      let p = and_parts _ _ (and_parts _ _ e).0 in
      absurd (clash (sym (true_not (nat_eq m m) p.1) ∙ eq-eqb m m refl)))
      (λ e. e)

  fewer : (n m : ℕ) → IsTrue (s n) → IsTrue (above below s n m)
      → IsWithin (above below s m) (above below s n)
  fewer n m h a x k =
      let p = and_parts _ _ a in let q = and_parts _ _ p.0 in
      let r = and_parts _ _ k in let t = and_parts _ _ r.0 in
      let up : Below n x = λ actor locks z.
      (o.exact n m h q.0).0 p.1 actor locks ((o.exact m x q.0 t.0).0 r.1 actor locks z) in
      and_from _ _
      (and_from _ _ t.0 (not_true (nat_eq x n) (apart n m x h q p.1 r.1)))
      ((o.exact n x h t.0).1 up)
    where
      apart : (n m x : ℕ) → IsTrue (s n) → IsTrue (s m) × IsTrue (not (nat_eq m n))
          → IsTrue (below n m) → IsTrue (below m x) → nat_eq x n ≡ false
      apart n m x h q b c =
          by_cases (nat_eq x n) (nat_eq x n ≡ false)
          (λ e.
          let same : m ≡ n =
          o.different m n q.0 h (subst (λ y. IsTrue (below m y)) (eqb-true x n e) c) b in
          absurd (clash (sym (true_not (nat_eq m n) q.1) ∙ eq-eqb m n same)))
          (λ e. e)

  record Top (n : ℕ) : Type 0 where
    number : ℕ
    printed : IsTrue (highest below s number)
    over : Below n number

  climb : (k n : ℕ) → IsTrue (s n) → size (above below s n) 256 < k → Top n
  climb zero n h l = absurd (omega (arith, l))
  climb (suc k) n h l =
      by_cases (any_below 256 (above below s n)) (Top n)
      (λ e. in_any 256 (above below s n) (Top n)
      (λ m a.
      let p = and_parts _ _ a in let q = and_parts _ _ p.0 in
      let g =
      size_grows_by_member (above below s m) (above below s n) 256 m (fewer n m h a) (o.few m q.0)
      (not_above m) a in
      let t = climb k m q.0 (omega (arith, l, g)) in
      record {
        number = t.number;
        printed = t.printed;
        over = λ actor locks z.
            (o.exact n m h q.0).0 p.1 actor locks (t.over actor locks z);
      }) e)
      (λ e. record {
        number = n;
        printed = and_from _ _ h (not_true _ e);
        over = λ actor locks z. z;
      })

  seen_plain : (n : ℕ) (actor : ℕ) (locks : List ℕ)
      → IsTrue (given_of (plain ps) n actor locks) → IsTrue (seen_by (slice_get ps n) actor locks)
  seen_plain n actor locks h = subst (λ b. IsTrue b) (plain_given ps n actor locks) h

  plain_seen : (n : ℕ) (actor : ℕ) (locks : List ℕ)
      → IsTrue (seen_by (slice_get ps n) actor locks) → IsTrue (given_of (plain ps) n actor locks)
  plain_seen n actor locks h = subst (λ b. IsTrue b) (sym (plain_given ps n actor locks)) h

  turned : (s t : Set) → IsSeenBelow (join_of (plain ps) s) (join_of (plain ps) t)
      → IsSeenBelow (joined ps s) (joined ps t)
  turned s t f actor locks h =
      subst (λ b. IsTrue b) (plain_join ps s actor locks)
      (f actor locks (subst (λ b. IsTrue b) (sym (plain_join ps t actor locks)) h))

  lower : IsSeenBelow (joined ps s) (joined ps (highest below s))
  lower =
      turned s (highest below s) (join_below (plain ps) s (join_of (plain ps) (highest below s))
      (λ n h actor locks z.
      let t = climb (suc (size (above below s n) 256)) n h (omega arith) in
      plain_seen n actor locks (t.over actor locks (seen_plain t.number actor locks
      (join_member (plain ps) (highest below s) t.number t.printed actor locks z)))))

  upper : IsSeenBelow (joined ps (highest below s)) (joined ps s)
  upper =
      turned (highest below s) s
      (join_order (plain ps) (highest below s) s (λ n h. (and_parts _ _ h).0))

pub highest_stand : HighestStandForAll
highest_stand ps s below o = (lower ps s below o, upper ps s below o)
