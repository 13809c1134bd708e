-- A way that rises has less to rise.
use Rattle.std.proofs.Common.{◌≡◌, ℕ, zero, suc, ◌≤◌, Bool, true, false, ◌||◌, ◌&&◌, List, [], ◌∷◌}
use Rattle.std.proofs.Common.{length, refl, sym, ap, ◌∙◌, subst, arith}
use Rattle.std.specs.Prelude.{IsTrue}
use Rattle.par_bits.specs.Sets.{Set, has, union, meet, IsWithin, size}
use Rattle.par_bits.proofs.Sizes.{size_grows, size_grows_by_member, size_at_most}
use Rattle.par_except.specs.Weight.{IsSmall, left, all_left, weight}
use Rattle.par_program_laws.specs.Lattice.{numbers}
use Rattle.par_program_laws.specs.Ways.{Flows}
use Rattle.par_except.specs.declared.way.Way.{Way}
use Rattle.par_except.specs.Joins.{join}
use Rattle.par_except.specs.Seen.{seen, locals}

in_l : (b c : Bool) → IsTrue b → IsTrue (b || c)
in_l true c h = refl
in_l false c h = cc

in_r : (b c : Bool) → IsTrue c → IsTrue (b || c)
in_r true c h = refl
in_r false c h = h

out_l : (b c : Bool) → IsTrue (b && c) → IsTrue b
out_l true c h = refl
out_l false c h = cc

gone : (b c : Bool) → c ≡ false → (b && c) ≡ false
gone true c f = f
gone false c f = refl

-- what is joined was there, where no number comes in
pub same_size_joins : (p r : Set) → IsSmall r → size (union p r) 256 ≡ size p 256 → IsWithin r p
same_size_joins p r small e = λ n h. by_case (p n) n refl h where
  by_case : (b : Bool) (n : ℕ) → p n ≡ b → IsTrue (r n) → IsTrue (p n)
  by_case true n f h = f
  by_case false n f h =
      let g =
      size_grows_by_member p (union p r) 256 n (λ m k. in_l (p m) (r m) k) (small n h) f
      (in_r (p n) (r n) h) in
      absurd (omega (arith, g, e))

-- nothing goes out, where as many are left
pub same_size_meets : (p r : Set) → IsSmall p → size (meet p r) 256 ≡ size p 256 → IsWithin p r
same_size_meets p r small e = λ n h. by_case (r n) n refl h where
  by_case : (b : Bool) (n : ℕ) → r n ≡ b → IsTrue (p n) → IsTrue (r n)
  by_case true n f h = f
  by_case false n f h =
      let m : (p n && r n) ≡ false = gone (p n) (r n) f in
      let g =
      size_grows_by_member (meet p r) p 256 n (λ m k. out_l (p m) (r m) k) (small n h) m h in
      absurd (omega (arith, g, e))

left_falls : (p q : Set) → IsWithin p q → left q ≤ left p
left_falls p q f = let g = size_grows p q 256 f in omega (arith, g)

left_same : (p q : Set) → left q ≡ left p → size q 256 ≡ size p 256
left_same p q e = let a = size_at_most p 256 in let b = size_at_most q 256 in omega (arith, a, b, e)

one_falls : (y w x : ℕ) → has y ≡ union (has w) (has x) → left (has y) ≤ left (has w)
one_falls y w x e =
    subst (λ s. left s ≤ left (has w)) (sym e)
    (left_falls (has w) (union (has w) (has x)) (λ n h. in_l (has w n) (has x n) h))

one_same : (y w x : ℕ) → has y ≡ union (has w) (has x) → IsSmall (has x)
    → left (has y) ≡ left (has w) → IsWithin (has x) (has w)
one_same y w x e small l =
    same_size_joins (has w) (has x) small
    (sym (ap (λ s. size s 256) e) ∙ left_same (has w) (has y) l)

env_falls : (ys ws xs : List ℕ) → length ys ≡ length ws → length ws ≡ length xs
    → ((i : ℕ) → locals ys i ≡ union (locals ws i) (locals xs i)) → all_left ys ≤ all_left ws
unfolding locals
env_falls [] [] xs m n e = omega arith
env_falls [] (w ∷ ws) xs m n e = absurd (omega (arith, m))
env_falls (y ∷ ys) [] xs m n e = absurd (omega (arith, m))
env_falls (y ∷ ys) (w ∷ ws) [] m n e = absurd (omega (arith, n))
env_falls (y ∷ ys) (w ∷ ws) (x ∷ xs) m n e =
    let a = one_falls y w x (e 0) in
    let b = env_falls ys ws xs (omega (arith, m)) (omega (arith, n)) (λ i. e (suc i)) in
    omega (arith, a, b)

env_same : (ys ws xs : List ℕ) → length ys ≡ length ws → length ws ≡ length xs
    → ((i : ℕ) → locals ys i ≡ union (locals ws i) (locals xs i))
    → ((i : ℕ) → IsSmall (locals xs i)) → all_left ys ≡ all_left ws → (i : ℕ)
    → IsWithin (locals xs i) (locals ws i)
unfolding locals
env_same [] [] [] m n e small l i = λ k h. h
env_same [] [] (x ∷ xs) m n e small l i = absurd (omega (arith, n))
env_same [] (w ∷ ws) xs m n e small l i = absurd (omega (arith, m))
env_same (y ∷ ys) [] xs m n e small l i = absurd (omega (arith, m))
env_same (y ∷ ys) (w ∷ ws) [] m n e small l i = absurd (omega (arith, n))
env_same (y ∷ ys) (w ∷ ws) (x ∷ xs) m n e small l zero =
    let a = one_falls y w x (e 0) in
    let b = env_falls ys ws xs (omega (arith, m)) (omega (arith, n)) (λ i. e (suc i)) in
    one_same y w x (e 0) (small 0) (omega (arith, a, b, l))
env_same (y ∷ ys) (w ∷ ws) (x ∷ xs) m n e small l (suc i) =
    let a = one_falls y w x (e 0) in
    let b = env_falls ys ws xs (omega (arith, m)) (omega (arith, n)) (λ i. e (suc i)) in
    env_same ys ws xs (omega (arith, m)) (omega (arith, n)) (λ i. e (suc i)) (λ i. small (suc i))
    (omega (arith, a, b, l)) i

locks_fall : (y w x : ℕ) → has y ≡ meet (has w) (has x) → size (has y) 256 ≤ size (has w) 256
locks_fall y w x e =
    subst (λ s. size s 256 ≤ size (has w) 256) (sym e)
    (size_grows (meet (has w) (has x)) (has w) 256 (λ n h. out_l (has w n) (has x n) h))

locks_same : (y w x : ℕ) → has y ≡ meet (has w) (has x) → IsSmall (has w)
    → size (has y) 256 ≡ size (has w) 256 → IsWithin (has w) (has x)
locks_same y w x e small l =
    same_size_meets (has w) (has x) small (sym (ap (λ s. size s 256) e) ∙ l)

-- a way that is joined has at most as much left
pub weight_falls : (y w x : Way) → seen y ≡ join (seen w) (seen x) → length y.env ≡ length w.env
    → length w.env ≡ length x.env → weight y ≤ weight w
unfolding weight
weight_falls y w x e m n =
    let a = one_falls y.context w.context x.context (ap (λ v. v.context) e) in
    let b = env_falls y.env w.env x.env m n (λ i. ap (λ v. v.env i) e) in
    let c = locks_fall y.locks w.locks x.locks (ap (λ v. v.locks) e) in
    omega (arith, a, b, c)

-- and where it has as much left, the other flows into it
pub same_weight_flows : (y w x : Way) → seen y ≡ join (seen w) (seen x)
    → length y.env ≡ length w.env → length w.env ≡ length x.env
    → IsSmall (has x.context) → ((i : ℕ) → IsSmall (locals x.env i)) → IsSmall (has w.locks)
    → weight y ≡ weight w → Flows numbers (seen x) (seen w)
unfolding weight
same_weight_flows y w x e m n small all_small locks_small l =
    let ec = ap (λ v. v.context) e in
    let ee : (i : ℕ) → locals y.env i ≡ union (locals w.env i) (locals x.env i) =
    λ i. ap (λ v. v.env i) e in let el = ap (λ v. v.locks) e in
    let a = one_falls y.context w.context x.context ec in
    let b = env_falls y.env w.env x.env m n ee in
    let c = locks_fall y.locks w.locks x.locks el in
    record {
      context = one_same y.context w.context x.context ec small (omega (arith, a, b, c, l));
      lands = record {
        env = env_same y.env w.env x.env m n ee all_small (omega (arith, a, b, c, l));
        locks = locks_same y.locks w.locks x.locks el locks_small (omega (arith, a, b, c, l));
      };
    }
