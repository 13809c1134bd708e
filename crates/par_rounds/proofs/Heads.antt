-- A head that rises.
use Rattle.std.proofs.Common.{◌≡◌, ℕ, zero, suc, ◌+◌, ◌*◌, ◌<◌, ◌≤◌, cond, Option, Some, None, List}
use Rattle.std.proofs.Common.{[], ◌∷◌, ◌++◌, length, get_or, set, refl, sym, ap, ◌∙◌, subst, arith}
use Rattle.std.proofs.Common.{⊎_elim, get_or-set_same, get_or-set_other}
use Rattle.std.proofs.Math.Path.{fun_ext}
use Rattle.std.proofs.lemmas.Bool.Decides.{eqb_tells}
use Rattle.std.proofs.lemmas.List.Elements.{All-push}
use Rattle.par_bits.specs.Sets.{has}
use Rattle.par_bits.proofs.Sizes.{size_at_most}
use Rattle.par_program_laws.specs.Lattice.{numbers}
use Rattle.par_program_laws.specs.Ways.{MayFlow}
use Rattle.par_pass_laws.specs.par_except.declared.way.Way as code
use Rattle.par_pass_laws.specs.par_except.Joins.{join, may_join}
use Rattle.par_pass_laws.specs.par_except.Seen.{seen, may_see, MayHaveLocals}
use Rattle.par_pass_laws.specs.par_except.Weight.{all_left, weight}
use Rattle.par_pass_laws.proofs.par_except.Weights.{weight_falls, same_weight_flows}
use Rattle.par_pass_laws.specs.Exits.{Way}
use Rattle.par_ways.specs.Seen.{ways_of, AreHeadsWide}
use Rattle.par_rounds.specs.Took.{joined, may_weigh, total, HaveSmallLocks, MayBeSmall}

pub read_none : (xs : List (Option code.Way)) (i : ℕ) (x : Option code.Way) → i < length xs
    → x ≡ get_or xs i x → x ≡ get_or xs i None
read_none [] i x h e = absurd (omega (arith, h))
read_none (z ∷ xs) zero x h e = e
read_none (z ∷ xs) (suc i) x h e = read_none xs i x (omega (arith, h)) e

-- the head at the point becomes another
pub heads_set : (xs : List (Option code.Way)) (i : ℕ) (x : Option code.Way) (o : Option Way)
    → i < length xs → may_see x ≡ may_join (may_see (get_or xs i None)) o
    → ways_of (set xs i x) ≡ joined (ways_of xs) i o
unfolding ways_of
heads_set xs i x o h e = fun_ext λ k. ⊎_elim
    (λ s. ap (λ j. may_see (get_or (set xs i x) j None)) s.1
    ∙ ap may_see (get_or-set_same xs i x None h) ∙ e
    ∙ ap (λ j. may_join (may_see (get_or xs j None)) o) (sym s.1)
    ∙ sym (ap (λ b. cond b (may_join (may_see (get_or xs k None)) o) (may_see (get_or xs k None)))
    s.0))
    (λ s. ap may_see (get_or-set_other xs i k x None s.1)
    ∙ sym (ap (λ b. cond b (may_join (may_see (get_or xs k None)) o) (may_see (get_or xs k None)))
    s.0))
    (eqb_tells k i)

all_left_most : (es : List ℕ) → all_left es ≤ 256 * length es
all_left_most [] = omega arith
all_left_most (e ∷ es) = let h = all_left_most es in omega (arith, h)

pub weight_most : (w : code.Way) → weight w ≤ 256 * length w.env + 512
unfolding weight
weight_most w =
    let a = all_left_most w.env in let b = size_at_most (has w.locks) 256 in omega (arith, a, b)

-- a head that is joined with a way that does not flow into it has less left
pub head_falls : (n : ℕ) (y w x : Option code.Way) → MayHaveLocals n y → MayHaveLocals n w
    → MayHaveLocals n x → may_see y ≡ may_join (may_see w) (may_see x)
    → (MayFlow numbers (may_see x) (may_see w) → ⊥) → MayBeSmall (may_see x) → HaveSmallLocks w
    → may_weigh n y < may_weigh n w
unfolding may_weigh
head_falls n y w None hy hw hx e f s z = absurd (f tt)
head_falls n None None (Some x) hy hw hx e f s z = let g : None ≡ Some (seen x) = e in cc
head_falls n (Some y) None (Some x) hy hw hx e f s z = let a = weight_most y in omega (arith, a, hy)
head_falls n None (Some w) (Some x) hy hw hx e f s z =
    let g : None ≡ Some (join (seen w) (seen x)) = e in cc
head_falls n (Some y) (Some w) (Some x) hy hw hx e f s z =
    let g : seen y ≡ join (seen w) (seen x) = some_is e in
    let m : length y.env ≡ length w.env = hy ∙ sym hw in
    let k : length w.env ≡ length x.env = hw ∙ sym hx in
    let a = weight_falls y w x g m k in
    let b : weight y ≡ weight w → ⊥ = λ q. f (same_weight_flows y w x g m k s.0 s.1 z q) in
    omega (arith, a, b)
  where
    some_is : {v u : Way} → Some v ≡ Some u → v ≡ u
    some_is h = cc

pub total_falls : (n : ℕ) (xs : List (Option code.Way)) (i : ℕ) (y : Option code.Way)
    → i < length xs → may_weigh n y < may_weigh n (get_or xs i None)
    → total n (set xs i y) < total n xs
total_falls n [] i y h f = absurd (omega (arith, h))
total_falls n (x ∷ xs) zero y h f = omega (arith, f)
total_falls n (x ∷ xs) (suc i) y h f =
    let r = total_falls n xs i y (omega (arith, h)) f in omega (arith, r)

-- no head is reached yet
pub record AreNone (n : ℕ) (xs : List (Option code.Way)) : Type 0 where
  pub size : length xs ≡ n
  pub none : (i : ℕ) → get_or xs i None ≡ None
  pub wide : (k : ℕ) → AreHeadsWide k xs

push_size : (xs : List (Option code.Way)) (n : ℕ) → length xs ≡ n → length (xs ++ None ∷ []) ≡ n + 1
push_size [] n e = omega (arith, e)
push_size (x ∷ xs) zero e = absurd (omega (arith, e))
push_size (x ∷ xs) (suc n) e = let r = push_size xs n (omega (arith, e)) in omega (arith, r)

push_none : (xs : List (Option code.Way)) → ((i : ℕ) → get_or xs i None ≡ None) → (i : ℕ)
    → get_or (xs ++ None ∷ []) i None ≡ None
push_none [] h zero = refl
push_none [] h (suc i) = refl
push_none (x ∷ xs) h zero = h zero
push_none (x ∷ xs) h (suc i) = push_none xs (λ j. h (suc j)) i

pub none_push : (xs ys : List (Option code.Way)) (n : ℕ) → ys ≡ xs ++ None ∷ [] → AreNone n xs
    → AreNone (n + 1) ys
none_push xs ys n e h = subst (AreNone (n + 1)) (sym e) (record {
  size = push_size xs n h.size;
  none = push_none xs h.none;
  wide = λ k. All-push (MayHaveLocals k) xs None (h.wide k) tt;
})

pub none_of : (xs : List (Option code.Way)) (n : ℕ) → AreNone n xs → (i : ℕ) → ways_of xs i ≡ None
unfolding ways_of
none_of xs n h i = ap may_see (h.none i)
