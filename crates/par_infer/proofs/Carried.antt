-- What reaches a number rests on bounds at inferred numbers alone.
use Rattle.std.proofs.Common.{◌≡◌, ℕ, ◌||◌, false, List, refl, sym, subst, ap, ◌∙◌}
use Rattle.std.proofs.Math.Path.{fun_ext}
use Rattle.std.specs.Prelude.{IsTrue}
use Rattle.par_bits.specs.Sets.{Set}
use Rattle.par_reached.specs.Reached.{AreLeastSets, Reaches, Straight, Through, set_at}
use Rattle.par_infer.specs.Collected.{Gains}
use Rattle.par_infer.specs.Births.{every}

carried : (is : Set) (b d : ℕ → Set) → ((i n : ℕ) → IsTrue (is i) → b i n ≡ d i n)
    → (i n : ℕ) → IsTrue (is i) → Reaches is b i n → Reaches is d i n
carried is b d f _ _ s (Straight i n h e) =
    Straight i n (subst (λ x. IsTrue x) (f i n s) h) e
carried is b d f _ _ s (Through i j n h e r) =
    Through i j n (subst (λ x. IsTrue x) (f i j s) h) e (carried is b d f j n e r)

least_carried : (is : Set) (b d σ : ℕ → Set) → ((i n : ℕ) → IsTrue (is i) → b i n ≡ d i n)
    → AreLeastSets is b σ → AreLeastSets is d σ
least_carried is b d σ f least = record {
  exact = λ i n s. (
    λ h. carried is b d f i n s ((least.exact i n s).0 h),
    λ r. (least.exact i n s).1 (carried is d b (λ i n s. sym (f i n s)) i n s r),
  );
}

-- sets that gain births and then bodies, from empty ones
pub collected : (is js : Set) (births bodies σ : ℕ → Set) (empty some all : List ℕ)
    → ((n : ℕ) → is n ≡ js n) → ((i n : ℕ) → set_at empty i n ≡ false)
    → Gains every empty some births → Gains is some all bodies
    → AreLeastSets is (set_at all) σ → AreLeastSets js (λ i n. births i n || bodies i n) σ
collected is js births bodies σ empty some all same none g h least =
    subst (λ (s : Set). AreLeastSets s (λ i n. births i n || bodies i n) σ) (fun_ext same)
    (least_carried is (set_at all) (λ i n. births i n || bodies i n) σ
    (λ i n s.
    h.gained i n s
    ∙ ap (λ x. x || bodies i n) (g.gained i n refl ∙ ap (λ x. x || births i n) (none i n))) least)
