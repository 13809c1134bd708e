-- Policies of locals, read and written.
use Rattle.std.proofs.Common.{◌≡◌, ℕ, ◌+◌, ◌<◌, List, length, get_or, refl, sym, ap, ◌∙◌, subst}
use Rattle.std.proofs.Common.{⊎_elim, below_more, arith, cond, Bool, true, false}
use Rattle.std.specs.Prelude.{IsTrue}
use Rattle.std.proofs.Math.Path.{fun_ext}
use Rattle.std.proofs.lemmas.Bool.{cases_lt}
use Rattle.std.proofs.lemmas.Bool.Decides.{eqb_tells}
use Rattle.par_bits.specs.Sets.{Set, has, union, IsWithin}
use Rattle.par_program_laws.specs.Lattice.{numbers}
use Rattle.par_program_laws.specs.Ways.{Way, assigned, put}
use Rattle.par_pass_laws.specs.par_except.Seen.{locals}
use Rattle.par_pass_laws.proofs.par_except.Locals.{locals_get, locals_past}

same_sets : (ps qs : List ℕ) (i x y : ℕ) → i < length ps → length ps ≡ length qs → x ≡ get_or ps i x
    → y ≡ get_or qs i y → IsWithin (has x) (has y) → IsWithin (locals ps i) (locals qs i)
same_sets ps qs i x y h l e f w =
    subst (λ s. IsWithin s (locals qs i)) (ap has e ∙ sym (locals_get ps i x h))
    (subst (IsWithin (has x)) (ap has f ∙ sym (locals_get qs i y (omega (arith, h, l)))) w)

pub within_more : (ps qs : List ℕ) (i x y : ℕ) → i < length ps → length ps ≡ length qs
    → x ≡ get_or ps i x → y ≡ get_or qs i y → IsWithin (has x) (has y)
    → ((k : ℕ) → k < i → IsWithin (locals ps k) (locals qs k)) → (k : ℕ) → k < i + 1
    → IsWithin (locals ps k) (locals qs k)
within_more ps qs i x y h l e f w u =
    below_more (λ k. IsWithin (locals ps k) (locals qs k)) i u (same_sets ps qs i x y h l e f w)

pub within_here : (ps qs : List ℕ) (i x y : ℕ) → i < length ps → length ps ≡ length qs
    → x ≡ get_or ps i x → y ≡ get_or qs i y → ((k : ℕ) → IsWithin (locals ps k) (locals qs k))
    → IsWithin (has x) (has y)
within_here ps qs i x y h l e f u =
    subst (λ s. IsWithin s (has y)) (locals_get ps i x h ∙ sym (ap has e))
    (subst (IsWithin (locals ps i))
    (locals_get qs i y (omega (arith, h, l)) ∙ sym (ap has f)) (u i))

pub within_all : (ps qs : List ℕ) (n : ℕ) → n ≡ length ps
    → ((k : ℕ) → k < n → IsWithin (locals ps k) (locals qs k)) → (k : ℕ)
    → IsWithin (locals ps k) (locals qs k)
within_all ps qs n e u k =
    ⊎_elim (λ s. u k s) (λ s. subst (λ z. IsWithin z (locals qs k))
    (sym (locals_past ps k (omega (arith, e, s)))) (λ m h. cc)) (cases_lt k n)

alike : (a b : Bool) → (IsTrue a → IsTrue b) → (IsTrue b → IsTrue a) → a ≡ b
alike true true f g = refl
alike true false f g = sym (f refl)
alike false true f g = g refl
alike false false f g = refl

-- sets of which each is within the other
pub same_members : (s t : Set) → IsWithin s t → IsWithin t s → s ≡ t
same_members s t f g = fun_ext λ n. alike (s n) (t n) (f n) (g n)

-- a local that is given what it has stays as it is
put_held : (env : ℕ → Set) (x : ℕ) (v : Set) → env x ≡ v → env ≡ put numbers env x v
put_held env x v e = fun_ext λ y. ⊎_elim
    (λ s. subst (λ b. env y ≡ cond b v (env y)) (sym s.0) (ap env s.1 ∙ e))
    (λ s. subst (λ b. env y ≡ cond b v (env y)) (sym s.0) refl) (eqb_tells y x)

pub assigned_held : (w : Way numbers) (x : ℕ) (v : Set) → w.env x ≡ union v w.context
    → w ≡ assigned numbers x v w
assigned_held w x v e =
    ap (λ env. record w { env = env }) (put_held w.env x (union v w.context) e)
