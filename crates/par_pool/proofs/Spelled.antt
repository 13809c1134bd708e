-- Constants are read exactly.
use Rattle.std.proofs.Common.{◌≡◌, ℕ, ◌^◌, ◌<◌, ℤ, Bool, cond, eqb, List, [], ◌∷◌, ◌++◌, length, Ok}
use Rattle.std.proofs.Common.{refl, sym, ap, subst, inl, inr, arith}
use Rattle.std.specs.Prelude.{IsTrue, pos}
use Rattle.std.specs.Int.{w32, cast_unsigned, cast_signed}
use Rattle.std.proofs.lemmas.Bool.{cases_Bool, eqb-true, eqb-false}
use Rattle.std.proofs.lemmas.Int.{of_z-to_z, to_z-of_z}
use Rattle.std.proofs.Math.Facts.{sfits_to_z, Fits-of_z}
use Rattle.par_pool.specs.declared.constant.Constant.{Constant}
use Rattle.par_pool.specs.declared.constant.Constant.TheVariants.{Utf8, Integer, Class, Text, Field}
use Rattle.par_pool.specs.declared.constant.Constant.TheVariants.{Method, NameType}
use Rattle.par_pool.specs.declared.error.ClassError.{ClassError}
use Rattle.par_pool.specs.declared.error.ClassError.TheVariants.{Pool}
use Rattle.par_pool.specs.Reading.{Reader, made}
use Rattle.par_pool.specs.Spelling.{u2, u4, constant, is_plain, Fits}
use Rattle.par_pool.specs.Constants.{text_at, integer_at, one_at, two_at, behind_tag, constant_at}
use Rattle.par_pool.proofs.Exact.{Takes, Exact, exact_u1, exact_u2, exact_u4, exact_bytes}
use Rattle.par_pool.proofs.Exact.{exact_both, exact_made, exact_tested, exact_keyed}

-- the same said of the same values, spelled the same
pub exact_same : {A : Type 0} {F : A → Type 0} {p : A → List ℕ} {r : Reader A} (G : A → Type 0)
    (q : A → List ℕ) → ((a : A) → F a → G a) → ((a : A) → G a → F a × (p a ≡ q a)) → Exact F p r
    → Exact G q r
exact_same {A = A} {F = F} {p = p} {r = r} G q there back one = record {
  takes = λ bytes x fits e.
      let t = one.takes bytes x fits e in
      let g = there x.0 t.1 in
      (subst (λ (text : List ℕ). Takes bytes text x.1) (back x.0 g).1 t.0, g);
  again = λ x rest g.
      let b = back x g in
      subst (λ (text : List ℕ). r (text ++ rest) ≡ Ok (x, rest)) b.1 (one.again x rest b.0);
}

-- a choice by a number
exact-if : {A : Type 0} {F : A → Type 0} {p : A → List ℕ} {r s : Reader A} (k t : ℕ)
    → (k ≡ t → Exact F p r) → ((k ≡ t → ⊥) → Exact F p s)
    → Exact F p (λ bytes. cond (eqb k t) (r bytes) (s bytes))
exact-if {F = F} {p = p} {r = r} {s = s} k t is isnt =
    let P : Bool → Type 0 = λ b. Exact F p (λ bytes. cond b (r bytes) (s bytes)) in
    elim (cases_Bool (eqb k t)) [
      | inl e ↦ subst P (sym e) (is (eqb-true k t e))
      | inr e ↦ subst P (sym e) (isnt (eqb-false k t e))
    ]

-- ---- the parts of a constant

abbrev tag : Constant → ℕ
tag (Utf8 text) = 1
tag (Integer n) = 3
tag (Class name) = 7
tag (Text text) = 8
tag (Field class member) = 9
tag (Method class member) = 10
tag (NameType name descriptor) = 12

abbrev body : Constant → List ℕ
body (Utf8 text) = u2 (length text) ++ text
body (Integer n) = u4 (cast_unsigned w32 n)
body (Class name) = u2 name
body (Text text) = u2 text
body (Field class member) = u2 class ++ u2 member
body (Method class member) = u2 class ++ u2 member
body (NameType name descriptor) = u2 name ++ u2 descriptor

abbrev text-in : Constant → List ℕ
text-in (Utf8 text) = text
text-in _ = []

abbrev number-in : Constant → ℤ
number-in (Integer n) = n
number-in _ = pos 0

abbrev one-in : Constant → ℕ
one-in (Class n) = n
one-in (Text n) = n
one-in _ = 0

abbrev two-in : Constant → ℕ × ℕ
two-in (Field a b) = (a, b)
two-in (Method a b) = (a, b)
two-in (NameType a b) = (a, b)
two-in _ = (0, 0)

-- a constant of this tag
abbrev IsTagged : ℕ → Constant → Type 0
IsTagged k c = (tag c ≡ k) × Fits c

text-back : (c : Constant) → IsTagged 1 c
    → (Utf8 (text-in c) ≡ c) × (((length (text-in c) < 2 ^ 16) × Unit {0})
    × IsTrue (is_plain (text-in c))) × (u2 (length (text-in c)) ++ text-in c ≡ body c)
text-back (Utf8 text) h = (refl, ((h.1.short, tt), h.1.plain), refl)
text-back _ h = absurd (omega (arith, h.0))

integer-back : (c : Constant) → IsTagged 3 c
    → (Integer (cast_signed w32 (cast_unsigned w32 (number-in c))) ≡ c)
    × (cast_unsigned w32 (number-in c) < 2 ^ 32) × (u4 (cast_unsigned w32 (number-in c)) ≡ body c)
integer-back (Integer n) h =
    (ap (λ (z : ℤ). Integer z) (to_z-of_z w32 n h.1), (Fits-of_z {w = w32} {z = n} h.1).fits, refl)
integer-back _ h = absurd (omega (arith, h.0))

class-back : (c : Constant) → IsTagged 7 c
    → (Class (one-in c) ≡ c) × (one-in c < 2 ^ 16) × (u2 (one-in c) ≡ body c)
class-back (Class n) h = (refl, h.1, refl)
class-back _ h = absurd (omega (arith, h.0))

string-back : (c : Constant) → IsTagged 8 c
    → (Text (one-in c) ≡ c) × (one-in c < 2 ^ 16) × (u2 (one-in c) ≡ body c)
string-back (Text n) h = (refl, h.1, refl)
string-back _ h = absurd (omega (arith, h.0))

field-back : (c : Constant) → IsTagged 9 c
    → (Field (two-in c).0 (two-in c).1 ≡ c) × (((two-in c).0 < 2 ^ 16) × ((two-in c).1 < 2 ^ 16))
    × (u2 (two-in c).0 ++ u2 (two-in c).1 ≡ body c)
field-back (Field a b) h = (refl, h.1, refl)
field-back _ h = absurd (omega (arith, h.0))

method-back : (c : Constant) → IsTagged 10 c
    → (Method (two-in c).0 (two-in c).1 ≡ c) × (((two-in c).0 < 2 ^ 16) × ((two-in c).1 < 2 ^ 16))
    × (u2 (two-in c).0 ++ u2 (two-in c).1 ≡ body c)
method-back (Method a b) h = (refl, h.1, refl)
method-back _ h = absurd (omega (arith, h.0))

name_type-back : (c : Constant) → IsTagged 12 c
    → (NameType (two-in c).0 (two-in c).1 ≡ c) × (((two-in c).0 < 2 ^ 16) × ((two-in c).1 < 2 ^ 16))
    × (u2 (two-in c).0 ++ u2 (two-in c).1 ≡ body c)
name_type-back (NameType a b) h = (refl, h.1, refl)
name_type-back _ h = absurd (omega (arith, h.0))

-- a constant that is another value's picture, at its tag
abbrev Form : {A : Type 0} → ℕ → (A → Type 0) → (A → List ℕ) → (A → Constant)
    → (Constant → A) → Type 0
Form {A = A} t F p to from =
    ((a : A) → F a → (from (to a) ≡ a) × IsTagged t (to a))
    × ((c : Constant) → IsTagged t c → (to (from c) ≡ c) × F (from c) × (p (from c) ≡ body c))

exact-form : {A : Type 0} {F : A → Type 0} {p : A → List ℕ} {r : Reader A} (t : ℕ)
    (to : A → Constant) (from : Constant → A) → Form t F p to from → Exact F p r
    → Exact (IsTagged t) body (made to r)
exact-form {F = F} {p = p} t to from form one =
    exact_same (IsTagged t) body (λ c h. h) (λ c h. (h, (form.1 c h).2))
    (exact_made (IsTagged t) to from form.0 (λ c h. ((form.1 c h).0, (form.1 c h).1)) one)

exact-text : (short : ClassError) (index : ℕ) → Exact (IsTagged 1) body (text_at short index)
unfolding text_at
exact-text short index =
    exact-form 1 (λ text. Utf8 text) text-in
    (λ text h. (refl, (refl, record { short = h.0.0; plain = h.1 })), text-back)
    (exact_tested is_plain (λ _ _. Pool index)
    (exact_keyed {G = λ _. Unit {0}} length (exact_u2 short)
    (λ n h. exact_same (λ text. (length text ≡ n) × Unit {0}) (λ text. text) (λ text e. (e, tt))
    (λ text e. (e.0, refl)) (exact_bytes short n))))

exact-integer : (short : ClassError) → Exact (IsTagged 3) body (integer_at short)
unfolding integer_at
exact-integer short =
    exact-form 3 (λ n. Integer (cast_signed w32 n)) (λ c. cast_unsigned w32 (number-in c))
    (λ n h. (of_z-to_z w32 n h, (refl, sfits_to_z {w = w32} (record { fits = h }))), integer-back)
    (exact_u4 short)

exact-two : (form : ℕ → ℕ → Constant) (t : ℕ) (short : ClassError)
    → Form t (λ (x : ℕ × ℕ). (x.0 < 2 ^ 16) × (x.1 < 2 ^ 16)) (λ x. u2 x.0 ++ u2 x.1)
    (λ x. form x.0 x.1) two-in → Exact (IsTagged t) body (two_at form short)
unfolding two_at
exact-two form t short is =
    exact-form t (λ x. form x.0 x.1) two-in is (exact_both (exact_u2 short) (exact_u2 short))

exact-one : (form : ℕ → Constant) (t : ℕ) (short : ClassError)
    → Form t (λ n. n < 2 ^ 16) u2 (λ n. form n) one-in → Exact (IsTagged t) body (one_at form short)
unfolding one_at
exact-one form t short is = exact-form t (λ n. form n) one-in is (exact_u2 short)

no-tag : (k : ℕ) (c : Constant) → (k ≡ 1 → ⊥) → (k ≡ 3 → ⊥) → (k ≡ 7 → ⊥) → (k ≡ 8 → ⊥)
    → (k ≡ 9 → ⊥) → (k ≡ 10 → ⊥) → (k ≡ 12 → ⊥) → tag c ≡ k → ⊥
no-tag k (Utf8 text) a b c d e f g h = a (sym h)
no-tag k (Integer n) a b c d e f g h = b (sym h)
no-tag k (Class n) a b c d e f g h = c (sym h)
no-tag k (Text n) a b c d e f g h = d (sym h)
no-tag k (Field m n) a b c d e f g h = e (sym h)
no-tag k (Method m n) a b c d e f g h = f (sym h)
no-tag k (NameType m n) a b c d e f g h = g (sym h)

at-tag : (k t : ℕ) (r : Reader Constant) → k ≡ t → Exact (IsTagged t) body r
    → Exact (IsTagged k) body r
at-tag k t r e one = subst (λ (n : ℕ). Exact (IsTagged n) body r) (sym e) one

exact-behind_tag : (short : ClassError) (index k : ℕ)
    → Exact (IsTagged k) body (behind_tag short index k)
exact-behind_tag short index k =
    exact-if k 1 (λ e. at-tag k 1 _ e (exact-text short index)) (λ n1.
    exact-if k 3 (λ e. at-tag k 3 _ e (exact-integer short)) (λ n3.
    exact-if k 7 (λ e. at-tag k 7 _ e
    (exact-one (λ n. Class n) 7 short (λ n h. (refl, (refl, h)), class-back))) (λ n7.
    exact-if k 8 (λ e. at-tag k 8 _ e
    (exact-one (λ n. Text n) 8 short (λ n h. (refl, (refl, h)), string-back))) (λ n8.
    exact-if k 9 (λ e. at-tag k 9 _ e
    (exact-two (λ m n. Field m n) 9 short (λ x h. (refl, (refl, h)), field-back))) (λ n9.
    exact-if k 10 (λ e. at-tag k 10 _ e
    (exact-two (λ m n. Method m n) 10 short (λ x h. (refl, (refl, h)), method-back))) (λ n10.
    exact-if k 12 (λ e. at-tag k 12 _ e
    (exact-two (λ m n. NameType m n) 12 short (λ x h. (refl, (refl, h)), name_type-back))) (λ n12.
    record {
      takes = λ bytes x fits e. absurd cc;
      again = λ c rest h. absurd (no-tag k c n1 n3 n7 n8 n9 n10 n12 h.0);
    })))))))

constant-is : (c : Constant) → (tag c < 256) × ((tag c ∷ []) ++ body c ≡ constant c)
unfolding constant
constant-is (Utf8 text) = (omega arith, refl)
constant-is (Integer n) = (omega arith, refl)
constant-is (Class n) = (omega arith, refl)
constant-is (Text n) = (omega arith, refl)
constant-is (Field m n) = (omega arith, refl)
constant-is (Method m n) = (omega arith, refl)
constant-is (NameType m n) = (omega arith, refl)

pub exact_constant : (short : ClassError) (index : ℕ)
    → Exact Fits constant (constant_at short index)
unfolding constant_at
exact_constant short index =
    exact_same Fits constant (λ c h. h.1) (λ c h. (((constant-is c).0, h), (constant-is c).1))
    (exact_keyed {G = Fits} {q = body} tag (exact_u1 short) (λ k h. exact-behind_tag short index k))
