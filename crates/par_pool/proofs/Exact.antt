-- A reader that is exact: what it reads is spelled so, and what is spelled so it reads again.
use Rattle.std.proofs.Common.{◌≡◌, ℕ, suc, ◌+◌, ◌^◌, ◌<◌, ◌≤◌, Bool, true, false, cond, ltb, List}
use Rattle.std.proofs.Common.{[], ◌∷◌, ◌++◌, length, get_or, take, drop, Result, Ok, Err, refl, sym}
use Rattle.std.proofs.Common.{ap, subst, ◌∙◌, append_assoc, length-append, arith, inl, inr}
use Rattle.std.specs.Prelude.{IsTrue}
use Rattle.std.proofs.lemmas.Bool.{cases_lt, ltb-false, le-ltb}
use Rattle.std.proofs.lemmas.List.{take_at, drop_at, take-append-drop, length-take, get_or-drop}
use Rattle.std.proofs.lemmas.List.{get_or-take, get_or_past}
use Rattle.std.proofs.lemmas.Nat.{be_bytes_2, be_bytes_4}
use Rattle.byteorder.specs.Endian.{big_number, big_bytes}
use Rattle.byteorder.specs.Numbers.{big_number-reads_back, big_from-lt, length-bytes_high_first}
use Rattle.par_pool.specs.declared.error.ClassError.{ClassError}
use Rattle.par_pool.specs.Reading.{Reader, ◌>>=◌, both, made, tested, keyed, u1_at, number_at}
use Rattle.par_pool.specs.Reading.{u2_at, u4_at, bytes_at}
use Rattle.par_pool.specs.Spelling.{u2, u4}

-- the numbers are bytes
abbrev pub IsBytes : List ℕ → Type 0
IsBytes bytes = (i : ℕ) → get_or bytes i 0 < 256

IsBytes-drop : (n : ℕ) (bytes : List ℕ) → IsBytes bytes → IsBytes (drop n bytes)
IsBytes-drop n bytes h i = rw get_or-drop (h (n + i))

IsBytes-take : (n : ℕ) (bytes : List ℕ) → IsBytes bytes → IsBytes (take n bytes)
IsBytes-take n bytes h i =
    elim (cases_lt i n) [
      | inl lt ↦ rw (get_or-take n bytes i 0 lt) (h i)
      | inr le ↦ rw (get_or_past (take n bytes) i 0 (omega (arith, length-take n bytes)))
          (omega arith)
    ]

-- the value of a step that did not fail
pub bind_ok : {A B : Type 0} (r : Result A ClassError) (f : A → Result B ClassError) (y : B)
    → (r >>= f) ≡ Ok y → (x : A) × (r ≡ Ok x) × (f x ≡ Ok y)
bind_ok (Ok x) f y e = (x, refl, e)
bind_ok (Err d) f y e = absurd cc

-- a test that did not fail
pub guard_ok : {A : Type 0} (b : Bool) (d : ClassError) (x y : A) → cond b (Err d) (Ok x) ≡ Ok y
    → (b ≡ false) × (x ≡ y)
guard_ok true d x y e = absurd cc
guard_ok false d x y e = (refl, cc)

passed_ok : {A : Type 0} (b : Bool) (d : ClassError) (x y : A) → cond b (Ok x) (Err d) ≡ Ok y
    → (b ≡ true) × (x ≡ y)
passed_ok true d x y e = (refl, cc)
passed_ok false d x y e = absurd cc

abbrev done : {A : Type 0} → A → Result A ClassError
done x = Ok x

pub ok_is : {A : Type 0} (x y : A) → done x ≡ done y → x ≡ y
ok_is x y e = cc

-- what a reader took from the front
pub record Takes (bytes text rest : List ℕ) : Type 0 where
  pub parts : bytes ≡ text ++ rest
  pub rest_fits : IsBytes rest

pub takes_then : (a x b y c : List ℕ) → Takes a x b → Takes b y c → Takes a (x ++ y) c
takes_then a x b y c p q =
    record {
      parts = p.parts ∙ ap (λ (t : List ℕ). x ++ t) q.parts ∙ sym (append_assoc x y c);
      rest_fits = q.rest_fits;
    }

pub record Exact {A : Type 0} (Fits : A → Type 0) (put : A → List ℕ)
    (read : Reader A) : Type 0 where
  pub takes : (bytes : List ℕ) (x : A × List ℕ) → IsBytes bytes → read bytes ≡ Ok x
      → Takes bytes (put x.0) x.1 × Fits x.0
  pub again : (x : A) (rest : List ℕ) → Fits x → read (put x ++ rest) ≡ Ok (x, rest)

-- ---- numbers and bytes

back-2 : (bytes : List ℕ) → 2 ≤ length bytes → IsBytes bytes
    → big_bytes 2 (big_number 2 bytes) ≡ take 2 bytes
back-2 bytes len fits =
    be_bytes_2 (take 2 bytes) (big_number 2 bytes) (omega (arith, length-take 2 bytes))
    (IsBytes-take 2 bytes fits) (omega
    (arith, get_or-take 2 bytes 0 0 (omega arith), get_or-take 2 bytes 1 0 (omega arith)))

back-4 : (bytes : List ℕ) → 4 ≤ length bytes → IsBytes bytes
    → big_bytes 4 (big_number 4 bytes) ≡ take 4 bytes
back-4 bytes len fits =
    be_bytes_4 (take 4 bytes) (big_number 4 bytes) (omega (arith, length-take 4 bytes))
    (IsBytes-take 4 bytes fits)
    (omega (
      arith,
      get_or-take 4 bytes 0 0 (omega arith),
      get_or-take 4 bytes 1 0 (omega arith),
      get_or-take 4 bytes 2 0 (omega arith),
      get_or-take 4 bytes 3 0 (omega arith),
    ))

exact-number : (n : ℕ) (short : ClassError)
    → ((bytes : List ℕ) → n ≤ length bytes → IsBytes bytes
    → big_bytes n (big_number n bytes) ≡ take n bytes)
    → Exact (λ x. x < 256 ^ n) (λ x. big_bytes n x) (number_at n short)
unfolding number_at
exact-number n short back = record {
  takes = λ bytes x fits e.
      let g = guard_ok (ltb (length bytes) n) short (big_number n bytes, drop n bytes) x e in
      let long : n ≤ length bytes = ltb-false _ _ g.0 in
      let P : ℕ × List ℕ → Type 0 = λ y. Takes bytes (big_bytes n y.0) y.1 × (y.0 < 256 ^ n) in
      subst P g.1 (
        record {
          parts = sym (take-append-drop n bytes)
              ∙ ap (λ (front : List ℕ). front ++ drop n bytes) (sym (back bytes long fits));
          rest_fits = IsBytes-drop n bytes fits;
        },
        big_from-lt 0 n bytes fits,
      );
  again = λ x rest lt.
      let long : ltb (length (big_bytes n x ++ rest)) n ≡ false =
      le-ltb _ _ (omega (arith, length-append (big_bytes n x) rest, length-bytes_high_first n x)) in
      rw (
        long,
        big_number-reads_back n x rest lt,
        drop_at (big_bytes n x) rest n (length-bytes_high_first n x),
      ) refl;
}

pub exact_u2 : (short : ClassError) → Exact (λ n. n < 2 ^ 16) u2 (u2_at short)
exact_u2 short = exact-number 2 short back-2

pub exact_u4 : (short : ClassError) → Exact (λ n. n < 2 ^ 32) u4 (u4_at short)
exact_u4 short = exact-number 4 short back-4

u1-takes : (short : ClassError) (bytes : List ℕ) (x : ℕ × List ℕ) → IsBytes bytes
    → u1_at short bytes ≡ Ok x → Takes bytes (x.0 ∷ []) x.1 × (x.0 < 256)
unfolding u1_at
u1-takes short [] x fits e = absurd cc
u1-takes short (b ∷ bytes) x fits e =
    let P : ℕ × List ℕ → Type 0 = λ y. Takes (b ∷ bytes) (y.0 ∷ []) y.1 × (y.0 < 256) in
    subst P (ok_is (b, bytes) x e) (record { parts = refl; rest_fits = λ i. fits (suc i) }, fits 0)

pub exact_u1 : (short : ClassError) → Exact (λ n. n < 256) (λ n. n ∷ []) (u1_at short)
unfolding u1_at
exact_u1 short = record { takes = u1-takes short; again = λ x rest lt. refl }

pub exact_bytes : (short : ClassError) (n : ℕ)
    → Exact (λ text. length text ≡ n) (λ text. text) (bytes_at short n)
unfolding bytes_at
exact_bytes short n = record {
  takes = λ bytes x fits e.
      let g = guard_ok (ltb (length bytes) n) short (take n bytes, drop n bytes) x e in
      let long : n ≤ length bytes = ltb-false _ _ g.0 in
      let P : List ℕ × List ℕ → Type 0 = λ y. Takes bytes y.0 y.1 × (length y.0 ≡ n) in
      subst P g.1 (
        record {
          parts = sym (take-append-drop n bytes);
          rest_fits = IsBytes-drop n bytes fits;
        },
        omega (arith, length-take n bytes),
      );
  again = λ x rest len.
      let long : ltb (length (x ++ rest)) n ≡ false =
      le-ltb _ _ (omega (arith, length-append x rest, len)) in
      rw (long, take_at x rest n len, drop_at x rest n len) refl;
}

-- ---- items made of items

pub exact_both : {A B : Type 0} {F : A → Type 0} {G : B → Type 0} {p : A → List ℕ} {q : B → List ℕ}
    {r : Reader A} {s : Reader B} → Exact F p r → Exact G q s
    → Exact (λ (x : A × B). F x.0 × G x.1) (λ x. p x.0 ++ q x.1) (both r s)
exact_both {A = A} {B = B} {F = F} {G = G} {p = p} {q = q} {r = r} {s = s} one two = record {
  takes = λ bytes x fits e.
      let a = bind_ok (r bytes) (λ a. s a.1 >>= λ b. Ok ((a.0, b.0), b.1)) x e in
      let b = bind_ok (s a.0.1) (λ b. Ok ((a.0.0, b.0), b.1)) x a.2 in
      let t = one.takes bytes a.0 fits a.1 in
      let u = two.takes a.0.1 b.0 t.0.rest_fits b.1 in
      let P : (A × B) × List ℕ → Type 0 =
      λ y. Takes bytes (p y.0.0 ++ q y.0.1) y.1 × (F y.0.0 × G y.0.1) in
      subst P (ok_is ((a.0.0, b.0.0), b.0.1) x b.2)
      (takes_then bytes (p a.0.0) a.0.1 (q b.0.0) b.0.1 t.0 u.0, (t.1, u.1));
  again = λ x rest h.
      ap (both r s) (append_assoc (p x.0) (q x.1) rest)
      ∙ rw (one.again x.0 (q x.1 ++ rest) h.0, two.again x.1 rest h.1) refl;
}

-- a value that is another one's picture
pub exact_made : {A B : Type 0} {F : A → Type 0} {p : A → List ℕ} {r : Reader A} (G : B → Type 0)
    (to : A → B) (from : B → A) → ((a : A) → F a → (from (to a) ≡ a) × G (to a))
    → ((b : B) → G b → (to (from b) ≡ b) × F (from b))
    → Exact F p r → Exact G (λ b. p (from b)) (made to r)
exact_made {A = A} {B = B} {F = F} {p = p} {r = r} G to from there back one = record {
  takes = λ bytes x fits e.
      let a = bind_ok (r bytes) (λ a. Ok (to a.0, a.1)) x e in
      let t = one.takes bytes a.0 fits a.1 in
      let k = there a.0.0 t.1 in
      let P : B × List ℕ → Type 0 = λ y. Takes bytes (p (from y.0)) y.1 × G y.0 in
      subst P (ok_is (to a.0.0, a.0.1) x a.2) (rw k.0 t.0, k.1);
  again = λ b rest h.
      let k = back b h in
      rw (one.again (from b) rest k.1, k.0) refl;
}

-- an item that passes a test
pub exact_tested : {A : Type 0} {F : A → Type 0} {p : A → List ℕ} {r : Reader A} (test : A → Bool)
    (fault : A → List ℕ → ClassError) → Exact F p r
    → Exact (λ a. F a × IsTrue (test a)) p (tested test fault r)
exact_tested {A = A} {F = F} {p = p} {r = r} test fault one = record {
  takes = λ bytes x fits e.
      let a = bind_ok (r bytes) (λ a. cond (test a.0) (Ok a) (Err (fault a.0 bytes))) x e in
      let g = passed_ok (test a.0.0) (fault a.0.0 bytes) a.0 x a.2 in
      let t = one.takes bytes a.0 fits a.1 in
      let P : A × List ℕ → Type 0 = λ y. Takes bytes (p y.0) y.1 × (F y.0 × IsTrue (test y.0)) in
      subst P g.1 (t.0, (t.1, g.0));
  again = λ x rest h. rw (one.again x rest h.0, h.1) refl;
}

-- an item behind one that says how it is read
pub exact_keyed : {K A : Type 0} {F : K → Type 0} {G : A → Type 0} {p : K → List ℕ} {q : A → List ℕ}
    {r : Reader K} {s : K → Reader A} (key : A → K)
    → Exact F p r → ((k : K) → F k → Exact (λ a. (key a ≡ k) × G a) q (s k))
    → Exact (λ a. F (key a) × G a) (λ a. p (key a) ++ q a) (keyed r s)
exact_keyed {K = K} {A = A} {F = F} {G = G} {p = p} {q = q} {r = r} {s = s} key one two = record {
  takes = λ bytes x fits e.
      let k = bind_ok (r bytes) (λ k. s k.0 k.1) x e in
      let t = one.takes bytes k.0 fits k.1 in
      let u = (two k.0.0 t.1).takes k.0.1 x t.0.rest_fits k.2 in (
        subst (λ (j : K). Takes bytes (p j ++ q x.0) x.1) (sym u.1.0)
            (takes_then bytes (p k.0.0) k.0.1 (q x.0) x.1 t.0 u.0),
        (subst F (sym u.1.0) t.1, u.1.1),
      );
  again = λ x rest h.
      ap (keyed r s) (append_assoc (p (key x)) (q x) rest)
      ∙ rw (one.again (key x) (q x ++ rest) h.0, (two (key x) h.0).again x rest (refl, h.1)) refl;
}
