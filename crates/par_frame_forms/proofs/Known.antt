-- Locals, and those of them that are known.
use Rattle.std.proofs.Common.{◌≡◌, ℕ, zero, suc, ◌≤◌, Bool, true, false, cond, List, []}
use Rattle.std.proofs.Common.{◌∷◌, ◌++◌, length, take, refl, sym, ap, subst, ◌∙◌}
use Rattle.std.proofs.Common.{length-append, arith}
use Rattle.std.specs.Prelude.{get_or, ◌&&◌}
use Rattle.std.specs.List.{list_all}
use Rattle.std.proofs.lemmas.Bool.{and_parts, and_from, and_left, and_right}
use Rattle.par_frame_forms.specs.declared.form.PlaceType.{PlaceType}
use Rattle.par_frame_forms.specs.declared.form.PlaceType.TheVariants.{Top}
use Rattle.par_frame_forms.specs.Spelled.{TypesFit, Alike}
use Rattle.par_frame_forms.specs.Written.{is_top, known}

-- no local is known
abbrev pub Tops : List PlaceType → Type 0
Tops ts = list_all is_top ts ≡ true

top-is : (t : PlaceType) → is_top t ≡ true → t ≡ Top
top-is Top e = refl
top-is t e = absurd (cc e)

parts : (t : PlaceType) (ts : List PlaceType) → Tops (t ∷ ts) → (is_top t ≡ true) × Tops ts
parts t ts e = and_parts (is_top t) (list_all is_top ts) e

both : (t : PlaceType) (ts : List PlaceType) → is_top t ≡ true → Tops ts → Tops (t ∷ ts)
both t ts e h = and_from (is_top t) (list_all is_top ts) e h

tops-at : (ts : List PlaceType) → Tops ts → (n : ℕ) → get_or ts n Top ≡ Top
tops-at [] e n = refl
tops-at (t ∷ ts) e zero = top-is t (parts t ts e).0
tops-at (t ∷ ts) e (suc n) = tops-at ts (parts t ts e).1 n

at-tops : (ts : List PlaceType) → ((n : ℕ) → get_or ts n Top ≡ Top) → Tops ts
at-tops [] h = refl
at-tops (t ∷ ts) h = both t ts (ap is_top (h 0)) (at-tops ts (λ n. h (suc n)))

pub tops-first : (ts us : List PlaceType) → Tops (ts ++ us) → Tops ts
tops-first [] us e = refl
tops-first (t ∷ ts) us e =
    let p = parts t (ts ++ us) e in both t ts p.0 (tops-first ts us p.1)

pub tops-take : (m n : ℕ) (ts : List PlaceType) → m ≤ n → Tops (take n ts) → Tops (take m ts)
tops-take zero n ts le e = refl
tops-take (suc m) zero ts le e = absurd (omega (arith, le))
tops-take (suc m) (suc n) [] le e = refl
tops-take (suc m) (suc n) (t ∷ ts) le e =
    let p = parts t (take n ts) e in
    both t (take m ts) p.0 (tops-take m n ts (omega (arith, le)) p.1)

pub tops-fewer : (m : ℕ) (ts : List PlaceType) → Tops ts → Tops (take m ts)
tops-fewer zero ts e = refl
tops-fewer (suc m) [] e = refl
tops-fewer (suc m) (t ∷ ts) e =
    let p = parts t ts e in both t (take m ts) p.0 (tops-fewer m ts p.1)

append-tops : (ts rest : List PlaceType) → Tops rest → Alike (ts ++ rest) ts
append-tops [] rest e n = tops-at rest e n
append-tops (t ∷ ts) rest e zero = refl
append-tops (t ∷ ts) rest e (suc n) = append-tops ts rest e n

-- a list that has nothing known behind these locals
pub record Ends (ts front : List PlaceType) : Type 0 where
  pub rest : List PlaceType
  pub is : ts ≡ front ++ rest
  pub tops : Tops rest

known-ends : (ts : List PlaceType) → Ends ts (known ts)
unfolding known
known-ends [] = record { rest = []; is = refl; tops = refl }
known-ends (t ∷ ts) = in_case (list_all is_top (t ∷ ts)) refl (known-ends ts) where
  in_case : (b : Bool) → list_all is_top (t ∷ ts) ≡ b → Ends ts (known ts)
      → Ends (t ∷ ts) (cond b [] (t ∷ known ts))
  in_case true e r = record { rest = t ∷ ts; is = refl; tops = e }
  in_case false e r = record {
    rest = r.rest;
    is = ap (λ (us : List PlaceType). t ∷ us) r.is;
    tops = r.tops;
  }

alike-tops : (ts us : List PlaceType) → Alike ts us → list_all is_top ts ≡ list_all is_top us
alike-tops [] [] h = refl
alike-tops [] (u ∷ us) h = sym (at-tops (u ∷ us) (λ n. sym (h n)))
alike-tops (t ∷ ts) [] h = at-tops (t ∷ ts) h
alike-tops (t ∷ ts) (u ∷ us) h =
    let rest = alike-tops ts us (λ n. h (suc n)) in λ i. is_top (h 0 i) && rest i

pub alike-known : (ts us : List PlaceType) → Alike ts us → known ts ≡ known us
unfolding known
alike-known [] [] h = refl
alike-known [] (u ∷ us) h =
    ap (λ (b : Bool). cond b [] (u ∷ known us)) (sym (at-tops (u ∷ us) (λ n. sym (h n))))
alike-known (t ∷ ts) [] h = ap (λ (b : Bool). cond b [] (t ∷ known ts)) (at-tops (t ∷ ts) h)
alike-known (t ∷ ts) (u ∷ us) h =
    let tops = alike-tops (t ∷ ts) (u ∷ us) h in
    let rest = alike-known ts us (λ n. h (suc n)) in λ i. cond (tops i) [] (h 0 i ∷ rest i)

-- a list that tells the same begins with the known locals
pub ends-as : (ts us : List PlaceType) → Alike ts us → Ends ts (known us)
ends-as ts us h =
    subst (λ (front : List PlaceType). Ends ts front) (alike-known ts us h) (known-ends ts)

pub known-alike : (ts : List PlaceType) → Alike (known ts) ts
known-alike ts n =
    let r = known-ends ts in
    sym (append-tops (known ts) r.rest r.tops n)
    ∙ ap (λ (us : List PlaceType). get_or us n Top) (sym r.is)

-- and what has nothing known behind these tells the same
pub formed : (ts us rest : List PlaceType) → ts ≡ known us ++ rest → Tops rest → Alike ts us
formed ts us rest is tops n =
    ap (λ (xs : List PlaceType). get_or xs n Top) is ∙ append-tops (known us) rest tops n
    ∙ known-alike us n

pub known-few : (ts : List PlaceType) → length (known ts) ≤ length ts
known-few ts =
    let r = known-ends ts in
    let all : length ts ≡ length (known ts ++ r.rest) = ap length r.is in
    omega (arith, all, length-append (known ts) r.rest)

front-fit : (ts us : List PlaceType) → TypesFit (ts ++ us) → TypesFit ts
front-fit [] us h = tt
front-fit (t ∷ ts) us h = (h.0, front-fit ts us h.1)

pub known-fit : (ts : List PlaceType) → TypesFit ts → TypesFit (known ts)
known-fit ts h =
    let r = known-ends ts in
    front-fit (known ts) r.rest (subst (λ (us : List PlaceType). TypesFit us) r.is h)

-- ---- the last local

-- one that is not known goes
known_front : (front : List PlaceType) (last : PlaceType) → is_top last ≡ true
    → known (front ++ last ∷ []) ≡ known front
known_front front last e =
    alike-known (front ++ last ∷ []) front
    (append-tops front (last ∷ []) (both last [] e refl))

some-known : (front : List PlaceType) (last : PlaceType) → is_top last ≡ false
    → list_all is_top (front ++ last ∷ []) ≡ false
some-known [] last e = and_left (is_top last) true e
some-known (t ∷ front) last e =
    and_right (is_top t) (list_all is_top (front ++ last ∷ [])) (some-known front last e)

-- one that is known stays
known_whole : (front : List PlaceType) (last : PlaceType) → is_top last ≡ false
    → known (front ++ last ∷ []) ≡ front ++ last ∷ []
unfolding known
known_whole [] last e =
    ap (λ (b : Bool). cond b [] (last ∷ [])) (some-known [] last e)
known_whole (t ∷ front) last e =
    ap (λ (b : Bool). cond b [] (t ∷ known (front ++ last ∷ []))) (some-known (t ∷ front) last e)
    ∙ ap (λ (us : List PlaceType). t ∷ us) (known_whole front last e)

-- ---- from the end on

-- where others tell the same
pub less_known : (ts front us : List PlaceType) (last : PlaceType) → ts ≡ front ++ last ∷ []
    → is_top last ≡ true → known ts ≡ known us → known front ≡ known us
less_known ts front us last is e h = sym (known_front front last e) ∙ ap known (sym is) ∙ h

pub all_known : (ts front us : List PlaceType) (last : PlaceType) → ts ≡ front ++ last ∷ []
    → is_top last ≡ false → known ts ≡ known us → ts ≡ known us
all_known ts front us last is e h =
    is ∙ sym (known_whole front last e) ∙ ap known (sym is) ∙ h

pub none_known : (ts us : List PlaceType) → length ts ≡ 0 → known ts ≡ known us → ts ≡ known us
unfolding known
none_known [] us e h = h
none_known (t ∷ ts) us e h = absurd (omega (arith, e))
