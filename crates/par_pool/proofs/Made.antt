-- A pool in the making keeps its spelling and names nothing twice when a new entry is put behind
-- it.
use Rattle.std.proofs.Common.{◌≡◌, ℕ, zero, suc, ◌+◌, ◌<◌, Bool, true, false, List, [], ◌∷◌, ◌++◌}
use Rattle.std.proofs.Common.{length, get_or, Option, Some, None, refl, sym, ap, subst, ◌∙◌, inl}
use Rattle.std.proofs.Common.{inr, length-append, add-one, arith}
use Rattle.std.specs.Prelude.{◌≢◌, ◌⊎◌, ◌&&◌, slice_get, IsTrue}
use Rattle.std.specs.List.{list_all}
use Rattle.std.proofs.lemmas.Bool.{false≢true, and_parts, and_from, cases_lt}
use Rattle.std.proofs.lemmas.Option.{none-some, same_Some, slice_get_within, slice_get-get_or}
use Rattle.std.proofs.lemmas.Option.{get_or_from_slice_get}
use Rattle.std.proofs.lemmas.List.{get_or_append_left, get_or-append-add}
use Rattle.std.proofs.lemmas.List.Elements.{All-from_recursion, recursion_from_All, All-push}
use Rattle.std.proofs.lemmas.List.Folds.{list_all-append}
use Rattle.par_pool.specs.declared.constant.Constant.{Constant}
use Rattle.par_pool.specs.declared.constant.Constant.TheVariants.{Utf8, Integer, Class, Text, Field}
use Rattle.par_pool.specs.declared.constant.Constant.TheVariants.{Method, NameType}
use Rattle.par_pool.specs.Entries.{entry_at, IsAt, IsDistinct}
use Rattle.par_pool.specs.Spelling.{is_text, is_class, is_member, refers, Fits, IsMade}
use Rattle.par_pool.proofs.Growth.{at-append}

-- the index of a place
pub at_place : (pool : List Constant) (place : ℕ) (c : Constant) → slice_get pool place ≡ Some c
    → IsAt pool (place + 1) c
at_place pool place c h = rw add-one h

last-place : (old : List Constant) (c : Constant) → slice_get (old ++ c ∷ []) (length old) ≡ Some c
last-place old c =
    slice_get-get_or (old ++ c ∷ []) (length old) c (omega (arith, length-append old (c ∷ [])))
    ∙ ap (λ (x : Constant). Some x)
    (ap (λ (n : ℕ). get_or (old ++ c ∷ []) n c) (omega arith) ∙ get_or-append-add old (c ∷ []) 0 c)

-- the last entry has the index that is the number of entries
pub at_end : (old new : List Constant) (c : Constant) (n : ℕ) → new ≡ old ++ c ∷ [] → n ≡ length new
    → IsAt new n c
at_end old new c n e len =
    let k : n ≡ suc (length old) =
    omega (arith, len, ap (λ (xs : List Constant). length xs) e, length-append old (c ∷ [])) in
    rw (k, e) (last-place old c)

at-push_cases : (old : List Constant) (c : Constant) (i : ℕ) (x : Constant)
    → IsAt (old ++ c ∷ []) i x → IsAt old i x ⊎ ((i ≡ suc (length old)) × (x ≡ c))
at-push_cases old c zero x h = absurd (none-some x h)
at-push_cases old c (suc i) x h =
    let within : i < length (old ++ c ∷ []) = slice_get_within (old ++ c ∷ []) i x h in
    elim (cases_lt i (length old)) [
      | inl lt ↦ inl (slice_get-get_or old i x lt
          ∙ ap (λ (y : Constant). Some y)
          (sym (get_or_append_left old (c ∷ []) x i lt)
          ∙ get_or_from_slice_get (old ++ c ∷ []) i x x h))
      | inr le ↦
          let k : i ≡ length old = omega (arith, length-append old (c ∷ []), within, le) in
          inr (
            ap suc k,
            same_Some x c (sym h ∙ ap (λ (n : ℕ). slice_get (old ++ c ∷ []) n) k
                ∙ last-place old c),
          )
    ]

-- no place has the constant
abbrev pub IsAbsent : List Constant → Constant → Type 0
IsAbsent pool c = (place : ℕ) → slice_get pool place ≢ Some c

pub absent_at : (pool : List Constant) (c : Constant) (i : ℕ) → IsAbsent pool c → IsAt pool i c → ⊥
absent_at pool c zero a h = none-some c h
absent_at pool c (suc i) a h = a i h

distinct-push : (old : List Constant) (c : Constant) → IsDistinct old → IsAbsent old c
    → IsDistinct (old ++ c ∷ [])
distinct-push old c d a = λ i j x hi hj.
    elim (at-push_cases old c i x hi) [
      | inl pi ↦ elim (at-push_cases old c j x hj) [
        | inl pj ↦ d i j x pi pj
        | inr qj ↦ absurd (absent_at old c i a (subst (λ (y : Constant). IsAt old i y) qj.1 pi))
      ]
      | inr qi ↦ elim (at-push_cases old c j x hj) [
        | inl pj ↦ absurd (absent_at old c j a (subst (λ (y : Constant). IsAt old j y) qi.1 pj))
        | inr qj ↦ qi.0 ∙ sym qj.0
      ]
    ]

-- a test of an entry that holds of no missing one
passes-more : (test : Option Constant → Bool) → test None ≡ false
    → (old more : List Constant) (i : ℕ) → test (entry_at old i) ≡ true
    → test (entry_at (old ++ more) i) ≡ true
passes-more test none old more i h =
    let keeps : (entry : Option Constant) → entry_at old i ≡ entry → test entry ≡ true
    → test (entry_at (old ++ more) i) ≡ true = λ entry.
    elim entry as (λ e. entry_at old i ≡ e → test e ≡ true
    → test (entry_at (old ++ more) i) ≡ true) [
      | None ↦ λ _ t. absurd (false≢true (sym none ∙ t))
      | Some c ↦ λ is t. ap test (at-append old more i c is) ∙ t
    ] in
    keeps (entry_at old i) refl h

both-more : (f g : Option Constant → Bool) → f None ≡ false → g None ≡ false
    → (old more : List Constant) (i j : ℕ) → (f (entry_at old i) && g (entry_at old j)) ≡ true
    → (f (entry_at (old ++ more) i) && g (entry_at (old ++ more) j)) ≡ true
both-more f g f-none g-none old more i j h =
    let p = and_parts (f (entry_at old i)) (g (entry_at old j)) h in
    and_from _ _ (passes-more f f-none old more i p.0) (passes-more g g-none old more j p.1)

pub refers-more : (old more : List Constant) (c : Constant) → IsTrue (refers old c)
    → IsTrue (refers (old ++ more) c)
refers-more old more (Utf8 text) h = refl
refers-more old more (Integer n) h = refl
refers-more old more (Class name) h = passes-more is_text refl old more name h
refers-more old more (Text text) h = passes-more is_text refl old more text h
refers-more old more (Field class member) h =
    both-more is_class is_member refl refl old more class member h
refers-more old more (Method class member) h =
    both-more is_class is_member refl refl old more class member h
refers-more old more (NameType name descriptor) h =
    both-more is_text is_text refl refl old more name descriptor h

all-weaker : (p q : Constant → Bool) → ((c : Constant) → p c ≡ true → q c ≡ true)
    → (cs : List Constant) → list_all p cs ≡ true → list_all q cs ≡ true
all-weaker p q w [] h = refl
all-weaker p q w (c ∷ cs) h =
    let parts = and_parts (p c) (list_all p cs) h in
    and_from _ _ (w c parts.0) (all-weaker p q w cs parts.1)

-- a new entry keeps all that a pool in the making promises
pub made_push : (old new : List Constant) (c : Constant) → new ≡ old ++ c ∷ [] → IsMade old
    → length old + 1 < 65535 → Fits c → IsTrue (refers old c) → IsAbsent old c → IsMade new
made_push old new c e made room fits refer absent =
    let P : List Constant → Type 0 = λ pool. IsMade pool in
    let all : list_all (refers (old ++ c ∷ [])) (old ++ c ∷ []) ≡ true =
    list_all-append (refers (old ++ c ∷ [])) old (c ∷ [])
    ∙ and_from _ _ (all-weaker (refers old) (refers (old ++ c ∷ []))
    (refers-more old (c ∷ [])) old made.is_pool.refer)
    (and_from _ _ (refers-more old (c ∷ []) c refer) refl) in
    subst P (sym e) (record {
      distinct = distinct-push old c made.distinct absent;
      is_pool = record {
        few = omega (arith, length-append old (c ∷ []), room);
        fits =
            recursion_from_All Fits (old ++ c ∷ [])
            (All-push Fits old c (All-from_recursion Fits old made.is_pool.fits) fits);
        refer = all;
      };
    })
