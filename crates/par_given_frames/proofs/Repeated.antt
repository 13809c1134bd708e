-- A loop that reads as many items as a number says.
use Rattle.std.proofs.Common.{◌≡◌, ℕ, zero, suc, ◌+◌, ◌-◌, ◌<◌, ◌≤◌, List, [], ◌∷◌, ◌++◌, Option}
use Rattle.std.proofs.Common.{Some, None, refl, sym, ap, ◌∙◌, append_assoc, length, arith}
use Rattle.std.proofs.lemmas.List.{append-nil}
use Rattle.par_frame_forms.specs.Reading.{Read, and_read, gives}
use Rattle.par_given_frames.specs.declared.error.Unread.{Unread}
use Rattle.par_given_frames.specs.declared.error.Unread.TheVariants.{Refused, Memory}
use Rattle.par_given_frames.specs.Reads.{Fails, seen}

-- items before those that are read
abbrev pub with_front : {A : Type 0} → List A → Option (Read (List A)) → Option (Read (List A))
with_front front o = and_read o (λ xs last. gives (front ++ xs) last)

-- an item before those that are read
abbrev pub with_first : {A : Type 0} → A → Option (Read (List A)) → Option (Read (List A))
with_first x o = and_read o (λ xs last. gives (x ∷ xs) last)

regroup : {A : Type 0} (front : List A) (x : A) (o : Option (Read (List A)))
    → with_front (front ++ x ∷ []) o ≡ with_front front (with_first x o)
regroup front x None = refl
regroup {A} front x (Some r) =
    ap (λ (ys : List A). gives ys r.rest) (append_assoc front (x ∷ []) r.value)

no-front : {A : Type 0} (o : Option (Read (List A))) → with_front [] o ≡ o
no-front None = refl
no-front (Some r) = refl

-- many reads so many items, each by one
pub record Repeats {A : Type 0} (one : List ℕ → Option (Read A))
    (many : ℕ → List ℕ → Option (Read (List A))) : Type 0 where
  pub none : (bytes : List ℕ) → many 0 bytes ≡ gives [] bytes
  pub more : (n : ℕ) (bytes : List ℕ)
      → many (suc n) bytes ≡ and_read (one bytes) (λ x rest. with_first x (many n rest))

module _ {A : Type 0} (one : List ℕ → Option (Read A)) (many : ℕ → List ℕ → Option (Read (List A)))
    (by : Repeats one many) (front : List A) (count i : ℕ) (bytes : List ℕ)
    (total : Option (Read (List A))) where
  -- what the loop keeps
  abbrev pub Keeps : Type 0
  Keeps = with_front front (many (count - i) bytes) ≡ total

  next : i < count
      → many (count - i) bytes
      ≡ and_read (one bytes) (λ x rest. with_first x (many (count - (i + 1)) rest))
  next less =
      let left : count - i ≡ suc (count - (i + 1)) = omega arith in
      ap (λ (n : ℕ). many n bytes) left ∙ by.more (count - (i + 1)) bytes

  pub goes_on : (x : A) (after : List ℕ) → i < count → one bytes ≡ Some (seen x after) → Keeps
      → with_front (front ++ x ∷ []) (many (count - (i + 1)) after) ≡ total
  goes_on x after less found so_far =
      regroup front x (many (count - (i + 1)) after)
      ∙ sym (ap (with_front front) (next less
      ∙ ap (λ o. and_read o (λ x rest. with_first x (many (count - (i + 1)) rest))) found))
      ∙ so_far

  pub ends : (e : Unread) → i < count → Fails e (one bytes) → Keeps → Fails e total
  ends Refused less none so_far =
      sym so_far
      ∙ ap (with_front front) (next less
      ∙ ap (λ o. and_read o (λ x rest. with_first x (many (count - (i + 1)) rest))) none)
  ends Memory less none so_far = tt

  pub is_done : count ≤ i → Keeps → total ≡ Some (seen front bytes)
  is_done over so_far =
      let left : count - i ≡ 0 = omega arith in
      sym so_far
      ∙ ap (with_front front) (ap (λ (n : ℕ). many n bytes) left ∙ by.none bytes)
      ∙ ap (λ (xs : List A). gives xs bytes) (append-nil front)

pub begins : {A : Type 0} (many : ℕ → List ℕ → Option (Read (List A))) (count : ℕ)
    (bytes : List ℕ) → with_front [] (many (count - 0) bytes) ≡ many count bytes
begins many count bytes =
    let all : count - 0 ≡ count = omega arith in
    no-front (many (count - 0) bytes) ∙ ap (λ (n : ℕ). many n bytes) all

-- as many items are read
more-read : {A : Type 0} (x : A) (n : ℕ) (o : Option (Read (List A))) (r : Read (List A))
    → ((q : Read (List A)) → o ≡ Some q → length q.value ≡ n)
    → with_first x o ≡ Some r → length r.value ≡ suc n
more-read x n None r each e = absurd (cc e)
more-read {A} x n (Some q) r each e =
    let same : seen (x ∷ q.value) q.rest ≡ r = cc e in
    ap (λ (r : Read (List A)). length r.value) (sym same) ∙ ap suc (each q refl)

first-read : {A : Type 0} (n : ℕ) (o : Option (Read A))
    (next : List ℕ → Option (Read (List A))) (r : Read (List A))
    → ((bytes : List ℕ) (q : Read (List A)) → next bytes ≡ Some q → length q.value ≡ n)
    → and_read o (λ x rest. with_first x (next rest)) ≡ Some r → length r.value ≡ suc n
first-read n None next r each e = absurd (cc e)
first-read n (Some x) next r each e = more-read x.value n (next x.rest) r (each x.rest) e

pub length-many : {A : Type 0} (one : List ℕ → Option (Read A))
    (many : ℕ → List ℕ → Option (Read (List A))) → Repeats one many → (n : ℕ) (bytes : List ℕ)
    (r : Read (List A)) → many n bytes ≡ Some r → length r.value ≡ n
length-many {A} one many by zero bytes r e =
    let none : gives [] bytes ≡ Some r = sym (by.none bytes) ∙ e in
    let same : seen [] bytes ≡ r = cc none in
    ap (λ (r : Read (List A)). length r.value) (sym same)
length-many one many by (suc n) bytes r e =
    first-read n (one bytes) (many n) r (λ rest q is. length-many one many by n rest q is)
    (sym (by.more n bytes) ∙ e)
