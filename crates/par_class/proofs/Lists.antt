-- A loop that reads as many items as a number says.
use Rattle.std.proofs.Common.{◌≡◌, ℕ, zero, suc, ◌+◌, ◌-◌, ◌<◌, ◌≤◌, List, [], ◌∷◌, ◌++◌, Result}
use Rattle.std.proofs.Common.{Ok, Err, refl, ap, ◌∙◌, map, arith}
use Rattle.par_pool.specs.declared.error.ClassError.{ClassError}
use Rattle.par_pool.specs.Reading.{Reader, ◌>>=◌, made, items, u2_at, Fails}
use Rattle.par_pool.proofs.Items.{with_front, goes_on, ends, is_done}
use Rattle.par_class.specs.Reading.{list_at}

module _ {A : Type 0} (r : Reader A) (front : List A) (count i : ℕ) (bytes : List ℕ)
    (total : Result (List A × List ℕ) ClassError) where
  -- what the loop keeps
  abbrev pub Reads : Type 0
  Reads = with_front front (items (λ _. r) (count - i) i bytes) ≡ total

  pub loop_goes : (a : A) (after : List ℕ) → i < count → r bytes ≡ Ok (a, after) → Reads
      → with_front (front ++ a ∷ []) (items (λ _. r) (count - (i + 1)) (i + 1) after) ≡ total
  loop_goes a after lt h so_far =
      goes_on (λ _. r) front (count - i) (count - (i + 1)) i bytes a after total
      (omega (arith, lt)) h so_far

  pub loop_ends : (e : ClassError) → i < count → Fails e (r bytes) → Reads → Fails e total
  loop_ends e lt h so_far =
      ends (λ _. r) e front (count - i) (count - (i + 1)) i bytes total (omega (arith, lt)) h so_far

  pub loop_done : count ≤ i → Reads → total ≡ Ok (front, bytes)
  loop_done le so_far = is_done (λ _. r) front (count - i) i bytes total (omega (arith, le)) so_far

-- the items behind their number are what a loop reads
pub list_fails : {A : Type 0} (short : ClassError) (r : Reader A) (e : ClassError) (count : ℕ)
    (bytes first : List ℕ) → u2_at short bytes ≡ Ok (count, first)
    → Fails e (items (λ _. r) count 0 first) → Fails e (list_at short r bytes)
list_fails short r e count bytes first h f = rw h f

pub list_is : {A : Type 0} (short : ClassError) (r : Reader A) (count : ℕ) (bytes first : List ℕ)
    (x : List A × List ℕ) → u2_at short bytes ≡ Ok (count, first)
    → items (λ _. r) count 0 first ≡ Ok x → list_at short r bytes ≡ Ok x
list_is short r count bytes first x h f = rw h f

-- ---- items that are seen as other values

-- an item before those that are read
abbrev with_first : {A : Type 0} → A → Result (List A × List ℕ) ClassError
    → Result (List A × List ℕ) ClassError
with_first a read = read >>= λ xs. Ok (a ∷ xs.0, xs.1)

-- an item, and then the others
abbrev then_rest : {A : Type 0} → Result (A × List ℕ) ClassError → Reader (List A)
    → Result (List A × List ℕ) ClassError
then_rest first rest = first >>= λ a. with_first a.0 (rest a.1)

module _ {A B : Type 0} (f : A → B) where
  abbrev seen : Result (A × List ℕ) ClassError → Result (B × List ℕ) ClassError
  seen read = read >>= λ a. Ok (f a.0, a.1)

  abbrev all_seen : Result (List A × List ℕ) ClassError → Result (List B × List ℕ) ClassError
  all_seen read = read >>= λ xs. Ok (map f xs.0, xs.1)

  one-more : (a : A) (q : Result (List A × List ℕ) ClassError)
      → with_first (f a) (all_seen q) ≡ all_seen (with_first a q)
  one-more a (Ok xs) = refl
  one-more a (Err e) = refl

  step : (o : Result (A × List ℕ) ClassError) (others : Reader (List B)) (rest : Reader (List A))
      → ((bytes : List ℕ) → others bytes ≡ all_seen (rest bytes))
      → then_rest (seen o) others ≡ all_seen (then_rest o rest)
  step (Err e) others rest h = refl
  step (Ok a) others rest h =
      ap (λ (q : Result (List B × List ℕ) ClassError). with_first (f a.0) q) (h a.1)
      ∙ one-more a.0 (rest a.1)

  items-made : (r : Reader A) (n i : ℕ) (bytes : List ℕ)
      → items (λ _. made f r) n i bytes ≡ all_seen (items (λ _. r) n i bytes)
  unfolding items
  items-made r zero i bytes = refl
  items-made r (suc n) i bytes =
      step (r bytes) (λ b. items (λ _. made f r) n (i + 1) b) (λ b. items (λ _. r) n (i + 1) b)
      (λ b. items-made r n (i + 1) b)

  abbrev counted : {C : Type 0} → Reader C → Result (ℕ × List ℕ) ClassError
      → Result (List C × List ℕ) ClassError
  counted r number = number >>= λ n. items (λ _. r) n.0 0 n.1

  counted-made : (r : Reader A) (o : Result (ℕ × List ℕ) ClassError)
      → counted (made f r) o ≡ all_seen (counted r o)
  counted-made r (Ok n) = items-made r n.0 0 n.1
  counted-made r (Err e) = refl

  pub list_made : (short : ClassError) (r : Reader A) (bytes : List ℕ)
      → list_at short (made f r) bytes ≡ made (λ xs. map f xs) (list_at short r) bytes
  list_made short r bytes = counted-made r (u2_at short bytes)
