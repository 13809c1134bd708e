-- What a set of texts has after one is put in.
use Rattle.std.proofs.Common.{◌≡◌, ℕ, List, [], ◌∷◌, Bool, true, false, ◌||◌, refl, ap, ◌∙◌}
use Rattle.std.specs.Borrow.{Bor}
use Rattle.std.specs.declared.cmp.Ordering.{Ordering}
use Rattle.std.specs.declared.cmp.Ordering.TheVariants.{Less, Equal, Greater}
use Rattle.std.specs.Ordering.{nat_cmp, match_ordering}
use Rattle.std.specs.Cmp.Lexicographic.{slice_cmp}
use Rattle.std.specs.BTreeMap.{is_at}
use Rattle.std.specs.BTreeSet.{insert_key}
use Rattle.std.specs.List.{list_any}
use Rattle.std.specs.Str.{bytes_eq}
use Rattle.std.proofs.lemmas.Map.Text.{is_eq-slice_cmp}
use Rattle.std.proofs.lemmas.Map.Lookups.{exact_bytes}

-- the order of the keys
abbrev order : Bor (List ℕ) → Bor (List ℕ) → Ordering
order one other = slice_cmp nat_cmp one.now other.now

-- whether a key is this text
abbrev is_key : List ℕ → Bor (List ℕ) → Bool
is_key text key = is_at (λ other. slice_cmp nat_cmp text other.now) key

swapped : (a b c : Bool) → (a || (b || c)) ≡ (b || (a || c))
swapped true true c = refl
swapped true false c = refl
swapped false true c = refl
swapped false false c = refl

repeated : (a b : Bool) → (a || b) ≡ (a || (a || b))
repeated true b = refl
repeated false b = refl

-- the set finds the new key, and what it found before
placed : (text : List ℕ) (key first : Bor (List ℕ)) (rest : List (Bor (List ℕ))) (which : Ordering)
    → order key first ≡ which → list_any (is_key text) (insert_key order rest key)
    ≡ (is_key text key || list_any (is_key text) rest)
    → list_any (is_key text)
    (match_ordering which (key ∷ first ∷ rest) (first ∷ rest) (first ∷ insert_key order rest key))
    ≡ (is_key text key || list_any (is_key text) (first ∷ rest))
placed text key first rest Less is further = refl
placed text key first rest Equal is further =
    let same : key.now ≡ first.now = exact_bytes key.now first.now is in
    let alike : is_key text key ≡ is_key text first = ap (λ other. bytes_at text other) same in
    rw alike (repeated (is_key text first) (list_any (is_key text) rest))
  where
    bytes_at : List ℕ → List ℕ → Bool
    bytes_at text other = is_at (λ o. slice_cmp nat_cmp text o) other
placed text key first rest Greater is further =
    rw further (swapped (is_key text first) (is_key text key) (list_any (is_key text) rest))

inserted : (text : List ℕ) (key : Bor (List ℕ)) (keys : List (Bor (List ℕ)))
    → list_any (is_key text) (insert_key order keys key)
    ≡ (is_key text key || list_any (is_key text) keys)
inserted text key [] = refl
inserted text key (first ∷ rest) =
    placed text key first rest (order key first) refl (inserted text key rest)

-- the keys with a new one have a text exactly if it is that one or they had it
pub has-insert : (text : List ℕ) (key : Bor (List ℕ)) (keys : List (Bor (List ℕ)))
    → list_any (is_key text) (insert_key order keys key)
    ≡ (bytes_eq text key.now || list_any (is_key text) keys)
has-insert text key keys =
    inserted text key keys ∙ ap (λ found. found || list_any (is_key text) keys)
    (is_eq-slice_cmp text key.now)
