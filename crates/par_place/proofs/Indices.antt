-- What items and handlers name, as far as a loop has come.
use Rattle.std.proofs.Common.{◌≡◌, ℕ, ◌+◌, ◌*◌, ◌<◌, ◌≤◌, List, [], ◌∷◌}
use Rattle.std.proofs.Common.{◌++◌, length, get_or, take, sym, ap, subst, ◌∙◌, length-append, arith}
use Rattle.std.specs.Prelude.{sum_by}
use Rattle.std.specs.List.{AllZip}
use Rattle.std.proofs.lemmas.List.{take_more}
use Rattle.std.proofs.lemmas.List.Sums.{sum_by_more, sum_by_more_le, sum_by-take-le}
use Rattle.par_pool.specs.declared.constant.Constant.{Constant}
use Rattle.par_pool.specs.Growth.{Adds, IsClassPart}
use Rattle.par_pool.proofs.Growth.{adds_then}
use Rattle.par_class.specs.declared.file.Catch.{Catch}
use Rattle.par_code_form.specs.declared.item.Item.{Item}
use Rattle.par_code_form.specs.declared.labelled.Handler.{Handler}
use Rattle.par_code_form.specs.PoolNames.{full_name, entries, Names, IsPartOf, IsNamedIn}
use Rattle.par_code_form.specs.PoolNames.{IsCaughtIn}
use Rattle.par_code_form.specs.Placed.{IsCatch}
use Rattle.par_place.proofs.Growth.{named_kept, caught_kept, all_names_kept, all_catches_kept}

zip-push : {A B : Type 0} (R : A → B → Type 0) (xs : List A) (ys : List B) (x : A) (y : B)
    → AllZip R xs ys → R x y → AllZip R (xs ++ x ∷ []) (ys ++ y ∷ [])
zip-push R [] [] x y h r = (r, h)
zip-push R [] (b ∷ bs) x y h r = absurd h
zip-push R (a ∷ as') [] x y h r = absurd h
zip-push R (a ∷ as') (b ∷ bs) x y h r = (h.0, zip-push R as' bs x y h.1 r)

-- the items up to one more place
take-next : {A : Type 0} (xs : List A) (i : ℕ) (x : A) → i < length xs → get_or xs i x ≡ x
    → take (i + 1) xs ≡ take i xs ++ x ∷ []
take-next xs i x lt is = take_more xs i x lt ∙ ap (λ y. take i xs ++ y ∷ []) is

-- a larger number of entries
pub adds_within : (a b : List Constant) (f g : ℕ) (P : Constant → Type 0) → f ≤ g → Adds a b f P
    → Adds a b g P
adds_within a b f g P le h = record {
  more = h.more;
  behind = h.behind;
  number = omega (arith, h.number, le);
  parts = h.parts;
}

-- ---- items

-- each item so far has the index of what it names
pub record AreNamed (items : List Item) (i : ℕ) (start pool : List Constant) (indices : List ℕ)
    : Type 0 where
  pub added : Adds start pool (sum_by entries (take i items)) (IsNamedIn pool items)
  pub named : AllZip (Names pool) (take i items) indices

named-added : (items : List Item) (i : ℕ) (x : Item) (a b c : List Constant) → i < length items
    → get_or items i x ≡ x
    → Adds a b (sum_by entries (take i items)) (IsNamedIn b items)
    → Adds b c (entries x) (IsPartOf c x)
    → Adds a c (sum_by entries (take (i + 1) items)) (IsNamedIn c items)
named-added items i x a b c lt is p q =
    let le : sum_by entries (take i items) + entries x
    ≤ sum_by entries (take (i + 1) items) =
    omega (arith, sum_by_more entries items i x lt, ap entries is) in
    adds_then a b c (sum_by entries (take i items)) (entries x)
    (sum_by entries (take (i + 1) items)) (IsNamedIn b items) (IsPartOf c x)
    (IsNamedIn c items) p q le
    (named_kept b c (entries x) (IsPartOf c x) q items)
    (λ k h. record { item = x; stands = (i, lt, is); part = h })

-- the growth so far, and by one more item, is within that of all
pub named_within : (items : List Item) (i : ℕ) (x : Item) (a b c : List Constant)
    (indices : List ℕ) → i < length items → get_or items i x ≡ x → AreNamed items i a b indices
    → Adds b c (entries x) (IsPartOf c x)
    → Adds a c (sum_by entries items) (IsNamedIn c items)
named_within items i x a b c indices lt is h q =
    adds_within a c (sum_by entries (take (i + 1) items))
    (sum_by entries items) (IsNamedIn c items)
    (omega (arith, sum_by-take-le entries items (i + 1)))
    (named-added items i x a b c lt is h.added q)

-- the pool has room for what one more item names
pub room_left : (items : List Item) (i : ℕ) (x : Item) (a b : List Constant) (indices : List ℕ)
    → i < length items → get_or items i x ≡ x → length a + sum_by entries items < 65535
    → AreNamed items i a b indices → length b + entries x < 65535
room_left items i x a b indices lt is room h =
    omega (
      arith,
      room,
      h.added.number,
      ap length h.added.behind,
      length-append a h.added.more,
      sum_by_more_le entries items i x lt,
      ap entries is,
    )

pub named_more : (items : List Item) (i : ℕ) (x : Item) (n : ℕ) (a b c : List Constant)
    (indices : List ℕ) → i < length items → get_or items i x ≡ x → AreNamed items i a b indices
    → Adds b c (entries x) (IsPartOf c x) → Names c x n
    → AreNamed items (i + 1) a c (indices ++ n ∷ [])
named_more items i x n a b c indices lt is h q named = record {
  added = named-added items i x a b c lt is h.added q;
  named =
      subst (λ (xs : List Item). AllZip (Names c) xs (indices ++ n ∷ []))
      (sym (take-next items i x lt is))
      (zip-push (Names c) (take i items) indices x n
      (all_names_kept b c (entries x) (IsPartOf c x) q (take i items) indices
      h.named) named);
}

-- ---- handlers

-- each handler so far stands over offsets
pub record AreCaught (f : ℕ → ℕ) (handlers : List Handler) (i : ℕ) (start pool : List Constant)
    (catches : List Catch) : Type 0 where
  pub added : Adds start pool (2 * i) (IsCaughtIn pool handlers)
  pub are : AllZip (IsCatch pool f) (take i handlers) catches

-- the growth so far, and by one more handler
pub caught_added : (f : ℕ → ℕ) (handlers : List Handler) (i : ℕ) (h : Handler)
    (a b c : List Constant) (catches : List Catch) → i < length handlers
    → get_or handlers i h ≡ h → AreCaught f handlers i a b catches
    → Adds b c 2 (IsClassPart c (full_name h.class))
    → Adds a c (2 * (i + 1)) (IsCaughtIn c handlers)
caught_added f handlers i h a b c catches lt is s q =
    adds_then a b c (2 * i) 2 (2 * (i + 1)) (IsCaughtIn b handlers)
    (IsClassPart c (full_name h.class)) (IsCaughtIn c handlers) s.added q (omega arith)
    (caught_kept b c 2 (IsClassPart c (full_name h.class)) q handlers)
    (λ k part. record { handler = h; stands = (i, lt, is); part = part })

pub caught_within : (f : ℕ → ℕ) (handlers : List Handler) (i : ℕ) (h : Handler)
    (a b c : List Constant) (catches : List Catch) → i < length handlers
    → get_or handlers i h ≡ h → AreCaught f handlers i a b catches
    → Adds b c 2 (IsClassPart c (full_name h.class))
    → Adds a c (2 * length handlers) (IsCaughtIn c handlers)
caught_within f handlers i h a b c catches lt is s q =
    adds_within a c (2 * (i + 1)) (2 * length handlers) (IsCaughtIn c handlers) (omega (arith, lt))
    (caught_added f handlers i h a b c catches lt is s q)

pub caught_more : (f : ℕ → ℕ) (handlers : List Handler) (i : ℕ) (h : Handler) (k : Catch)
    (a b c : List Constant) (catches : List Catch) → i < length handlers
    → get_or handlers i h ≡ h → AreCaught f handlers i a b catches
    → Adds b c 2 (IsClassPart c (full_name h.class)) → IsCatch c f h k
    → AreCaught f handlers (i + 1) a c (catches ++ k ∷ [])
caught_more f handlers i h k a b c catches lt is s q one = record {
  added = caught_added f handlers i h a b c catches lt is s q;
  are =
      subst (λ (hs : List Handler). AllZip (IsCatch c f) hs (catches ++ k ∷ []))
      (sym (take-next handlers i h lt is))
      (zip-push (IsCatch c f) (take i handlers) catches h k
      (all_catches_kept b c 2 (IsClassPart c (full_name h.class)) q f (take i handlers) catches
      s.are) one);
}
