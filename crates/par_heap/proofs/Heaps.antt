-- Objects that are born and written, as the blocks show them.
use Rattle.std.proofs.Common.{◌≡◌, ℕ, zero, suc, ◌-◌, ◌<◌, ◌≤◌, List, [], ◌∷◌, ◌++◌, length, map}
use Rattle.std.proofs.Common.{set, get_or, replicate, Result, Ok, Err, refl, sym, ap, ◌∙◌}
use Rattle.std.proofs.Common.{append_assoc, arith}
use Rattle.std.specs.Prelude.{OnErr}
use Rattle.std.proofs.Math.Seq.{map-set_same}
use Rattle.std.proofs.lemmas.List.{append-nil, set-append_right, get_or_past, get_or-map, map-set}
use Rattle.std.proofs.lemmas.List.{length-map}
use Rattle.par_heap.specs.declared.block.Block.{Block}
use Rattle.par_heap.specs.Blocks.{shown}
use Rattle.par_heap.specs.Heap.{Object, Objects, objects_of, with_object}

module _ {A : Type 0} where
  pub replicate_push : (k : ℕ) (d : A) → replicate (suc k) d ≡ replicate k d ++ d ∷ []
  replicate_push zero d = refl
  replicate_push (suc k) d = ap (λ xs. d ∷ xs) (replicate_push k d)

  set-replicate : (k : ℕ) (d y : A) → set (replicate (suc k) d) k y ≡ replicate k d ++ y ∷ []
  set-replicate zero d y = refl
  set-replicate (suc k) d y = ap (λ xs. d ∷ xs) (set-replicate k d y)

module _ {A B : Type 0} (f : A → B) where
  pub map_push : (xs : List A) (x : A) → map f (xs ++ x ∷ []) ≡ map f xs ++ f x ∷ []
  map_push [] x = refl
  map_push (y ∷ xs) x = ap (λ ys. f y ∷ ys) (map_push xs x)

-- what one block shows is changed
pub block_changed : (blocks : List Block) (heap : Objects) (class : ℕ) (old new : Block)
    (change : List Object → List Object) → map shown blocks ≡ heap → class < length blocks
    → old ≡ get_or blocks class old
    → shown new ≡ change (shown old)
    → map shown (set blocks class new) ≡ set heap class (change (objects_of heap class))
block_changed blocks heap class old new change view within is changed =
    let here : shown old ≡ objects_of heap class =
    ap shown is ∙ sym (get_or-map shown blocks class old [] within)
    ∙ ap (λ (all : Objects). get_or all class []) view in
    map-set shown blocks class new
    ∙ ap (λ (all : Objects). set all class (shown new)) view
    ∙ ap (set heap class) (changed ∙ ap change here)

-- what one block shows stays
pub block_kept : (blocks : List Block) (heap : Objects) (class : ℕ) (old new : Block)
    → map shown blocks ≡ heap → old ≡ get_or blocks class old
    → shown new ≡ shown old → map shown (set blocks class new) ≡ heap
block_kept blocks heap class old new view is kept =
    map-set_same shown blocks class new old (kept ∙ ap shown is) ∙ view

-- what holds anyhow holds after an error
pub on_error : {A E : Type 0} (r : Result A E) (P : Type 0) → P → OnErr r P
on_error (Ok x) P p = tt
on_error (Err e) P p = p

-- the first object of a class behind all that have one
pub first_born : (heap : Objects) (class : ℕ) (object : Object) → length heap ≤ class
    → (heap ++ replicate (class - length heap) []) ++ (object ∷ []) ∷ []
    ≡ with_object heap class object
first_born heap class object behind =
    let k = class - length heap in
    let one : suc class - length heap ≡ suc k = omega arith in
    let none : objects_of heap class ≡ [] = get_or_past heap class [] behind in
    append_assoc heap (replicate k []) ((object ∷ []) ∷ [])
    ∙ sym
    (ap (λ (objects : List Object).
    set (heap ++ replicate (suc class - length heap) []) class (objects ++ object ∷ [])) none
    ∙ ap (λ (n : ℕ). set (heap ++ replicate n []) class (object ∷ [])) one
    ∙ set-append_right heap (replicate (suc k) []) (length heap) class (object ∷ []) refl behind
    ∙ ap (λ (rest : Objects). heap ++ rest) (set-replicate k [] (object ∷ [])))

-- a further object of a class that has some, or of one before the last that has
pub later_born : (heap : Objects) (class : ℕ) (object : Object) → class < length heap
    → set heap class (objects_of heap class ++ object ∷ []) ≡ with_object heap class object
later_born heap class object within =
    let no_more : suc class - length heap ≡ 0 = omega arith in
    sym (ap (λ (n : ℕ). set (heap ++ replicate n []) class (objects_of heap class ++ object ∷ []))
    no_more
    ∙ ap (λ (all : Objects). set all class (objects_of heap class ++ object ∷ []))
    (append-nil heap))

-- a class that has a block is one of the heap
pub view_within : (blocks : List Block) (heap : Objects) (class : ℕ) → map shown blocks ≡ heap
    → class < length blocks → class < length heap
view_within blocks heap class view within =
    omega (arith, ap (λ (all : Objects). length all) view, length-map blocks shown, within)
