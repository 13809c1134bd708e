-- Items placed one after the other, each with its classes.
use Rattle.std.proofs.Common.{◌≡◌, ℕ, suc, ◌+◌, ◌<◌, ◌≤◌, length, get_or, drop, drop-cons, add-one}
use Rattle.std.proofs.Common.{List, [], ◌∷◌, ◌++◌, refl, sym, ap, subst, ◌∙◌, append_assoc}
use Rattle.std.specs.Prelude.{Contains}
use Rattle.std.specs.List.{AllZip, AllByRecursion, flat_map}
use Rattle.std.proofs.lemmas.Grind.{flat_map-append}
use Rattle.std.proofs.lemmas.List.{append-nil, drop_all}
use Rattle.std.proofs.lemmas.List.Elements.{Contains-append_left}
use Rattle.par_frame_forms.specs.par_pool.declared.constant.Constant.{Constant}
use Rattle.par_kinds.specs.par_values.Areas.{Name}
use Rattle.par_frames.specs.Attribute.{AddsClasses}
use Rattle.par_frames.specs.Room.{HasRoom, SPARE}
use Rattle.par_frames.proofs.Classes.{adds_none, adds_among, adds_then, room_among}

pub zip_push : {A B : Type 0} (R : A → B → Type 0) (xs : List A) (ys : List B) (x : A) (y : B)
    → AllZip R xs ys → R x y → AllZip R (xs ++ x ∷ []) (ys ++ y ∷ [])
zip_push R [] [] x y h r = (r, tt)
zip_push R [] (b ∷ ys) x y h r = absurd h
zip_push R (a ∷ xs) [] x y h r = absurd h
zip_push R (a ∷ xs) (b ∷ ys) x y h r = (h.0, zip_push R xs ys x y h.1 r)

pub zip_kept : {A B : Type 0} (R S : A → B → Type 0) (xs : List A) (ys : List B)
    → ((x : A) (y : B) → R x y → S x y) → AllZip R xs ys → AllZip S xs ys
zip_kept R S [] [] is h = tt
zip_kept R S [] (b ∷ ys) is h = h
zip_kept R S (a ∷ xs) [] is h = h
zip_kept R S (a ∷ xs) (b ∷ ys) is h = (is a b h.0, zip_kept R S xs ys is h.1)

all_push : {B : Type 0} (P : B → Type 0) (ys : List B) (y : B) → AllByRecursion P ys → P y
    → AllByRecursion P (ys ++ y ∷ [])
all_push P [] y h p = (p, tt)
all_push P (b ∷ ys) y h p = (h.0, all_push P ys y h.1 p)

pub front : {A : Type 0} (xs : List A) (i : ℕ) (x : A) → x ≡ get_or xs i x → i < length xs
    → drop i xs ≡ x ∷ drop (i + 1) xs
front xs i x is lt =
    drop-cons xs i x lt ∙ ap (λ y. y ∷ drop (suc i) xs) (sym is)
    ∙ ap (λ (k : ℕ). x ∷ drop k xs) (sym (add-one i))

module _ {A B : Type 0} (classes : A → List Name) (R : List Constant → A → B → Type 0)
    (Fits : B → Type 0) where
  -- some are placed, and the rest has room
  pub record Placing (old now : List Constant) (all rest : List A) (made : List B) : Type 0 where
    pub done : List A
    pub split : all ≡ done ++ rest
    pub stand : AllZip (R now) done made
    pub fit : AllByRecursion Fits made
    pub added : AddsClasses old now (flat_map classes done)
    pub room : (spare : ℕ) (later : List Name)
        → HasRoom old spare (flat_map classes all ++ later)
        → HasRoom now spare (flat_map classes rest ++ later)

  pub begin : (old : List Constant) (all : List A) → Placing old old all all []
  begin old all = record {
    done = [];
    split = refl;
    stand = tt;
    fit = tt;
    added = adds_none old [];
    room = λ spare later h. h;
  }

  pushed : (old mid now : List Constant) (all : List A) (x : A) (rest : List A) (made : List B)
      (y : B) → ((p more : List Constant) (a : A) (b : B) → R p a b → R (p ++ more) a b)
      → Placing old mid all (x ∷ rest) made → AddsClasses mid now (classes x) → R now x y → Fits y
      → ((spare : ℕ) (later : List Name) → HasRoom mid spare (classes x ++ later)
      → HasRoom now spare later)
      → Placing old now all rest (made ++ y ∷ [])
  pushed old mid now all x rest made y kept p added is fits room = record {
    done = p.done ++ x ∷ [];
    split = p.split ∙ sym (append_assoc p.done (x ∷ []) rest);
    stand =
        zip_push (R now) p.done made x y
        (zip_kept (R mid) (R now) p.done made
        (λ a b r. subst (λ (pool : List Constant). R pool a b) (sym added.behind)
        (kept mid added.more a b r))
        p.stand)
        is;
    fit = all_push Fits made y p.fit fits;
    added =
        subst (λ (names : List Name). AddsClasses old now names)
        (ap (λ (names : List Name). flat_map classes p.done ++ names)
        (sym (append-nil (classes x)))
        ∙ sym (flat_map-append classes p.done (x ∷ [])))
        (adds_then old mid now (flat_map classes p.done) (classes x) p.added added);
    room = λ spare later h. room spare (flat_map classes rest ++ later)
        (subst (λ (names : List Name). HasRoom mid spare names)
        (append_assoc (classes x) (flat_map classes rest) later) (p.room spare later h));
  }

  pub step : (old mid now : List Constant) (all : List A) (x : A) (rest : List A) (made : List B)
      (y : B) → ((p more : List Constant) (a : A) (b : B) → R p a b → R (p ++ more) a b)
      → Placing old mid all (x ∷ rest) made → AddsClasses mid now (classes x) → R now x y → Fits y
      → ((spare : ℕ) (later : List Name) → HasRoom mid spare (classes x ++ later)
      → HasRoom now spare later)
      → (more : List B) → more ≡ made ++ y ∷ [] → Placing old now all rest more
  step old mid now all x rest made y kept p added is fits room more e =
      subst (λ (ys : List B). Placing old now all rest ys) (sym e)
      (pushed old mid now all x rest made y kept p added is fits room)

  pub next : (old mid : List Constant) (all : List A) (i : ℕ) (x : A) (made : List B)
      → x ≡ get_or all i x → i < length all → Placing old mid all (drop i all) made
      → Placing old mid all (x ∷ drop (i + 1) all) made
  next old mid all i x made is lt p =
      subst (λ (rest : List A). Placing old mid all rest made) (front all i x is lt) p

  -- the next one has room
  pub next_room : (old mid : List Constant) (all : List A) (x : A) (rest : List A) (made : List B)
      → Placing old mid all (x ∷ rest) made → HasRoom old SPARE (flat_map classes all)
      → HasRoom mid SPARE (classes x)
  next_room old mid all x rest made p h =
      room_among mid SPARE (classes x) (flat_map classes rest)
      (subst (λ (names : List Name). HasRoom mid SPARE names)
      (append-nil (flat_map classes (x ∷ rest)))
      (p.room SPARE [] (subst (λ (names : List Name). HasRoom old SPARE names)
      (sym (append-nil (flat_map classes all))) h)))

  -- classes of some are among those of all
  pub failed : (old mid now : List Constant) (all : List A) (x : A) (rest : List A) (made : List B)
      → Placing old mid all (x ∷ rest) made → AddsClasses mid now (classes x)
      → AddsClasses old now (flat_map classes all)
  failed old mid now all x rest made p added =
      adds_among old now (flat_map classes p.done ++ classes x) (flat_map classes all)
      (λ name c. subst (λ (names : List Name). Contains names name)
      (append_assoc (flat_map classes p.done) (classes x) (flat_map classes rest)
      ∙ sym (flat_map-append classes p.done (x ∷ rest))
      ∙ ap (λ (xs : List A). flat_map classes xs) (sym p.split))
      (Contains-append_left (flat_map classes p.done ++ classes x) (flat_map classes rest) name c))
      (adds_then old mid now (flat_map classes p.done) (classes x) p.added added)

  -- behind the last one nothing is left
  pub last : (old now : List Constant) (all : List A) (i : ℕ) (made : List B) → length all ≤ i
      → Placing old now all (drop i all) made → Placing old now all [] made
  last old now all i made le p =
      subst (λ (rest : List A). Placing old now all rest made) (drop_all i all le) p

  all_done : (old now : List Constant) (all : List A) (made : List B)
      → (p : Placing old now all [] made) → p.done ≡ all
  all_done old now all made p = sym (p.split ∙ append-nil p.done)

  pub all_stand : (old now : List Constant) (all : List A) (made : List B)
      → Placing old now all [] made → AllZip (R now) all made
  all_stand old now all made p =
      subst (λ (xs : List A). AllZip (R now) xs made) (all_done old now all made p) p.stand

  pub all_added : (old now : List Constant) (all : List A) (made : List B)
      → Placing old now all [] made → AddsClasses old now (flat_map classes all)
  all_added old now all made p =
      subst (λ (xs : List A). AddsClasses old now (flat_map classes xs))
      (all_done old now all made p) p.added
