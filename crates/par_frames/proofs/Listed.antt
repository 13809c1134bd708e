-- Kinds that are found among the locals of a frame.
use Rattle.std.proofs.Common.{◌≡◌, ℕ, zero, suc, ◌<◌, Bool, true, false, List, [], ◌∷◌}
use Rattle.std.proofs.Common.{length, get_or, Some, None, refl, sym, ap, subst, ◌∙◌, arith, ◌+◌}
use Rattle.std.proofs.Common.{◌≤◌, ◌++◌, drop, append_assoc, Result}
use Rattle.std.specs.Prelude.{Contains, IfOk}
use Rattle.std.specs.List.{AllZip, position}
use Rattle.std.proofs.lemmas.List.Quantifiers.{position-Some}
use Rattle.std.proofs.lemmas.Option.{slice_get-get_or}
use Rattle.std.proofs.lemmas.List.{append-nil, drop_all}
use Rattle.std.proofs.lemmas.Slice.Eq.{bytes_eq-Decides}
use Rattle.par_frame_forms.specs.par_pool.declared.constant.Constant.{Constant}
use Rattle.par_frame_forms.proofs.par_pool.Positions.{position-none}
use Rattle.par_frame_forms.specs.declared.form.PlaceType.{PlaceType}
use Rattle.par_frame_forms.specs.declared.form.PlaceType.TheVariants.{Class}
use Rattle.par_kinds.specs.declared.frame.VKind.{VKind}
use Rattle.par_kinds.specs.declared.frame.VKind.TheVariants.{Top, Int, Null, Object, Base}
use Rattle.par_kinds.specs.declared.frame.PlacedFrame.{PlacedFrame}
use Rattle.par_frames.specs.declared.indexed.IndexedFrame.{IndexedFrame}
use Rattle.par_frames.specs.Names.{same_kind, StandsFor}
use Rattle.par_frames.specs.Attribute.{IsListed, first_locals}
use Rattle.par_frames.specs.Forms.{IsIndexed}
use Rattle.par_frames.proofs.Steps.{front, zip_push}

differs : {A : Type 0} → false ≡ true → A
differs h = absurd (cc h)

same-is : (k l : VKind) → same_kind k l ≡ true → k ≡ l
unfolding same_kind
same-is Top Top h = refl
same-is Top Int h = differs h
same-is Top Null h = differs h
same-is Top (Object n) h = differs h
same-is Top (Base b) h = differs h
same-is Int Top h = differs h
same-is Int Int h = refl
same-is Int Null h = differs h
same-is Int (Object n) h = differs h
same-is Int (Base b) h = differs h
same-is Null Top h = differs h
same-is Null Int h = differs h
same-is Null Null h = refl
same-is Null (Object n) h = differs h
same-is Null (Base b) h = differs h
same-is (Object m) Top h = differs h
same-is (Object m) Int h = differs h
same-is (Object m) Null h = differs h
same-is (Object m) (Object n) h = ap (λ (x : List ℕ). Object x) ((bytes_eq-Decides m n).0 h)
same-is (Object m) (Base b) h = differs h
same-is (Base true) Top h = differs h
same-is (Base true) Int h = differs h
same-is (Base true) Null h = differs h
same-is (Base true) (Object n) h = differs h
same-is (Base true) (Base true) h = refl
same-is (Base true) (Base false) h = differs h
same-is (Base false) Top h = differs h
same-is (Base false) Int h = differs h
same-is (Base false) Null h = differs h
same-is (Base false) (Object n) h = differs h
same-is (Base false) (Base true) h = differs h
same-is (Base false) (Base false) h = refl

same-itself : (k : VKind) → same_kind k k ≡ true
unfolding same_kind
same-itself Top = refl
same-itself Int = refl
same-itself Null = refl
same-itself (Object n) = (bytes_eq-Decides n n).1 refl
same-itself (Base true) = refl
same-itself (Base false) = refl

zip-at : {A B : Type 0} (R : A → B → Type 0) (xs : List A) (ys : List B) (i : ℕ) (d : A) (e : B)
    → AllZip R xs ys → i < length xs → R (get_or xs i d) (get_or ys i e)
zip-at R [] [] i d e h lt = absurd (omega (arith, lt))
zip-at R [] (y ∷ ys) i d e h lt = absurd h
zip-at R (x ∷ xs) [] i d e h lt = absurd h
zip-at R (x ∷ xs) (y ∷ ys) zero d e h lt = h.0
zip-at R (x ∷ xs) (y ∷ ys) (suc i) d e h lt = zip-at R xs ys i d e h.1 (omega (arith, lt))

-- a kind that is found is written as there
pub found : (pool : List Constant) (kind : VKind) (first : List VKind) (types : List PlaceType)
    (place : ℕ) (t : PlaceType) → Some place ≡ position (same_kind kind) first
    → t ≡ get_or types place (Class 0) → AllZip (StandsFor pool) first types
    → StandsFor pool kind t
found pool kind first types place t is e zip =
    let there = position-Some (same_kind kind) first place kind (sym is) in
    subst (λ (k : VKind). StandsFor pool k t)
    (sym (same-is kind (get_or first place kind) there.1))
    (subst (λ (u : PlaceType). StandsFor pool (get_or first place kind) u) (sym e)
    (zip-at (StandsFor pool) first types place kind (Class 0) zip there.0))

-- a kind that another frame has at a place is written as there
pub known : (pool : List Constant) (kind other : VKind) (earlier : List VKind)
    (types : List PlaceType) (place : ℕ) (same : Bool) (t u : PlaceType)
    → place < length earlier → other ≡ get_or earlier place other
    → same ≡ same_kind kind other → same ≡ true → t ≡ get_or types place t → u ≡ t
    → AllZip (StandsFor pool) earlier types → StandsFor pool kind u
known pool kind other earlier types place same t u lt is asked truly there copy zip =
    subst (λ (v : PlaceType). StandsFor pool kind v) (sym copy)
    (subst (λ (k : VKind). StandsFor pool k t)
    (sym (same-is kind other (sym asked ∙ truly)))
    (subst (λ (k : VKind). StandsFor pool k t) (sym is)
    (subst (λ (v : PlaceType). StandsFor pool (get_or earlier place other) v) (sym there)
    (zip-at (StandsFor pool) earlier types place other t zip lt))))

-- a kind that is not found is not there
pub not_found : (kind : VKind) (first : List VKind) → None ≡ position (same_kind kind) first
    → Contains first kind → ⊥
not_found kind first none (k, lt, is) =
    cc (sym (position-none (same_kind kind) first (sym none) k kind
    (slice_get-get_or first k kind lt ∙ ap (λ (x : VKind). Some x) is)) ∙ same-itself kind)

-- ---- one after the other

pub record Listing {A B : Type 0} (R : A → B → Type 0) (all rest : List A) (made : List B) : Type 0
  where
    pub done : List A
    pub split : all ≡ done ++ rest
    pub stand : AllZip R done made

pub list_begin : {A B : Type 0} (R : A → B → Type 0) (all : List A) → Listing R all all []
list_begin R all = record { done = []; split = refl; stand = tt }

pub list_step : {A B : Type 0} (R : A → B → Type 0) (all : List A) (i : ℕ) (made more : List B)
    (x : A) (y : B) → x ≡ get_or all i x → i < length all → R x y → more ≡ made ++ y ∷ []
    → Listing R all (drop i all) made → Listing R all (drop (i + 1) all) more
list_step {A = A} {B = B} R all i made more x y is lt r e l = record {
  done = l.done ++ x ∷ [];
  split =
      l.split ∙ ap (λ (rest : List A). l.done ++ rest) (front all i x is lt)
      ∙ sym (append_assoc l.done (x ∷ []) (drop (i + 1) all));
  stand =
      subst (λ (ys : List B). AllZip R (l.done ++ x ∷ []) ys) (sym e)
      (zip_push R l.done made x y l.stand r);
}

pub list_end : {A B : Type 0} (R : A → B → Type 0) (all : List A) (i : ℕ) (made : List B)
    → length all ≤ i → Listing R all (drop i all) made → AllZip R all made
list_end {A = A} R all i made le l =
    subst (λ (xs : List A). AllZip R xs made)
    (sym (l.split ∙ ap (λ (rest : List A). l.done ++ rest) (drop_all i all le)
    ∙ append-nil l.done))
    l.stand

-- ---- the first frame

first-of : (fs : List PlacedFrame) (f : PlacedFrame) → f ≡ get_or fs 0 f → 0 < length fs
    → f.frame.locals ≡ first_locals fs
first-of [] f is lt = absurd (omega (arith, lt))
first-of (g ∷ fs) f is lt = ap (λ (h : PlacedFrame). h.frame.locals) is

-- kinds that are listed before the first frame
pub first_listed : {E : Type 0} (pool : List Constant) (fs : List PlacedFrame)
    (placed : List IndexedFrame) (kinds : List VKind) (r : Result (List PlaceType) E)
    (f : PlacedFrame) (i : IndexedFrame) (s : List VKind) (t : List PlaceType)
    → f ≡ get_or fs 0 f → 0 < length fs → i ≡ get_or placed 0 i → s ≡ f.frame.locals
    → t ≡ i.locals
    → ((p : List Constant) → AllZip (StandsFor p) s t
    → IfOk r (λ listed. AllZip (IsListed p s) kinds listed))
    → AllZip (IsIndexed pool) fs placed
    → IfOk r (λ listed. AllZip (IsListed pool (first_locals fs)) kinds listed)
first_listed pool fs placed kinds r f i s t fis lt iis e g h zip =
    let both : AllZip (StandsFor pool) s t =
    subst (λ (ks : List VKind). AllZip (StandsFor pool) ks t)
    (sym (e ∙ ap (λ (x : PlacedFrame). x.frame.locals) fis))
    (subst (λ (ts : List PlaceType). AllZip (StandsFor pool) (get_or fs 0 f).frame.locals ts)
    (sym (g ∙ ap (λ (x : IndexedFrame). x.locals) iis))
    (zip-at (IsIndexed pool) fs placed 0 f i zip lt).locals) in
    subst (λ (ks : List VKind). IfOk r (λ listed. AllZip (IsListed pool ks) kinds listed))
    (e ∙ first-of fs f fis lt) (h pool both)

pub none_listed : {E : Type 0} (pool : List Constant) (fs : List PlacedFrame) (kinds : List VKind)
    (r : Result (List PlaceType) E) → length fs < 1
    → ((p : List Constant) → AllZip (StandsFor p) [] []
    → IfOk r (λ listed. AllZip (IsListed p []) kinds listed))
    → IfOk r (λ listed. AllZip (IsListed pool (first_locals fs)) kinds listed)
none_listed pool [] kinds r lt h = h pool tt
none_listed pool (f ∷ fs) kinds r lt h = absurd (omega (arith, lt))
