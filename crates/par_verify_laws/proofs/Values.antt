-- Values of kinds.
use Rattle.std.proofs.Common.{◌≡◌, ℕ, ℤ, zero, suc, ◌<◌, ◌==◌, Bool, true, false, ◌||◌, List, []}
use Rattle.std.proofs.Common.{◌∷◌, map, length, Some, None, Option, refl, sym, ap, subst, ◌∙◌}
use Rattle.std.proofs.Common.{arith}
use Rattle.std.specs.List.{slice_get, list_any}
use Rattle.std.specs.Str.{bytes_eq}
use Rattle.std.proofs.lemmas.Bool.{eq-eqb}
use Rattle.par_class.specs.declared.file.ClassFile.{ClassFile}
use Rattle.par_values.specs.declared.value.MVal.{MVal}
use Rattle.par_values.specs.declared.value.MVal.TheVariants.{Int, Null, Ref}
use Rattle.par_values.specs.declared.kind.Kind.{Kind}
use Rattle.par_values.specs.declared.kind.Kind.TheVariants.{Number, Object, AnyObject, Anything}
use Rattle.par_values.specs.Areas.{Name, Objects, class_named, fits, first_value, list_or_none}
use Rattle.par_values.specs.Reasons.{is_of}
use Rattle.par_kinds.proofs.par_link.Passing.{same_text, eq_turned}
use Rattle.par_kinds.specs.par_step_laws.Classes.{class_names, exceptions}
use Rattle.par_kinds.specs.declared.frame.VKind.{VKind}
use Rattle.par_kinds.specs.declared.frame.VKind.TheVariants.{Top as ATop, Int as AnInt}
use Rattle.par_kinds.specs.declared.frame.VKind.TheVariants.{Null as ANull, Object as AnObject}
use Rattle.par_kinds.specs.declared.frame.VKind.TheVariants.{Base as ABase}
use Rattle.par_kinds.specs.Kinds.{vkind, into, accepts, throwable, exceptional, Each, Into}
use Rattle.par_verify_laws.specs.States.{Has, Live, Good, Holds, is_object}
use Rattle.par_verify_laws.specs.Right.{AreRight}
use Rattle.par_kinds.specs.Linked.{exception_names}

or-right : (b : Bool) → (b || true) ≡ true
or-right true = refl
or-right false = refl

-- two texts are one where a third is the same as both
same_with : (a b c : Name) → bytes_eq a b ≡ true → bytes_eq b c ≡ true → bytes_eq a c ≡ true
same_with a b c one other = subst (λ (t : Name). bytes_eq a t ≡ true) (same_text b c other) one

same_with_left : (a b c : Name) → bytes_eq a b ≡ true → bytes_eq c b ≡ true → bytes_eq a c ≡ true
same_with_left a b c one other =
    subst (λ (t : Name). bytes_eq a t ≡ true) (sym (same_text c b other)) one

-- an object that is there is of a class
pub live_class : (objects : Objects) (c i : ℕ) → i < length (list_or_none (slice_get objects c))
    → c < length objects
live_class [] c i live = absurd (omega (arith, live))
live_class (o ∷ objects) zero i live = omega arith
live_class (o ∷ objects) (suc c) i live = omega (arith, live_class objects c i live)

module _ (files : List ClassFile) (right : AreRight files) where
  abbrev pub many : ℕ
  many = length (class_names files)

  abbrev pub name_of : ℕ → Name
  name_of c = class_named (class_names files) c

  -- a class of the name of one of these classes is one of them
  pub found : (ds : List ℕ) (c : ℕ) (m : Name) → Each (λ d. d < many) ds → c < many
      → bytes_eq (name_of c) m ≡ true → list_any (bytes_eq m) (map name_of ds) ≡ true
      → list_any (λ d. d == c) ds ≡ true
  found [] c m each lt is any = absurd (cc any)
  found (d ∷ ds) c m each lt is any =
      in_case (found ds c m each.1 lt is) (bytes_eq m (name_of d)) refl
    where
      in_case : (list_any (bytes_eq m) (map name_of ds) ≡ true → list_any (λ d. d == c) ds ≡ true)
          → (b : Bool) → bytes_eq m (name_of d) ≡ b
          → ((d == c) || list_any (λ d. d == c) ds) ≡ true
      in_case later true e =
          let same : name_of c ≡ name_of d =
          same_text (name_of c) m is ∙ same_text m (name_of d) e in
          let one : c ≡ d = right.differ c d lt each.0 same in
          ap (λ b. b || list_any (λ d. d == c) ds) (eq-eqb d c (sym one))
      in_case later false e =
          let rest : list_any (bytes_eq m) (map name_of ds) ≡ true =
          sym (ap (λ b. b || list_any (bytes_eq m) (map name_of ds)) e) ∙ any in
          ap (λ b. (d == c) || b) (later rest) ∙ or-right (d == c)

  -- a value of one kind is of those into which the kind fits
  pub has-into : (k l : VKind) (v : MVal) (objects : Objects)
      → length objects ≡ many → into (exception_names files) k l ≡ true
      → Has files k v → Live objects v → Has files l v
  unfolding into Has
  has-into k ATop v objects size fit has live = tt
  has-into AnInt AnInt v objects size fit has live = has
  has-into ANull ANull v objects size fit has live = has
  has-into ANull (AnObject n) v objects size fit has live =
      subst (λ v. fits (class_names files) (Object n) v ≡ true) (sym has) refl
  has-into (AnObject m) (AnObject n) (Int i) objects size fit has live = absurd (cc has)
  has-into (AnObject m) (AnObject n) Null objects size fit has live = refl
  has-into (AnObject m) (AnObject n) (Ref c i) objects size fit has live =
      same_with (name_of c) m n has fit
  has-into ANull (ABase true) v objects size fit has live =
      subst (λ v. (is_object v ≡ true) × (is_of (exceptions files) v ≡ true)) (sym has) (refl, refl)
  has-into ANull (ABase false) v objects size fit has live =
      subst (λ v. is_object v ≡ true) (sym has) refl
  has-into (AnObject m) (ABase true) (Int i) objects size fit has live = absurd (cc has)
  has-into (AnObject m) (ABase true) Null objects size fit has live = (refl, refl)
  has-into (AnObject m) (ABase true) (Ref c i) objects size fit has live = (
    refl,
    found (exceptions files) c m right.exceptions
        (omega (arith, live_class objects c i live, size)) has fit,
  )
  has-into (AnObject m) (ABase false) (Int i) objects size fit has live = absurd (cc has)
  has-into (AnObject m) (ABase false) Null objects size fit has live = refl
  has-into (AnObject m) (ABase false) (Ref c i) objects size fit has live = refl
  has-into (ABase true) (ABase true) v objects size fit has live = has
  has-into (ABase true) (ABase false) v objects size fit has live = has.0
  has-into (ABase false) (ABase false) v objects size fit has live = has
  has-into k l v objects size fit has live = absurd (cc fit)

  pub good-into : (k l : VKind) (v : MVal) (objects : Objects)
      → length objects ≡ many → Into (exception_names files) k l
      → Good files objects k v → Good files objects l v
  good-into k l v objects size fit good =
      record { has = has-into k l v objects size fit good.has good.live; live = good.live }

  pub holds-into : (k l : VKind) (o : Option MVal) (objects : Objects)
      → length objects ≡ many → Into (exception_names files) k l
      → Holds files objects k o → Holds files objects l o
  unfolding into
  holds-into k l (Some v) objects size fit held = good-into k l v objects size fit held
  holds-into k ATop None objects size fit held = tt
  holds-into ATop AnInt None objects size fit held = absurd (cc fit)
  holds-into ATop ANull None objects size fit held = absurd (cc fit)
  holds-into ATop (AnObject n) None objects size fit held = absurd (cc fit)
  holds-into ATop (ABase true) None objects size fit held = absurd (cc fit)
  holds-into ATop (ABase false) None objects size fit held = absurd (cc fit)
  holds-into k l None objects size fit held = absurd held

  -- a value that an instruction takes
  pub fits-accepted : (kind : Kind) (k : VKind) (v : MVal) → accepts kind k ≡ true
      → Has files k v → fits (class_names files) kind v ≡ true
  unfolding accepts Has
  fits-accepted Anything k v fit has = refl
  fits-accepted Number AnInt v fit has = has
  fits-accepted Number k v fit has = absurd (cc fit)
  fits-accepted (Object n) ANull v fit has =
      subst (λ v. fits (class_names files) (Object n) v ≡ true) (sym has) refl
  fits-accepted (Object n) (AnObject m) (Int i) fit has = absurd (cc has)
  fits-accepted (Object n) (AnObject m) Null fit has = refl
  fits-accepted (Object n) (AnObject m) (Ref c i) fit has =
      same_with_left (name_of c) m n has (eq_turned n m ∙ fit)
  fits-accepted (Object n) k v fit has = absurd (cc fit)
  fits-accepted AnyObject ANull v fit has =
      subst (λ v. fits (class_names files) AnyObject v ≡ true) (sym has) refl
  fits-accepted AnyObject (AnObject m) (Int i) fit has = absurd (cc has)
  fits-accepted AnyObject (AnObject m) Null fit has = refl
  fits-accepted AnyObject (AnObject m) (Ref c i) fit has = refl
  fits-accepted AnyObject (ABase true) (Int i) fit has = absurd (cc has.0)
  fits-accepted AnyObject (ABase false) (Int i) fit has = absurd (cc has)
  fits-accepted AnyObject (ABase b) Null fit has = refl
  fits-accepted AnyObject (ABase b) (Ref c i) fit has = refl
  fits-accepted AnyObject k v fit has = absurd (cc fit)

  -- null and objects of exception classes can be thrown
  pub exceptional-thrown : (k : VKind) → exceptional (exception_names files) k ≡ true
      → throwable (exception_names files) k ≡ true
  unfolding throwable exceptional
  exceptional-thrown ANull fit = refl
  exceptional-thrown (AnObject m) fit = fit
  exceptional-thrown (ABase true) fit = absurd (cc fit)
  exceptional-thrown (ABase false) fit = absurd (cc fit)
  exceptional-thrown k fit = absurd (cc fit)

  -- a value that is thrown
  pub thrown-throwable : (k : VKind) (v : MVal) (objects : Objects) → length objects ≡ many
      → throwable (exception_names files) k ≡ true
      → Has files k v → Live objects v → is_of (exceptions files) v ≡ true
  unfolding throwable Has
  thrown-throwable ANull v objects size fit has live =
      subst (λ v. is_of (exceptions files) v ≡ true) (sym has) refl
  thrown-throwable (AnObject m) (Int i) objects size fit has live = refl
  thrown-throwable (AnObject m) Null objects size fit has live = refl
  thrown-throwable (AnObject m) (Ref c i) objects size fit has live =
      found (exceptions files) c m right.exceptions
      (omega (arith, live_class objects c i live, size)) has fit
  thrown-throwable (ABase true) v objects size fit has live = has.1
  thrown-throwable k v objects size fit has live = absurd (cc fit)

  -- what fits a kind is of it, and the other way round
  pub has-fits : (kind : Kind) (v : MVal) → fits (class_names files) kind v ≡ true
      → Has files (vkind kind) v
  unfolding Has
  has-fits Number v fit = fit
  has-fits (Object n) v fit = fit
  has-fits AnyObject (Int i) fit = absurd (cc fit)
  has-fits AnyObject Null fit = refl
  has-fits AnyObject (Ref c i) fit = refl
  has-fits Anything v fit = tt

  pub fits-has : (kind : Kind) (v : MVal) → Has files (vkind kind) v
      → fits (class_names files) kind v ≡ true
  unfolding Has
  fits-has Number v has = has
  fits-has (Object n) v has = has
  fits-has AnyObject (Int i) has = absurd (cc has)
  fits-has AnyObject Null has = refl
  fits-has AnyObject (Ref c i) has = refl
  fits-has Anything v has = refl

  -- a field before it is written
  pub first-good : (kind : Kind) (objects : Objects)
      → Good files objects (vkind kind) (first_value kind)
  unfolding Has
  first-good Number objects = record { has = refl; live = tt }
  first-good (Object n) objects = record { has = refl; live = tt }
  first-good AnyObject objects = record { has = refl; live = tt }
  first-good Anything objects = record { has = tt; live = tt }

  pub int-good : (n : ℤ) (objects : Objects) → Good files objects AnInt (Int n)
  unfolding Has
  int-good n objects = record { has = refl; live = tt }

  pub null-good : (objects : Objects) → Good files objects ANull Null
  unfolding Has
  null-good objects = record { has = refl; live = tt }

  pub top-good : (objects : Objects) (v : MVal) → Live objects v → Good files objects ATop v
  unfolding Has
  top-good objects v live = record { has = tt; live = live }
