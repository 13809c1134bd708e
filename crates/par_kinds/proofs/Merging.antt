-- Kinds are ordered, and a merge is the least above both.
use Rattle.std.proofs.Common.{◌≡◌, Bool, true, false, cond, ◌&&◌, List}
use Rattle.std.proofs.Common.{refl, sym, ap, subst, ◌∙◌}
use Rattle.std.specs.Str.{bytes_eq}
use Rattle.std.proofs.lemmas.Slice.Eq.{bytes_eq-Decides}
use Rattle.par_values.specs.declared.kind.Kind.{Kind}
use Rattle.par_values.specs.declared.kind.Kind.TheVariants.{Number, Object, AnyObject, Anything}
use Rattle.par_values.specs.Areas.{Name}
use Rattle.par_step_laws.proofs.par_link.Passing.{same_text}
use Rattle.par_kinds.specs.declared.frame.VKind.{VKind}
use Rattle.par_kinds.specs.declared.frame.VKind.TheVariants.{Top as ATop, Int as AnInt}
use Rattle.par_kinds.specs.declared.frame.VKind.TheVariants.{Null as ANull, Object as AnObject}
use Rattle.par_kinds.specs.declared.frame.VKind.TheVariants.{Base as ABase}
use Rattle.par_kinds.specs.Kinds.{into, accepts, throwable, exceptional, is_in}
use Rattle.par_kinds.specs.Passes.{merge}
use Rattle.par_kinds.specs.Laws.{MergesAreLeast}

same-itself : (name : Name) → bytes_eq name name ≡ true
same-itself name = (bytes_eq-Decides name name).1 refl

module _ (exc : List Name) where
  pub into-same : (k : VKind) → into exc k k ≡ true
  unfolding into
  into-same ATop = refl
  into-same AnInt = refl
  into-same ANull = refl
  into-same (AnObject n) = same-itself n
  into-same (ABase true) = refl
  into-same (ABase false) = refl

  pub into-then : (k l u : VKind) → into exc k l ≡ true → into exc l u ≡ true → into exc k u ≡ true
  unfolding into
  into-then k l ATop one other = refl
  into-then AnInt AnInt AnInt one other = refl
  into-then k ATop AnInt one other = absurd (cc other)
  into-then ANull ANull ANull one other = refl
  into-then ANull ANull (AnObject n) one other = refl
  into-then ANull (AnObject m) (AnObject n) one other = refl
  into-then (AnObject j) (AnObject m) (AnObject n) one other =
      subst (λ (t : Name). bytes_eq j t ≡ true) (same_text m n other) one
  into-then ANull ANull (ABase b) one other = refl
  into-then ANull (AnObject m) (ABase b) one other = refl
  into-then ANull (ABase c) (ABase b) one other = refl
  into-then (AnObject j) (AnObject m) (ABase true) one other =
      subst (λ (t : Name). is_in exc t ≡ true) (sym (same_text j m one)) other
  into-then (AnObject j) (AnObject m) (ABase false) one other = refl
  into-then (AnObject j) (ABase true) (ABase true) one other = one
  into-then (AnObject j) (ABase c) (ABase false) one other = refl
  into-then (AnObject j) (ABase false) (ABase true) one other = absurd (cc other)
  into-then (ABase true) (ABase true) (ABase b) one other = refl
  into-then (ABase true) (ABase false) (ABase false) one other = refl
  into-then (ABase false) (ABase false) (ABase false) one other = refl
  into-then k (ABase true) (ABase true) one other = absurd (first_of (cc one, cc other))
  into-then k (ABase false) (ABase true) one other = absurd (first_of (cc one, cc other))
  into-then k (ABase true) (ABase false) one other = absurd (first_of (cc one, cc other))
  into-then k (ABase false) (ABase false) one other = absurd (first_of (cc one, cc other))
  into-then k l (ABase true) one other = absurd (first_of (cc one, cc other))
  into-then k l (ABase false) one other = absurd (first_of (cc one, cc other))
  into-then k (ABase true) u one other = absurd (first_of (cc one, cc other))
  into-then k (ABase false) u one other = absurd (first_of (cc one, cc other))
  into-then (ABase true) l u one other = absurd (first_of (cc one, cc other))
  into-then (ABase false) l u one other = absurd (first_of (cc one, cc other))
  into-then k l u one other = absurd (first_of (cc one, cc other))

  pub into-both : (k l : VKind) → into exc k l ≡ true → into exc l k ≡ true → k ≡ l
  unfolding into
  into-both ATop ATop one other = refl
  into-both AnInt AnInt one other = refl
  into-both ANull ANull one other = refl
  into-both (AnObject m) (AnObject n) one other = ap AnObject (same_text m n one)
  into-both (ABase true) (ABase true) one other = refl
  into-both (ABase false) (ABase false) one other = refl
  into-both k (ABase true) one other = absurd (first_of (cc one, cc other))
  into-both k (ABase false) one other = absurd (first_of (cc one, cc other))
  into-both (ABase true) l one other = absurd (first_of (cc one, cc other))
  into-both (ABase false) l one other = absurd (first_of (cc one, cc other))
  into-both k l one other = absurd (first_of (cc one, cc other))

  pub accepts-less : (kind : Kind) (k l : VKind) → into exc k l ≡ true → accepts kind l ≡ true
      → accepts kind k ≡ true
  unfolding into accepts
  accepts-less Anything k l fit ok = refl
  accepts-less Number AnInt l fit ok = refl
  accepts-less (Object n) ANull l fit ok = refl
  accepts-less (Object n) (AnObject m) (AnObject j) fit ok =
      subst (λ (t : Name). bytes_eq t n ≡ true) (sym (same_text m j fit)) ok
  accepts-less AnyObject ANull l fit ok = refl
  accepts-less AnyObject (AnObject m) l fit ok = refl
  accepts-less AnyObject (ABase b) l fit ok = refl
  accepts-less kind k (ABase true) fit ok = absurd (first_of (cc fit, cc ok))
  accepts-less kind k (ABase false) fit ok = absurd (first_of (cc fit, cc ok))
  accepts-less kind (ABase true) l fit ok = absurd (first_of (cc fit, cc ok))
  accepts-less kind (ABase false) l fit ok = absurd (first_of (cc fit, cc ok))
  accepts-less kind k l fit ok = absurd (first_of (cc fit, cc ok))

  pub throwable-less : (k l : VKind) → into exc k l ≡ true → throwable exc l ≡ true
      → throwable exc k ≡ true
  unfolding into throwable
  throwable-less ANull l fit ok = refl
  throwable-less (AnObject m) (AnObject n) fit ok =
      subst (λ (t : Name). is_in exc t ≡ true) (sym (same_text m n fit)) ok
  throwable-less (AnObject m) (ABase true) fit ok = fit
  throwable-less (ABase true) l fit ok = refl
  throwable-less k (ABase true) fit ok = absurd (first_of (cc fit, cc ok))
  throwable-less k (ABase false) fit ok = absurd (first_of (cc fit, cc ok))
  throwable-less (ABase false) l fit ok = absurd (first_of (cc fit, cc ok))
  throwable-less k l fit ok = absurd (first_of (cc fit, cc ok))

  pub exceptional-less : (k l : VKind) → into exc k l ≡ true → exceptional exc l ≡ true
      → exceptional exc k ≡ true
  unfolding into exceptional
  exceptional-less ANull l fit ok = refl
  exceptional-less (AnObject m) (AnObject n) fit ok =
      subst (λ (t : Name). is_in exc t ≡ true) (sym (same_text m n fit)) ok
  exceptional-less k (ABase true) fit ok = absurd (first_of (cc fit, cc ok))
  exceptional-less k (ABase false) fit ok = absurd (first_of (cc fit, cc ok))
  exceptional-less (ABase true) l fit ok = absurd (first_of (cc fit, cc ok))
  exceptional-less (ABase false) l fit ok = absurd (first_of (cc fit, cc ok))
  exceptional-less k l fit ok = absurd (first_of (cc fit, cc ok))

  -- ---- merges

  pick : (P : VKind → Type 0) (a b c d : Bool) (k l x y z : VKind)
      → (a ≡ true → P l) → (a ≡ false → b ≡ true → P k)
      → (a ≡ false → b ≡ false → c ≡ true → P x)
      → (a ≡ false → b ≡ false → c ≡ false → d ≡ true → P y)
      → (a ≡ false → b ≡ false → c ≡ false → d ≡ false → P z)
      → P (cond a l (cond b k (cond c x (cond d y z))))
  pick P true b c d k l x y z one two three four five = one refl
  pick P false true c d k l x y z one two three four five = two refl refl
  pick P false false true d k l x y z one two three four five = three refl refl refl
  pick P false false false true k l x y z one two three four five = four refl refl refl refl
  pick P false false false false k l x y z one two three four five = five refl refl refl refl

  and-both : (a b : Bool) → (a && b) ≡ true → (a ≡ true) × (b ≡ true)
  and-both true b e = (refl, e)
  and-both false b e = absurd (cc e)

  throwable-base : (k : VKind) → throwable exc k ≡ true → into exc k (ABase true) ≡ true
  unfolding into throwable
  throwable-base ANull e = refl
  throwable-base (AnObject m) e = e
  throwable-base (ABase true) e = refl
  throwable-base (ABase false) e = absurd (cc e)
  throwable-base k e = absurd (cc e)

  object-base : (k : VKind) → accepts AnyObject k ≡ true → into exc k (ABase false) ≡ true
  unfolding into accepts
  object-base ANull e = refl
  object-base (AnObject m) e = refl
  object-base (ABase true) e = refl
  object-base (ABase false) e = refl
  object-base k e = absurd (cc e)

  pub merge-left : (k l : VKind) → into exc k (merge exc k l) ≡ true
  unfolding into
  merge-left k l =
      pick (λ m. into exc k m ≡ true) (into exc k l) (into exc l k)
      (throwable exc k && throwable exc l)
      (accepts AnyObject k && accepts AnyObject l) k l (ABase true) (ABase false) ATop
      (λ a. a) (λ a b. into-same k)
      (λ a b c. throwable-base k (and-both (throwable exc k) (throwable exc l) c).0)
      (λ a b c d. object-base k (and-both (accepts AnyObject k) (accepts AnyObject l) d).0)
      (λ a b c d. refl)

  pub merge-right : (k l : VKind) → into exc l (merge exc k l) ≡ true
  unfolding into
  merge-right k l =
      pick (λ m. into exc l m ≡ true) (into exc k l) (into exc l k)
      (throwable exc k && throwable exc l)
      (accepts AnyObject k && accepts AnyObject l) k l (ABase true) (ABase false) ATop
      (λ a. into-same l) (λ a b. b)
      (λ a b c. throwable-base l (and-both (throwable exc k) (throwable exc l) c).1)
      (λ a b c d. object-base l (and-both (accepts AnyObject k) (accepts AnyObject l) d).1)
      (λ a b c d. refl)

  null-into : (k : VKind) → accepts AnyObject k ≡ true → into exc ANull k ≡ true
  unfolding into accepts
  null-into ANull e = refl
  null-into (AnObject m) e = refl
  null-into (ABase b) e = refl
  null-into k e = absurd (cc e)

  throwable-object : (k : VKind) → throwable exc k ≡ true → accepts AnyObject k ≡ true
  unfolding throwable accepts
  throwable-object ANull e = refl
  throwable-object (AnObject m) e = refl
  throwable-object (ABase b) e = refl
  throwable-object k e = absurd (cc e)

  both-false : (b : Bool) → b ≡ true → b ≡ false → ⊥
  both-false b is not_so =
      let e : true ≡ false = sym is ∙ not_so in cc e

  -- below an object of a class two objects are comparable
  comparable : (k l : VKind) (n : Name) → accepts AnyObject l ≡ true
      → into exc k (AnObject n) ≡ true → into exc l (AnObject n) ≡ true
      → into exc k l ≡ false → into exc l k ≡ false → ⊥
  unfolding into
  comparable ANull l n object one other a b = both-false (into exc ANull l) (null-into l object) a
  comparable (AnObject m) ANull n object one other a b = cc b
  comparable (AnObject m) (AnObject j) n object one other a b =
      let same : bytes_eq m j ≡ true =
      (bytes_eq-Decides m j).1 (same_text m n one ∙ sym (same_text j n other)) in
      both-false (bytes_eq m j) same a
  comparable k (ABase true) n object one other a b = cc other
  comparable k (ABase false) n object one other a b = cc other
  comparable (ABase true) l n object one other a b = cc one
  comparable (ABase false) l n object one other a b = cc one
  comparable k l n object one other a b = first_of (cc one, cc other)

  below-null : (k l : VKind) → into exc k ANull ≡ true → into exc l ANull ≡ true
      → into exc k l ≡ true
  unfolding into
  below-null ANull ANull one other = refl
  below-null (ABase true) l one other = absurd (cc one)
  below-null (ABase false) l one other = absurd (cc one)
  below-null k (ABase true) one other = absurd (cc other)
  below-null k (ABase false) one other = absurd (cc other)
  below-null k l one other = absurd (first_of (cc one, cc other))

  below-int : (k l : VKind) → into exc k AnInt ≡ true → into exc l AnInt ≡ true
      → into exc k l ≡ true
  unfolding into
  below-int AnInt AnInt one other = refl
  below-int (ABase true) l one other = absurd (cc one)
  below-int (ABase false) l one other = absurd (cc one)
  below-int k (ABase true) one other = absurd (cc other)
  below-int k (ABase false) one other = absurd (cc other)
  below-int k l one other = absurd (first_of (cc one, cc other))

  both-true : (a b : Bool) → a ≡ true → b ≡ true → (a && b) ≡ true
  both-true true b e f = f
  both-true false b e f = absurd (cc e)

  least-throwable : (k l u : VKind) → into exc k u ≡ true → into exc l u ≡ true
      → into exc k l ≡ false → into exc l k ≡ false → accepts AnyObject l ≡ true
      → into exc (ABase true) u ≡ true
  unfolding into
  least-throwable k l ATop one other a b object = refl
  least-throwable k l (ABase t) one other a b object = refl
  least-throwable k l (AnObject n) one other a b object =
      absurd (comparable k l n object one other a b)
  least-throwable k l ANull one other a b object =
      absurd (both-false (into exc k l) (below-null k l one other) a)
  least-throwable k l AnInt one other a b object =
      absurd (both-false (into exc k l) (below-int k l one other) a)

  least-object : (k l u : VKind) → into exc k u ≡ true → into exc l u ≡ true
      → into exc k l ≡ false → into exc l k ≡ false → (throwable exc k && throwable exc l) ≡ false
      → accepts AnyObject l ≡ true → into exc (ABase false) u ≡ true
  unfolding into throwable
  least-object k l ATop one other a b c object = refl
  least-object k l (ABase false) one other a b c object = refl
  least-object k l (ABase true) one other a b c object =
      absurd (both-false (throwable exc k && throwable exc l)
      (both-true (throwable exc k) (throwable exc l) (throwable-less k (ABase true) one refl)
      (throwable-less l (ABase true) other refl)) c)
  least-object k l (AnObject n) one other a b c object =
      absurd (comparable k l n object one other a b)
  least-object k l ANull one other a b c object =
      absurd (both-false (into exc k l) (below-null k l one other) a)
  least-object k l AnInt one other a b c object =
      absurd (both-false (into exc k l) (below-int k l one other) a)

  least-top : (k l u : VKind) → into exc k u ≡ true → into exc l u ≡ true
      → into exc k l ≡ false → (accepts AnyObject k && accepts AnyObject l) ≡ false
      → into exc ATop u ≡ true
  unfolding into accepts
  least-top k l ATop one other a d = refl
  least-top k l AnInt one other a d =
      absurd (both-false (into exc k l) (below-int k l one other) a)
  least-top k l ANull one other a d =
      absurd (both-false (into exc k l) (below-null k l one other) a)
  least-top k l (AnObject n) one other a d =
      absurd (both-false (accepts AnyObject k && accepts AnyObject l)
      (both-true (accepts AnyObject k) (accepts AnyObject l)
      (accepts-less AnyObject k (AnObject n) one refl)
      (accepts-less AnyObject l (AnObject n) other refl)) d)
  least-top k l (ABase t) one other a d =
      absurd (both-false (accepts AnyObject k && accepts AnyObject l)
      (both-true (accepts AnyObject k) (accepts AnyObject l)
      (accepts-less AnyObject k (ABase t) one refl) (accepts-less AnyObject l (ABase t) other refl))
      d)

  -- the merge is below each kind that is above both
  pub merge-least : (k l u : VKind) → into exc k u ≡ true → into exc l u ≡ true
      → into exc (merge exc k l) u ≡ true
  merge-least k l u one other =
      pick (λ m. into exc m u ≡ true) (into exc k l) (into exc l k)
      (throwable exc k && throwable exc l)
      (accepts AnyObject k && accepts AnyObject l) k l (ABase true) (ABase false) ATop
      (λ a. other) (λ a b. one)
      (λ a b c. least-throwable k l u one other a b
      (throwable-object l (and-both (throwable exc k) (throwable exc l) c).1))
      (λ a b c d. least-object k l u one other a b c
      (and-both (accepts AnyObject k) (accepts AnyObject l) d).1)
      (λ a b c d. least-top k l u one other a d)

pub merges_are_least : MergesAreLeast
merges_are_least exc k l = record {
  left = merge-left exc k l;
  right = merge-right exc k l;
  least = merge-least exc k l;
}
