-- What places of kinds hold.
use Rattle.std.proofs.Common.{◌≡◌, ℕ, zero, suc, ◌-◌, ◌≤◌, true, List, [], ◌∷◌, map, length, take}
use Rattle.std.proofs.Common.{reverse, replicate, Some, None, Option, refl, ap, subst, ◌∙◌, arith}
use Rattle.std.specs.List.{slice_get}
use Rattle.std.proofs.lemmas.List.{length-reverse, reverse-append}
use mathlib.Core.List.{reverse-cons}
use Rattle.par_class.specs.declared.file.ClassFile.{ClassFile}
use Rattle.par_values.specs.declared.value.MVal.{MVal}
use Rattle.par_values.specs.declared.value.MVal.TheVariants.{Null}
use Rattle.par_values.specs.declared.kind.Kind.{Kind}
use Rattle.par_values.specs.Areas.{Objects, value_or_null, local_value, fits, first_locals}
use Rattle.par_values.specs.Reasons.{all_fit}
use Rattle.par_kinds.specs.par_step_laws.Classes.{class_names}
use Rattle.par_kinds.specs.declared.frame.VKind.{VKind}
use Rattle.par_kinds.specs.declared.frame.VKind.TheVariants.{Top as ATop}
use Rattle.par_kinds.specs.Kinds.{vkind, Both, Front, kind_at, accepts}
use Rattle.par_kinds.specs.Acts.{Accepts}
use Rattle.par_kinds.specs.Linked.{padded}
use Rattle.par_verify_laws.specs.States.{Good, Holds, Keeps}
use Rattle.par_verify_laws.specs.Right.{AreRight}
use Rattle.par_kinds.proofs.Lists.{both-reverse, both-append, both-replicate}
use Rattle.par_verify_laws.proofs.Values.{top-good, has-fits, fits-accepted}

reverse-twice : {A : Type 0} (xs : List A) → reverse (reverse xs) ≡ xs
reverse-twice [] = refl
reverse-twice (x ∷ xs) =
    ap reverse (reverse-cons x xs) ∙ reverse-append (reverse xs) (x ∷ [])
    ∙ ap (λ ys. x ∷ ys) (reverse-twice xs)

module _ (files : List ClassFile) (right : AreRight files) (objects : Objects) where
  pub operand-good : (ks : List VKind) (vs : List MVal) (n : ℕ) → Both (Good files objects) ks vs
      → Good files objects (kind_at ks n) (value_or_null (slice_get vs n))
  operand-good [] [] n both = top-good files right objects Null tt
  operand-good [] (v ∷ vs) n both = absurd both
  operand-good (k ∷ ks) [] n both = absurd both
  operand-good (k ∷ ks) (v ∷ vs) zero both = both.0
  operand-good (k ∷ ks) (v ∷ vs) (suc n) both = operand-good ks vs n both.1

  pub local-holds : (ks : List VKind) (os : List (Option MVal)) (n : ℕ)
      → Both (Holds files objects) ks os
      → Holds files objects (kind_at ks n) (local_value (slice_get os n))
  local-holds [] [] n both = tt
  local-holds [] (v ∷ vs) n both = absurd both
  local-holds (k ∷ ks) [] n both = absurd both
  local-holds (k ∷ ks) (v ∷ vs) zero both = both.0
  local-holds (k ∷ ks) (v ∷ vs) (suc n) both = local-holds ks vs n both.1

  pub held-good : (k : VKind) (o : Option MVal) → Holds files objects k o
      → Good files objects k (value_or_null o)
  held-good k (Some v) held = held
  held-good ATop None held = top-good files right objects Null tt
  held-good k None held = absurd held

  -- the operands that an instruction takes, by their kinds
  pub taken : (kinds : List Kind) (ks : List VKind) (vs : List MVal) → Front Accepts kinds ks
      → Both (Good files objects) ks vs
      → Both (Keeps files objects) kinds (take (length kinds) vs)
  taken [] ks vs front both = tt
  taken (kind ∷ kinds) [] vs front both = absurd front
  taken (kind ∷ kinds) (k ∷ ks) [] front both = absurd both
  taken (kind ∷ kinds) (k ∷ ks) (v ∷ vs) front both = (
    record {
      has = has-fits files right kind v (fits-accepted files right kind k v front.0 both.0.has);
      live = both.0.live;
    },
    taken kinds ks vs front.1 both.1,
  )

  pub one-taken : (kinds : List Kind) (ks : List VKind) (vs : List MVal) (n : ℕ) (kind : Kind)
      → Front Accepts kinds ks
      → Both (Good files objects) ks vs → slice_get kinds n ≡ Some kind
      → Good files objects (vkind kind) (value_or_null (slice_get vs n))
  one-taken [] ks vs n kind front both is = absurd (cc is)
  one-taken (other ∷ kinds) [] vs n kind front both is = absurd front
  one-taken (other ∷ kinds) (k ∷ ks) [] n kind front both is = absurd both
  one-taken (other ∷ kinds) (k ∷ ks) (v ∷ vs) zero kind front both is =
      let same : other ≡ kind = cc is in
      record {
        has = has-fits files right kind v
            (fits-accepted files right kind k v
            (subst (λ (o : Kind). accepts o k ≡ true) same front.0) both.0.has);
        live = both.0.live;
      }
  one-taken (other ∷ kinds) (k ∷ ks) (v ∷ vs) (suc n) kind front both is =
      one-taken kinds ks vs n kind front.1 both.1 is

  pub kept-good : (kinds : List Kind) (vs : List MVal) → Both (Keeps files objects) kinds vs
      → Both (Good files objects) (map vkind kinds) vs
  kept-good [] [] both = tt
  kept-good [] (v ∷ vs) both = absurd both
  kept-good (kind ∷ kinds) [] both = absurd both
  kept-good (kind ∷ kinds) (v ∷ vs) both = (both.0, kept-good kinds vs both.1)

  some-held : (ks : List VKind) (vs : List MVal) → Both (Good files objects) ks vs
      → Both (Holds files objects) ks (map Some vs)
  some-held [] [] both = tt
  some-held [] (v ∷ vs) both = absurd both
  some-held (k ∷ ks) [] both = absurd both
  some-held (k ∷ ks) (v ∷ vs) both = (both.0, some-held ks vs both.1)

  -- the locals of a called method
  pub entered-holds : (many : ℕ) (ks : List VKind) (vs : List MVal)
      → length ks ≡ length vs → Both (Good files objects) ks vs
      → Both (Holds files objects) (padded many ks) (first_locals many vs)
  entered-holds many ks vs same both =
      both-append (Holds files objects) ks (replicate (many - length ks) ATop) (map Some vs)
      (replicate (many - length vs) None) (some-held ks vs both)
      (subst
      (λ (n : ℕ). Both (Holds files objects) (replicate (many - length ks) ATop)
      (replicate (many - n) None))
      same (both-replicate (Holds files objects) (many - length ks) ATop None tt))

  -- arguments in their order
  pub arguments-keep : (order : List Kind) (kinds : List Kind) (ks : List VKind) (vs : List MVal)
      → kinds ≡ reverse order → Front Accepts kinds ks → Both (Good files objects) ks vs
      → Both (Keeps files objects) order (reverse (take (length order) vs))
  arguments-keep order kinds ks vs is front both =
      let front : Front Accepts (reverse order) ks =
      subst (λ (kinds : List Kind). Front Accepts kinds ks) is front in
      let some = both-reverse (Keeps files objects) (reverse order)
      (take (length (reverse order)) vs) (taken (reverse order) ks vs front both) in
      let turned =
      subst
      (λ (n : ℕ). Both (Keeps files objects) (reverse (reverse order)) (reverse (take n vs)))
      (length-reverse order) some in
      subst (λ (kinds : List Kind). Both (Keeps files objects) kinds
      (reverse (take (length order) vs)))
      (reverse-twice order) turned

  pub all-fit : (kinds : List Kind) (ks : List VKind) (vs : List MVal) → Front Accepts kinds ks
      → Both (Good files objects) ks vs → all_fit (class_names files) kinds vs ≡ true
  all-fit [] ks vs front both = refl
  all-fit (kind ∷ kinds) [] vs front both = absurd front
  all-fit (kind ∷ kinds) (k ∷ ks) [] front both = absurd both
  all-fit (kind ∷ kinds) (k ∷ ks) (v ∷ vs) front both =
      let one : fits (class_names files) kind v ≡ true =
      fits-accepted files right kind k v front.0 both.0.has in
      rw one (all-fit kinds ks vs front.1 both.1)

pub front-length : (kinds : List Kind) (ks : List VKind) → Front Accepts kinds ks
    → length kinds ≤ length ks
front-length [] ks front = omega arith
front-length (kind ∷ kinds) [] front = absurd front
front-length (kind ∷ kinds) (k ∷ ks) front =
    let less = front-length kinds ks front.1 in omega (arith, less)
