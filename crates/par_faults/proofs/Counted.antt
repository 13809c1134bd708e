-- The limits that are counted are exceeded at places of the tree.
use Rattle.std.proofs.Common.{ℕ, ◌+◌, ◌≤◌, List, [], ◌∷◌, ◌++◌, take, drop, Option, Some, None}
use Rattle.std.specs.List.{AllByRecursion}
use Rattle.par_tree.specs.declared.decl.LockDecl.{LockDecl}
use Rattle.par_tree.specs.Plain as plain
use Rattle.par_tree.specs.Plain.{Method, Class, Declaration, Source}
use Rattle.par_refusals.specs.declared.refusal.Refusal.{Refusal}
use Rattle.par_faults.specs.par_names.Declarations.{actors_in, locks_in, classes_in, actors}
use Rattle.par_faults.specs.par_names.Declarations.{locks}
use Rattle.par_faults.specs.par_names.Declarations.{declared_classes}
use Rattle.par_faults.specs.par_span_laws.Within.{IdentIn, AreIn, FieldIn, ChannelIn}
use Rattle.par_faults.specs.par_span_laws.Within.{MethodIn}
use Rattle.par_faults.specs.par_span_laws.Within.{ClassIn}
use Rattle.par_faults.specs.par_span_laws.Within.{LockDeclIn, DeclarationIn, IsWithin}
use Rattle.par_faults.proofs.par_span_laws.Broken as broken
use Rattle.par_faults.proofs.par_span_laws.Broken.{both, each, mapped}
use Rattle.par_faults.specs.declared.limit.Limit.{Limit}
use Rattle.par_limits.specs.par_resolved.Numbers.{ground_count}
use Rattle.par_faults.specs.Limits.{told, one_too_many, actor_places, class_places, earlier}
use Rattle.par_faults.specs.Limits.{in_order, member_places, locks_limit}
use Rattle.par_faults.specs.Limits.{declared_limits, over, method_limits, class_limits}
use Rattle.par_faults.specs.Limits.{count_faults}
use Rattle.par_faults.proofs.Kept.{May, got, taken, dropped}

module _ (m : ℕ) where
  abbrev Within : List Refusal → Type 0
  Within faults = broken.Within m faults

  abbrev P : Refusal → Type 0
  P f = broken.P m f

  abbrev join : (xs ys : List Refusal) → Within xs → Within ys → Within (xs ++ ys)
  join xs ys p q = broken.join m xs ys p q

  abbrev In : ℕ → Type 0
  In at = at ≤ m

  abbrev Places : List ℕ → Type 0
  Places places = AllByRecursion In places

  told_in : (limit : Limit) (o : Option ℕ) → May In o → Within (told limit o)
  unfolding told
  told_in limit None h = tt
  told_in limit (Some at) h = (h, tt)

  many_in : (limit : Limit) (places : List ℕ) → Places places → Within (one_too_many limit places)
  many_in limit places h = told_in limit _ (got In places limit.most h)

  order_in : (places others : List ℕ) → Places places → Places others
      → Places (in_order places others)
  unfolding in_order
  order_in [] others h k = k
  order_in (at ∷ places) others h k =
      let n = earlier others at in
      both In (take n others) (at ∷ in_order places (drop n others)) (taken In n others k)
      (h.0, order_in places (drop n others) h.1 (dropped In n others k))

  -- ---- actors and locks

  actors_within : (d : Declaration) → DeclarationIn m d → AreIn m (actors_in d)
  actors_within (plain.Actors ids) h = h
  actors_within (plain.Lock l) h = tt
  actors_within (plain.Policy p) h = tt
  actors_within (plain.Declared c) h = tt

  locks_within : (d : Declaration) → DeclarationIn m d → AllByRecursion (LockDeclIn m) (locks_in d)
  locks_within (plain.Actors ids) h = tt
  locks_within (plain.Lock l) h = (h, tt)
  locks_within (plain.Policy p) h = tt
  locks_within (plain.Declared c) h = tt

  classes_within : (d : Declaration) → DeclarationIn m d → AllByRecursion (ClassIn m) (classes_in d)
  classes_within (plain.Actors ids) h = tt
  classes_within (plain.Lock l) h = tt
  classes_within (plain.Policy p) h = tt
  classes_within (plain.Declared c) h = (h, tt)

  locks_limit_in : (n sum : ℕ) (ls : List LockDecl) → AllByRecursion (LockDeclIn m) ls
      → Within (locks_limit n sum ls)
  unfolding locks_limit
  locks_limit_in n sum [] h = tt
  locks_limit_in n sum (l ∷ ls) h =
      join _ _ (broken.there m _ _ h.0.0) (locks_limit_in n (sum + ground_count n l) ls h.1)

  pub actors_are_in : (source : Source) → IsWithin m source → AreIn m (actors source)
  actors_are_in source h = each (DeclarationIn m) (IdentIn m) _ source actors_within h

  pub classes_are_in : (source : Source) → IsWithin m source
      → AllByRecursion (ClassIn m) (declared_classes source)
  classes_are_in source h = each (DeclarationIn m) (ClassIn m) _ source classes_within h

  declared_in : (source : Source) → IsWithin m source → Within (declared_limits source)
  declared_in source h =
      broken.passes_within m _ _ (many_in _ (actor_places source)
      (mapped (IdentIn m) In _ (actors source) (λ a h. h) (actors_are_in source h)))
      (locks_limit_in _ 0 (locks source)
      (each (DeclarationIn m) (LockDeclIn m) _ source locks_within h))

  -- ---- classes

  over_in : (limit : Limit) (count at : ℕ) → at ≤ m → Within (over limit count at)
  over_in limit count at h = broken.there m _ _ h

  method_in : (f : Method) → MethodIn m f → Within (method_limits f)
  method_in f h =
      join _ _ (join _ _ (over_in _ _ f.id.at h.id) (over_in _ _ f.id.at h.id))
      (over_in _ _ f.id.at h.id)

  class_in : (c : Class) → ClassIn m c → Within (class_limits c)
  class_in c h =
      let members =
      order_in _ _ (mapped (FieldIn m) In _ c.fields (λ f h. h.0) h.fields)
      (mapped (ChannelIn m) In _ c.channels (λ x h. h.0) h.channels) in
      let methods = mapped (MethodIn m) In _ c.methods (λ f h. h.id) h.methods in
      let counted =
      join _ _ (join _ _ (many_in _ (member_places c) members) (many_in _ _ methods))
      (over_in _ _ c.id.at h.id) in
      join _ _ counted (each (MethodIn m) P _ c.methods method_in h.methods)

  pub counts_in : (source : Source) → IsWithin m source → Within (count_faults source)
  counts_in source h =
      let classes = classes_are_in source h in
      join _ _ (declared_in source h)
      (join _ _ (many_in _ (class_places source)
      (mapped (ClassIn m) In _ (declared_classes source) (λ c h. h.id) classes))
      (each (ClassIn m) P _ (declared_classes source) class_in classes))
