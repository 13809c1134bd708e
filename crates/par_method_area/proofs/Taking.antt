-- A kind by the number of its class takes what the kind takes.
use Rattle.std.proofs.Common.{◌≡◌, ℕ, zero, suc, ◌<◌, Bool, true, false, ◌==◌, List, [], ◌∷◌}
use Rattle.std.proofs.Common.{length, map, Option, Some, None, slice_get, get_or, refl, sym, ap}
use Rattle.std.proofs.Common.{◌∙◌, arith}
use Rattle.std.proofs.lemmas.List.Quantifiers.{position-Some}
use Rattle.std.proofs.lemmas.Option.{get_or_from_slice_get}
use Rattle.std.proofs.lemmas.Slice.Eq.{bytes_eq-Decides}
use Rattle.std.specs.List.{position, AllByRecursion}
use Rattle.std.specs.Str.{bytes_eq}
use Rattle.par_values.specs.declared.value.MVal.TheVariants.{Int, Null, Ref}
use Rattle.par_values.specs.declared.kind.Kind.{Kind}
use Rattle.par_values.specs.declared.kind.Kind.TheVariants.{Number, Object, AnyObject, Anything}
use Rattle.par_values.specs.Areas.{Name, name_or_none}
use Rattle.par_actions.specs.declared.fit.Fit.TheVariants.{OfClass, Nothing}
use Rattle.par_actions.specs.Fits.{accepts, Takes}
use Rattle.par_actions.specs.Callee.{AllTake}
use Rattle.par_method_area.specs.Fits.{fit_at, fit_of}
use Rattle.par_step_laws.proofs.par_link.Apart.{AreApart, same-itself}

-- a kind whose class, where it has one, has a name of some bytes
abbrev pub IsNamed : Kind → Type 0
IsNamed Number = Unit {0}
IsNamed (Object name) = bytes_eq [] name ≡ false
IsNamed AnyObject = Unit {0}
IsNamed Anything = Unit {0}

not-same : (a b : ℕ) → (a ≡ b → ⊥) → (a == b) ≡ false
not-same a b differ = grind arith

module _ (classes : List Name) (apart : AreApart classes) where
  module _ (name : Name) (some : bytes_eq [] name ≡ false) where
    -- the class at the first place of the name has that name
    there : (k : ℕ) → position (bytes_eq name) classes ≡ Some k → (x : Name)
        → slice_get classes k ≡ Some x → bytes_eq name x ≡ true
    there k is x at =
        ap (bytes_eq name) (sym (get_or_from_slice_get classes k x [] at))
        ∙ (position-Some (bytes_eq name) classes k [] is).1

    within : (k : ℕ) → position (bytes_eq name) classes ≡ Some k → slice_get classes k ≡ None → ⊥
    within k is at =
        let holds : bytes_eq name (get_or classes k []) ≡ true =
        (position-Some (bytes_eq name) classes k [] is).1 in
        let less : k < length classes = (position-Some (bytes_eq name) classes k [] is).0 in
        gone classes k less at
      where
        gone : (xs : List Name) (i : ℕ) → i < length xs → slice_get xs i ≡ None → ⊥
        gone [] i less none = omega (arith, less)
        gone (x ∷ xs) zero less none = cc none
        gone (x ∷ xs) (suc i) less none =
            let later : i < length xs = omega (arith, less) in gone xs i later none

    at-none : (c k : ℕ) → position (bytes_eq name) classes ≡ Some k → slice_get classes c ≡ None
        → (c == k) ≡ false
    at-none c k is at = not-same c k (λ same. within k is (ap (slice_get classes) (sym same) ∙ at))

    at-other : (c k : ℕ) (x : Name) → position (bytes_eq name) classes ≡ Some k
        → slice_get classes c ≡ Some x → bytes_eq x name ≡ false → (c == k) ≡ false
    at-other c k x is at differs =
        not-same c k (λ same.
        let here : bytes_eq name x ≡ true = there k is x (ap (slice_get classes) (sym same) ∙ at) in
        let equal : name ≡ x = (bytes_eq-Decides name x).0 here in
        let one : bytes_eq x name ≡ true = ap (bytes_eq x) equal ∙ same-itself x in
        let never : false ≡ true = sym differs ∙ one in
        cc never)

    at-class : (c n : ℕ) (x : Name) (b : Bool) → slice_get classes c ≡ Some x → bytes_eq x name ≡ b
        → (o : Option ℕ) → position (bytes_eq name) classes ≡ o → b ≡ accepts (fit_at o) (Ref c n)
    at-class c n x true at same o is =
        let equal : x ≡ name = (bytes_eq-Decides x name).0 same in
        let first : position (bytes_eq name) classes ≡ Some c = apart c name (at ∙ ap Some equal) in
        let own : true ≡ (c == c) = grind arith in
        own ∙ ap (λ (p : Option ℕ). accepts (fit_at p) (Ref c n)) (sym first ∙ is)
    at-class c n x false at differs None is = refl
    at-class c n x false at differs (Some k) is = sym (at-other c k x is at differs)

    of-held : (c n : ℕ) (held : Option Name) → slice_get classes c ≡ held → (o : Option ℕ)
        → position (bytes_eq name) classes ≡ o
        → bytes_eq (name_or_none held) name ≡ accepts (fit_at o) (Ref c n)
    of-held c n None at None is = some
    of-held c n None at (Some k) is = some ∙ sym (at-none c k is at)
    of-held c n (Some x) at o is = at-class c n x (bytes_eq x name) at refl o is

    of-fit : (o : Option ℕ) → position (bytes_eq name) classes ≡ o
        → Takes classes (Object name) (fit_at o)
    of-fit None is (Int n) = refl
    of-fit (Some k) is (Int n) = refl
    of-fit None is Null = refl
    of-fit (Some k) is Null = refl
    of-fit o is (Ref c n) = of-held c n (slice_get classes c) refl o is

  pub takes : (kind : Kind) → IsNamed kind → Takes classes kind (fit_of classes kind)
  takes Number named = number where
    number : Takes classes Number (fit_of classes Number)
    number (Int n) = refl
    number Null = refl
    number (Ref c n) = refl
  takes (Object name) named = of-fit name named (position (bytes_eq name) classes) refl
  takes AnyObject named = any where
    any : Takes classes AnyObject (fit_of classes AnyObject)
    any (Int n) = refl
    any Null = refl
    any (Ref c n) = refl
  takes Anything named = λ v. refl

  -- of the class at a place
  pub takes-own : (c : ℕ) (name : Name) → slice_get classes c ≡ Some name → bytes_eq [] name ≡ false
      → Takes classes (Object name) (OfClass c)
  takes-own c name at some = of-fit name some (Some c) (apart c name at)

  pub all-take : (kinds : List Kind) → AllByRecursion IsNamed kinds
      → AllTake classes kinds (map (fit_of classes) kinds)
  all-take [] named = tt
  all-take (kind ∷ kinds) named = (takes kind named.0, all-take kinds named.1)

  -- of a name that no class has
  pub takes-none : (name : Name) → bytes_eq [] name ≡ false
      → position (bytes_eq name) classes ≡ None → Takes classes (Object name) Nothing
  takes-none name some never = of-fit name some None never
