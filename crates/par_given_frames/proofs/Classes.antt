-- Which classes are kinds.
use Rattle.std.proofs.Common.{◌≡◌, Bool, true, false, not, refl, sym, subst}
use Rattle.std.specs.Prelude.{codes}
use Rattle.std.specs.Option.{is_some}
use Rattle.std.specs.Str.{bytes_eq}
use Rattle.std.proofs.lemmas.Slice.Eq.{bytes_eq-Decides}
use Rattle.par_values.specs.Areas.{Name}
use Rattle.par_frames.specs.par_link.Builtins.{builtin}
use Rattle.par_frames.specs.Names.{kind_of_class}

abbrev IsKind : Name → Type 0
IsKind name =
    is_some (kind_of_class (builtin name) name) ≡ not (bytes_eq name (codes "paragon/Locks"))

known : (name other : Name) → bytes_eq name other ≡ true → IsKind other → IsKind name
known name other e is = subst IsKind (sym ((bytes_eq-Decides name other).0 e)) is

pub kind_unless_locks : (name : Name) → IsKind name
kind_unless_locks name =
    by (bytes_eq name (codes "java/lang/Object")) refl
    (bytes_eq name (codes "java/lang/Exception")) refl
    (bytes_eq name (codes "java/lang/ArithmeticException")) refl
    (bytes_eq name (codes "java/lang/NullPointerException")) refl
    (bytes_eq name (codes "paragon/Locks")) refl
  where
    by : (a : Bool) → bytes_eq name (codes "java/lang/Object") ≡ a
        → (b : Bool) → bytes_eq name (codes "java/lang/Exception") ≡ b
        → (c : Bool) → bytes_eq name (codes "java/lang/ArithmeticException") ≡ c
        → (d : Bool) → bytes_eq name (codes "java/lang/NullPointerException") ≡ d
        → (e : Bool) → bytes_eq name (codes "paragon/Locks") ≡ e → IsKind name
    by true is b _ c _ d _ e _ = known name (codes "java/lang/Object") is refl
    by false _ true is c _ d _ e _ = known name (codes "java/lang/Exception") is refl
    by false _ false _ true is d _ e _ =
        known name (codes "java/lang/ArithmeticException") is refl
    by false _ false _ false _ true is e _ =
        known name (codes "java/lang/NullPointerException") is refl
    by false _ false _ false _ false _ true is = known name (codes "paragon/Locks") is refl
    by false p false q false r false s false t = rw (p, q, r, s, t) refl
