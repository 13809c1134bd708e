-- A class whose name is a name is none that every program has.
use Rattle.std.proofs.Common.{◌≡◌, Bool, true, false, cond, Option, Some, None, codes, refl, sym}
use Rattle.std.proofs.Common.{ap}
use Rattle.std.proofs.Common.{◌∙◌}
use Rattle.std.specs.Str.{bytes_eq}
use Rattle.par_base.specs.Names.{is_name}
use Rattle.par_compile_laws.specs.par_single.Descriptors.{Text}
use Rattle.par_loader.specs.par_link.entry.Builtin.{Builtin}
use Rattle.par_loader.specs.par_link.entry.Builtin.TheVariants.{Object, Exception}
use Rattle.par_loader.specs.par_link.entry.Builtin.TheVariants.{ArithmeticException}
use Rattle.par_loader.specs.par_link.entry.Builtin.TheVariants.{NullPointerException}
use Rattle.par_loader.specs.par_link.entry.Builtin.TheVariants.{Locks}
use Rattle.par_loader.specs.par_link.Builtins.{builtin}
use Rattle.par_loader.proofs.par_link.Passing.{same_text}

-- a text that is no name is not this name
unlike : (name text : Text) → is_name name ≡ true → is_name text ≡ false
    → bytes_eq name text ≡ false
unlike name text is other = in_case (bytes_eq name text) refl where
  in_case : (b : Bool) → bytes_eq name text ≡ b → b ≡ false
  in_case false e = refl
  in_case true e = sym is ∙ ap is_name (same_text name text e) ∙ other

abbrev chosen : (a b c d e : Bool) → Option Builtin
chosen a b c d e =
    cond a (Some Object) (cond b (Some Exception) (cond c (Some ArithmeticException)
    (cond d (Some NullPointerException) (cond e (Some Locks) None))))

pub unbuilt : (name : Text) → is_name name ≡ true → builtin name ≡ None
unbuilt name is =
    let a : bytes_eq name (codes "java/lang/Object") ≡ false = unlike name _ is refl in
    let b : bytes_eq name (codes "java/lang/Exception") ≡ false = unlike name _ is refl in
    let c : bytes_eq name (codes "java/lang/ArithmeticException") ≡ false =
    unlike name _ is refl in
    let d : bytes_eq name (codes "java/lang/NullPointerException") ≡ false =
    unlike name _ is refl in
    let e : bytes_eq name (codes "paragon/Locks") ≡ false = unlike name _ is refl in
    λ i. chosen (a i) (b i) (c i) (d i) (e i)
