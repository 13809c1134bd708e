-- Class files of a folder, as they are known while they are read.
use Rattle.std.proofs.Common.{◌≡◌, Bool, true, false, cond, ◌||◌, List, [], ◌∷◌, ◌++◌, Option, Some}
use Rattle.std.proofs.Common.{None, refl, sym, ap, subst, ◌∙◌}
use Rattle.std.proofs.lemmas.Slice.Eq.{bytes_eq-Decides}
use Rattle.std.proofs.lemmas.List.Folds.{list_any-append}
use Rattle.std.specs.List.{list_any}
use Rattle.std.specs.Str.{bytes_eq}
use Rattle.par_io.specs.Causes.{Files}
use Rattle.par_loader.specs.Reads.{Text, Classes, class_file, AreOf, WasFound}

-- those that the folder tells
abbrev pub seen : Option Files → Classes
seen None name = None
seen (Some m) name = m (class_file name)

pub seen_of : (files : Option Files) → AreOf files (seen files)
seen_of None = tt
seen_of (Some m) = λ name. refl

-- with what was found for one name
abbrev pub put : Classes → Text → Option Text → Classes
put classes name found other = cond (bytes_eq other name) found (classes other)

same_name : (a b : Text) → bytes_eq a b ≡ true → a ≡ b
same_name a b e = (bytes_eq-Decides a b).0 e

pub self_name : (a : Text) → bytes_eq a a ≡ true
self_name a = (bytes_eq-Decides a a).1 refl

pub put_of : (files : Option Files) (classes : Classes) (name : Text) (found : Option Text)
    → AreOf files classes → WasFound files name found → AreOf files (put classes name found)
put_of None classes name found of was = tt
put_of (Some m) classes name found of was = λ other. in_case other (bytes_eq other name) refl
  where
    in_case : (other : Text) (b : Bool) → bytes_eq other name ≡ b
        → cond b found (classes other) ≡ m (class_file other)
    in_case other true e =
        sym was ∙ ap (λ (n : Text). m (class_file n)) (sym (same_name other name e))
    in_case other false e = of other

pub put_here : (classes : Classes) (name : Text) (found : Option Text)
    → put classes name found name ≡ found
put_here classes name found = ap (λ b. cond b found (classes name)) (self_name name)

-- whether two agree on the classes of these names
abbrev pub Agrees : Classes → Classes → List Text → Type 0
Agrees classes other names =
    (name : Text) → list_any (bytes_eq name) names ≡ true → classes name ≡ other name

pub put_agrees : (classes : Classes) (name : Text) (found : Option Text) (names : List Text)
    → list_any (bytes_eq name) names ≡ false → Agrees (put classes name found) classes names
put_agrees classes name found names new other among = in_case (bytes_eq other name) refl
  where
    in_case : (b : Bool) → bytes_eq other name ≡ b → cond b found (classes other) ≡ classes other
    in_case false e = refl
    in_case true e =
        let same : other ≡ name = same_name other name e in
        let there : list_any (bytes_eq name) names ≡ true =
        subst (λ (n : Text). list_any (bytes_eq n) names ≡ true) same among in
        absurd (cc (there, new))

-- a name in front, and one behind
pub front_among : (name : Text) (names : List Text) (more : Text)
    → list_any (bytes_eq name) names ≡ true → list_any (bytes_eq name) (names ++ more ∷ []) ≡ true
front_among name names more h =
    list_any-append (bytes_eq name) names (more ∷ [])
    ∙ ap (λ b. b || list_any (bytes_eq name) (more ∷ [])) h

pub back_among : (name : Text) (names : List Text)
    → list_any (bytes_eq name) (names ++ name ∷ []) ≡ true
back_among name names =
    list_any-append (bytes_eq name) names (name ∷ []) ∙ in_case (list_any (bytes_eq name) names)
  where
    last : (b : Bool) → b ≡ true → (b || false) ≡ true
    last true e = refl
    last false e = absurd (cc e)

    in_case : (b : Bool) → (b || list_any (bytes_eq name) (name ∷ [])) ≡ true
    in_case true = refl
    in_case false = last (bytes_eq name name) (self_name name)
