-- What a search through a table finds.
use Rattle.std.proofs.Common.{◌≡◌, zero, suc, List, [], ◌∷◌, Bool, true, false, ◌&&◌, cond, find}
use Rattle.std.proofs.Common.{filter, Some, refl, ap, sym, ◌∙◌, arith}
use Rattle.std.specs.List.{Contains, list_all}

-- an element stands in a longer list too
behind : {X : Type 0} (y : X) (xs : List X) (x : X) → Contains xs x → Contains (y ∷ xs) x
behind y xs x (k, inside, is) = (suc k, omega arith, is)

head : {X : Type 0} (y : X) (xs : List X) (x : X) → y ≡ x → Contains (y ∷ xs) x
head y xs x is = (0, omega arith, is)

some_is : {X : Type 0} (x y : X) → Some x ≡ Some y → x ≡ y
some_is x y e = cc

found_next : {X : Type 0} (test : X → Bool) (y : X) (ys : List X) (x : X) (passes : Bool)
    → test y ≡ passes → (find test ys ≡ Some x → (test x ≡ true) × Contains ys x)
    → cond passes (Some y) (find test ys) ≡ Some x → (test x ≡ true) × Contains (y ∷ ys) x
found_next test y ys x true passes later e =
    let is = some_is y x e in (ap test (sym is) ∙ passes, head y ys x is)
found_next test y ys x false passes later e =
    let found = later e in (found.0, behind y ys x found.1)

-- what is found passes the test and is in the table
pub found : {X : Type 0} (test : X → Bool) (xs : List X) (x : X) → find test xs ≡ Some x
    → (test x ≡ true) × Contains xs x
found test [] x e = cc
found test (y ∷ ys) x e = found_next test y ys x (test y) refl (found test ys x) e

filtered_next : {X : Type 0} (y : X) (zs ys : List X) (x : X) (passes : Bool)
    → (Contains zs x → Contains ys x) → Contains (cond passes (y ∷ zs) zs) x → Contains (y ∷ ys) x
filtered_next y zs ys x true later (zero, inside, is) = head y ys x is
filtered_next y zs ys x true later (suc k, inside, is) = behind y ys x (later (k, omega arith, is))
filtered_next y zs ys x false later there = behind y ys x (later there)

-- what is in a part of a table is in the table
pub filtered : {X : Type 0} (test : X → Bool) (xs : List X) (x : X) → Contains (filter test xs) x
    → Contains xs x
filtered test [] x (k, inside, is) = absurd (omega (arith, inside))
filtered test (y ∷ ys) x there =
    filtered_next y (filter test ys) ys x (test y) (filtered test ys x) there

pub first_passes : (a b : Bool) → (a && b) ≡ true → a ≡ true
first_passes true b e = refl
first_passes false b e = e

second_passes : (a b : Bool) → (a && b) ≡ true → b ≡ true
second_passes true b e = e
second_passes false b e = cc

-- what each row of a table passes, a row of it passes
pub passed : {X : Type 0} (test : X → Bool) (xs : List X) (x : X) → list_all test xs ≡ true
    → Contains xs x → test x ≡ true
passed test [] x all (k, inside, is) = absurd (omega (arith, inside))
passed test (y ∷ ys) x all (zero, inside, is) =
    ap test (sym is) ∙ first_passes (test y) (list_all test ys) all
passed test (y ∷ ys) x all (suc k, inside, is) =
    passed test ys x (second_passes (test y) (list_all test ys) all) (k, omega arith, is)
