-- The methods of a class's file are those of the plain program.
use Rattle.std.proofs.Common.{◌≡◌, ◌≢◌, ℕ, zero, suc, ◌+◌, Bool, true, false, List, [], ◌∷◌, ◌++◌}
use Rattle.std.proofs.Common.{map}
use Rattle.std.proofs.Common.{Option, Some, refl, ap, ◌∙◌, append_assoc, arith}
use Rattle.std.specs.Prelude.{◌&&◌, ◌==◌, if◌then◌else◌, slice_get}
use Rattle.std.specs.Option.{option_map}
use Rattle.std.proofs.Common.{eq-eqb}
use Rattle.std.proofs.lemmas.Bool.{and_from, ne_eqb}
use Rattle.std.proofs.lemmas.List.{map-append}
use Rattle.std.proofs.lemmas.Option.{none-some, slice_get-map}
use Rattle.par_typed.specs.Plain.{TSta, Body}
use Rattle.par_run_laws.specs.Names.{body_of}
use Rattle.par_erase.specs.declared.program.PlainMethod.{PlainMethod}
use Rattle.par_erase.specs.declared.program.PlainClass.{PlainClass}
use Rattle.par_erase.specs.declared.program.Plain.{Plain}
use Rattle.par_erase.specs.Shown.{Name, does, method_info, channel_info, class_info, table_of}
use Rattle.par_erase.specs.Shown.{bodies_of, inputs_of, numbered, own_bodies, class_bodies}
use Rattle.par_compile_laws.specs.Members.{Member, initializer, channel, method, methods_from}
use Rattle.par_compile_laws.specs.Members.{members}
use Rattle.par_compile.proofs.Lists.{some_is}
use Rattle.par_compile.specs.Own.{method_in, channel_in, own_members}

-- ---- a body by its numbers

found : (b : Body) (bs : List Body) (c m : ℕ) → b.class ≡ c → b.method ≡ m
    → body_of (b ∷ bs) c m ≡ Some b.body
found b bs c m e f =
    ap (λ (t : Bool). if t then Some b.body else body_of bs c m)
    (and_from (b.class == c) (b.method == m) (eq-eqb b.class c e) (eq-eqb b.method m f))

and-no : (x y : Bool) → y ≡ false → (x && y) ≡ false
and-no true y e = e
and-no false y e = refl

no-and : (x y : Bool) → x ≡ false → (x && y) ≡ false
no-and true y e = ap (λ (t : Bool). t && y) e
no-and false y e = refl

passed : (b : Body) (bs : List Body) (c m : ℕ) → (b.class == c && b.method == m) ≡ false
    → body_of (b ∷ bs) c m ≡ body_of bs c m
passed b bs c m e = ap (λ (t : Bool). if t then Some b.body else body_of bs c m) e

-- among the bodies of a class
among : (c i j : ℕ) (ss : List TSta) (s : TSta) (rest : List Body) → slice_get ss j ≡ Some s
    → body_of (numbered c i ss ++ rest) c (i + j) ≡ Some s
among c i zero [] s rest h = absurd (none-some s h)
among c i (suc j) [] s rest h = absurd (none-some s h)
among c i zero (x ∷ ss) s rest h =
    found (record { class = c; method = i; body = x }) (numbered c (i + 1) ss ++ rest) c (i + 0)
    refl (omega arith) ∙ h
among c i (suc j) (x ∷ ss) s rest h =
    let b : Body = record { class = c; method = i; body = x } in
    let bs = numbered c (i + 1) ss ++ rest in
    let later : i + suc j ≡ (i + 1) + j = omega arith in
    passed b bs c (i + suc j)
    (and-no (c == c) (i == i + suc j) (ne_eqb i (i + suc j) (omega arith)))
    ∙ (ap (λ (n : ℕ). body_of bs c n) later ∙ among c (i + 1) j ss s rest h)

-- behind those of another class
behind : (other c i m : ℕ) (ss : List TSta) (rest : List Body) → other ≢ c
    → body_of (numbered other i ss ++ rest) c m ≡ body_of rest c m
behind other c i m [] rest ne = refl
behind other c i m (x ∷ ss) rest ne =
    passed (record { class = other; method = i; body = x }) (numbered other (i + 1) ss ++ rest) c m
    (no-and (other == c) (i == m) (ne_eqb other c ne))
    ∙ behind other c (i + 1) m ss rest ne

some-of : {A B : Type 0} (f : A → B) (o : Option A) (x : A) → o ≡ Some x
    → option_map f o ≡ Some (f x)
some-of f o x e = ap (option_map f) e

of-classes : (inputs : ℕ → ℕ) (ks : List PlainClass) (from j i : ℕ) (k : PlainClass)
    (m : PlainMethod) → slice_get ks j ≡ Some k → slice_get k.methods i ≡ Some m
    → body_of (class_bodies inputs from ks) (from + j) i ≡ Some (does inputs m.body)
of-classes inputs [] from zero i k m h g = absurd (none-some k h)
of-classes inputs [] from (suc j) i k m h g = absurd (none-some k h)
of-classes inputs (x ∷ ks) from zero i k m h g =
    let same : x ≡ k = some_is x k h in
    let bodies = class_bodies inputs from (x ∷ ks) in
    let there : slice_get (own_bodies inputs x) i ≡ Some (does inputs m.body) =
    slice_get-map (λ (n : PlainMethod). does inputs n.body) x.methods i
    ∙ some-of (λ (n : PlainMethod). does inputs n.body) (slice_get x.methods i) m
    (ap (λ (y : PlainClass). slice_get y.methods i) same ∙ g) in
    let here : from + 0 ≡ from = omega arith in
    let place : i ≡ 0 + i = omega arith in
    ap (λ (n : ℕ). body_of bodies n i) here
    ∙ (ap (λ (n : ℕ). body_of bodies from n) place
    ∙ among from 0 i (own_bodies inputs x) (does inputs m.body)
    (class_bodies inputs (from + 1) ks) there)
of-classes inputs (x ∷ ks) from (suc j) i k m h g =
    let later : from + suc j ≡ (from + 1) + j = omega arith in
    behind from (from + suc j) 0 i (own_bodies inputs x) (class_bodies inputs (from + 1) ks)
    (omega arith)
    ∙ (ap (λ (n : ℕ). body_of (class_bodies inputs (from + 1) ks) n i) later
    ∙ of-classes inputs ks (from + 1) j i k m h g)

-- the body of a method of a plain program
pub body_found : (p : Plain) (c i : ℕ) (k : PlainClass) (m : PlainMethod)
    → slice_get p.classes c ≡ Some k → slice_get k.methods i ≡ Some m
    → body_of (bodies_of p) c i ≡ Some (does (inputs_of p) m.body)
body_found p c i k m h g =
    let here : c ≡ 0 + c = omega arith in
    ap (λ (n : ℕ). body_of (bodies_of p) n i) here
    ∙ of-classes (inputs_of p) p.classes 0 c i k m h g

-- ---- the methods

methods-are : (p : Plain) (c i : ℕ) (ms : List PlainMethod)
    → ((j : ℕ) (m : PlainMethod) → slice_get ms j ≡ Some m
    → body_of (bodies_of p) c (i + j) ≡ Some (does (inputs_of p) m.body))
    → methods_from (table_of p) (bodies_of p) c i (map method_info ms) ≡ map (method_in p) ms
methods-are p c i [] at = refl
methods-are p c i (m ∷ ms) at =
    let here : i ≡ i + 0 = omega arith in
    let first : method (table_of p) (bodies_of p) (method_info m) (body_of (bodies_of p) c i)
    ≡ method_in p m =
    ap (method (table_of p) (bodies_of p) (method_info m))
    (ap (λ (n : ℕ). body_of (bodies_of p) c n) here ∙ at 0 m refl) in
    let rest = methods-are p c (suc i) ms (λ j n h.
    let later : suc i + j ≡ i + suc j = omega arith in
    ap (λ (x : ℕ). body_of (bodies_of p) c x) later ∙ at (suc j) n h) in
    ap (λ (x : Member).
    x ∷ methods_from (table_of p) (bodies_of p) c (suc i) (map method_info ms)) first
    ∙ ap (λ (xs : List Member). method_in p m ∷ xs) rest

twice : (is_input : Bool) (names : List Name)
    → map channel (map (channel_info is_input) names) ≡ map (channel_in is_input) names
twice is_input [] = refl
twice is_input (n ∷ ns) = ap (λ (xs : List Member). channel_in is_input n ∷ xs) (twice is_input ns)

channels-are : (k : PlainClass)
    → map channel (class_info k).channels
    ≡ map (channel_in true) k.inputs ++ map (channel_in false) k.outputs
channels-are k =
    map-append channel (map (channel_info true) k.inputs) (map (channel_info false) k.outputs)
    ∙ ap (λ (xs : List Member). xs ++ map channel (map (channel_info false) k.outputs))
    (twice true k.inputs)
    ∙ ap (λ (xs : List Member). map (channel_in true) k.inputs ++ xs) (twice false k.outputs)

-- the members of a class in its file
pub members_are : (p : Plain) (c : ℕ) (k : PlainClass) → slice_get p.classes c ≡ Some k
    → members (table_of p) (bodies_of p) c (class_info k) ≡ own_members p k
members_are p c k h =
    let first = initializer (class_info k) in
    let methods = methods-are p c 0 k.methods (λ j m g.
    let place : 0 + j ≡ j = omega arith in
    ap (λ (n : ℕ). body_of (bodies_of p) c n) place ∙ body_found p c j k m h g) in
    let inputs = map (channel_in true) k.inputs in
    let outputs = map (channel_in false) k.outputs in
    ap (λ (xs : List Member). first ∷ (map channel (class_info k).channels ++ xs)) methods
    ∙ ap (λ (xs : List Member). first ∷ (xs ++ map (method_in p) k.methods)) (channels-are k)
    ∙ ap (λ (xs : List Member). first ∷ xs)
    (append_assoc inputs outputs (map (method_in p) k.methods))
