-- What is known of the table of a program, for an observer.
use Rattle.std.proofs.Common.{◌≡◌, ◌<◌, ℕ, zero, suc, Bool, true, false, List, [], ◌∷◌, Option}
use Rattle.std.proofs.Common.{Some}
use Rattle.std.proofs.Common.{None, ◌++◌, refl, ap, sym, ◌∙◌, subst, length, arith}
use Rattle.std.proofs.Common.{if◌then◌else◌}
use Rattle.std.specs.Prelude.{map, slice_get, nat_lt}
use Rattle.std.specs.List.{AllByRecursion, IsDistinct}
use Rattle.std.specs.Str.{bytes_eq}
use Rattle.std.proofs.lemmas.Bool.{lt-ltb}
use Rattle.std.proofs.lemmas.Slice.Eq.{bytes_eq-Decides}
use Rattle.par_policy.specs.declared.clauses.Clause.{Clause}
use Rattle.par_typed.specs.declared.table.FieldInfo.{FieldInfo}
use Rattle.par_typed.specs.declared.table.ChannelInfo.{ChannelInfo}
use Rattle.par_typed.specs.declared.table.ThrowInfo.{ThrowInfo}
use Rattle.par_typed.specs.declared.table.MethodInfo.{MethodInfo}
use Rattle.par_typed.specs.declared.table.ClassInfo.{ClassInfo}
use Rattle.par_typed.specs.declared.table.Table.{Table}
use Rattle.par_program_laws.specs.Lattice.{seen_by}
use Rattle.par_program_laws.specs.Declares.{Thrown, method_of, throws_of}
use Rattle.par_typed_laws.specs.Tables.{ClassInRange, MethodInRange, ThrowInRange}
use Rattle.par_typed_laws.specs.Signatures.{HasBuiltIns}
use Rattle.par_secrecy.specs.Shown.{Observer, sees}
use Rattle.par_run_laws.specs.Names.{Name, Member, channel_named, channel_of, channel_member}
use Rattle.par_run_laws.specs.Names.{field_named, field_of, field_member, made_named, made_name}
use Rattle.par_run_laws.specs.Names.{class_named, class_name}
use Rattle.par_alike.specs.Subject.{policy_at, policy_or_none, channel_policy}
use Rattle.par_alike.specs.Subject.{field_policy, of_class}
use Rattle.par_typed.specs.Members.{method_at, methods_in, field_at, fields_in}
use Rattle.par_program_laws.specs.BodyNames.{IsField}
use Rattle.par_alike.proofs.Leaves.{Throws, first_of, later_of}

-- ---- lists

-- what holds of all holds of each
pub all_at : {A : Type 0} (P : A → Type 0) (xs : List A) (i : ℕ) (x : A) → AllByRecursion P xs
    → slice_get xs i ≡ Some x → P x
all_at P [] i x h e = absurd cc
all_at P (y ∷ ys) zero x h e = let is : y ≡ x = cc in subst P is h.0
all_at P (y ∷ ys) (suc i) x h e =
    let there : slice_get ys i ≡ Some x = e in all_at P ys i x h.1 there

-- the first of a name
module _ {A B : Type 0} (name : A → Name) (said : A → B) (none : B) where
  abbrev pub look : Name → List A → B
  look n [] = none
  look n (x ∷ xs) = if bytes_eq (name x) n then said x else look n xs

  -- an element has no name that is apart from all
  pub apart : (n : Name) (xs : List A) (i : ℕ) (x : A)
      → AllByRecursion (λ k. bytes_eq n k ≡ false) (map name xs) → slice_get xs i ≡ Some x
      → bytes_eq n (name x) ≡ false
  apart n [] i x h e = absurd cc
  apart n (y ∷ ys) zero x h e =
      let is : y ≡ x = cc in subst (λ z. bytes_eq n (name z) ≡ false) is h.0
  apart n (y ∷ ys) (suc i) x h e =
      let there : slice_get ys i ≡ Some x = e in apart n ys i x h.1 there

  -- the first of the name of an element is that element
  pub found : (xs : List A) (i : ℕ) (x : A) → IsDistinct bytes_eq (map name xs)
      → slice_get xs i ≡ Some x → look (name x) xs ≡ said x
  unfolding IsDistinct
  found [] i x h e = absurd cc
  found (y ∷ ys) zero x h e =
      let is : y ≡ x = cc in
      let same : bytes_eq (name y) (name x) ≡ true = (bytes_eq-Decides (name y) (name x)).1
      (ap name is) in
      ap (λ b. if b then said y else look (name x) ys) same ∙ ap said is
  found (y ∷ ys) (suc i) x h e =
      let there : slice_get ys i ≡ Some x = e in
      ap (λ b. if b then said y else look (name x) ys) (apart (name y) ys i x h.0 there)
      ∙ found ys i x h.1 there

-- the policy of a channel by its name
pub channels_look : (table : Table) (n : Name) (ks : List ChannelInfo)
    → channel_policy table n ks ≡ look (λ k. k.name) (λ k. policy_at table k.policy) [] n ks
channels_look table n [] = refl
channels_look table n (k ∷ ks) =
    ap (λ p. if bytes_eq k.name n then policy_at table k.policy else p) (channels_look table n ks)

-- and that of a field
pub fields_look : (table : Table) (n : Name) (fs : List FieldInfo)
    → field_policy table n fs ≡ look (λ f. f.name) (λ f. policy_at table f.policy) [] n fs
fields_look table n [] = refl
fields_look table n (f ∷ fs) =
    ap (λ p. if bytes_eq f.name n then policy_at table f.policy else p) (fields_look table n fs)

-- and what is said of a class
pub classes_look : (n : Name) (said : ClassInfo → List Clause) (cs : List ClassInfo)
    → of_class n said cs ≡ look (λ c. c.name) said [] n cs
classes_look n said [] = refl
classes_look n said (c ∷ cs) =
    ap (λ p. if bytes_eq c.name n then said c else p) (classes_look n said cs)

-- those in front of others
apart_front : (n : Name) (xs ys : List Name)
    → AllByRecursion (λ k. bytes_eq n k ≡ false) (xs ++ ys)
    → AllByRecursion (λ k. bytes_eq n k ≡ false) xs
apart_front n [] ys h = tt
apart_front n (x ∷ xs) ys h = (h.0, apart_front n xs ys h.1)

-- names in front of others are apart
pub distinct_front : (xs ys : List Name) → IsDistinct bytes_eq (xs ++ ys) → IsDistinct bytes_eq xs
unfolding IsDistinct
distinct_front [] ys h = tt
distinct_front (x ∷ xs) ys h = (apart_front x xs ys h.0, distinct_front xs ys h.1)

-- ---- what numbers name

-- a channel of a class, by its numbers
pub record Channel (table : Table) (c k : ℕ) (m : Member) : Type 0 where
  pub class : ClassInfo
  pub there : slice_get table.classes c ≡ Some class
  pub info : ChannelInfo
  pub here : slice_get class.channels k ≡ Some info
  pub member : record { class = class.name; name = info.name } ≡ m

-- a channel that has a name is one of a class
pub channel_is : (table : Table) (c k : ℕ) (m : Member) → channel_named table c k ≡ Some m
    → Channel table c k m
channel_is table c k m = in_class (slice_get table.classes c) refl
  where
    in_channels : (class : ClassInfo) → slice_get table.classes c ≡ Some class
        → (o : Option ChannelInfo) → slice_get class.channels k ≡ o
        → channel_member class.name o ≡ Some m → Channel table c k m
    in_channels class there None here e = absurd cc
    in_channels class there (Some info) here e = record {
      class = class;
      there = there;
      info = info;
      here = here;
      member = cc;
    }

    in_class : (o : Option ClassInfo) → slice_get table.classes c ≡ o → channel_of o k ≡ Some m
        → Channel table c k m
    in_class None there e = absurd cc
    in_class (Some class) there e = in_channels class there (slice_get class.channels k) refl e

-- a field of a class
pub record Field (table : Table) (c f : ℕ) (m : Member) : Type 0 where
  pub class : ClassInfo
  pub there : slice_get table.classes c ≡ Some class
  pub info : FieldInfo
  pub here : slice_get class.fields f ≡ Some info
  pub member : record { class = class.name; name = info.name } ≡ m

-- so is a field
pub field_is : (table : Table) (c f : ℕ) (m : Member) → field_named table c f ≡ Some m
    → Field table c f m
field_is table c f m = in_class (slice_get table.classes c) refl
  where
    in_fields : (class : ClassInfo) → slice_get table.classes c ≡ Some class
        → (o : Option FieldInfo) → slice_get class.fields f ≡ o
        → field_member class.name o ≡ Some m → Field table c f m
    in_fields class there None here e = absurd cc
    in_fields class there (Some info) here e = record {
      class = class;
      there = there;
      info = info;
      here = here;
      member = cc;
    }

    in_class : (o : Option ClassInfo) → slice_get table.classes c ≡ o → field_of o f ≡ Some m
        → Field table c f m
    in_class None there e = absurd cc
    in_class (Some class) there e = in_fields class there (slice_get class.fields f) refl e

-- a class by its number
pub record Made (table : Table) (c : ℕ) (name : Name) : Type 0 where
  pub class : ClassInfo
  pub there : slice_get table.classes c ≡ Some class
  -- the name of a class of which objects are made
  pub named : class.name ≡ name

-- a class of which objects are made
pub made_is : (table : Table) (c : ℕ) (name : Name) → made_named table c ≡ Some name
    → Made table c name
made_is table c name = in_class (slice_get table.classes c) refl
  where
    ordinary : (class : ClassInfo) → slice_get table.classes c ≡ Some class → (b : Bool)
        → (if b then None else Some class.name) ≡ Some name → Made table c name
    ordinary class there true e = absurd cc
    ordinary class there false e = record { class = class; there = there; named = cc }

    in_class : (o : Option ClassInfo) → slice_get table.classes c ≡ o → made_name o ≡ Some name
        → Made table c name
    in_class None there e = absurd cc
    in_class (Some class) there e = ordinary class there class.exception e

-- a policy that there is
pub seen_in_range : (ps : List (List Clause)) (n : ℕ) (o : Observer) → n < length ps
    → sees o (policy_or_none (slice_get ps n)) ≡ seen_by (slice_get ps n) o.actor o.locks
seen_in_range [] n o below = absurd (omega (arith, below))
seen_in_range (p ∷ ps) zero o below = refl
seen_in_range (p ∷ ps) (suc n) o below =
    let less : n < length ps = omega (arith, below) in seen_in_range ps n o less

-- ---- the two classes that every program has

enough : {A : Type 0} (x y : A) (xs : List A) (n : ℕ) → n < 2
    → nat_lt n (length (x ∷ y ∷ xs)) ≡ true
enough x y xs n below = let more : n < length (x ∷ y ∷ xs) = omega (arith, below) in lt-ltb _ _ more

pub built_in : (table : Table) → HasBuiltIns table → (n : ℕ) → n < 2
    → nat_lt n (length table.classes) ≡ true
built_in table h n below = of_list table.classes h
  where
    of_list : (cs : List ClassInfo) → HasBuiltIns (record table { classes = cs })
        → nat_lt n (length cs) ≡ true
    of_list [] e = absurd cc
    of_list (x ∷ []) e = absurd cc
    of_list (x ∷ y ∷ xs) e = enough x y xs n below

-- ---- exceptions

among_thrown : (n : ℕ) (ts : List Thrown) (x p : ℕ) → Throws ts x p
    → AllByRecursion (λ t. t.class < n) ts → x < n
among_thrown n _ _ _ (first_of t ts) h = h.0
among_thrown n _ _ _ (later_of t ts x p i) h = among_thrown n ts x p i h.1

-- classes that are declared to be thrown
throws_below : (table : Table) (ts : List ThrowInfo) → AllByRecursion (ThrowInRange table) ts
    → AllByRecursion (λ t. t.class < length table.classes) (throws_of ts)
throws_below table [] h = tt
throws_below table (t ∷ ts) h = (h.0.0, throws_below table ts h.1)

-- those of a method
pub method_below : (table : Table) (o : Option MethodInfo) (x p : ℕ)
    → ((m : MethodInfo) → o ≡ Some m → MethodInRange table m) → Throws (method_of o).throws x p
    → x < length table.classes
method_below table None x p h t = among_thrown (length table.classes) [] x p t tt
method_below table (Some m) x p h t =
    among_thrown (length table.classes) (throws_of m.throws) x p t
    (throws_below table m.throws (h m refl).throws)

-- a method of the table has its numbers in range
pub method_in_range : (table : Table) → AllByRecursion (ClassInRange table) table.classes
    → (c k : ℕ) (m : MethodInfo) → method_at table c k ≡ Some m → MethodInRange table m
method_in_range table h c k m = in_class (slice_get table.classes c) refl
  where
    in_class : (o : Option ClassInfo) → slice_get table.classes c ≡ o
        → slice_get (methods_in o) k ≡ Some m → MethodInRange table m
    in_class None there e = absurd cc
    in_class (Some class) there e =
        all_at (MethodInRange table) class.methods k m
        (all_at (ClassInRange table) table.classes c class h there).methods e

-- ---- births

-- a field of objects, by its numbers
pub record OwnField (table : Table) (c f : ℕ) : Type 0 where
  pub class : ClassInfo
  pub there : slice_get table.classes c ≡ Some class
  pub info : FieldInfo
  pub here : slice_get class.fields f ≡ Some info
  pub own : info.is_static ≡ false

-- a number that names one
pub own_field : (table : Table) (c f : ℕ) → IsField false (field_at table c f) → OwnField table c f
own_field table c f = in_class (slice_get table.classes c) refl
  where
    in_fields : (class : ClassInfo) → slice_get table.classes c ≡ Some class
        → (o : Option FieldInfo) → slice_get class.fields f ≡ o → IsField false o
        → OwnField table c f
    in_fields class there None here h = absurd h
    in_fields class there (Some info) here h = record {
      class = class;
      there = there;
      info = info;
      here = here;
      own = h;
    }

    in_class : (o : Option ClassInfo) → slice_get table.classes c ≡ o
        → IsField false (slice_get (fields_in o) f) → OwnField table c f
    in_class None there h = absurd h
    in_class (Some class) there h = in_fields class there (slice_get class.fields f) refl h

-- ---- values

-- a name is that of one class
pub one_place : (cs : List ClassInfo) → IsDistinct bytes_eq (map (λ c. c.name) cs)
    → (i j : ℕ) (x y : ClassInfo) → slice_get cs i ≡ Some x → slice_get cs j ≡ Some y
    → x.name ≡ y.name → i ≡ j
unfolding IsDistinct
one_place [] h i j x y e f same = absurd cc
one_place (c ∷ cs) h zero zero x y e f same = refl
one_place (c ∷ cs) h zero (suc j) x y e f same =
    let is : c ≡ x = cc in
    let there : slice_get cs j ≡ Some y = f in
    let other : bytes_eq c.name y.name ≡ false = apart (λ c. c.name) (λ c. c.name) [] c.name cs j
    y h.0 there in
    let equal : bytes_eq c.name y.name ≡ true = (bytes_eq-Decides c.name y.name).1
    (ap (λ z. z.name) is ∙ same) in
    let bad : true ≡ false = sym equal ∙ other in
    absurd cc
one_place (c ∷ cs) h (suc i) zero x y e f same =
    let is : c ≡ y = cc in
    let there : slice_get cs i ≡ Some x = e in
    let other : bytes_eq c.name x.name ≡ false = apart (λ c. c.name) (λ c. c.name) [] c.name cs i
    x h.0 there in
    let equal : bytes_eq c.name x.name ≡ true = (bytes_eq-Decides c.name x.name).1
    (ap (λ z. z.name) is ∙ sym same) in
    let bad : true ≡ false = sym equal ∙ other in
    absurd cc
one_place (c ∷ cs) h (suc i) (suc j) x y e f same =
    let left : slice_get cs i ≡ Some x = e in
    let right : slice_get cs j ≡ Some y = f in
    ap suc (one_place cs h.1 i j x y left right same)

pub named : (table : Table) (c : ℕ) (name : Name) (m : Made table c name)
    → class_named table c ≡ Some name
named table c name m = ap (λ o. class_name o) m.there ∙ ap Some m.named
