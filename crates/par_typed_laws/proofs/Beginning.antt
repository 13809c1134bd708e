-- The table of a source tells where its program begins.
use Rattle.std.proofs.Common.{◌≡◌, ℕ, suc, ◌+◌, Bool, true, false, ◌&&◌, ◌||◌, cond}
use Rattle.std.proofs.Common.{List, [], ◌∷◌, ◌++◌, length, Option, Some, None, refl, sym, ap, ◌∙◌}
use Rattle.std.proofs.Common.{add-zero, zero-add, arith, map}
use Rattle.std.specs.Prelude.{flat_map, filter, slice_get, count_by, nat_eq, unwrap_or, codes}
use Rattle.std.specs.List.{AllByRecursion, list_any, position}
use Rattle.std.specs.Option.{is_none}
use Rattle.std.specs.Str.{bytes_eq}
use Rattle.std.proofs.lemmas.List.Elements.{filter-append}
use Rattle.std.proofs.lemmas.Bool.Decides.{nat_tests}
use Rattle.par_program_laws.specs.par_tree.declared.types.TypeTree.{TypeTree}
use Rattle.par_program_laws.specs.par_tree.Plain.{Class, Method, Source}
use Rattle.par_program_laws.specs.par_typed.declared.ty.Ty.TheVariants as ty
use Rattle.par_program_laws.specs.par_typed.declared.table.MethodInfo.{MethodInfo}
use Rattle.par_refusals.specs.First.{when, broken}
use Rattle.par_source_laws.specs.par_names.Declarations.{classes}
use Rattle.par_source_laws.specs.par_names.Program.{program_doubles, declarations_faults, mains}
use Rattle.par_source_laws.specs.par_names.Program.{main_fault}
use Rattle.par_source_laws.specs.par_names.Program.{mains_faults, name_faults}
use Rattle.par_faults.specs.par_resolved.Numbers.{result_of}
use Rattle.par_faults.specs.par_resolved.Resolved.{Resolved, resolved, param_info, lock_set}
use Rattle.par_faults.specs.par_resolved.Resolved.{method_info}
use Rattle.par_faults.specs.par_resolved.Resolved.{class_infos, has_main, table_of}
use Rattle.par_source_laws.specs.Order.{IsInOrder}
use Rattle.par_program_laws.specs.par_typed.Members.{methods_in}
use Rattle.par_typed_laws.specs.Beginning as table
use Rattle.par_typed_laws.specs.Beginning.{HasMain}
use Rattle.par_typed_laws.proofs.Lists.{none_left, none_right}
use Rattle.par_typed_laws.proofs.Places.{first_place}
use Rattle.par_typed_laws.proofs.Programs.{class_stands}
use Rattle.par_typed_laws.proofs.Unbroken.{is_kept}

-- ---- those of a list that pass a test

module _ {A B : Type 0} (p : B → Bool) (f : A → B) where
  kept_or_not : (b : Bool) (x : A) (ys : List A)
      → cond b (f x ∷ map f ys) (map f ys) ≡ map f (cond b (x ∷ ys) ys)
  kept_or_not true x ys = refl
  kept_or_not false x ys = refl

  filter-map : (xs : List A) → filter p (map f xs) ≡ map f (filter (λ x. p (f x)) xs)
  filter-map [] = refl
  filter-map (x ∷ xs) =
      ap (λ ys. cond (p (f x)) (f x ∷ ys) ys) (filter-map xs)
      ∙ kept_or_not (p (f x)) x (filter (λ y. p (f y)) xs)

module _ {A : Type 0} (p : A → Bool) where
  none_any : (xs : List A) → filter p xs ≡ [] → list_any p xs ≡ false
  none_any [] none = refl
  none_any (x ∷ xs) none = by (none_any xs) (p x) none where
    by : (filter p xs ≡ [] → list_any p xs ≡ false) → (b : Bool)
        → cond b (x ∷ filter p xs) (filter p xs) ≡ [] → (b || list_any p xs) ≡ false
    by rest true h = absurd (cc h)
    by rest false h = rest h

  some_any : (xs ys : List A) (y : A) → filter p xs ≡ y ∷ ys → list_any p xs ≡ true
  some_any [] ys y is = absurd (cc is)
  some_any (x ∷ xs) ys y is = by (some_any xs ys y) (p x) is where
    by : (filter p xs ≡ y ∷ ys → list_any p xs ≡ true) → (b : Bool)
        → cond b (x ∷ filter p xs) (filter p xs) ≡ y ∷ ys → (b || list_any p xs) ≡ true
    by rest true h = refl
    by rest false h = rest h

-- ---- the method `main` of a source

abbrev is_main : Method → Bool
is_main m = bytes_eq m.id.name (codes "main")

abbrev mains_of : Class → List Method
mains_of c = filter is_main c.methods

abbrev HasNone : Class → Type 0
HasNone c = mains_of c ≡ []

abbrev all_mains : List Class → List Method
all_mains cs = filter is_main (flat_map (λ c. c.methods) cs)

-- the classes before and behind the one that has it have none
record Splits (m : Method) (cs before : List Class) (c : Class) (rest : List Class) : Type 0 where
  is : cs ≡ before ++ c ∷ rest
  none_before : AllByRecursion HasNone before
  own : mains_of c ≡ m ∷ []
  none_behind : AllByRecursion HasNone rest

abbrev Split : Method → List Class → Type 0
Split m cs = (before : List Class) × (c : Class) × (rest : List Class) × Splits m cs before c rest

front : (c : Class) (cs : List Class) → all_mains (c ∷ cs) ≡ mains_of c ++ all_mains cs
front c cs = filter-append is_main c.methods (flat_map (λ c. c.methods) cs)

all_none : (cs : List Class) → all_mains cs ≡ [] → AllByRecursion HasNone cs
all_none [] none = tt
all_none (c ∷ cs) none =
    let parts = sym (front c cs) ∙ none in (
      none_left (mains_of c) (all_mains cs) parts,
      all_none cs (none_right (mains_of c) (all_mains cs) parts),
    )

split : (m : Method) (cs : List Class) → all_mains cs ≡ m ∷ [] → Split m cs
split m [] is = absurd (cc is)
split m (c ∷ cs) is = by (split m cs) (mains_of c) refl (sym (front c cs) ∙ is) where
  by : (all_mains cs ≡ m ∷ [] → Split m cs) → (xs : List Method) → mains_of c ≡ xs
      → xs ++ all_mains cs ≡ m ∷ [] → Split m (c ∷ cs)
  by rest [] none whole =
      let later = rest whole in
      let s = later.3 in (
        c ∷ later.0,
        later.1,
        later.2,
        record {
          is = ap (λ ks. c ∷ ks) s.is;
          none_before = (none, s.none_before);
          own = s.own;
          none_behind = s.none_behind;
        },
      )
  by rest (x ∷ xs) here whole =
      let others : xs ++ all_mains cs ≡ [] = cc whole in
      let first : x ≡ m = cc whole in (
        [],
        c,
        cs,
        record {
          is = refl;
          none_before = tt;
          own =
              here ∙ ap (λ ys. x ∷ ys) (none_left xs (all_mains cs) others)
              ∙ ap (λ y. y ∷ []) first;
          none_behind = all_none cs (none_right xs (all_mains cs) others);
        },
      )

-- ---- no rule on it is broken

no_others : (ms : List Method) → flat_map (λ m. when true (broken 105 m.id.at)) ms ≡ [] → ms ≡ []
unfolding when
no_others [] none = refl
no_others (m ∷ ms) none = absurd (cc none)

-- there is one, which breaks nothing
one_main : (ms : List Method) → mains_faults ms ≡ []
    → (m : Method) × (ms ≡ m ∷ []) × (main_fault m ≡ [])
unfolding when
one_main [] none = absurd (cc none)
one_main (m ∷ ms) none =
    let lone = when (nat_eq (length (m ∷ ms)) 0) (broken 105 0) in
    let each = flat_map main_fault (m ∷ ms) in
    let others = flat_map (λ k. when true (broken 105 k.id.at)) ms in
    let later : others ≡ [] = none_right (lone ++ each) others none in
    let own : main_fault m ++ flat_map main_fault ms ≡ [] =
    none_right lone each (none_left (lone ++ each) others none) in (
      m,
      ap (λ ks. m ∷ ks) (no_others ms later),
      none_left (main_fault m) (flat_map main_fault ms) own,
    )

both_left : (a b : Bool) → (a && b) ≡ true → a ≡ true
both_left true b h = refl
both_left false b h = absurd (cc h)

both_right : (a b : Bool) → (a && b) ≡ true → b ≡ true
both_right true b h = h
both_right false b h = absurd (cc h)

empty : {A : Type 0} (xs : List A) → nat_eq (length xs) 0 ≡ true → xs ≡ []
empty [] h = refl
empty (x ∷ xs) h = absurd (grind (arith, nat_tests))

no_result : (o : Option TypeTree) → is_none o ≡ true → o ≡ None
no_result None h = refl
no_result (Some y) h = absurd (cc h)

-- static, without a result, parameters and expected locks
record IsPlain (m : Method) : Type 0 where
  is_static : m.is_static ≡ true
  result : m.result ≡ None
  params : m.params ≡ []
  expects : m.expects ≡ []

is_plain : (m : Method) → main_fault m ≡ [] → IsPlain m
is_plain m none =
    let static = m.is_static in
    let void = is_none m.result in
    let bare = nat_eq (length m.params) 0 in
    let free = nat_eq (length m.expects) 0 in
    let all : (static && void && bare && free) ≡ true = is_kept _ _ none in
    let three = both_left (static && void && bare) free all in
    let two = both_left (static && void) bare three in
    record {
      is_static = both_left static void two;
      result = no_result m.result (both_right static void two);
      params = empty m.params (both_right (static && void) bare three);
      expects = empty m.expects (both_right (static && void && bare) free all);
    }

-- ---- the method `main` of a table

module _ (r : Resolved) where
  mains_mapped : (class : ℕ) (ms : List Method)
      → table.mains (map (method_info r class) ms) ≡ map (method_info r class) (filter is_main ms)
  mains_mapped class ms =
      filter-map (λ i. bytes_eq i.name (codes "main")) (method_info r class) ms

  abbrev table_mains : ℕ → ℕ → List Class → List MethodInfo
  table_mains class next cs = table.mains (flat_map (λ c. c.methods) (class_infos r class next cs))

  table_front : (class next : ℕ) (c : Class) (cs : List Class)
      → table_mains class next (c ∷ cs)
      ≡ map (method_info r class) (mains_of c)
      ++ table_mains (class + 1) (next + count_by (λ f. f.inferred) c.fields) cs
  table_front class next c cs =
      let later = flat_map (λ k. k.methods) (class_infos r (class + 1) (next + count_by
      (λ f. f.inferred) c.fields) cs) in
      filter-append (λ i. bytes_eq i.name (codes "main")) (map (method_info r class) c.methods)
      later
      ∙ ap (λ xs. xs ++ table.mains later) (mains_mapped class c.methods)

  none_there : (class next : ℕ) (cs : List Class) → AllByRecursion HasNone cs
      → table_mains class next cs ≡ []
  none_there class next [] none = refl
  none_there class next (c ∷ cs) none =
      let later = next + count_by (λ f. f.inferred) c.fields in
      table_front class next c cs
      ∙ ap (λ ms. map (method_info r class) ms ++ table_mains (class + 1) later cs) none.0
      ∙ none_there (class + 1) later cs none.1

  only_there : (m : Method) (class next : ℕ) (before : List Class) (c : Class) (rest : List Class)
      → AllByRecursion HasNone before → mains_of c ≡ m ∷ [] → AllByRecursion HasNone rest
      → table_mains class next (before ++ c ∷ rest)
      ≡ method_info r (class + length before) m ∷ []
  only_there m class next [] c rest first own behind =
      let later = next + count_by (λ f. f.inferred) c.fields in
      table_front class next c rest
      ∙ ap (λ ms. map (method_info r class) ms ++ table_mains (class + 1) later rest) own
      ∙ ap (λ ks. method_info r class m ∷ ks) (none_there (class + 1) later rest behind)
      ∙ ap (λ k. method_info r k m ∷ []) (sym (add-zero class))
  only_there m class next (b ∷ before) c rest first own behind =
      let later = next + count_by (λ f. f.inferred) b.fields in
      let on : class + 1 + length before ≡ class + suc (length before) = omega arith in
      table_front class next b (before ++ c ∷ rest)
      ∙ ap (λ ms. map (method_info r class) ms ++ table_mains (class + 1) later
      (before ++ c ∷ rest)) first.0
      ∙ only_there m (class + 1) later before c rest first.1 own behind
      ∙ ap (λ k. method_info r k m ∷ []) on

none_have : (cs : List Class) → AllByRecursion HasNone cs
    → AllByRecursion (λ c. has_main c ≡ false) cs
none_have [] none = tt
none_have (c ∷ cs) none = (none_any is_main c.methods none.0, none_have cs none.1)

result_void : (names : List (List ℕ)) (o : Option TypeTree) → o ≡ None
    → result_of names o ≡ ty.Void
unfolding result_of
result_void names o none = ap (result_of names) none

module _ (source : Source) (ordered : IsInOrder source) (none : name_faults source ≡ []) where
  main_at : (m : Method) → main_fault m ≡ [] → Split m (classes source) → HasMain (table_of source)
  main_at m right (before, c, rest, s) =
      let r = resolved source in
      let next = length r.policies in
      let number = length before in
      let plain = is_plain m right in
      let place : position has_main (classes source) ≡ Some number =
      ap (position has_main) s.is
      ∙ first_place has_main before rest c (none_have before s.none_before)
      (some_any is_main c.methods [] m s.own) in
      let main : (table_of source).main ≡ number = ap (λ o. unwrap_or o 0) place in
      let stands = class_stands source ordered none before rest c s.is in
      let there = mains_mapped r number c.methods ∙ ap (map (method_info r number)) s.own in (
        method_info r number m,
        record {
          only =
              ap (λ cs. table_mains r 0 next cs) s.is
              ∙ only_there r m 0 next before c rest s.none_before s.own s.none_behind
              ∙ ap (λ k. method_info r k m ∷ []) (zero-add number);
          in_class =
              ap (λ k. table.mains (methods_in (slice_get (table_of source).classes k))) main
              ∙ ap (λ o. table.mains (methods_in o)) stands.1 ∙ there;
          is_static = plain.is_static;
          result = result_void r.classes m.result plain.result;
          params = ap (map (param_info r)) plain.params;
          expects = ap (lock_set r.known.numbers) plain.expects;
        },
      )

  pub tables_have_main : HasMain (table_of source)
  tables_have_main =
      let front = program_doubles source ++ declarations_faults source [] source in
      let one = one_main (mains source) (none_right front (mains_faults (mains source)) none) in
      main_at one.0 one.2 (split one.0 (classes source) one.1)
