-- Where no name is declared twice, names differ.
use Rattle.std.proofs.Common.{◌≡◌, ℕ, ◌+◌, ◌<◌, Bool, true, false, ◌||◌, ◌&&◌, List, [], ◌∷◌, ◌++◌}
use Rattle.std.proofs.Common.{map, refl, sym, ap, subst, ◌∙◌, arith}
use Rattle.std.specs.Prelude.{nat_eq, nat_lt, flat_map, count_by, if◌then◌else◌, codes}
use Rattle.std.specs.List.{AllByRecursion, IsDistinct, list_any}
use Rattle.std.specs.Str.{bytes_eq}
use Rattle.std.proofs.lemmas.Bool.Decides.{nat_tests}
use Rattle.std.proofs.lemmas.List.{map-append}
use Rattle.std.proofs.lemmas.Slice.Eq.{bytes_eq-Decides}
use Rattle.par_tree.specs.declared.ident.Ident.{Ident}
use Rattle.par_tree.specs.declared.decl.FieldDecl.{FieldDecl}
use Rattle.par_tree.specs.Plain.{Class, Source}
use Rattle.par_refusals.specs.declared.refusal.Refusal.{Refusal}
use Rattle.par_refusals.specs.First.{when}
use Rattle.par_names.specs.Declarations.{actors, locks, policies, declared_classes, classes}
use Rattle.par_names.specs.Declarations.{has_earlier, double_fault, doubles}
use Rattle.par_names.specs.Members.{callee_ids}
use Rattle.par_names.specs.Policies.{may_policy_faults}
use Rattle.par_names.specs.Methods.{field_faults, channel_faults, method_faults}
use Rattle.par_names.specs.Program.{view_behind, program_doubles, declarations_faults, mains}
use Rattle.par_names.specs.Program.{mains_faults, name_faults}
use Rattle.par_names.proofs.Lookups.{map-map}
use Rattle.par_source_laws.specs.Order.{Ascend, HasOwnPlaces, IsInOrder}
use Rattle.par_typed_laws.specs.par_resolved.Resolved.{Resolved, resolved, field_infos}
use Rattle.par_typed_laws.specs.par_resolved.Resolved.{channel_info, method_info}
use Rattle.par_typed_laws.specs.par_resolved.Resolved.{class_info, class_infos, table_of}
use Rattle.par_typed_laws.proofs.Lists.{none_left, none_right, none_of}
use Rattle.par_typed_laws.proofs.Unbroken.{names_kept, IsKeptClass, classes_kept}
use Rattle.par_program_laws.specs.TableNames.{AreApart, HasOwnNames}
use Rattle.par_typing.specs.TableLaws.{NamesAreApart}

-- ---- names of which none is declared twice

-- the first does not stand before the second with its name
abbrev IsNoEarlier : Ident → Ident → Type 0
IsNoEarlier y x = (bytes_eq x.name y.name && nat_lt x.at y.at) ≡ false

-- none of these does
abbrev HasNoEarlier : List Ident → Ident → Type 0
HasNoEarlier ids y = AllByRecursion (IsNoEarlier y) ids

-- one of two at different places stands before the other
two_names : (x y : Ident) → IsNoEarlier x y → IsNoEarlier y x → nat_eq x.at y.at ≡ false
    → bytes_eq x.name y.name ≡ false
two_names x y h k apart = in_case (bytes_eq x.name y.name) refl where
  in_case : (b : Bool) → bytes_eq x.name y.name ≡ b → bytes_eq x.name y.name ≡ false
  in_case true e =
      let same : x.name ≡ y.name = (bytes_eq-Decides x.name y.name).0 e in
      let turned : bytes_eq y.name x.name ≡ true = (bytes_eq-Decides y.name x.name).1 (sym same) in
      let up : nat_lt x.at y.at ≡ false = ap (λ b. b && nat_lt x.at y.at) (sym e) ∙ k in
      let down : nat_lt y.at x.at ≡ false = ap (λ b. b && nat_lt y.at x.at) (sym turned) ∙ h in
      absurd (grind (arith, nat_tests))
  in_case false e = e

-- a name and those behind it
first_apart : (R : Ident → Type 0) (x : Ident) (xs : List Ident) → AllByRecursion (IsNoEarlier x) xs
    → AllByRecursion (λ y. IsNoEarlier y x × R y) xs
    → AllByRecursion (λ at. nat_eq x.at at ≡ false) (map (λ id. id.at) xs)
    → AllByRecursion (λ name. bytes_eq x.name name ≡ false) (map (λ id. id.name) xs)
first_apart R x [] h k apart = tt
first_apart R x (y ∷ xs) h k apart =
    (two_names x y h.0 k.0.0 apart.0, first_apart R x xs h.1 k.1 apart.1)

later : (x : Ident) (xs ys : List Ident) → AllByRecursion (HasNoEarlier (x ∷ xs)) ys
    → AllByRecursion (HasNoEarlier xs) ys
later x xs [] h = tt
later x xs (y ∷ ys) h = (h.0.1, later x xs ys h.1)

all_apart : (xs : List Ident) → AllByRecursion (HasNoEarlier xs) xs
    → IsDistinct nat_eq (map (λ id. id.at) xs) → AreApart (map (λ id. id.name) xs)
unfolding IsDistinct
all_apart [] h apart = tt
all_apart (x ∷ xs) h apart = (
  first_apart (HasNoEarlier xs) x xs h.0.1 h.1 apart.0,
  all_apart xs (later x xs xs h.1) apart.1,
)

no_test : {A : Type 0} (p : A → Bool) (xs : List A) → list_any p xs ≡ false
    → AllByRecursion (λ x. p x ≡ false) xs
no_test p [] h = tt
no_test p (x ∷ xs) h = in_case (p x) refl (no_test p xs) where
  in_case : (b : Bool) → p x ≡ b
      → (list_any p xs ≡ false → AllByRecursion (λ x. p x ≡ false) xs)
      → AllByRecursion (λ x. p x ≡ false) (x ∷ xs)
  in_case true e rest = absurd (cc (sym (ap (λ b. b || list_any p xs) e) ∙ h))
  in_case false e rest = (e, rest (ap (λ b. b || list_any p xs) (sym e) ∙ h))

not_broken : (b : Bool) (f : Refusal) → when b f ≡ [] → b ≡ false
unfolding when
not_broken true f h = absurd (cc h)
not_broken false f h = refl

each_once : (all ids : List Ident) → AllByRecursion (λ id. double_fault all id ≡ []) ids
    → AllByRecursion (HasNoEarlier all) ids
each_once all [] h = tt
each_once all (id ∷ ids) h =
    (no_test _ all (not_broken (has_earlier all id) _ h.0), each_once all ids h.1)

once : (ids : List Ident) → doubles ids ≡ [] → AllByRecursion (HasNoEarlier ids) ids
once ids none = each_once ids ids (none_of (double_fault ids) ids none)

-- at places of their own
pub once_apart : (ids : List Ident) → doubles ids ≡ [] → IsDistinct nat_eq (map (λ id. id.at) ids)
    → AreApart (map (λ id. id.name) ids)
once_apart ids none apart = all_apart ids (once ids none) apart

-- ---- classes

above : (before : ℕ) (places : List ℕ) → Ascend before places
    → AllByRecursion (λ at. nat_eq before at ≡ false) places
above before places h = from before before places (omega arith) h where
  from : (low before : ℕ) (places : List ℕ) → low < before + 1 → Ascend before places
      → AllByRecursion (λ at. nat_eq low at ≡ false) places
  from low before [] le h = tt
  from low before (at ∷ places) le h =
      let lt : before < at = h.0 in
      (grind (arith, nat_tests), from low at places (omega (arith, le, lt)) h.1)

distinct_places : (before : ℕ) (places : List ℕ) → Ascend before places → IsDistinct nat_eq places
unfolding IsDistinct
distinct_places before [] h = tt
distinct_places before (at ∷ places) h = (above at places h.1, distinct_places at places h.1)

-- the classes that every program has, and the declared ones behind them
builtins_apart : (one other : Ident) (ids : List Ident)
    → AllByRecursion (HasNoEarlier (one ∷ other ∷ ids)) (one ∷ other ∷ ids)
    → bytes_eq one.name other.name ≡ false
    → one.at ≡ 0 → other.at ≡ 0 → Ascend 0 (map (λ id. id.at) ids)
    → AreApart (map (λ id. id.name) (one ∷ other ∷ ids))
unfolding IsDistinct
builtins_apart one other ids h differ first second up =
    let places = map (λ id. id.at) ids in
    let behind = above 0 places up in
    let Apart : ℕ → Type 0 = λ n. AllByRecursion (λ at. nat_eq n at ≡ false) places in
    let rest = later one (other ∷ ids) ids h.1.1 in (
      (
        differ,
        first_apart (HasNoEarlier (other ∷ ids)) one ids h.0.1.1 h.1.1
            (subst Apart (sym first) behind),
      ),
      (
        first_apart (HasNoEarlier ids) other ids h.1.0.1.1 rest (subst Apart (sym second) behind),
        all_apart ids (later other ids ids rest) (distinct_places 0 places up),
      ),
    )

names_of_infos : (r : Resolved) (class next : ℕ) (cs : List Class)
    → map (λ c. c.name) (class_infos r class next cs) ≡ map (λ c. c.id.name) cs
names_of_infos r class next [] = refl
names_of_infos r class next (c ∷ cs) =
    ap (λ names. c.id.name ∷ names)
    (names_of_infos r (class + 1) (next + count_by (λ f. f.inferred) c.fields) cs)

classes_apart : (source : Source) → IsInOrder source → name_faults source ≡ []
    → AreApart (map (λ c. c.name) (table_of source).classes)
classes_apart source ordered none =
    let doubled : program_doubles source ≡ [] =
    none_left _ (declarations_faults source [] source)
    (none_left _ (mains_faults (mains source)) none) in
    let ids = map (λ c. c.id) (declared_classes source) in
    let of_classes : doubles (map (λ c. c.id) (classes source)) ≡ [] =
    none_right ((doubles (actors source) ++ doubles (map (λ l. l.id) (locks source)))
    ++ doubles (map (λ p. p.id) (policies source))) _ doubled in
    let up : Ascend 0 (map (λ id. id.at) ids) =
    subst (Ascend 0) (sym (map-map (λ id. id.at) (λ c. c.id) (declared_classes source)))
    ordered.classes in
    let one : Ident = record { name = codes "ArithmeticException"; at = 0 } in
    let other : Ident = record { name = codes "NullPointerException"; at = 0 } in
    let apart = builtins_apart one other ids (once (one ∷ other ∷ ids) of_classes) refl refl refl up
    in
    subst AreApart
    (map-map (λ id. id.name) (λ c. c.id) (classes source)
    ∙ sym (names_of_infos (resolved source) 0 _ (classes source)))
    apart

-- ---- members

names_of_fields : (r : Resolved) (next : ℕ) (fs : List FieldDecl)
    → map (λ f. f.name) (field_infos r next fs) ≡ map (λ f. f.id.name) fs
names_of_fields r next [] = refl
names_of_fields r next (f ∷ fs) =
    ap (λ names. f.id.name ∷ names)
    (names_of_fields r (if f.inferred then next + 1 else next) fs)

names_of_callees : (r : Resolved) (class : ℕ) (c : Class)
    → map (λ id. id.name) (callee_ids c)
    ≡ map (λ k. k.name) (map (channel_info r) c.channels)
    ++ map (λ m. m.name) (map (method_info r class) c.methods)
names_of_callees r class c =
    map-append (λ id. id.name) (map (λ k. k.id) c.channels) (map (λ m. m.id) c.methods)
    ∙ ap (λ xs. xs ++ map (λ id. id.name) (map (λ m. m.id) c.methods))
    (map-map (λ id. id.name) (λ k. k.id) c.channels
    ∙ sym (map-map (λ k. k.name) (channel_info r) c.channels))
    ∙ ap (λ ys. map (λ k. k.name) (map (channel_info r) c.channels) ++ ys)
    (map-map (λ id. id.name) (λ m. m.id) c.methods
    ∙ sym (map-map (λ m. m.name) (method_info r class) c.methods))

own_names : (source : Source) (r : Resolved) (class next : ℕ) (c : Class) → IsKeptClass source c
    → HasOwnPlaces c → HasOwnNames (class_info r class next c)
own_names source r class next c (before, none) places =
    let v = view_behind source before in
    let up_to_channels = none_left _ (flat_map (method_faults v c) c.methods) none in
    let up_to_callees = none_left _ (flat_map (channel_faults v) c.channels) up_to_channels in
    let of_callees : doubles (callee_ids c) ≡ [] =
    none_right ((may_policy_faults v c.birth ++ doubles (map (λ f. f.id) c.fields))
    ++ flat_map (field_faults v c.birth) c.fields) _ up_to_callees in
    let up_to_fields = none_left _ (flat_map (field_faults v c.birth) c.fields)
    (none_left _ (doubles (callee_ids c)) up_to_callees) in
    let of_fields : doubles (map (λ f. f.id) c.fields) ≡ [] =
    none_right (may_policy_faults v c.birth) _ up_to_fields in
    let field_places =
    subst (IsDistinct nat_eq) (sym (map-map (λ id. id.at) (λ f. f.id) c.fields)) places.fields in
    record {
      fields =
          subst AreApart
          (map-map (λ id. id.name) (λ f. f.id) c.fields ∙ sym (names_of_fields r next c.fields))
          (once_apart (map (λ f. f.id) c.fields) of_fields field_places);
      callees =
          subst AreApart (names_of_callees r class c)
          (once_apart (callee_ids c) of_callees places.callees);
    }

all_own_names : (source : Source) (r : Resolved) (class next : ℕ) (cs : List Class)
    → AllByRecursion (IsKeptClass source) cs → AllByRecursion HasOwnPlaces cs
    → AllByRecursion HasOwnNames (class_infos r class next cs)
all_own_names source r class next [] h k = tt
all_own_names source r class next (c ∷ cs) h k = (
  own_names source r class next c h.0 k.0,
  all_own_names source r (class + 1) (next + count_by (λ f. f.inferred) c.fields) cs h.1 k.1,
)

no_names : AreApart []
unfolding IsDistinct
no_names = tt

pub names_apart : NamesAreApart
names_apart source ordered none =
    let named = names_kept source none in
    record {
      classes = classes_apart source ordered named;
      members = (
        record { fields = no_names; callees = no_names },
        (
          record { fields = no_names; callees = no_names },
          all_own_names source (resolved source) _ _ (declared_classes source)
              (classes_kept source named) ordered.members,
        ),
      );
    }
