-- The table of a source that breaks no limit has few classes, members and policies.
use Rattle.std.proofs.Common.{◌≡◌, ℕ, ◌+◌, ◌^◌, ◌<◌, List, [], ◌∷◌, map, length, take, drop, refl}
use Rattle.std.proofs.Common.{arith}
use Rattle.std.specs.Prelude.{codes, if◌then◌else◌, count_by}
use Rattle.std.specs.List.{All, AllByRecursion}
use Rattle.std.proofs.lemmas.List.{length-map, length-append, length-take, length-drop}
use Rattle.std.proofs.lemmas.List.Elements.{All-nil, All-cons}
use Rattle.par_tree.specs.declared.decl.FieldDecl.{FieldDecl}
use Rattle.par_tree.specs.Plain.{Class, Source}
use Rattle.par_scope.specs.Names.{member_names, IsFewMembers, IsFewTable}
use Rattle.par_names.specs.Declarations.{builtin, builtins, declared_classes, classes}
use Rattle.par_resolved.specs.Policies.{known}
use Rattle.par_resolved.specs.Numbered.{numbered}
use Rattle.par_resolved.specs.Resolved.{Resolved, resolved, field_infos, channel_info}
use Rattle.par_resolved.specs.Resolved.{method_info}
use Rattle.par_resolved.specs.Resolved.{class_info, class_infos, table_of}
use Rattle.par_typed_laws.specs.par_faults.Limits.{in_order, earlier, member_places}
use Rattle.par_typed_laws.specs.par_faults.Limits.{class_limits}
use Rattle.par_typed_laws.proofs.par_faults.Within.{IsWithinLimits, ClassIsWithin}
use Rattle.par_typed_laws.proofs.par_faults.Within.{class_within}

-- none of two lists in order is lost
ordered : (xs ys : List ℕ) → length (in_order xs ys) ≡ length xs + length ys
unfolding in_order
ordered [] ys = omega arith
ordered (x ∷ xs) ys =
    let n = earlier ys x in
    let rest = ordered xs (drop n ys) in
    let front = length-take n ys in
    let back = length-drop n ys in
    let whole = length-append (take n ys) (x ∷ in_order xs (drop n ys)) in
    omega (arith, rest, front, back, whole)

fields_few : (r : Resolved) (next : ℕ) (fs : List FieldDecl)
    → length (field_infos r next fs) ≡ length fs
fields_few r next [] = refl
fields_few r next (f ∷ fs) =
    let more = fields_few r (if f.inferred then next + 1 else next) fs in omega (arith, more)

infos_few : (r : Resolved) (class next : ℕ) (cs : List Class)
    → length (class_infos r class next cs) ≡ length cs
infos_few r class next [] = refl
infos_few r class next (c ∷ cs) =
    let more = infos_few r (class + 1) (next + count_by (λ f. f.inferred) c.fields) cs in omega
    (arith, more)

members_few : (r : Resolved) (class next : ℕ) (c : Class) → ClassIsWithin c
    → IsFewMembers (member_names (class_info r class next c))
members_few r class next c limits =
    let places : length (member_places c) ≡ length (map (λ f. f.id.at) c.fields) + length
    (map (λ h. h.id.at) c.channels) =
    ordered (map (λ f. f.id.at) c.fields) (map (λ h. h.id.at) c.channels) in
    let field_places = length-map c.fields (λ f. f.id.at) in
    let channel_places = length-map c.channels (λ h. h.id.at) in
    let fields = length-map (field_infos r next c.fields) (λ f. f.name) in
    let infos = fields_few r next c.fields in
    let channels = length-map (map (channel_info r) c.channels) (λ h. h.name) in
    let channel_infos = length-map c.channels (channel_info r) in
    let methods = length-map (map (method_info r class) c.methods) (λ m. m.name) in
    let method_infos = length-map c.methods (method_info r class) in
    record {
      fields = omega (arith, limits.members, places, field_places, channel_places, fields, infos);
      channels =
          omega (
            arith,
            limits.members,
            places,
            field_places,
            channel_places,
            channels,
            channel_infos,
          );
      methods = omega (arith, limits.methods, methods, method_infos);
    }

each_few : (r : Resolved) (class next : ℕ) (cs : List Class) → AllByRecursion ClassIsWithin cs
    → All IsFewMembers (map member_names (class_infos r class next cs))
each_few r class next [] limits = All-nil IsFewMembers
each_few r class next (c ∷ cs) limits =
    All-cons IsFewMembers (member_names (class_info r class next c))
    (map member_names (class_infos r (class + 1) (next + count_by (λ f. f.inferred) c.fields) cs))
    (members_few r class next c limits.0) (each_few r (class + 1) (next + count_by (λ f. f.inferred)
    c.fields) cs limits.1)

each_within : (cs : List Class) → AllByRecursion (λ c. class_limits c ≡ []) cs
    → AllByRecursion ClassIsWithin cs
each_within [] h = tt
each_within (c ∷ cs) h = (class_within c h.0, each_within cs h.1)

-- the classes that every program has have no members
builtin_within : (name : List ℕ) → ClassIsWithin (builtin name)
unfolding in_order
builtin_within name =
    record { members = omega arith; methods = omega arith; nodes = omega arith; each_method = tt }

all_within : (source : Source) → IsWithinLimits source
    → AllByRecursion ClassIsWithin (classes source)
all_within source limits = (
  builtin_within (codes "ArithmeticException"),
  (
    builtin_within (codes "NullPointerException"),
    each_within (declared_classes source) limits.class_limits_kept,
  ),
)

pub few_table : (source : Source) → IsWithinLimits source → IsFewTable (table_of source)
few_table source limits =
    let r = resolved source in
    let next = length r.policies in
    let infos = infos_few r 0 next (classes source) in
    let names = length-map (class_infos r 0 next (classes source)) (λ c. c.name) in
    let all = length-append builtins (declared_classes source) in
    let two : length builtins ≡ 2 = refl in
    record {
      classes = omega (arith, infos, names, all, two, limits.few_classes);
      members = each_few r 0 next (classes source) (all_within source limits);
    }

pub few_policies : (source : Source) → IsWithinLimits source
    → length (table_of source).policies < 2 ^ 16
few_policies source limits =
    let same = length-map (numbered (known source) source) (λ e. e.policy) in omega
    (arith, limits.few_policies, same)
