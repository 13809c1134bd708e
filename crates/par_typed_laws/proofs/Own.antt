-- What names mean in a class is what they mean over its table.
use Rattle.std.proofs.Common.{◌≡◌, ℕ, zero, suc, ◌+◌, ◌<◌, Bool, true, false, List, [], ◌∷◌, length}
use Rattle.std.proofs.Common.{Option, Some, None, refl, sym, ap, subst, ◌∙◌, arith, map}
use Rattle.std.specs.Prelude.{slice_get, if◌then◌else◌}
use Rattle.std.specs.List.{position}
use Rattle.std.specs.Option.{option_map, is_some}
use Rattle.std.specs.Str.{bytes_eq}
use Rattle.std.proofs.lemmas.Option.{slice_get-map}
use Rattle.par_index.specs.Texts.{has}
use Rattle.par_index.proofs.Places.{position-within, position-is_some}
use Rattle.par_program_laws.specs.par_tree.declared.decl.FieldDecl.{FieldDecl}
use Rattle.par_program_laws.specs.par_tree.Plain.{Class, Method, Source}
use Rattle.par_program_laws.specs.par_typed.declared.ty.Ty.{Ty}
use Rattle.par_program_laws.specs.par_typed.declared.table.FieldInfo.{FieldInfo}
use Rattle.par_program_laws.specs.par_typed.declared.table.MethodInfo.{MethodInfo}
use Rattle.par_program_laws.specs.par_typed.declared.table.Table.{Table}
use Rattle.par_refusals.specs.First.{when}
use Rattle.par_source_laws.specs.par_names.Exprs.{own_fault}
use Rattle.par_source_laws.specs.par_names.Members.{static_of, selected_named, callee_named}
use Rattle.par_source_laws.specs.par_names.Members.{earlier_callee}
use Rattle.par_source_laws.specs.par_names.Members.{channel_named, method_named}
use Rattle.par_source_laws.proofs.par_names.Lookups.{at, found, map-map}
use Rattle.par_type_rules.specs.par_scope.declared.members.Place.{Place}
use Rattle.par_type_rules.specs.par_scope.declared.meaning.Receiver.TheVariants.{Own}
use Rattle.par_type_rules.specs.par_scope.declared.meaning.Callee.{Callee}
use Rattle.par_type_rules.specs.par_scope.declared.meaning.Callee.TheVariants as callee
use Rattle.par_type_rules.specs.par_scope.Names.{names_of, member_names, number_in, fields_in}
use Rattle.par_type_rules.specs.par_scope.Names.{channels_in}
use Rattle.par_type_rules.specs.par_scope.Names.{methods_in}
use Rattle.par_type_rules.specs.par_scope.Home.{Home}
use Rattle.par_type_rules.specs.par_scope.Members.{field_at}
use Rattle.par_program_laws.specs.par_typed.Members as m
use Rattle.par_type_rules.specs.par_scope.Members.{method_at}
use Rattle.par_type_rules.specs.par_scope.Meaning.{placed, field_in, selected}
use Rattle.par_type_rules.specs.par_scope.Meaning.{channel_or_method}
use Rattle.par_type_rules.specs.par_scope.Meaning.{callee_in}
use Rattle.par_type_rules.specs.par_scope.Meaning.{called}
use Rattle.par_type_rules.specs.Methods.{home_of}
use Rattle.par_type_rules.specs.Frames.{Frame, var_at, var_named}
use Rattle.par_faults.specs.par_resolved.Resolved.{Resolved, resolved, field_infos, channel_info}
use Rattle.par_faults.specs.par_resolved.Resolved.{method_info}
use Rattle.par_faults.specs.par_resolved.Resolved.{class_info, table_of}
use Rattle.par_typed_laws.proofs.Members.{IsThere, there}

-- ---- the members of a class in its table

names-field_infos : (r : Resolved) (next : ℕ) (fs : List FieldDecl)
    → map (λ f. f.name) (field_infos r next fs) ≡ map (λ f. f.id.name) fs
names-field_infos r next [] = refl
names-field_infos r next (f ∷ fs) =
    ap (λ ns. f.id.name ∷ ns) (names-field_infos r (if f.inferred then next + 1 else next) fs)

-- whether a field or a method is static, where it is there
abbrev pub field_static : Option FieldInfo → Option Bool
field_static None = None
field_static (Some f) = Some f.is_static

abbrev pub method_static : Option MethodInfo → Option Bool
method_static None = None
method_static (Some m) = Some m.is_static

statics-field_infos : (r : Resolved) (next : ℕ) (fs : List FieldDecl) (k : ℕ)
    → static_of (slice_get fs k) ≡ field_static (slice_get (field_infos r next fs) k)
unfolding static_of
statics-field_infos r next [] k = refl
statics-field_infos r next (f ∷ fs) zero = refl
statics-field_infos r next (f ∷ fs) (suc k) =
    statics-field_infos r (if f.inferred then next + 1 else next) fs k

statics-methods : (r : Resolved) (class : ℕ) (o : Option Method)
    → earlier_callee None o ≡ method_static (option_map (method_info r class) o)
unfolding earlier_callee
statics-methods r class None = refl
statics-methods r class (Some m) = refl

module _ (source : Source) (class n : ℕ) (c : Class) (result : Option Ty) where
  abbrev t : Table
  t = table_of source

  abbrev r : Resolved
  r = resolved source

  abbrev h : Home
  h = home_of t (names_of t) class result

  abbrev pub Stands : Type 0
  Stands = slice_get t.classes class ≡ Some (class_info r class n c)

  module _ (stands : Stands) where
    members_are : slice_get (names_of t).members class ≡ Some
        (member_names (class_info r class n c))
    members_are = slice_get-map member_names t.classes class ∙ ap (option_map member_names) stands

    -- ---- fields

    abbrev pub static_at : Option Place → Option Bool
    static_at None = None
    static_at (Some p) = field_static (field_at t p)

    field_number : (x : List ℕ) → number_in (fields_in (slice_get (names_of t).members class)) x
        ≡ position (bytes_eq x) (map (λ f. f.id.name) c.fields)
    field_number x =
        ap (λ m. number_in (fields_in m) x) members_are
        ∙ ap (position (bytes_eq x)) (names-field_infos r n c.fields)

    field_by : (o : Option ℕ) → static_of (at c.fields o) ≡ static_at (placed class o)
    unfolding static_of
    field_by None = refl
    field_by (Some k) =
        statics-field_infos r n c.fields k
        ∙ ap (λ o. field_static (slice_get (m.fields_in o) k)) (sym stands)

    -- a simple name is that of the same field
    pub own_static : (x : List ℕ) → selected_named c x ≡ static_at (selected h Own x)
    unfolding selected field_in
    own_static x =
        ap static_of (found (bytes_eq x) (λ f. f.id.name) c.fields _ refl)
        ∙ field_by (position (bytes_eq x) (map (λ f. f.id.name) c.fields))
        ∙ ap (λ o. static_at (placed class o)) (sym (field_number x))

    -- ---- methods

    -- a method is as static as the name says, and what is unknown is so for names as well
    abbrev pub IsAsStatic : List ℕ → Callee → Type 0
    IsAsStatic x callee.Unknown = callee_named c x ≡ None
    IsAsStatic x (callee.Channel p) = Unit {0}
    IsAsStatic x (callee.Method p) = callee_named c x ≡ method_static (method_at t p)

    channel_number : (x : List ℕ)
        → number_in (channels_in (slice_get (names_of t).members class)) x
        ≡ position (bytes_eq x) (map (λ k. k.id.name) c.channels)
    channel_number x =
        ap (λ m. number_in (channels_in m) x) members_are
        ∙ ap (position (bytes_eq x)) (map-map (λ k. k.name) (channel_info r) c.channels)

    method_number : (x : List ℕ) → number_in (methods_in (slice_get (names_of t).members class)) x
        ≡ position (bytes_eq x) (map (λ m. m.id.name) c.methods)
    method_number x =
        ap (λ m. number_in (methods_in m) x) members_are
        ∙ ap (position (bytes_eq x)) (map-map (λ m. m.name) (method_info r class) c.methods)

    callee_by : (x : List ℕ) (o p : Option ℕ)
        → number_in (channels_in (slice_get (names_of t).members class)) x ≡ o
        → number_in (methods_in (slice_get (names_of t).members class)) x ≡ p
        → IsAsStatic x (channel_or_method class o p)
    unfolding earlier_callee
    callee_by x (Some k) p is and = tt
    callee_by x None None is and =
        let channel : channel_named c x ≡ None =
        found (bytes_eq x) (λ k. k.id.name) c.channels None (sym is ∙ channel_number x) in
        let method : method_named c x ≡ None =
        found (bytes_eq x) (λ m. m.id.name) c.methods None (sym and ∙ method_number x) in
        ap (λ o. earlier_callee o (method_named c x)) channel ∙ ap (earlier_callee None) method
    callee_by x None (Some k) is and =
        let channel : channel_named c x ≡ None =
        found (bytes_eq x) (λ k. k.id.name) c.channels None (sym is ∙ channel_number x) in
        let method : method_named c x ≡ slice_get c.methods k =
        found (bytes_eq x) (λ m. m.id.name) c.methods (Some k) (sym and ∙ method_number x) in
        ap (λ o. earlier_callee o (method_named c x)) channel
        ∙ ap (earlier_callee None) method ∙ statics-methods r class (slice_get c.methods k)
        ∙ ap method_static (sym (slice_get-map (method_info r class) c.methods k))
        ∙ ap (λ o. method_static (slice_get (m.methods_in o) k)) (sym stands)

    pub own_callee : (x : List ℕ) → IsAsStatic x (called h Own x)
    unfolding called callee_in
    own_callee x = callee_by x _ _ refl refl

-- ---- locals

-- the locals that are in scope for names have numbers
pub record Knows (frame : Frame) (locals : List (List ℕ)) : Type 0 where
  pub names : frame.scope.names ≡ locals
  pub vars : length frame.vars ≡ length locals

pub no_local : (frame : Frame) (locals : List (List ℕ)) (x : List ℕ) → Knows frame locals
    → var_named frame x ≡ None → has locals x ≡ false
no_local frame locals x knows none = by (number_in locals x) refl where
  same : (o : Option ℕ) → number_in locals x ≡ o → number_in frame.scope.names x ≡ o
  same o is = ap (λ ns. number_in ns x) knows.names ∙ is

  by : (o : Option ℕ) → number_in locals x ≡ o → has locals x ≡ false
  by None is = sym (position-is_some (bytes_eq x) locals) ∙ ap is_some is
  by (Some k) is =
      let within : k < length locals = position-within (bytes_eq x) locals k is in
      let item = there frame.vars k (omega (arith, within, knows.vars)) in
      let nothing : slice_get frame.vars k ≡ None =
      sym (ap (var_at frame.vars) (same (Some k) is)) ∙ none in
      absurd (subst IsThere nothing item)

-- ---- own members in static methods

pub own_kept : (in_static : Bool) (o : Option Bool) (at : ℕ) → own_fault in_static o at ≡ []
    → o ≡ Some false → in_static ≡ false
unfolding own_fault when
own_kept false o at none is = refl
own_kept true o at none is =
    absurd (cc (subst (λ k. own_fault true k at ≡ []) is none))
