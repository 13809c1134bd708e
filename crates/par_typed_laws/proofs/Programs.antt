-- Each typed body of a source is the body of a method of its table.
use Rattle.std.proofs.Common.{◌≡◌, ℕ, suc, ◌+◌, ◌<◌, ◌≤◌, Bool, true, false, List, [], ◌∷◌, ◌++◌}
use Rattle.std.proofs.Common.{length, Some, None, refl, sym, ap, subst, ◌∙◌, arith, map}
use Rattle.std.proofs.Common.{append_assoc, add-zero, zero-add, cond}
use Rattle.std.specs.Prelude.{flat_map, slice_get, count_by, codes}
use Rattle.std.specs.List.{AllByRecursion, position, range_with_len}
use Rattle.std.specs.Option.{option_map}
use Rattle.std.specs.Str.{bytes_eq}
use Rattle.std.proofs.lemmas.List.{length-map, length-append, map-append}
use Rattle.std.proofs.lemmas.List.Concat.{flat_map-append}
use Rattle.std.proofs.lemmas.Option.{slice_get-map}
use Rattle.par_program_laws.specs.par_tree.declared.ident.Ident.{Ident}
use Rattle.par_program_laws.specs.par_tree.declared.decl.ParamDecl.{ParamDecl}
use Rattle.par_program_laws.specs.par_tree.Plain.{Sta, Block, If, While, Try, Return, Break}
use Rattle.par_program_laws.specs.par_tree.Plain.{Continue}
use Rattle.par_program_laws.specs.par_tree.Plain.{Throw, Open}
use Rattle.par_program_laws.specs.par_tree.Plain.{Close}
use Rattle.par_program_laws.specs.par_tree.Plain.{Declare, Assign, Do, When, Braces, In, MayBraces}
use Rattle.par_program_laws.specs.par_tree.Plain.{NoBraces}
use Rattle.par_program_laws.specs.par_tree.Plain.{Else, NoElse, Otherwise, Stas, End, Then, Catches}
use Rattle.par_program_laws.specs.par_tree.Plain.{NoCatch, Catch}
use Rattle.par_program_laws.specs.par_tree.Plain.{Handler, On}
use Rattle.par_program_laws.specs.par_tree.Plain as plain
use Rattle.par_program_laws.specs.par_tree.Plain.{Class, Method, Declaration, Source}
use Rattle.par_parts.specs.Statements.{inside, in_braces, in_may_braces, in_else}
use Rattle.par_parts.specs.Statements.{in_all}
use Rattle.par_parts.specs.Statements.{in_catches, in_handler}
use Rattle.par_parts.specs.Written.{stmt_types}
use Rattle.par_type_rules.specs.par_scope.Own.{locals_in, braces_locals, may_braces_locals}
use Rattle.par_type_rules.specs.par_scope.Own.{else_locals}
use Rattle.par_type_rules.specs.par_scope.Own.{all_locals, catches_locals, handler_locals}
use Rattle.par_program_laws.specs.par_typed.declared.table.Table.{Table}
use Rattle.par_source_laws.specs.par_names.Declarations.{classes, builtins, declared_classes}
use Rattle.par_source_laws.specs.par_names.Declarations.{classes_in, doubles}
use Rattle.par_source_laws.specs.par_names.Declarations.{locks}
use Rattle.par_source_laws.specs.par_names.Members.{callee_ids}
use Rattle.par_source_laws.specs.par_names.Methods.{method_faults, channel_faults}
use Rattle.par_source_laws.specs.par_names.Program.{view_behind, program_doubles, mains}
use Rattle.par_source_laws.specs.par_names.Program.{mains_faults}
use Rattle.par_source_laws.specs.par_names.Program.{name_faults}
use Rattle.par_type_rules.specs.par_scope.Names.{names_of, member_names, number_in, methods_in}
use Rattle.par_type_rules.specs.par_scope.Home.{Home, class_named, result_written}
use Rattle.par_type_rules.specs.Methods.{home_of, param_slot}
use Rattle.par_faults.specs.par_resolved.Numbers.{type_of}
use Rattle.par_faults.specs.par_resolved.Resolved.{Resolved, resolved, class_info, class_infos}
use Rattle.par_faults.specs.par_resolved.Resolved.{method_info}
use Rattle.par_faults.specs.par_resolved.Resolved.{param_info, local_types, this_type, table_of}
use Rattle.par_type_rules.specs.Frames.{Frame, with_local}
use Rattle.par_type_rules.specs.TypedExprs.{numbered}
use Rattle.par_type_rules.specs.TypedStmts.{Written}
use Rattle.par_type_rules.specs.TypedBodies.{first_number, no_frame, with_params, typed_body}
use Rattle.par_type_rules.specs.TypedBodies.{typed_method}
use Rattle.par_type_rules.specs.TypedBodies.{typed_methods, typed_class, typed_declaration}
use Rattle.par_type_rules.specs.TypedBodies.{typed_declarations}
use Rattle.par_type_rules.proofs.PointLaws.{points_count}
use Rattle.par_source_laws.specs.Order.{Ascend, IsInOrder}
use Rattle.par_typed_laws.specs.Numbers.{StaInRange}
use Rattle.par_typed_laws.specs.Typed.{written_in, bodies_of}
use Rattle.par_program_laws.specs.par_typed.Members as bodies
use Rattle.par_program_laws.specs.par_typed.Members.{method_at}
use Rattle.par_program_laws.specs.Locals.{arrivals, set_by_call}
use Rattle.par_typed_laws.specs.Orderly.{HasMethod}
use Rattle.par_typed_laws.proofs.Lists.{none_left, none_right, of_both, each_is}
use Rattle.par_typed_laws.proofs.Places.{Differ, number_is, Apart, apart, apart_behind, above}
use Rattle.par_typed_laws.proofs.Places.{others_differ, differ, doubled}
use Rattle.par_typed_laws.specs.SetFirst.{SetsFirst}
use Rattle.par_typed_laws.proofs.SetFirst.{braces_first, params_set}
use Rattle.par_typed_laws.proofs.Bodies.{AreVars, with_local_in, braces_in}
use Rattle.par_typed_laws.proofs.Unbroken.{IsKept, IsKeptClass, IsKeptMethod, kept, methods_kept}
use Rattle.par_typed_laws.proofs.Unbroken.{body_kept}

-- ---- the locals of a body are those that its method lists

abbrev count : List Sta → ℕ
count ss = length (flat_map stmt_types ss)

count-append : (xs ys : List Sta) → count (xs ++ ys) ≡ count xs + count ys
count-append xs ys =
    ap length (flat_map-append stmt_types xs ys) ∙ length-append (flat_map stmt_types xs)
    (flat_map stmt_types ys)

both : (xs ys : List Sta) (m n : ℕ) → count xs ≡ m → count ys ≡ n → count (xs ++ ys) ≡ m + n
both xs ys m n one other = count-append xs ys ∙ ap (λ k. k + count ys) one ∙ ap (λ k. m + k) other

mutual
  unfolding stmt_types inside locals_in

  pub counts : (s : Sta) → length (flat_map stmt_types (s ∷ inside s)) ≡ locals_in s
  counts (Block b at) = counts_braces b
  counts (If e b o at) = both (in_braces b) (in_else o) _ _ (counts_braces b) (counts_else o)
  counts (While e b at) = counts_braces b
  counts (Try b cs at) =
      both (in_braces b) (in_catches cs) _ _ (counts_braces b) (counts_catches cs)
  counts (Return e at) = refl
  counts (Break at) = refl
  counts (Continue at) = refl
  counts (Throw class at) = refl
  counts (Open lock at) = refl
  counts (Close lock at) = refl
  counts (Declare local at) = refl
  counts (Assign target value at) = refl
  counts (Do call at) = refl
  counts (When lock b o at) =
      both (in_braces b) (in_may_braces o) _ _ (counts_braces b) (counts_may_braces o)

  pub counts_braces : (b : Braces) → length (flat_map stmt_types (in_braces b)) ≡ braces_locals b
  counts_braces (In ss at) = counts_all ss

  counts_may_braces : (b : MayBraces) → count (in_may_braces b) ≡ may_braces_locals b
  counts_may_braces NoBraces = refl
  counts_may_braces (plain.Some b) = counts_braces b

  counts_else : (o : Else) → count (in_else o) ≡ else_locals o
  counts_else NoElse = refl
  counts_else (Otherwise s) = counts s

  counts_all : (ss : Stas) → count (in_all ss) ≡ all_locals ss
  counts_all End = refl
  counts_all (Then s ss) = both (s ∷ inside s) (in_all ss) _ _ (counts s) (counts_all ss)

  counts_catches : (cs : Catches) → count (in_catches cs) ≡ catches_locals cs
  counts_catches NoCatch = refl
  counts_catches (Catch c cs) =
      both (in_handler c) (in_catches cs) _ _ (counts_handler c) (counts_catches cs)

  pub counts_handler : (c : Handler)
      → length (flat_map stmt_types (in_handler c)) ≡ handler_locals c
  counts_handler (On class name b) = counts_braces b

-- ---- what stands at a place

pub at_length : {A : Type 0} (xs ys : List A) (y : A)
    → slice_get (xs ++ y ∷ ys) (length xs) ≡ Some y
at_length [] ys y = refl
at_length (x ∷ xs) ys y = at_length xs ys y

pub map-map : {A B C : Type 0} (f : B → C) (g : A → B) (xs : List A)
    → map f (map g xs) ≡ map (λ x. f (g x)) xs
map-map f g [] = refl
map-map f g (x ∷ xs) = ap (λ ys. f (g x) ∷ ys) (map-map f g xs)

-- the number of a name is its place among others
named_at : {A : Type 0} (f : A → List ℕ) (xs ys : List A) (y : A) → Differ (map f (xs ++ y ∷ ys))
    → position (bytes_eq (f y)) (map f (xs ++ y ∷ ys)) ≡ Some (length xs)
named_at f xs ys y h =
    let split = map-append f xs (y ∷ ys) in
    ap (position (bytes_eq (f y))) split
    ∙ number_is (map f xs) (map f ys) (f y) (subst Differ split h) ∙ ap Some (length-map xs f)

-- a class of the table, whose inferred fields have some numbers
class_at : (r : Resolved) (k next : ℕ) (before rest : List Class) (c : Class)
    → (n : ℕ) × (slice_get (class_infos r k next (before ++ c ∷ rest)) (length before) ≡ Some
    (class_info r (k + length before) n c))
class_at r k next [] rest c =
    (next, ap (λ j. Some (class_info r j next c)) (sym (add-zero k)))
class_at r k next (b ∷ before) rest c =
    let found = class_at r (k + 1) (next + count_by (λ f. f.inferred) b.fields) before rest c in
    let on : k + 1 + length before ≡ k + suc (length before) = omega arith in
    (found.0, found.1 ∙ ap (λ j. Some (class_info r j found.0 c)) on)

pub names-class_infos : (r : Resolved) (k next : ℕ) (cs : List Class)
    → map (λ c. c.name) (class_infos r k next cs) ≡ map (λ c. c.id.name) cs
names-class_infos r k next [] = refl
names-class_infos r k next (c ∷ cs) =
    ap (λ ns. c.id.name ∷ ns) (names-class_infos r (k + 1) (next + count_by (λ f. f.inferred)
    c.fields) cs)

-- ---- names stand once

module _ (source : Source) (ordered : IsInOrder source) (none : name_faults source ≡ []) where
  abbrev t : Table
  t = table_of source

  abbrev r : Resolved
  r = resolved source

  abbrev w : Written
  w = written_in source

  classes_apart : Apart (map (λ c. c.id) (classes source)) (map (λ c. c.id) (classes source))
  classes_apart =
      apart (map (λ c. c.id) (classes source))
      (none_right _ (doubles (map (λ c. c.id) (classes source)))
      (none_left (program_doubles source) _ (none_left _ (mains_faults (mains source)) none)))

  class_ids_differ : Differ (map (λ id. id.name) (map (λ c. c.id) (classes source)))
  class_ids_differ =
      let all = map (λ c. c.id) (classes source) in
      let ids = map (λ c. c.id) (declared_classes source) in
      let up : Ascend 0 (map (λ id. id.at) ids) =
      subst (Ascend 0) (sym (map-map (λ id. id.at) (λ c. c.id) (declared_classes source)))
      ordered.classes in
      let one : Ident = record { name = codes "ArithmeticException"; at = 0 } in
      let other : Ident = record { name = codes "NullPointerException"; at = 0 } in
      let behind : AllByRecursion (λ id. 0 < id.at) ids = above 0 0 ids (omega arith) up in (
        (
          refl,
          others_differ one ids behind
              (each_is (λ id. AllByRecursion (λ o. doubled o id ≡ false) all)
              (λ id. doubled one id ≡ false) ids (λ id is. is.0) classes_apart.1.1),
        ),
        (
          others_differ other ids behind
              (each_is (λ id. AllByRecursion (λ o. doubled o id ≡ false) all)
              (λ id. doubled other id ≡ false) ids (λ id is. is.1.0) classes_apart.1.1),
          differ 0 ids up (apart_behind (one ∷ other ∷ []) ids classes_apart),
        ),
      )

  class_names_differ : Differ (map (λ c. c.id.name) (classes source))
  class_names_differ =
      subst Differ (map-map (λ id. id.name) (λ c. c.id) (classes source)) class_ids_differ

  -- the class has its place as its number
  pub class_number : (before rest : List Class) (c : Class) → classes source ≡ before ++ c ∷ rest
      → class_named (names_of t) c.id.name ≡ Some (length before)
  class_number before rest c is =
      ap (position (bytes_eq c.id.name)) (names-class_infos r 0 (length r.policies)
      (classes source))
      ∙ ap (λ cs. position (bytes_eq c.id.name) (map (λ k. k.id.name) cs)) is
      ∙ named_at (λ k. k.id.name) before rest c (subst (λ cs. Differ (map (λ k. k.id.name) cs)) is
      class_names_differ)

  pub class_stands : (before rest : List Class) (c : Class) → classes source ≡ before ++ c ∷ rest
      → (n : ℕ) × (slice_get t.classes (length before) ≡ Some (class_info r (length before) n c))
  class_stands before rest c is =
      let found = class_at r 0 (length r.policies) before rest c in (
        found.0,
        ap (λ cs. slice_get (class_infos r 0 (length r.policies) cs) (length before)) is ∙ found.1
            ∙ ap (λ j. Some (class_info r j found.0 c)) (zero-add (length before)),
      )

  -- ---- one method

  pub method_names_differ : (c : Class) → IsKeptClass source c
      → Ascend 0 (map (λ m. m.id.at) c.methods) → Differ (map (λ m. m.id.name) c.methods)
  method_names_differ c (past, h) up =
      let v = view_behind source past in
      let to_channels = none_left _ (flat_map (channel_faults v) c.channels)
      (none_left _ (flat_map (method_faults v c) c.methods) h) in
      let twice : doubles (callee_ids c) ≡ [] = none_right _ (doubles (callee_ids c)) to_channels in
      let ids = map (λ m. m.id) c.methods in
      let ups : Ascend 0 (map (λ id. id.at) ids) =
      subst (Ascend 0) (sym (map-map (λ id. id.at) (λ m. m.id) c.methods)) up in
      subst Differ (map-map (λ id. id.name) (λ m. m.id) c.methods)
      (differ 0 ids ups (apart_behind (map (λ k. k.id) c.channels) ids
      (apart (callee_ids c) twice)))

  pub method_number : (class n : ℕ) (c : Class) (before after : List Method) (m : Method)
      → slice_get t.classes class ≡ Some (class_info r class n c)
      → c.methods ≡ before ++ m ∷ after → Differ (map (λ k. k.id.name) c.methods)
      → numbered (number_in (methods_in (slice_get (names_of t).members class)) m.id.name) ≡ length
      before
  method_number class n c before after m stands is apart_names =
      let members : slice_get (names_of t).members class ≡ Some
      (member_names (class_info r class n c)) =
      slice_get-map member_names t.classes class ∙ ap (option_map member_names) stands in
      ap (λ o. numbered (number_in (methods_in o) m.id.name)) members
      ∙ ap (λ ns. numbered (position (bytes_eq m.id.name) ns))
      (map-map (λ k. k.name) (method_info r class) c.methods)
      ∙ ap (λ ms. numbered (position (bytes_eq m.id.name) (map (λ k. k.id.name) ms))) is
      ∙ ap numbered (named_at (λ k. k.id.name) before after m
      (subst (λ ms. Differ (map (λ k. k.id.name) ms)) is apart_names))

  pub method_stands : (class n : ℕ) (c : Class) (before after : List Method) (m : Method)
      → slice_get t.classes class ≡ Some (class_info r class n c)
      → c.methods ≡ before ++ m ∷ after
      → method_at t class (length before) ≡ Some (method_info r class m)
  method_stands class n c before after m stands is =
      ap (λ o. slice_get (bodies.methods_in o) (length before)) stands
      ∙ slice_get-map (method_info r class) c.methods (length before)
      ∙ ap (λ ms. option_map (method_info r class) (slice_get ms (length before))) is
      ∙ ap (option_map (method_info r class)) (at_length before after m)

  -- ---- its body

  module _ (arities : AllByRecursion (λ lock. lock.arity ≤ 2) (locks source)) (n : ℕ) where
    params_in : (home : Home) (frame : Frame) (ps : List ParamDecl) → AreVars source arities n frame
        → frame.next + length ps ≤ n
        → AreVars source arities n (with_params home frame ps)
    unfolding with_params
    params_in home frame [] h room = h
    params_in home frame (p ∷ ps) h room =
        params_in home (with_local frame p.id.name (param_slot home p) None) ps
        (with_local_in source arities n frame p.id.name (param_slot home p) None h
        (omega (arith, room))) (omega (arith, room))

  pub next_params : (home : Home) (frame : Frame) (ps : List ParamDecl)
      → (with_params home frame ps).next ≡ frame.next + length ps
  unfolding with_params
  next_params home frame [] = sym (add-zero frame.next)
  next_params home frame (p ∷ ps) =
      let on : frame.next + 1 + length ps ≡ frame.next + suc (length ps) = omega arith in
      next_params home (with_local frame p.id.name (param_slot home p) None) ps ∙ on

  pub this_count : (class : ℕ) (b : Bool) → length (this_type class b) ≡ first_number b
  this_count class true = refl
  this_count class false = refl

  length-locals : (class : ℕ) (m : Method)
      → length (local_types r.classes class m) ≡ first_number m.is_static + length m.params
      + braces_locals m.body
  length-locals class m =
      let params = map (λ p. type_of r.classes p.ty) m.params in
      let types = flat_map stmt_types (in_braces m.body) in
      length-append (this_type class m.is_static ++ params) (map (type_of r.classes) types)
      ∙ ap (λ k. k + length (map (type_of r.classes) types))
      (length-append (this_type class m.is_static) params
      ∙ ap (λ k. k + length params) (this_count class m.is_static)
      ∙ ap (λ k. first_number m.is_static + k) (length-map m.params (λ p. type_of r.classes p.ty)))
      ∙ ap (λ k. first_number m.is_static + length m.params + k)
      (length-map types (type_of r.classes) ∙ counts_braces m.body)

  body_in : (c : Class) (home : Home) (class : ℕ) (m : Method) → IsKeptMethod source c m
      → StaInRange t (length (local_types r.classes class m)) (typed_body w home m).body
  body_in c home class m (past, h) =
      let n = length (local_types r.classes class m) in
      let whole = length-locals class m in
      let frame = with_params home (no_frame m.is_static) m.params in
      let next : frame.next ≡ first_number m.is_static + length m.params =
      next_params home (no_frame m.is_static) m.params in
      braces_in source ordered.arities n past (record { own = c; is_static = m.is_static }) home
      frame 0 (map (λ p. p.id.name) m.params) m.body
      (params_in ordered.arities n home (no_frame m.is_static) m.params tt (omega (arith, whole)))
      (omega (arith, whole, next)) (body_kept source past c m h)

  arrivals_are : (class : ℕ) (m : Method)
      → arrivals (method_info r class m) ≡ first_number m.is_static + length m.params
  arrivals_are class m =
      by m.is_static (length (map (param_info r) m.params)) (length m.params)
      (length-map m.params (param_info r)) where
        by : (b : Bool) (n k : ℕ) → n ≡ k → cond b n (suc n) ≡ first_number b + k
        by true n k same = same ∙ sym (zero-add k)
        by false n k same = let one : suc k ≡ 1 + k = omega arith in ap suc same ∙ one

  body_first : (class : ℕ) (home : Home) (m : Method)
      → SetsFirst (set_by_call (method_info r class m)) (typed_body w home m).body
  body_first class home m =
      let n = arrivals (method_info r class m) in
      let whole = arrivals_are class m in
      braces_first w home (range_with_len 0 n) (with_params home (no_frame m.is_static) m.params) 0
      m.body
      (params_set n home (no_frame m.is_static) m.params tt (omega (arith, whole)))

  method_body : (class n : ℕ) (c : Class) (before after : List Method) (m : Method)
      → slice_get t.classes class ≡ Some (class_info r class n c)
      → c.methods ≡ before ++ m ∷ after → Differ (map (λ k. k.id.name) c.methods)
      → IsKeptMethod source c m
      → HasMethod t (typed_method w t (names_of t) class m)
  method_body class n c before after m stands is apart_names keeps =
      let home = home_of t (names_of t) class (result_written (names_of t) m.result) in
      let number = method_number class n c before after m stands is apart_names in (
        method_info r class m,
        record {
          method = ap (method_at t class) number ∙ method_stands class n c before after m stands is;
          points = points_count w home m;
          numbers = body_in c home class m keeps;
          set_first = body_first class home m;
        },
      )

  method_bodies : (class n : ℕ) (c : Class) (before ms : List Method)
      → slice_get t.classes class ≡ Some (class_info r class n c)
      → c.methods ≡ before ++ ms → Differ (map (λ k. k.id.name) c.methods)
      → AllByRecursion (IsKeptMethod source c) ms
      → AllByRecursion (HasMethod t) (typed_methods w t (names_of t) class ms)
  unfolding typed_methods
  method_bodies class n c before [] stands is apart_names keeps = tt
  method_bodies class n c before (m ∷ ms) stands is apart_names keeps = (
    method_body class n c before ms m stands is apart_names keeps.0,
    method_bodies class n c (before ++ m ∷ []) ms stands
        (is ∙ sym (append_assoc before (m ∷ []) ms)) apart_names keeps.1,
  )

  -- ---- the source

  class_bodies : (before rest : List Class) (c : Class) → classes source ≡ before ++ c ∷ rest
      → IsKeptClass source c
      → Ascend 0 (map (λ m. m.id.at) c.methods)
      → AllByRecursion (HasMethod t) (typed_class w t (names_of t) (class_named (names_of t)
      c.id.name) c)
  unfolding typed_class
  class_bodies before rest c is keeps up =
      let stands = class_stands before rest c is in
      subst (λ o. AllByRecursion (HasMethod t) (typed_class w t (names_of t) o c))
      (sym (class_number before rest c is))
      (method_bodies (length before) stands.0 c [] c.methods stands.1 refl
      (method_names_differ c keeps up) (methods_kept source c keeps))

  declaration_bodies : (before : List Class) (ds : List Declaration)
      → classes source ≡ before ++ flat_map classes_in ds
      → AllByRecursion (IsKept source) ds
      → AllByRecursion (λ c. Ascend 0 (map (λ m. m.id.at) c.methods)) (flat_map classes_in ds)
      → AllByRecursion (HasMethod t) (typed_declarations w t (names_of t) ds)
  unfolding typed_declarations typed_declaration
  declaration_bodies before [] is keeps up = tt
  declaration_bodies before (plain.Actors ids ∷ ds) is keeps up =
      declaration_bodies before ds is keeps.1 up
  declaration_bodies before (plain.Lock lock ∷ ds) is keeps up =
      declaration_bodies before ds is keeps.1 up
  declaration_bodies before (plain.Policy policy ∷ ds) is keeps up =
      declaration_bodies before ds is keeps.1 up
  declaration_bodies before (plain.Declared c ∷ ds) is keeps up =
      of_both (HasMethod t) _ _ (class_bodies before (flat_map classes_in ds) c is keeps.0 up.0)
      (declaration_bodies (before ++ c ∷ []) ds
      (is ∙ sym (append_assoc before (c ∷ []) (flat_map classes_in ds))) keeps.1 up.1)

  pub bodies_have_methods : AllByRecursion (HasMethod t) (bodies_of source)
  bodies_have_methods = declaration_bodies builtins source refl (kept source none) ordered.methods
