-- The code of a method of a well-typed program is what a run asks of it.
use Rattle.std.proofs.Common.{◌≡◌, ℕ, zero, suc, ◌<◌, Bool, true, false, cond, List, []}
use Rattle.std.proofs.Common.{◌∷◌, ◌++◌, map, length, Option, Some, None, refl, sym, ap, ◌∙◌, subst}
use Rattle.std.proofs.Common.{arith, not}
use Rattle.std.specs.Prelude.{if◌then◌else◌, slice_get}
use Rattle.std.specs.Option.{unwrap_or}
use Rattle.std.specs.List.{range_with_len}
use Rattle.std.proofs.lemmas.List.{length-map}
use Rattle.par_typed.specs.declared.ty.Ty.{Ty}
use Rattle.par_typed.specs.declared.ty.Ty.TheVariants as ty
use Rattle.par_typed.specs.declared.table.ParamInfo.{ParamInfo}
use Rattle.par_typed.specs.declared.table.MethodInfo.{MethodInfo}
use Rattle.par_typed.specs.declared.table.Table.{Table}
use Rattle.par_typed.specs.Plain.{TSta, Body}
use Rattle.par_typed_laws.specs.par_completes.Typed.{completes}
use Rattle.par_typed.specs.Members.{method_at}
use Rattle.par_typed_laws.specs.par_program_laws.Locals.{BeginsWith, arriving, arrivals}
use Rattle.par_typed_laws.specs.par_program_laws.Forms.{Setting}
use Rattle.par_typed_laws.specs.par_program_laws.Proper.{IsProper, IsProperOf}
use Rattle.par_evaluation_laws.specs.par_run_laws.Names.{body_of}
use Rattle.par_erase.specs.Asked.{asked_in}
use Rattle.par_erase.specs.Erased.{erased_table, erased_method, erased_sta}
use Rattle.par_erase.specs.Erased.{erased_bodies}
use Rattle.par_evaluation_laws.specs.par_code_form.Code.{Words}
use Rattle.par_evaluation_laws.specs.par_match_laws.Labelled.{Labelled}
use Rattle.par_evaluation_laws.specs.Laid.{Layout, Meth, given_types}
use Rattle.par_evaluation_laws.specs.Programs.{Coded, first_set}
use Rattle.par_source_code_laws.specs.Named.{EachInSta}
use Rattle.par_source_code_laws.specs.Methods.{meth, may_meth, local_type, IsLaid, IsCodeOf}
use Rattle.par_source_code_laws.specs.Methods.{is_ordinary, static_type, own_type}
use Rattle.par_typed.specs.Members.{class_is_exception}
use Rattle.par_source_code_laws.specs.Methods.{is_input}
use Rattle.par_source_code_laws.specs.Methods.{is_output}
use Rattle.par_source_code_laws.specs.Laws.{WellTypedBodiesAreCoded, ErasedBodiesComplete}
use Rattle.par_source_code_laws.proofs.Laying.{Lays}
use Rattle.par_source_code_laws.proofs.Members.{class_erased, field_erased, method_erased}
use Rattle.par_source_code_laws.proofs.Members.{input_erased}
use Rattle.par_source_code_laws.proofs.Members.{output_erased, same_takes}
use Rattle.par_source_code_laws.proofs.Kept.{methods_are_kept}
use Rattle.par_source_code_laws.proofs.Bodies.{bodies_are_erased, found}
use Rattle.par_source_code_laws.proofs.Marks.{completes_of}
use Rattle.par_source_code_laws.proofs.Operators.{ends_in_nothing}
use Rattle.par_source_code_laws.proofs.Sets.{Within, call_within}
use Rattle.par_source_code_laws.proofs.Stas.{typed_sta}

-- ---- methods

-- where a method has a body, both are there
record IsMeth (o : Option MethodInfo) (b : Option TSta) (me : Meth) : Type 0 where
  info : MethodInfo
  body : TSta
  has_info : o ≡ Some info
  has_body : b ≡ Some body
  is : meth info body ≡ me

is_meth : (o : Option MethodInfo) (b : Option TSta) (me : Meth) → may_meth o b ≡ Some me
    → IsMeth o b me
is_meth None b me h = absurd (cc)
is_meth (Some m) None me h = absurd (cc)
is_meth (Some m) (Some s) me h =
    record { info = m; body = s; has_info = refl; has_body = refl; is = cc }

-- ---- layouts

module _ (t : Table) (bodies : List Body) (lay : Layout) where
  lays : Lays t lay (IsLaid lay (erased_table t) (erased_bodies t bodies))
  lays = record {
    made = λ c info there ordinary is.
        is ∙ ap is_ordinary (class_erased t c info there) ∙ ap not ordinary;
    raised = λ c info there exception is.
        is ∙ ap class_is_exception (class_erased t c info there) ∙ exception;
    static = λ c f info there kind is.
        is ∙ ap static_type (field_erased t c f info there)
        ∙ ap (λ b. if b then Some info.ty else None) kind;
    own = λ c f info there kind is.
        is ∙ ap own_type (field_erased t c f info there)
        ∙ ap (λ b. if b then None else Some info.ty) kind;
    input = λ c k info there kind is.
        is ∙ ap is_input (input_erased t c k info there kind);
    output = λ c k info there kind is.
        is ∙ ap is_output (output_erased t c k info there kind);
    method = λ c i info there is.
        let kept = methods_are_kept t bodies c i info there in (
          meth (erased_method info) kept.0,
          is ∙ kept.1,
          record { static = refl; takes = same_takes info.params; result = refl },
        );
    lock = λ l is. is;
  }

-- ---- what a call sets

given_are : (is_static : Bool) (c : ℕ) (us : List Ty)
    → (if is_static then us else ty.Class c ∷ us) ≡ cond is_static [] (ty.Class c ∷ []) ++ us
given_are true c us = refl
given_are false c us = refl

many_given : (is_static : Bool) (c : ℕ) (us : List Ty)
    → length (if is_static then us else ty.Class c ∷ us)
    ≡ cond is_static (length us) (suc (length us))
many_given true c us = refl
many_given false c us = refl

first_local : (us rest : List Ty) (x : ℕ) → x < length us
    → slice_get us x ≡ Some (local_type (us ++ rest) x)
first_local [] rest x few = absurd (omega arith)
first_local (u ∷ us) rest zero few = refl
first_local (u ∷ us) rest (suc x) few = first_local us rest x (omega arith)

module _ (c : ℕ) (m : MethodInfo) (body : TSta) where
  abbrev me : Meth
  me = meth (erased_method m) body

  arrive : given_types c me ≡ arriving c m
  arrive =
      ap (λ us. if m.is_static then us else ty.Class c ∷ us) (same_takes m.params)
      ∙ given_are m.is_static c (map (λ (p : ParamInfo). p.ty) m.params)

  many_arrive : length (given_types c me) ≡ arrivals m
  many_arrive =
      ap (λ us. length (if m.is_static then us else ty.Class c ∷ us)) (same_takes m.params)
      ∙ many_given m.is_static c (map (λ (p : ParamInfo). p.ty) m.params)
      ∙ ap (λ n. cond m.is_static n (suc n)) (length-map m.params (λ (p : ParamInfo). p.ty))

  first_locals : BeginsWith (arriving c m) m.locals → (x : ℕ) → x < length (given_types c me)
      → slice_get (given_types c me) x ≡ Some (me.types x)
  first_locals (rest, is) x few =
      ap (λ us. slice_get us x) arrive
      ∙ first_local (arriving c m) rest x (subst (λ us. x < length us) arrive few)
      ∙ ap (λ us. Some (local_type us x)) (sym is)

-- ---- bodies

module _ (t : Table) (bodies : List Body) (labelled : ℕ → ℕ → Labelled) (w : Words)
    (lay : Layout) (c i : ℕ) where
  abbrev asked : ℕ → Bool
  asked = asked_in bodies

  coded : (b : Body) (m : MethodInfo) (sures : List Bool) → IsProperOf t b m sures
      → b.class ≡ c → body_of (erased_bodies t bodies) c i ≡ Some (erased_sta t asked b.body)
      → IsCodeOf (labelled (lay.number c) (lay.method_at c i)) w
      (meth (erased_method m) (erased_sta t asked b.body))
      → EachInSta (IsLaid lay (erased_table t) (erased_bodies t bodies)) (erased_sta t asked b.body)
      → Coded labelled w lay (erased_bodies t bodies) c i
      (meth (erased_method m) (erased_sta t asked b.body))
  coded b m sures p class stands code each =
      let body = erased_sta t asked b.body in
      let s : Setting = record { table = t; class = b.class; method = m; sures = sures } in
      let n = length (given_types c (meth (erased_method m) body)) in
      let within : Within (range_with_len 0 (arrivals m)) (first_set n) =
      subst (λ k. Within (range_with_len 0 k) (first_set n)) (many_arrive c m body)
      (call_within n) in
      record {
        items = code.items;
        handlers_are = code.handlers;
        gives = code.gives;
        body_is = stands;
        locals = first_locals c m body
            (subst (λ k. BeginsWith (arriving k m) m.locals) class p.arrive);
        typed = typed_sta s asked lay (IsLaid lay (erased_table t) (erased_bodies t bodies))
            (lays t bodies lay) (local_type m.locals)
            (λ x u is. ap (λ o. unwrap_or o ty.Void) is)
            (labelled (lay.number c) (lay.method_at c i)).max_stack false _ (first_set n) within
            b.body p.code each code.room;
        ends = λ is. ends_in_nothing m.result (completes b.body) p.ended
            (sym (completes_of t asked b.body) ∙ is);
      }

pub well_typed_bodies_are_coded : WellTypedBodiesAreCoded
well_typed_bodies_are_coded t bodies order proper labelled w lay c i me stands =
    let asked = asked_in bodies in
    let here = is_meth (method_at (erased_table t) c i) (body_of (erased_bodies t bodies) c i) me
    stands in
    let one = found t asked (IsProper t) c i here.body bodies proper
    (ap (λ bs. body_of bs c i) (sym (bodies_are_erased t bodies order)) ∙ here.has_body) in
    let b = one.body in
    let m = one.known.0 in
    let p = one.known.2 in
    let there : method_at t c i ≡ Some m =
    subst (λ k. method_at t c k ≡ Some m) one.method
    (subst (λ k. method_at t k b.method ≡ Some m) one.class p.method) in
    let same : here.info ≡ erased_method m = cc (here.has_info, method_erased t c i m there) in
    let is : meth (erased_method m) (erased_sta t asked b.body) ≡ me =
    ap (λ s. meth (erased_method m) s) one.is ∙ ap (λ m. meth m here.body) (sym same)
    ∙ here.is in
    subst (λ (me : Meth). IsCodeOf (labelled (lay.number c) (lay.method_at c i)) w me
    → EachInSta (IsLaid lay (erased_table t) (erased_bodies t bodies)) me.body
    → Coded labelled w lay (erased_bodies t bodies) c i me) is
    (coded t bodies labelled w lay c i b m one.known.1 p one.class
    (here.has_body ∙ ap Some (sym one.is)))

pub erased_bodies_complete : ErasedBodiesComplete
erased_bodies_complete t asked s = completes_of t asked s
