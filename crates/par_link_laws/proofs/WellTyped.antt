-- Well-typed programs are linkable without their policies.
use Rattle.std.proofs.Common.{◌≡◌, ℕ, false, List, [], ◌∷◌, map, Some, sym, ap}
use Rattle.std.proofs.Common.{subst, ◌∙◌, arith}
use Rattle.std.proofs.lemmas.List.{length-map, length-drop}
use Rattle.std.specs.List.{AllByRecursion}
use Rattle.par_typed.specs.declared.ty.Ty.{Ty}
use Rattle.par_typed.specs.declared.table.MethodInfo.{MethodInfo}
use Rattle.par_typed.specs.declared.table.Table.{Table}
use Rattle.par_typed.specs.Plain.{TSta, Body}
use Rattle.par_program_laws.specs.Locals.{set_by_call}
use Rattle.par_typed.specs.Members.{method_at}
use Rattle.par_program_laws.specs.Proper.{IsProper, IsProperOf}
use Rattle.par_run_laws.specs.Names.{body_of}
use Rattle.par_erase.specs.Asked.{Locks, asked_in}
use Rattle.par_erase.specs.Erased.{erased_table, erased_class, erased_method, erased_sta}
use Rattle.par_erase.specs.Erased.{erased_bodies}
use Rattle.par_source_code_laws.specs.par_typed_laws.Tables.{IsType}
use Rattle.par_source_code_laws.specs.par_typed_laws.WellTyped.{IsWellTyped}
use Rattle.par_code_form.specs.Method.{labelled}
use Rattle.par_code_form.specs.Named.{words_of}
use Rattle.par_compile_laws.specs.Files.{FIRST_DECLARED}
use Rattle.par_source_code_laws.specs.Laws.{erased_body}
use Rattle.par_source_code_laws.proofs.Bodies.{bodies_are_erased, IsFound, found}
use Rattle.par_source_code_laws.proofs.Members.{method_erased}
use Rattle.par_link_laws.specs.Bodies.{IsTypeIn, StaLinks, BodyLinks}
use Rattle.par_link_laws.specs.Linkable.{CodeNamesThere}
use Rattle.par_link_laws.proofs.Frames.{body-there}
use Rattle.par_link_laws.specs.LinkableLaws.{WellTypedProgramsAreLinkable}
use Rattle.par_link_laws.proofs.Bodies.{type-in, method-range, class-there, sta-links}
use Rattle.par_link_laws.proofs.Tables.{built-ins, classes-link, names-apart, has-main}

module _ (t : Table) (bodies : List Body) (well : IsWellTyped t bodies) where
  abbrev plain : Table
  plain = erased_table t

  abbrev asked : Locks
  asked = asked_in bodies

  types-in : (us : List Ty) → AllByRecursion (IsType t) us
      → AllByRecursion (IsTypeIn plain) us
  types-in [] h = tt
  types-in (u ∷ us) h = (type-in t asked well.in_range u h.0, types-in us h.1)

  same-method : (m n : MethodInfo) → Some m ≡ Some n → m ≡ n
  same-method m n e = cc e

  -- the body of a method links
  body-links : (c i : ℕ) (m : MethodInfo) (body : TSta) → method_at plain c i ≡ Some m
      → IsFound (IsProper t) (erased_sta t asked) c i body → BodyLinks plain m body
  body-links c i m body at f =
      let known = f.known in
      let own : MethodInfo = known.0 in
      let proper : IsProperOf t f.body own known.1 = known.2 in
      let there : method_at t c i ≡ Some own =
      ap (λ (n : ℕ). method_at t n i) (sym f.class)
      ∙ ap (λ (n : ℕ). method_at t (f.body).class n) (sym f.method) ∙ proper.method in
      let same : erased_method own ≡ m =
      same-method (erased_method own) m (sym (method_erased t c i own there) ∙ at) in
      let in_range = method-range t asked well.in_range c i own there in
      let within = class-there t asked well.in_range (f.body).class (f.body).method own
      proper.method in
      subst (λ (x : MethodInfo). BodyLinks plain x body) same (record {
        locals = types-in own.locals in_range.locals;
        code =
            subst (StaLinks plain) f.is
            (sta-links t asked well.in_range (f.body).class own known.1 within in_range.locals
            false (set_by_call own) (f.body).body proper.code);
      })

  code-there : (c i : ℕ) (m : MethodInfo) (body : TSta) → method_at plain c i ≡ Some m
      → body_of (erased_bodies t bodies) c i ≡ Some body
      → CodeNamesThere plain (labelled (words_of plain) m body)
  code-there c i m body at is =
      let one : body_of (map (erased_body t asked) bodies) c i ≡ Some body =
      ap (λ (bs : List Body). body_of bs c i) (sym (bodies_are_erased t bodies well.one_each))
      ∙ is in
      body-there plain m body
      (body-links c i m body at (found t asked (IsProper t) c i body bodies well.proper one))

pub well_typed_programs_are_linkable : WellTypedProgramsAreLinkable
well_typed_programs_are_linkable t bodies well apart named = record {
  few =
      omega (
        arith,
        length-drop FIRST_DECLARED (map erased_class t.classes),
        length-map t.classes erased_class,
        well.few_classes,
      );
  built_in = built-ins t well.built_in well.signed;
  classes = classes-link t well.in_range named well.signed;
  apart = names-apart t apart;
  main = has-main t well.main;
  code = code-there t bodies well;
}
