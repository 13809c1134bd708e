-- What the descriptors of loaded class files say of their members.
use Rattle.std.proofs.Common.{◌≡◌, ℕ, suc, ◌+◌, ◌⊎◌, inl, inr, Bool, true, false, List, [], ◌∷◌}
use Rattle.std.proofs.Common.{length, map, Option}
use Rattle.std.proofs.Common.{Some, None, slice_get, refl, sym, ap, subst, ◌∙◌}
use Rattle.std.specs.Prelude.{if◌then◌else◌}
use Rattle.std.specs.List.{AllByRecursion}
use Rattle.par_typed.specs.declared.ty.Ty.{Ty}
use Rattle.par_typed.specs.declared.ty.Ty.TheVariants as ty
use Rattle.par_typed.specs.declared.table.MethodInfo.{MethodInfo}
use Rattle.par_typed.specs.declared.table.ParamInfo.{ParamInfo}
use Rattle.par_typed.specs.declared.table.Table.{Table}
use Rattle.par_typed.specs.Plain.{TSta, Body}
use Rattle.par_class.specs.declared.file.ClassFile.{ClassFile}
use Rattle.par_values.specs.declared.kind.Kind.{Kind}
use Rattle.par_values.specs.Areas.{Name}
use Rattle.par_values.specs.Areas as areas
use Rattle.par_single.specs.declared.descriptor.Signature.{Signature}
use Rattle.par_single.specs.Links.{signature_said, signature_or_none}
use Rattle.par_single.specs.Members.{is_static}
use Rattle.par_file_run_laws.specs.par_step_laws.Classes.{class_names}
use Rattle.par_file_run_laws.specs.par_step_laws.Methods.{pool_of, methods_of, descriptor_in}
use Rattle.par_file_run_laws.specs.par_step_laws.Methods.{method_descriptor}
use Rattle.par_run_laws.specs.Names.{body_of}
use Rattle.par_code_form.specs.Code.{Words}
use Rattle.par_code_form.specs.Frames.{Types}
use Rattle.par_code_form.specs.Named.{class_word, words_of}
use Rattle.par_placed_fit_laws.specs.par_evaluation_laws.Laid.{Layout, Meth, IsMade, IsThrown}
use Rattle.par_placed_fit_laws.specs.par_evaluation_laws.Laid.{given_types}
use Rattle.par_placed_fit_laws.specs.par_evaluation_laws.Programs.{IsCompiled}
use Rattle.par_compile_laws.specs.DescriptorLaws.{IsValueType, IsResultType}
use Rattle.par_compile_laws.specs.DescriptorLaws as said
use Rattle.par_compile_laws.proofs.Described.{methods_are_described}
use Rattle.par_file_run_laws.specs.par_compile_laws.Members.{Member, members, method}
use Rattle.par_file_run_laws.specs.par_source_code_laws.Methods.{meth}
use Rattle.par_file_run_laws.specs.par_match_laws.Naming.{naming_of}
use Rattle.par_file_run_laws.specs.Layout.{layout_of}
use Rattle.par_file_run_laws.specs.Code.{labelled_of}
use Rattle.par_file_run_laws.specs.Parts.{Known}
use Rattle.par_file_run_laws.proofs.Known.{Stands, number-is}
use Rattle.par_file_run_laws.proofs.Fields.{static-access}
use Rattle.par_file_run_laws.proofs.Callees.{there, type-said, method-at}
use Rattle.par_file_run_laws.proofs.Classes.{numbered}
use Rattle.par_file_run_laws.proofs.Held.{FieldIn, MethodIn, static-here, static-in}
use Rattle.par_file_run_laws.proofs.Held.{own-here, own-in}
use Rattle.par_file_run_laws.proofs.Held.{method-here, method-in}
use Rattle.par_kinds.specs.declared.frame.VKind.{VKind}
use Rattle.par_kinds.specs.declared.frame.VKind.TheVariants.{Object as AnObject}
use Rattle.par_kinds.specs.Kinds.{vkind}
use Rattle.par_kinds.specs.Linked.{result_of, taken_by, static_in, static_at}
use Rattle.par_kinds.specs.Linked.{given_to}
use Rattle.par_kinds.specs.Linked.{arguments_of}
use Rattle.par_placed_fit_laws.specs.Signs.{kind, kinds}
use Rattle.par_program_laws.specs.Types.{IsValue}
use Rattle.par_placed_fit_laws.specs.ItemLaws.{AreDescribed}

-- ---- types

value_declared : (table : Table) (t : Ty) → IsValueType table t → IsValue t
value_declared table ty.Int h = tt
value_declared table ty.Boolean h = tt
value_declared table (ty.Class c) h = tt
value_declared table ty.Null h = absurd h
value_declared table ty.Void h = absurd h

no_null : (table : Table) (t : Ty) → IsResultType table t → t ≡ ty.Null → ⊥
no_null table ty.Int h e = cc e
no_null table ty.Boolean h e = cc e
no_null table (ty.Class c) h e = cc e
no_null table ty.Null h e = h
no_null table ty.Void h e = cc e

kind_said : (table : Table) (t : Ty) → IsValueType table t
    → vkind (said.kind_of table t) ≡ kind (words_of table) t
kind_said table ty.Int h = refl
kind_said table ty.Boolean h = refl
kind_said table (ty.Class c) h = refl
kind_said table ty.Null h = absurd h
kind_said table ty.Void h = absurd h

kinds_said : (table : Table) (ps : List ParamInfo)
    → AllByRecursion (λ p. IsValueType table p.ty) ps
    → map vkind (map (λ p. said.kind_of table p.ty) ps)
    ≡ kinds (words_of table) (map (λ p. p.ty) ps)
kinds_said table [] all = refl
kinds_said table (p ∷ ps) all =
    ap (λ (k : VKind). k ∷ map vkind (map (λ q. said.kind_of table q.ty) ps))
    (kind_said table p.ty all.0)
    ∙ ap (λ (ks : List VKind). kind (words_of table) p.ty ∷ ks) (kinds_said table ps all.1)

-- ---- what is laid out

module _ (table : Table) (bodies : List Body) (files : List ClassFile)
    (known : Known table bodies files) where
  abbrev lay : Layout
  lay = layout_of files table bodies

  abbrev w : Words
  w = words_of table

  field_declared : (c n : ℕ) (s : Stands table bodies files c n) (f : ℕ) (shared : Bool) (u : Ty)
      → FieldIn s.class f shared u → IsValue u
  field_declared c n s f shared u is =
      subst IsValue is.type
      (value_declared table is.info.ty
      ((known.classes c s.class s.there).fields f is.info is.has))

  result_typed : (c n : ℕ) (s : Stands table bodies files c n) (i : ℕ) (me : Meth)
      → MethodIn bodies s.class c i me → me.result ≡ ty.Null → ⊥
  result_typed c n s i me is =
      subst (λ (x : Meth). x.result ≡ ty.Null → ⊥) is.is
      (no_null table is.info.result
      ((known.classes c s.class s.there).methods i is.info is.has).1.result)

  pub described : IsCompiled (naming_of files) (labelled_of table bodies files) w lay table bodies
      → AreDescribed files w lay
  described compiled = record {
    static_declared = λ c f u h.
        let at = static-here table bodies files known c f u h in
        field_declared c at.0 at.1 f true u
        (static-in table bodies files known c f u h at.0 at.1);
    own_declared = λ c f u h.
        let at = own-here table bodies files known c f u h in
        field_declared c at.0 at.1 f false u (own-in table bodies files known c f u h at.0 at.1);
    given = λ c i me h. (compiled.methods c i me h).gives;
    result = λ c i me h.
        let at = method-here table bodies files known c i me h in
        result_typed c at.0 at.1 i me (method-in table bodies files known c i me h at.0 at.1);
    nothing = λ c at h is. nothing compiled c at h is;
  }
    where
      nothing : IsCompiled (naming_of files) (labelled_of table bodies files) w lay table bodies
          → (c at : ℕ) → IsMade lay c ⊎ IsThrown lay c → lay.init_at c ≡ Some at
          → result_of files (lay.number c) at ≡ None
      nothing compiled c at (inl h) is = (compiled.inits.made c at h is).gives
      nothing compiled c at (inr h) is = (compiled.inits.thrown c at h is).gives

  -- ---- a method of a loaded class

  module _ (c n : ℕ) (s : Stands table bodies files c n) where
    -- the name of its class
    pub class_said : areas.class_named (class_names files) n ≡ class_word table c
    class_said =
        ap (λ (k : ℕ). areas.class_named (class_names files) k)
        (sym (number-is table bodies files known c n s))
        ∙ ap areas.name_or_none (numbered table bodies files known c n s).shown

    pub descriptor_said : (p : ℕ) (m : Member)
        → slice_get (members table bodies c s.class) p ≡ Some m
        → method_descriptor files n p ≡ m.descriptor
    descriptor_said p m has =
        ap (λ (o : Option ClassFile). descriptor_in (pool_of o) (slice_get (methods_of o) p))
        s.listed
        ∙ ap (descriptor_in s.file.pool.entries)
        (there table bodies files known c n s p m has).stands
        ∙ type-said table bodies files known c n s p m has

    pub access_said : (p : ℕ) (m : Member)
        → slice_get (members table bodies c s.class) p ≡ Some m
        → static_at files n p ≡ is_static m.access
    access_said p m has =
        let here = there table bodies files known c n s p m has in
        ap (λ (o : Option ClassFile). static_in (slice_get (methods_of o) p)) s.listed
        ∙ ap static_in here.stands ∙ ap is_static here.related.access

    -- receiver and arguments have the kinds of their types
    module _ (i : ℕ) (info : MethodInfo) (body : TSta)
        (has : slice_get s.class.methods i ≡ Some info) where
      abbrev at : ℕ
      at = suc (length s.class.channels + i)

      by_static : (b : Bool) (ks : List Kind) (ts : Types) → map vkind ks ≡ kinds w ts
          → map vkind (given_to b (class_word table c) ks)
          ≡ kinds w (if b then ts else ty.Class c ∷ ts)
      by_static true ks ts same = same
      by_static false ks ts same =
          ap (λ (rest : List VKind). AnObject (class_word table c) ∷ rest) same

      pub arguments_said : arguments_of files n at ≡ kinds w (given_types c (meth info body))
      arguments_said =
          let m = method table bodies info (body_of bodies c i) in
          let there_ = method-at table bodies c s.class i info has in
          let values = ((known.classes c s.class s.there).methods i info has).1 in
          let taken = taken_by files n at in
          let takes = map (λ p. said.kind_of table p.ty) info.params in
          let taken_is : taken ≡ takes =
          ap (λ (d : Name). (signature_said d).takes) (descriptor_said at m there_)
          ∙ ap (λ (g : Signature). g.takes)
          (ap signature_or_none (methods_are_described table info values)) in
          ap (λ (b : Bool). map vkind (given_to b (areas.class_named (class_names files) n) taken))
          (access_said at m there_ ∙ static-access info.is_static)
          ∙ ap (λ (name : Name). map vkind (given_to info.is_static name taken)) class_said
          ∙ ap (λ (ks : List Kind). map vkind (given_to info.is_static (class_word table c) ks))
          taken_is
          ∙ by_static info.is_static takes (map (λ p. p.ty) info.params)
          (kinds_said table info.params values.params)
