-- The code of each well-typed body can be placed.
use Rattle.std.proofs.Common.{◌≡◌, ◌≤◌, length, Bool, List, [], ◌∷◌, Some, false, arith, refl, sym}
use Rattle.std.proofs.Common.{subst, ◌∙◌}
use Rattle.std.specs.Prelude.{slice_get}
use Rattle.std.specs.List.{AllByRecursion}
use Rattle.par_typed.specs.declared.table.MethodInfo.{MethodInfo}
use Rattle.par_typed.specs.declared.table.Table.{Table}
use Rattle.par_typed.specs.Plain.{Body}
use Rattle.par_typed_laws.specs.par_program_laws.Forms.{Setting}
use Rattle.par_typed_laws.specs.par_program_laws.Locals.{set_by_call}
use Rattle.par_typed.specs.Members.{method_at}
use Rattle.par_typed_laws.specs.par_program_laws.Proper.{IsProper, IsProperOf}
use Rattle.par_code_form.specs.Code.{Words}
use Rattle.par_code_form.specs.Method.{labelled, first_scope}
use Rattle.par_erase.specs.Asked.{Locks}
use Rattle.par_erase.specs.Erased.{erased_method, erased_sta}
use Rattle.par_typed_laws.specs.Sizes.{IsSmallBody}
use Rattle.par_typed_laws.specs.Tables.{IsInRange}
use Rattle.par_source_code_laws.specs.Texts.{AreTexts}
use Rattle.par_typed_laws.specs.Blocks.{HasBlocks}
use Rattle.par_source_code_laws.specs.PlaceableLaws.{IsReadyBody, LabelledCodeIsPlaceable}
use Rattle.par_source_code_laws.specs.PlaceableLaws.{NamesClasses}
use Rattle.par_source_code_laws.specs.PlaceableLaws.{FramesNameClasses}
use Rattle.par_source_code_laws.specs.Slots.{IsOfClasses}
use Rattle.par_source_code_laws.proofs.Fitting.{StaFits}
use Rattle.par_source_code_laws.proofs.PlaceableCode.{is_placeable, few_entries}
use Rattle.par_source_code_laws.proofs.PlaceableCode.{frames_are_placeable}
use Rattle.par_source_code_laws.proofs.KeptBodies.{sta_fits, sta_size, blocks_kept}
use Rattle.par_source_code_laws.proofs.Slots.{first_below, frames_below}
use Rattle.par_source_code_laws.proofs.Ranges.{types_below, method_in, body_below}

module _ (t : Table) (few : length t.locks ≤ 256) (w : Words) (texts : AreTexts w)
    (asked : Locks) (m : MethodInfo) where
  ready : (b : Body) → IsProper t b → IsSmallBody t b → HasBlocks b.body
      → IsReadyBody t w asked m b
  ready b (info, sures, proper) (other, small) blocks =
      let setting : Setting =
      record { table = t; class = b.class; method = info; sures = sures } in
      let s = erased_sta t asked b.body in
      let fits : StaFits false s =
      sta_fits setting asked few false (set_by_call info) b.body proper.code in
      let whole = blocks_kept t asked b.body blocks in
      let same = sta_size t asked b.body in
      let nodes = small.nodes in
      let most = small.few in
      let needs = few_entries w texts s fits whole m in
      record {
        placeable = is_placeable w texts s fits whole m (omega (arith, same, nodes, most));
        framed = frames_are_placeable w s m fits;
        few = omega (arith, same, needs);
      }

  all_of : (bodies : List Body) → AllByRecursion (IsProper t) bodies
      → AllByRecursion (IsSmallBody t) bodies → AllByRecursion (λ b. HasBlocks b.body) bodies
      → AllByRecursion (IsReadyBody t w asked m) bodies
  all_of [] p s h = tt
  all_of (b ∷ bs) p s h = (ready b p.0 s.0 h.0, all_of bs p.1 s.1 h.1)

pub all_ready : LabelledCodeIsPlaceable
all_ready t bodies typed w texts asked m =
    all_of t typed.in_range.few_locks w texts asked m bodies typed.proper typed.small typed.blocks

-- ---- the classes that frames name

module _ (t : Table) (range : IsInRange t) (w : Words) (asked : Locks) where
  same_method : (b : Body) (info m : MethodInfo) → method_at t b.class b.method ≡ Some info
      → method_at t b.class b.method ≡ Some m → info ≡ m
  same_method b info m h k = let both : Some info ≡ Some m = sym h ∙ k in cc

  own_classes : (b : Body) (info : MethodInfo) (sures : List Bool) → IsProperOf t b info sures
      → AllByRecursion (IsOfClasses w (length t.classes))
      (labelled w (erased_method info) (erased_sta t asked b.body)).frames
  own_classes b info sures proper =
      let setting : Setting =
      record { table = t; class = b.class; method = info; sures = sures } in
      let there =
      method_in t range b.class b.method (slice_get t.classes b.class) info refl proper.method in
      let locals = types_below t range info.locals there.locals in
      frames_below (length t.classes) w info.locals locals (erased_sta t asked b.body) 0
      (first_scope (erased_method info)) []
      (body_below setting range locals asked false (set_by_call info) b.body proper.code)
      (first_below (length t.classes) (erased_method info) locals) tt

  named : (b : Body) → IsProper t b → NamesClasses t w asked b
  named b (info, sures, proper) m h =
      subst (λ (k : MethodInfo). AllByRecursion (IsOfClasses w (length t.classes))
      (labelled w (erased_method k) (erased_sta t asked b.body)).frames)
      (same_method b info m proper.method h) (own_classes b info sures proper)

  each_named : (bodies : List Body) → AllByRecursion (IsProper t) bodies
      → AllByRecursion (NamesClasses t w asked) bodies
  each_named [] p = tt
  each_named (b ∷ bs) p = (named b p.0, each_named bs p.1)

pub all_named : FramesNameClasses
all_named t bodies typed w asked = each_named t typed.in_range w asked bodies typed.proper
