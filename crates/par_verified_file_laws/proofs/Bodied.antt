-- Frames fit a method with a body in its loaded file.
use Rattle.std.proofs.Common.{◌≡◌, ℕ, suc, ◌+◌, ◌≤◌, false, List, [], map, Option, Some, None}
use Rattle.std.proofs.Common.{length, slice_get, is_some, refl, sym, ap, subst, ◌∙◌}
use Rattle.std.specs.Prelude.{if◌then◌else◌}
use Rattle.par_pool.specs.declared.constant.Constant.{Constant}
use Rattle.par_typed.specs.declared.table.ClassInfo.{ClassInfo}
use Rattle.par_typed.specs.declared.table.MethodInfo.{MethodInfo}
use Rattle.par_typed.specs.declared.table.Table.{Table}
use Rattle.par_typed.specs.Plain.{TSta, Body}
use Rattle.par_typed.specs.Members.{methods_in, method_at}
use Rattle.par_file_run_laws.specs.par_typed_laws.Control.{IsControlled}
use Rattle.par_erase.specs.Asked.{Locks, asked_in}
use Rattle.par_erase.specs.Erased.{erased_table, erased_sta, erased_bodies}
use Rattle.par_run_laws.specs.Names.{body_of}
use Rattle.par_class.specs.declared.file.ClassFile.{ClassFile}
use Rattle.par_class.specs.declared.file.CodeAttr.{CodeAttr}
use Rattle.par_values.specs.declared.kind.Kind.{Kind}
use Rattle.par_values.specs.Areas.{Name}
use Rattle.par_file_run_laws.specs.par_step_laws.Methods.{class_pool, method_code}
use Rattle.par_code_form.specs.declared.item.Item.{Item}
use Rattle.par_code_form.specs.declared.labelled.Labelled.{Labelled}
use Rattle.par_code_form.specs.Code.{Words}
use Rattle.par_code_form.specs.Method.{labelled}
use Rattle.par_code_form.specs.Named.{words_of}
use Rattle.par_code_form.specs.Operands.{top}
use Rattle.par_code_form.specs.Placed.{offset_of, IsPlaced}
use Rattle.par_code_form.specs.Placeable.{IsPlaceable}
use Rattle.par_code_form.specs.PlaceableFrames.{AreFramesPlaceable}
use Rattle.par_file_run_laws.specs.par_source_code_laws.PlaceableLaws.{IsReadyBody}
use Rattle.par_placed_fit_laws.specs.par_evaluation_laws.Laid.{Layout, Meth, HasMethod, TypedS}
use Rattle.par_placed_fit_laws.specs.par_evaluation_laws.Laid.{given_types}
use Rattle.par_placed_fit_laws.specs.par_evaluation_laws.Programs.{Coded, first_set, given_kind}
use Rattle.par_file_run_laws.specs.par_source_code_laws.Methods.{meth, may_meth, meth_at}
use Rattle.par_file_run_laws.specs.par_source_code_laws.Methods.{local_type}
use Rattle.par_file_run_laws.specs.par_source_code_laws.Laws.{erased_body}
use Rattle.par_file_run_laws.proofs.par_source_code_laws.Bodies.{IsFound, found}
use Rattle.par_kinds.specs.declared.frame.VKind.{VKind}
use Rattle.par_kinds.specs.Kinds.{KFrame}
use Rattle.par_kinds.specs.Acts.{Act}
use Rattle.par_kinds.specs.Fits.{Fitting}
use Rattle.par_kinds.specs.Linked.{exception_names, result_of, arguments_of}
use Rattle.par_kinds.specs.Linked.{padded, act_at}
use Rattle.par_kinds.specs.Linked.{caught_kind, first_frame}
use Rattle.par_placed_fit_laws.specs.par_compile_laws.Framed.{frames_of}
use Rattle.par_placed_fit_laws.specs.Walks.{Sign}
use Rattle.par_placed_fit_laws.specs.Fits.{Fits}
use Rattle.par_placed_fit_laws.specs.Signs.{framed}
use Rattle.par_placed_fit_laws.specs.Tells.{Tells}
use Rattle.par_verified_file_laws.specs.BodyLaws.{IsTyped, entry}
use Rattle.par_verified_file_laws.specs.Reached.{Reached}
use Rattle.par_verified_file_laws.proofs.Body.{typed_code_fits}
use Rattle.par_placed_fit_laws.specs.Given.{aimed, given_from}
use Rattle.par_placed_fit_laws.specs.Laws.{Means}
use Rattle.par_placed_fit_laws.proofs.Placing.{placed_code_fits}
use Rattle.par_placed_fit_laws.proofs.Written.{written_frames_are_given}
use Rattle.par_placed_fit_laws.specs.Acts.{item_act}
use Rattle.par_placed_fit_laws.proofs.Placed.{items_act_as_placed}
use Rattle.par_placed_fit_laws.proofs.Telling.{named_items_tell}
use Rattle.par_file_run_laws.specs.Layout.{layout_of}
use Rattle.par_file_run_laws.specs.Code.{code_at, labelled_of}
use Rattle.par_file_run_laws.specs.Parts.{Known}
use Rattle.par_file_run_laws.proofs.Known.{Stands, number-is}
use Rattle.par_file_run_laws.proofs.Codes.{body-there}
use Rattle.par_file_run_laws.proofs.Held.{MethodIn}
use Rattle.par_file_run_laws.proofs.Methods.{place-is}
use Rattle.par_file_run_laws.specs.Laws.{AreLoadedFor}
use Rattle.par_file_run_laws.proofs.Simple.{all_named}
use Rattle.par_file_run_laws.proofs.Composed.{known, compiled}
use Rattle.par_file_run_laws.proofs.Whole.{parts}
use Rattle.par_verified_file_laws.specs.FitLaws.{MethodFits}
use Rattle.par_verified_file_laws.proofs.Reaching.{sta_reached}
use Rattle.par_verified_file_laws.proofs.Scoped.{in_scope, scope_kinds, local_there}
use Rattle.par_verified_file_laws.proofs.Described.{described, arguments_said}
use Rattle.par_verified_file_laws.proofs.Caught.{all_taken}

module _ (t : Table) (all : List Body) (files : List ClassFile) (are : AreLoadedFor t all files)
  where
    abbrev plain : Table
    plain = erased_table t

    abbrev plain_bodies : List Body
    plain_bodies = erased_bodies t all

    abbrev w : Words
    w = words_of plain

    abbrev lay : Layout
    lay = layout_of files plain plain_bodies

    abbrev asked : Locks
    asked = asked_in all

    its_known : Known plain plain_bodies files
    its_known = known parts t all files are

    module _ (c n : ℕ) (s : Stands plain plain_bodies files c n) (i : ℕ) (info : MethodInfo)
        (body : TSta) (has : slice_get s.class.methods i ≡ Some info)
        (body_is : body_of plain_bodies c i ≡ Some body) where
      abbrev me : Meth
      me = meth info body

      abbrev pub at : ℕ
      at = suc (length s.class.channels + i)

      abbrev attr : CodeAttr
      attr = method_code files n at

      abbrev code : Labelled
      code = labelled w info body

      abbrev pool : List Constant
      pool = class_pool files n

      there : method_at plain c i ≡ Some info
      there = ap (λ (o : Option ClassInfo). slice_get (methods_in o) i) s.there ∙ has

      -- ---- it is a method that is laid out

      abbrev is : MethodIn plain_bodies s.class c i me
      is = record { info = info; body = body; has = has; body_is = body_is; is = refl }

      has_method : HasMethod lay c i me
      has_method =
          ap (λ (o : Option ℕ). if is_some o then meth_at plain plain_bodies c i else None) s.placed
          ∙ ap (λ (o : Option MethodInfo). may_meth o (body_of plain_bodies c i)) there
          ∙ ap (may_meth (Some info)) body_is

      number : lay.number c ≡ n
      number = number-is plain plain_bodies files its_known c n s

      place : lay.method_at c i ≡ at
      place = place-is plain plain_bodies files its_known c n s i me is

      pub stands_as : code_at plain plain_bodies files n at ≡ code
      stands_as = body-there plain plain_bodies files its_known c n s i me is

      coded : Coded (labelled_of plain plain_bodies files) w lay plain_bodies c i me
      coded = (compiled parts t all files are).methods c i me has_method

      room : (labelled_of plain plain_bodies files (lay.number c) (lay.method_at c i)).max_stack
          ≡ top body
      room =
          ap (λ (k : ℕ). (code_at plain plain_bodies files k (lay.method_at c i)).max_stack) number
          ∙ ap (λ (k : ℕ). (code_at plain plain_bodies files n k).max_stack) place
          ∙ ap (λ (x : Labelled). x.max_stack) stands_as

      gives : result_of files n at ≡ given_kind w info.result
      gives =
          ap (λ (k : ℕ). result_of files k at) (sym number)
          ∙ ap (λ (k : ℕ). result_of files (lay.number c) k) (sym place) ∙ coded.gives

      few : length (given_types c me) ≤ length info.locals
      few = (compiled parts t all files are).lays.method_room c i me has_method

      -- ---- its body is typed, and its code can be placed

      among_erased : body_of (map (erased_body t asked) all) c i ≡ Some body
      among_erased =
          ap (λ (bs : List Body). body_of bs c i) (sym (parts.erased t all are.well_typed.one_each))
          ∙ body_is

      reached : Reached body
      reached =
          let of =
          found t asked (IsControlled t) c i body all are.well_typed.controlled among_erased in
          subst Reached of.is (sta_reached t asked false of.body.body of.known.1.reached)

      ready : IsFound (IsReadyBody t w asked info) (erased_sta t asked) c i body
      ready =
          found t asked (IsReadyBody t w asked info) c i body all
          (parts.placeable t all are.well_typed w
          (parts.texts t (all_named plain plain_bodies are.linkable) are.well_typed.few_params)
          asked info)
          among_erased

      placeable : IsPlaceable code
      placeable =
          subst (λ (x : TSta). IsPlaceable (labelled w info x)) ready.is ready.known.placeable

      frames_placeable : AreFramesPlaceable code
      frames_placeable =
          subst (λ (x : TSta). AreFramesPlaceable (labelled w info x)) ready.is ready.known.framed

      typed : IsTyped lay info (local_type info.locals) body
      typed = record {
        set = first_set (length (given_types c me));
        typed =
            subst (λ (k : ℕ). TypedS lay (local_type info.locals) (length info.locals) k info.result
            false (first_set (length (given_types c me))) body) room
            coded.typed;
        reached = reached;
        ends = coded.ends;
        locals = local_there info.locals;
        scope = in_scope c info body few coded.locals;
      }

      -- ---- frames at its labels

      abbrev exc : List Name
      exc = exception_names files

      abbrev act : Item → Act
      act = item_act files (given_kind w info.result)

      tells : Tells exc act w lay info.result
      tells =
          named_items_tell files w lay plain (compiled parts t all files are).lays
          (described plain plain_bodies files its_known (compiled parts t all files are))
          info.result

      at_labels : (signs : ℕ → Sign) × Fits exc act signs code (entry w info)
      at_labels = typed_code_fits exc act w lay info (local_type info.locals) body tells typed

      -- ---- frames in its file

      module _ (placed : IsPlaced pool code (record attr { attributes = [] })) where
        means : Means act pool code attr (act_at files n at) (caught_kind files n)
        means = record {
          acts = λ item index to j names fits same.
              items_act_as_placed files n (result_of files n at) item index to j names fits same
              ∙ ap (λ (g : Option Kind). aimed to (item_act files g item)) gives;
          catches =
              all_taken plain plain_bodies files its_known n
              (offset_of code.items placed.indices) code.handlers attr.catches placed.catches
              (are.linkable.code c i info body there body_is).handlers;
        }

        first : entry w info ≡ first_frame files n at
        first =
            ap (λ (ks : List VKind). framed ks [])
            (scope_kinds c info body few coded.locals w
            ∙ ap (padded (length info.locals))
            (sym (arguments_said plain plain_bodies files its_known c n s i info body has))
            ∙ ap (λ (k : ℕ). padded k (arguments_of files n at)) (sym placed.max_locals))

        fits : MethodFits files n at (frames_of code placed.indices)
        fits =
            let signs = at_labels.0 in
            let given = given_from signs act code.items placed.indices 0 (Some (entry w info)) in
            record {
              given = given;
              fits =
                  subst (λ (k : KFrame).
                  Fitting exc (act_at files n at) (caught_kind files n) attr given k) first
                  (placed_code_fits exc act signs code (entry w info) at_labels.1 pool attr placed
                  placeable (act_at files n at) (caught_kind files n) means);
              part =
                  written_frames_are_given exc act signs code (entry w info) at_labels.1 pool attr
                  placed placeable frames_placeable;
            }

      -- of the code as which it stands
      pub body_fits : (placed : IsPlaced pool (code_at plain plain_bodies files n at)
          (record attr { attributes = [] }))
          → MethodFits files n at
          (frames_of (code_at plain plain_bodies files n at) placed.indices)
      body_fits =
          subst (λ (x : Labelled).
          (placed : IsPlaced pool x (record attr { attributes = [] }))
          → MethodFits files n at (frames_of x placed.indices)) (sym stands_as) fits
