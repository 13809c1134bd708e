-- Frames fit each method of the loaded class files of a well-typed program.
use Rattle.std.proofs.Common.{◌≡◌, ℕ, zero, suc, ◌+◌, ◌⊎◌, inl, inr, Bool, true, false, ◌&&◌, ◌||◌}
use Rattle.std.proofs.Common.{List, [], ◌∷◌, length, Option, Some, None, slice_get, is_some, refl}
use Rattle.std.proofs.Common.{map, sym, ap, subst, ◌∙◌, arith}
use Rattle.std.specs.Prelude.{nat_lt}
use Rattle.par_typed.specs.declared.ty.Ty.TheVariants as ty
use Rattle.par_typed.specs.declared.table.ChannelInfo.{ChannelInfo}
use Rattle.par_typed.specs.declared.table.MethodInfo.{MethodInfo}
use Rattle.par_typed.specs.declared.table.Table.{Table}
use Rattle.par_typed.specs.Plain.{TSta, Body}
use Rattle.par_erase.specs.Erased.{erased_table, erased_bodies}
use Rattle.par_run_laws.specs.Names.{body_of}
use Rattle.par_class.specs.declared.file.ClassFile.{ClassFile}
use Rattle.par_class.specs.declared.file.CodeAttr.{CodeAttr}
use Rattle.par_values.specs.declared.kind.Kind.{Kind}
use Rattle.par_values.specs.Areas.{Name}
use Rattle.par_values.specs.Areas as areas
use Rattle.par_single.specs.Descriptors.{kind_at, kinds_in}
use Rattle.par_single.specs.Links.{signature_said}
use Rattle.par_file_run_laws.specs.par_step_laws.Classes.{class_names}
use Rattle.par_file_run_laws.specs.par_step_laws.Methods.{class_pool, methods_of, method_code}
use Rattle.par_file_run_laws.specs.par_step_laws.Methods.{method_descriptor}
use Rattle.par_code_form.specs.declared.item.Item.{Item}
use Rattle.par_code_form.specs.declared.labelled.Labelled.{Labelled}
use Rattle.par_code_form.specs.Code.{Words}
use Rattle.par_code_form.specs.Named.{class_word, words_of}
use Rattle.par_code_form.specs.Placed.{offset_of, IsPlaced}
use Rattle.par_placed_fit_laws.specs.par_evaluation_laws.Laid.{Layout, IsThrown}
use Rattle.par_typed.specs.Members.{class_is_exception}
use Rattle.par_file_run_laws.specs.par_compile_laws.Files.{FIRST_DECLARED, IsMethodOf}
use Rattle.par_file_run_laws.specs.par_compile_laws.Members.{Member, channel, method, methods_from}
use Rattle.par_file_run_laws.specs.par_compile_laws.Members.{members}
use Rattle.par_file_run_laws.specs.par_compile_laws.Members.{initializer, initializer_of}
use Rattle.par_kinds.specs.declared.frame.VKind.{VKind}
use Rattle.par_kinds.specs.declared.frame.VKind.TheVariants.{Object as AnObject}
use Rattle.par_kinds.specs.Kinds.{KFrame, is_in, vkind}
use Rattle.par_kinds.specs.Acts.{Act}
use Rattle.par_kinds.specs.Fits.{Fitting}
use Rattle.par_kinds.specs.Linked.{exception_names, result_of, arguments_of}
use Rattle.par_kinds.specs.Linked.{padded, act_at}
use Rattle.par_kinds.specs.Linked.{caught_kind, first_frame, given_to, taken_by}
use Rattle.par_kinds.specs.Linked.{coded_in}
use Rattle.par_placed_fit_laws.specs.par_compile_laws.Framed.{frames_of}
use Rattle.par_placed_fit_laws.specs.Fits.{Fits}
use Rattle.par_placed_fit_laws.specs.Signs.{framed}
use Rattle.par_placed_fit_laws.specs.Given.{aimed, given_from}
use Rattle.par_placed_fit_laws.specs.Laws.{Means}
use Rattle.par_placed_fit_laws.proofs.Placing.{placed_code_fits}
use Rattle.par_placed_fit_laws.proofs.Written.{written_frames_are_given}
use Rattle.par_placed_fit_laws.specs.Acts.{item_act}
use Rattle.par_placed_fit_laws.proofs.Placed.{items_act_as_placed}
use Rattle.par_placed_fit_laws.proofs.Telling.{named_items_tell}
use Rattle.par_file_run_laws.specs.Layout.{layout_of}
use Rattle.par_file_run_laws.specs.Code.{code_at}
use Rattle.par_file_run_laws.specs.Parts.{Known}
use Rattle.par_file_run_laws.proofs.Fields.{static-access}
use Rattle.par_file_run_laws.proofs.Known.{Stands}
use Rattle.par_file_run_laws.proofs.Callees as callees
use Rattle.par_file_run_laws.proofs.Codes.{stands-there, code-there}
use Rattle.par_file_run_laws.specs.Laws.{AreLoadedFor}
use Rattle.par_file_run_laws.proofs.Composed.{known, compiled}
use Rattle.par_file_run_laws.proofs.Whole.{parts}
use Rattle.par_verified_file_laws.specs.FitLaws.{MethodFits, LoadedMethodsFit}
use Rattle.par_verified_file_laws.proofs.Described.{described, class_said, descriptor_said}
use Rattle.par_verified_file_laws.proofs.Described.{access_said}
use Rattle.par_verified_file_laws.proofs.Caught.{all_taken}
use Rattle.par_verified_file_laws.proofs.Initial.{placeable, frames_placeable, nowhere}
use Rattle.par_verified_file_laws.proofs.Initial.{initializer_fits}
use Rattle.par_verified_file_laws.proofs.Bodied.{body_fits}
use Rattle.par_verified_file_laws.proofs.Found.{MethodThere, behind_channels, method_there}
use Rattle.par_verified_file_laws.proofs.Found.{code_there}
use Rattle.par_verified_file_laws.proofs.Found.{none_beside}

module _ (t : Table) (all : List Body) (files : List ClassFile) (are : AreLoadedFor t all files)
  where
    abbrev plain : Table
    plain = erased_table t

    abbrev plain_bodies : List Body
    plain_bodies = erased_bodies t all

    abbrev w : Words
    w = words_of plain

    abbrev lay : Layout
    lay = layout_of files plain plain_bodies

    its_known : Known plain plain_bodies files
    its_known = known parts t all files are

    -- wherever the code of a method stands
    abbrev Fit : ℕ → ℕ → Type 0
    Fit n p =
        (placed : IsPlaced (class_pool files n) (code_at plain plain_bodies files n p)
        (record (method_code files n p) { attributes = [] }))
        → MethodFits files n p (frames_of (code_at plain plain_bodies files n p) placed.indices)

    module _ (c n : ℕ) (s : Stands plain plain_bodies files c n) where
      -- ---- its initializer

      abbrev word : Name
      word = class_word plain c

      abbrev code : Labelled
      code = initializer_of s.class

      abbrev attr : CodeAttr
      attr = method_code files n 0

      abbrev exc : List Name
      exc = exception_names files

      abbrev act : Item → Act
      act = item_act files None

      -- an exception class is one of all
      listed : s.class.exception ≡ true → is_in exc word ≡ true
      listed exception =
          let thrown : IsThrown lay c =
          ap (λ (o : Option ℕ).
          (is_some o || nat_lt c FIRST_DECLARED) && class_is_exception (slice_get plain.classes c))
          s.placed
          ∙ ap class_is_exception s.there ∙ exception in
          (named_items_tell files w lay plain (compiled parts t all files are).lays
          (described plain plain_bodies files its_known (compiled parts t all files are))
          ty.Void).thrown c thrown

      at_labels : Fits exc act (nowhere files exc word) code (framed (AnObject word ∷ []) [])
      at_labels = initializer_fits files exc word s.class listed

      descriptor : method_descriptor files n 0
          ≡ (initializer s.class).descriptor
      descriptor =
          descriptor_said plain plain_bodies files its_known c n s 0 (initializer s.class) refl

      gives : result_of files n 0 ≡ None
      unfolding kind_at kinds_in
      gives = ap (λ (d : Name). (signature_said d).gives) descriptor

      takes : taken_by files n 0 ≡ []
      unfolding kind_at kinds_in
      takes = ap (λ (d : Name). (signature_said d).takes) descriptor

      module _ (placed : IsPlaced (class_pool files n) code (record attr { attributes = [] })) where
        means : Means act (class_pool files n) code attr (act_at files n 0) (caught_kind files n)
        means = record {
          acts = λ item index to j names fits same.
              items_act_as_placed files n (result_of files n 0) item index to j names fits same
              ∙ ap (λ (g : Option Kind). aimed to (item_act files g item)) gives;
          catches =
              all_taken plain plain_bodies files its_known n (offset_of code.items placed.indices)
              code.handlers attr.catches placed.catches tt;
        }

        first : framed (AnObject word ∷ []) [] ≡ first_frame files n 0
        first =
            let name = areas.class_named (class_names files) n in
            let arguments : arguments_of files n 0 ≡ AnObject word ∷ [] =
            ap (λ (b : Bool). map vkind (given_to b name (taken_by files n 0)))
            (access_said plain plain_bodies files its_known c n s 0 (initializer s.class) refl
            ∙ static-access false)
            ∙ ap (λ (k : Name). map vkind (given_to false k (taken_by files n 0)))
            (class_said plain plain_bodies files its_known c n s)
            ∙ ap (λ (ks : List Kind). map vkind (given_to false word ks)) takes in
            ap (λ (ks : List VKind). framed ks [])
            (ap (padded 1) (sym arguments)
            ∙ ap (λ (k : ℕ). padded k (arguments_of files n 0)) (sym placed.max_locals))

        fits : MethodFits files n 0 (frames_of code placed.indices)
        fits =
            let entry = framed (AnObject word ∷ []) [] in
            let signs = nowhere files exc word in
            let given = given_from signs act code.items placed.indices 0 (Some entry) in
            record {
              given = given;
              fits =
                  subst (λ (k : KFrame).
                  Fitting exc (act_at files n 0) (caught_kind files n) attr given k) first
                  (placed_code_fits exc act signs code entry at_labels (class_pool files n) attr
                  placed (placeable s.class) (act_at files n 0) (caught_kind files n) means);
              part =
                  written_frames_are_given exc act signs code entry at_labels (class_pool files n)
                  attr placed (placeable s.class) (frames_placeable s.class);
            }

      initial : Fit n 0
      initial =
          subst (λ (x : Labelled).
          (placed : IsPlaced (class_pool files n) x (record attr { attributes = [] }))
          → MethodFits files n 0 (frames_of x placed.indices))
          (sym (code-there plain plain_bodies files its_known c n s 0 (initializer s.class) refl))
          fits

      -- ---- any member

      with_body : (j : ℕ) (info : MethodInfo) (o : Option TSta) → body_of plain_bodies c j ≡ o
          → slice_get s.class.methods j ≡ Some info
          → is_some (method plain plain_bodies info o).code ≡ true
          → Fit n (suc (length s.class.channels + j))
      with_body j info None is has some = absurd (cc some)
      with_body j info (Some body) is has some = body_fits t all files are c n s j info body has is

      member : (p : ℕ) (m : Member) → slice_get (members plain plain_bodies c s.class) p ≡ Some m
          → is_some m.code ≡ true → Fit n p
      member zero m at some = initial
      member (suc k) m at some =
          by (behind_channels s.class.channels
          (methods_from plain plain_bodies c 0 s.class.methods) k m at)
        where
          of_method : (j : ℕ) → MethodThere plain plain_bodies c 0 s.class.methods j m
              → Fit n (suc (length s.class.channels + j))
          of_method j r =
              let same : 0 + j ≡ j = omega arith in
              let is : m ≡ method plain plain_bodies r.info (body_of plain_bodies c j) =
              r.is ∙ ap (λ (q : ℕ). method plain plain_bodies r.info (body_of plain_bodies c q))
              same in
              with_body j r.info (body_of plain_bodies c j) refl r.has
              (ap (λ (x : Member). is_some x.code) (sym is) ∙ some)

          no_channel : (ch : ChannelInfo)
              → m ≡ channel ch → ⊥
          no_channel ch is = cc (sym some ∙ ap (λ (x : Member). is_some x.code) is)

          by : ((ch : ChannelInfo)
              × (m ≡ channel ch))
              ⊎ ((j : ℕ) × (k ≡ length s.class.channels + j)
              × (slice_get (methods_from plain plain_bodies c 0 s.class.methods) j ≡ Some m))
              → Fit n (suc k)
          by (inl (ch, is)) = absurd (no_channel ch is)
          by (inr (j, same, there)) =
              subst (λ (q : ℕ). Fit n (suc q)) (sym same)
              (of_method j (method_there plain plain_bodies c 0 s.class.methods j m there))

      -- ---- a method of the file with code

      in_file : (p : ℕ) → coded_in (slice_get s.file.methods p) ≡ true → Fit n p
      in_file p coded = by (slice_get (members plain plain_bodies c s.class) p) refl
        where
          by : (o : Option Member) → slice_get (members plain plain_bodies c s.class) p ≡ o
              → Fit n p
          by None none =
              absurd (cc (sym coded
              ∙ ap coded_in (none_beside (IsMethodOf s.file.pool.entries)
              (members plain plain_bodies c s.class) s.file.methods s.is.methods p none)))
          by (Some m) at =
              let r = callees.there plain plain_bodies files its_known c n s p m at in
              member p m at
              (code_there s.file.pool.entries m.code r.item.code r.related.code
              (ap coded_in (sym r.stands) ∙ coded))

    any_file : (n p : ℕ) → coded_in (slice_get (methods_of (slice_get files n)) p) ≡ true → Fit n p
    any_file n p coded = by (slice_get files n) refl coded
      where
        by : (o : Option ClassFile) → slice_get files n ≡ o
            → coded_in (slice_get (methods_of o) p) ≡ true → Fit n p
        by None none h = absurd (cc h)
        by (Some file) there h =
            let of = stands-there plain plain_bodies files its_known n file there in
            in_file of.0 n of.1 p
            (ap (λ (o : Option ClassFile). coded_in (slice_get (methods_of o) p))
            (sym of.1.listed ∙ there) ∙ h)

pub loaded_methods_fit : LoadedMethodsFit
loaded_methods_fit t all files are class method coded = any_file t all files are class method coded
