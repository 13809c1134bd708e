-- A run of files whose frames fit never comes to bad code.
use Rattle.std.proofs.Common.{◌≡◌, ℕ, zero, suc, ◌+◌, ◌-◌, List, [], ◌∷◌, map, length, replicate}
use Rattle.std.proofs.Common.{pos, Some, None, Option, refl, sym, ap, subst, ◌∙◌, arith}
use Rattle.std.specs.List.{slice_get, filter}
use Rattle.std.proofs.lemmas.List.{length-replicate}
use Rattle.par_class.specs.declared.file.FieldFile.{FieldFile}
use Rattle.par_class.specs.declared.file.ClassFile.{ClassFile}
use Rattle.par_pool.specs.declared.constant.Constant.{Constant}
use Rattle.par_values.specs.declared.value.MVal.TheVariants.{Int}
use Rattle.par_values.specs.declared.kind.Kind.TheVariants.{Number}
use Rattle.par_values.specs.Areas.{class_named, Objects, first_value, list_or_none}
use Rattle.par_values.specs.Ran.{Ran}
use Rattle.par_kinds.specs.par_step_laws.Classes.{class_names}
use Rattle.par_kinds.specs.par_step_laws.Fields.{class_statics, all_statics, first_statics, kind_of}
use Rattle.par_kinds.specs.par_step_laws.Fields.{is_shared}
use Rattle.par_kinds.specs.par_step_laws.Methods.{method_code}
use Rattle.par_kinds.specs.par_step_laws.State.{State, start, frame_of, no_objects, main_place}
use Rattle.par_kinds.specs.par_step_laws.Step.{Turn, Silent, Shows, Ends, IsBad, turn}
use Rattle.par_kinds.specs.par_step_laws.Run.{run, followed, class_number}
use Rattle.par_kinds.specs.declared.frame.VKind.{VKind}
use Rattle.par_kinds.specs.declared.frame.VKind.TheVariants.{Top as ATop}
use Rattle.par_kinds.specs.Kinds.{vkind, Each, Both}
use Rattle.par_kinds.specs.Linked.{AllGiven, AllFit, first_frame, arguments_of, padded, given_to}
use Rattle.par_kinds.specs.Linked.{taken_by}
use Rattle.par_verify_laws.specs.States.{HeapFits, StateFits, TurnFits, FramesFit, Holds, Keeps}
use Rattle.par_verify_laws.specs.States.{all_shared, shared_kinds, class_kinds}
use Rattle.par_verify_laws.specs.Right.{AreRight}
use Rattle.par_verify_laws.specs.SoundLaws.{IsFine, MainRight, FittingFilesAreNeverBad}
use Rattle.par_kinds.proofs.Lists.{both-append, both-replicate}
use Rattle.par_verify_laws.proofs.Values.{first-good}
use Rattle.par_verify_laws.proofs.Turns.{states_stay_fit, all-many}

abbrev nones : ℕ → Objects
nones n = replicate n []

no-objects-of : (n c : ℕ) → list_or_none (slice_get (nones n) c) ≡ []
no-objects-of zero c = refl
no-objects-of (suc n) zero = refl
no-objects-of (suc n) (suc c) = no-objects-of n c

nones-many : (n : ℕ) → length (nones n) ≡ n
nones-many n = length-replicate n []

minus-none : (n : ℕ) → n ≡ n - 0
minus-none n = omega arith

module _ (files : List ClassFile) (given : AllGiven) (right : AreRight files)
    (fit : AllFit files given) where
  abbrev none : Objects
  none = no_objects files

  firsts : (entries : List Constant) (fs : List FieldFile)
      → Both (Keeps files none) (map (kind_of entries) fs)
      (map (λ f. first_value (kind_of entries f)) fs)
  firsts entries [] = tt
  firsts entries (f ∷ fs) = (first-good files right (kind_of entries f) none, firsts entries fs)

  first-fields : (some : List ClassFile)
      → Both (Keeps files none) (all_shared some) (class_statics some)
  unfolding all_shared class_statics
  first-fields [] = tt
  first-fields (file ∷ some) =
      both-append (Keeps files none) (shared_kinds file) (all_shared some) (first_statics file)
      (class_statics some) (firsts file.pool.entries (filter is_shared file.fields))
      (first-fields some)

  start-heap : HeapFits files (all_statics files) none
  start-heap = record {
    fields = both-append (Keeps files none) (all_shared files) (replicate 256 Number)
        (class_statics files) (replicate 256 (Int (pos 0))) (first-fields files)
        (both-replicate (Keeps files none) 256 Number (Int (pos 0))
        (first-good files right Number none));
    many = nones-many (length files + 2) ∙ sym (all-many files given right fit);
    each = λ c. subst (Each (Both (Keeps files none) (class_kinds files c)))
        (sym (no-objects-of (length files + 2) c)) tt;
  }

  start-frames : (class : ℕ) (main : Option ℕ) → MainRight files class main
      → FramesFit files given none (frame_of files class main)
  start-frames class None is = tt
  start-frames class (Some method) is =
      let max = (method_code files class method).max_locals in
      let bare : arguments_of files class method ≡ [] =
      ap
      (λ s. map vkind
      (given_to s (class_named (class_names files) class) (taken_by files class method)))
      is.static ∙ ap (map vkind) is.takes in (
        record {
          stands = record {
            coded = is.coded;
            kinds = first_frame files class method;
            at = (fit class method is.coded).begins;
            locals = subst (λ (ks : List VKind). Both (Holds files none) (padded max ks)
                (replicate max None))
                (sym bare)
                (subst
                (λ (n : ℕ). Both (Holds files none) (replicate n ATop) (replicate max None))
                (minus-none max) (both-replicate (Holds files none) max ATop None tt));
          };
          operands = tt;
        },
        tt,
      )

  followed-fine : (t : Turn) (rest : State → Ran) → TurnFits files given t
      → ((s : State) → StateFits files given s → IsFine (rest s).ending)
      → IsFine (followed t rest).ending
  followed-fine (Silent s) rest fits each = each s fits
  followed-fine (Shows e s) rest fits each = each s fits
  followed-fine (Ends ending) rest fits each = tt
  followed-fine (IsBad class method offset reason) rest fits each = fits

  run-fine : (m : ℕ) (s : State) → StateFits files given s → IsFine (run files m s).ending
  run-fine zero s fits = tt
  run-fine (suc m) s fits =
      followed-fine (turn files s) (run files m) (states_stay_fit files given s right fit fits)
      (run-fine m)

pub fitting_files_are_never_bad : FittingFilesAreNeverBad
fitting_files_are_never_bad files given main inputs m right fit is =
    run-fine files given right fit m (start files (class_number files main) inputs)
    (record {
      heap = start-heap files given right fit;
      frames = start-frames files given right fit (class_number files main)
          (main_place (slice_get files (class_number files main))) is;
    })
