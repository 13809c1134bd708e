-- The loaded class files of a well-typed program are verified.
use Rattle.std.proofs.Common.{◌≡◌, ℕ, zero, suc, Bool, true, false, List, [], ◌∷◌, Option, Some}
use Rattle.std.proofs.Common.{None, slice_get, is_some, refl, sym, ap, subst, ◌∙◌}
use Rattle.std.specs.Prelude.{◌==◌}
use Rattle.std.specs.List.{AllZip, AllByRecursion}
use Rattle.par_typed.specs.declared.table.ClassInfo.{ClassInfo}
use Rattle.par_typed.specs.declared.table.Table.{Table}
use Rattle.par_typed.specs.Plain.{Body}
use Rattle.par_erase.specs.Erased.{erased_table, erased_bodies}
use Rattle.par_pool.specs.declared.constant.Constant.{Constant}
use Rattle.par_class.specs.declared.file.ClassFile.{ClassFile}
use Rattle.par_class.specs.declared.file.CodeAttr.{CodeAttr}
use Rattle.par_class.specs.declared.file.MethodFile.{MethodFile}
use Rattle.par_single.specs.Members.{own_name}
use Rattle.par_step_laws.specs.Methods.{pool_of, methods_of, class_pool, code_in, method_code}
use Rattle.par_step_laws.specs.Methods as steps
use Rattle.par_code_form.specs.declared.labelled.Labelled.{Labelled}
use Rattle.par_code_form.specs.Placed.{IsPlaced}
use Rattle.par_framed_file_laws.specs.par_compile_laws.Files.{IsMethodOf, IsCodeWith, HasCodeWith}
use Rattle.par_framed_file_laws.specs.par_compile_laws.Files.{version}
use Rattle.par_framed_file_laws.specs.par_compile_laws.Members.{Member, members}
use Rattle.par_kinds.specs.declared.frame.MethodFrames.{MethodFrames}
use Rattle.par_kinds.specs.declared.frame.PlacedFrame.{PlacedFrame}
use Rattle.par_kinds.specs.Fits.{Given, Fitting}
use Rattle.par_kinds.specs.Linked.{exception_names, act_at, caught_kind, first_frame, coded_in}
use Rattle.par_kinds.specs.Linked.{coded_at}
use Rattle.par_verify_laws.specs.par_frames.Broken.{AreFrames, AreFramesIf, AreGiven, AreGivenIn}
use Rattle.par_verify_laws.proofs.par_frames.Again.{written_kinds_are_read}
use Rattle.par_framed_file_laws.specs.par_given_frames.Laws.{TellsSame, AreWithin}
use Rattle.par_framed_file_laws.proofs.par_given_frames.Written.{frames-again}
use Rattle.par_framed_file_laws.specs.ReadLaws.{PlacedFramesAreRead}
use Rattle.par_framed_file_laws.proofs.Read.{placed-again}
use Rattle.par_framed_file_laws.specs.par_compile_laws.Framed.{frames_of}
use Rattle.par_framed_file_laws.specs.par_file_run_laws.Code.{code_or_none, code_at}
use Rattle.par_framed_file_laws.specs.par_file_run_laws.Parts.{Known}
use Rattle.par_framed_file_laws.proofs.par_file_run_laws.Known.{Stands, word-is, class-of}
use Rattle.par_framed_file_laws.proofs.par_file_run_laws.Known.{its-class}
use Rattle.par_framed_file_laws.proofs.par_file_run_laws.Lists.{beside, each-item}
use Rattle.par_framed_file_laws.proofs.par_file_run_laws.Codes.{stands-there, code-there}
use Rattle.par_framed_file_laws.proofs.par_file_run_laws.Placed.{code_is_placed}
use Rattle.par_framed_file_laws.proofs.par_file_run_laws.Texts.{class-said}
use Rattle.par_verified_file_laws.specs.FitLaws.{MethodFits}
use Rattle.par_verified_file_laws.proofs.FittingMethods.{loaded_methods_fit}
use Rattle.par_framed_file_laws.specs.Laws.{AreLoadedFor, IsVersionedFile}
use Rattle.par_framed_file_laws.proofs.Whole.{known, parts, IsSoundMember, code_given}
use Rattle.par_framed_file_laws.proofs.Whole.{members_sound}
pub use Rattle.par_framed_file_laws.proofs.Whole.{files_show, files_show_whole}
pub use Rattle.par_framed_file_laws.proofs.Whole.{loaded_files_are_framed}
use Rattle.par_verify_laws.specs.Verified.{AllFrames, AreFramesOf, methods_told, frames_told}
use Rattle.par_verify_laws.specs.Verified.{frames_in, IsVerified}
use Rattle.par_verified_file_laws.specs.Laws.{LoadedFilesAreVerified}
use Rattle.par_verified_file_laws.proofs.Told.{IsToldAt, all_told, whole_given}

placed_frames_are_read : PlacedFramesAreRead
placed_frames_are_read = placed-again (frames-again written_kinds_are_read)

-- some frames fit a method, and all of these are among them
record FitsTold (files : List ClassFile) (class method : ℕ) (gs : List PlacedFrame) : Type 0 where
  given : Given
  fits : Fitting (exception_names files) (act_at files class method) (caught_kind files class)
      (method_code files class method) given (first_frame files class method)
  part : AllByRecursion (IsToldAt (method_code files class method).max_locals given) gs

-- where they tell the same as frames that are given
fits_told : (files : List ClassFile) (class method : ℕ) (fs gs : List PlacedFrame)
    → AllZip TellsSame fs gs → AreWithin (method_code files class method).max_locals gs
    → MethodFits files class method fs → FitsTold files class method gs
fits_told files class method fs gs same few m = record {
  given = m.given;
  fits = m.fits;
  part = all_told (method_code files class method).max_locals m.given
      (λ at k is. (m.fits.each at k is).locals) fs gs same few m.part;
}

-- frames that fit a method are those that are told of it, where these are a part of them
verified : (files : List ClassFile) (frames : AllFrames) (class method : ℕ)
    → FitsTold files class method (frames_in frames class method)
    → IsVerified files frames class method
verified files frames class method m = (
  m.given,
  (
    m.fits,
    whole_given (method_code files class method).max_locals m.given
        (frames_in frames class method) m.part,
  ),
)

-- the item beside one of the second list
pub record Aside {A B : Type 0} (R : A → B → Type 0) (xs : List A) (y : B) (n : ℕ) : Type 0 where
  pub item : A
  pub stands : slice_get xs n ≡ Some item
  pub related : R item y

aside : {A B : Type 0} (R : A → B → Type 0) (xs : List A) (ys : List B) → AllZip R xs ys → (n : ℕ)
    (y : B) → slice_get ys n ≡ Some y → Aside R xs y n
aside R [] [] all n y at = absurd (cc at)
aside R [] (z ∷ ys) all n y at = absurd all
aside R (x ∷ xs) [] all n y at = absurd all
aside R (x ∷ xs) (z ∷ ys) all zero y at =
    let same : z ≡ y = cc at in
    record { item = x; stands = refl; related = subst (R x) same all.0 }
aside R (x ∷ xs) (z ∷ ys) all (suc n) y at =
    let r = aside R xs ys all.1 n y at in
    record { item = r.item; stands = r.stands; related = r.related }

some_same : {A : Type 0} (x y : A) → Some x ≡ Some y → x ≡ y
some_same x y e = cc e

module _ (t : Table) (all : List Body) (files : List ClassFile) (are : AreLoadedFor t all files)
  where
    abbrev plain : Table
    plain = erased_table t

    abbrev plain_bodies : List Body
    plain_bodies = erased_bodies t all

    its_known : Known plain plain_bodies files
    its_known = known parts t all files are

    -- wherever code stands with frames
    abbrev Fit : ℕ → ℕ → List Constant → Labelled → CodeAttr → Type 0
    Fit n p pool code attr =
        (placed : IsPlaced pool code (record attr { attributes = [] }))
        → MethodFits files n p (frames_of code placed.indices)

    module _ (n : ℕ) (file : ClassFile) (listed : slice_get files n ≡ Some file)
        (v : IsVersionedFile plain plain_bodies file) where
      own : own_name file ≡ v.class.name
      own = class-said file.pool.entries file.this_class v.class.name v.is.this_class

      -- it stands as the file of its class
      stands : Stands plain plain_bodies files v.number n
      stands =
          let of = stands-there plain plain_bodies files its_known n file listed in
          let its_file : file ≡ of.1.file = some_same file of.1.file (sym listed ∙ of.1.listed) in
          let same : v.number ≡ of.0 =
          class-of plain plain_bodies files its_known v.number n of.0 of.1.file of.1.listed
          (its-class plain plain_bodies files its_known of.0 n of.1)
          (word-is plain v.number v.class v.there ∙ sym own ∙ ap own_name its_file) in
          subst (λ (c : ℕ). Stands plain plain_bodies files c n) (sym same) of.1

      its_class : stands.class ≡ v.class
      its_class = some_same stands.class v.class (sym stands.there ∙ v.there)

      -- the code of a member stands as that of its method
      code_is : (p : ℕ) (x : Member) (code : Labelled)
          → slice_get (members plain plain_bodies v.number v.class) p ≡ Some x → x.code ≡ Some code
          → code_at plain plain_bodies files n p ≡ code
      code_is p x code at has =
          code-there plain plain_bodies files its_known v.number n stands p x
          (ap (λ (class : ClassInfo).
          slice_get (members plain plain_bodies v.number class) p) its_class ∙ at)
          ∙ ap code_or_none has

      module _ (p : ℕ) (m : MethodFile) (there : slice_get file.methods p ≡ Some m)
          (attr : CodeAttr) (has : m.code ≡ Some attr) where
        in_file : slice_get (methods_of (slice_get files n)) p ≡ Some m
        in_file = ap (λ (o : Option ClassFile). slice_get (methods_of o) p) listed ∙ there

        attr_is : method_code files n p ≡ attr
        attr_is = ap code_in in_file ∙ ap steps.code_or_none has

        coded : coded_at files n p ≡ true
        coded = ap coded_in in_file ∙ ap is_some has

        any_fits : Fit n p (class_pool files n) (code_at plain plain_bodies files n p)
            (method_code files n p)
        any_fits = loaded_methods_fit t all files are n p coded

        -- code with its frames
        with_frames : (x : Member) (code : Labelled)
            → slice_get (members plain plain_bodies v.number v.class) p ≡ Some x
            → x.code ≡ Some code → Fit n p file.pool.entries code attr
        with_frames x code at same =
            subst (λ (pool : List Constant). Fit n p pool code attr) (ap pool_of listed)
            (subst (λ (y : Labelled). Fit n p (class_pool files n) y attr)
            (code_is p x code at same)
            (subst (λ (y : CodeAttr). Fit n p (class_pool files n)
            (code_at plain plain_bodies files n p) y) attr_is any_fits))

        -- a part of the frames that fit
        abbrev FitsWith : List PlacedFrame → Type 0
        FitsWith fs = FitsTold files n p fs

        -- where the files tell none
        untold : FitsWith []
        untold =
            let fits = any_fits (code_is_placed plain plain_bodies files its_known n p) in
            record { given = fits.given; fits = fits.fits; part = tt }

        -- where they tell those of the code
        told_frames : AllZip (HasCodeWith true file.pool.entries)
            (members plain plain_bodies v.number v.class) file.methods
            → (fs : List PlacedFrame) → AreGiven file m attr fs → FitsWith fs
        told_frames code fs given =
            let ms = members plain plain_bodies v.number v.class in
            let r = aside (HasCodeWith true file.pool.entries) ms file.methods code p m there in
            let x = r.item in
            let of = aside (IsMethodOf file.pool.entries) ms file.methods v.is.methods p m there in
            let same : of.item ≡ x = some_same of.item x (sym of.stands ∙ r.stands) in
            let is_of : IsMethodOf file.pool.entries x m =
            subst (λ (y : Member). IsMethodOf file.pool.entries y m) same of.related in
            let sound =
            each-item (IsSoundMember placed_frames_are_read file) ms
            (members_sound placed_frames_are_read t all files are file v.number v.class v.there own)
            p x r.stands in
            by x.code x r.stands sound is_of refl
            (subst (λ (o : Option CodeAttr). IsCodeWith true file.pool.entries x.code o) has
            r.related)
          where
            by : (o : Option Labelled) (x : Member)
                → slice_get (members plain plain_bodies v.number v.class) p ≡ Some x
                → IsSoundMember placed_frames_are_read file x → IsMethodOf file.pool.entries x m
                → x.code ≡ o → IsCodeWith true file.pool.entries o (Some attr) → FitsWith fs
            by None x at sound is_of none h = absurd h
            by (Some code) x at sound is_of some h =
                let mine =
                code_given placed_frames_are_read file m code attr h (sound.sound code some)
                (sound.begins code m some is_of) in
                let same : mine.frames ≡ fs =
                some_same mine.frames fs (sym (mine.given).given ∙ given.given) in
                subst FitsWith same
                (fits_told files n p (frames_of code h.placed_.indices) mine.frames mine.same
                (subst (λ (c : CodeAttr). AreWithin c.max_locals mine.frames) (sym attr_is)
                mine.within)
                (with_frames x code at some h.placed_))

        -- whatever the version
        of_version : (fs : MethodFrames) → AreFrames file m fs → FitsWith fs.at
        of_version fs of = by v.frames v.versioned.major v.versioned.code
          where
            by : (frames : Bool) → file.major ≡ version frames
                → AllZip (HasCodeWith frames file.pool.entries)
                (members plain plain_bodies v.number v.class) file.methods → FitsWith fs.at
            by true major code =
                told_frames code fs.at
                (subst (λ (o : Option CodeAttr). AreGivenIn file m o fs.at) has
                (subst (λ (k : ℕ). AreFramesIf (k == 51) file m fs) major of))
            by false major code =
                subst FitsWith
                (sym (subst (λ (k : ℕ). AreFramesIf (k == 51) file m fs) major of)) untold

    module _ (versions : (n : ℕ) (file : ClassFile) → slice_get files n ≡ Some file
        → IsVersionedFile plain plain_bodies file) (frames : AllFrames)
        (told : AreFramesOf files frames) where
      one : (n p : ℕ) (file : ClassFile) → slice_get files n ≡ Some file → (m : MethodFile)
          → slice_get file.methods p ≡ Some m → (o : Option CodeAttr) → m.code ≡ o
          → is_some o ≡ true → IsVerified files frames n p
      one n p file listed m there None none some = absurd (cc some)
      one n p file listed m there (Some attr) has some =
          let of_file =
          beside (λ f fs. AllZip (AreFrames f) f.methods fs) files frames told n file listed in
          let of_method =
          beside (AreFrames file) file.methods of_file.item of_file.related p m there in
          let same : frames_in frames n p ≡ of_method.item.at =
          ap (λ (o : Option (List MethodFrames)). frames_told (slice_get (methods_told o) p))
          of_file.stands
          ∙ ap frames_told of_method.stands in
          verified files frames n p
          (subst (FitsTold files n p) (sym same)
          (of_version n file listed (versions n file listed) p m there attr has of_method.item
          of_method.related))

      -- a method with code
      any : (n p : ℕ) (o : Option ClassFile) → slice_get files n ≡ o → (q : Option MethodFile)
          → slice_get (methods_of o) p ≡ q → coded_in q ≡ true → IsVerified files frames n p
      any n p None listed None there coded = absurd (cc coded)
      any n p None listed (Some m) there coded = absurd (cc there)
      any n p (Some file) listed None there coded = absurd (cc coded)
      any n p (Some file) listed (Some m) there coded =
          one n p file listed m there m.code refl coded

pub loaded_files_are_verified : LoadedFilesAreVerified
loaded_files_are_verified t all files are versions frames told n p coded =
    any t all files are versions frames told n p (slice_get files n) refl
    (slice_get (methods_of (slice_get files n)) p) refl coded
