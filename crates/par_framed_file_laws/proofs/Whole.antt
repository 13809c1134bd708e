-- Each method of the loaded class files of a well-typed program has frames.
use Rattle.std.proofs.Common.{◌≡◌, ℕ, zero, suc, ◌+◌, Bool, true, false, List, [], ◌∷◌, ◌++◌}
use Rattle.std.proofs.Common.{length, map, Option, Some, None, refl, sym, ap, subst, ◌∙◌, arith}
use Rattle.std.proofs.Common.{inl, inr}
use Rattle.std.specs.Prelude.{slice_get, ◌==◌, ◌⊎◌, Contains}
use Rattle.std.specs.List.{AllByRecursion, AllZip, flat_map}
use Rattle.std.proofs.lemmas.List.Elements.{All-contains, All-from_recursion}
use Rattle.par_policy.proofs.Ordered.{Contains-nil, Contains-cons_cases}
use Rattle.par_base.specs.Names.{IsName}
use Rattle.par_typed.specs.declared.table.ChannelInfo.{ChannelInfo}
use Rattle.par_typed.specs.declared.table.ClassInfo.{ClassInfo}
use Rattle.par_typed.specs.declared.table.MethodInfo.{MethodInfo}
use Rattle.par_typed.specs.declared.table.Table.{Table}
use Rattle.par_typed.specs.Plain.{TSta, Body}
use Rattle.par_typed.specs.Members.{methods_in, method_at}
use Rattle.par_program_laws.specs.Locals.{BeginsWith, arriving}
use Rattle.par_run_laws.specs.Names.{body_of}
use Rattle.par_erase.specs.Erased.{erased_table, erased_bodies, erased_method}
use Rattle.par_class.specs.declared.file.ClassFile.{ClassFile}
use Rattle.par_class.specs.declared.file.CodeAttr.{CodeAttr}
use Rattle.par_class.specs.declared.file.MethodFile.{MethodFile}
use Rattle.par_single.specs.Members.{own_name}
use Rattle.par_given_frames.specs.par_kinds.declared.frame.MethodFrames.{MethodFrames}
use Rattle.par_given_frames.specs.par_kinds.declared.frame.PlacedFrame.{PlacedFrame}
use Rattle.par_given_frames.specs.par_frames.Broken.{IsPlacedIn, AreGiven, AreGivenIn}
use Rattle.par_given_frames.specs.par_frames.Broken.{AreFramesIf}
use Rattle.par_given_frames.specs.par_frames.Broken.{HasFrames}
use Rattle.par_code_form.specs.declared.labelled.LabelFrame.{LabelFrame}
use Rattle.par_code_form.specs.declared.labelled.Labelled.{Labelled}
use Rattle.par_code_form.specs.declared.labelled.Slot.{Slot}
use Rattle.par_code_form.specs.declared.labelled.Slot.TheVariants as slot
use Rattle.par_code_form.specs.Method.{labelled}
use Rattle.par_code_form.specs.Named.{class_word, words_of}
use Rattle.par_code_form.specs.PoolNames.{Names}
use Rattle.par_code_form.specs.Placed.{offset_of}
use Rattle.par_compile_laws.specs.Framed.{kinds_of, placed, frames_of}
use Rattle.par_compile_laws.specs.Framed.{IsPlacedWith}
use Rattle.par_framing.proofs.Written.{each_written}
use Rattle.par_given_frames.specs.Laws.{AreNamedKinds, IsNamedFrame, TellsSame}
use Rattle.par_given_frames.specs.Laws.{AreWithin}
use Rattle.par_given_frames.proofs.par_frames.Again.{written_kinds_are_read}
use Rattle.par_given_frames.proofs.Written.{frames-again}
use Rattle.par_framed_file_laws.specs.ReadLaws.{PlacedFramesAreRead}
use Rattle.par_framed_file_laws.proofs.Read.{placed-again}
use Rattle.par_file_run_laws.proofs.par_source_code_laws.Members.{method_erased}
use Rattle.par_compile_laws.specs.DescriptorLaws.{HasValueTypes}
use Rattle.par_file_run_laws.specs.par_compile_laws.Constants.{slot_class, frame_classes}
use Rattle.par_file_run_laws.specs.par_compile_laws.Members.{Member, initializer, initializer_of}
use Rattle.par_file_run_laws.specs.par_compile_laws.Members.{channel, method}
use Rattle.par_file_run_laws.specs.par_compile_laws.Members.{methods_from, members}
use Rattle.par_file_run_laws.specs.par_compile_laws.Files.{IsMethodOf, IsCodeWith, HasCodeWith}
use Rattle.par_file_run_laws.specs.par_compile_laws.Files.{version}
use Rattle.par_file_run_laws.specs.Parts.{Known}
use Rattle.par_file_run_laws.proofs.Known.{word-is}
use Rattle.par_file_run_laws.proofs.Texts.{class-said}
use Rattle.par_framed_program.specs.Framed.{IsFramed}
use Rattle.par_file_run_laws.specs.Laws.{AreLoadedFor}
pub use Rattle.par_file_run_laws.proofs.Composed.{known}
pub use Rattle.par_file_run_laws.proofs.Whole.{parts, files_show, files_show_whole}
use Rattle.par_framed_file_laws.proofs.NeededFrames.{placed_code_is_framed}
use Rattle.par_framed_file_laws.specs.Laws.{IsVersionedFile, LoadedFilesAreFramed}
use Rattle.par_framed_file_laws.proofs.Sound.{IsSound, initializer_sound, method_sound, body_found}
use Rattle.par_framed_file_laws.proofs.Begins.{Begins, initializer_begins, method_begins}
use Rattle.par_framed_file_laws.proofs.Begins.{still_arrive}
use Rattle.par_framed_file_laws.proofs.Few.{few_frames}
use Rattle.par_framed_file_laws.proofs.Same.{each-of, placed_within, same_placed, has_same}

zip_length : {A B : Type 0} (R : A → B → Type 0) (xs : List A) (ys : List B) → AllZip R xs ys
    → length xs ≡ length ys
zip_length R [] [] h = refl
zip_length R [] (y ∷ ys) h = absurd h
zip_length R (x ∷ xs) [] h = absurd h
zip_length R (x ∷ xs) (y ∷ ys) h = ap suc (zip_length R xs ys h.1)

-- ---- the classes that frames name

split : {X : Type 0} (P : X → Type 0) (xs ys : List X) → AllByRecursion P (xs ++ ys)
    → AllByRecursion P xs × AllByRecursion P ys
split P [] ys h = (tt, h)
split P (x ∷ xs) ys h = let rest = split P xs ys h.1 in ((h.0, rest.0), rest.1)

slot_named : (s : Slot) (ss : List Slot) → AllByRecursion IsName (slot_class s)
    → AreNamedKinds (kinds_of ss) → AreNamedKinds (kinds_of (s ∷ ss))
slot_named slot.Unset ss h rest = (tt, rest)
slot_named slot.Int ss h rest = (tt, rest)
slot_named slot.Null ss h rest = (tt, rest)
slot_named (slot.Class name) ss h rest = (h.0, rest)

slots_named : (ss : List Slot) → AllByRecursion IsName (flat_map slot_class ss)
    → AreNamedKinds (kinds_of ss)
slots_named [] h = tt
slots_named (s ∷ ss) h =
    let parts = split IsName (slot_class s) (flat_map slot_class ss) h in
    slot_named s ss parts.0 (slots_named ss parts.1)

frame_named : (at : ℕ) (f : LabelFrame) → AllByRecursion IsName (frame_classes f)
    → IsNamedFrame (placed at f)
frame_named at f h =
    let parts = split IsName (flat_map slot_class f.locals) (flat_map slot_class f.stack) h in
    record { locals = slots_named f.locals parts.0; stack = slots_named f.stack parts.1 }

among_named : (fs : List LabelFrame) (f : LabelFrame) → Contains fs f
    → AllByRecursion IsName (flat_map frame_classes fs) → AllByRecursion IsName (frame_classes f)
among_named [] f among h = absurd (Contains-nil f among)
among_named (g ∷ fs) f among h = first (Contains-cons_cases g fs f among)
    (split IsName (frame_classes g) (flat_map frame_classes fs) h)
    (λ more rest. among_named fs f more rest)
  where
    first : (f ≡ g) ⊎ Contains fs f
        → AllByRecursion IsName (frame_classes g)
        × AllByRecursion IsName (flat_map frame_classes fs)
        → (Contains fs f → AllByRecursion IsName (flat_map frame_classes fs)
        → AllByRecursion IsName (frame_classes f)) → AllByRecursion IsName (frame_classes f)
    first (inl is) parts later =
        subst (λ (k : LabelFrame). AllByRecursion IsName (frame_classes k)) (sym is) parts.0
    first (inr more) parts later = later more parts.1

-- ---- methods

module _ (again : PlacedFramesAreRead) (file : ClassFile) where
  -- frames are given that tell the same as these
  pub record GivesSame (m : MethodFile) (attr : CodeAttr) (fs : List PlacedFrame) : Type 0 where
    pub frames : List PlacedFrame
    pub given : AreGiven file m attr frames
    pub same : AllZip TellsSame fs frames
    pub within : AreWithin attr.max_locals frames

  -- sound code that is placed with its frames gives them
  pub code_given : (m : MethodFile) (code : Labelled) (attr : CodeAttr)
      → (p : IsPlacedWith true file.pool.entries code attr) → IsSound code
      → Begins file m code → GivesSame m attr (frames_of code p.placed_.indices)
  code_given m code attr p sound begins =
      let ns = (p.placed_).indices in
      let fs = frames_of code ns in
      let long =
      zip_length (Names file.pool.entries) code.items ns (p.placed_).named in
      let framed = placed_code_is_framed file.pool.entries code attr p.placed_ sound.items
      sound.framed sound.needed in
      let r = again file m code attr p begins.same begins.named
      (each_written IsNamedFrame (offset_of code.items ns) code
      (λ g among. frame_named (offset_of code.items ns g.label) g
      (among_named code.frames g among sound.named)))
      (few_frames code ns long sound.framed sound.short) in
      let placed_ = each-of (IsPlacedIn attr) fs
      (λ f among. All-contains (IsPlacedIn attr) fs f framed.placed among) in
      let few = r.within attr.max_locals (omega (arith, begins.few, (p.placed_).max_locals))
      (placed_within attr fs placed_) in
      record {
        frames = r.frames;
        given = record {
          given = r.is;
          placed =
              All-from_recursion (IsPlacedIn attr) r.frames
              (same_placed attr fs r.frames r.same few placed_);
          needed = λ to needs. has_same fs r.frames r.same to (framed.needed to needs);
        };
        same = r.same;
        within = few;
      }

  -- what is known of a member of the class
  pub record IsSoundMember (x : Member) : Type 0 where
    pub sound : (code : Labelled) → x.code ≡ Some code → IsSound code
    pub begins : (code : Labelled) (m : MethodFile) → x.code ≡ Some code
        → IsMethodOf file.pool.entries x m → Begins file m code

  same_major : (frames : Bool) (m : MethodFile) (fs : MethodFrames) → (file.major == 51) ≡ frames
      → AreFramesIf frames file m fs → HasFrames file m
  same_major frames m fs is h =
      (fs, subst (λ (b : Bool). AreFramesIf b file m fs) (sym is) h)

  method_framed : file.major ≡ 51 → (x : Member) (m : MethodFile) → IsSoundMember x
      → IsMethodOf file.pool.entries x m → HasCodeWith true file.pool.entries x m
      → HasFrames file m
  method_framed major x m known_ of with_frames =
      in_case x.code m.code refl refl with_frames
    where
      found : (fs : List PlacedFrame) → AreGivenIn file m m.code fs → HasFrames file m
      found fs given =
          same_major true m (record { at = fs }) (ap (λ (n : ℕ). n == 51) major) given

      in_case : (a : Option Labelled) (b : Option CodeAttr) → x.code ≡ a → m.code ≡ b
          → IsCodeWith true file.pool.entries a b → HasFrames file m
      in_case None None a-is b-is h =
          found [] (subst (λ (o : Option CodeAttr). AreGivenIn file m o []) (sym b-is) refl)
      in_case None (Some attr) a-is b-is h = absurd h
      in_case (Some code) None a-is b-is h = absurd h
      in_case (Some code) (Some attr) a-is b-is h =
          let of_code =
          code_given m code attr h (known_.sound code a-is) (known_.begins code m a-is of) in
          found of_code.frames
          (subst (λ (o : Option CodeAttr). AreGivenIn file m o of_code.frames) (sym b-is)
          of_code.given)

  all_framed : file.major ≡ 51 → (xs : List Member) (ms : List MethodFile)
      → AllByRecursion IsSoundMember xs → AllZip (IsMethodOf file.pool.entries) xs ms
      → AllZip (HasCodeWith true file.pool.entries) xs ms → (p : ℕ) (m : MethodFile)
      → slice_get ms p ≡ Some m → HasFrames file m
  all_framed major [] [] sound of has p m at = absurd (cc at)
  all_framed major [] (y ∷ ms) sound of has p m at = absurd of
  all_framed major (x ∷ xs) [] sound of has p m at = absurd of
  all_framed major (x ∷ xs) (y ∷ ms) sound of has zero m at =
      let same : y ≡ m = cc at in
      subst (HasFrames file) same (method_framed major x y sound.0 of.0 has.0)
  all_framed major (x ∷ xs) (y ∷ ms) sound of has (suc p) m at =
      all_framed major xs ms sound.1 of.1 has.1 p m at

  -- an older file needs none
  older_framed : file.major ≡ 49 → (m : MethodFile) → HasFrames file m
  older_framed major m =
      same_major false m (record { at = [] }) (ap (λ (n : ℕ). n == 51) major) refl

-- ---- files

module _ (again : PlacedFramesAreRead) (t : Table) (all : List Body) (files : List ClassFile)
    (are : AreLoadedFor t all files) (file : ClassFile) where
  abbrev pub plain : Table
  plain = erased_table t

  abbrev pub plain_bodies : List Body
  plain_bodies = erased_bodies t all

  abbrev pub Sound : Member → Type 0
  Sound x = IsSoundMember again file x

  module _ (c : ℕ) (class : ClassInfo) (there : slice_get plain.classes c ≡ Some class)
      (own : own_name file ≡ class.name) where
    abbrev laid : Known plain plain_bodies files
    laid = known parts t all files are

    named : IsName class.name
    named = (laid.classes c class there).named

    word : class_word plain c ≡ class.name
    word = word-is plain c class there

    initializer_member : Sound (initializer class)
    initializer_member = record {
      sound = λ code is. subst IsSound (code_is code is) (initializer_sound class);
      begins = λ code m is of.
          subst (Begins file m) (code_is code is) (initializer_begins file class m own named of);
    }
      where
        code_is : (code : Labelled) → (initializer class).code ≡ Some code
            → initializer_of class ≡ code
        code_is code is = cc is

    channel_member : (k : ChannelInfo) → Sound (channel k)
    channel_member k = record {
      sound = λ code is. absurd (cc is);
      begins = λ code m is of. absurd (cc is);
    }

    module _ (i : ℕ) (m : MethodInfo) (has : slice_get class.methods i ≡ Some m) where
      method_there : method_at plain c i ≡ Some m
      method_there = ap (λ (o : Option ClassInfo). slice_get (methods_in o) i) there ∙ has

      types : HasValueTypes plain m
      types = ((laid.classes c class there).methods i m has).1

      -- its first locals come from the call
      arrives : (body : TSta) → body_of plain_bodies c i ≡ Some body
          → BeginsWith (arriving c m) m.locals
      arrives body stands =
          let of = body_found t all are.well_typed are.linkable c i m body stands in
          let proper = (of.known.1).1 in
          let info : MethodInfo = proper.0 in
          let at : method_at t c i ≡ Some info =
          subst (λ (n : ℕ). method_at t n i ≡ Some info) of.class
          (subst (λ (n : ℕ). method_at t (of.body).class n ≡ Some info) of.method
          proper.2.method) in
          let same : erased_method info ≡ m =
          some_same (sym (method_erased t c i info at) ∙ method_there) in
          subst (λ (x : MethodInfo). BeginsWith (arriving c x) x.locals) same
          (still_arrive c info
          (subst (λ (n : ℕ). BeginsWith (arriving n info) info.locals) of.class
          proper.2.arrive))
        where
          some_same : {A : Type 0} {x y : A} → Some x ≡ Some y → x ≡ y
          some_same e = cc e

      method_member : (o : Option TSta) → body_of plain_bodies c i ≡ o
          → Sound (method plain plain_bodies m o)
      method_member None none = record {
        sound = λ code is. absurd (cc is);
        begins = λ code x is of. absurd (cc is);
      }
      method_member (Some body) stands = record {
        sound = λ code is. subst IsSound (code_is code is)
            (method_sound t all are.well_typed are.linkable c i m body method_there stands);
        begins = λ code x is of.
            subst (Begins file x) (code_is code is)
            (method_begins plain file c m body x (Some body) (own ∙ sym word)
            (subst IsName (sym word) named) types (arrives body stands) of);
      }
        where
          code_is : (code : Labelled) → Some (labelled (words_of plain) m body) ≡ Some code
              → labelled (words_of plain) m body ≡ code
          code_is code is = cc is

    -- methods from a number on
    methods_sound : (i : ℕ) (ms : List MethodInfo)
        → ((k : ℕ) (m : MethodInfo) → slice_get ms k ≡ Some m
        → slice_get class.methods (i + k) ≡ Some m)
        → AllByRecursion Sound (methods_from plain plain_bodies c i ms)
    methods_sound i [] has = tt
    methods_sound i (m ∷ ms) has =
        let first : i + 0 ≡ i = omega arith in (
          method_member i m (ap (slice_get class.methods) (sym first) ∙ has 0 m refl)
              (body_of plain_bodies c i) refl,
          methods_sound (suc i) ms (λ k x at.
              let later : suc i + k ≡ i + suc k = omega arith in
              ap (slice_get class.methods) later ∙ has (suc k) x at),
        )

    channels_sound : (ks : List ChannelInfo) (xs : List Member) → AllByRecursion Sound xs
        → AllByRecursion Sound (map channel ks ++ xs)
    channels_sound [] xs rest = rest
    channels_sound (k ∷ ks) xs rest = (channel_member k, channels_sound ks xs rest)

    pub members_sound : AllByRecursion Sound (members plain plain_bodies c class)
    members_sound = (
      initializer_member,
      channels_sound class.channels (methods_from plain plain_bodies c 0 class.methods)
          (methods_sound 0 class.methods (λ k m at.
          let same : 0 + k ≡ k = omega arith in ap (slice_get class.methods) same ∙ at)),
    )

  file_framed : IsVersionedFile plain plain_bodies file → IsFramed file
  file_framed v place m at = in_case v.frames v.versioned.major v.versioned.code
    where
      own : own_name file ≡ (v.class).name
      own = class-said file.pool.entries file.this_class (v.class).name (v.is).this_class

      in_case : (frames : Bool) → file.major ≡ version frames
          → AllZip (HasCodeWith frames file.pool.entries)
          (members plain plain_bodies v.number v.class) file.methods → HasFrames file m
      in_case true major code =
          all_framed again file major (members plain plain_bodies v.number v.class) file.methods
          (members_sound v.number v.class v.there own) (v.is).methods code place m at
      in_case false major code = older_framed again file major m

pub loaded_files_are_framed : LoadedFilesAreFramed
loaded_files_are_framed t all files are versions n file at =
    file_framed (placed-again (frames-again written_kinds_are_read)) t all files are file
    (versions n file at)
