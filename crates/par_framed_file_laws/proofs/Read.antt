-- The attributes of placed code are none, or the one in which its frames are written.
use Rattle.std.proofs.Common.{◌≡◌, Bool, true, false, ◌<◌, ◌^◌, List, [], ◌∷◌, length, Option}
use Rattle.std.proofs.Common.{refl}
use Rattle.std.proofs.Common.{ap, ◌∙◌}
use Rattle.std.specs.List.{filter, AllByRecursion}
use Rattle.par_pool.specs.declared.constant.Constant.{Constant}
use Rattle.par_class.specs.declared.file.Attribute.{Attribute}
use Rattle.par_class.specs.Spelling.{is_named}
use Rattle.std.specs.Prelude.{codes}
use Rattle.par_code_form.specs.declared.labelled.Labelled.{Labelled}
use Rattle.par_given_frames.specs.par_kinds.declared.frame.VKind.{VKind}
use Rattle.par_given_frames.specs.par_kinds.declared.frame.PlacedFrame.{PlacedFrame}
use Rattle.par_compile_laws.specs.Framed.{kinds_of, frames_of, IsTable, AreAttributes}
use Rattle.par_given_frames.specs.par_frames.Given.{start_of, frames_in, frames_of_tables, is_table}
use Rattle.par_given_frames.specs.Laws.{AreNamedKinds, IsNamedFrame, AreReadAs}
use Rattle.par_given_frames.specs.Laws.{WrittenFramesAreRead}
use Rattle.par_framed_file_laws.specs.ReadLaws.{PlacedFramesAreRead}

-- the frames that attributes give, behind these locals
abbrev given : List Constant → List VKind → List Attribute → Option (List PlacedFrame)
given pool start attributes = frames_of_tables pool start (filter (is_table pool) attributes)

kept : (pool : List Constant) (table : Attribute) (b : Bool) → is_table pool table ≡ b → b ≡ true
    → filter (is_table pool) (table ∷ []) ≡ table ∷ []
kept pool table true is e = rw is refl
kept pool table false is e = absurd (cc e)

-- what is read, where another reading gives the same
read-so : (start : List VKind) (fs : List PlacedFrame) (a b : Option (List PlacedFrame)) → a ≡ b
    → AreReadAs start fs b → AreReadAs start fs a
read-so start fs a b same r =
    record { frames = r.frames; is = same ∙ r.is; same = r.same; within = r.within }

module _ (again : WrittenFramesAreRead) (pool : List Constant) (code : Labelled) where
  abbrev start : List VKind
  start = kinds_of code.start

  table-again : (fs : List PlacedFrame) (attributes : List Attribute)
      → AreNamedKinds start → AllByRecursion IsNamedFrame fs → length fs < 2 ^ 16
      → IsTable pool code fs attributes → AreReadAs start fs (given pool start attributes)
  table-again fs attributes named frames few t =
      let named_so : is_table pool t.table ≡ true =
      ap (is_named (codes "StackMapTable")) t.named in
      read-so start fs (given pool start attributes) (frames_in pool start t.table.bytes)
      (ap (given pool start) t.alone
      ∙ ap (frames_of_tables pool start)
      (kept pool t.table (is_table pool t.table) refl named_so))
      (again pool start fs t.table.bytes named frames few t.bytes)

  attributes-again : (fs : List PlacedFrame) (attributes : List Attribute)
      → AreNamedKinds start → AllByRecursion IsNamedFrame fs → length fs < 2 ^ 16
      → AreAttributes pool code fs attributes
      → AreReadAs start fs (given pool start attributes)
  attributes-again [] attributes named frames few none = record {
    frames = [];
    is = ap (given pool start) none;
    same = tt;
    within = λ most few all. tt;
  }
  attributes-again (f ∷ fs) attributes named frames few t =
      table-again (f ∷ fs) attributes named frames few t

pub placed-again : WrittenFramesAreRead → PlacedFramesAreRead
placed-again again file m code attr p start named frames few =
    read-so (kinds_of code.start) (frames_of code p.placed_.indices)
    (given file.pool.entries (start_of file m) attr.attributes)
    (given file.pool.entries (kinds_of code.start) attr.attributes)
    (ap (λ (ks : List VKind). given file.pool.entries ks attr.attributes) start)
    (attributes-again again file.pool.entries code (frames_of code p.placed_.indices)
    attr.attributes named frames few p.attributes)
