-- What is compiled from an accepted source are its class files, whose runs show the source's and
-- are secure.
use Rattle.std.proofs.Common.{◌≡◌, ℕ, zero, suc, ◌+◌, ◌≤◌, Bool, List, [], ◌∷◌, length, map, drop}
use Rattle.std.proofs.Common.{Option, Some, None, slice_get, refl, sym, ap, ap₂, subst, ◌∙◌}
use Rattle.std.proofs.Common.{inl, inr, arith}
use Rattle.std.specs.List.{AllByRecursion, AllZip, IsDistinct}
use Rattle.std.specs.Str.{bytes_eq}
use Rattle.std.specs.Option.{option_map}
use Rattle.std.proofs.lemmas.List.{length-append}
use Rattle.std.proofs.lemmas.Map.Keys.{IsDistinct-tail}
use Rattle.std.proofs.lemmas.Option.{slice_get-map}
use Rattle.par_io.specs.declared.outside.WriteFail.{WriteFail}
use Rattle.par_io.specs.Causes.{FolderCounts, Makes, Files, Told, ToldBoth}
use Rattle.par_typed.specs.declared.program.Typed.{Typed}
use Rattle.par_typed.specs.declared.table.ClassInfo.{ClassInfo}
use Rattle.par_typed.specs.declared.table.Table.{Table}
use Rattle.par_typed.specs.Plain.{Body}
use Rattle.par_typed.specs.Shown.{bodies}
use Rattle.par_erase.specs.Erased.{erased_table, erased_class, erased_bodies}
use Rattle.par_erase.specs.Named.{AreNamed}
use Rattle.par_pool.specs.declared.reader.TheConstants.{LONGEST_CLASS}
use Rattle.par_class.specs.declared.file.ClassFile.{ClassFile}
use Rattle.par_class.specs.Spelling.{Spells}
use Rattle.par_single.specs.Members.{own_name}
use Rattle.par_secrecy.specs.Shows.{Shows}
use Rattle.par_secrecy.proofs.Carried.{shown_files_are_secure}
use Rattle.par_alike.specs.Subject.{subject}
use Rattle.par_step_laws.specs.Target.{target}
use Rattle.par_loader.specs.Reads.{Classes, IsSpelled, class_file}
use Rattle.par_loader.specs.Judged.{judged}
use Rattle.par_loader.proofs.Counting.{rose_since}
use Rattle.par_code_form.specs.Named.{of_class, class_word}
use Rattle.par_class_writer.specs.par_compile_laws.Members.{members}
use Rattle.par_class_writer.specs.par_compile_laws.Files.{FIRST_DECLARED, declared_classes}
use Rattle.par_class_writer.specs.par_compile_laws.Files.{IsFileOf}
use Rattle.par_class_writer.specs.par_compile_laws.Files.{IsVersioned}
use Rattle.par_compile.specs.declared.compiled.CompiledClass.{CompiledClass}
use Rattle.par_compile.specs.Compiled.{IsCompiledClass, AreCompiled}
use Rattle.par_class_writer.specs.Written.{SetsBut, AreWritten, FailsAt, IsCutOff}
use Rattle.par_link_laws.specs.Parts.{AreFilesOf, ArePart, AreFound, IsFoundIn}
use Rattle.par_link_laws.specs.Linkable.{IsLinkable}
use Rattle.par_link_laws.proofs.Program.{class-of, number-at}
use Rattle.par_link_laws.proofs.Texts.{class-is}
use Rattle.par_link_laws.proofs.Whole.{files_link, files_load}
use Rattle.par_link_laws.proofs.WellTyped.{well_typed_programs_are_linkable}
use Rattle.par_verified_file_laws.specs.Laws.{main_class, AreLoadedFor, IsVersionedFile}
use Rattle.par_verified_file_laws.proofs.Whole.{files_show, files_show_whole}
use Rattle.par_verified_file_laws.proofs.Whole.{loaded_files_are_framed, loaded_files_are_verified}
use Rattle.par_verified_file_laws.proofs.All.{all_files_are_verified}
use Rattle.par_observer.specs.Trees.{IsWellFormed}
use Rattle.par_tool.specs.declared.answer.Answer.TheVariants.{Compiled, WriteFault}
use Rattle.par_tool.specs.Outside.{Text, MakesAtMost}
use Rattle.par_tool.specs.Sources.{IsSecureAs, RunsAsProgram, LinkTogether, AreClassesOf}
use Rattle.par_tool.specs.Sources.{MOST_FILES, ReadSource, CompiledSo, StopsThere, IsCutShort}
use Rattle.par_tool.proofs.Spending.{read_and_writes, read_and_few}

-- ---- the files that the bytes spell

-- a file that the bytes of a compiled class spell, under its name
record IsMade (Is : ClassFile → Type 0) (c : CompiledClass) : Type 0 where
  file : ClassFile
  is : Is file
  own : own_name file ≡ c.name
  short : length c.bytes ≤ LONGEST_CLASS
  spells : Spells c.bytes file

-- those of all classes, in their order
record AreMade (Is : ℕ → ClassInfo → ClassFile → Type 0) (infos : List ClassInfo)
    (classes : List CompiledClass) : Type 0 where
  files : List ClassFile
  many : length files ≡ length infos
  each : (place : ℕ) (info : ClassInfo) (file : ClassFile) → slice_get infos place ≡ Some info
      → slice_get files place ≡ Some file → Is place info file
  spelled : (place : ℕ) (file : ClassFile) → slice_get files place ≡ Some file → IsSpelled file
  beside : AllZip (λ c file. Spells c.bytes file) classes files
  found : (found : Classes) → AllByRecursion (λ c. found c.name ≡ Some c.bytes) classes
      → AreFound found files

module _ (Is : ℕ → ClassInfo → ClassFile → Type 0) (info : ClassInfo) (infos : List ClassInfo)
    (c : CompiledClass) (classes : List CompiledClass) (made : IsMade (Is 0 info) c)
    (more : AreMade (λ place. Is (suc place)) infos classes) where
  each_of : (place : ℕ) (i : ClassInfo) (file : ClassFile)
      → slice_get (info ∷ infos) place ≡ Some i
      → slice_get (made.file ∷ more.files) place ≡ Some file → Is place i file
  each_of zero i file there at =
      let same_info : info ≡ i = cc in
      let same_file : made.file ≡ file = cc in
      subst (Is 0 i) same_file (subst (λ (x : ClassInfo). Is 0 x made.file) same_info made.is)
  each_of (suc place) i file there at = more.each place i file there at

  spelled_of : (place : ℕ) (file : ClassFile)
      → slice_get (made.file ∷ more.files) place ≡ Some file → IsSpelled file
  spelled_of zero file at =
      let same : made.file ≡ file = cc in subst IsSpelled same (c.bytes, made.spells)
  spelled_of (suc place) file at = more.spelled place file at

  found_of : (found : Classes) → AllByRecursion (λ k. found k.name ≡ Some k.bytes) (c ∷ classes)
      → AreFound found (made.file ∷ more.files)
  found_of found h zero file at =
      let same : made.file ≡ file = cc in
      let is : IsFoundIn found made.file = record {
        bytes = c.bytes;
        there = ap found made.own ∙ h.0;
        short = made.short;
        spells = made.spells;
      } in
      subst (IsFoundIn found) same is
  found_of found h (suc place) file at = more.found found h.1 place file at

  one_more : AreMade Is (info ∷ infos) (c ∷ classes)
  one_more = record {
    files = made.file ∷ more.files;
    many = ap suc more.many;
    each = each_of;
    spelled = spelled_of;
    beside = (made.spells, more.beside);
    found = found_of;
  }

gathered : (Is : ℕ → ClassInfo → ClassFile → Type 0) (infos : List ClassInfo)
    (classes : List CompiledClass) → length classes ≡ length infos
    → ((place : ℕ) (info : ClassInfo) (c : CompiledClass) → slice_get infos place ≡ Some info
    → slice_get classes place ≡ Some c → IsMade (Is place info) c)
    → AreMade Is infos classes
gathered Is [] [] many h = record {
  files = [];
  many = refl;
  each = λ place info file there at. absurd (cc at);
  spelled = λ place file at. absurd (cc at);
  beside = tt;
  found = λ found all place file at. absurd (cc at);
}
gathered Is [] (c ∷ classes) many h = absurd (omega (arith, many))
gathered Is (info ∷ infos) [] many h = absurd (omega (arith, many))
gathered Is (info ∷ infos) (c ∷ classes) many h =
    let more =
    gathered (λ place. Is (suc place)) infos classes (omega (arith, many))
    (λ place. h (suc place)) in
    one_more Is info infos c classes (h 0 info c refl refl) more

-- the file of a class, with its frames or without
record IsWhole (table : Table) (all : List Body) (number : ℕ) (info : ClassInfo)
    (file : ClassFile) : Type 0 where
  is : IsFileOf table all number info file
  frames : Bool
  versioned : IsVersioned frames (members table all number info) file

module _ (table : Table) (all : List Body) where
  abbrev IsAt : ℕ → ClassInfo → ClassFile → Type 0
  IsAt place = IsWhole table all (FIRST_DECLARED + place)

  made_of : (number : ℕ) (info : ClassInfo) (c : CompiledClass)
      → IsCompiledClass table all number info c → IsMade (IsWhole table all number info) c
  made_of number info c h =
      let file = h.is.file in
      let is : IsFileOf table all number info file = h.is.is in
      record {
        file = file;
        is = record { is = is; frames = h.is.frames; versioned = h.is.versioned };
        own = class-is file.pool.entries file.this_class info.name is.this_class ∙ sym h.name;
        short = h.is.short;
        spells = h.is.spells;
      }

  files_of : (classes : List CompiledClass) → AreCompiled table all classes
      → AreMade IsAt (declared_classes table) classes
  files_of classes h =
      gathered IsAt (declared_classes table) classes h.many
      (λ place info c there at.
      made_of (FIRST_DECLARED + place) info c (h.each place info c there at))

-- ---- their runs

-- the class of a number has the same name without policies
word_kept : (t : Table) (c : ℕ) → class_word (erased_table t) c ≡ class_word t c
word_kept t c =
    ap (λ (o : Option ClassInfo). of_class o (λ class. class.name))
    (slice_get-map erased_class t.classes c)
    ∙ of_erased (slice_get t.classes c)
  where
    of_erased : (o : Option ClassInfo)
        → of_class (option_map erased_class o) (λ class. class.name)
        ≡ of_class o (λ class. class.name)
    of_erased None = refl
    of_erased (Some class) = refl

module _ (source : Text) (typed : Typed) (classes : List CompiledClass)
    (accepted : IsSecureAs source typed) (formed : IsWellFormed typed) where
  abbrev plain : Table
  plain = erased_table typed.table

  abbrev plain_bodies : List Body
  plain_bodies = erased_bodies typed.table (bodies typed.bodies)

  pub linkable : AreNamed plain → IsLinkable plain plain_bodies
  linkable named =
      well_typed_programs_are_linkable typed.table (bodies typed.bodies) formed.typed_well
      formed.declared_well.names named

  module _ (named : AreNamed plain) (compiled : AreCompiled plain plain_bodies classes) where
    abbrev made : AreMade (IsAt plain plain_bodies) (declared_classes plain) classes
    made = files_of plain plain_bodies classes compiled

    files_are : AreFilesOf plain plain_bodies made.files
    files_are = record {
      many = made.many;
      each = λ place info file there at. (made.each place info file there at).is;
      spelled = made.spelled;
    }

    -- each of them is the file of its class, in its version
    versioned_so : (place : ℕ) (file : ClassFile) → slice_get made.files place ≡ Some file
        → IsVersionedFile plain plain_bodies file
    versioned_so place file at =
        let of = class-of plain plain_bodies (linkable named) made.files files_are place file at in
        let whole_file = made.each place of.class file of.there at in
        record {
          number = FIRST_DECLARED + place;
          class = of.class;
          there = number-at plain plain_bodies (linkable named) place of.class of.there;
          is = whole_file.is;
          frames = whole_file.frames;
          versioned = whole_file.versioned;
        }

    part_versioned : (part : List ClassFile) → ArePart made.files part → (n : ℕ)
        (file : ClassFile) → slice_get part n ≡ Some file
        → IsVersionedFile plain plain_bodies file
    part_versioned part is n file at =
        let among = is.among n file at in versioned_so among.0 file among.1

    linked_so : LinkTogether classes
    linked_so = record {
      files = made.files;
      spelled = made.beside;
      unbroken = files_link plain plain_bodies made.files (linkable named) files_are;
      verified =
          all_files_are_verified typed.table (bodies typed.bodies) made.files (record {
            well_typed = formed.typed_well;
            linkable = linkable named;
            are = files_are;
            versioned = versioned_so;
          });
    }

    runs_so : (found : Classes) → AllByRecursion (λ c. found c.name ≡ Some c.bytes) classes
        → RunsAsProgram typed found
    runs_so found there =
        let main = main_class typed in
        let loads =
        files_load plain plain_bodies made.files found (linkable named) files_are
        (made.found found there) in
        let part : List ClassFile = loads.0 in
        let loaded : AreLoadedFor typed.table (bodies typed.bodies) part = record {
          well_typed = formed.typed_well;
          linkable = linkable named;
          loaded = loads.1.are;
        } in
        let shown : Shows (target part main) (subject typed) = files_show typed part loaded in
        record {
          part = part;
          loaded =
              ap (judged found) (sym (word_kept typed.table typed.table.main))
              ∙ loads.1.judged_so;
          framed =
              loaded_files_are_framed typed.table (bodies typed.bodies) part loaded
              (part_versioned part loads.1.is_part);
          verified =
              loaded_files_are_verified typed.table (bodies typed.bodies) part loaded
              (part_versioned part loads.1.is_part);
          shows = shown;
          shows_whole = files_show_whole typed part loaded;
          secure = shown_files_are_secure (target part main) (subject typed) shown accepted.secure;
        }

    pub classes_of : AreClassesOf typed classes
    classes_of = record { spelled = compiled; linked = linked_so; run = runs_so }

    pub few_files : length classes ≤ MOST_FILES
    few_files = let few = (linkable named).few in let many = compiled.many in
        omega (arith, few, many)

-- ---- their names

same_names : (infos : List ClassInfo) (classes : List CompiledClass)
    → length classes ≡ length infos
    → ((place : ℕ) (info : ClassInfo) (c : CompiledClass) → slice_get infos place ≡ Some info
    → slice_get classes place ≡ Some c → c.name ≡ info.name)
    → map (λ c. c.name) classes ≡ map (λ i. i.name) infos
same_names [] [] many h = refl
same_names [] (c ∷ classes) many h = absurd (omega (arith, many))
same_names (info ∷ infos) [] many h = absurd (omega (arith, many))
same_names (info ∷ infos) (c ∷ classes) many h =
    let more = same_names infos classes (omega (arith, many)) (λ place. h (suc place)) in
    ap₂ (λ (x : Text) (xs : List Text). x ∷ xs) (h 0 info c refl refl) more

-- names that differ still do where the first are left out
later_apart : (n : ℕ) (infos : List ClassInfo) → IsDistinct bytes_eq (map (λ i. i.name) infos)
    → IsDistinct bytes_eq (map (λ i. i.name) (drop n infos))
later_apart zero infos h = h
later_apart (suc n) [] h = h
later_apart (suc n) (i ∷ infos) h =
    later_apart n infos (IsDistinct-tail bytes_eq i.name (map (λ i. i.name) infos) h)

pub names_apart : (table : Table) (all : List Body) (classes : List CompiledClass)
    → IsLinkable table all → AreCompiled table all classes
    → IsDistinct bytes_eq (map (λ c. c.name) classes)
names_apart table all classes links compiled =
    let same =
    same_names (declared_classes table) classes compiled.many
    (λ place info c there at. (compiled.each place info c there at).name) in
    subst (IsDistinct bytes_eq) (sym same)
    (later_apart FIRST_DECLARED table.classes links.apart.classes)

-- ---- what is written

-- what is loaded from a folder in which the class files are set runs as the program
runs_there : (typed : Typed) (classes : List CompiledClass) → AreClassesOf typed classes
    → (old later : Option Files) → ToldBoth old later (SetsBut classes [])
    → Told later (λ m. RunsAsProgram typed (λ name. m (class_file name)))
runs_there typed classes are old None sets = tt
runs_there typed classes are None (Some new) sets = absurd sets
runs_there typed classes are (Some m) (Some new) sets =
    are.run (λ name. new (class_file name)) sets.whole

module _ (files mid later : Option Files) (before between after : FolderCounts) (file : Text)
    (typed : Typed) (classes : List CompiledClass) (are : AreClassesOf typed classes)
    (read : ReadSource files file (λ source. IsSecureAs source typed))
    (kept : mid ≡ files) (one : Makes 1 0 before between) where
  pub all_written : (many : ℕ) → many ≡ length classes
      → AreWritten classes mid later between after
      → CompiledSo files later before after file (Compiled many)
  all_written many is written =
      let makes = read_and_writes (length classes) before between after one written.1 in
      let sets : ToldBoth files later (SetsBut classes []) =
      subst (λ (fs : Option Files). ToldBoth fs later (SetsBut classes [])) kept written.0 in (
        subst (λ n. Makes 1 n before after) (sym is) makes,
        record {
          source = read.0;
          read = read.1;
          typed = typed;
          accepted = read.2.accepted;
          secure = read.2.secure;
          classes = classes;
          counted = is;
          written = sets;
          are = are;
          runs = runs_there typed classes are files later sets;
        },
      )

  -- a write failed
  pub one_failed : before.faults ≤ between.faults
      → IsCutOff classes mid later between after WriteFail.Failed
      → CompiledSo files later before after file WriteFault
  one_failed grows cut =
      let place : ℕ = cut.0 in
      let fails : FailsAt classes files later place =
      subst (λ (fs : Option Files). FailsAt classes fs later place) kept cut.1 in (
        place,
        rose_since before.faults between.faults after.faults grows cut.3,
        read_and_writes (place + 1) before between after one cut.2,
        (typed, classes, are, fails, read),
      )

  -- memory was wanting, for the names of the files or for a write
  pub cut_short : length classes ≤ MOST_FILES
      → IsCutOff classes mid later between after WriteFail.Memory
      → IsCutShort files later before after file × MakesAtMost 1 MOST_FILES before after
  cut_short few (inl none) = (
    inl (none.0 ∙ kept, read_and_writes 0 before between after one none.1),
    read_and_few 0 before between after (omega arith) one none.1,
  )
  cut_short few (inr cut) =
      let stops : StopsThere files later before after file classes =
      subst (λ (fs : Option Files). StopsThere fs later before after file classes) kept
      (cut.0, read_and_writes (length cut.0.first + 1) before between after one cut.1) in
      let many = ap length cut.0.among in
      let parts = length-append cut.0.first (cut.0.next ∷ cut.0.rest) in (
        inr (typed, classes, are, stops, read),
        read_and_few (length cut.0.first + 1) before between after
            (omega (arith, few, many, parts)) one cut.1,
      )
