-- The class files of a program link, and a part of them is loaded.
use Rattle.std.proofs.Common.{◌≡◌, ℕ, suc, ◌+◌, false}
use Rattle.std.proofs.Common.{List, Some, slice_get}
use Rattle.std.proofs.Common.{refl, sym, ap, subst, ◌∙◌, arith, get_or}
use Rattle.std.proofs.lemmas.Option.{slice_get_within, slice_get-get_or}
use Rattle.par_base.specs.Names.{IsName}
use Rattle.par_typed.specs.declared.table.ClassInfo.{ClassInfo}
use Rattle.par_typed.specs.declared.table.Table.{Table}
use Rattle.par_typed.specs.Plain.{Body}
use Rattle.par_pool.specs.declared.constant.Constant.{Constant}
use Rattle.par_pool.specs.declared.constant.Constant.TheVariants as constant
use Rattle.par_class.specs.declared.file.ClassFile.{ClassFile}
use Rattle.par_compile_laws.specs.par_code_form.PoolNames.{full_name}
use Rattle.par_compile_laws.specs.par_single.Described.{is_taken}
use Rattle.par_loader.specs.par_link.Linked.{AreLinked}
use Rattle.par_loader.proofs.par_link.Smallness.{spelled-small}
use Rattle.par_compile_laws.specs.Constants.{IsConstant}
use Rattle.par_compile_laws.specs.Files.{FIRST_DECLARED, declared_classes}
use Rattle.par_compile_laws.specs.Members.{members}
use Rattle.par_loader.specs.Begun.{BeginsMain}
use Rattle.par_loader.specs.Judged.{has_main, judged}
use Rattle.par_loader.specs.Mentions.{names_unread, is_unread}
use Rattle.par_loader.proofs.Mains.{begins_main}
use Rattle.par_link_laws.specs.Laws.{FilesLink, PartsLink, FilesLoad}
use Rattle.par_link_laws.specs.Linkable.{IsLinkable}
use Rattle.par_link_laws.specs.Parts.{AreFilesOf, ArePart, IsFileIn, AreLoadedFiles}
use Rattle.par_link_laws.proofs.Constants.{constant-stands}
use Rattle.par_link_laws.proofs.Items.{classes-named, own-names-at}
use Rattle.par_link_laws.proofs.Lists.{contained, any-none}
use Rattle.par_link_laws.proofs.Loads.{IsWhole, all-loaded}
use Rattle.par_link_laws.proofs.Members.{fields-apart, methods-apart, fields-right, methods-right}
use Rattle.par_link_laws.proofs.Program.{IsOfClass, class-of, class-links, files-apart}
use Rattle.par_link_laws.proofs.Program.{not-builtin}
use Rattle.par_link_laws.proofs.Program.{own-full, class-known, word-at, declared-at, number-at}
use Rattle.par_link_laws.proofs.Sound.{IsSoundFile, AreSound, Stands}
use Rattle.par_link_laws.proofs.Starts.{IsMainFile, main-file}
use Rattle.par_link_laws.proofs.Unbroken.{few, unbroken}
use Rattle.par_link_laws.proofs.Walks.{methods-passed}

module _ (table : Table) (bodies : List Body) (all : List ClassFile) (l : IsLinkable table bodies)
    (files : AreFilesOf table bodies all) where
  -- the class of a file is read
  own-read : (place : ℕ) (class : ClassInfo)
      → slice_get (declared_classes table) place ≡ Some class
      → is_unread all class.name ≡ false
  own-read place class there =
      let at : slice_get table.classes (suc (suc place)) ≡ Some class =
      declared-at table bodies l place ∙ there in
      let word = word-at table bodies l (suc (suc place)) class at in
      ap (is_unread all) (sym (own-full table bodies l place class there))
      ∙ ap (λ w. is_unread all (full_name w)) (sym word)
      ∙ class-known table bodies l all files (suc (suc place))
      (slice_get_within table.classes (suc (suc place)) class at)

  sound-file : (place : ℕ) (file : ClassFile) → slice_get all place ≡ Some file
      → IsSoundFile all file
  sound-file place file listed =
      let o : IsOfClass table bodies l all files place file =
      class-of table bodies l all files place file listed in
      let links = class-links table bodies l place o.class o.there in
      let own = own-names-at table bodies all l files place o.class o.there in
      let named = classes-named table bodies all l files in
      let c : ℕ = FIRST_DECLARED + place in
      record {
        named = subst IsName (sym o.own) links.named;
        free = ap is_taken o.own ∙ not-builtin table bodies l place o.class o.there;
        fields_apart = fields-apart table bodies c o.class file o.is links own named;
        methods_apart = methods-apart table bodies c o.class file o.is links own named;
        fields_right = fields-right table bodies c o.class file o.is links own named;
        methods_right = methods-right table bodies c o.class file o.is links own named;
        walked = λ so never.
            methods-passed file.pool.entries so never (members table bodies c o.class)
            file.methods (o.is).methods;
        stands = λ i x at.
            constant-stands table bodies all l files file.pool.entries place o.class o.there
            (own-read place o.class o.there) x
            (contained (IsConstant file.pool.entries table o.class (members table bodies c o.class))
            file.pool.entries i x (o.is).constants at);
      }

  pub sound : AreSound all
  sound = record {
    few = let many = files.many in let few = l.few in omega (arith, many, few);
    apart = files-apart table bodies l all files;
    each = sound-file;
  }

  none-unread : (entries : List Constant) (c : Constant) → Stands all entries c
      → names_unread all entries c ≡ false
  unfolding names_unread
  none-unread entries (constant.Class name) stands = stands
  none-unread entries (constant.Utf8 text) stands = refl
  none-unread entries (constant.Integer n) stands = refl
  none-unread entries (constant.Text text) stands = refl
  none-unread entries (constant.Field class member) stands = refl
  none-unread entries (constant.Method class member) stands = refl
  none-unread entries (constant.NameType name descriptor) stands = refl

  -- all files are a part of themselves
  pub whole-part : ArePart all all
  whole-part = record {
    among = λ place file at. (place, at);
    apart = files-apart table bodies l all files;
    closed = λ place file listed.
        any-none (names_unread all file.pool.entries) file.pool.entries
        (λ i c at. none-unread file.pool.entries c ((sound-file place file listed).stands i c at));
  }

pub files_link : FilesLink
files_link table bodies files l are =
    unbroken files files (sound table bodies files l are) (whole-part table bodies files l are)

pub parts_link : PartsLink
parts_link table bodies files part l are is =
    unbroken files part (sound table bodies files l are) is

-- ---- what is loaded

module _ (table : Table) (bodies : List Body) (all : List ClassFile) (l : IsLinkable table bodies)
    (files : AreFilesOf table bodies all) where
  abbrev all_sound : AreSound all
  all_sound = sound table bodies all l files

  -- the class of each file of a part
  part-class : (part : List ClassFile) → ArePart all part → (place : ℕ) (file : ClassFile)
      → slice_get part place ≡ Some file → (c : ℕ) × IsFileIn table bodies c file
  part-class part is place file listed =
      let there = is.among place file listed in
      let o : IsOfClass table bodies l all files there.0 file =
      class-of table bodies l all files there.0 file there.1 in (
        FIRST_DECLARED + there.0,
        record {
          class = o.class;
          there = number-at table bodies l there.0 o.class o.there;
          declared = omega arith;
          is = o.is;
        },
      )

  -- a part of the files is linked
  pub part-linked : (part : List ClassFile) → ArePart all part → AreLinked part
  part-linked part is = record {
    few = few all part all_sound is;
    small = λ place d within.
        let at = slice_get-get_or part place d within in
        let there = is.among place (get_or part place d) at in
        let spelled = files.spelled there.0 (get_or part place d) there.1 in
        spelled-small (get_or part place d) spelled.0 spelled.1;
    spelled = λ place d within.
        let at = slice_get-get_or part place d within in
        let there = is.among place (get_or part place d) at in
        (all_sound.each there.0 (get_or part place d) there.1).named;
    unbroken = unbroken all part all_sound is;
  }

  pub loaded-files : (part : List ClassFile) (is : ArePart all part)
      (m : IsMainFile table bodies all l files)
      → slice_get part 0 ≡ Some m.file → AreLoadedFiles table bodies part
  loaded-files part is m first = record {
    each = part-class part is;
    apart = is.apart;
    closed = is.closed;
    linked = part-linked part is;
    main =
        subst (λ name. BeginsMain name part) m.own
        (begins_main part m.file (unbroken all part all_sound is) first
        (ap has_main first ∙ m.begins));
  }

pub files_load : FilesLoad
files_load table bodies files classes l are found =
    let m : IsMainFile table bodies files l are = main-file table bodies files l are in
    let s : AreSound files = sound table bodies files l are in
    let loads : IsWhole files s classes found m.at m.file m.listed =
    all-loaded files s classes found m.at m.file m.listed m.begins in (
      loads.files,
      record {
        is_part = loads.is_part;
        judged_so =
            ap (judged classes) (sym m.own) ∙ loads.is;
        are = loaded-files table bodies files l are loads.files loads.is_part m loads.first;
      },
    )
