-- What holds of the class files of a program.
use Rattle.std.specs.Prelude.{◌≡◌, false, List, length, None}
use Rattle.par_typed.specs.declared.table.Table.{Table}
use Rattle.par_typed.specs.declared.table.MethodInfo.{MethodInfo}
use Rattle.par_typed.specs.Plain.{TSta, Body}
use Rattle.par_class.specs.declared.file.ClassFile.{ClassFile}
use Rattle.par_compile_laws.specs.par_code_form.Method.{labelled}
use Rattle.par_compile_laws.specs.par_code_form.Named.{class_word, words_of}
use Rattle.par_compile_laws.specs.par_code_form.declared.item.Item.{Item}
use Rattle.par_compile_laws.specs.par_code_form.declared.item.Item.TheVariants.{Label, Op, Const}
use Rattle.par_compile_laws.specs.par_code_form.declared.item.Item.TheVariants.{Jump}
use Rattle.par_compile_laws.specs.par_code_form.declared.item.Item.TheVariants.{Member}
use Rattle.par_compile_laws.specs.par_code_form.declared.item.Item.TheVariants.{ClassOp, LockOp}
use Rattle.par_compile_laws.specs.par_code_form.declared.labelled.Labelled.{Labelled}
use Rattle.par_class.specs.declared.file.CodeAttr.{CodeAttr}
use Rattle.par_compile_laws.specs.par_code_form.PoolNames.{full_name}
use Rattle.par_compile_laws.specs.par_code_form.Placed.{IsPlaced}
use Rattle.std.specs.List.{AllByRecursion}
use Rattle.par_loader.specs.Mentions.{is_unread}
use Rattle.par_loader.specs.par_link.Order.{first_broken}
use Rattle.par_loader.specs.Reads.{Classes}
use Rattle.par_loader.specs.Loaded.{whole}
use Rattle.par_loader.specs.Judged.{judged}
use Rattle.par_link_laws.specs.Parts.{AreFilesOf, IsClosedIn, ArePart, AreLoadedFiles, AreFound}
use Rattle.par_link_laws.specs.Bodies.{BodyLinks}
use Rattle.par_link_laws.specs.Linkable.{CodeNamesThere, IsLinkable}

-- all files of a program link
abbrev pub FilesLink : Type 0
FilesLink =
    (table : Table) (bodies : List Body) (files : List ClassFile) → IsLinkable table bodies
    → AreFilesOf table bodies files → first_broken files ≡ None

-- so does each part of them, in whichever order
abbrev pub PartsLink : Type 0
PartsLink =
    (table : Table) (bodies : List Body) (files part : List ClassFile) → IsLinkable table bodies
    → AreFilesOf table bodies files → ArePart files part → first_broken part ≡ None

-- these are loaded for the class that the program begins with, and nothing is refused
pub record AreLoadedFor (table : Table) (bodies : List Body) (classes : Classes)
    (files part : List ClassFile) : Type 0 where
  pub is_part : ArePart files part
  pub judged_so :
      judged classes (class_word table table.main)
      ≡ record { reads = length part; end = whole part }
  pub are : AreLoadedFiles table bodies part

-- Where all files are found by the names of their classes, a part of them is loaded.
abbrev pub FilesLoad : Type 0
FilesLoad =
    (table : Table) (bodies : List Body) (files : List ClassFile) (classes : Classes)
    → IsLinkable table bodies → AreFilesOf table bodies files → AreFound classes files
    → (part : List ClassFile) × AreLoadedFor table bodies classes files part

-- the code of a body that names what the program has does so too
abbrev pub BodiesNameMembers : Type 0
BodiesNameMembers =
    (table : Table) (m : MethodInfo) (body : TSta) → BodyLinks table m body
    → CodeNamesThere table (labelled (words_of table) m body)

-- the class of what an item names is read
abbrev pub ItemIsRead : List ClassFile → Item → Type 0
ItemIsRead files (Label l) = Unit {0}
ItemIsRead files (Op i) = Unit {0}
ItemIsRead files (Const v) = Unit {0}
ItemIsRead files (Jump opcode l) = Unit {0}
ItemIsRead files (Member opcode class name of_type) = is_unread files (full_name class) ≡ false
ItemIsRead files (ClassOp opcode class) = is_unread files (full_name class) ≡ false
ItemIsRead files (LockOp opcode lock) = Unit {0}

-- so is that of each item, and each class that is caught
pub record CodeIsRead (files : List ClassFile) (code : Labelled) : Type 0 where
  pub items : AllByRecursion (ItemIsRead files) code.items
  pub handlers : AllByRecursion (λ h. is_unread files (full_name h.class) ≡ false) code.handlers

-- Each class that the code of a loaded file makes, throws, catches or names a member of is loaded.
abbrev pub NamedClassesAreLoaded : Type 0
NamedClassesAreLoaded =
    (files : List ClassFile) (file : ClassFile) (code : Labelled) (attr : CodeAttr)
    → IsClosedIn files file → IsPlaced file.pool.entries code attr → CodeIsRead files code
