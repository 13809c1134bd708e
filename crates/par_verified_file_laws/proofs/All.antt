-- All class files of a well-typed program are verified: with that of `main` first, they could all
-- be loaded.
use Rattle.std.proofs.Common.{◌≡◌, ℕ, List, ◌∷◌, Some, slice_get, refl, sym}
use Rattle.std.specs.List.{remove}
use Rattle.std.specs.List.Sorted.{IsPermutation}
use Rattle.std.proofs.lemmas.List.Sorted.{IsPermutation-remove}
use Rattle.std.proofs.lemmas.Option.{slice_get_within, get_or_from_slice_get}
use Rattle.par_typed.specs.declared.table.Table.{Table}
use Rattle.par_typed.specs.Plain.{Body}
use Rattle.par_erase.specs.Erased.{erased_table, erased_bodies}
use Rattle.par_class.specs.declared.file.ClassFile.{ClassFile}
use Rattle.par_framed_file_laws.specs.par_link_laws.Parts.{ArePart}
use Rattle.par_framed_file_laws.proofs.par_link_laws.Starts.{IsMainFile, main-file}
use Rattle.par_framed_file_laws.proofs.par_link_laws.Whole.{loaded-files}
use Rattle.par_framed_file_laws.specs.Laws.{AreLoadedFor, IsVersionedFile}
use Rattle.par_framed_file_laws.proofs.Whole.{loaded_files_are_framed}
use Rattle.par_verified_file_laws.specs.Laws.{AreFilesFor, AreAllVerified, AllFilesAreVerified}
use Rattle.par_verified_file_laws.proofs.Orders.{stands_again, order_is_part}
use Rattle.par_verified_file_laws.proofs.Whole.{loaded_files_are_verified}

module _ (t : Table) (all : List Body) (files : List ClassFile) (are : AreFilesFor t all files)
  where
    abbrev plain : Table
    plain = erased_table t

    abbrev plain_bodies : List Body
    plain_bodies = erased_bodies t all

    main : IsMainFile plain plain_bodies files are.linkable are.are
    main = main-file plain plain_bodies files are.linkable are.are

    abbrev order : List ClassFile
    order = main.file ∷ remove files main.at

    same : IsPermutation files order
    same =
        IsPermutation-remove files main.at main.file
        (slice_get_within files main.at main.file main.listed)
        (sym (get_or_from_slice_get files main.at main.file main.file main.listed))

    part : ArePart files order
    part = order_is_part plain plain_bodies files order are.linkable are.are same

    loaded : AreLoadedFor t all order
    loaded = record {
      well_typed = are.well_typed;
      linkable = are.linkable;
      loaded = loaded-files plain plain_bodies files are.linkable are.are order part main refl;
    }

    versioned : (n : ℕ) (file : ClassFile) → slice_get order n ≡ Some file
        → IsVersionedFile plain plain_bodies file
    versioned n file at =
        let there = part.among n file at in are.versioned there.0 file there.1

    verified : AreAllVerified files
    verified = record {
      framed = λ n file at.
          let there = stands_again files order same n file at in
          loaded_files_are_framed t all order loaded versioned there.0 file there.1;
      order = order;
      same = same;
      verified = loaded_files_are_verified t all order loaded versioned;
    }

pub all_files_are_verified : AllFilesAreVerified
all_files_are_verified t all files are = verified t all files are
