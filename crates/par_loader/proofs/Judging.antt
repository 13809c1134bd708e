-- From files that are loaded to what is said of them.
use Rattle.std.proofs.Common.{◌≡◌, ℕ, suc, List, Option, Result, Ok, Err, ap, subst}
use Rattle.std.proofs.Common.{◌∙◌, inl, arith}
use Rattle.par_io.specs.Causes.{FolderCounts, Makes, Files}
use Rattle.par_class.specs.declared.file.ClassFile.{ClassFile}
use Rattle.par_link.specs.declared.linked.Linked.{Linked}
use Rattle.par_loader.specs.declared.error.Unloaded.{Unloaded}
use Rattle.par_loader.specs.declared.error.Unloaded.TheVariants.{Absent, TooLong, Failed, BadClass}
use Rattle.par_loader.specs.declared.error.Unloaded.TheVariants.{Memory}
use Rattle.par_loader.specs.declared.read_files.Loading.{Loading}
use Rattle.par_loader.specs.Reads.{Text, Classes}
use Rattle.par_loader.specs.Loaded.{Loaded, whole, Load, behind_first, loaded}
use Rattle.par_loader.specs.Judged.{linked, judged}
use Rattle.par_loader.specs.Ends.{comes_to, Loads, main_of, Links, LinksAs, JudgesAs, Judges}
use Rattle.par_loader.proofs.Counting.{at_most}

abbrev load_of : ℕ → Loaded → Load
load_of reads end = record { reads = reads; end = end }

abbrev judging : Text → Load → Load
judging main load = record { reads = load.reads; end = linked main load.end }

module _ (classes : Classes) (main : Text) where
  module _ (before after : FolderCounts) (reads : ℕ) (makes : Makes reads 0 before after)
      (files : List ClassFile)
      (is : comes_to (loaded classes main) reads (whole files)) where
    judges_as : (r : Result Linked Unloaded) → LinksAs (linked main (whole files)) r
        → JudgesAs (judged classes main) before after r
    judges_as (Ok all) links = (reads, makes, ap (judging main) is ∙ ap (load_of (suc reads)) links)
    judges_as (Err (BadClass class number value)) links =
        (reads, makes, inl (ap (judging main) is ∙ ap (load_of (suc reads)) links))
    judges_as (Err Memory) links =
        let all : (loaded classes main).reads ≡ suc reads = ap (λ (l : Load). l.reads) is in
        at_most reads (behind_first (judged classes main)) before after (omega (arith, all)) makes
    judges_as (Err Absent) links = absurd links
    judges_as (Err TooLong) links = absurd links
    judges_as (Err Failed) links = absurd links

module _ (files : Option Files) (main : Text) (before after : FolderCounts) where
  pub judges : (loading : Loading) (r : Result Linked Unloaded)
      → Loads files main before after (Ok loading) → main_of loading.files ≡ main
      → Links loading.files r → Judges files main before after r
  judges loading r h first links =
      let here : LinksAs (linked main (whole loading.files)) r =
      subst (λ (n : Text). LinksAs (linked n (whole loading.files)) r) first links in (
        h.0,
        h.1,
        judges_as h.0 main before after h.2.0 h.2.1 loading.files h.2.2 r here,
      )
