-- A source that was read and accepted, and its run.
use Rattle.std.proofs.Common.{◌≡◌, ℕ, List, Option, sym, ap, subst, ◌∙◌, inr}
use Rattle.std.specs.Prelude.{map}
use Rattle.std.proofs.lemmas.List.{append-nil}
use Rattle.par_io.specs.Causes.{FolderCounts, Makes, NoneFalls, Files}
use Rattle.par_loader.proofs.Counting.{rose_since}
use Rattle.par_lexer.specs.declared.cut.TheConstants.{LONGEST_SOURCE}
use Rattle.par_typed.specs.declared.table.Table.{Table}
use Rattle.par_typed.specs.Plain.{Body}
use Rattle.par_typed.specs.Shown.{bodies}
use Rattle.par_tree.specs.Plain.{Source}
use Rattle.par_resolved.specs.Resolved.{table_of}
use Rattle.par_observer.specs.Trees.{bodies_of}
use Rattle.par_values.specs.declared.inputs.Inputs.{Inputs}
use Rattle.par_typed.specs.declared.program.Typed.{Typed}
use Rattle.par_secrecy.specs.Runs.{Witnessed, Run}
use Rattle.par_run_laws.specs.Source.{run_of, source}
use Rattle.par_meaning.specs.Onward.{witnessed}
use Rattle.par_meaning.specs.Whole.{as_run}
use Rattle.par_meaning.specs.declared.run.SourceRun.{SourceRun}
use Rattle.par_trace.specs.Channels.{first_misfit}
use Rattle.par_trace.specs.Texts as told
use Rattle.par_tool.specs.Outside.{Text, WasRead}
use Rattle.par_tool.specs.Sources.{ReadSource, IsSecureAs}
use Rattle.par_tool.specs.declared.answer.Answer.TheVariants.{Absent, TooLong, ReadFault}
use Rattle.par_tool.specs.declared.answer.Answer.TheVariants.{BadInputs}
use Rattle.par_tool.specs.declared.reads.Failure.{Failure}
use Rattle.par_tool.specs.declared.reads.Failure.TheVariants.{Answered, Memory}
use Rattle.par_tool.specs.Failures.{IsFailure}
use Rattle.par_tool.specs.Given.{AreInputs, HasBadLine, IsUngiven}
use Rattle.par_tool.specs.Traces.{IsSourceIn, IsTraced, LacksMemory, Untraced, source_run}

-- the run of a program is that of its tree
of_tree : (typed : Typed) (tree : Source) (lists : Inputs) (bound : ℕ)
    → typed.table ≡ table_of tree → bodies typed.bodies ≡ bodies_of tree
    → source typed lists bound ≡ source_run tree lists.channels bound
unfolding source
of_tree typed tree lists bound table_is bodies_are =
    ap (λ (t : Table). run_of t (bodies typed.bodies) lists.channels bound) table_is
    ∙ ap (λ (bs : List Body). run_of (table_of tree) bs lists.channels bound) bodies_are

-- what is told of a run is what was made
as_told : (run : SourceRun) → told.run_of run ≡ as_run run
as_told run =
    ap (λ (es : List Witnessed). let r : Run = record { events = es; ending = run.ending } in r)
    (sym (append-nil (map witnessed run.events)))

-- the source in a file, by its tree
source_in : (files : Option Files) (file source : Text) (typed : Typed)
    → WasRead files LONGEST_SOURCE file source → (h : IsSecureAs source typed)
    → IsSourceIn files file h.accepted.tree
source_in files file source typed read h = record {
  source = source;
  read = read;
  is_tree = h.accepted.is_tree;
  accepted = h.accepted.keeps.0;
  typed = typed;
  program = h.accepted.keeps.1;
  secure = h.secure;
}

-- memory is wanting behind it
pub source_stands : (files : Option Files) (before after : FolderCounts) (file inputs : Text)
    (typed : Typed) → ReadSource files file (λ source. IsSecureAs source typed)
    → Makes 2 0 before after → LacksMemory files before after file inputs
source_stands files before after file inputs typed read makes =
    let h : IsSecureAs read.0 typed = read.2 in
    inr (makes, (h.accepted.tree, source_in files file read.0 typed read.1 h, tt))

pub traced : (files : Option Files) (file name : Text) (bound n : ℕ) (typed : Typed)
    (run : SourceRun) (lists : Inputs) → n ≡ bound
    → ReadSource files file (λ source. IsSecureAs source typed)
    → AreInputs (first_misfit typed.table) files name lists
    → as_run run ≡ source typed lists n
    → IsTraced files file name bound typed.table run
traced files file name bound n typed run lists same read given is =
    let is_secure : IsSecureAs read.0 typed = read.2 in
    let own = is_secure.accepted in
    let table_is : typed.table ≡ table_of own.tree = own.keeps.1.table_is in
    record {
      tree = own.tree;
      table_is = table_is;
      is_trace = record {
        source = source_in files file read.0 typed read.1 is_secure;
        lists = lists;
        given = subst (λ (t : Table). AreInputs (first_misfit t) files name lists) table_is given;
        is_run =
            as_told run ∙ is
            ∙ ap (λ (m : ℕ). source typed lists m) same
            ∙ of_tree typed own.tree lists bound table_is own.keeps.1.bodies_are;
      };
    }

-- the inputs were not given
pub untraced : (files : Option Files) (before between after : FolderCounts) (file name : Text)
    (typed : Typed) → ReadSource files file (λ source. IsSecureAs source typed)
    → Makes 2 0 before after → NoneFalls before between → (failure : Failure)
    → IsFailure (IsUngiven (first_misfit typed.table) files between after name) failure
    → IsFailure (Untraced files before after file name) failure
untraced files before between after file name typed read makes falls (Answered Absent) h =
    let is : IsSecureAs read.0 typed = read.2 in
    inr (
      makes,
      (
        is.accepted.tree,
        source_in files file read.0 typed read.1 is,
        (rose_since _ _ _ falls.1 h.0, h.1),
      ),
    )
untraced files before between after file name typed read makes falls (Answered TooLong) h =
    let is : IsSecureAs read.0 typed = read.2 in
    inr (
      makes,
      (
        is.accepted.tree,
        source_in files file read.0 typed read.1 is,
        (rose_since _ _ _ falls.2 h.0, h.1),
      ),
    )
untraced files before between after file name typed read makes falls (Answered ReadFault) h =
    let is : IsSecureAs read.0 typed = read.2 in
    inr (
      makes,
      (
        is.accepted.tree,
        source_in files file read.0 typed read.1 is,
        rose_since _ _ _ falls.0 h,
      ),
    )
untraced files before between after file name typed read makes falls
    (Answered (BadInputs number)) h =
    let is : IsSecureAs read.0 typed = read.2 in (
      makes,
      (
        is.accepted.tree,
        source_in files file read.0 typed read.1 is,
        subst (λ (t : Table). HasBadLine (first_misfit t) files name number)
            is.accepted.keeps.1.table_is h,
      ),
    )
untraced files before between after file name typed read makes falls (Answered _) h = absurd h
untraced files before between after file name typed read makes falls Memory h = tt
