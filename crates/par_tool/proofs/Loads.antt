-- From how class files are loaded and linked to why no run begins.
use Rattle.std.proofs.Common.{◌≡◌, ◌∙◌, ap, ℕ, zero, suc, ◌+◌, ◌≤◌, List, [], ◌∷◌, ◌++◌, IfErr}
use Rattle.std.proofs.Common.{IsErrAnd, Option, Some, None, Result, Ok, Err, refl, sym, subst, inl}
use Rattle.std.proofs.Common.{inr, arith}
use Rattle.par_io.specs.Causes.{FolderCounts, Makes, NoneFalls, Files}
use Rattle.par_class.specs.declared.file.ClassFile.{ClassFile}
use Rattle.par_link.specs.declared.linked.Linked.{Linked}
use Rattle.par_link.specs.Inputs.{first_misfit}
use Rattle.par_loader.specs.declared.error.Unloaded.{Unloaded}
use Rattle.par_loader.specs.declared.error.Unloaded.TheVariants as un
use Rattle.par_loader.specs.Reads as reads
use Rattle.par_loader.specs.Reads.{Classes, WasFound}
use Rattle.par_loader.specs.Mentions.{Naming, next_named}
use Rattle.par_loader.specs.Loaded.{Loaded, whole, missing, overlong, refused, absent, Load, Step}
use Rattle.par_loader.specs.Loaded.{goes_on, ends, step, main_step, after, with_next, further}
use Rattle.par_loader.specs.Loaded.{asked, behind_first, loaded}
use Rattle.par_loader.specs.Judged.{linked, judged}
use Rattle.par_loader.specs.Ends.{Unended, Judges, FaultsStand, comes_to}
use Rattle.par_loader.specs.Found.{found_in}
use Rattle.par_loader.proofs.Asked.{asks_first, some_asked}
use Rattle.par_loader.proofs.Counting.{rose_since, makes_both, at_most, most_both, fails_both}
use Rattle.par_loader.proofs.Ended.{IsStop, weaker, longer}
use Rattle.par_loader.proofs.Seen.{seen, seen_of, put, put_of, put_here}
use Rattle.par_tool.specs.declared.answer.Answer.TheVariants.{Absent, ReadFault, TooLong, BadInputs}
use Rattle.par_tool.specs.declared.reads.Failure.{Failure}
use Rattle.par_tool.specs.declared.reads.Failure.TheVariants.{Answered, Memory}
use Rattle.par_tool.specs.Failures.{IsFailure, ToldIn, failure_of}
use Rattle.par_tool.specs.Outside.{Text, MakesAtMost}
use Rattle.par_tool.specs.Given.{IsUngiven}
use Rattle.par_framed_program.specs.Framed.{AreFramed, Framed}
use Rattle.par_tool.specs.Classes.{ends_so, AreLinked, IsUnlinked, NotRun, LacksMemory}
use Rattle.par_tool.proofs.Beginning.{few_judged, few_linked}

abbrev pub judging : Text → Load → Load
judging main load = record { reads = load.reads; end = linked main load.end }

-- ---- the same bytes of each class come to the same

module _ (one other : Classes) (same : (name : Text) → one name ≡ other name) where
  abbrev Same : ℕ → Type 0
  Same more = (files : List ClassFile) → further one more files ≡ further other more files

  stepped : (more : ℕ) (files : List ClassFile) → Same more → (s : Step)
      → after files (further one more) s ≡ after files (further other more) s
  stepped more files rest (goes_on f) = rest (files ++ f ∷ [])
  stepped more files rest (ends reads end) = refl

  named : (more : ℕ) (files : List ClassFile) → Same more → (o : Option Naming)
      → with_next one files (further one more) o ≡ with_next other files (further other more) o
  named more files rest None = refl
  named more files rest (Some m) =
      ap (λ (b : Option Text). after files (further one more) (step m b)) (same m.name)
      ∙ stepped more files rest (step m (other m.name))

  same_further : (more : ℕ) → Same more
  unfolding further
  same_further zero files = refl
  same_further (suc more) files = named more files (same_further more) (next_named files)

  same_loaded : (main : Text) → loaded one main ≡ loaded other main
  same_loaded main =
      ap (λ (b : Option Text). after [] (further one 128) (main_step main b)) (same main)
      ∙ stepped 128 [] (same_further 128) (main_step main (other main))

  pub same_judged : (main : Text) → judged one main ≡ judged other main
  same_judged main = ap (judging main) (same_loaded main)

-- ---- where loading stops at the first file

stop_stays : (main : Text) (end : Loaded) → IsStop end → linked main end ≡ end
stop_stays main (whole files) stop = absurd stop
stop_stays main missing stop = refl
stop_stays main overlong stop = refl
stop_stays main (refused class number value) stop = refl
stop_stays main (absent class index) stop = refl

-- what the first step comes to where it stops
pub stops_first : (classes : Classes) (main : Text) (found : Option Text) → classes main ≡ found
    → (reads : ℕ) (end : Loaded) → IsStop end
    → main_step main found ≡ ends reads end → ends_so (judged classes main) reads end
stops_first classes main found is reads end stop steps =
    let none_more : 0 + reads ≡ reads = omega arith in
    ap (λ (b : Option Text). judging main (after [] (further classes 128) (main_step main b))) is
    ∙ ap (λ (s : Step). judging main (after [] (further classes 128) s)) steps
    ∙ ap (λ (n : ℕ). let l : Load = record { reads = n; end = linked main end } in l) none_more
    ∙ ap (λ (e : Loaded). let l : Load = record { reads = reads; end = e } in l)
    (stop_stays main end stop)

-- ---- counts

pub few_reads : (most all : ℕ) (before after : FolderCounts) → most ≤ all
    → reads.MakesAtMost most 0 before after → MakesAtMost all 0 before after
few_reads most all before after less few =
    record {
      read = few.read;
      written = few.written;
      few_reads = omega (arith, less, few.few_reads);
      few_writes = few.few_writes;
      makes = few.makes;
    }

pub one_more : (many : ℕ) (before between after : FolderCounts) → Makes 1 0 before between
    → Makes many 0 between after → Makes (suc many) 0 before after
one_more many before between after first rest =
    let e : many + 1 ≡ suc many = omega arith in
    subst (λ (n : ℕ). Makes n 0 before after) e (makes_both 1 many before between after first rest)

-- one read, and those behind the first
pub behind_one : (load : Load) → 1 ≤ load.reads → 1 + behind_first load ≤ load.reads
behind_one load some = omega (arith, some)

-- as many reads as linked files ask for
pub linked_reads : (classes : Classes) (main : Text) (many : ℕ) (all : List ClassFile)
    → ends_so (judged classes main) many (whole all) → (before after : FolderCounts)
    → Makes many 0 before after → reads.MakesAtMost (judged classes main).reads 0 before after
linked_reads classes main many all links before after makes =
    let same : (judged classes main).reads ≡ many = ap (λ (l : Load). l.reads) links in
    at_most many (judged classes main).reads before after (omega (arith, same)) makes

-- at most 129 class files are asked for
pub few_classes : (files : Option Files) (main : Text) (most : ℕ) (before after : FolderCounts)
    → 129 ≤ most → IsUnlinked files before after main un.Memory → MakesAtMost most 0 before after
few_classes files main most before after less h =
    let few = few_judged h.0 main in
    few_reads (judged h.0 main).reads most before after (omega (arith, less, few)) h.2

-- and to run them one file more
pub few_to_run : (files : Option Files) (before after : FolderCounts) (main inputs : Text)
    → LacksMemory files before after main inputs → MakesAtMost 130 0 before after
few_to_run files before after main inputs (inl h) =
    few_classes files main 130 before after (omega arith) h
few_to_run files before after main inputs (inr (many, makes, (all, links, framed, none))) =
    let few = few_linked files main many all links in
    record {
      read = suc many;
      written = 0;
      few_reads = omega (arith, few);
      few_writes = omega arith;
      makes = makes;
    }

-- ---- why class files are not linked

-- an end that is told behind the first file is one of all files
module _ (load : Load) (some : 1 ≤ load.reads) (before between after : FolderCounts)
    (first : Makes 1 0 before between) (falls : NoneFalls before between) where
  pub behind : (e : Unloaded) → Unended (comes_to load) (behind_first load) between after e
      → Unended (ends_so load) load.reads before after e
  behind un.Absent h = (
    suc h.0,
    one_more h.0 before between after first h.1,
    (h.2.0, rose_since _ _ _ falls.1 h.2.1),
  )
  behind un.TooLong h = (
    suc h.0,
    one_more h.0 before between after first h.1,
    (h.2.0, rose_since _ _ _ falls.2 h.2.1),
  )
  behind un.Failed h =
      fails_both 1 (behind_first load) load.reads before between after (behind_one load some)
      first falls h
  behind (un.BadClass c n v) (reads, makes, inl is) =
      (suc reads, one_more reads before between after first makes, inl is)
  behind (un.BadClass c n v) (reads, makes, inr is) = (
    suc reads,
    one_more reads before between after first makes,
    inr (is.0, is.1, rose_since _ _ _ falls.1 is.2),
  )
  behind un.Memory h =
      most_both 1 (behind_first load) load.reads before between after (behind_one load some) first h

module _ (files : Option Files) (main : Text) where
  -- the first file is not had
  pub main_unlinked : (before after : FolderCounts) (found : Option Text)
      → WasFound files main found → (e : Unloaded)
      → Unended (λ reads end. main_step main found ≡ ends reads end)
      (asked (main_step main found)) before after e
      → IsUnlinked files before after main e
  main_unlinked before after found was e h =
      let classes : Classes = put (seen files) main found in
      let one = asks_first main (found_in main found) in
      let some = some_asked classes main in (
        classes,
        put_of files (seen files) main found (seen_of files) was,
        longer (ends_so (judged classes main)) (asked (main_step main found))
            (judged classes main).reads before after (omega (arith, one, some)) e
            (weaker (λ reads end. main_step main found ≡ ends reads end)
            (ends_so (judged classes main)) (asked (main_step main found)) before after
            (stops_first classes main found (put_here (seen files) main found)) e h),
      )

  -- the others are not had, or do not link
  pub rest_unlinked : (before between after : FolderCounts) → Makes 1 0 before between
      → NoneFalls before between → (e : Unloaded) → Judges files main between after (Err e)
      → IsUnlinked files before after main e
  rest_unlinked before between after first falls e h = (
    h.0,
    h.1,
    behind (judged h.0 main) (some_asked h.0 main) before between after first falls e h.2,
  )

  pub unlinked_wants : (before after : FolderCounts) (e : Unloaded)
      → IsUnlinked files before after main e → failure_of e ≡ Memory
      → IsUnlinked files before after main un.Memory
  unlinked_wants before after un.Memory h is = h
  unlinked_wants before after un.Absent h is = absurd (cc is)
  unlinked_wants before after un.TooLong h is = absurd (cc is)
  unlinked_wants before after un.Failed h is = absurd (cc is)
  unlinked_wants before after (un.BadClass c n v) h is = absurd (cc is)

-- ---- why no run begins

module _ (files : Option Files) (main inputs : Text) where
  pub unlinked_fails : (before after : FolderCounts) (e : Unloaded)
      → IsUnlinked files before after main e
      → IsFailure (NotRun files before after main inputs) (failure_of e)
  unlinked_fails before after un.Absent h = inl h
  unlinked_fails before after un.TooLong h = inl h
  unlinked_fails before after un.Failed h = inl h
  unlinked_fails before after (un.BadClass c n v) h = inl h
  unlinked_fails before after un.Memory h = tt

  -- a method has no frames
  pub frames_fail : (before after : FolderCounts) (reads : ℕ) (all : List ClassFile)
      → Makes reads 0 before after → AreLinked files main reads all → (e : Unloaded)
      → Framed {A = Unit {0}} (λ _. AreFramed all) all (Err e)
      → IsFailure (NotRun files before after main inputs) (failure_of e)
  frames_fail before after reads all makes linked un.Absent h = absurd h
  frames_fail before after reads all makes linked un.TooLong h = absurd h
  frames_fail before after reads all makes linked un.Failed h = absurd h
  frames_fail before after reads all makes linked (un.BadClass c n v) h =
      inr (reads, makes, (all, linked, h))
  frames_fail before after reads all makes linked un.Memory h = tt

  pub inputs_fail : (before mid after : FolderCounts) (reads : ℕ) (all : List ClassFile)
      → Makes (suc reads) 0 before after → NoneFalls before mid → AreLinked files main reads all
      → AreFramed all
      → (failure : Failure) → IsFailure (IsUngiven (first_misfit all) files mid after inputs)
      failure → IsFailure (NotRun files before after main inputs) failure
  inputs_fail before mid after reads all makes falls linked framed (Answered Absent) h =
      inr (reads, makes, (all, linked, framed, (rose_since _ _ _ falls.1 h.0, h.1)))
  inputs_fail before mid after reads all makes falls linked framed (Answered TooLong) h =
      inr (reads, makes, (all, linked, framed, (rose_since _ _ _ falls.2 h.0, h.1)))
  inputs_fail before mid after reads all makes falls linked framed (Answered ReadFault) h =
      inr (reads, makes, (all, linked, framed, rose_since _ _ _ falls.0 h))
  inputs_fail before mid after reads all makes falls linked framed (Answered (BadInputs number))
      h = (reads, makes, (all, linked, framed, h))
  inputs_fail before mid after reads all makes falls linked framed (Answered _) h = absurd h
  inputs_fail before mid after reads all makes falls linked framed Memory h = tt

-- ---- faults are told

pub told_in : (e : Unloaded) (before after : ℕ) → FaultsStand {A = Linked} (Err e) before after
    → ToldIn (failure_of e) before after
told_in un.Failed before after h = tt
told_in un.Absent before after h = h
told_in un.TooLong before after h = h
told_in (un.BadClass c n v) before after h = h
told_in un.Memory before after h = h

-- ---- what a call hands on

pub handed : {A : Type 0} (r : Result A Failure) (f : Failure) (P : Failure → Type 0)
    → IsErrAnd r (λ e. e ≡ f) → P f → IfErr r P
handed (Ok x) f P is h = tt
handed (Err e) f P is h = subst P (sym is) h
