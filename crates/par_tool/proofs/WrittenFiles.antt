-- What a run and a verification come to of class files that were written for a source.
use Rattle.std.proofs.Common.{◌≡◌, ℕ, ◌+◌, ◌*◌, ◌≤◌, List, [], ◌∷◌, length, get_or, Option}
use Rattle.std.proofs.Common.{Some, None, All, not, sym, ap, subst, ◌∙◌, arith}
use Rattle.std.specs.Prelude.{IsTrue, FitsSigned}
use Rattle.std.specs.Int.{w32}
use Rattle.std.specs.List.{AllByRecursion}
use Rattle.std.specs.declared.string.String.{String}
use Rattle.std.specs.declared.alloc.Global.{Global}
use Rattle.std.proofs.lemmas.Bool.{not-false}
use Rattle.std.proofs.lemmas.List.Elements.{All-weaker}
use Rattle.std.proofs.lemmas.Option.{slice_get-get_or}
use Rattle.par_io.specs.Causes.{FolderCounts, SinkCounts, Files}
use Rattle.par_io.specs.Saying.{Said}
use Rattle.par_values.specs.declared.inputs.ChannelInput.{ChannelInput}
use Rattle.par_values.specs.declared.inputs.Inputs.{Inputs}
use Rattle.par_values.specs.declared.run.Ending.{Ending}
use Rattle.par_values.specs.declared.run.Ending.TheVariants.{End, Uncaught, Stopped}
use Rattle.par_values.specs.Ran.{Ran, Fine}
use Rattle.par_secrecy.specs.Runs.{Run}
use Rattle.par_secrecy.specs.Subject.{Fits}
use Rattle.par_secrecy.specs.Target.{Target, fitting, FitsFiles}
use Rattle.par_secrecy.specs.Shows.{IsFine, shown_run}
use Rattle.par_secrecy.proofs.Carried.{fitting_same, fits_program}
use Rattle.par_alike.specs.Subject.{subject}
use Rattle.par_run_laws.specs.Source as runs
use Rattle.par_event_lines.specs.Texts as told
use Rattle.par_inputs.specs.Lines.{lines_of}
use Rattle.par_inputs.specs.Rules.{entries, IsRight, IsEntry}
use Rattle.par_inputs.specs.declared.read.TheConstants.{LONGEST_INPUTS}
use Rattle.par_inputs.proofs.RightEntries.{All-entries, IsOnce-right}
use Rattle.par_pool.proofs.Positions.{position-none}
use Rattle.par_class.specs.declared.file.ClassFile.{ClassFile}
use Rattle.par_link.specs.Inputs.{has_input, first_misfit}
use Rattle.par_step_laws.specs.Target.{target}
use Rattle.par_step_laws.specs.Run.{machine_run}
use Rattle.par_loader.specs.Reads.{Classes, AreOf}
use Rattle.par_loader.specs.Loaded.{Loaded, Load, whole}
use Rattle.par_loader.specs.Judged.{judged}
use Rattle.par_loader.proofs.Ended.{IsStop}
use Rattle.par_framed_program.specs.Framed.{AreFramed, IsUnframed}
use Rattle.par_tree.specs.Plain.{Source}
use Rattle.par_typed.specs.declared.program.Typed.{Typed}
use Rattle.par_compile.specs.declared.compiled.CompiledClass.{CompiledClass}
use Rattle.par_verified_file_laws.specs.Laws.{main_class}
use Rattle.par_words.specs.declared.words.Which.{Which}
use Rattle.par_words.specs.Words as wanted
use Rattle.par_words.specs.Words.{Wanted, Check, Compile, Trace, Sample, Audit, Infer, Verify}
use Rattle.par_words.specs.Words.{Asks}
use Rattle.par_words.proofs.Asking.{one_wanted}
use Rattle.par_tool.specs.declared.answer.Answer.{Answer}
use Rattle.par_tool.specs.declared.answer.Answer.TheVariants.{Absent, ReadFault, TooLong}
use Rattle.par_tool.specs.Texts.{status, text}
use Rattle.par_tool.specs.Outside.{Text, NotRead}
use Rattle.par_tool.specs.Sources.{RunsAsProgram}
use Rattle.par_tool.specs.Classes.{ends_so, AreLinked, IsRunOf}
use Rattle.par_tool.specs.Answers.{Scene, Cause, RunCause, Ends, misses, lacks_words, answers}
use Rattle.par_tool.specs.Answers.{traces}
use Rattle.par_tool.specs.Answers as ends
use Rattle.par_tool.specs.Exactly.{IsSaidBy, comes, put_fails}
use Rattle.par_tool.specs.Exactly as exactly
use Rattle.par_tool.specs.Verifications.{AreFit}
use Rattle.par_tool.specs.WrittenFiles.{AreThere, IsThereWhole, inputs_in, AreFitting}
use Rattle.par_tool.specs.WrittenFiles.{RunsWhole, IsComplete, tells, read_fails}
use Rattle.par_tool.specs.WrittenFiles as written
use Rattle.par_tool.proofs.ExactRuns.{Instead, instead, faulty, unlinked, lacks_frames, no_inputs}
use Rattle.par_tool.proofs.ExactRuns.{bad_line, inputs_are, none_lacks}
use Rattle.par_tool.proofs.ExactVerifications as verification
use Rattle.par_tool.proofs.Inputs.{right_or_bad}
use Rattle.par_tool.proofs.Statuses.{IsNear, same, reads, said_status, read_there, there_not_read}

-- ---- inputs of a right file

channel_there : (all : List ClassFile) (lines : List ChannelInput)
    → first_misfit all lines ≡ None
    → All (λ line. IsTrue (has_input all line.class line.channel)) lines
channel_there all lines none k d within =
    let line : ChannelInput = get_or lines k d in
    not-false (has_input all line.class line.channel)
    (position-none (λ l. not (has_input all l.class l.channel)) lines none k line
    (slice_get-get_or lines k d within))

-- the inputs of a right file, all of whose lines are for channels of some files, fit these
fit_files : (all : List ClassFile) (main bytes : Text) → IsRight bytes
    → first_misfit all (entries (lines_of bytes)) ≡ None
    → FitsFiles (target all main) (inputs_in bytes)
fit_files all main bytes right fit = record {
  there = channel_there all (entries (lines_of bytes)) fit;
  once = IsOnce-right bytes right;
  numbers =
      All-weaker IsEntry (λ line. All (λ n. FitsSigned w32 n) line.numbers)
      (λ entry is. is.numbers) (entries (lines_of bytes)) (All-entries (lines_of bytes));
}

-- ---- statuses

-- neither 12 nor 14
record IsSound (number : ℕ) : Type 0 where
  unrefused : number ≡ 12 → ⊥
  good : number ≡ 14 → ⊥

by_number : (one other : ℕ) → one ≡ other → IsSound other → IsSound one
by_number one other e h = subst IsSound (sym e) h

sound_three : IsSound 3
sound_three = record { unrefused = λ e. omega (arith, e); good = λ e. omega (arith, e) }

sound_four : IsSound 4
sound_four = record { unrefused = λ e. omega (arith, e); good = λ e. omega (arith, e) }

sound_six : IsSound 6
sound_six = record { unrefused = λ e. omega (arith, e); good = λ e. omega (arith, e) }

sound_seven : IsSound 7
sound_seven = record { unrefused = λ e. omega (arith, e); good = λ e. omega (arith, e) }

sound_eight : IsSound 8
sound_eight = record { unrefused = λ e. omega (arith, e); good = λ e. omega (arith, e) }

sound_thirteen : IsSound 13
sound_thirteen = record { unrefused = λ e. omega (arith, e); good = λ e. omega (arith, e) }

sound_ending : (e : Ending) → IsSound (told.status (Fine e))
sound_ending End =
    record { unrefused = λ e. omega (arith, e); good = λ e. omega (arith, e) }
sound_ending (Uncaught class) =
    record { unrefused = λ e. omega (arith, e); good = λ e. omega (arith, e) }
sound_ending Stopped =
    record { unrefused = λ e. omega (arith, e); good = λ e. omega (arith, e) }

sound_said : (number result : ℕ) → IsSound number → IsSaidBy result number → IsSound result
sound_said number result h (comes is) = by_number result number is h
sound_said number result h (put_fails is) = by_number result 6 is sound_six
sound_said number result h (exactly.lacks_memory is) = by_number result 7 is sound_seven

-- an input file that was not had
sound_unread : (files : Option Files) (before after : FolderCounts) (limit : ℕ) (file : Text)
    (a : Answer)
    → NotRead files before after limit file a → IsSound (status a)
sound_unread files before after limit file Absent h = sound_three
sound_unread files before after limit file ReadFault h = sound_four
sound_unread files before after limit file TooLong h = sound_eight
sound_unread files before after limit file _ h = absurd h

near_four : (a : Answer) → IsNear 4 a → status a ≡ 4
near_four a (same e) = e
near_four a (reads e) = e

-- ---- what is loaded

found_there : (files : Option Files) (found : Classes) → AreOf files found
    → (classes : List CompiledClass) → AreThere files classes
    → AllByRecursion (λ c. found c.name ≡ Some c.bytes) classes
found_there None found of classes there = absurd there
found_there (Some m) found of [] there = tt
found_there (Some m) found of (c ∷ classes) there =
    (of c.name ∙ there.0, found_there (Some m) found of classes there.1)

module _ (s : Scene) (main inputs : Text) (steps : ℕ) (typed : Typed)
    (is : IsThereWhole s.files typed) (named : main ≡ main_class typed) where
  program : (found : Classes) → AreOf s.files found → RunsAsProgram typed found
  program found of = is.are.run found (found_there s.files found of is.classes is.there)

  -- what is loaded for the class of `main`
  loaded_so : (found : Classes) (of : AreOf s.files found)
      → judged found main
      ≡ record { reads = length (program found of).part; end = whole (program found of).part }
  loaded_so found of = ap (judged found) named ∙ (program found of).loaded

  never_stops : (found : Classes) → AreOf s.files found → (many : ℕ) (end : Loaded) → IsStop end
      → ends_so (judged found main) many end → ⊥
  never_stops found of many end stop ends =
      let e : end ≡ whole (program found of).part =
      ap (λ (l : Load). l.end) (sym ends ∙ loaded_so found of) in
      subst IsStop e stop

  module _ (many : ℕ) (all : List ClassFile) (linked : AreLinked s.files main many all) where
    abbrev runs_as : RunsAsProgram typed linked.classes
    runs_as = program linked.classes linked.of

    all_loaded : all ≡ runs_as.part
    all_loaded =
        let e : whole all ≡ whole runs_as.part =
        ap (λ (l : Load). l.end) (sym linked.links ∙ loaded_so linked.classes linked.of) in cc

    -- all their methods have frames
    never_lacks : (class : Text) (number value : ℕ) → IsUnframed all class number value → ⊥
    never_lacks class number value u =
        none_lacks all class number value (subst AreFramed (sym all_loaded) runs_as.framed) u

    -- the files that are linked run as those that are loaded
    same_run : (lists : Inputs)
        → machine_run all main lists steps
        ≡ (target runs_as.part (main_class typed)).run lists steps
    same_run lists =
        ap (λ (fs : List ClassFile). machine_run fs main lists steps) all_loaded
        ∙ ap (λ (n : Text). machine_run runs_as.part n lists steps) named

    module _ (bytes : Text) (right : IsRight bytes)
        (fit : first_misfit all (entries (lines_of bytes)) ≡ None) where
      abbrev lists : Inputs
      lists = inputs_in bytes

      abbrev files_run : Target
      files_run = target runs_as.part (main_class typed)

      fits : FitsFiles files_run lists
      fits =
          fit_files runs_as.part (main_class typed) bytes right
          (subst (λ (fs : List ClassFile). first_misfit fs (entries (lines_of bytes)) ≡ None)
          all_loaded fit)

      fits_source : Fits (subject typed) lists
      fits_source = fits_program files_run (subject typed) lists runs_as.shows fits

      same_lists : fitting files_run lists ≡ lists
      same_lists = fitting_same files_run lists fits

      fine : IsFine (machine_run all main lists steps).ending
      fine =
          subst (λ (r : Ran). IsFine r.ending) (sym (same_run lists))
          (subst (λ (i : Inputs). IsFine (files_run.run i steps).ending) same_lists
          (runs_as.shows.never_bad lists fits_source steps))

      -- the run of the source, whole
      run_whole : (n : ℕ) → ((runs.source typed lists n).ending ≡ Stopped → ⊥)
          → 16 * n + 16 ≤ steps
          → machine_run all main lists steps ≡ shown_run (runs.source typed lists n)
      run_whole n ends many_steps =
          same_run lists
          ∙ ap (λ (i : Inputs). files_run.run i steps) (sym same_lists)
          ∙ runs_as.shows_whole lists fits_source n steps ends many_steps

  -- ---- what the call says

  module _ (result : ℕ) (old new : Option Text) (f g : SinkCounts) where
    abbrev Comes : Type 0
    Comes = RunsWhole result old new f g s.files typed main inputs steps

    wanting : result ≡ 7 → Comes
    wanting seven =
        let sound = by_number result 7 seven sound_seven in
        record {
          never_refused = sound.unrefused;
          never_bad = sound.good;
          tells_whole = λ bytes fitting n ends many. written.lacks_memory seven;
        }

    sound_instead : (a : Answer) → Instead s.files s.before s.after main inputs a
        → IsSound (status a)
    sound_instead a (faulty e) = by_number (status a) 4 (ap status e) sound_four
    sound_instead a (unlinked found of many end stop ends stands) =
        absurd (never_stops found of many end stop ends)
    sound_instead a (lacks_frames many all linked class number value u stands) =
        absurd (never_lacks many all linked class number value u)
    sound_instead a (no_inputs many all linked framed read) =
        sound_unread s.files s.before s.after LONGEST_INPUTS inputs a read
    sound_instead a (bad_line number e many all linked framed bad) =
        by_number (status a) 13 (ap status e) sound_thirteen

    -- where the inputs fit, nothing but a failed read stands in the place of the run
    four_instead : (a : Answer) → Instead s.files s.before s.after main inputs a
        → (bytes : Text) → AreFitting s.files main inputs bytes → status a ≡ 4
    four_instead a (faulty e) bytes fitting = ap status e
    four_instead a (unlinked found of many end stop ends stands) bytes fitting =
        absurd (never_stops found of many end stop ends)
    four_instead a (lacks_frames many all linked class number value u stands) bytes fitting =
        absurd (never_lacks many all linked class number value u)
    four_instead a (no_inputs many all linked framed read) bytes fitting =
        near_four a
        (there_not_read s.files s.before s.after LONGEST_INPUTS inputs 4 bytes fitting.there a read)
    four_instead a (bad_line number e many all linked framed bad) bytes fitting =
        let fit = fitting.fit linked.classes many all linked.of linked.links in
        let here : bytes ≡ bad.text =
        read_there s.files LONGEST_INPUTS inputs bytes bad.text fitting.there bad.read in
        absurd (right_or_bad (first_misfit all) bad.text number
        (subst IsRight here fitting.right)
        (subst (λ (t : Text). first_misfit all (entries (lines_of t)) ≡ None) here fit) bad.bad)

    complete_answer : (a : Answer) → Instead s.files s.before s.after main inputs a
        → IsSaidBy result (status a) → Comes
    complete_answer a h said =
        let sound = sound_said (status a) result (sound_instead a h) said in
        record {
          never_refused = sound.unrefused;
          never_bad = sound.good;
          tells_whole = λ bytes fitting n ends many.
              read_fails (subst (IsSaidBy result) (four_instead a h bytes fitting) said);
        }

    complete_run : (many : ℕ) (ran : Ran) → IsRunOf s.files main inputs steps many ran
        → Said (told.status ran.ending) (told.lines ran) result old new f g → Comes
    complete_run many ran h said =
        let given = h.given in
        let lists_are : h.lists ≡ inputs_in given.text =
        inputs_are h.lists (inputs_in given.text) given.entries_are in
        let is_run : ran ≡ machine_run h.all main (inputs_in given.text) steps =
        h.is_run ∙ ap (λ (i : Inputs). machine_run h.all main i steps) lists_are in
        let fine_run = fine many h.all h.linked given.text given.right given.fit in
        let ending_is : ran.ending ≡ Fine fine_run.0 =
        ap (λ (r : Ran). r.ending) is_run ∙ fine_run.1 in
        let sound =
        sound_said (told.status ran.ending) result
        (by_number (told.status ran.ending) (told.status (Fine fine_run.0))
        (ap told.status ending_is) (sound_ending fine_run.0))
        (said_status (told.status ran.ending) result (told.lines ran) old new f g said) in
        record {
          never_refused = sound.unrefused;
          never_bad = sound.good;
          tells_whole = λ bytes fitting n ends enough.
              let here : given.text ≡ bytes =
              sym (read_there s.files LONGEST_INPUTS inputs bytes given.text fitting.there
              given.read) in
              let whole_run : ran ≡ shown_run (runs.source typed (inputs_in bytes) n) =
              is_run ∙ ap (λ (t : Text). machine_run h.all main (inputs_in t) steps) here
              ∙ run_whole many h.all h.linked bytes fitting.right
              (subst (λ (t : Text). first_misfit h.all (entries (lines_of t)) ≡ None) here
              given.fit)
              n ends enough in
              tells (subst (λ (r : Ran). Said (told.status r.ending) (told.lines r) result old new
              f g) whole_run said);
        }

-- ---- how a verification ends

not_twelve : (number result : ℕ) → IsSaidBy result number → (number ≡ 12 → ⊥) → result ≡ 12 → ⊥
not_twelve number result (comes is) other twelve = other (sym is ∙ twelve)
not_twelve number result (put_fails is) other twelve = omega (arith, is, twelve)
not_twelve number result (exactly.lacks_memory is) other twelve = omega (arith, is, twelve)

module _ (s : Scene) (main : Text) (typed : Typed) (is : IsThereWhole s.files typed)
    (named : main ≡ main_class typed) (result : ℕ) where
  -- frames fit the methods of the class files of a program
  fit_there : (many : ℕ) (all : List ClassFile) → AreLinked s.files main many all → AreFit all
  fit_there many all linked =
      let part = runs_as s main [] 0 typed is named many all linked in
      let told = verification.all-frames part.part part.framed in
      subst AreFit (sym (all_loaded s main [] 0 typed is named many all linked))
      (record {
        frames = told.0;
        of = told.1;
        verified = part.verified told.0 told.1;
      })

  verified_answer : (a : Answer) → verification.Outcome s.files s.before s.after main a
      → IsSaidBy result (status a) → result ≡ 12 → ⊥
  verified_answer a (verification.faulty e) said =
      not_twelve (status a) result said (λ i. let four = ap status e in omega (arith, four, i))
  verified_answer a (verification.unlinked classes of many end stop ends stands) said = λ twelve.
      never_stops s main [] 0 typed is named classes of many end stop ends
  verified_answer a (verification.fits many all linked fit stands) said =
      not_twelve (status a) result said (λ i. omega (arith, stands, i))
  verified_answer a (verification.fits_not many all linked unfit stands) said = λ twelve.
      unfit (fit_there many all linked)

-- ---- how a call ends

module _ (which : Which) (words : List (String Global)) (s : Scene) (result : ℕ)
    (old new : Option Text) (f g : SinkCounts) where
  abbrev Complete : Wanted → Type 0
  Complete w = IsComplete result old new f g s.files w

  lacking : (w : Wanted) → result ≡ 7 → Complete w
  lacking (Check file) seven = tt
  lacking (Compile file) seven = tt
  lacking (Trace file inputs bound) seven = tt
  lacking (Sample number) seven = tt
  lacking (Verify main) seven = λ typed is named twelve. omega (arith, seven, twelve)
  lacking (Audit actor file) seven = tt
  lacking (Infer file) seven = tt
  lacking (wanted.Run main inputs steps) seven =
      λ typed is named. wanting s main inputs steps typed is named result old new f g seven

  answered : (w : Wanted) (a : Answer) → Cause s w a → IsSaidBy result (status a) → Complete w
  answered (Check file) a cause said = tt
  answered (Compile file) a cause said = tt
  answered (Trace file inputs bound) a cause said = tt
  answered (Sample number) a cause said = tt
  answered (Verify main) a cause said = λ typed is named.
      verified_answer s main typed is named result a
      (verification.outcome s.files s.before s.after main a cause.0) said
  answered (Audit actor file) a cause said = tt
  answered (Infer file) a cause said = tt
  answered (wanted.Run main inputs steps) a cause said =
      λ typed is named. complete_answer s main inputs steps typed is named result old new f g a
      (instead s.files s.before s.after main inputs a cause.0) said

  ran_so : (w : Wanted) (ran : Ran) → RunCause s w ran
      → Said (told.status ran.ending) (told.lines ran) result old new f g → Complete w
  ran_so (Check file) ran cause said = tt
  ran_so (Compile file) ran cause said = tt
  ran_so (Trace file inputs bound) ran cause said = tt
  ran_so (Sample number) ran cause said = tt
  ran_so (Verify main) ran cause said = absurd cause
  ran_so (Audit actor file) ran cause said = tt
  ran_so (Infer file) ran cause said = tt
  ran_so (wanted.Run main inputs steps) ran cause said =
      λ typed is named. complete_run s main inputs steps typed is named result old new f g cause.0
      ran cause.1 said

  traced_so : (w : Wanted) (tree : Source) (run : Run) → ends.TraceCause s w tree run
      → Complete w
  traced_so (Check file) tree run cause = tt
  traced_so (Compile file) tree run cause = tt
  traced_so (Trace file inputs bound) tree run cause = tt
  traced_so (Sample number) tree run cause = tt
  traced_so (Verify main) tree run cause = absurd cause
  traced_so (Audit actor file) tree run cause = tt
  traced_so (Infer file) tree run cause = tt
  traced_so (wanted.Run main inputs steps) tree run cause = absurd cause

  listed_so : (w : Wanted) (lines : List Text) → ends.ListCause s w lines → Complete w
  listed_so (Check file) lines cause = tt
  listed_so (Compile file) lines cause = tt
  listed_so (Trace file inputs bound) lines cause = tt
  listed_so (Sample number) lines cause = tt
  listed_so (Verify main) lines cause = absurd cause
  listed_so (Audit actor file) lines cause = tt
  listed_so (Infer file) lines cause = tt
  listed_so (wanted.Run main inputs steps) lines cause = absurd cause

  pub complete : Ends which words s result old new f g → (w : Wanted) → Asks which words w
      → Complete w
  complete (misses none stand said) w asked = absurd (none w asked)
  complete (lacks_words seven put stand) w asked = lacking w seven
  complete (answers v a asks cause said) w asked =
      subst Complete (one_wanted which words v w asks asked)
      (answered v a cause
      (said_status (status a) result (text a ∷ []) old new f g said.said))
  complete (ends.runs v ran asks cause said) w asked =
      subst Complete (one_wanted which words v w asks asked) (ran_so v ran cause said)
  complete (traces v tree run asks cause said) w asked =
      subst Complete (one_wanted which words v w asks asked) (traced_so v tree run cause)
  complete (ends.lists v lines asks cause said) w asked =
      subst Complete (one_wanted which words v w asks asked) (listed_so v lines cause)
  complete (ends.lacks_memory v asks seven put few had stand) w asked = lacking w seven
