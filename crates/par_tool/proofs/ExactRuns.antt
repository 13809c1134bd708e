-- The status of a run is the one that its files ask for.
use Rattle.std.proofs.Common.{◌≡◌, ℕ, ◌<◌, length, false, cond, List, Option, Some, None, refl, sym}
use Rattle.std.proofs.Common.{ap, subst, ◌∙◌, inl, inr, arith}
use Rattle.std.specs.Prelude.{nat_le}
use Rattle.std.proofs.lemmas.Bool.Decides.{nat_tests}
use Rattle.par_io.specs.Causes.{FolderCounts, Files}
use Rattle.par_values.specs.declared.inputs.Inputs.{Inputs}
use Rattle.par_values.specs.Ran.{Ran}
use Rattle.par_inputs.specs.Lines.{lines_of}
use Rattle.par_inputs.specs.Rules.{entries, IsRight}
use Rattle.par_class.specs.declared.file.ClassFile.{ClassFile}
use Rattle.par_class.specs.Reading.{file_at}
use Rattle.par_link.specs.Inputs.{first_misfit}
use Rattle.par_step_laws.specs.Run.{machine_run}
use Rattle.par_event_lines.specs.Texts as told
use Rattle.par_inputs.specs.declared.read.TheConstants.{LONGEST_INPUTS}
use Rattle.par_pool.specs.declared.reader.TheConstants.{LONGEST_CLASS}
use Rattle.par_tool.specs.declared.answer.Answer.{Answer}
use Rattle.par_tool.specs.declared.answer.Answer.TheVariants.{Accepted, Compiled, Sampled}
use Rattle.par_tool.specs.declared.answer.Answer.TheVariants.{Verified}
use Rattle.par_tool.specs.declared.answer.Answer.TheVariants.{Refused, Usage}
use Rattle.par_tool.specs.declared.answer.Answer.TheVariants.{Absent, ReadFault, WriteFault}
use Rattle.par_tool.specs.declared.answer.Answer.TheVariants.{TooLong, BadClass}
use Rattle.par_tool.specs.declared.answer.Answer.TheVariants.{BadInputs, NoActor}
use Rattle.par_tool.specs.Texts.{status}
use Rattle.par_tool.specs.Outside.{Text, NotRead, IsThere, IsMissing, IsOverlong}
use Rattle.par_loader.specs.Reads.{class_file, Classes, AreOf}
use Rattle.par_loader.specs.Found as found
use Rattle.par_loader.specs.Loaded as loaded
use Rattle.par_loader.specs.Loaded.{Loaded, Load, main_step}
use Rattle.par_loader.specs.Judged.{judged}
use Rattle.par_loader.proofs.Ended.{IsStop}
use Rattle.par_framed_program.specs.Framed.{AreFramed, IsUnframed}
use Rattle.par_tool.specs.Given.{IsBad, HasBadLine}
use Rattle.par_tool.specs.Classes.{ends_so, AreLinked, NotRun, IsRunOf}
use Rattle.par_tool.specs.Exactly.{IsSaidBy, IsStatus, TellsRun, TellsFrames}
use Rattle.par_tool.specs.Exactly.{TellsEnd, TellsClass}
use Rattle.par_tool.proofs.Loads.{same_judged, stops_first}
use Rattle.par_tool.proofs.Inputs.{right_or_bad}
use Rattle.par_tool.proofs.Statuses as near
use Rattle.par_tool.proofs.Statuses.{IsNear, same, near_status, same_status, read_there}
use Rattle.par_tool.proofs.Statuses.{missing_read, overlong_read, missing_not_read}
use Rattle.par_tool.proofs.Statuses.{overlong_not_read, there_not_read}

-- inputs are their channels
pub inputs_are : (a b : Inputs) → a.channels ≡ b.channels → a ≡ b
inputs_are a b e = ap (λ cs. let x : Inputs = record { channels = cs } in x) e

-- where all methods have frames, none lacks them
pub none_lacks : (all : List ClassFile) (class : Text) (number value : ℕ) → AreFramed all
    → IsUnframed all class number value → ⊥
none_lacks all class number value framed u =
    u.broken.has_none (framed u.place u.file u.there value u.broken.broken u.broken.there)

-- the status that class files come to that do not link
abbrev pub stop_status : Loaded → ℕ
stop_status (loaded.whole all) = 0
stop_status loaded.missing = 3
stop_status loaded.overlong = 8
stop_status (loaded.refused class number value) = 12
stop_status (loaded.absent class index) = 12

module _ (files : Option Files) (main inputs : Text) (steps result : ℕ) where
  -- what may come in the place of any status
  pub any_end : ((number : ℕ) → IsStatus result number) → (end : Loaded)
      → TellsEnd files main inputs steps result end
  any_end any (loaded.whole all) = record {
    framed = λ framed. record {
      missing = λ m. any 3;
      overlong = λ m. any 8;
      there = λ text at.
          record { ran = λ lists right are fit. any _; bad_inputs = λ number bad. any 13 };
    };
    unframed = λ class number value u. any 12;
  }
  any_end any loaded.missing = any 3
  any_end any loaded.overlong = any 8
  any_end any (loaded.refused class number value) = any 12
  any_end any (loaded.absent class index) = any 12

  -- what class files come to that do not link
  stop_end : (end : Loaded) → IsStop end → IsStatus result (stop_status end)
      → TellsEnd files main inputs steps result end
  stop_end (loaded.whole all) stop is = absurd stop
  stop_end loaded.missing stop is = is
  stop_end loaded.overlong stop is = is
  stop_end (loaded.refused class number value) stop is = is
  stop_end (loaded.absent class index) stop is = is

module _ (files : Option Files) (before after : FolderCounts) (main inputs : Text) where
  -- what stands in the place of a run: a read failed, or the class files do not link; or they do,
  -- and a method has no frames, or the input file was not had, or has a wrong line
  pub data Instead (a : Answer) : Type 0 where
    faulty : a ≡ ReadFault → Instead a
    unlinked : (classes : Classes) → AreOf files classes → (reads : ℕ) (end : Loaded) → IsStop end
        → ends_so (judged classes main) reads end → status a ≡ stop_status end → Instead a
    lacks_frames : (reads : ℕ) (all : List ClassFile) → AreLinked files main reads all
        → (class : Text) (number value : ℕ) → IsUnframed all class number value
        → status a ≡ 12 → Instead a
    no_inputs : (reads : ℕ) (all : List ClassFile) → AreLinked files main reads all
        → AreFramed all → NotRead files before after LONGEST_INPUTS inputs a → Instead a
    bad_line : (number : ℕ) → a ≡ BadInputs number → (reads : ℕ) (all : List ClassFile)
        → AreLinked files main reads all → AreFramed all
        → HasBadLine (first_misfit all) files inputs number → Instead a

  pub instead : (a : Answer) → NotRun files before after main inputs a → Instead a
  instead Absent (inl h) = unlinked h.0 h.1 h.2.0 loaded.missing tt h.2.2.0 refl
  instead Absent (inr h) = no_inputs h.0 h.2.0 h.2.1 h.2.2 h.2.3
  instead TooLong (inl h) = unlinked h.0 h.1 h.2.0 loaded.overlong tt h.2.2.0 refl
  instead TooLong (inr h) = no_inputs h.0 h.2.0 h.2.1 h.2.2 h.2.3
  instead ReadFault h = faulty refl
  instead (BadClass class number value) (inl (classes, of, (reads, makes, inl is))) =
      unlinked classes of reads (loaded.refused class number value) tt is refl
  instead (BadClass class number value) (inl (classes, of, (reads, makes, inr is))) =
      unlinked classes of reads (loaded.absent class value) tt is.0 refl
  instead (BadClass class number value) (inr h) =
      lacks_frames h.0 h.2.0 h.2.1 class number value h.2.2 refl
  instead (BadInputs number) h = bad_line number refl h.0 h.2.0 h.2.1 h.2.2 h.2.3
  instead Accepted h = absurd h
  instead (Compiled many) h = absurd h
  instead (Sampled summary) h = absurd h
  instead (Verified files) h = absurd h
  instead (Refused rule line column limit count) h = absurd h
  instead Usage h = absurd h
  instead NoActor h = absurd h
  instead WriteFault h = absurd h

  -- ---- the file of the class is not there

  none_there : (fs : Option Files) (classes : Classes) → AreOf fs classes
      → IsMissing fs (class_file main) → classes main ≡ None
  none_there None classes of gone = absurd gone
  none_there (Some m) classes of gone = of main ∙ gone

  pub ends_missing : (classes : Classes) → AreOf files classes → IsMissing files (class_file main)
      → ends_so (judged classes main) 1 loaded.missing
  ends_missing classes of gone =
      stops_first classes main None (none_there files classes of gone) 1 loaded.missing tt refl

  long_there : (fs : Option Files) (classes : Classes) → AreOf fs classes
      → IsOverlong fs LONGEST_CLASS (class_file main)
      → (bytes : Text) × (classes main ≡ Some bytes) × (LONGEST_CLASS < length bytes)
  long_there None classes of long = absurd long
  long_there (Some m) classes of long = (long.0, of main ∙ long.1, long.2)

  too_long : (bytes : Text) → LONGEST_CLASS < length bytes
      → main_step main (Some bytes) ≡ loaded.ends 1 loaded.overlong
  too_long bytes more =
      let no : nat_le (length bytes) LONGEST_CLASS ≡ false = grind (arith, nat_tests, more) in
      ap (λ b. loaded.main_step_of main
      (cond b (found.taken_as main (file_at bytes)) found.overlong)) no

  pub ends_overlong : (classes : Classes) → AreOf files classes
      → IsOverlong files LONGEST_CLASS (class_file main)
      → ends_so (judged classes main) 1 loaded.overlong
  ends_overlong classes of long =
      let found = long_there files classes of long in
      stops_first classes main (Some found.0) found.1 1 loaded.overlong tt
      (too_long found.0 found.2)

  -- class files that link do not stop
  pub links_or_stops : (reads more : ℕ) (all : List ClassFile) (end : Loaded)
      (h : AreLinked files main reads all) → IsStop end
      → ends_so (judged h.classes main) more end → ⊥
  links_or_stops reads more all end h stop is =
      let e : end ≡ loaded.whole all = ap (λ (l : Load). l.end) (sym is ∙ h.links) in
      subst IsStop e stop

  -- where its file stops all class files so
  stops_so : (more : ℕ) (end : Loaded) → IsStop end
      → ((classes : Classes) → AreOf files classes → ends_so (judged classes main) more end)
      → (a : Answer) → Instead a → IsNear (stop_status end) a
  stops_so more end stop ends a (faulty e) = near.reads (ap status e)
  stops_so more end stop ends a (unlinked classes of reads other stops is stands) =
      same (stands ∙ ap (λ (l : Load). stop_status l.end) (sym is ∙ ends classes of))
  stops_so more end stop ends a (lacks_frames reads all h class number value u stands) =
      absurd (links_or_stops reads more all end h stop (ends h.classes h.of))
  stops_so more end stop ends a (no_inputs reads all h framed read) =
      absurd (links_or_stops reads more all end h stop (ends h.classes h.of))
  stops_so more end stop ends a (bad_line number e reads all h framed bad) =
      absurd (links_or_stops reads more all end h stop (ends h.classes h.of))

  -- ---- the file of the class is there

  -- the same class files come to the same, where the folder tells them
  pub as_judged : (fs : Option Files) (bytes : Text)
      → IsThere fs LONGEST_CLASS (class_file main) bytes → (one other : Classes) → AreOf fs one
      → AreOf fs other → judged one main ≡ judged other main
  as_judged None bytes there one other x y = absurd there
  as_judged (Some m) bytes there one other x y =
      same_judged one other (λ name. x name ∙ sym (y name)) main

  module _ (steps result : ℕ) where
    abbrev Tells : Loaded → Type 0
    Tells end = TellsEnd files main inputs steps result end

    lacks_inputs : (all : List ClassFile) (a : Answer)
        → NotRead files before after LONGEST_INPUTS inputs a → IsSaidBy result (status a)
        → TellsRun files all main inputs steps result
    lacks_inputs all a read said = record {
      missing =
          λ m. near_status 3 result a
          (missing_not_read files before after LONGEST_INPUTS inputs m a read) said;
      overlong =
          λ m. near_status 8 result a
          (overlong_not_read files before after LONGEST_INPUTS inputs m a read) said;
      there = λ text at. record {
        ran =
            λ lists right are fit. near_status _ result a
            (there_not_read files before after LONGEST_INPUTS inputs _ text at a read) said;
        bad_inputs =
            λ number bad. near_status 13 result a
            (there_not_read files before after LONGEST_INPUTS inputs 13 text at a read) said;
      };
    }

    has_bad_line : (all : List ClassFile) (a : Answer) (number : ℕ) → a ≡ BadInputs number
        → HasBadLine (first_misfit all) files inputs number → IsSaidBy result (status a)
        → TellsRun files all main inputs steps result
    has_bad_line all a number e bad said = record {
      missing = λ m. absurd (missing_read files LONGEST_INPUTS inputs bad.text m bad.read);
      overlong = λ m. absurd (overlong_read files LONGEST_INPUTS inputs bad.text m bad.read);
      there = λ text at.
          let is : bad.text ≡ text =
          sym (read_there files LONGEST_INPUTS inputs text bad.text at bad.read) in
          let here : IsBad (first_misfit all) text number =
          subst (λ (t : Text). IsBad (first_misfit all) t number) is bad.bad in
          record {
            ran =
                λ lists right are fit. absurd
                (right_or_bad (first_misfit all) text number right fit here);
            bad_inputs = λ n wrong. near_status 13 result a (same (ap status e)) said;
          };
    }

    ran_tells : (reads : ℕ) (ran : Ran) (h : IsRunOf files main inputs steps reads ran)
        → IsSaidBy result (told.status ran.ending) → TellsRun files h.all main inputs steps result
    ran_tells reads ran h said = record {
      missing = λ m. absurd (missing_read files LONGEST_INPUTS inputs h.given.text m h.given.read);
      overlong =
          λ m. absurd (overlong_read files LONGEST_INPUTS inputs h.given.text m h.given.read);
      there = λ text at.
          let is : h.given.text ≡ text =
          sym (read_there files LONGEST_INPUTS inputs text h.given.text at h.given.read) in
          record {
            ran = λ lists right are fit.
                let same_lists : h.lists ≡ lists =
                inputs_are h.lists lists (h.given.entries_are
                ∙ ap (λ (t : Text). entries (lines_of t)) is ∙ sym are) in
                let run_is : ran ≡ machine_run h.all main lists steps =
                h.is_run ∙ ap (λ (l : Inputs). machine_run h.all main l steps) same_lists in
                same_status _ _ result (ap (λ (r : Ran). told.status r.ending) run_is) said;
            bad_inputs = λ number bad.
                let right : IsRight text = subst IsRight is h.given.right in
                let fit : first_misfit h.all (entries (lines_of text)) ≡ None =
                subst (λ (t : Text). first_misfit h.all (entries (lines_of t)) ≡ None) is
                h.given.fit in
                absurd (right_or_bad (first_misfit h.all) text number right fit bad);
          };
    }

    -- where all methods have frames the run is told
    with_frames : (all : List ClassFile) → AreFramed all
        → TellsRun files all main inputs steps result
        → TellsFrames files all main inputs steps result
    with_frames all framed told = record {
      framed = λ again. told;
      unframed =
          λ class number value u. absurd (none_lacks all class number value framed u);
    }

    without_frames : (all : List ClassFile) (a : Answer) (class : Text) (number value : ℕ)
        → IsUnframed all class number value → status a ≡ 12 → IsSaidBy result (status a)
        → TellsFrames files all main inputs steps result
    without_frames all a class number value u stands said = record {
      framed = λ framed. absurd (none_lacks all class number value framed u);
      unframed = λ other n v is. near_status 12 result a (same stands) said;
    }

    -- the class files that are there come to what they were found to come to
    tells_so : (bytes : Text) → IsThere files LONGEST_CLASS (class_file main) bytes
        → (classes others : Classes) → AreOf files classes → AreOf files others
        → (reads : ℕ) (end : Loaded)
        → ends_so (judged others main) reads end → Tells end → Tells (judged classes main).end
    tells_so bytes there classes others of are reads end is told =
        let e : end ≡ (judged classes main).end =
        ap (λ (l : Load). l.end) (sym is ∙ as_judged files bytes there others classes are of) in
        subst Tells e told

    instead_there : (a : Answer) → Instead a → IsSaidBy result (status a) → (bytes : Text)
        → IsThere files LONGEST_CLASS (class_file main) bytes
        → (classes : Classes) → AreOf files classes → Tells (judged classes main).end
    instead_there a (faulty e) said bytes there classes of =
        any_end files main inputs steps result
        (λ number. near_status number result a (near.reads (ap status e)) said)
        (judged classes main).end
    instead_there a (unlinked others are reads end stop is stands) said bytes there classes of =
        tells_so bytes there classes others of are reads end is
        (stop_end files main inputs steps result end stop
        (near_status (stop_status end) result a (same stands) said))
    instead_there a (lacks_frames reads all h class number value u stands) said bytes there classes
        of =
        tells_so bytes there classes h.classes of h.of reads (loaded.whole all) h.links
        (without_frames all a class number value u stands said)
    instead_there a (no_inputs reads all h framed read) said bytes there classes of =
        tells_so bytes there classes h.classes of h.of reads (loaded.whole all) h.links
        (with_frames all framed (lacks_inputs all a read said))
    instead_there a (bad_line number e reads all h framed bad) said bytes there classes of =
        tells_so bytes there classes h.classes of h.of reads (loaded.whole all) h.links
        (with_frames all framed (has_bad_line all a number e bad said))

    -- where an answer stands in the place of the run
    pub tells_instead : (a : Answer) → Instead a → IsSaidBy result (status a)
        → TellsClass files main inputs steps result
    tells_instead a h said = record {
      missing =
          λ m. near_status 3 result a
          (stops_so 1 loaded.missing tt (λ classes of. ends_missing classes of m) a h) said;
      overlong =
          λ m. near_status 8 result a
          (stops_so 1 loaded.overlong tt (λ classes of. ends_overlong classes of m) a h) said;
      there = λ bytes at classes of. instead_there a h said bytes at classes of;
    }

    -- where the run is told
    pub tells_ran : (reads : ℕ) (ran : Ran) → IsRunOf files main inputs steps reads ran
        → IsSaidBy result (told.status ran.ending) → TellsClass files main inputs steps result
    tells_ran reads ran h said = record {
      missing =
          λ m. absurd (links_or_stops reads 1 h.all loaded.missing h.linked tt
          (ends_missing h.linked.classes h.linked.of m));
      overlong =
          λ m. absurd (links_or_stops reads 1 h.all loaded.overlong h.linked tt
          (ends_overlong h.linked.classes h.linked.of m));
      there = λ bytes at classes of.
          tells_so bytes at classes h.linked.classes of h.linked.of reads
          (loaded.whole h.all) h.linked.links
          (with_frames h.all h.loaded.framed (ran_tells reads ran h said));
    }
