-- What the loop over instructions keeps: the run is under way, and what is put tells of it.
use Rattle.std.proofs.Common.{◌≡◌, ℕ, suc, ◌+◌, ◌≤◌, Option, Bool, refl, sym, ap}
use Rattle.std.proofs.Common.{subst, ◌∙◌, inl, inr, arith}
use Rattle.std.specs.Prelude.{IsTrue}
use Rattle.par_io.specs.Causes.{SinkCounts, Rose}
use Rattle.par_io.specs.Saying.{IsLeftOff, Said, cut, unsaid}
use Rattle.par_values.specs.Ran.{Ran, ended, stopped}
use Rattle.par_machine.specs.declared.machine.Machine.{Machine}
use Rattle.par_machine.specs.Machine.{files_of, state_of, steps_of}
use Rattle.par_machine.specs.Quiet as quiet
use Rattle.par_event_lines.specs.declared.puts.Closing.{Closing}
use Rattle.par_event_lines.specs.declared.puts.Untold.{Untold}
use Rattle.par_event_lines.specs.declared.puts.Untold.TheVariants.{Fault, Memory}
use Rattle.par_event_lines.specs.Texts.{Text, lines, status}
use Rattle.par_event_lines.specs.Outcome.{outcome}
use Rattle.par_run_lines.specs.Running.{runs_of}
use Rattle.par_event_lines.specs.Progress.{IsUnderWay}
use Rattle.par_event_lines.specs.Telling.{GoesOn, silently, happened, ClosesBy, IsUntoldTurn}
use Rattle.par_event_lines.specs.Telling.{IsTold, IsCutOff, Closes, closed, unclosed}
use Rattle.par_event_lines.specs.Telling.{status_of_untold}
use Rattle.par_run_lines.proofs.Steps.{silent_runs}
use Rattle.par_event_lines.proofs.UnderWay.{begun, goes_on, happens, unput, cut_short, first_lines}
use Rattle.par_event_lines.proofs.UnderWay.{ends}
use Rattle.par_event_lines.proofs.UnderWay.{ends_short}

-- Of so many instructions this many are left.
pub record IsTelling (alone : Bool) (first : Machine) (steps left : ℕ) (m : Machine)
    (old held : Option Text) (before after : SinkCounts) : Type 0 where
  pub way : IsUnderWay (runs_of first steps) (runs_of m left) old held before.puts after.puts
  pub spent : steps_of m + left ≤ steps_of first + steps
  pub grows : before.faults ≤ after.faults
  pub faults : IsTrue alone → after.faults ≡ before.faults

-- a count that rose behind another point rose behind an earlier one
rose_since : (a b c : ℕ) → a ≤ b → Rose b c → Rose a c
rose_since a b c le (inl less) = inl (omega arith)
rose_since a b c le (inr last) = inr last

module _ (alone : Bool) (first : Machine) (steps : ℕ) (old : Option Text)
    (before : SinkCounts) where
  abbrev ran : Ran
  ran = runs_of first steps

  pub begins : IsTelling alone first steps steps first old old before before
  begins = record {
    way = begun ran old before;
    spent = omega arith;
    grows = omega arith;
    faults = λ only. refl;
  }

  module _ (left : ℕ) (m : Machine) (held : Option Text) (after : SinkCounts)
      (h : IsTelling alone first steps left m old held before after) where
    -- instructions that show nothing are run
    pub went_on : (r rest : ℕ) (n : Machine) → left ≡ r + rest → files_of n ≡ files_of m
        → quiet.GoesOn (files_of m) r (state_of m) (state_of n)
        → steps_of n ≡ steps_of m + r → IsTelling alone first steps rest n old held before after
    went_on r rest n parts same goes spent = record {
      way =
          goes_on ran old before (runs_of m left) (runs_of n rest) held after.puts
          (ap (runs_of m) parts ∙ silent_runs m n r rest same goes) h.way;
      spent = (let s = h.spent in omega (arith, s, spent, parts));
      grows = h.grows;
      faults = h.faults;
    }

    -- no instruction is left
    pub stops : (c : Closing) → left ≡ 0 → stopped ≡ ended (outcome c)
        → IsTold ran old held before after c
    stops c none is =
        goes_on ran old before (runs_of m left) (ended (outcome c)) held after.puts
        (ap (runs_of m) none ∙ is) h.way

  -- one more instruction is left
  module _ (left : ℕ) (m : Machine) (held : Option Text) (after : SinkCounts)
      (h : IsTelling alone first steps (suc left) m old held before after) where
    next_way : (n : Machine) (held' : Option Text) (after' : SinkCounts)
        → GoesOn (runs_of m) (runs_of n) held held' after after'
        → IsUnderWay ran (runs_of n left) old held' before.puts after'.puts
    next_way n held' after' (silently is counts same) =
        unput ran old before (runs_of n left) held held' after.puts after'.puts counts same
        (goes_on ran old before (runs_of m (suc left)) (runs_of n left) held after.puts
        (is left) h.way)
    next_way n held' after' (happened e is counts put) =
        happens ran old before (runs_of m (suc left))
        (runs_of n left) held held' after.puts after'.puts e (is left) put counts h.way

    pub keeps : (n : Machine) (held' : Option Text) (after' : SinkCounts)
        → steps_of n ≡ steps_of m + 1 → after.faults ≤ after'.faults
        → (IsTrue alone → after'.faults ≡ after.faults)
        → GoesOn (runs_of m) (runs_of n) held held' after after'
        → IsTelling alone first steps left n old held' before after'
    keeps n held' after' spent rises stand on = record {
      way = next_way n held' after' on;
      spent = (let s = h.spent in omega (arith, s, spent));
      grows = (let g = h.grows in omega (arith, g, rises));
      faults = λ only. stand only ∙ h.faults only;
    }

    pub cuts : (u : Untold) (held' : Option Text) (after' : SinkCounts)
        → IsUntoldTurn (runs_of m) held held' after after' u
        → IsCutOff (lines ran) old held' before after' u
    cuts Fault held' after' at =
        cut_short ran old before after' after.puts (runs_of m (suc left))
        (at.later left) held held' at.event (at.is left)
        (rose_since before.faults after.faults after'.faults h.grows at.rose) at.puts at.front h.way
    cuts Memory held' after' at =
        let ahead = runs_of m (suc left) in
        first_lines ran old before after' after'.puts ahead held' refl
        (unput ran old before ahead held held' after.puts after'.puts at.0 at.1 h.way)

    -- the machine closes the run
    pub closes : (c : Closing) (held' : Option Text) (after' : SinkCounts)
        → ClosesBy (runs_of m) c held held' after after' → IsTold ran old held' before after' c
    closes c held' after' by =
        unput ran old before (ended (outcome c)) held held' after.puts after'.puts by.puts by.kept
        (goes_on ran old before (runs_of m (suc left)) (ended (outcome c)) held after.puts
        (by.closed left) h.way)

-- ---- from the end of the loop to what is said

module _ (ran : Ran) (old : Option Text) where
  pub said_closed : (c : Closing) (mid new : Option Text) (result : ℕ)
      (before between after : SinkCounts) → before.faults ≤ between.faults
      → IsTold ran old mid before between c → Closes c result mid new between after
      → Said (status ran.ending) (lines ran) result old new before after
  said_closed c mid new result before between after le told (closed is counts put) =
      ends ran old before after between.puts mid new (outcome c) result is counts put told
  said_closed c mid new result before between after le told (unclosed Fault is untold) =
      cut is (ends_short ran old before after between.puts mid new (outcome c)
      (rose_since before.faults between.faults after.faults le untold.0) untold.1 untold.2 told)
  said_closed c mid new result before between after le told (unclosed Memory is same) =
      let front =
      first_lines ran old before after between.puts (ended (outcome c)) mid same.0 told in
      unsaid is (subst (λ x. IsLeftOff (lines ran) old x before after) (sym same.1) front)

  pub said_untold : (u : Untold) (new : Option Text) (result : ℕ) (before after : SinkCounts)
      → result ≡ status_of_untold u
      → IsCutOff (lines ran) old new before after u
      → Said (status ran.ending) (lines ran) result old new before after
  said_untold Fault new result before after is h = cut is h
  said_untold Memory new result before after is h = unsaid is h
