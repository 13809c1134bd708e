-- The status of a call that is to tell of the run of a source is the one that its files ask for.
use Rattle.std.proofs.Common.{◌≡◌, ℕ, ◌≤◌, List, length, Option, None, refl, sym, ap, subst, ◌∙◌}
use Rattle.std.proofs.Common.{inl, inr}
use Rattle.std.specs.Prelude.{◌⊎◌}
use Rattle.par_io.specs.Causes.{FolderCounts, Files}
use Rattle.par_lexer.specs.declared.cut.TheConstants.{LONGEST_SOURCE}
use Rattle.par_inputs.specs.declared.read.TheConstants.{LONGEST_INPUTS}
use Rattle.par_inputs.specs.Lines.{lines_of}
use Rattle.par_inputs.specs.Rules.{entries, IsRight}
use Rattle.par_tree.specs.Plain.{Source}
use Rattle.par_values.specs.declared.inputs.ChannelInput.{ChannelInput}
use Rattle.par_values.specs.Ran.{Fine}
use Rattle.par_secrecy.specs.Runs.{Run}
use Rattle.par_event_lines.specs.Texts as told
use Rattle.par_observer.specs.Judgements.{IsAcceptedSource, IsTreeOf}
use Rattle.par_observer.proofs.Clashes.{one_tree}
use Rattle.par_tool.specs.declared.answer.Answer.{Answer}
use Rattle.par_tool.specs.declared.answer.Answer.TheVariants.{Refused, Absent, ReadFault, TooLong}
use Rattle.par_tool.specs.declared.answer.Answer.TheVariants.{BadInputs}
use Rattle.par_tool.specs.Texts.{status}
use Rattle.par_tool.specs.Outside.{Text, NotRead, IsThere, IsMissing, IsOverlong}
use Rattle.par_tool.specs.Sources.{IsBroken}
use Rattle.par_tool.specs.Given.{IsBad, HasBadLine}
use Rattle.par_tool.specs.Traces.{IsSourceIn, IsTraceOf, Untraced, misfits, source_run}
use Rattle.par_tool.specs.Exactly.{IsSaidBy, Judges, TellsSource, Traces}
use Rattle.par_tool.proofs.Inputs.{right_or_bad}
use Rattle.par_tool.proofs.ExactSources.{IsAnyhow, clash, Found, near_there, tells_source}
use Rattle.par_tool.proofs.Statuses.{IsNear, same, near_status, same_status, read_there}
use Rattle.par_tool.proofs.Statuses.{missing_read}
use Rattle.par_tool.proofs.Statuses.{overlong_read, missing_not_read, overlong_not_read}
use Rattle.par_tool.proofs.Statuses.{there_not_read}

module _ (files : Option Files) (before after : FolderCounts) (file inputs : Text) where
  -- what an answer in the place of a run says of the source: a rule is broken, or it is accepted,
  -- and the input file was not had or has a wrong line
  data Verdict (source : Text) (a : Answer) : Type 0 where
    breaks : (rule line column limit count : ℕ) → a ≡ Refused rule line column limit count
        → IsBroken source rule line column limit count → Verdict source a
    no_inputs : IsAcceptedSource source → NotRead files before after LONGEST_INPUTS inputs a
        → Verdict source a
    bad_line : (own : IsAcceptedSource source) (number : ℕ) → a ≡ BadInputs number
        → HasBadLine (misfits own.tree) files inputs number → Verdict source a

  abbrev accepted_in : (tree : Source) (h : IsSourceIn files file tree) → IsAcceptedSource h.source
  accepted_in tree h =
      record { tree = tree; short = h.read.short; is_tree = h.is_tree; accepted = h.accepted }

  untraced_found : (a : Answer) → Untraced files before after file inputs a
      → Found Verdict files before after file a
  untraced_found (BadInputs number) h =
      inl (h.1.1.source, h.1.1.read, bad_line (accepted_in h.1.0 h.1.1) number refl h.1.2)
  untraced_found (Refused rule line column limit count) (inl h) =
      inl (h.1.0, h.1.1, breaks rule line column limit count refl h.1.2)
  untraced_found Absent (inl h) = inr h.1
  untraced_found Absent (inr h) =
      inl (h.1.1.source, h.1.1.read, no_inputs (accepted_in h.1.0 h.1.1) h.1.2)
  untraced_found ReadFault (inl h) = inr h.1
  untraced_found ReadFault (inr h) =
      inl (h.1.1.source, h.1.1.read, no_inputs (accepted_in h.1.0 h.1.1) h.1.2)
  untraced_found TooLong (inl h) = inr h.1
  untraced_found TooLong (inr h) =
      inl (h.1.1.source, h.1.1.read, no_inputs (accepted_in h.1.0 h.1.1) h.1.2)
  untraced_found _ (inl h) = absurd h.1
  untraced_found _ (inr h) = absurd h.1.2

  refuses : (source : Text) (a : Answer) → Verdict source a → (rule line column limit count : ℕ)
      → IsBroken source rule line column limit count → IsNear 1 a
  refuses source a (breaks r l c k n e h) rule line column limit count broken = same (ap status e)
  refuses source a (no_inputs own read) rule line column limit count broken =
      absurd (clash source rule line column limit count own broken)
  refuses source a (bad_line own number e bad) rule line column limit count broken =
      absurd (clash source rule line column limit count own broken)

  module _ (source : Text) (is : IsAcceptedSource source) (a : Answer) where
    inputs_missing : IsMissing files inputs → Verdict source a → IsNear 3 a
    inputs_missing missing (breaks rule line column limit count e broken) =
        absurd (clash source rule line column limit count is broken)
    inputs_missing missing (no_inputs own read) =
        missing_not_read files before after LONGEST_INPUTS inputs missing a read
    inputs_missing missing (bad_line own number e bad) =
        absurd (missing_read files LONGEST_INPUTS inputs bad.text missing bad.read)

    inputs_overlong : IsOverlong files LONGEST_INPUTS inputs → Verdict source a → IsNear 8 a
    inputs_overlong long (breaks rule line column limit count e broken) =
        absurd (clash source rule line column limit count is broken)
    inputs_overlong long (no_inputs own read) =
        overlong_not_read files before after LONGEST_INPUTS inputs long a read
    inputs_overlong long (bad_line own number e bad) =
        absurd (overlong_read files LONGEST_INPUTS inputs bad.text long bad.read)

    -- what of a wrong line decides the answer's number
    inputs_there : (wanted : ℕ) (tree : Source) (text : Text) → IsTreeOf source tree
        → IsThere files LONGEST_INPUTS inputs text
        → ((number : ℕ) → IsBad (misfits tree) text number → wanted ≡ 13) → Verdict source a
        → IsNear wanted a
    inputs_there wanted tree text is_tree at decides
        (breaks rule line column limit count e broken) =
        absurd (clash source rule line column limit count is broken)
    inputs_there wanted tree text is_tree at decides (no_inputs own read) =
        there_not_read files before after LONGEST_INPUTS inputs wanted text at a read
    inputs_there wanted tree text is_tree at decides (bad_line own number e bad) =
        let same_tree : own.tree ≡ tree = one_tree source own.tree tree own.is_tree is_tree in
        let same_text : bad.text ≡ text =
        sym (read_there files LONGEST_INPUTS inputs text bad.text at bad.read) in
        let here : IsBad (misfits tree) text number =
        subst (λ (t : Text). IsBad (misfits tree) t number) same_text
        (subst (λ (t : Source). IsBad (misfits t) bad.text number) same_tree bad.bad) in
        same (ap status e ∙ sym (decides number here))

  accepts : (bound result : ℕ) (a : Answer) → IsSaidBy result (status a) → (source : Text)
      → Verdict source a ⊎ IsAnyhow a → IsAcceptedSource source
      → Traces files inputs bound source result
  accepts bound result a said source v is =
      let near : (number : ℕ) → (Verdict source a → IsNear number a) → IsNear number a =
      λ number h. near_there Verdict files before after file number source a h v in
      record {
        missing = λ m. near_status 3 result a (near 3 (inputs_missing source is a m)) said;
        overlong = λ m. near_status 8 result a (near 8 (inputs_overlong source is a m)) said;
        there = λ tree text is_tree at. record {
          ran = λ right fit. near_status _ result a
              (near _ (inputs_there source is a _ tree text is_tree at
              (λ number bad. absurd (right_or_bad (misfits tree) text number right fit bad)))) said;
          bad_inputs =
              λ number bad. near_status 13 result a
              (near 13 (inputs_there source is a 13 tree text is_tree at (λ n b. refl))) said;
        };
      }

  -- where an answer stands in the place of the run
  pub tells_untraced : (bound result : ℕ) (a : Answer) → Untraced files before after file inputs a
      → IsSaidBy result (status a)
      → TellsSource (Judges (Traces files inputs bound)) files file result
  tells_untraced bound result a h said =
      tells_source Verdict files before after file (Traces files inputs bound) result a
      (untraced_found a h) (accepts bound result a said) (λ source. refuses source a) said

module _ (files : Option Files) (file inputs : Text) (bound : ℕ) (tree : Source) (run : Run)
    (h : IsTraceOf files file inputs bound tree run) where
  module _ (source : Text) (at : IsThere files LONGEST_SOURCE file source) where
    same_source : h.source.source ≡ source
    same_source = sym (read_there files LONGEST_SOURCE file source h.source.source at h.source.read)

    own_tree : IsTreeOf source tree
    own_tree = subst (λ (t : Text). IsTreeOf t tree) same_source h.source.is_tree

    accepted_there : IsAcceptedSource source
    accepted_there =
        let short : length source ≤ LONGEST_SOURCE =
        subst (λ (t : Text). length t ≤ LONGEST_SOURCE) same_source h.source.read.short in
        record { tree = tree; short = short; is_tree = own_tree; accepted = h.source.accepted }

    module _ (other : Source) (text : Text) (is_tree : IsTreeOf source other)
        (here : IsThere files LONGEST_INPUTS inputs text) where
      same_tree : tree ≡ other
      same_tree = one_tree source tree other own_tree is_tree

      same_text : h.given.text ≡ text
      same_text = sym (read_there files LONGEST_INPUTS inputs text h.given.text here h.given.read)

      run_is : run ≡ source_run other (entries (lines_of text)) bound
      run_is =
          h.is_run ∙ ap (λ (t : Source). source_run t h.lists.channels bound) same_tree
          ∙ ap (λ (ls : List ChannelInput). source_run other ls bound)
          (h.given.entries_are ∙ ap (λ (t : Text). entries (lines_of t)) same_text)

      fits : misfits other (entries (lines_of text)) ≡ None
      fits =
          subst (λ (t : Text). misfits other (entries (lines_of t)) ≡ None) same_text
          (subst (λ (t : Source). misfits t (entries (lines_of h.given.text)) ≡ None) same_tree
          h.given.fit)

      all_right : IsRight text
      all_right = subst IsRight same_text h.given.right

  -- where the run is told
  pub tells_traced : (result : ℕ) → IsSaidBy result (told.status (Fine run.ending))
      → TellsSource (Judges (Traces files inputs bound)) files file result
  tells_traced result said = record {
    missing = λ m. absurd (missing_read files LONGEST_SOURCE file h.source.source m h.source.read);
    overlong =
        λ m. absurd (overlong_read files LONGEST_SOURCE file h.source.source m h.source.read);
    there = λ source at. record {
      accepted = λ own. record {
        missing =
            λ m. absurd (missing_read files LONGEST_INPUTS inputs h.given.text m h.given.read);
        overlong =
            λ m. absurd (overlong_read files LONGEST_INPUTS inputs h.given.text m h.given.read);
        there = λ other text is_tree here. record {
          ran =
              λ right fit. same_status _ _ result
              (ap (λ (r : Run). told.status (Fine r.ending))
              (run_is source at other text is_tree here)) said;
          bad_inputs =
              λ number bad.
              absurd (right_or_bad (misfits other) text number
              (all_right source at other text is_tree here)
              (fits source at other text is_tree here) bad);
        };
      };
      refused =
          λ rule line column limit count broken.
          absurd (clash source rule line column limit count (accepted_there source at) broken);
    };
  }
