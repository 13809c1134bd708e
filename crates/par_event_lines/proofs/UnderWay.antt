-- A run in hand: what is told so far, and what is left.
use Rattle.std.proofs.Common.{◌≡◌, ℕ, suc, List, [], ◌∷◌, ◌++◌, length, Option, Some, None, refl}
use Rattle.std.proofs.Common.{sym, ap, subst, ◌∙◌}
use Rattle.std.specs.List.{concat}
use Rattle.std.proofs.lemmas.List.{append-nil, append_assoc}
use Rattle.std.proofs.lemmas.List.Folds.{concat-append}
use Rattle.par_io.specs.Causes.{SinkCounts, Rose, raised, raised_by, appended, AppendsFront}
use Rattle.par_io.proofs.Appending.{appended-nothing}
use Rattle.par_io.specs.Saying.{IsCut, IsLeftOff, Said, whole}
use Rattle.par_values.specs.declared.run.Event.{Event}
use Rattle.par_values.specs.Ran.{Ran, Outcome, ended, with_event}
use Rattle.par_event_lines.specs.Texts.{Text, line, event_text, ending_text, lines, status}
use Rattle.par_event_lines.specs.Progress.{after, event_lines, IsUnderWay}

-- ---- lists and what is held

appended-appended : (old : Option Text) (a b : Text)
    → appended (appended old a) b ≡ appended old (a ++ b)
appended-appended None a b = refl
appended-appended (Some bytes) a b = ap Some (append_assoc bytes a b)

-- the lines of events, and then those of what follows
lines-after : (es : List Event) (r : Ran) → lines (after es r) ≡ event_lines es ++ lines r
lines-after [] r = refl
lines-after (e ∷ es) r = ap (λ (t : List Text). line (event_text e) ∷ t) (lines-after es r)

event_lines-append : (es fs : List Event)
    → event_lines (es ++ fs) ≡ event_lines es ++ event_lines fs
event_lines-append [] fs = refl
event_lines-append (e ∷ es) fs =
    ap (λ (t : List Text). line (event_text e) ∷ t) (event_lines-append es fs)

length-event_lines : (es : List Event) → length (event_lines es) ≡ length es
length-event_lines [] = refl
length-event_lines (e ∷ es) = ap suc (length-event_lines es)

one_more : (es : List Event) (e : Event)
    → concat (event_lines (es ++ e ∷ [])) ≡ concat (event_lines es) ++ line (event_text e)
one_more es e =
    ap concat (event_lines-append es (e ∷ []))
    ∙ concat-append (event_lines es) (line (event_text e) ∷ [])
    ∙ ap (λ (t : Text). concat (event_lines es) ++ t) (append-nil (line (event_text e)))

after-more : (es : List Event) (e : Event) (r : Ran)
    → after es (with_event e r) ≡ after (es ++ e ∷ []) r
after-more es e r =
    ap (λ (t : List Event). let x : Ran = record { events = t; ending = r.ending } in x)
    (sym (append_assoc es (e ∷ []) r.events))

-- one put more for one more of a list
length-one_more : {A : Type 0} (xs : List A) (x : A) → length (xs ++ x ∷ []) ≡ suc (length xs)
length-one_more [] x = refl
length-one_more (y ∷ xs) x = ap suc (length-one_more xs x)

raised_by-one_more : {A : Type 0} (xs : List A) (x : A) (count : ℕ)
    → raised_by (length (xs ++ x ∷ [])) count ≡ raised (raised_by (length xs) count)
raised_by-one_more xs x count = ap (λ n. raised_by n count) (length-one_more xs x)

-- each run has a line
record HasLine (ls : List Text) : Type 0 where
  line : Text
  rest : List Text
  is : ls ≡ line ∷ rest

some_line : (es : List Event) (z : Text) → HasLine (event_lines es ++ z ∷ [])
some_line [] z = record { line = z; rest = []; is = refl }
some_line (e ∷ es) z =
    record { line = line (event_text e); rest = event_lines es ++ z ∷ []; is = refl }

-- ---- the run on its way

module _ (ran : Ran) (old : Option Text) (before : SinkCounts) where
  -- nothing is told yet
  pub begun : IsUnderWay ran ran old old before.puts before.puts
  begun = record { events = []; is_run = refl; told = appended-nothing old; counted = refl }

  pub goes_on : (left later : Ran) (held : Option Text) (puts : ℕ) → left ≡ later
      → IsUnderWay ran left old held before.puts puts
      → IsUnderWay ran later old held before.puts puts
  goes_on left later held puts is way =
      record {
        events = way.events;
        is_run = way.is_run ∙ ap (after way.events) is;
        told = way.told;
        counted = way.counted;
      }

  pub happens : (left later : Ran) (held held' : Option Text) (puts puts' : ℕ) (e : Event)
      → left ≡ with_event e later
      → held' ≡ appended held (line (event_text e)) → puts' ≡ raised puts
      → IsUnderWay ran left old held before.puts puts
      → IsUnderWay ran later old held' before.puts puts'
  happens left later held held' puts puts' e is put counts way = record {
    events = way.events ++ e ∷ [];
    is_run = way.is_run ∙ ap (after way.events) is ∙ after-more way.events e later;
    told =
        put ∙ ap (λ h. appended h (line (event_text e))) way.told
        ∙ appended-appended old (concat (event_lines way.events)) (line (event_text e))
        ∙ ap (appended old) (sym (one_more way.events e));
    counted = counts ∙ ap raised way.counted ∙ sym (raised_by-one_more way.events e before.puts);
  }

  -- nothing was put since
  pub unput : (left : Ran) (held held' : Option Text) (puts puts' : ℕ) → puts' ≡ puts → held' ≡ held
      → IsUnderWay ran left old held before.puts puts
      → IsUnderWay ran left old held' before.puts puts'
  unput left held held' puts puts' counts same way =
      record {
        events = way.events;
        is_run = way.is_run;
        told = same ∙ way.told;
        counted = counts ∙ way.counted;
      }

  -- the lines of the whole run
  lines_are : (left : Ran) (held : Option Text) (puts : ℕ)
      (way : IsUnderWay ran left old held before.puts puts)
      → lines ran ≡ event_lines way.events ++ lines left
  lines_are left held puts way = ap lines way.is_run ∙ lines-after way.events left

  -- the puts so far, by the lines so far
  puts_are : (left : Ran) (held : Option Text) (puts : ℕ)
      (way : IsUnderWay ran left old held before.puts puts)
      → puts ≡ raised_by (length (event_lines way.events)) before.puts
  puts_are left held puts way =
      way.counted ∙ ap (λ n. raised_by n before.puts) (sym (length-event_lines way.events))

  module _ (after' : SinkCounts) (puts : ℕ) where
    -- only a front of an event's line is put
    pub cut_short : (left later : Ran) (held held' : Option Text) (e : Event)
        → left ≡ with_event e later
        → Rose before.faults after'.faults → after'.puts ≡ raised puts
        → AppendsFront held held' (line (event_text e))
        → IsUnderWay ran left old held before.puts puts → IsCut (lines ran) old held' before after'
    cut_short left later held held' e is rose counts front way = record {
      first = event_lines way.events;
      line = line (event_text e);
      rest = lines later;
      among = lines_are left held puts way ∙ ap (λ (r : Ran). event_lines way.events ++ lines r) is;
      rose = rose;
      puts = counts ∙ ap raised (puts_are left held puts way);
      front =
          subst (λ (h : Option Text). AppendsFront h held' (line (event_text e))) way.told front;
    }

    -- what is told so far are the first lines of the whole, and not all of them
    pub first_lines : (left : Ran) (held : Option Text) → after'.puts ≡ puts
        → IsUnderWay ran left old held before.puts puts
        → IsLeftOff (lines ran) old held before after'
    first_lines left held counts way =
        let next = some_line left.events (line (ending_text left.ending)) in
        record {
          first = event_lines way.events;
          line = next.line;
          rest = next.rest;
          among =
              lines_are left held puts way
              ∙ ap (λ (l : List Text). event_lines way.events ++ l) next.is;
          puts = counts ∙ puts_are left held puts way;
          held = way.told;
        }

    -- the lines are those of the events, and that of the ending
    lines_end : (held : Option Text) (o : Outcome)
        (way : IsUnderWay ran (ended o) old held before.puts puts)
        → lines ran ≡ event_lines way.events ++ line (ending_text o) ∷ []
    lines_end held o way = lines_are (ended o) held puts way

    -- the ending's line is put
    pub ends : (held held' : Option Text) (o : Outcome) (result : ℕ) → result ≡ status o
        → after'.puts ≡ raised puts → held' ≡ appended held (line (ending_text o))
        → IsUnderWay ran (ended o) old held before.puts puts
        → Said (status ran.ending) (lines ran) result old held' before after'
    ends held held' o result answer counts put way =
        let outcome : ran.ending ≡ o = ap (λ r. r.ending) way.is_run in
        let a = event_lines way.events in
        let z = line (ending_text o) in
        let all : lines ran ≡ a ++ z ∷ [] = lines_end held o way in
        let text : concat (lines ran) ≡ concat a ++ z = ap concat all ∙ concat-append a (z ∷ [])
        ∙ ap (λ (t : Text). concat a ++ t) (append-nil z) in
        whole (answer ∙ ap status (sym outcome))
        (counts ∙ ap raised (puts_are (ended o) held puts way)
        ∙ sym (raised_by-one_more a z before.puts)
        ∙ ap (λ (l : List Text). raised_by (length l) before.puts) (sym all))
        (put ∙ ap (λ h. appended h z) way.told ∙ appended-appended old (concat a) z
        ∙ ap (appended old) (sym text))

    -- only a front of the ending's line is put
    pub ends_short : (held held' : Option Text) (o : Outcome) → Rose before.faults after'.faults
        → after'.puts ≡ raised puts → AppendsFront held held' (line (ending_text o))
        → IsUnderWay ran (ended o) old held before.puts puts
        → IsCut (lines ran) old held' before after'
    ends_short held held' o rose counts front way = record {
      first = event_lines way.events;
      line = line (ending_text o);
      rest = [];
      among = lines_end held o way;
      rose = rose;
      puts = counts ∙ ap raised (puts_are (ended o) held puts way);
      front =
          subst (λ (h : Option Text). AppendsFront h held' (line (ending_text o))) way.told front;
    }
