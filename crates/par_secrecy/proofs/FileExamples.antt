-- Small targets that the definitions on files are checked against.
use Rattle.std.proofs.Common.{◌≡◌, ℕ, zero, suc, ◌<◌, ◌^◌, true, false, List, [], ◌∷◌, ◌++◌}
use Rattle.std.proofs.Common.{◌∙◌, ℤ, pos, refl, sym, ap, lit<, arith}
use Rattle.std.specs.Prelude.{nat_lt, if◌then◌else◌}
use Rattle.std.proofs.lemmas.List.Elements.{All-nil}
use Rattle.std.proofs.lemmas.Bool.{lt-ltb}
use Rattle.par_values.specs.declared.run.Event.{Event}
use Rattle.par_values.specs.declared.run.Ending.TheVariants.{End, Stopped}
use Rattle.par_values.specs.declared.inputs.Inputs.{Inputs}
use Rattle.par_values.specs.Ran.{Ran, Fine, BadCode, ended}
use Rattle.par_secrecy.specs.Runs as source
use Rattle.par_secrecy.specs.Runs.{Run, Witnessed, with_first, over}
use Rattle.par_secrecy.specs.Subject.{Subject, Fits}
use Rattle.par_secrecy.specs.Target.{Target, FitsFiles}
use Rattle.par_secrecy.specs.Shows.{Shows, shown_run}
use Rattle.par_secrecy.specs.Secure.{events}
use Rattle.par_secrecy.specs.SecureFiles.{SecureFiles, Witnesses}
use Rattle.par_secrecy.proofs.Examples.{shows, policy, all_of_one, one_line, plain, subject, key}
use Rattle.par_secrecy.proofs.Examples.{key_fits, alike_for_plain}

abbrev no_inputs : Inputs
no_inputs = record { channels = [] }

-- a program without input channels that puts out 7
abbrev seven : Subject
seven =
    record {
      actors = 1;
      inputs = [];
      policy = policy;
      run = λ inputs n. with_first (shows [] (pos 7)) over;
    }

nothing_fits : (s : Subject) → Fits s no_inputs
nothing_fits s = record {
  declared = All-nil _;
  once = λ i j d less short. absurd (omega arith);
  numbers = All-nil _;
}

-- files without input channels that run so
abbrev files : (ℕ → Ran) → Target
files f = record { run = λ inputs m. f m; has_input = λ class name. false }

nothing_fits_files : (f : ℕ → Ran) → FitsFiles (files f) no_inputs
nothing_fits_files f =
    record { there = All-nil _; once = (nothing_fits seven).once; numbers = All-nil _ }

-- nothing comes first in no events but none
no_front : (ws more : List Witnessed) (e : Event) → events ws ≡ e ∷ [] → [] ≡ ws ++ more → ⊥
no_front [] more e are none = cc
no_front (w ∷ ws) more e are none = cc

abbrev seven_run : Run
seven_run = with_first (shows [] (pos 7)) over

-- files that end at once do not show an event
ends_at_once : Shows (files (λ m. ended (Fine End))) seven → ⊥
ends_at_once h =
    let reached = h.reach no_inputs (nothing_fits seven) 0 in
    let same : [] ≡ (shows [] (pos 7)).event ∷ [] = ap (λ (r : Ran). r.events) reached.2 in
    cc

-- nor do files that end so with fewer instructions
abbrev ends_early : ℕ → Ran
ends_early zero = ended (Fine End)
ends_early (suc m) = shown_run seven_run

ends_too_early : Shows (files ends_early) seven → ⊥
ends_too_early h =
    let front = h.front no_inputs (nothing_fits seven) 0 in
    let same : ended (Fine End) ≡ shown_run seven_run = front.1.whole (λ e. cc) in
    let none : [] ≡ (shows [] (pos 7)).event ∷ [] = ap (λ (r : Ran). r.events) same in
    cc

-- nor do files that put out another number before they are stopped
abbrev differs_early : ℕ → Ran
differs_early zero = record { events = (shows [] (pos 8)).event ∷ []; ending = Fine Stopped }
differs_early (suc m) = shown_run seven_run

differs_too_early : Shows (files differs_early) seven → ⊥
differs_too_early h =
    let front = h.front no_inputs (nothing_fits seven) 0 in
    let split : (shows [] (pos 7)).event ∷ [] ≡ (shows [] (pos 8)).event ∷ front.1.first.0 =
    front.1.first.1 in
    let same : (shows [] (pos 7)).event ≡ (shows [] (pos 8)).event = cc in
    cc

-- bad code shows nothing
abbrev silent : Subject
silent = record { actors = 1; inputs = []; policy = policy; run = λ inputs n. over }

goes_bad : Shows (files (λ m. ended (BadCode [] [] 0 1))) silent → ⊥
goes_bad h = let fine = h.never_bad no_inputs (nothing_fits silent) 0 in
    let same : BadCode [] [] 0 1 ≡ Fine fine.0 = fine.1 in cc

-- a program that is over after its first step, and files that need 33 instructions for it
abbrev short : Subject
short =
    record {
      actors = 1;
      inputs = [];
      policy = policy;
      run = λ inputs n. if nat_lt n 1 then source.stopped else over;
    }

abbrev after : ℕ → ℕ → Ran
after many m = if nat_lt m many then ended (Fine Stopped) else ended (Fine End)

too_slow : Shows (files (after 33)) short → ⊥
too_slow h =
    let reached = h.reach no_inputs (nothing_fits short) 1 in
    let early : nat_lt reached.0 33 ≡ true =
    lt-ltb reached.0 33 (let le = reached.1 in omega (arith, le)) in
    let late : after 33 reached.0 ≡ ended (Fine End) = reached.2 in
    let stopped : after 33 reached.0 ≡ ended (Fine Stopped) =
    ap (λ b. if b then ended (Fine Stopped) else ended (Fine End)) early in
    let same : Fine Stopped ≡ Fine End =
    sym (ap (λ (r : Ran). r.ending) stopped) ∙ ap (λ (r : Ran). r.ending) late in
    cc

-- files may have no input channel that the program lacks
asks_more : Shows (record (files (λ m. ended (Fine End))) { has_input = λ class name. true }) silent
    → ⊥
asks_more h = let there : false ≡ true = h.channels [] [] refl in cc

-- ---- secure files

-- files that put out their key are not secure
abbrev leaking : ℤ → Run
leaking v = with_first (shows [] v) over

key_fits_files : (f : Inputs → ℕ → Ran) (n : ℕ) → n < 2 ^ 31
    → FitsFiles (record { run = f; has_input = λ class name. true }) (key n)
key_fits_files f n small = record {
  there = all_of_one (λ line. true ≡ true) (one_line n) refl;
  once = (key_fits leaking n small).once;
  numbers = (key_fits leaking n small).numbers;
}

leaks : SecureFiles (record {
  run = λ inputs m. shown_run ((subject leaking).run inputs m);
  has_input = λ class name. true;
}) (subject leaking) → ⊥
leaks secure =
    let f : Inputs → ℕ → Ran = λ inputs m. shown_run ((subject leaking).run inputs m) in
    let witnessed : (n : ℕ) → Witnesses (record { run = f; has_input = λ class name. true })
    (subject leaking) (key n) 0 (shows [] (pos n) ∷ []) =
    λ n. record { events_are = refl; steps = 0; more = []; first = refl } in
    let same : (shows [] (pos 1)).event ≡ (shows [] (pos 2)).event =
    secure.agree plain (lit< tt) (key 1) (key 2) (key_fits_files f 1 (lit< tt))
    (key_fits_files f 2 (lit< tt)) (alike_for_plain leaking) 0 0 0
    (shows [] (pos 1) ∷ []) (shows [] (pos 2) ∷ []) (witnessed 1) (witnessed 2) (shows [] (pos 1))
    (shows [] (pos 2)) refl refl refl refl refl in
    cc

-- nor are files whose events are not the program's
makes_events_up : SecureFiles (files (λ m. shown_run seven_run)) silent → ⊥
makes_events_up secure =
    let held = secure.witnessed no_inputs (nothing_fits_files (λ m. shown_run seven_run)) 0 in
    let are : events held.0 ≡ (shows [] (pos 7)).event ∷ [] = held.1.events_are in
    let none : [] ≡ held.0 ++ held.1.more = held.1.first in
    no_front held.0 held.1.more _ are none
