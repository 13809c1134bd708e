-- Words ask for one thing, and for a run of a class with a name and for few instructions.
use Rattle.std.proofs.Common.{◌≡◌, ℕ, ◌≤◌, true, false, Bool, ◌&&◌, cond, nat_le, List, [], ◌∷◌}
use Rattle.std.proofs.Common.{Some, None, refl, sym, ap, subst, ◌∙◌, arith}
use Rattle.std.specs.declared.string.String.{String}
use Rattle.std.specs.declared.alloc.Global.{Global}
use Rattle.std.proofs.lemmas.Bool.{and_parts}
use Rattle.std.proofs.lemmas.Bool.Decides.{nat_tests}
use Rattle.std.proofs.lemmas.Option.{none-some, same_Some}
use Rattle.std.specs.Prelude.{unwrap_or, codes}
use Rattle.clap.specs.Words.{Row, all_of}
use Rattle.par_base.specs.Names.{IsName}
use Rattle.par_base.specs.Numbers.{value}
use Rattle.par_base.specs.Numbers.{is_decimal, magnitude_of}
use Rattle.par_words.specs.declared.commands.Flag.{Flag}
use Rattle.par_words.specs.declared.commands.Flag.TheVariants as flag
use Rattle.par_words.specs.declared.words.Which.{Which}
use Rattle.par_words.specs.declared.words.Which.TheVariants.{Compiler, Runner}
use Rattle.par_words.specs.Commands.{Text, texts, rows, values, set_flags}
use Rattle.par_words.specs.Words.{Wanted, Check, Compile, Trace, Infer, Sample, Run}
use Rattle.par_words.specs.Words.{AskRun, AskTrace, AskAudit, AskSample, AskVerify}
use Rattle.par_words.specs.Words.{OfOne, OfTwo, OfThree, IsPlain, IsFlagged, IsSet, IsForm}
use Rattle.par_words.specs.Words.{Asks, Verify, most_steps}

-- ---- one thing

one : (asks : Text → Wanted → Type 0)
    → ((a : Text) (v w : Wanted) → asks a v → asks a w → v ≡ w)
    → (vs : List Text) (v w : Wanted) → OfOne asks vs v → OfOne asks vs w → v ≡ w
one asks same [] v w x y = absurd x
one asks same (a ∷ []) v w x y = same a v w x y
one asks same (a ∷ b ∷ more) v w x y = absurd x

two : (asks : Text → Text → Wanted → Type 0)
    → ((a b : Text) (v w : Wanted) → asks a b v → asks a b w → v ≡ w)
    → (vs : List Text) (v w : Wanted) → OfTwo asks vs v → OfTwo asks vs w → v ≡ w
two asks same [] v w x y = absurd x
two asks same (a ∷ []) v w x y = absurd x
two asks same (a ∷ b ∷ []) v w x y = same a b v w x y
two asks same (a ∷ b ∷ c ∷ more) v w x y = absurd x

three : (asks : Text → Text → Text → Wanted → Type 0)
    → ((a b c : Text) (v w : Wanted) → asks a b c v → asks a b c w → v ≡ w)
    → (vs : List Text) (v w : Wanted) → OfThree asks vs v → OfThree asks vs w → v ≡ w
three asks same [] v w x y = absurd x
three asks same (a ∷ []) v w x y = absurd x
three asks same (a ∷ b ∷ []) v w x y = absurd x
three asks same (a ∷ b ∷ c ∷ []) v w x y = same a b c v w x y
three asks same (a ∷ b ∷ c ∷ d ∷ more) v w x y = absurd x

one_run : (a b c : Text) (v w : Wanted) → AskRun a b c v → AskRun a b c w → v ≡ w
one_run a b c v w x y =
    let steps : x.steps ≡ y.steps = same_Some _ _ (sym x.number.0 ∙ y.number.0) in
    x.is ∙ ap (λ n. Run a b n) steps ∙ sym y.is

one_trace : (a b c : Text) (v w : Wanted) → AskTrace a b c v → AskTrace a b c w → v ≡ w
one_trace a b c v w x y =
    let bound : x.bound ≡ y.bound = same_Some _ _ (sym x.number.0 ∙ y.number.0) in
    x.is ∙ ap (λ n. Trace a b n) bound ∙ sym y.is

one_sample : (a : Text) (v w : Wanted) → AskSample a v → AskSample a w → v ≡ w
one_sample a v w x y =
    let number : x.of ≡ y.of = same_Some _ _ (sym x.number ∙ y.number) in
    x.is ∙ ap Sample number ∙ sym y.is

plain_once : (which : Which) (vs : List Text) (v w : Wanted) → IsPlain which vs v
    → IsPlain which vs w → v ≡ w
plain_once Compiler vs v w x y =
    one (λ file u. u ≡ Compile file) (λ _ _ _ a b. a ∙ sym b) vs v w x y
plain_once Runner vs v w x y = three AskRun one_run vs v w x y

flagged_once : (f : Flag) (vs : List Text) (v w : Wanted) → IsFlagged f vs v → IsFlagged f vs w
    → v ≡ w
flagged_once flag.Check vs v w x y =
    one (λ file u. u ≡ Check file) (λ _ _ _ a b. a ∙ sym b) vs v w x y
flagged_once flag.Trace vs v w x y = three AskTrace one_trace vs v w x y
flagged_once flag.Audit vs v w x y = two AskAudit (λ _ _ _ _ a b. a.is ∙ sym b.is) vs v w x y
flagged_once flag.Infer vs v w x y =
    one (λ file u. u ≡ Infer file) (λ _ _ _ a b. a ∙ sym b) vs v w x y
flagged_once flag.Sample vs v w x y = one AskSample one_sample vs v w x y
flagged_once flag.Verify vs v w x y = one AskVerify (λ _ _ _ a b. a.is ∙ sym b.is) vs v w x y

set_once : (which : Which) (flags : List Flag) (vs : List Text) (v w : Wanted)
    → IsSet which flags vs v → IsSet which flags vs w → v ≡ w
set_once which [] vs v w x y = plain_once which vs v w x y
set_once which (f ∷ []) vs v w x y = flagged_once f vs v w x y
set_once which (f ∷ g ∷ more) vs v w x y = absurd x

-- words ask for one thing
pub one_wanted : (which : Which) (words : List (String Global)) (v w : Wanted) → Asks which words v
    → Asks which words w → v ≡ w
one_wanted which words v w x y =
    let found = rows which (texts words) in
    set_once which (set_flags which found) (values found) v w x.1 y.1

-- ---- nothing, where there are no values

none_set : (which : Which) (flags : List Flag) (w : Wanted) → IsSet which flags [] w → ⊥
none_set Compiler [] w x = x
none_set Runner [] w x = x
none_set which (flag.Check ∷ []) w x = x
none_set which (flag.Trace ∷ []) w x = x
none_set which (flag.Audit ∷ []) w x = x
none_set which (flag.Infer ∷ []) w x = x
none_set which (flag.Sample ∷ []) w x = x
none_set which (flag.Verify ∷ []) w x = x
none_set which (f ∷ g ∷ more) w x = x

pub no_values : (which : Which) (found : List Row) (w : Wanted)
    → all_of (codes "values") found ≡ None → IsForm which found w → ⊥
no_values which found w none x =
    none_set which (set_flags which found) w
    (subst (λ vs. IsSet which (set_flags which found) vs w) (ap (λ o. unwrap_or o []) none) x)

-- ---- a run

module _ (w : Wanted) (C : Type 0) where
  of_one : (asks : Text → Wanted → Type 0) → ((a : Text) → asks a w → C) → (vs : List Text)
      → OfOne asks vs w → C
  of_one asks so [] x = absurd x
  of_one asks so (a ∷ []) x = so a x
  of_one asks so (a ∷ b ∷ more) x = absurd x

  of_two : (asks : Text → Text → Wanted → Type 0) → ((a b : Text) → asks a b w → C)
      → (vs : List Text) → OfTwo asks vs w → C
  of_two asks so [] x = absurd x
  of_two asks so (a ∷ []) x = absurd x
  of_two asks so (a ∷ b ∷ []) x = so a b x
  of_two asks so (a ∷ b ∷ c ∷ more) x = absurd x

  of_three : (asks : Text → Text → Text → Wanted → Type 0)
      → ((a b c : Text) → asks a b c w → C) → (vs : List Text) → OfThree asks vs w → C
  of_three asks so [] x = absurd x
  of_three asks so (a ∷ []) x = absurd x
  of_three asks so (a ∷ b ∷ []) x = absurd x
  of_three asks so (a ∷ b ∷ c ∷ []) x = so a b c x
  of_three asks so (a ∷ b ∷ c ∷ d ∷ more) x = absurd x

module _ (main inputs : Text) (steps : ℕ) where
  abbrev run : Wanted
  run = Run main inputs steps

  -- no flag asks for a run
  no_flagged : (f : Flag) (vs : List Text) → IsFlagged f vs run → ⊥
  no_flagged flag.Check vs x = of_one run ⊥ (λ file w. w ≡ Check file) (λ file is. cc) vs x
  no_flagged flag.Trace vs x =
      of_three run ⊥ AskTrace (λ a b c y. let is = y.is in cc) vs x
  no_flagged flag.Audit vs x = of_two run ⊥ AskAudit (λ a b y. let is = y.is in cc) vs x
  no_flagged flag.Infer vs x = of_one run ⊥ (λ file w. w ≡ Infer file) (λ file is. cc) vs x
  no_flagged flag.Sample vs x = of_one run ⊥ AskSample (λ a y. let is = y.is in cc) vs x
  no_flagged flag.Verify vs x = of_one run ⊥ AskVerify (λ a y. let is = y.is in cc) vs x

  -- three values do
  plain_run : (C : Type 0) → ((a b c : Text) → AskRun a b c run → C) → (which : Which)
      → (vs : List Text) → IsPlain which vs run → C
  plain_run C so Compiler vs x =
      of_one run C (λ file w. w ≡ Compile file) (λ file is. let no : ⊥ = cc in absurd no) vs x
  plain_run C so Runner vs x = of_three run C AskRun so vs x

  set_run : (C : Type 0) → ((a b c : Text) → AskRun a b c run → C) → (which : Which)
      → (flags : List Flag) (vs : List Text) → IsSet which flags vs run → C
  set_run C so which [] vs x = plain_run C so which vs x
  set_run C so which (f ∷ []) vs x = absurd (no_flagged f vs x)
  set_run C so which (f ∷ g ∷ more) vs x = absurd x

  words_run : (C : Type 0) → ((a b c : Text) → AskRun a b c run → C) → (which : Which)
      → (words : List (String Global)) → Asks which words run → C
  words_run C so which words x =
      let found = rows which (texts words) in
      set_run C so which (set_flags which found) (values found) x.1

run_named : (a b c main inputs : Text) (steps : ℕ) → AskRun a b c (Run main inputs steps)
    → IsName main
run_named a b c main inputs steps x =
    let is = x.is in
    let same : a ≡ main = cc in
    subst IsName same x.name

-- the name of the class of a run is one
pub asks_named : (which : Which) (words : List (String Global)) (main inputs : Text) (steps : ℕ)
    → Asks which words (Run main inputs steps) → IsName main
asks_named which words main inputs steps asks =
    words_run main inputs steps (IsName main)
    (λ a b c x. run_named a b c main inputs steps x) which words asks

-- ---- the number of instructions of a run

bounded_by : (most n : ℕ) (text : Text) (right : Bool)
    → (is_decimal text && nat_le (value text) most) ≡ right
    → cond right (Some (value text)) None ≡ Some n → n ≤ most
bounded_by most n text true right is =
    let same : value text ≡ n = same_Some _ _ is in
    let small : nat_le (value text) most ≡ true =
    (and_parts (is_decimal text) (nat_le (value text) most) right).1 in
    grind (arith, nat_tests)
bounded_by most n text false right is = absurd (none-some n is)

bounded : (most n : ℕ) (text : Text) → magnitude_of most text ≡ Some n → n ≤ most
bounded most n text is =
    bounded_by most n text (is_decimal text && nat_le (value text) most) refl is

run_few : (a b c main inputs : Text) (steps : ℕ) → AskRun a b c (Run main inputs steps)
    → steps ≤ most_steps
run_few a b c main inputs steps x =
    let is = x.is in
    let same : x.steps ≡ steps = cc in
    let few : x.steps ≤ most_steps = bounded most_steps x.steps c x.number.0 in
    omega arith

-- is at most the greatest
pub asks_few : (which : Which) (words : List (String Global)) (main inputs : Text) (steps : ℕ)
    → Asks which words (Run main inputs steps) → steps ≤ most_steps
asks_few which words main inputs steps asks =
    words_run main inputs steps (steps ≤ most_steps)
    (λ a b c x. run_few a b c main inputs steps x) which words asks

-- ---- the class that is verified

module _ (main : Text) where
  abbrev verified : Wanted
  verified = Verify main

  -- without a flag none is
  none_plain : (which : Which) (vs : List Text) → IsPlain which vs verified → ⊥
  none_plain Compiler vs x = of_one verified ⊥ (λ file w. w ≡ Compile file) (λ file is. cc) vs x
  none_plain Runner vs x = of_three verified ⊥ AskRun (λ a b c y. let is = y.is in cc) vs x

  verify_named : (a : Text) → AskVerify a verified → IsName main
  verify_named a x =
      let is = x.is in
      let same : a ≡ main = cc in
      subst IsName same x.name

  flagged_named : (f : Flag) (vs : List Text) → IsFlagged f vs verified → IsName main
  flagged_named flag.Check vs x =
      absurd (of_one verified ⊥ (λ file w. w ≡ Check file) (λ file is. cc) vs x)
  flagged_named flag.Trace vs x =
      absurd (of_three verified ⊥ AskTrace (λ a b c y. let is = y.is in cc) vs x)
  flagged_named flag.Audit vs x =
      absurd (of_two verified ⊥ AskAudit (λ a b y. let is = y.is in cc) vs x)
  flagged_named flag.Infer vs x =
      absurd (of_one verified ⊥ (λ file w. w ≡ Infer file) (λ file is. cc) vs x)
  flagged_named flag.Sample vs x =
      absurd (of_one verified ⊥ AskSample (λ a y. let is = y.is in cc) vs x)
  flagged_named flag.Verify vs x = of_one verified (IsName main) AskVerify verify_named vs x

  set_named : (which : Which) (flags : List Flag) (vs : List Text) → IsSet which flags vs verified
      → IsName main
  set_named which [] vs x = absurd (none_plain which vs x)
  set_named which (f ∷ []) vs x = flagged_named f vs x
  set_named which (f ∷ g ∷ more) vs x = absurd x

-- it has a name
pub asks_verified : (which : Which) (words : List (String Global)) (main : Text)
    → Asks which words (Verify main) → IsName main
asks_verified which words main asks =
    let found = rows which (texts words) in
    set_named main which (set_flags which found) (values found) asks.1
