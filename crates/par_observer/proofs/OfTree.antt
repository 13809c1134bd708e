-- What is said of a tree holds of its source.
use Rattle.std.proofs.Common.{◌≡◌, ℕ, ◌≤◌, List, [], ◌∷◌, length, arith, Result, Ok, Err, subst}
use Rattle.std.proofs.Common.{sym}
use Rattle.std.specs.Prelude.{Contains}
use Rattle.std.specs.List.{AllByRecursion}
use Rattle.std.specs.Prelude.{IsErrAnd}
use Rattle.std.specs.Result.{IfErr, IfOk}
use Rattle.std.proofs.lemmas.List.Elements.{recursion_from_All, All-from_recursion, All-contains}
use Rattle.par_lexer.specs.declared.token.Token.{Token}
use Rattle.par_lexer.specs.declared.cut.TheConstants.{LONGEST_SOURCE}
use Rattle.par_lexer.specs.Tokens.{HasTokens}
use Rattle.par_lexer.specs.Spans.{IsLaid, Stands}
use Rattle.par_tree.specs.Plain.{Source}
use Rattle.par_tree.specs.Shown.{source as tree_of_program}
use Rattle.par_tree.specs.declared.decl.Program.{Program}
use Rattle.par_parser.specs.Bodies.{source_size}
use Rattle.par_parser.specs.Sentence as syntax
use Rattle.par_refusals.specs.declared.refusal.Refusal.{Refusal}
use Rattle.par_span_laws.specs.Law.{BeginWithin}
use Rattle.par_span_laws.specs.Within.{IsWithin}
use Rattle.par_span_laws.specs.Broken.{AreBrokenWithin}
use Rattle.par_span_laws.proofs.Trees.{trees_lie}
use Rattle.par_observer.specs.declared.error.JudgeError.{JudgeError}
use Rattle.par_observer.specs.declared.error.JudgeError.TheVariants.{Refused, Memory}
use Rattle.par_observer.specs.Passes.{tree_faults}
use Rattle.par_observer.specs.Trees.{IsTreeRefused, IsTreeUntyped, BreaksRule, BreaksTyping}
use Rattle.par_observer.specs.Trees.{has_fault, has_flow}
use Rattle.par_observer.specs.Judgements.{IsTreeOf, IsStoppedAs, IsRefused, IsUntyped, has_tree}
use Rattle.par_observer.specs.Judgements.{IsReadAs, breaks}
use Rattle.par_observer.proofs.Passing.{typing_stops}
use Rattle.par_observer.proofs.Placed.{tree_within, flow_within}

-- tokens that stand in a source begin in it
begin : (source : List ℕ) (tokens : List Token) → AllByRecursion (Stands source) tokens
    → BeginWithin (length source) tokens
begin source [] h = tt
begin source (t ∷ ts) h = (
  let own : Stands source t = h.0 in omega (arith, own.starts, own.ends),
  begin source ts h.1,
)

pub begin_in : (source : List ℕ) (tokens : List Token) → IsLaid source tokens
    → BeginWithin (length source) tokens
begin_in source tokens laid =
    begin source tokens (recursion_from_All (Stands source) tokens laid.stand)

-- what is read of the tokens of a source is read of the source
pub read_so : (source : List ℕ) (tokens : List Token) (r : Result Program JudgeError)
    → HasTokens source tokens → IsLaid source tokens
    → IfOk r (λ tree. syntax.HasTree tokens (tree_of_program tree))
    → IfOk r (λ tree. source_size (tree_of_program tree) ≤ length tokens)
    → IfOk r (λ tree. IsReadAs source (tree_of_program tree))
read_so source tokens (Ok tree) cut laid derived size =
    record { tokens = tokens; cut = cut; laid = laid; derived = derived; size = size }
read_so source tokens (Err e) cut laid derived size = tt

-- what is among some refusals is broken where they are
among_in : (m : ℕ) (fs : List Refusal) (f : Refusal) → AreBrokenWithin m fs → Contains fs f
    → f.at ≤ m
among_in m fs f within there =
    All-contains (λ (f : Refusal). f.at ≤ m) fs f
    (All-from_recursion (λ (f : Refusal). f.at ≤ m) fs within) there

-- a tree whose places lie in the source breaks rules there
breaks_in : (m : ℕ) (tree : Source) (f : Refusal) → IsWithin m tree → BreaksRule tree f → f.at ≤ m
breaks_in m tree f within (has_fault first) =
    among_in m (tree_faults tree) f (tree_within m tree within) first.among
breaks_in m tree f within (has_flow faultless first) = flow_within m tree f within first

refused_so : (source : List ℕ) (tokens : List Token) (tree : Source) (e : JudgeError)
    → length source ≤ LONGEST_SOURCE → HasTokens source tokens → IsLaid source tokens
    → syntax.HasTree tokens tree → IsTreeRefused tree e → IsStoppedAs BreaksRule source e
refused_so source tokens tree (Refused f) short cut laid derived broken =
    let is_tree : IsTreeOf source tree =
    record { tokens = tokens; cut = cut; derived = derived } in
    let within : IsWithin (length source) tree =
    trees_lie (length source) tokens tree (begin_in source tokens laid) derived in
    (has_tree tree is_tree broken, breaks_in (length source) tree f within broken)
refused_so source tokens tree Memory short cut laid derived broken = tt

pub refused_of_tree : {A : Type 0} (source : List ℕ) (tokens : List Token) (tree : Source)
    (r : Result A JudgeError) → length source ≤ LONGEST_SOURCE → HasTokens source tokens
    → IsLaid source tokens → syntax.HasTree tokens tree → IfErr r (IsTreeRefused tree)
    → IfErr r (IsStoppedAs BreaksRule source)
refused_of_tree source tokens tree (Ok a) short cut laid derived broken = tt
refused_of_tree source tokens tree (Err e) short cut laid derived broken =
    refused_so source tokens tree e short cut laid derived broken

-- a rule up to types that is broken is one that is broken
pub untyped_refused : (tree : Source) (e : JudgeError) → IsTreeUntyped tree e
    → IsTreeRefused tree e
untyped_refused tree (Refused f) first = has_fault (typing_stops tree f first)
untyped_refused tree Memory first = tt

-- and so of its source
untyped_so : (source : List ℕ) (tokens : List Token) (tree : Source) (e : JudgeError)
    → length source ≤ LONGEST_SOURCE → HasTokens source tokens → IsLaid source tokens
    → syntax.HasTree tokens tree → IsTreeUntyped tree e → IsStoppedAs BreaksTyping source e
untyped_so source tokens tree (Refused f) short cut laid derived first =
    let is_tree : IsTreeOf source tree =
    record { tokens = tokens; cut = cut; derived = derived } in
    let within : IsWithin (length source) tree =
    trees_lie (length source) tokens tree (begin_in source tokens laid) derived in (
      has_tree tree is_tree first,
      among_in (length source) (tree_faults tree) f (tree_within (length source) tree within)
          (typing_stops tree f first).among,
    )
untyped_so source tokens tree Memory short cut laid derived first = tt

pub untyped_of_tree : {A : Type 0} (source : List ℕ) (tokens : List Token) (tree : Source)
    (r : Result A JudgeError) → length source ≤ LONGEST_SOURCE → HasTokens source tokens
    → IsLaid source tokens → syntax.HasTree tokens tree → IfErr r (IsTreeUntyped tree)
    → IfErr r (IsStoppedAs BreaksTyping source)
untyped_of_tree source tokens tree (Ok a) short cut laid derived first = tt
untyped_of_tree source tokens tree (Err e) short cut laid derived first =
    untyped_so source tokens tree e short cut laid derived first

-- why a source that is short enough is refused
short_so : (source : List ℕ) (e : JudgeError) → length source ≤ LONGEST_SOURCE
    → IsStoppedAs BreaksRule source e → IsRefused source e
short_so source (Refused f) short broken = breaks short broken
short_so source Memory short broken = tt

pub short_refused : {A : Type 0} (source : List ℕ) (r : Result A JudgeError)
    → length source ≤ LONGEST_SOURCE → IfErr r (IsStoppedAs BreaksRule source)
    → IfErr r (IsRefused source)
short_refused source (Ok a) short broken = tt
short_refused source (Err e) short broken = short_so source e short broken

-- and why it has no typed program
untyped_short : (source : List ℕ) (e : JudgeError) → length source ≤ LONGEST_SOURCE
    → IsStoppedAs BreaksTyping source e → IsUntyped source e
untyped_short source (Refused f) short broken = breaks short broken
untyped_short source Memory short broken = tt

pub short_untyped : {A : Type 0} (source : List ℕ) (r : Result A JudgeError)
    → length source ≤ LONGEST_SOURCE → IfErr r (IsStoppedAs BreaksTyping source)
    → IfErr r (IsUntyped source)
short_untyped source (Ok a) short broken = tt
short_untyped source (Err e) short broken = untyped_short source e short broken

-- where a call hands on that a tree has no typed program
pub untyped_handed : {A : Type 0} (tree : Source) (r : Result A JudgeError) (e : JudgeError)
    → IsErrAnd r (λ x. x ≡ e) → IsTreeUntyped tree e → IfErr r (IsTreeRefused tree)
untyped_handed tree (Ok a) e is h = tt
untyped_handed tree (Err x) e is h =
    untyped_refused tree x (subst (IsTreeUntyped tree) (sym is) h)

-- the same of why it is refused
pub tree_refused_handed : {A : Type 0} (tree : Source) (r : Result A JudgeError) (e : JudgeError)
    → IsErrAnd r (λ x. x ≡ e) → IsTreeRefused tree e → IfErr r (IsTreeRefused tree)
tree_refused_handed tree (Ok a) e is h = tt
tree_refused_handed tree (Err x) e is h = subst (IsTreeRefused tree) (sym is) h
