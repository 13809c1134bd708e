-- What follows a way that may leave, a test and a branch.
use Rattle.std.proofs.Common.{◌≡◌, ◌<◌, ℕ, Bool, true, false, Option, Some, None, List, [], length}
use Rattle.std.proofs.Common.{refl, sym, ap, ◌∙◌, subst}
use Rattle.std.specs.declared.boxed.Box.{Box}
use Rattle.std.specs.declared.alloc.Global.{Global}
use Rattle.par_typed.specs.Plain.{MayTSta, NoElse, Otherwise}
use Rattle.par_typed.specs.declared.stmt.TStmt.{TStmt}
use Rattle.par_typed.specs.Shown.{does, otherwise}
use Rattle.par_program_laws.specs.Lattice.{numbers}
use Rattle.par_program_laws.specs.Kinds.{Normal, Break, Continue, Next, Loop}
use Rattle.par_program_laws.specs.Ranges.{IsFromInRange}
use Rattle.par_program_laws.specs.Rules.{From, Entry, After, Node, Rules, Done, Part, Test, Heads}
use Rattle.par_program_laws.specs.Rules.{goes_on, spot, way}
use Rattle.par_program_laws.specs.Declares.{Declares}
use Rattle.par_program_laws.specs.Body.{past, tested, if_not, sta}
use Rattle.par_nodes.specs.Starts.{goes_first, else_rules}
use Rattle.par_pass_laws.specs.par_except.declared.way.Way as code_way
use Rattle.par_pass_laws.specs.Exits.{Way, all, leave}
use Rattle.par_pass_laws.specs.Pass.{HeadWays, Event}
use Rattle.par_rounds.specs.declared.notes.Notes.{Notes}
use Rattle.par_rounds.specs.declared.pass.Found.{Found}
use Rattle.par_rounds.specs.declared.pass.SoFar.{SoFar}
use Rattle.par_ways.specs.Seen.{seen_exits, latest_first, AreWide, AreFactsWide}
use Rattle.par_rounds.specs.Took.{Took}
use Rattle.par_rounds.specs.Passes.{GoesOn, IsPassable, ArePassable, IsReady, IsSoFar}
use Rattle.par_rounds.proofs.Arms.{leaves_arm}
use Rattle.par_rounds.proofs.Events.{took_none}
use Rattle.par_rounds.proofs.Needs.{part_needs, test_needs, heads_needs, leaves_needs}
use Rattle.par_rounds.proofs.Needs.{ready_after, rules_after, so_still}
use Rattle.par_rounds.proofs.Walks.{Behind, node_after}

-- ways that are in range whatever the locals
pub past_range : (locals : ℕ) → IsFromInRange locals past
unfolding IsFromInRange
past_range locals = tt

pub entry_range : (locals : ℕ) → IsFromInRange locals Entry
unfolding IsFromInRange
entry_range locals = tt

pub tested_range : (locals : ℕ) → IsFromInRange locals tested
unfolding IsFromInRange
tested_range locals = tt

-- where there is no `else`, and where there is one
module _ (w : Way) (so to : SoFar) (from : From) (o : Option (Box TStmt Global)) where
  pub none_leads : o ≡ None → to.head ≡ so.head → to.parts ≡ so.parts
      → to.found.value ≡ so.found.value
      → seen_exits to.found.exits.items
      ≡ all (leave (way numbers (Some w) (latest_first so.parts.items []) from) Normal)
      (seen_exits so.found.exits.items)
      → (h : HeadWays) (more : Rules) (m : Notes) (r : Found) (p : Notes)
      → GoesOn h more w to m r p → GoesOn h (goes_first (otherwise o) from more) w so m r p
  none_leads e eh ep ev ex h more m r p go =
      subst (λ z. GoesOn h (goes_first (otherwise z) from more) w so m r p) (sym e)
      (leaves_arm h w so to r (goes_on from more) from Normal more m p refl eh ep ev ex go)

  pub some_leads : (b : Box TStmt Global) → o ≡ Some b
      → (h : HeadWays) (more : Rules) (m : Notes) (r : Found) (p : Notes)
      → GoesOn h more w so m r p → GoesOn h (goes_first (otherwise o) from more) w so m r p
  some_leads b e h more m r p go =
      subst (λ z. GoesOn h (goes_first (otherwise z) from more) w so m r p) (sym e) go

-- where a test is always true, and where it may be false
module _ (w : Way) (so to : SoFar) (b : Bool) where
  pub true_leads : b ≡ true → (h : HeadWays) (more : Rules) (m : Notes) (r : Found) (p : Notes)
      → GoesOn h more w so m r p → GoesOn h (if_not b (goes_on past) more) w so m r p
  true_leads e h more m r p go =
      subst (λ z. GoesOn h (if_not z (goes_on past) more) w so m r p) (sym e) go

  pub false_leads : b ≡ false → to.head ≡ so.head → to.parts ≡ so.parts
      → to.found.value ≡ so.found.value
      → seen_exits to.found.exits.items
      ≡ all (leave (way numbers (Some w) (latest_first so.parts.items []) past) Normal)
      (seen_exits so.found.exits.items)
      → (h : HeadWays) (more : Rules) (m : Notes) (r : Found) (p : Notes)
      → GoesOn h more w to m r p → GoesOn h (if_not b (goes_on past) more) w so m r p
  false_leads e eh ep ev ex h more m r p go =
      subst (λ z. GoesOn h (if_not z (goes_on past) more) w so m r p) (sym e)
      (leaves_arm h w so to r (goes_on past more) past Normal more m p refl eh ep ev ex go)

-- what they need
pub first_needs : (locals points : ℕ) (o : MayTSta) (from : From) (more : Rules)
    → ArePassable locals points (goes_first o from more) → ArePassable locals points more
first_needs locals points NoElse from more h =
    (leaves_needs locals points (goes_on from more) from Normal more refl h).1
first_needs locals points (Otherwise s) from more h = h

pub unless_needs : (locals points : ℕ) (b : Bool) (from : From) (more : Rules)
    → ArePassable locals points (if_not b (goes_on from) more) → ArePassable locals points more
unless_needs locals points true from more h = h
unless_needs locals points false from more h =
    (leaves_needs locals points (goes_on from more) from Normal more refl h).1

module _ (w : code_way.Way) (hs : List (Option code_way.Way)) (so to : SoFar) (m n : Notes) where
  -- what the way's locals say of those that the notes know
  pub parts_wide : IsReady w hs m → IsSoFar m so → AreFactsWide (length w.env) so.parts.items
  parts_wide r s = subst (λ k. AreFactsWide k so.parts.items) (sym r.way) s.parts

  pub exits_wide : IsReady w hs m → IsSoFar m so → AreWide (length w.env) so.found.exits.items
  exits_wide r s = subst (λ k. AreWide k so.found.exits.items) (sym r.way) s.exits

  -- behind a way that may have left
  pub behind_leave : IsReady w hs m → IsSoFar m so → to.head ≡ so.head → to.parts ≡ so.parts
      → AreWide (length w.env) to.found.exits.items → Behind w hs m m to
  behind_leave r s eh ep wide = record {
    ready = r;
    so_far =
        so_still m m [] (took_none m) so to s eh ep
        (subst (λ k. AreWide k to.found.exits.items) r.way wide);
    rules = λ rs x. x;
    nodes = λ k x. x;
  }

  -- behind a way that flows into a head
  pub behind_flow : (l : List Event) → Took l m n → IsReady w hs m → IsSoFar m so
      → Behind w hs m n so
  behind_flow l t r s = record {
    ready = ready_after m n l t w hs r;
    so_far = so_still m n l t so so s refl refl s.exits;
    rules = rules_after m n l t;
    nodes = node_after m n l t;
  }

-- what a test with branches needs of the test, of its block and of what stands behind `else`
pub record IfNeeds (locals points : ℕ) (asked done : Node) (more : Rules) : Type 0 where
  pub test : IsPassable locals points asked
  pub block : IsPassable locals points done
  pub rest : ArePassable locals points more

pub if_needs : (locals points : ℕ) (o : MayTSta) (test block : Node) (rest rules : Rules)
    → rules ≡ Part Entry Next test (goes_first o past (Part tested Next block (goes_on past rest)))
    → ArePassable locals points rules → IfNeeds locals points test block rest
if_needs locals points o test block rest rules is h =
    let both = Part tested Next block (goes_on past rest) in
    let a = part_needs locals points rules Entry Next test (goes_first o past both) is h in
    let b =
    part_needs locals points both tested Next block (goes_on past rest) refl
    (first_needs locals points o past both a.2) in record {
      test = a.1;
      block = b.1;
      rest = (leaves_needs locals points (goes_on past rest) past Normal rest refl b.2).1;
    }

-- what a loop needs of its test, of its block and of what comes behind it
pub record LoopNeeds (locals points : ℕ) (asked done : Node) (more : Rules) : Type 0 where
  pub head : spot asked < points
  pub test : IsPassable locals points asked
  pub block : IsPassable locals points done
  pub rest : ArePassable locals points more

pub loop_needs : (locals points : ℕ) (b : Bool) (test block : Node) (rest rules : Rules)
    → rules ≡ Test test (Heads Entry (if_not b (goes_on past) (Part tested Loop block rest)))
    → ArePassable locals points rules → LoopNeeds locals points test block rest
loop_needs locals points b test block rest rules is h =
    let part = Part tested Loop block rest in
    let more = if_not b (goes_on past) part in
    let x = test_needs locals points rules test (Heads Entry more) is h in
    let y = heads_needs locals points (Heads Entry more) Entry more refl x.2 in
    let z =
    part_needs locals points part tested Loop block rest refl
    (unless_needs locals points b past part y.1) in
    record { head = x.0; test = x.1; block = z.1; rest = z.2 }

-- what stands behind `else`
pub none_else : (d : Declares) (o : Option (Box TStmt Global)) (from : From) → o ≡ None
    → else_rules d (otherwise o) from ≡ Done
none_else d o from e = ap (λ z. else_rules d (otherwise z) from) e

pub some_else : (d : Declares) (o : Option (Box TStmt Global)) (b : Box TStmt Global) (s : TStmt)
    (from : From) → o ≡ Some b → s ≡ b.value
    → else_rules d (otherwise o) from ≡ Part from Next (sta d (does s)) (goes_on past Done)
some_else d o b s from e g =
    ap (λ z. else_rules d (otherwise z) from) e
    ∙ ap (λ z. Part from Next (sta d (does z)) (goes_on past Done)) (sym g)

-- what comes behind the block of a loop
abbrev pub again : Rules
again = Heads past (Heads (After 0 Continue) (goes_on (After 0 Break) Done))
