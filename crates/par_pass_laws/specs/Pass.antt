-- What one pass over the rules of a body finds, from a way and the heads of loops.
use Rattle.std.specs.Prelude.{ℕ, Option, Some, None, List, [], ◌∷◌, ◌++◌}
use Rattle.par_bits.specs.Sets.{Set, none, union}
use Rattle.par_except.specs.par_program_laws.Lattice.{numbers}
use Rattle.par_except.specs.par_program_laws.Kinds.{normal, absorbed}
use Rattle.par_except.specs.par_program_laws.Facts.{Fact, blank}
use Rattle.par_except.specs.par_program_laws.Rules.{Node, node, Rules, Done, Part, Test, Heads}
use Rattle.par_except.specs.par_program_laws.Rules.{Leaves}
use Rattle.par_except.specs.par_program_laws.Rules.{Worths}
use Rattle.par_except.specs.par_program_laws.Rules.{spot, way, worth}
use Rattle.par_pass_laws.specs.Exits.{Way, Exit, at, all, leaving, restored, leave}

-- the head ways of loops, at the points of their tests
abbrev pub HeadWays : Type 0
HeadWays = ℕ → Option Way

-- what a pass meets: the fact of a point, and a way that flows into a head
pub data Event : Type 0 where
  Row : (point : ℕ) (f : Fact numbers) → Event
  Into : (test : ℕ) (way : Option Way) → Event

-- what is found of a node
pub record Found : Type 0 where
  pub value : Set
  pub exits : List Exit
  pub events : List Event

abbrev pub nothing : Found
nothing = record { value = none; exits = []; events = [] }

-- the fact of a node that the way enters
abbrev pub fact : Option Way → Found → Fact numbers
fact o r = record { entry = o; value = r.value; exit = at r.exits }

-- the node at the point is passed where it is reached
abbrev pub visited : Option Way → ℕ → (Way → Found) → Found
visited None p f = record { value = none; exits = []; events = Row p (blank numbers) ∷ [] }
visited (Some w) p f = f w

-- the end of a node: its normal exit gets its context, and its fact is noted
abbrev pub ended : ℕ → Way → Found → Found
ended p w r =
    let xs = restored w r.exits in
    record {
      value = r.value;
      exits = xs;
      events = r.events ++ Row p (record { entry = Some w; value = r.value; exit = at xs }) ∷ [];
    }

-- a way that flows into the head way of a loop, if there is a loop
abbrev pub into : Option ℕ → Option Way → List Event
into None o = []
into (Some test) o = Into test o ∷ []

unfoldable mutual
  pub pass : HeadWays → Node → Way → Found
  pass h (node p rules) w = ended p w (pass_all h rules w None [] nothing)

  -- behind the test of a loop, and the facts of the parts before, the latest first
  pub pass_all : HeadWays → Rules → Way → Option ℕ → List (Fact numbers) → Found → Found
  pass_all h Done w head fs r = r
  pass_all h (Part from absorber part more) w head fs r =
      let o = way numbers (Some w) fs from in
      let q = visited o (spot part) (pass h part) in
      pass_all h more w head (fact o q ∷ fs)
      (record {
        value = r.value;
        exits = all (leaving (absorbed absorber) q.exits) r.exits;
        events = r.events ++ q.events;
      })
  pass_all h (Test part more) w head fs r =
      let o = h (spot part) in
      let q = visited o (spot part) (pass h part) in
      pass_all h more w (Some (spot part)) (fact o q ∷ fs)
      (record {
        value = r.value;
        exits = all (leaving normal q.exits) r.exits;
        events = r.events ++ q.events;
      })
  pass_all h (Heads from more) w head fs r =
      pass_all h more w head fs
      (record r { events = r.events ++ into head (way numbers (Some w) fs from) })
  pass_all h (Leaves from kind more) w head fs r =
      pass_all h more w head fs
      (record r { exits = all (leave (way numbers (Some w) fs from) kind) r.exits })
  pass_all h (Worths v more) w head fs r =
      pass_all h more w head fs (record r { value = union r.value (worth numbers (Some w) fs v) })
