-- What a pass that runs needs, and what it gives.
use Rattle.std.specs.Prelude.{◌≡◌, ◌<◌, ℕ, Bool, Option, Some, None, List, [], ◌∷◌}
use Rattle.std.specs.Prelude.{◌++◌, drop, length}
use Rattle.par_bits.specs.Sets.{Set, has}
use Rattle.par_program_laws.specs.Kinds.{Kind, Normal}
use Rattle.par_program_laws.specs.Ranges.{IsFromInRange, IsWorthInRange}
use Rattle.par_program_laws.specs.Rules.{Node, node, Rules, Done, Part, Test, Heads, Leaves, Worths}
use Rattle.par_program_laws.specs.Rules.{From, Entry, spot}
use Rattle.par_program_laws.specs.Body.{args, stas}
use Rattle.par_program_laws.specs.Declares.{Declares}
use Rattle.par_typed.specs.declared.stmt.TStmt.{TStmt}
use Rattle.par_typed.specs.Shown.{all_do, all_shown}
use Rattle.par_typed.specs.declared.expr.TExpr.{TExpr}
use Rattle.par_nodes.specs.Starts.{start_at}
use Rattle.par_pass_laws.specs.par_except.declared.way.Way.{Way}
use Rattle.par_pass_laws.specs.par_except.Seen.{may_see, seen, HasLocals}
use Rattle.par_pass_laws.specs.Exits as plain_exits
use Rattle.par_pass_laws.specs.Exits.{all, at, leaving, one}
use Rattle.par_pass_laws.specs.Pass as plain
use Rattle.par_pass_laws.specs.Pass.{HeadWays, Event, Row}
use Rattle.par_rounds.specs.declared.notes.Notes.{Notes}
use Rattle.par_rounds.specs.declared.pass.Found.{Found}
use Rattle.par_rounds.specs.declared.pass.SoFar.{SoFar}
use Rattle.par_ways.specs.Seen.{seen_exits, latest_first, AreWide, AreFactsWide, AreHeadsWide}
use Rattle.par_rounds.specs.Took.{Took}

module _ (locals points : ℕ) where
  -- numbers are in range, and so are the points of the tests of loops
  unfoldable mutual
    pub IsPassable : Node → Type 0
    IsPassable (node p rules) = ArePassable rules

    pub ArePassable : Rules → Type 0
    ArePassable Done = Unit {0}
    ArePassable (Part from absorber part more) =
        IsFromInRange locals from × IsPassable part × ArePassable more
    ArePassable (Test part more) = (spot part < points) × IsPassable part × ArePassable more
    ArePassable (Heads from more) = IsFromInRange locals from × ArePassable more
    ArePassable (Leaves from kind more) = IsFromInRange locals from × ArePassable more
    ArePassable (Worths v more) = IsWorthInRange locals v × ArePassable more

-- what is found, with what has been noted on the way
abbrev pub found_of : Found → List Event → plain.Found
found_of r l = record { value = has r.value; exits = seen_exits r.exits.items; events = l }

-- the code has found that, and has noted its events
pub record Passed (r : Found) (q : plain.Found) (m n : Notes) : Type 0 where
  pub value : has r.value ≡ q.value
  pub exits : seen_exits r.exits.items ≡ q.exits
  pub wide : AreWide m.locals r.exits.items
  pub noted : Took q.events m n

-- the rules of a node
abbrev pub within : Node → Rules
within (node p rules) = rules

-- the code goes on to find that by these rules, from any events before
abbrev pub GoesOn : HeadWays → Rules → plain_exits.Way → SoFar → Notes → Found → Notes → Type 0
GoesOn h rules w so n r o =
    (l : List Event) (m : Notes) → Took l m n
    → Passed r
    (plain.pass_all h rules w so.head (latest_first so.parts.items []) (found_of so.found l)) m o

-- a node that is left as it is entered, with that value
abbrev pub left_as : ℕ → Set → plain_exits.Way → plain.Found
left_as p value w =
    let xs = one Normal w in
    record {
      value = value;
      exits = xs;
      events = Row p (record { entry = Some w; value = value; exit = at xs }) ∷ [];
    }

-- a part that this way enters has been passed: what was found in it, and what it adds
pub record TookPart (absorbs : Kind → Bool) (o : Option plain_exits.Way) (q : plain.Found)
    (so to : SoFar) (m n : Notes) : Type 0 where
  pub entry : Option Way
  pub found : Found
  pub enters : may_see entry ≡ o
  pub passed : Passed found q m n
  pub parts : to.parts.items
      ≡ so.parts.items ++ record { entry = entry; value = found.value; exits = found.exits } ∷ []
  pub value : to.found.value ≡ so.found.value
  pub exits : seen_exits to.found.exits.items
      ≡ all (leaving absorbs (seen_exits found.exits.items)) (seen_exits so.found.exits.items)
  pub wide : AreWide m.locals to.found.exits.items

-- all ways keep policies for as many locals
pub record IsReady (w : Way) (hs : List (Option Way)) (n : Notes) : Type 0 where
  pub way : HasLocals n.locals w
  pub heads : AreHeadsWide n.locals hs
  pub noted : AreHeadsWide n.locals n.heads.items

abbrev pub IsHeadInRange : ℕ → Option ℕ → Type 0
IsHeadInRange points None = Unit {0}
IsHeadInRange points (Some test) = test < points

pub record IsSoFar (notes : Notes) (so : SoFar) : Type 0 where
  pub head : IsHeadInRange (length notes.heads.items) so.head
  pub parts : AreFactsWide notes.locals so.parts.items
  pub exits : AreWide notes.locals so.found.exits.items

-- the statements before the place have been passed, and the others follow
pub record IsAlong (d : Declares) (h : HeadWays) (w : Way) (hs : List (Option Way))
    (ss : List TStmt) (place : ℕ) (first so : SoFar) (m n : Notes) : Type 0 where
  pub ready : IsReady w hs n
  pub so_far : IsSoFar n so
  pub rules : ArePassable n.locals (length n.heads.items)
      (stas d (start_at place Entry) (all_do (drop place ss)))
  pub goes : (r : Found) (o : Notes)
      → GoesOn h (stas d (start_at place Entry) (all_do (drop place ss))) (seen w) so n r o
      → GoesOn h (stas d Entry (all_do ss)) (seen w) first m r o

-- what has been passed by these rules leads on to what follows them
pub record IsLed (h : HeadWays) (w : Way) (hs : List (Option Way)) (f : Rules → Rules)
    (so to : SoFar) (m n : Notes) : Type 0 where
  pub ready : IsReady w hs n
  pub so_far : IsSoFar n to
  pub rules : (rs : Rules) → ArePassable m.locals (length m.heads.items) rs
      → ArePassable n.locals (length n.heads.items) rs
  pub goes : (more : Rules) (r : Found) (o : Notes) → GoesOn h more (seen w) to n r o
      → GoesOn h (f more) (seen w) so m r o

-- the arguments before the place have been passed, and the others follow
pub record AreArgsAlong (d : Declares) (h : HeadWays) (w : Way) (hs : List (Option Way))
    (from : From) (es : List TExpr) (place : ℕ) (first so : SoFar) (m n : Notes) : Type 0 where
  pub ready : IsReady w hs n
  pub so_far : IsSoFar n so
  pub same : (rs : Rules) → ArePassable m.locals (length m.heads.items) rs
      → ArePassable n.locals (length n.heads.items) rs
  pub last : Rules
  pub needs : ArePassable n.locals (length n.heads.items)
      (args d (start_at place from) (all_shown (drop place es)) last)
  pub goes : (more : Rules) (r : Found) (o : Notes)
      → GoesOn h (args d (start_at place from) (all_shown (drop place es)) more) (seen w) so n r o
      → GoesOn h (args d from (all_shown es) more) (seen w) first m r o
