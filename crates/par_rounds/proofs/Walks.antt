-- Parts that are passed where they stand in the typed tree.
use Rattle.std.proofs.Common.{◌≡◌, ℕ, ◌<◌, Bool, Some, None, List, Option, [], ◌∷◌, length, refl}
use Rattle.std.proofs.Common.{sym, ap, subst, arith}
use Rattle.par_bits.specs.Sets.{has, none}
use Rattle.par_typed.specs.Plain as typed
use Rattle.par_typed.specs.Plain.{TExp, TSta, mark, point}
use Rattle.par_program_laws.specs.Lattice.{numbers}
use Rattle.par_program_laws.specs.Kinds.{Kind, Absorber, absorbed, normal}
use Rattle.par_program_laws.specs.Declares.{Declares}
use Rattle.par_program_laws.specs.Facts.{blank}
use Rattle.par_program_laws.specs.Ranges.{IsWorthInRange}
use Rattle.par_program_laws.specs.Rules.{From, Entry, Worth, Node, node, Rules, Done, Part, Worths}
use Rattle.par_program_laws.specs.Rules.{goes_on, spot, way}
use Rattle.par_program_laws.specs.Body.{exp, sta}
use Rattle.par_pass_laws.specs.par_except.declared.way.Way as code_way
use Rattle.par_pass_laws.specs.Exits.{Way}
use Rattle.par_pass_laws.specs.Pass as plain
use Rattle.par_pass_laws.specs.Pass.{HeadWays, Event, Row, ended, pass, visited}
use Rattle.par_rounds.specs.declared.notes.Notes.{Notes}
use Rattle.par_rounds.specs.declared.pass.Found.{Found}
use Rattle.par_rounds.specs.declared.pass.SoFar.{SoFar}
use Rattle.par_ways.specs.Seen.{seen_exits, latest_first, AreWide}
use Rattle.par_rounds.specs.Took.{Took}
use Rattle.par_rounds.specs.Passes.{found_of, within, GoesOn, Passed, TookPart}
use Rattle.par_rounds.specs.Passes.{IsPassable, ArePassable, IsReady, IsSoFar}
use Rattle.par_rounds.proofs.Arms.{node_goes, part_arm}
use Rattle.par_rounds.proofs.Needs.{ready_after, rules_after, so_after, node_needs, leaves_needs}
use Rattle.par_rounds.proofs.Needs.{part_needs, worths_needs}

-- where a node stands
pub exp_spot : (d : Declares) (e : TExp) → spot (exp d e) ≡ (mark e).point
unfolding exp mark
exp_spot d (typed.Int n m) = refl
exp_spot d (typed.Boolean b m) = refl
exp_spot d (typed.Null m) = refl
exp_spot d (typed.This m) = refl
exp_spot d (typed.New class m) = refl
exp_spot d (typed.Local x m) = refl
exp_spot d (typed.Static c f m) = refl
exp_spot d (typed.Field e c f m) = refl
exp_spot d (typed.Input c k m) = refl
exp_spot d (typed.Output c k e m) = refl
exp_spot d (typed.Call c k typed.Absent es m) = refl
exp_spot d (typed.Call c k (typed.Present e) es m) = refl
exp_spot d (typed.Neg e m) = refl
exp_spot d (typed.Not e m) = refl
exp_spot d (typed.Binary op a b m) = refl

pub sta_spot : (d : Declares) (s : TSta) → spot (sta d s) ≡ point s
unfolding sta point
sta_spot d (typed.Block ss at p) = refl
sta_spot d (typed.If e s typed.NoElse at p) = refl
sta_spot d (typed.If e s (typed.Otherwise t) at p) = refl
sta_spot d (typed.While e s at p) = refl
sta_spot d (typed.Try s cs at p) = refl
sta_spot d (typed.Return typed.Absent at p) = refl
sta_spot d (typed.Return (typed.Present e) at p) = refl
sta_spot d (typed.Break at p) = refl
sta_spot d (typed.Continue at p) = refl
sta_spot d (typed.Throw class at p) = refl
sta_spot d (typed.Open lock at p) = refl
sta_spot d (typed.Close lock at p) = refl
sta_spot d (typed.SetLocal x q e at p) = refl
sta_spot d (typed.SetStatic c f e at p) = refl
sta_spot d (typed.SetField o c f e at p) = refl
sta_spot d (typed.Eval e at p) = refl
sta_spot d (typed.When lock s typed.NoElse at p) = refl
sta_spot d (typed.When lock s (typed.Otherwise t) at p) = refl

pub within_needs : (locals points : ℕ) (n : Node) → IsPassable locals points n
    → ArePassable locals points (within n)
within_needs locals points (node p rules) h = node_needs locals points p rules h

-- the value of a node without parts is in range
pub alone_needs : (locals points p : ℕ) (v : Worth) (n : Node)
    → node p (goes_on Entry (Worths v Done)) ≡ n → IsPassable locals points n
    → IsWorthInRange locals v
alone_needs locals points p v n e h =
    let g = within_needs locals points n h in
    let more : Rules = Worths v Done in
    (worths_needs locals points more v Done refl
    (leaves_needs locals points (within n) Entry _ more (sym (ap within e)) g).1).0

-- what holds behind a part
pub record Behind (w : code_way.Way) (hs : List (Option code_way.Way)) (m n : Notes) (so : SoFar)
    : Type 0 where
  pub ready : IsReady w hs n
  pub so_far : IsSoFar n so
  pub rules : (rs : Rules) → ArePassable m.locals (length m.heads.items) rs
      → ArePassable n.locals (length n.heads.items) rs
  pub nodes : (k : Node) → IsPassable m.locals (length m.heads.items) k
      → IsPassable n.locals (length n.heads.items) k

pub node_after : (m n : Notes) (l : List Event) → Took l m n → (k : Node)
    → IsPassable m.locals (length m.heads.items) k → IsPassable n.locals (length n.heads.items) k
node_after m n l t k h =
    subst (λ j. IsPassable n.locals j k) (sym t.size)
    (subst (λ j. IsPassable j (length m.heads.items) k) (sym t.locals) h)

pub behind : (absorbs : Kind → Bool) (o : Option Way) (q : plain.Found) (w : code_way.Way)
    (hs : List (Option code_way.Way)) (so to : SoFar) (m n : Notes) → TookPart absorbs o q so to m n
    → to.head ≡ so.head → IsReady w hs m → IsSoFar m so → Behind w hs m n to
behind absorbs o q w hs so to m n k eh r s =
    let t = k.passed.noted in record {
      ready = ready_after m n q.events t w hs r;
      so_far =
          so_after m n q.events t so to so.head _ s s.head k.passed.wide eh k.parts k.wide;
      rules = rules_after m n q.events t;
      nodes = node_after m n q.events t;
    }

-- the same behind the test of a loop
pub behind_test : (o : Option Way) (q : plain.Found) (w : code_way.Way)
    (hs : List (Option code_way.Way)) (so to : SoFar) (m n : Notes) (test : ℕ)
    → TookPart normal o q so to m n → to.head ≡ Some test → test < length m.heads.items
    → IsReady w hs m → IsSoFar m so → Behind w hs m n to
behind_test o q w hs so to m n test k eh g r s =
    let t = k.passed.noted in record {
      ready = ready_after m n q.events t w hs r;
      so_far = so_after m n q.events t so to (Some test) _ s g k.passed.wide eh k.parts k.wide;
      rules = rules_after m n q.events t;
      nodes = node_after m n q.events t;
    }

-- what the rules behind a part need
pub behind_needs : (absorbs : Kind → Bool) (o : Option Way) (q : plain.Found) (w : code_way.Way)
    (hs : List (Option code_way.Way)) (so to : SoFar) (m n : Notes) (rules : Rules) (f : From)
    (a : Absorber) (k : Node) (more : Rules) → rules ≡ Part f a k more
    → TookPart absorbs o q so to m n → to.head ≡ so.head → IsReady w hs m → IsSoFar m so
    → ArePassable m.locals (length m.heads.items) rules
    → ArePassable n.locals (length n.heads.items) more
behind_needs absorbs o q w hs so to m n rules f a k more is t eh r s h =
    (behind absorbs o q w hs so to m n t eh r s).rules more
    (part_needs m.locals (length m.heads.items) rules f a k more is h).2

-- a part, and what goes on behind it
pub part_walks : (h : HeadWays) (w : Way) (a : Absorber) (from : From) (n : Node)
    (rules more : Rules) (so to : SoFar) (r : Found) (m0 m1 m2 : Notes)
    → rules ≡ Part from a n more → to.head ≡ so.head
    → (let o = way numbers (Some w) (latest_first so.parts.items []) from in
    TookPart (absorbed a) o (visited o (spot n) (pass h n)) so to m0 m1)
    → GoesOn h more w to m1 r m2 → GoesOn h rules w so m0 r m2
part_walks h w a from n rules more so to r m0 m1 m2 is eh k go =
    part_arm h w so to r rules from a n more k.entry k.found m0 m1 m2 is k.enters k.passed eh
    k.parts k.value k.exits go

-- a node from nothing
pub node_walks : (h : HeadWays) (n : Node) (p : ℕ) (w : Way) (so : SoFar) (got r : Found)
    (m0 m1 m2 : Notes) → spot n ≡ p
    → so.head ≡ None → so.parts.items ≡ [] → has so.found.value ≡ none → so.found.exits.items ≡ []
    → GoesOn h (within n) w so m0 got m1
    → ((l : List Event) (m : Notes) → Took l m m1 → AreWide m.locals got.exits.items
    → Passed r (ended p w (found_of got l)) m m2)
    → Passed r (pass h n w) m0 m2
node_walks h (node q rules) p w so got r m0 m1 m2 e eh ep ev ex go end =
    node_goes h q rules w so got r m0 m1 m2 eh ep ev ex go
    (subst (λ z. (l : List Event) (m : Notes) → Took l m m1 → AreWide m.locals got.exits.items
    → Passed r (ended z w (found_of got l)) m m2) (sym e) end)

-- a part that is not reached
pub visited_none : (o : Option Way) (p q : ℕ) (f : Way → plain.Found) (r : Found) (m n : Notes)
    → o ≡ None → q ≡ p → has r.value ≡ none → r.exits.items ≡ []
    → Took (Row p (blank numbers) ∷ []) m n → Passed r (visited o q f) m n
visited_none o p q f r m n e g ev ex t =
    subst (λ z. Passed r (visited z q f) m n) (sym e) (record {
      value = ev;
      exits = ap seen_exits ex;
      wide = subst (AreWide m.locals) (sym ex) (λ i d h. absurd (omega (arith, h)));
      noted = subst (λ z. Took (Row z (blank numbers) ∷ []) m n) (sym g) t;
    })
