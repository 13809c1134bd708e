-- What each rule needs, from what all of them need.
use Rattle.std.proofs.Common.{◌≡◌, ℕ, ◌<◌, Option, None, List, [], ◌∷◌, ◌++◌, length, sym, subst}
use Rattle.std.proofs.Common.{arith}
use Rattle.std.proofs.lemmas.List.Elements.{All-push}
use Rattle.par_program_laws.specs.Kinds.{Kind, Absorber}
use Rattle.par_program_laws.specs.Ranges.{IsFromInRange, IsWorthInRange}
use Rattle.par_program_laws.specs.Rules.{From, Worth, Node, node, Rules, Part, Test, Heads, Leaves}
use Rattle.par_program_laws.specs.Rules.{Worths}
use Rattle.par_program_laws.specs.Rules.{spot}
use Rattle.par_pass_laws.specs.par_except.declared.way.Way.{Way}
use Rattle.par_pass_laws.specs.par_except.Seen.{HasLocals}
use Rattle.par_pass_laws.specs.Pass.{Event}
use Rattle.par_ways.specs.declared.fact.Fact.{Fact}
use Rattle.par_rounds.specs.declared.notes.Notes.{Notes}
use Rattle.par_rounds.specs.declared.pass.SoFar.{SoFar}
use Rattle.par_ways.specs.Seen.{AreWide, AreFactsWide, AreHeadsWide}
use Rattle.par_rounds.specs.Took.{Took}
use Rattle.par_rounds.specs.Passes.{IsPassable, ArePassable, IsReady, IsSoFar, IsHeadInRange}

module _ (locals points : ℕ) (rules : Rules) where
  pub part_needs : (from : From) (a : Absorber) (n : Node) (more : Rules)
      → rules ≡ Part from a n more → ArePassable locals points rules
      → IsFromInRange locals from × IsPassable locals points n × ArePassable locals points more
  unfolding ArePassable
  part_needs from a n more e h = subst (ArePassable locals points) e h

  pub test_needs : (n : Node) (more : Rules) → rules ≡ Test n more → ArePassable locals points rules
      → (spot n < points) × IsPassable locals points n × ArePassable locals points more
  unfolding ArePassable
  test_needs n more e h = subst (ArePassable locals points) e h

  pub heads_needs : (from : From) (more : Rules) → rules ≡ Heads from more
      → ArePassable locals points rules → IsFromInRange locals from × ArePassable locals points more
  unfolding ArePassable
  heads_needs from more e h = subst (ArePassable locals points) e h

  pub leaves_needs : (from : From) (k : Kind) (more : Rules) → rules ≡ Leaves from k more
      → ArePassable locals points rules → IsFromInRange locals from × ArePassable locals points more
  unfolding ArePassable
  leaves_needs from k more e h = subst (ArePassable locals points) e h

  pub worths_needs : (v : Worth) (more : Rules) → rules ≡ Worths v more
      → ArePassable locals points rules → IsWorthInRange locals v × ArePassable locals points more
  unfolding ArePassable
  worths_needs v more e h = subst (ArePassable locals points) e h

pub node_needs : (locals points p : ℕ) (rules : Rules) → IsPassable locals points (node p rules)
    → ArePassable locals points rules
unfolding IsPassable ArePassable
node_needs locals points p rules h = h

module _ (n m : Notes) (l : List Event) (t : Took l n m) where
  pub same_locals : (P : ℕ → Type 0) → P n.locals → P m.locals
  same_locals P h = subst P (sym t.locals) h

  pub wide_after : AreHeadsWide n.locals n.heads.items → AreHeadsWide m.locals m.heads.items
  wide_after h = same_locals (λ k. AreHeadsWide k m.heads.items) (t.wide h)

  pub ready_after : (w : Way) (hs : List (Option Way)) → IsReady w hs n → IsReady w hs m
  ready_after w hs r = record {
    way = same_locals (λ k. HasLocals k w) r.way;
    heads = same_locals (λ k. AreHeadsWide k hs) r.heads;
    noted = wide_after r.noted;
  }

  pub rules_after : (rules : Rules) → ArePassable n.locals (length n.heads.items) rules
      → ArePassable m.locals (length m.heads.items) rules
  rules_after rules h =
      subst (λ k. ArePassable m.locals k rules) (sym t.size)
      (same_locals (λ k. ArePassable k (length n.heads.items) rules) h)

  pub head_after : (o : Option ℕ) → IsHeadInRange (length n.heads.items) o
      → IsHeadInRange (length m.heads.items) o
  head_after o h = subst (λ k. IsHeadInRange k o) (sym t.size) h

  -- with another part
  pub so_after : (so to : SoFar) (head : Option ℕ) (f : Fact) → IsSoFar n so
      → IsHeadInRange (length n.heads.items) head → AreWide n.locals f.exits.items
      → to.head ≡ head → to.parts.items ≡ so.parts.items ++ f ∷ []
      → AreWide n.locals to.found.exits.items → IsSoFar m to
  so_after so to head f s r x eh ep e = record {
    head = head_after to.head (subst (IsHeadInRange (length n.heads.items)) (sym eh) r);
    parts =
        same_locals (λ k. AreFactsWide k to.parts.items)
        (subst (AreFactsWide n.locals) (sym ep)
        (All-push (λ g. AreWide n.locals g.exits.items) so.parts.items f s.parts x));
    exits = same_locals (λ k. AreWide k to.found.exits.items) e;
  }

  -- with the same parts
  pub so_still : (so to : SoFar) → IsSoFar n so → to.head ≡ so.head → to.parts ≡ so.parts
      → AreWide n.locals to.found.exits.items → IsSoFar m to
  so_still so to s eh ep e = record {
    head = head_after to.head (subst (IsHeadInRange (length n.heads.items)) (sym eh) s.head);
    parts =
        same_locals (λ k. AreFactsWide k to.parts.items)
        (subst (λ ps. AreFactsWide n.locals ps.items) (sym ep) s.parts);
    exits = same_locals (λ k. AreWide k to.found.exits.items) e;
  }

-- at first
pub so_first : (n : Notes) (so : SoFar) → so.head ≡ None → so.parts.items ≡ []
    → so.found.exits.items ≡ [] → IsSoFar n so
so_first n so eh ep ex = record {
  head = subst (IsHeadInRange (length n.heads.items)) (sym eh) tt;
  parts = subst (AreFactsWide n.locals) (sym ep) (λ i d h. absurd (omega (arith, h)));
  exits = subst (AreWide n.locals) (sym ex) (λ i d h. absurd (omega (arith, h)));
}
