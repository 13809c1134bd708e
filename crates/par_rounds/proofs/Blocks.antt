-- Statements one after the other.
use Rattle.std.proofs.Common.{◌≡◌, ℕ, zero, suc, ◌+◌, ◌<◌, Some, Option, List, [], ◌∷◌, length}
use Rattle.std.proofs.Common.{get_or, drop, refl, sym, ap, ◌∙◌, subst, arith, add-one}
use Rattle.par_typed.specs.declared.stmt.TStmt.{TStmt}
use Rattle.par_typed.specs.Shown.{does, all_do}
use Rattle.par_program_laws.specs.Lattice.{numbers}
use Rattle.par_program_laws.specs.Kinds.{Next, absorbed}
use Rattle.par_program_laws.specs.Declares.{Declares}
use Rattle.par_program_laws.specs.Ranges.{IsFromInRange}
use Rattle.par_program_laws.specs.Rules.{From, Entry, Done, Part, goes_on, spot, way}
use Rattle.par_program_laws.specs.Body.{sta, stas}
use Rattle.par_nodes.specs.Starts.{start_at}
use Rattle.par_nodes.proofs.Branches.{stas_none}
use Rattle.par_pass_laws.specs.par_except.declared.way.Way as code_way
use Rattle.par_pass_laws.specs.par_except.Seen.{seen}
use Rattle.par_pass_laws.specs.Pass.{HeadWays, pass, visited}
use Rattle.par_rounds.specs.declared.notes.Notes.{Notes}
use Rattle.par_rounds.specs.declared.pass.SoFar.{SoFar}
use Rattle.par_ways.specs.Seen.{latest_first}
use Rattle.par_rounds.specs.Passes.{TookPart, IsPassable}
use Rattle.par_rounds.specs.Passes.{IsAlong}
use Rattle.par_rounds.proofs.Needs.{part_needs}
use Rattle.par_rounds.proofs.Walks.{behind, part_walks}

ahead : (ss : List TStmt) (p : ℕ) (s : TStmt) → p < length ss → s ≡ get_or ss p s
    → drop p ss ≡ s ∷ drop (suc p) ss
ahead [] p s h e = absurd (omega (arith, h))
ahead (x ∷ ss) zero s h e = ap (λ z. z ∷ ss) (sym e)
ahead (x ∷ ss) (suc p) s h e = ahead ss p s (omega (arith, h)) e

-- the statements from a place on are the one there and those behind it
stas_at : (d : Declares) (f : From) (ss : List TStmt) (p : ℕ) (s : TStmt) → p < length ss
    → s ≡ get_or ss p s
    → stas d f (all_do (drop p ss)) ≡ Part f Next (sta d (does s))
    (stas d (start_at (suc p) Entry) (all_do (drop (suc p) ss)))
unfolding stas
stas_at d f ss p s h e = ap (λ l. stas d f (all_do l)) (ahead ss p s h e)

module _ (d : Declares) (h : HeadWays) (w : code_way.Way) (hs : List (Option code_way.Way))
    (ss : List TStmt) (first so : SoFar) (m n : Notes) where
  -- what the statement at the place needs
  pub along_needs : (p : ℕ) (s : TStmt) → p < length ss → s ≡ get_or ss p s
      → IsAlong d h w hs ss p first so m n
      → IsPassable n.locals (length n.heads.items) (sta d (does s))
  along_needs p s g e a =
      let f = start_at p Entry in
      (part_needs n.locals (length n.heads.items) (stas d f (all_do (drop p ss))) f Next
      (sta d (does s)) _ (stas_at d f ss p s g e) a.rules).1

  -- one more statement
  pub along_next : (p : ℕ) (s : TStmt) (f : From) (to : SoFar) (o : Notes) → p < length ss
      → s ≡ get_or ss p s → f ≡ start_at p Entry → IsAlong d h w hs ss p first so m n
      → to.head ≡ so.head
      → (let v = way numbers (Some (seen w)) (latest_first so.parts.items []) f in
      TookPart (absorbed Next) v (visited v (spot (sta d (does s))) (pass h (sta d (does s)))) so to
      n o)
      → IsAlong d h w hs ss (p + 1) first to m o
  along_next p s f to o g e is a eh k =
      let from = start_at p Entry in
      let all = stas d from (all_do (drop p ss)) in
      let more = stas d (start_at (suc p) Entry) (all_do (drop (suc p) ss)) in
      let same = stas_at d from ss p s g e in
      let t =
      subst (λ (z : From). let v = way numbers (Some (seen w)) (latest_first so.parts.items []) z in
      TookPart (absorbed Next) v (visited v (spot (sta d (does s))) (pass h (sta d (does s)))) so to
      n o) is k in
      let b = behind (absorbed Next) _ _ w hs so to n o t eh a.ready a.so_far in
      let q =
      part_needs n.locals (length n.heads.items) all from Next (sta d (does s)) more same a.rules in
      subst (λ i. IsAlong d h w hs ss i first to m o) (sym (add-one p)) (record {
        ready = b.ready;
        so_far = b.so_far;
        rules = b.rules more q.2;
        goes =
            λ r x y. a.goes r x
            (part_walks h (seen w) Next from (sta d (does s)) all more so to r n o x same eh t y);
      })

-- from where a statement is entered is in range
pub start_range : (locals p : ℕ) (f : From) → f ≡ start_at p Entry → IsFromInRange locals f
unfolding IsFromInRange
start_range locals p f e = subst (IsFromInRange locals) (sym e) (range p) where
  range : (n : ℕ) → IsFromInRange locals (start_at n Entry)
  range zero = tt
  range (suc n) = tt

-- behind the last statement the way goes on
pub stas_end : (d : Declares) (ss : List TStmt) (p : ℕ) (f : From) → p ≡ length ss
    → f ≡ start_at (length ss) Entry
    → goes_on f Done ≡ stas d (start_at p Entry) (all_do (drop p ss))
stas_end d ss p f e is =
    stas_none d f ss (goes_on f Done) refl
    ∙ ap (λ z. stas d z (all_do (drop (length ss) ss))) is
    ∙ ap (λ i. stas d (start_at i Entry) (all_do (drop i ss))) (sym e)
