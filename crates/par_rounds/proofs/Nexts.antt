-- The first number behind rules.
use Rattle.std.proofs.Common.{◌≡◌, ℕ, suc, ◌+◌, ◌-◌, Some, None, List, [], ◌∷◌, length, refl, sym}
use Rattle.std.proofs.Common.{ap, ◌∙◌, subst, arith, add-one}
use Rattle.std.specs.Prelude.{slice_get}
use Rattle.par_typed.specs.declared.stmt.TStmt.{TStmt}
use Rattle.par_typed.specs.declared.stmt.TStmtKind.{TStmtKind}
use Rattle.par_typed.specs.declared.stmt.TStmtKind.TheVariants as stmt
use Rattle.par_typed.specs.Shown.{does, does_at, all_do}
use Rattle.par_program_laws.specs.Declares.{Declares}
use Rattle.par_program_laws.specs.Kinds.{Kind, Absorber}
use Rattle.par_program_laws.specs.Rules.{From, Worth, Node, node, Rules, Done, Part, Test, Heads}
use Rattle.par_program_laws.specs.Rules.{Entry, Leaves}
use Rattle.par_program_laws.specs.Rules.{Worths}
use Rattle.par_program_laws.specs.Body.{past, sta, stas}
use Rattle.par_program_laws.specs.Numbered.{next, next_by}
use Rattle.par_nodes.proofs.Statements.{block_made}

module _ (rules : Rules) (n : ℕ) where
  pub done_next : rules ≡ Done → n ≡ next_by n rules
  unfolding next_by
  done_next e = sym (ap (next_by n) e)

  pub ends_next : (from : From) (k : Kind) → rules ≡ Leaves from k Done → n ≡ next_by n rules
  unfolding next_by
  ends_next from k e = sym (ap (next_by n) e)

  pub gives_next : (from : From) (k : Kind) (v : Worth) → rules ≡ Leaves from k (Worths v Done)
      → n ≡ next_by n rules
  unfolding next_by
  gives_next from k v e = sym (ap (next_by n) e)

  pub joins_next : (from : From) (k : Kind) (v u : Worth)
      → rules ≡ Leaves from k (Worths v (Worths u Done)) → n ≡ next_by n rules
  unfolding next_by
  joins_next from k v u e = sym (ap (next_by n) e)

  pub part_next : (from : From) (a : Absorber) (part : Node) (more : Rules) (r : ℕ)
      → rules ≡ Part from a part more → r ≡ next_by (next part) more → r ≡ next_by n rules
  unfolding next_by
  part_next from a part more r e f = f ∙ sym (ap (next_by n) e)

  pub test_next : (part : Node) (more : Rules) (r : ℕ) → rules ≡ Test part more
      → r ≡ next_by (next part) more → r ≡ next_by n rules
  unfolding next_by
  test_next part more r e f = f ∙ sym (ap (next_by n) e)

  pub heads_next : (from : From) (more : Rules) (r : ℕ) → rules ≡ Heads from more
      → r ≡ next_by n more → r ≡ next_by n rules
  unfolding next_by
  heads_next from more r e f = f ∙ sym (ap (next_by n) e)

  pub leaves_next : (from : From) (k : Kind) (more : Rules) (r : ℕ) → rules ≡ Leaves from k more
      → r ≡ next_by n more → r ≡ next_by n rules
  unfolding next_by
  leaves_next from k more r e f = f ∙ sym (ap (next_by n) e)

  pub worths_next : (v : Worth) (more : Rules) (r : ℕ) → rules ≡ Worths v more → r ≡ next_by n more
      → r ≡ next_by n rules
  unfolding next_by
  worths_next v more r e f = f ∙ sym (ap (next_by n) e)

pub node_next : (p r : ℕ) (rules : Rules) → r ≡ next_by (p + 1) rules → r ≡ next (node p rules)
unfolding next
node_next p r rules e = e ∙ ap (λ k. next_by k rules) (add-one p)

-- behind the last of some statements
last_next : (d : Declares) (f : From) (ss : List TStmt) (s : TStmt) (n : ℕ)
    → slice_get ss (length ss - 1) ≡ Some s
    → next (sta d (does s)) ≡ next_by n (stas d f (all_do ss))
unfolding stas next_by
last_next d f [] s n e = absurd (let g : None ≡ Some s = e in cc)
last_next d f (x ∷ []) s n e =
    let g : Some x ≡ Some s = e in let i : s ≡ x = cc in ap (λ z. next (sta d (does z))) i
last_next d f (x ∷ y ∷ ss) s n e =
    let i : length (x ∷ y ∷ ss) - 1 ≡ suc (length (y ∷ ss) - 1) = omega arith in
    last_next d past (y ∷ ss) s (next (sta d (does x)))
    (subst (λ k. slice_get (x ∷ y ∷ ss) k ≡ Some s) i e)

pub block_next : (d : Declares) (k : TStmtKind) (a p : ℕ) (ss xs : List TStmt) (s : TStmt) (r : ℕ)
    → k ≡ stmt.Block ss → xs ≡ ss → slice_get xs (length xs - 1) ≡ Some s
    → r ≡ next (sta d (does s)) → r ≡ next (sta d (does_at k a p))
unfolding next
block_next d k a p ss xs s r is x e u =
    u ∙ last_next d Entry xs s (suc p) e
    ∙ ap next (block_made d k a p ss xs (stas d Entry (all_do xs)) is x refl)
