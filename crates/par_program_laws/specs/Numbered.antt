-- Points number the nodes of a body from 0, each node before its parts, and the parts in order.
use Rattle.std.specs.Prelude.{◌≡◌, ℕ, suc}
use Rattle.par_program_laws.specs.Rules.{Node, node, Rules, Done, Part, Test, Heads, Leaves, Worths}

unfoldable mutual
  -- the first number behind the node
  pub next : Node → ℕ
  next (node p rules) = next_by (suc p) rules

  pub next_by : ℕ → Rules → ℕ
  next_by n Done = n
  next_by n (Part from absorber part more) = next_by (next part) more
  next_by n (Test part more) = next_by (next part) more
  next_by n (Heads from more) = next_by n more
  next_by n (Leaves from kind more) = next_by n more
  next_by n (Worths worth more) = next_by n more

unfoldable mutual
  -- the node has this number
  pub IsNumbered : ℕ → Node → Type 0
  IsNumbered n (node p rules) = (p ≡ n) × AreNumbered (suc p) rules

  pub AreNumbered : ℕ → Rules → Type 0
  AreNumbered n Done = Unit {0}
  AreNumbered n (Part from absorber part more) = IsNumbered n part × AreNumbered (next part) more
  AreNumbered n (Test part more) = IsNumbered n part × AreNumbered (next part) more
  AreNumbered n (Heads from more) = AreNumbered n more
  AreNumbered n (Leaves from kind more) = AreNumbered n more
  AreNumbered n (Worths worth more) = AreNumbered n more
