-- What each form of the tree of rules is seen as.
use Rattle.std.proofs.Common.{◌≡◌, ap, sym, ◌∙◌}
use Rattle.std.specs.declared.boxed.Box.{Box}
use Rattle.std.specs.declared.alloc.Global.{Global}
use Rattle.par_program_laws.specs.Kinds.{Normal}
use Rattle.par_program_laws.specs.Rules as plain
use Rattle.par_nodes.specs.declared.rule.Kind.{Kind}
use Rattle.par_nodes.specs.declared.rule.Origin.{Origin}
use Rattle.par_nodes.specs.declared.rule.Worth.{Worth}
use Rattle.par_nodes.specs.declared.rule.Absorber.{Absorber}
use Rattle.par_nodes.specs.declared.rule.Node.{Node}
use Rattle.par_nodes.specs.declared.rule.Rules.{Rules}
use Rattle.par_nodes.specs.declared.rule.Rules.TheVariants as rule
use Rattle.par_nodes.specs.Seen.{seen_kind, seen_origin, seen_worth, seen_absorber, seen_rules}
use Rattle.par_nodes.specs.Seen.{seen_node}
use Rattle.par_nodes.proofs.Forms.{seen_done, seen_part, seen_test, seen_heads, seen_leaves}
use Rattle.par_nodes.proofs.Forms.{seen_worths, seen_ends, seen_gives, seen_joins}

pub is_done : (rs : Rules) → rs ≡ rule.Done → seen_rules rs ≡ plain.Done
is_done rs is = ap seen_rules is ∙ seen_done

pub is_ends : (rs : Rules) (o : Origin) (k : Kind) → rs ≡ rule.Ends o k
    → seen_rules rs ≡ plain.Leaves (seen_origin o) (seen_kind k) plain.Done
is_ends rs o k is = ap seen_rules is ∙ seen_ends o k

pub is_gives : (rs : Rules) (o : Origin) (v : Worth) → rs ≡ rule.Gives o v
    → seen_rules rs
    ≡ plain.Leaves (seen_origin o) Normal (plain.Worths (seen_worth v) plain.Done)
is_gives rs o v is = ap seen_rules is ∙ seen_gives o v

pub is_joins : (rs : Rules) (o : Origin) (v u : Worth) → rs ≡ rule.Joins o v u
    → seen_rules rs
    ≡ plain.Leaves (seen_origin o) Normal
    (plain.Worths (seen_worth v) (plain.Worths (seen_worth u) plain.Done))
is_joins rs o v u is = ap seen_rules is ∙ seen_joins o v u

pub is_part : (rs : Rules) (o : Origin) (a : Absorber) (b : Box Node Global) (q : Box Rules Global)
    (n : Node) (m : Rules) → rs ≡ rule.Part o a b q → n ≡ b.value → m ≡ q.value
    → seen_rules rs ≡ plain.Part (seen_origin o) (seen_absorber a) (seen_node n) (seen_rules m)
is_part rs o a b q n m is d v =
    ap seen_rules is ∙ seen_part o a b q
    ∙ ap (λ x. plain.Part (seen_origin o) (seen_absorber a) (seen_node x) (seen_rules q.value))
    (sym d)
    ∙ ap (λ x. plain.Part (seen_origin o) (seen_absorber a) (seen_node n) (seen_rules x)) (sym v)

pub is_test : (rs : Rules) (b : Box Node Global) (q : Box Rules Global) (n : Node) (m : Rules)
    → rs ≡ rule.Test b q → n ≡ b.value → m ≡ q.value
    → seen_rules rs ≡ plain.Test (seen_node n) (seen_rules m)
is_test rs b q n m is d v =
    ap seen_rules is ∙ seen_test b q
    ∙ ap (λ x. plain.Test (seen_node x) (seen_rules q.value)) (sym d)
    ∙ ap (λ x. plain.Test (seen_node n) (seen_rules x)) (sym v)

pub is_heads : (rs : Rules) (o : Origin) (q : Box Rules Global) (m : Rules) → rs ≡ rule.Heads o q
    → m ≡ q.value → seen_rules rs ≡ plain.Heads (seen_origin o) (seen_rules m)
is_heads rs o q m is v =
    ap seen_rules is ∙ seen_heads o q ∙ ap (λ x. plain.Heads (seen_origin o) (seen_rules x)) (sym v)

pub is_leaves : (rs : Rules) (o : Origin) (k : Kind) (q : Box Rules Global) (m : Rules)
    → rs ≡ rule.Leaves o k q → m ≡ q.value
    → seen_rules rs ≡ plain.Leaves (seen_origin o) (seen_kind k) (seen_rules m)
is_leaves rs o k q m is v =
    ap seen_rules is ∙ seen_leaves o k q
    ∙ ap (λ x. plain.Leaves (seen_origin o) (seen_kind k) (seen_rules x)) (sym v)

pub is_worths : (rs : Rules) (v : Worth) (q : Box Rules Global) (m : Rules) → rs ≡ rule.Worths v q
    → m ≡ q.value → seen_rules rs ≡ plain.Worths (seen_worth v) (seen_rules m)
is_worths rs w q m is v =
    ap seen_rules is ∙ seen_worths w q
    ∙ ap (λ x. plain.Worths (seen_worth w) (seen_rules x)) (sym v)
