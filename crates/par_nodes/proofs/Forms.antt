-- What each form of the tree is seen as.
use Rattle.std.proofs.Common.{◌≡◌, refl}
use Rattle.std.specs.declared.boxed.Box.{Box}
use Rattle.std.specs.declared.alloc.Global.{Global}
use Rattle.par_program_laws.specs.Kinds as kinds
use Rattle.par_program_laws.specs.Rules as plain
use Rattle.par_nodes.specs.declared.rule.Kind.{Kind}
use Rattle.par_nodes.specs.declared.rule.Origin.{Origin}
use Rattle.par_nodes.specs.declared.rule.Worth.{Worth}
use Rattle.par_nodes.specs.declared.rule.Absorber.{Absorber}
use Rattle.par_nodes.specs.declared.rule.Node.{Node}
use Rattle.par_nodes.specs.declared.rule.Rules.{Rules}
use Rattle.par_nodes.specs.declared.rule.Rules.TheVariants as rule
use Rattle.par_nodes.specs.Seen.{seen_kind, seen_origin, seen_worth, seen_absorber, seen_rules}
use Rattle.par_nodes.specs.Seen.{seen_node}

pub seen_done : seen_rules rule.Done ≡ plain.Done
unfolding seen_rules
seen_done = refl

pub seen_ends : (o : Origin) (k : Kind)
    → seen_rules (rule.Ends o k) ≡ plain.Leaves (seen_origin o) (seen_kind k) plain.Done
unfolding seen_rules
seen_ends o k = refl

pub seen_gives : (o : Origin) (v : Worth)
    → seen_rules (rule.Gives o v)
    ≡ plain.Leaves (seen_origin o) kinds.Normal (plain.Worths (seen_worth v) plain.Done)
unfolding seen_rules
seen_gives o v = refl

pub seen_joins : (o : Origin) (v u : Worth)
    → seen_rules (rule.Joins o v u)
    ≡ plain.Leaves (seen_origin o) kinds.Normal
    (plain.Worths (seen_worth v) (plain.Worths (seen_worth u) plain.Done))
unfolding seen_rules
seen_joins o v u = refl

pub seen_part : (o : Origin) (a : Absorber) (n : Box Node Global) (more : Box Rules Global)
    → seen_rules (rule.Part o a n more)
    ≡ plain.Part (seen_origin o) (seen_absorber a) (seen_node n.value) (seen_rules more.value)
unfolding seen_rules
seen_part o a n more = refl

pub seen_test : (n : Box Node Global) (more : Box Rules Global)
    → seen_rules (rule.Test n more) ≡ plain.Test (seen_node n.value) (seen_rules more.value)
unfolding seen_rules
seen_test n more = refl

pub seen_heads : (o : Origin) (more : Box Rules Global)
    → seen_rules (rule.Heads o more) ≡ plain.Heads (seen_origin o) (seen_rules more.value)
unfolding seen_rules
seen_heads o more = refl

pub seen_leaves : (o : Origin) (k : Kind) (more : Box Rules Global)
    → seen_rules (rule.Leaves o k more)
    ≡ plain.Leaves (seen_origin o) (seen_kind k) (seen_rules more.value)
unfolding seen_rules
seen_leaves o k more = refl

pub seen_worths : (v : Worth) (more : Box Rules Global)
    → seen_rules (rule.Worths v more) ≡ plain.Worths (seen_worth v) (seen_rules more.value)
unfolding seen_rules
seen_worths v more = refl

pub ruleset forms = (
  seen_done,
  seen_ends,
  seen_gives,
  seen_joins,
  seen_part,
  seen_test,
  seen_heads,
  seen_leaves,
  seen_worths,
)
