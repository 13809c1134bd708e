-- What the tree of nodes and rules means.
use Rattle.std.specs.Prelude.{ℕ, Option, Some, None}
use Rattle.par_program_laws.specs.par_policy.Numbers.{has}
use Rattle.par_bits.specs.Sets.{none, adding}
use Rattle.par_program_laws.specs.Kinds as kinds
use Rattle.par_program_laws.specs.Rules as plain
use Rattle.par_nodes.specs.declared.rule.Kind as code_kind
use Rattle.par_nodes.specs.declared.rule.Kind.TheVariants as kind
use Rattle.par_nodes.specs.declared.rule.Start as code_start
use Rattle.par_nodes.specs.declared.rule.Start.TheVariants as start
use Rattle.par_nodes.specs.declared.rule.Locks as code_locks
use Rattle.par_nodes.specs.declared.rule.Locks.TheVariants as locks
use Rattle.par_nodes.specs.declared.rule.Origin.{Origin}
use Rattle.par_nodes.specs.declared.rule.Worth as code_worth
use Rattle.par_nodes.specs.declared.rule.Worth.TheVariants as worth
use Rattle.par_nodes.specs.declared.rule.Absorber as code_absorber
use Rattle.par_nodes.specs.declared.rule.Absorber.TheVariants as absorber
use Rattle.par_nodes.specs.declared.rule.Node.{Node}
use Rattle.par_nodes.specs.declared.rule.Rules as code
use Rattle.par_nodes.specs.declared.rule.Rules.TheVariants as rule

abbrev pub seen_kind : code_kind.Kind → kinds.Kind
seen_kind kind.Normal = kinds.Normal
seen_kind kind.Return = kinds.Return
seen_kind kind.Break = kinds.Break
seen_kind kind.Continue = kinds.Continue
seen_kind (kind.Throw class) = kinds.Throw class

abbrev pub seen_start : code_start.Start → plain.From
seen_start start.Entry = plain.Entry
seen_start (start.After part k) = plain.After part (seen_kind k)

abbrev pub assigned : Option (ℕ × ℕ) → plain.From → plain.From
assigned None from = from
assigned (Some x) from = plain.Assigned x.0 x.1 from

abbrev pub tested : Option ℕ → plain.From → plain.From
tested None from = from
tested (Some part) from = plain.Tested part from

abbrev pub raised : Option ℕ → plain.From → plain.From
raised None from = from
raised (Some policy) from = plain.Raised policy from

abbrev pub shut : code_locks.Locks → plain.From → plain.From
shut locks.Kept from = from
shut locks.Nothing from = plain.Shut none from
shut (locks.One lock) from = plain.Shut (adding none lock) from
shut (locks.All set) from = plain.Shut (has set.now) from

abbrev pub opened : code_locks.Locks → plain.From → plain.From
opened locks.Kept from = from
opened locks.Nothing from = plain.Opened none from
opened (locks.One lock) from = plain.Opened (adding none lock) from
opened (locks.All set) from = plain.Opened (has set.now) from

abbrev pub seen_origin : Origin → plain.From
seen_origin o =
    opened o.opened (shut o.shut (raised o.raised (tested o.tested
    (assigned o.assigned (seen_start o.start)))))

abbrev pub seen_worth : code_worth.Worth → plain.Worth
seen_worth (worth.Given policy) = plain.Given policy
seen_worth (worth.Held x) = plain.Held x
seen_worth (worth.Value part) = plain.Value part

abbrev pub seen_absorber : code_absorber.Absorber → kinds.Absorber
seen_absorber absorber.Next = kinds.Next
seen_absorber absorber.Loop = kinds.Loop
seen_absorber (absorber.Catches classes) = kinds.Catches classes

unfoldable pub seen_rules : code.Rules → plain.Rules
seen_rules rule.Done = plain.Done
seen_rules (rule.Ends o k) = plain.Leaves (seen_origin o) (seen_kind k) plain.Done
seen_rules (rule.Gives o v) = plain.goes_on (seen_origin o) (plain.Worths (seen_worth v) plain.Done)
seen_rules (rule.Joins o v u) =
    plain.goes_on (seen_origin o)
    (plain.Worths (seen_worth v) (plain.Worths (seen_worth u) plain.Done))
seen_rules (code.Part' o a p point rules q more) =
    plain.Part (seen_origin o) (seen_absorber a) (plain.node point (seen_rules rules))
    (seen_rules more)
seen_rules (code.Test' p point rules q more) =
    plain.Test (plain.node point (seen_rules rules)) (seen_rules more)
seen_rules (code.Heads' o p more) = plain.Heads (seen_origin o) (seen_rules more)
seen_rules (code.Leaves' o k p more) = plain.Leaves (seen_origin o) (seen_kind k) (seen_rules more)
seen_rules (code.Worths' v p more) = plain.Worths (seen_worth v) (seen_rules more)

-- a node as plain data
abbrev pub seen_node : Node → plain.Node
seen_node n = plain.node n.point (seen_rules n.rules)
