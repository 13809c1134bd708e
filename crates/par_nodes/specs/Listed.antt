-- Completions, of which the normal one is held apart.
use Rattle.std.specs.Prelude.{Bool, true, false, List, ◌∷◌}
use Rattle.par_nodes.specs.declared.rule.Kind.{Kind}
use Rattle.par_nodes.specs.declared.rule.Kind.TheVariants as kind

-- the normal completion, if it is there, in front of the others
abbrev pub listed : Bool → List Kind → List Kind
listed true others = kind.Normal ∷ others
listed false others = others
