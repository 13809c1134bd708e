use Rattle.std.proofs.Common.{List, map, subst}
use Rattle.par_bits.specs.Sets.{has}
use Rattle.par_typed.specs.declared.table.ClassInfo.{ClassInfo}
use Rattle.par_typed.specs.Shown.{bodies}
use Rattle.par_program_laws.specs.Inferred.{inferred}
use Rattle.par_reached.specs.Reached.{set_at}
use Rattle.par_infer.specs.Bounds.{births_above, bodies_above}
use Rattle.par_infer.specs.Collected.{Gains}
use Rattle.par_infer.specs.Births.{every}
use Rattle.par_infer.proofs.Carried.{collected}
use Rattle.par_infer.proofs.least.least_sets.Goals as goal

pub returns-clause-least : goal.returns-clause-least
returns-clause-least g c =
    let t = c.args.table.now in
    collected (has c.args.numbers.now) (inferred t) (births_above t.classes)
    (bodies_above t (bodies c.args.bodies.now) (map g.F.KnownFacts.facts c.args.facts.now))
    (set_at c.reach.new.sets) c.args.sets.now c.note_births.new.sets c.note_bodies.new.sets
    c.requires.inferred c.requires.empty
    (subst (λ (cs : List ClassInfo). Gains every c.args.sets.now c.note_births.new.sets
    (births_above cs)) c.as_slice.ensures c.note_births.ensures)
    c.in_ok-note_bodies.ensures c.reach.ensures.least
