use Rattle.std.proofs.Common.{refl, arith}
use Rattle.par_rounds.proofs.Noted.{took_row, facts_past}
use Rattle.par_rounds.proofs.notes.Notes.row.Goals as goal

pub returns-else-point-len : goal.returns-else-point-len
returns-else-point-len c =
    took_row c.args.self.now _ c.args.point _ refl refl refl
    (facts_past c.args.self.now.rows.items c.args.point _ (omega arith)) (λ w. w)
