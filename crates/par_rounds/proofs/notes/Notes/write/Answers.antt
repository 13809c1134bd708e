use Rattle.std.proofs.Common.{refl, rules}
use Rattle.std.proofs.lemmas.List.Elements.{All-set}
use Rattle.par_ways.specs.Seen.{IsRowWide}
use Rattle.par_rounds.proofs.Noted.{took_row, facts_set, facts_past}
use Rattle.par_rounds.proofs.notes.Notes.write.Goals as goal

pub returns-then-place-len : goal.returns-then-place-len
returns-then-place-len c =
    took_row c.args.self.now _ c.args.point _ refl refl refl
    (facts_set c.args.self.now.rows.items c.args.point c.args.row)
    (All-set (IsRowWide c.args.self.now.locals) c.args.self.now.rows.items c.args.point c.args.row
    c.requires)

pub returns-else-place-len : goal.returns-else-place-len
returns-else-place-len c =
    took_row c.args.self.now _ c.args.point _ refl refl refl
    (facts_past c.args.self.now.rows.items c.args.point _ (search rules)) (λ w. w)
