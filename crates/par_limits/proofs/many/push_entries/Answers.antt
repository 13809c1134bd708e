use Rattle.std.proofs.Common.{ℕ, List, [], ◌∷◌, map, refl}
use Rattle.std.specs.Borrow.{Bor}
use Rattle.par_parts.specs.Gathered.{all_of}
use Rattle.par_resolved.specs.declared.entries.Entry.{Entry}
use Rattle.par_resolved.proofs.names.Gone.{one_fewer, none_left}
use Rattle.par_limits.proofs.many.push_entries.Goals as goal

abbrev places : List (Bor Entry) → List ℕ
places es = map (λ (e : Entry). e.at) (all_of es)

pub loop-entry-preserved : goal.loop-entry-preserved
loop-entry-preserved c =
    one_fewer places c.args.entries.now c.loop-entry.entry-index c.entry-item.result
    c.loop-entry.places.items c.push.new.self.items _ (c.entry-item.result.now.at ∷ [])
    c.loop-entry-test.true c.entry-item.is c.in_ok-push.ensures.items refl c.loop-entry.invariant

pub returns : goal.returns
returns c =
    none_left places c.args.entries.now c.loop-entry.entry-index c.loop-entry.places.items _
    c.loop-entry-test.false refl c.loop-entry.invariant
