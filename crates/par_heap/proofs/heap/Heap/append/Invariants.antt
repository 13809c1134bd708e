use Rattle.std.proofs.Common.{◌≡◌, ◌+◌, ◌-◌, ◌≤◌, [], ◌++◌, length, map, replicate}
use Rattle.std.specs.Vec.{vec_len, vec_capacity}
use Rattle.par_heap.specs.Blocks.{shown}
use Rattle.par_heap.proofs.heap.Heap.append.Given as goal

-- as many classes as were counted, the new ones without an object, and room for the last
abbrev pub invariant-loop : goal.invariant-loop
invariant-loop l =
    (vec_len l.self-inside.classes ≡ l.counter) × (l.counter ≤ l.class)
    × (l.class + 1 ≤ vec_capacity l.self-inside.classes)
    × (length l.fn.self ≤ l.counter)
    × (map shown l.self-inside.classes.items
    ≡ l.fn.self ++ replicate (l.counter - length l.fn.self) [])
