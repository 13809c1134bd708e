use Rattle.std.proofs.Common.{◌≡◌, ℕ, suc, ◌+◌, ◌-◌, List, [], ◌∷◌, ◌++◌, length, map, replicate}
use Rattle.std.proofs.Common.{sym, ap, ◌∙◌, append_assoc, arith}
use Rattle.std.specs.Vec.{vec_len}
use Rattle.std.proofs.lemmas.List.{append-nil, length-map}
use Rattle.par_heap.specs.Blocks.{shown}
use Rattle.par_heap.specs.Heap.{Object, Objects}
use Rattle.par_heap.proofs.Heaps.{replicate_push, map_push, first_born}
use Rattle.par_heap.proofs.heap.Heap.append.Goals as goal

pub loop-init : goal.loop-init
loop-init c =
    let many : length c.args.self.now ≡ vec_len c.self.inside.classes =
    ap length (sym c.self.view_is) ∙ length-map c.self.inside.classes.items shown
    ∙ sym c.self.inside.classes.ok.0 in
    let same : vec_len c.reserve.new.self ≡ vec_len c.self.inside.classes =
    c.in_ok-reserve.ensures.len in
    let start : c.len-counter.result ≡ length c.args.self.now =
    omega (arith, c.len-counter.ensures, same, many) in
    let no_more : c.len-counter.result - length c.args.self.now ≡ 0 = omega (arith, start) in (
      sym c.len-counter.ensures,
      omega (arith, start, c.requires.behind),
      omega (arith, c.in_ok-reserve.ensures.ok, c.len.ensures, same, many, c.requires.behind),
      omega (arith, start),
      ap (map shown) c.in_ok-reserve.ensures.items ∙ c.self.view_is
          ∙ sym (ap (λ (n : ℕ). c.args.self.now ++ replicate n []) no_more
          ∙ append-nil c.args.self.now),
    )

pub unwrap-requires : goal.unwrap-requires
unwrap-requires c =
    c.push.ensures.succeeds (omega
    (arith, c.loop.invariant.0, c.loop.invariant.1, c.loop.invariant.2, c.loop-test.true))

pub loop-preserved : goal.loop-preserved
loop-preserved c =
    let heap = c.args.self.now in
    let grown = rw c.unwrap.ensures at c.push.ensures.items in
    let longer = rw c.unwrap.ensures at c.push.ensures.len in
    let more : c.loop.counter + 1 - length heap ≡ suc (c.loop.counter - length heap) =
    omega (arith, c.loop.invariant.3) in (
      omega (arith, longer, c.loop.invariant.0),
      omega (arith, c.loop-test.true),
      omega (arith, c.push.ensures.capacity, c.loop.invariant.2),
      omega (arith, c.loop.invariant.3),
      ap (map shown) grown ∙ map_push shown c.loop.self-inside.classes.items c.new.result
          ∙ ap (λ (objects : Objects). objects ++ shown c.new.result ∷ []) c.loop.invariant.4
          ∙ ap (λ (objects : List Object). (heap ++ replicate (c.loop.counter - length heap) [])
          ++ objects ∷ []) c.new.ensures
          ∙ append_assoc heap (replicate (c.loop.counter - length heap) []) ([] ∷ [])
          ∙ ap (λ (rest : Objects). heap ++ rest)
          (sym (replicate_push (c.loop.counter - length heap) []))
          ∙ ap (λ (n : ℕ). heap ++ replicate n []) (sym more),
    )

pub unwrap-requires-2 : goal.unwrap-requires-2
unwrap-requires-2 c =
    c.push-2.ensures.succeeds
    (omega (arith, c.loop.invariant.0, c.loop.invariant.1, c.loop.invariant.2))

pub returns-clause-born : goal.returns-clause-born
returns-clause-born c =
    let heap = c.args.self.now in
    let grown = rw c.unwrap-2.ensures at c.push-2.ensures.items in
    let all : c.loop.counter ≡ c.args.class =
    omega (arith, c.loop.invariant.1, c.loop-test.false) in
    ap (map shown) grown ∙ map_push shown c.loop.self-inside.classes.items c.in_ok-block.block
    ∙ ap (λ (objects : Objects). objects ++ shown c.in_ok-block.block ∷ []) c.loop.invariant.4
    ∙ ap (λ (n : ℕ). (heap ++ replicate (n - length heap) []) ++ shown c.in_ok-block.block ∷ []) all
    ∙ ap (λ (objects : List Object). (heap ++ replicate (c.args.class - length heap) []) ++ objects
    ∷ []) c.in_ok-block.ensures
    ∙ first_born heap c.args.class c.args.fields.now c.requires.behind
