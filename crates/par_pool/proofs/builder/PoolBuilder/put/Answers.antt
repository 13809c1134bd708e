use Rattle.std.proofs.Common.{ℕ, ◌+◌, cond, List, [], ◌∷◌, length, Some, refl, ap, ◌∙◌}
use Rattle.std.proofs.Common.{length-append, arith}
use Rattle.std.specs.HashMap.{get}
use Rattle.par_pool.specs.declared.constant.Constant.{Constant}
use Rattle.par_pool.specs.Placed.{same_bytes}
use Rattle.par_pool.proofs.Made.{at_place, at_end, absent_at, made_push}
use Rattle.par_pool.proofs.Placed.{bytes_absent, bytes_found, place_small, entry_absent}
use Rattle.par_pool.proofs.Placed.{indexed_still, indexed_push}
use Rattle.par_pool.proofs.builder.PoolBuilder.put.Goals as goal

pub overflow_cast-result : goal.overflow_cast-result
overflow_cast-result c =
    let few =
    place_small c.self.inside.entries c.self.inside.places c.in_ok-bytes.bytes c.args.wanted
    c.self.invariant c.in_ok-bytes.ensures c.in-Some.place.now c.requires.fits
    c.in-Some.ensures.value in
    omega arith

pub overflow_add-result : goal.overflow_add-result
overflow_add-result c =
    let few =
    place_small c.self.inside.entries c.self.inside.places c.in_ok-bytes.bytes c.args.wanted
    c.self.invariant c.in_ok-bytes.ensures c.in-Some.place.now c.requires.fits
    c.in-Some.ensures.value in
    omega arith

pub returns-in-Some-clause-named : goal.returns-in-Some-clause-named
returns-in-Some-clause-named c =
    rw (← c.self.view_is) (at_place c.self.inside.entries c.in-Some.place.now c.args.wanted
    (bytes_found c.self.inside.entries c.self.inside.places c.in_ok-bytes.bytes c.args.wanted
    c.self.invariant c.in_ok-bytes.ensures c.in-Some.place.now c.requires.fits
    c.in-Some.ensures.value))

pub returns-in-Some-clause-again : goal.returns-in-Some-clause-again
returns-in-Some-clause-again c = λ i there. (
  c.self.invariant.made.distinct (c.in-Some.place.now + 1) i c.args.wanted
      (at_place c.self.inside.entries c.in-Some.place.now c.args.wanted
      (bytes_found c.self.inside.entries c.self.inside.places c.in_ok-bytes.bytes c.args.wanted
      c.self.invariant c.in_ok-bytes.ensures c.in-Some.place.now c.requires.fits
      c.in-Some.ensures.value))
      (rw c.self.view_is there),
  refl,
)

pub invariant_of-self-in_err-push : goal.invariant_of-self-in_err-push
invariant_of-self-in_err-push c =
    indexed_still c.self.inside.entries c.push.new.self c.self.inside.places c.reserve.new.self
    c.self.invariant c.in_err-push.ensures.refused c.in_ok-reserve.ensures.entries.2

pub invariant_of-self-2 : goal.invariant_of-self-2
invariant_of-self-2 c =
    let none =
    bytes_absent c.self.inside.entries c.self.inside.places c.in_ok-bytes.bytes c.args.wanted
    c.self.invariant c.in_ok-bytes.ensures c.in_default.ensures.value in
    let put = rw c.unwrap.ensures at c.insert-noted.ensures.updates in
    indexed_push c.self.inside.entries c.push.new.self c.self.inside.places c.insert-noted.new.self
    c.in_ok-bytes.bytes c.args.wanted c.self.invariant c.in_ok-bytes.ensures none
    c.in_ok-push.ensures.ok
    (λ q.
    put.0 q
    ∙ ap (λ (n : ℕ). cond (same_bytes c.in_ok-bytes.bytes q) (Some n)
    (get same_bytes c.reserve.new.self q)) c.len-place.ensures
    ∙ ap (cond (same_bytes c.in_ok-bytes.bytes q) (Some (length c.self.inside.entries)))
    (c.in_ok-reserve.ensures.entries.2 q))
    (made_push c.self.inside.entries c.push.new.self c.args.wanted c.in_ok-push.ensures.ok
    c.self.invariant.made
    (rw c.self.view_is c.requires.room) c.requires.fits (rw c.self.view_is c.requires.refer)
    (entry_absent c.self.inside.entries c.args.wanted none))

pub returns-clause-named : goal.returns-clause-named
returns-clause-named c =
    at_end c.self.inside.entries c.push.new.self c.args.wanted
    (c.len-place.result + 1) c.in_ok-push.ensures.ok
    (omega (
      arith,
      c.len-place.ensures,
      ap (λ (pool : List Constant). length pool) c.in_ok-push.ensures.ok,
      length-append c.self.inside.entries (c.args.wanted ∷ []),
    ))

pub returns-clause-again : goal.returns-clause-again
returns-clause-again c = λ i there.
    let none =
    bytes_absent c.self.inside.entries c.self.inside.places c.in_ok-bytes.bytes c.args.wanted
    c.self.invariant c.in_ok-bytes.ensures c.in_default.ensures.value in
    absurd (absent_at c.self.inside.entries c.args.wanted i
    (entry_absent c.self.inside.entries c.args.wanted none) (rw c.self.view_is there))
