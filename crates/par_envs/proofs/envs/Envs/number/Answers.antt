use Rattle.std.proofs.Common.{◌≡◌, ◌≤◌, Some, length, sym, refl, ap, ◌∙◌, arith}
use Rattle.std.specs.Prelude.{slice_get}
use Rattle.std.proofs.lemmas.Grind.{common_steps}
use Rattle.std.proofs.lemmas.Option.{gets, slice_get_read}
use Rattle.par_envs.specs.Same.{policy}
use Rattle.par_envs.specs.Numbered.{envs}
use Rattle.par_envs.proofs.Found.{none_kept, adds_kept, extends_kept, names_kept, found_kept}
use Rattle.par_envs.proofs.Found.{found_first, get_env}
use Rattle.par_envs.proofs.envs.Envs.number.Goals as goal

pub returns-in_ok-number-in-None-clause-found : goal.returns-in_ok-number-in-None-clause-found
returns-in_ok-number-in-None-clause-found c =
    let xs = c.args.self.now.entries.items in
    let past : length xs ≤ c.find-near.result =
    grind (arith, common_steps, gets, c.in-None.ensures.lookup, c.deref.ensures.value) in
    let empty =
    none_kept xs c.args.env.now (let e = c.find-near.ensures in omega (arith, past, e)) in
    found_first xs c.keep.new.self.entries.items _ empty c.in_ok-number-in-None.ensures.entries refl

pub returns-in_ok-number-in-None-clause-names : goal.returns-in_ok-number-in-None-clause-names
returns-in_ok-number-in-None-clause-names c =
    names_kept c.args.self.now.entries.items c.keep.new.self.entries.items _
    c.in_ok-number-in-None.number c.in_ok-number-in-None.ensures.entries
    c.in_ok-number-in-None.ensures.number

pub returns-in_ok-number-in-None-clause-kept : goal.returns-in_ok-number-in-None-clause-kept
returns-in_ok-number-in-None-clause-kept c =
    extends_kept c.args.self.now.entries.items c.keep.new.self.entries.items _
    c.in_ok-number-in-None.number c.in_ok-number-in-None.ensures.entries
    c.in_ok-number-in-None.ensures.number

pub returns-in_ok-number-in-None-difference-clause-names
    : goal.returns-in_ok-number-in-None-difference-clause-names
returns-in_ok-number-in-None-difference-clause-names c =
    let xs = c.args.self.now.entries.items in let y = c.in-Some.entry.now in
    let h = c.in-Some.ensures.lookup in
    let at : slice_get xs c.find-near.result ≡ Some y =
    ap (λ l. slice_get l c.find-near.result) (sym c.deref.ensures.value)
    ∙ slice_get_read c.deref.result.now
    (length c.deref.result.now) c.find-near.result y refl h.3.0 h.1 in (
      y.env,
      ap (slice_get (envs xs)) c.in_ok-number-in-None-difference.ensures
          ∙ get_env xs c.find-near.result y at,
      λ i. c.in-None-difference.ensures i,
    )

pub returns-in_ok-number-in-Some-difference-clause-found
    : goal.returns-in_ok-number-in-Some-difference-clause-found
returns-in_ok-number-in-Some-difference-clause-found c =
    let xs = c.args.self.now.entries.items in let y = c.in-Some.entry.now in
    let i = c.in-Some-difference.local in
    let h = c.in-Some.ensures.lookup in
    let at : slice_get xs c.find-near.result ≡ Some y =
    ap (λ l. slice_get l c.find-near.result) (sym c.deref.ensures.value)
    ∙ slice_get_read c.deref.result.now
    (length c.deref.result.now) c.find-near.result y refl h.3.0 h.1 in
    let has : policy y.env i ≡ c.policy_of-policy.result =
    sym (c.policy_of-policy.ensures ∙ ap (λ e. policy e i) c.as_slice.ensures) in
    found_kept xs c.keep-in-Some-difference.new.self.entries.items _
    c.in_ok-number-in-Some-difference.number c.in_ok-number-in-Some-difference.ensures.entries
    c.in_ok-number-in-Some-difference.ensures.number
    c.find-near.result (sym c.find-near.ensures) refl c.requires y at has
    (λ e. c.in-Some-difference.ensures (has ∙ sym e))

pub returns-in_ok-number-in-Some-difference-clause-names
    : goal.returns-in_ok-number-in-Some-difference-clause-names
returns-in_ok-number-in-Some-difference-clause-names c =
    names_kept c.args.self.now.entries.items c.keep-in-Some-difference.new.self.entries.items _
    c.in_ok-number-in-Some-difference.number
    c.in_ok-number-in-Some-difference.ensures.entries
    c.in_ok-number-in-Some-difference.ensures.number

pub returns-in_ok-number-in-Some-difference-clause-kept
    : goal.returns-in_ok-number-in-Some-difference-clause-kept
returns-in_ok-number-in-Some-difference-clause-kept c =
    extends_kept c.args.self.now.entries.items c.keep-in-Some-difference.new.self.entries.items _
    c.in_ok-number-in-Some-difference.number
    c.in_ok-number-in-Some-difference.ensures.entries
    c.in_ok-number-in-Some-difference.ensures.number

pub returns-in_ok-number-in-None-clause-adds : goal.returns-in_ok-number-in-None-clause-adds
returns-in_ok-number-in-None-clause-adds c =
    adds_kept c.args.self.now.entries.items c.keep.new.self.entries.items _
    c.in_ok-number-in-None.number c.in_ok-number-in-None.ensures.entries
    c.in_ok-number-in-None.ensures.number

pub returns-in_ok-number-in-Some-difference-clause-adds
    : goal.returns-in_ok-number-in-Some-difference-clause-adds
returns-in_ok-number-in-Some-difference-clause-adds c =
    adds_kept c.args.self.now.entries.items c.keep-in-Some-difference.new.self.entries.items _
    c.in_ok-number-in-Some-difference.number
    c.in_ok-number-in-Some-difference.ensures.entries
    c.in_ok-number-in-Some-difference.ensures.number
