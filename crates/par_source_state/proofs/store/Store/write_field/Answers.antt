use Rattle.std.proofs.Common.{ap, ◌∙◌, ℕ, Option, Some, ◌<◌, Bool, if◌then◌else◌, sym, subst}
use Rattle.std.specs.Prelude.{is_some}
use Rattle.std.specs.Map.{lookup}
use Rattle.std.proofs.Math.Path.{fun_ext}
use Rattle.par_values.specs.declared.value.MVal.{MVal}
use Rattle.par_source_state.specs.Held.{same_field, field_in, births_in, write_here}
use Rattle.par_source_state.specs.Stored.{holds}
use Rattle.par_source_state.proofs.Puts.{put_three, unborn_stays, below_is, either}
use Rattle.par_source_state.proofs.store.Store.write_field.Goals as goal

pub returns-in_ok-insert : goal.returns-in_ok-insert
returns-in_ok-insert c =
    let there = below_is c.args.number (births_in c.args.self.now.births c.args.class)
    (subst (λ b. c.args.number < b) c.births.ensures c.if-number-births.true) in
    ap (λ (fields : ℕ → ℕ → ℕ → Option MVal). record (holds c.args.self.now) { fields = fields })
    (fun_ext (λ a. fun_ext (λ n. fun_ext
    (λ f. c.in_ok-insert.ensures.updates.0 (a, n, f)
    ∙ put_three (field_in c.args.self.now.fields) c.args.class c.args.number c.args.field
    (Some c.args.value) a n f))))
    ∙ ap (λ (b : Bool). if b then write_here c.args.class c.args.number c.args.field c.args.value
    (holds c.args.self.now) else holds c.args.self.now) (sym there)

pub invariant_of-self : goal.invariant_of-self
invariant_of-self c = record {
  unborn = λ a n f few. either c.insert.result _ _ _ c.insert.ensures.updates c.insert.ensures.err
      (λ u. ap is_some (u.0 (a, n, f))
      ∙ unborn_stays (births_in c.args.self.now.births) (field_in c.args.self.now.fields)
      c.args.class c.args.number c.args.field c.args.value a n f
      (subst (λ b. c.args.number < b) c.births.ensures c.if-number-births.true) few
      (c.args.self.now.unborn a n f few))
      (λ e. ap (λ es. is_some (lookup (same_field (a, n, f)) es)) e
      ∙ c.args.self.now.unborn a n f few);
}
