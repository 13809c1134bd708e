use Rattle.std.proofs.Common.{◌-◌, ◌∙◌, sym, ap, length, reverse, take, drop}
use Rattle.std.proofs.lemmas.List.{take_rest}
use Rattle.par_source_state.proofs.Reversed.{reverse-take-reverse}
use Rattle.par_source_state.proofs.stack.Stack.last.Goals as goal

pub returns : goal.returns
returns g c =
    let held = c.self.inside.items.items in
    let as_held = c.as_slice-items.ensures.value in
    take_rest c.as_slice-items.result.now c.saturating_sub.result
    ∙ ap (λ xs. drop c.saturating_sub.result xs) as_held
    ∙ ap (λ n. drop n held) (c.saturating_sub.ensures ∙ ap (λ xs. length xs - c.args.count) as_held)
    ∙ sym (reverse-take-reverse c.args.count held)
    ∙ ap (λ o. reverse (take c.args.count o)) c.self.view_is
