use Rattle.std.proofs.Common.{arith, map, ap, sym, ◌≡◌, ℕ, ◌+◌, ◌-◌, List, [], ◌++◌}
use Rattle.std.proofs.Common.{length, drop, take, ◌∙◌}
use Rattle.std.proofs.lemmas.Grind.{common_steps}
use Rattle.par_tree.specs.declared.decl.ChannelDecl.{ChannelDecl}
use Rattle.par_tree.specs.declared.decl.FieldDecl.{FieldDecl}
use Rattle.par_faults.specs.Limits.{earlier, in_order}
use Rattle.par_faults.proofs.Lists.{left_more, left_none}
use Rattle.par_faults.proofs.Placed.{order_step, order_end}
use Rattle.par_faults.proofs.places.member_places.Goals as goal

pub loop-field-preserved : goal.loop-field-preserved
loop-field-preserved c =
    let fields = c.as_slice-field-items.result.now in
    let channels = c.as_slice-channels.result.now in
    let next = c.loop-field.next in
    let at = c.field-item.result.id.at in
    let n = c.earlier-earlier.result in
    let all : take (length channels - next) (drop next channels) ≡ drop next channels =
    grind (arith, common_steps) in
    let is : n ≡ earlier (map (λ x. x.id.at) (drop next channels)) at =
    c.earlier-earlier.ensures.places ∙ ap (λ l. earlier (map (λ x. x.id.at) l) at) all in
    let more =
    left_more fields c.loop-field.field-index c.field-item.result c.loop-field-test.true
    c.field-item.is in
    let step =
    order_step (λ x. x.id.at) c.loop-field.places.items at
    (map (λ f. f.id.at) (drop (c.loop-field.field-index + 1) fields)) channels next n is in
    record { within = grind (arith, common_steps); found = grind (arith, common_steps) }

pub returns : goal.returns
returns c =
    let fields = c.as_slice-field-items.result.now in
    let channels = c.as_slice-channels.result.now in
    let i = c.loop-field.field-index in
    let next = c.loop-field.next in
    let done = c.loop-field.places.items in
    let all : take (length channels - next) (drop next channels) ≡ drop next channels =
    grind (arith, common_steps) in
    let gone = left_none fields i c.loop-field-test.false in
    let none : drop i c.args.class.now.fields ≡ [] = grind (arith, common_steps) in
    let rest = map (λ (x : ChannelDecl). x.id.at) (drop next channels) in
    let behind = λ (fs : List FieldDecl). in_order (map (λ f. f.id.at) fs) rest in
    let left : behind (drop i c.args.class.now.fields) ≡ rest = ap behind none ∙ order_end rest in
    c.in_ok-push_places-2.ensures
    ∙ ap (λ (xs : List ChannelDecl). done ++ map (λ x. x.id.at) xs) all
    ∙ sym (ap (λ (places : List ℕ). done ++ places) left)
    ∙ c.loop-field.invariant.found
