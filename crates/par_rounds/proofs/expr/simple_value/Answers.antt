-- An expression without parts, from its rules.
use Rattle.std.proofs.Common.{◌≡◌, subst, refl, length}
use Rattle.par_bits.specs.Sets.{has}
use Rattle.par_typed.specs.Shown.{mark_of}
use Rattle.par_program_laws.specs.Declares.{declares}
use Rattle.par_program_laws.specs.Rules.{Given, Held, Node}
use Rattle.par_nodes.proofs.Expressions.{int_made, bool_made, nullary_made, new_made, local_made}
use Rattle.par_nodes.proofs.Expressions.{static_made, input_made}
use Rattle.par_pass_laws.specs.par_except.Seen.{seen}
use Rattle.par_pass_laws.specs.Pass.{pass}
use Rattle.par_rounds.specs.Passes.{left_as}
use Rattle.par_rounds.proofs.Walks.{alone_needs}
use Rattle.par_rounds.proofs.expr.simple_value.Goals as goal

pub alone-requires : goal.alone-requires
alone-requires c =
    let e = c.args.e.now in
    alone_needs (length c.args.way.now.env) c.requires.0 e.point (Given c.birth.result) _
    (new_made (declares c.args.table.now) e.kind (mark_of e) c.in-New.class c.birth.result _
    c.in-New.is c.birth.ensures refl) c.requires.1

pub alone-requires-in-Local : goal.alone-requires-in-Local
alone-requires-in-Local c =
    let e = c.args.e.now in
    alone_needs (length c.args.way.now.env) c.requires.0 e.point (Held c.in-Local.local) _
    (local_made (declares c.args.table.now) e.kind (mark_of e) c.in-Local.local _ c.in-Local.is
    refl) c.requires.1

pub alone-requires-in-Static : goal.alone-requires-in-Static
alone-requires-in-Static c =
    let e = c.args.e.now in
    alone_needs (length c.args.way.now.env) c.requires.0 e.point (Given c.field.result) _
    (static_made (declares c.args.table.now) e.kind (mark_of e) c.in-Static.class
    c.in-Static.field c.field.result _ c.in-Static.is c.field.ensures refl) c.requires.1

pub alone-requires-in-Input : goal.alone-requires-in-Input
alone-requires-in-Input c =
    let e = c.args.e.now in
    alone_needs (length c.args.way.now.env) c.requires.0 e.point (Given c.channel.result) _
    (input_made (declares c.args.table.now) e.kind (mark_of e) c.in-Input.class
    c.in-Input.channel c.channel.result _ c.in-Input.is c.channel.ensures refl) c.requires.1

pub returns-in-Int : goal.returns-in-Int
returns-in-Int c = λ h.
    let e = c.args.e.now in let w = seen c.args.way.now in
    subst (λ (n : Node). pass h n w ≡ left_as e.point (has c.nothing.result) w)
    (int_made (declares c.args.table.now) e.kind (mark_of e) _ _ c.in-Int.is refl)
    (c.nothing.ensures h e.point w)

pub returns-in-Bool : goal.returns-in-Bool
returns-in-Bool c = λ h.
    let e = c.args.e.now in let w = seen c.args.way.now in
    subst (λ (n : Node). pass h n w ≡ left_as e.point (has c.nothing-in-Bool.result) w)
    (bool_made (declares c.args.table.now) e.kind (mark_of e) _ _ c.in-Bool.is refl)
    (c.nothing-in-Bool.ensures h e.point w)

pub returns-in-Null : goal.returns-in-Null
returns-in-Null c = λ h.
    let e = c.args.e.now in let w = seen c.args.way.now in
    subst (λ (n : Node). pass h n w ≡ left_as e.point (has c.nothing-in-Null.result) w)
    (nullary_made (declares c.args.table.now) e.kind (mark_of e) _ c.in-Null.is refl)
    (c.nothing-in-Null.ensures h e.point w)

pub returns-in-New : goal.returns-in-New
returns-in-New c = λ h.
    let e = c.args.e.now in let w = seen c.args.way.now in
    subst (λ (n : Node). pass h n w ≡ left_as e.point (has c.alone.result) w)
    (new_made (declares c.args.table.now) e.kind (mark_of e) c.in-New.class c.birth.result _
    c.in-New.is c.birth.ensures refl)
    (c.alone.ensures h e.point)

pub returns-in-Local : goal.returns-in-Local
returns-in-Local c = λ h.
    let e = c.args.e.now in let w = seen c.args.way.now in
    subst (λ (n : Node). pass h n w ≡ left_as e.point (has c.alone-in-Local.result) w)
    (local_made (declares c.args.table.now) e.kind (mark_of e) c.in-Local.local _ c.in-Local.is
    refl)
    (c.alone-in-Local.ensures h e.point)

pub returns-in-Static : goal.returns-in-Static
returns-in-Static c = λ h.
    let e = c.args.e.now in let w = seen c.args.way.now in
    subst (λ (n : Node). pass h n w ≡ left_as e.point (has c.alone-in-Static.result) w)
    (static_made (declares c.args.table.now) e.kind (mark_of e) c.in-Static.class
    c.in-Static.field c.field.result _ c.in-Static.is c.field.ensures refl)
    (c.alone-in-Static.ensures h e.point)

pub returns-in-Input : goal.returns-in-Input
returns-in-Input c = λ h.
    let e = c.args.e.now in let w = seen c.args.way.now in
    subst (λ (n : Node). pass h n w ≡ left_as e.point (has c.alone-in-Input.result) w)
    (input_made (declares c.args.table.now) e.kind (mark_of e) c.in-Input.class
    c.in-Input.channel c.channel.result _ c.in-Input.is c.channel.ensures refl)
    (c.alone-in-Input.ensures h e.point)
