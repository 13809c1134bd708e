use Rattle.std.proofs.Common.{◌+◌, Some, sym, subst, ap, refl, ◌∙◌, slice_get, codes}
use Rattle.par_step_laws.specs.par_link.entry.Named.TheVariants as named
use Rattle.par_step_laws.specs.par_link.entry.Builtin.{Builtin}
use Rattle.par_step_laws.specs.par_link.entry.Builtin.TheVariants as builtin
use Rattle.par_values.specs.declared.kind.Kind.TheVariants.{Object, AnyObject}
use Rattle.par_step_laws.specs.Classes.{class_names}
use Rattle.par_step_laws.specs.Links.{builtin_initializer}
use Rattle.par_actions.specs.declared.fit.Fit.{Fit}
use Rattle.par_actions.specs.Fits.{Takes}
use Rattle.par_method_area.specs.Area.{Area, area_of}
use Rattle.par_method_area.specs.Known.{KnowsMethod}
use Rattle.par_method_area.proofs.Taking.{takes, takes-own}
use Rattle.par_method_area.proofs.Calling.{initializer-found}
use Rattle.par_method_area.proofs.Numbered.{arithmetic-at, null-at}
use Rattle.par_step_laws.proofs.par_link.Faultless.{names-apart}
use Rattle.par_method_area.proofs.area.MethodArea.initializer.Goals as goal

pub returns-in-Object : goal.returns-in-Object
returns-in-Object c =
    let x = c.initializer.result in
    let e = c.initializer.ensures in
    let classes = class_names c.self.inside.linked in
    subst (λ (a : Area). KnowsMethod a (named.Initializer c.args.class)
    (builtin_initializer c.args.class) (Some x)) c.self.view_is
    (subst (λ (b : Builtin). KnowsMethod (area_of c.self.inside.linked c.self.inside.rows)
    (named.Initializer b) (builtin_initializer b) (Some x)) (sym c.in-Object.is)
    (initializer-found (area_of c.self.inside.linked c.self.inside.rows)
    (named.Initializer builtin.Object) AnyObject x
    (subst (λ (f : Fit). Takes classes AnyObject f) (sym e.receiver)
    (takes classes (names-apart c.self.inside.linked c.self.invariant.linked) AnyObject tt))
    e.is_static e.is_initializer e.only_exceptions e.takes e.gives e.target))

pub returns-in-Exception : goal.returns-in-Exception
returns-in-Exception c =
    let x = c.initializer-in-Exception.result in
    let e = c.initializer-in-Exception.ensures in
    let classes = class_names c.self.inside.linked in
    subst (λ (a : Area). KnowsMethod a (named.Initializer c.args.class)
    (builtin_initializer c.args.class) (Some x)) c.self.view_is
    (subst (λ (b : Builtin). KnowsMethod (area_of c.self.inside.linked c.self.inside.rows)
    (named.Initializer b) (builtin_initializer b) (Some x)) (sym c.in-Exception.is)
    (initializer-found (area_of c.self.inside.linked c.self.inside.rows)
    (named.Initializer builtin.Exception) AnyObject x
    (subst (λ (f : Fit). Takes classes AnyObject f) (sym e.receiver)
    (takes classes (names-apart c.self.inside.linked c.self.invariant.linked) AnyObject tt))
    e.is_static e.is_initializer e.only_exceptions e.takes e.gives e.target))

pub returns-in-ArithmeticException : goal.returns-in-ArithmeticException
returns-in-ArithmeticException c =
    let x = c.initializer-in-ArithmeticException.result in
    let e = c.initializer-in-ArithmeticException.ensures in
    let files = c.self.inside.linked in
    let classes = class_names files in
    let at = ap (slice_get classes) c.count-number.ensures.many ∙ arithmetic-at files in
    subst (λ (a : Area). KnowsMethod a (named.Initializer c.args.class)
    (builtin_initializer c.args.class) (Some x)) c.self.view_is
    (subst (λ (b : Builtin). KnowsMethod (area_of c.self.inside.linked c.self.inside.rows)
    (named.Initializer b) (builtin_initializer b) (Some x)) (sym c.in-ArithmeticException.is)
    (initializer-found (area_of c.self.inside.linked c.self.inside.rows)
    (named.Initializer builtin.ArithmeticException) (Object (codes "ArithmeticException")) x
    (subst (λ (f : Fit). Takes classes (Object (codes "ArithmeticException")) f) (sym e.receiver)
    (takes-own classes (names-apart files c.self.invariant.linked) c.count-number.result
    (codes "ArithmeticException") at refl))
    e.is_static e.is_initializer e.only_exceptions e.takes e.gives e.target))

pub returns-in-NullPointerException : goal.returns-in-NullPointerException
returns-in-NullPointerException c =
    let x = c.initializer-in-NullPointerException.result in
    let e = c.initializer-in-NullPointerException.ensures in
    let files = c.self.inside.linked in
    let classes = class_names files in
    let at = ap (λ n. slice_get classes (n + 1)) c.count-number-in-NullPointerException.ensures.many
    ∙ null-at files in
    subst (λ (a : Area). KnowsMethod a (named.Initializer c.args.class)
    (builtin_initializer c.args.class) (Some x)) c.self.view_is
    (subst (λ (b : Builtin). KnowsMethod (area_of c.self.inside.linked c.self.inside.rows)
    (named.Initializer b) (builtin_initializer b) (Some x)) (sym c.in-NullPointerException.is)
    (initializer-found (area_of c.self.inside.linked c.self.inside.rows)
    (named.Initializer builtin.NullPointerException) (Object (codes "NullPointerException")) x
    (subst (λ (f : Fit). Takes classes (Object (codes "NullPointerException")) f) (sym e.receiver)
    (takes-own classes (names-apart files c.self.invariant.linked)
    (c.count-number-in-NullPointerException.result + 1) (codes "NullPointerException") at refl))
    e.is_static e.is_initializer e.only_exceptions e.takes e.gives e.target))
