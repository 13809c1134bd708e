use Rattle.std.proofs.Common.{◌+◌, Some, length, sym, subst, ap, ◌∙◌, codes, arith}
use Rattle.par_step_laws.specs.par_link.entry.Builtin.{Builtin}
use Rattle.par_step_laws.specs.Classes.{class_names}
use Rattle.par_step_laws.specs.Links.{builtin_class}
use Rattle.par_method_area.specs.Area.{Area}
use Rattle.par_method_area.specs.Known.{KnowsClass}
use Rattle.par_method_area.proofs.Making.{unmade-found, exception-found}
use Rattle.par_method_area.proofs.Numbered.{arithmetic-at, null-at, many}
use Rattle.par_method_area.proofs.area.MethodArea.builtin_class.Goals as goal

pub returns-in-Object : goal.returns-in-Object
returns-in-Object c =
    let e = c.unmade.ensures in
    let files = c.args.self.now.files in
    subst (λ (b : Builtin). KnowsClass (class_names files) (builtin_class files b)
    (Some c.unmade.result)) (sym c.in-Object.is)
    (unmade-found (class_names files)
    (codes "java/lang/Object") c.unmade.result e.number e.first e.is_made e.is_exception)

pub returns-in-Exception : goal.returns-in-Exception
returns-in-Exception c =
    let e = c.unmade-in-Exception.ensures in
    let files = c.args.self.now.files in
    subst (λ (b : Builtin). KnowsClass (class_names files) (builtin_class files b)
    (Some c.unmade-in-Exception.result)) (sym c.in-Exception.is)
    (unmade-found (class_names files) (codes "java/lang/Exception") c.unmade-in-Exception.result
    e.number e.first e.is_made e.is_exception)

pub returns-in-Locks : goal.returns-in-Locks
returns-in-Locks c =
    let e = c.unmade-in-Locks.ensures in
    let files = c.args.self.now.files in
    subst (λ (b : Builtin). KnowsClass (class_names files) (builtin_class files b)
    (Some c.unmade-in-Locks.result)) (sym c.in-Locks.is)
    (unmade-found (class_names files)
    (codes "paragon/Locks") c.unmade-in-Locks.result e.number e.first e.is_made e.is_exception)

pub returns-in-ArithmeticException : goal.returns-in-ArithmeticException
returns-in-ArithmeticException c =
    let e = c.exception.ensures in
    let files = c.args.self.now.files in
    let same = e.number ∙ c.count.ensures.many ∙ ap (λ (a : Area). length a.files) c.self.view_is in
    let two = many files in
    subst (λ (b : Builtin). KnowsClass (class_names files) (builtin_class files b)
    (Some c.exception.result)) (sym c.in-ArithmeticException.is)
    (exception-found (class_names files) (codes "ArithmeticException")
    (length files) c.exception.result same e.first e.is_made e.is_exception
    (omega (arith, two)) (arithmetic-at files))

pub returns-in-NullPointerException : goal.returns-in-NullPointerException
returns-in-NullPointerException c =
    let e = c.exception-in-NullPointerException.ensures in
    let files = c.args.self.now.files in
    let same =
    e.number ∙ ap (λ n. n + 1) (c.count-in-NullPointerException.ensures.many
    ∙ ap (λ (a : Area). length a.files) c.self.view_is) in
    let two = many files in
    subst (λ (b : Builtin). KnowsClass (class_names files) (builtin_class files b)
    (Some c.exception-in-NullPointerException.result)) (sym c.in-NullPointerException.is)
    (exception-found (class_names files) (codes "NullPointerException") (length files + 1)
    c.exception-in-NullPointerException.result same e.first e.is_made e.is_exception
    (omega (arith, two)) (null-at files))
