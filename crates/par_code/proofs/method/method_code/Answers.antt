use Rattle.std.proofs.Common.{◌≡◌, length, map, take, arith}
use Rattle.par_completes.specs.Typed.{completes}
use Rattle.par_code_form.specs.Code.{no_loop}
use Rattle.par_code_form.specs.Frames.{slot}
use Rattle.par_code_form.specs.Method.{set_by_call, first_scope}
use Rattle.par_code_form.specs.Named.{words_of}
use Rattle.par_erase.specs.Shown.{does, method_info, table_of, inputs_of}
use Rattle.par_code.specs.Drafts.{seen}
use Rattle.par_code.specs.Statements.{nothing, with_sta, with_end}
use Rattle.par_code.proofs.Methods.{begun, whole}
use Rattle.par_code.proofs.method.method_code.Goals as goal

pub returns : goal.returns
returns c =
    let w = words_of (table_of c.args.plain.now) in
    let m = method_info c.args.method.now in
    let b = does (inputs_of c.args.plain.now) c.args.method.now.body in
    let none = c.new-draft.ensures in
    let empty =
    begun c.new-draft.result none.items none.handlers none.frames none.next_label none.most in
    let body : seen c.put_stmt.new.draft
    ≡ with_sta w m.locals (first_scope m) no_loop b nothing = grind (arith) in
    let ends : seen c.end_if.new.self
    ≡ with_end (completes b) (with_sta w m.locals (first_scope m) no_loop b nothing) =
    grind (arith) in
    let begins : c.in_ok-start.start ≡ map (slot w) (take (set_by_call m) m.locals) =
    grind (arith) in
    let many : c.in-Ok.max_locals ≡ length m.locals = grind (arith) in
    whole w m b c.end_if.new.self ends c.in-Ok.max_locals c.in_ok-start.start many begins
