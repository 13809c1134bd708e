use Rattle.std.proofs.Common.{◌≡◌, Bool, List, false, slice_index_or, sym, ap, ◌∙◌}
use Rattle.par_method_area.specs.Area.{Area}
use Rattle.par_method_area.specs.Classes.{exception_flags}
use Rattle.par_method_area.proofs.Flags.{told, is_here}
use Rattle.par_method_area.proofs.area.MethodArea.exceptions.Goals as goal

pub returns : goal.returns
returns c = λ spot same class.
    let flags : c.as_slice.result.now ≡ exception_flags c.args.self.now.files =
    c.as_slice.ensures ∙ c.self.invariant.exceptions
    ∙ ap (λ (a : Area). exception_flags a.files) c.self.view_is in
    ap (is_here class) same ∙ told c.args.self.now.files class
    ∙ ap (λ (xs : List Bool). slice_index_or xs class false) (sym flags)
