use Rattle.std.proofs.Common.{◌≡◌, ◌++◌, List, ℕ, subst}
use Rattle.std.specs.Prelude.{OnOk}
use Rattle.par_class.proofs.Written.{parts_are}
use Rattle.par_class.proofs.whole.put_pieces.Goals as goal

pub returns : goal.returns
returns c =
    subst (λ (text : List ℕ). OnOk c.put_parts.result
    (c.put_parts.new.out.items ≡ c.args.out.now.items ++ text))
    (parts_are c.args.name c.args.method.now) c.put_parts.ensures
