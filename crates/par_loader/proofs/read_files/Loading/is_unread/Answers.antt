use Rattle.std.proofs.Common.{not, ap, sym, ◌∙◌}
use Rattle.par_loader.proofs.Unread.{unread_is}
use Rattle.par_loader.proofs.read_files.Loading.is_unread.Goals as goal

pub returns-then-not-is_built_in : goal.returns-then-not-is_built_in
returns-then-not-is_built_in c =
    ap not c.contains.ensures
    ∙ unread_is (λ k. k.items) c.args.self.now.names.keys c.args.self.now.files
    c.args.self.now.names_are c.args.name.now
    (sym c.is_built_in.ensures ∙ c.if-not-is_built_in.true)
