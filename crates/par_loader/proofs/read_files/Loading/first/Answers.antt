use Rattle.std.proofs.Common.{◌≡◌, [], ◌∷◌, sym, ap, subst, ◌∙◌, arith, rules}
use Rattle.std.specs.List.{All}
use Rattle.par_base.specs.Names.{IsName}
use Rattle.par_single.specs.Members.{own_name, own_names}
use Rattle.par_loader.proofs.Unread.{among_nil, one_named}
use Rattle.par_loader.proofs.Read.{read_none}
use Rattle.par_loader.proofs.read_files.Loading.first.Goals as goal

pub invariant_of-result : goal.invariant_of-result
invariant_of-result c =
    let file = c.args.file in
    let files : c.push.new.self ≡ file ∷ [] = search rules in
    record {
      names_are = c.requires.names ∙ ap own_names (sym files);
      are_done = among_nil c.push.new.self;
      are_read = read_none c.push.new.self 0;
      within = omega arith;
      named =
          subst (λ fs. All (λ f. IsName (own_name f)) fs) (sym files)
          (one_named file c.requires.named);
    }
