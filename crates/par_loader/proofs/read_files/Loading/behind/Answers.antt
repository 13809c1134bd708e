use Rattle.std.proofs.Common.{◌≡◌, [], ◌∷◌, ◌++◌, length, sym, ap, subst, ◌∙◌, arith, ◌≤◌, ◌+◌}
use Rattle.std.proofs.Common.{None, take}
use Rattle.std.proofs.lemmas.List.{length-append}
use Rattle.std.proofs.lemmas.List.Elements.{All-push}
use Rattle.std.specs.List.{All}
use Rattle.par_base.specs.Names.{IsName}
use Rattle.par_single.specs.Members.{own_name, own_names}
use Rattle.par_loader.specs.Mentions.{first_among, AreReadAt}
use Rattle.par_loader.proofs.Unread.{names_more, still_done}
use Rattle.par_loader.proofs.Read.{still_read}
use Rattle.par_loader.proofs.read_files.Loading.behind.Goals as goal

pub invariant_of-result : goal.invariant_of-result
invariant_of-result c =
    let file = c.args.file in
    let before = c.args.files in
    let files : c.push.new.self ≡ before ++ file ∷ [] = c.in_ok-push.ensures.ok in
    let many : length (before ++ file ∷ []) ≡ length before + 1 =
    length-append before (file ∷ []) in
    let longer : c.args.done ≤ length (before ++ file ∷ []) =
    omega (arith, many, c.requires.within) in
    record {
      names_are = c.requires.names ∙ sym (names_more before file) ∙ ap own_names (sym files);
      are_done =
          subst (λ fs. first_among fs (take c.args.done fs) ≡ None) (sym files)
          (still_done before file c.args.done (omega (arith, c.requires.within)) c.requires.done);
      are_read =
          subst (λ fs. AreReadAt fs c.args.done c.args.read) (sym files)
          (still_read before file c.args.done c.args.read c.requires.within c.requires.read);
      within = subst (λ fs. c.args.done ≤ length fs) (sym files) longer;
      named =
          subst (λ fs. All (λ f. IsName (own_name f)) fs) (sym files)
          (All-push (λ f. IsName (own_name f)) before file c.requires.each_named
          c.requires.named);
    }
