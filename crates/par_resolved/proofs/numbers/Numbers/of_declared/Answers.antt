use Rattle.std.proofs.Common.{◌≡◌, ◌∙◌, ap, sym, ℕ, List, map, length, arith}
use Rattle.std.proofs.lemmas.List.{length-map}
use Rattle.std.specs.Borrow.{Bor}
use Rattle.par_tree.specs.declared.decl.LockDecl.{LockDecl}
use Rattle.par_tree.specs.declared.ident.Ident.{Ident}
use Rattle.par_names.specs.par_index.Texts.{texts}
use Rattle.par_names.proofs.Lookups.{map-map}
use Rattle.par_resolved.specs.Numbers.{Numbers, firsts_from}
use Rattle.par_parts.specs.Gathered.{all_of}
use Rattle.par_resolved.proofs.numbers.Numbers.of_declared.Goals as goal

-- as many actors as there are references to them
counted : (ids : List (Bor Ident)) → length ids ≡ length (all_of ids)
counted ids = sym (length-map ids (λ (r : Bor Ident). r.now))

pub invariant_of-result : goal.invariant_of-result
invariant_of-result c =
    let ids = c.args.ids.now in
    record {
      few = record {
        counted =
            counted ids ∙ sym (length-map (all_of ids) (λ (a : Ident). a.name))
            ∙ ap length (sym c.in_ok-actors.ensures);
        few_actors = omega (arith, c.requires.few_actors);
        few_locks = c.in_ok-firsts.ensures.small;
      };
    }

pub returns : goal.returns
returns c =
    let ids = all_of c.args.ids.now in
    let decls = all_of c.args.decls.now in
    let made : List (List ℕ) → List (List ℕ) → List ℕ → Numbers =
    λ a l f. record { actors = a; locks = l; firsts = f } in
    let a : texts c.in_ok-actors.actors.names.items ≡ map (λ (i : Ident). i.name) ids =
    c.in_ok-actors.ensures in
    let l : texts c.in_ok-locks.locks.names.items ≡ map (λ (l : LockDecl). l.id.name) decls =
    c.in_ok-locks.ensures ∙ map-map (λ (i : Ident). i.name) (λ (l : LockDecl). l.id) decls in
    let f : c.in_ok-firsts.firsts.items ≡ firsts_from (length ids) 0 decls =
    c.in_ok-firsts.ensures.value ∙ ap (λ n. firsts_from n 0 decls) (counted c.args.ids.now) in
    ap (λ x. made x (texts c.in_ok-locks.locks.names.items) c.in_ok-firsts.firsts.items) a
    ∙ ap (λ x. made (map (λ (i : Ident). i.name) ids) x c.in_ok-firsts.firsts.items) l
    ∙ ap (λ x. made (map (λ (i : Ident). i.name) ids) (map (λ (l : LockDecl). l.id.name) decls) x) f
