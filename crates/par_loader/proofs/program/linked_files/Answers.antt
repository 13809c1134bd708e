use Rattle.std.proofs.Common.{◌≡◌, ℕ, false, List, Some, None, slice_get, sym, ap, subst, ◌∙◌}
use Rattle.par_base.specs.Names.{IsName}
use Rattle.par_link.specs.Order.{Broken, first_broken}
use Rattle.par_loader.specs.Judged.{name_of, begins}
use Rattle.par_loader.specs.Ends.{IsBadAs, main_of}
use Rattle.par_loader.proofs.Linking.{broken-within, name_is, name_named, broken_is}
use Rattle.par_loader.proofs.Linking.{begins_not, links_bad}
use Rattle.par_loader.proofs.program.linked_files.Goals as goal

pub bad_class-requires-in-Err-Broken : goal.bad_class-requires-in-Err-Broken
bad_class-requires-in-Err-Broken c =
    let files = c.args.files in
    let b : Broken =
    record {
      number = c.in-Err-Broken.number;
      class = c.in-Err-Broken.class;
      index = c.in-Err-Broken.index;
    } in
    let is : first_broken files ≡ Some b =
    rw c.in-Err-Broken.field-0-is at c.in-Err-Broken.ensures.broken in
    let name = c.name_at-in-Err-Broken.ensures
    ∙ name_is (λ k. k.items) c.args.names.now.keys files c.requires.names
    c.in-Err-Broken.class in
    subst IsName (sym name)
    (name_named files c.in-Err-Broken.class c.requires.named (broken-within files b is))

pub returns-in-Err-Broken-clause-links : goal.returns-in-Err-Broken-clause-links
returns-in-Err-Broken-clause-links c =
    let files = c.args.files in
    let b : Broken =
    record {
      number = c.in-Err-Broken.number;
      class = c.in-Err-Broken.class;
      index = c.in-Err-Broken.index;
    } in
    let is : first_broken files ≡ Some b =
    rw c.in-Err-Broken.field-0-is at c.in-Err-Broken.ensures.broken in
    let name = c.name_at-in-Err-Broken.ensures
    ∙ name_is (λ k. k.items) c.args.names.now.keys files c.requires.names
    c.in-Err-Broken.class in
    let told =
    subst (λ (n : List ℕ). IsBadAs n b.number b.index c.bad_class-in-Err-Broken.result) name
    c.bad_class-in-Err-Broken.ensures in
    links_bad _ (name_of (slice_get files b.class)) b.number b.index
    c.bad_class-in-Err-Broken.result (broken_is (main_of files) files b is) told

pub bad_class-requires : goal.bad_class-requires
bad_class-requires c =
    let files = c.args.files in
    let name = c.name_at.ensures
    ∙ name_is (λ k. k.items) c.args.names.now.keys files c.requires.names 0 in
    subst IsName (sym name) (name_named files 0 c.requires.named c.requires.some)

pub returns-else-begins-clause-links : goal.returns-else-begins-clause-links
returns-else-begins-clause-links c =
    let files = c.args.files in
    let name = c.name_at.ensures
    ∙ name_is (λ k. k.items) c.args.names.now.keys files c.requires.names 0 in
    let told = subst (λ (n : List ℕ). IsBadAs n 42 0 c.bad_class.result) name c.bad_class.ensures in
    let none : first_broken files ≡ None = c.in-Ok.ensures.unbroken in
    let begun : begins files ≡ false =
    sym (c.begins.ensures ∙ ap begins (c.files.ensures ∙ c.in-Ok.ensures.linked))
    ∙ c.if-begins.false in
    links_bad _ (main_of files) 42 0 c.bad_class.result
    (begins_not (main_of files) files none begun) told
