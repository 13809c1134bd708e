use Rattle.std.proofs.Common.{◌≡◌, ◌+◌, [], ◌∷◌, map, drop, take, List, sym, ap, ◌∙◌, arith}
use Rattle.par_index.specs.Texts.{texts}
use Rattle.par_tree.specs.declared.decl.Decl.{Decl}
use Rattle.par_tree.specs.Shown.{source, declared, all_declared}
use Rattle.par_refusals.specs.First.{first_of}
use Rattle.par_refusals.proofs.First.{first_of_none}
use Rattle.par_names.specs.Declarations.{policies}
use Rattle.par_names.specs.Program.{declarations_faults}
use Rattle.par_names.specs.Seen.{seen}
use Rattle.par_names.specs.declared.view.View.{View}
use Rattle.par_faults.proofs.Lists.{left_more, left_none}
use Rattle.par_faults.proofs.Listed.{seen_is, left_step, found_step, faults_end}
use Rattle.par_faults.proofs.names.check_declarations.Goals as goal

-- the declarations are `d` and, behind it, `rest`; of `all` policies `k` stand before `d`
pub loop-decl-preserved : goal.loop-decl-preserved
loop-decl-preserved c =
    let decls = c.args.program.now.decls in
    let i = c.loop-decl.decl-index in
    let item = c.decl-item.result in
    let same : c.as_slice-decl-items.result.now ≡ decls = c.as_slice-decl-items.ensures in
    let more : drop i decls ≡ item ∷ drop (i + 1) decls =
    ap (drop i) (sym same) ∙ left_more c.as_slice-decl-items.result.now i item c.loop-decl-test.true
    c.decl-item.is
    ∙ ap (λ (xs : List Decl). item ∷ drop (i + 1) xs) same in
    let s = source c.args.program.now in
    let all = texts c.args.all.now.policies.names.items in
    let k = c.loop-decl.before in
    let d = declared item in
    let rest = all_declared (drop (i + 1) decls) in
    let view : View = record { declared = c.args.all; policies = k } in
    let are : drop k all ≡ map (λ p. p.id.name) (policies (d ∷ rest)) =
    c.loop-decl.invariant.left ∙ ap
    (λ (ds : List Decl). map (λ p. p.id.name) (policies (all_declared ds))) more in
    let number = c.number_of_policies-before.ensures.number in
    record {
      few = omega (arith, c.number_of_policies-before.ensures.few);
      left = left_step s all k c.number_of_policies-before.result d rest are number;
      found =
          found_step s all k c.number_of_policies-before.result d rest c.loop-decl.findings
          c.check_declaration.new.findings (seen view) are number
          (seen_is view s c.requires) c.in_ok-check_declaration.ensures
          ∙ ap (λ (ds : List Decl). first_of c.loop-decl.findings
          (declarations_faults s (take k all) (all_declared ds))) (sym more)
          ∙ c.loop-decl.invariant.found;
    }

pub returns : goal.returns
returns c =
    let decls = c.args.program.now.decls in
    let i = c.loop-decl.decl-index in
    let same : c.as_slice-decl-items.result.now ≡ decls = c.as_slice-decl-items.ensures in
    let none : drop i decls ≡ [] = ap (drop i) (sym same)
    ∙ left_none c.as_slice-decl-items.result.now i c.loop-decl-test.false in
    let s = source c.args.program.now in
    let before = take c.loop-decl.before (texts c.args.all.now.policies.names.items) in
    sym (first_of_none c.loop-decl.findings)
    ∙ ap (first_of c.loop-decl.findings) (sym (faults_end s before))
    ∙ ap (λ (ds : List Decl). first_of c.loop-decl.findings
    (declarations_faults s before (all_declared ds))) (sym none)
    ∙ c.loop-decl.invariant.found
