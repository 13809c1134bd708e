use Rattle.std.proofs.Common.{◌≡◌, length, ap, ◌∙◌, arith}
use Rattle.std.specs.Borrow.{Bor}
use Rattle.std.proofs.lemmas.List.{length-map}
use Rattle.par_index.specs.Texts.{texts}
use Rattle.par_single.specs.Descriptors.{Text}
use Rattle.par_references.proofs.Counted.{texts-few}
use Rattle.par_references.proofs.Placing.{placed}
use Rattle.par_references.specs.Placed.{all_texts}
use Rattle.par_references.proofs.texts.TextIndex.of.Goals as goal

pub invariant_of-result : goal.invariant_of-result
invariant_of-result c =
    let files = c.args.classes.now.files.now in
    let listed = c.in_ok-texts.texts.items in
    let counted = length-map listed (λ (t : Bor Text). t.now) in
    let whole = ap length c.in_ok-texts.ensures in
    let many : c.len.result ≡ length (all_texts files) =
    omega (arith, c.len.ensures, c.in_ok-texts.texts.ok.0, counted, whole) in
    record {
      many = many;
      few = omega (arith, many, texts-few files c.requires.few c.requires.small);
      placed =
          placed c.as_slice.result.now (all_texts files) c.in_ok-firsts.firsts
          c.in_ok-firsts.ensures (ap texts c.as_slice.ensures.value ∙ c.in_ok-texts.ensures);
    }
