use Rattle.std.proofs.Common.{◌≡◌, ◌≤◌, ◌∙◌, ◌++◌, length, arith, ap, sym, subst}
use Rattle.par_lexer.specs.declared.cut.TheConstants.{LONGEST_SOURCE}
use Rattle.par_sample.proofs.Short.{source-short}
use Rattle.std.specs.List.{flat_map}
use Rattle.par_sample.specs.Source.{line, class_lines}
use Rattle.par_sample.proofs.Lines.{number_first, more_classes, all_classes}
use Rattle.par_sample.proofs.source.sample.Goals as goal

pub loop-class-init : goal.loop-class-init
loop-class-init c = record {
  numbers = c.behind-numbers.ensures ∙ sym (number_first c.args.n _ (omega arith));
  text = c.in_ok-text.ensures.ok;
}

pub loop-class-preserved : goal.loop-class-preserved
loop-class-preserved c =
    let numbers = c.loop-class.invariant.numbers in
    let added = flat_map line (class_lines c.args.n c.loop-class.class) in
    record {
      numbers = c.in_ok-add_class.ensures.numbers c.args.n numbers;
      text =
          c.in_ok-add_class.ensures.text c.args.n numbers
          ∙ ap (λ bytes. bytes ++ added) c.loop-class.invariant.text
          ∙ more_classes c.args.n c.loop-class.class;
    }

pub returns : goal.returns
returns c =
    let hundred : c.loop-class.class ≡ 100 =
    omega (arith, c.loop-class-test.false, c.loop-class.auto.class-end) in
    let made =
    ap (λ bytes. bytes.items) c.into_bytes.ensures.value
    ∙ c.loop-class.invariant.text
    ∙ all_classes c.args.n c.loop-class.class hundred in
    record {
      made = made;
      short = subst (λ text. length text ≤ LONGEST_SOURCE) (sym made) (source-short c.args.n);
    }
