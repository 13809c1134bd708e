use Rattle.std.proofs.Common.{◌≡◌, ℕ, List, Bool, true, false, get_or, refl, sym, ap, ◌∙◌, arith}
use Rattle.par_class.specs.declared.file.Catch.{Catch}
use Rattle.par_unwinding.specs.Standing.{class_takes}
use Rattle.par_unwinding.proofs.First.{passed, found, over, both, not-first, not-last}
use Rattle.par_unwinding.proofs.First.{marked-anew}
use Rattle.par_unwinding.proofs.catches.first.Goals as goal

none : Catch
none = record { start = 0; end = 0; handler = 0; class = 0 }

-- marks that are the same
kept : {marks now : List Bool} (named : ℕ) → now ≡ marks → get_or now named false ≡ true
    → get_or marks named false ≡ true
kept named same e = ap (λ (ms : List Bool). get_or ms named false) (sym same) ∙ e

pub loop-catch-init : goal.loop-catch-init
loop-catch-init c = record { passed = λ method. refl; refuses = c.requires }

pub returns-then-is_class_taken : goal.returns-then-is_class_taken
unfolding none
returns-then-is_class_taken c = λ method.
    sym (
    c.loop-catch.invariant.passed method
    ∙ found _ c.args.catches.now c.loop-catch.catch-index none c.loop-catch-test.true
    (both _ _ (sym (c.covers.ensures c.args.class method) ∙ c.if-covers.true)
    (sym c.is_class_taken.ensures ∙ c.if-is_class_taken.true)))

pub loop-catch-preserved : goal.loop-catch-preserved
unfolding none
loop-catch-preserved c =
    let i = c.loop-catch.catch-index in
    let before = c.loop-catch.invariant in
    elim c.if-covers.branch [
      | goal.then-covers+then-not-is_refused+else-is_class_taken w ↦
          let refuses = sym w.is_class_taken.ensures ∙ w.if-is_class_taken.false in
          record {
            passed = λ method.
                before.passed method
                ∙ passed _ c.args.catches.now i none c.loop-catch-test.true
                (not-last _ _ refuses);
            refuses = λ named e.
                marked-anew (class_takes c.args.linked.now c.args.thrown c.args.class) _ _ refuses
                before.refuses named
                (kept named (w.refused-is ∙ w.refuse.ensures) e);
          }
      | goal.else-covers w ↦
          elim w.else-covers.branch [
            | goal.else-covers-via-then-covers+else-not-is_refused v ↦
                record {
                  passed = λ method.
                      before.passed method
                      ∙ passed _ c.args.catches.now i none c.loop-catch-test.true
                      (not-last _ _
                      (before.refuses _
                      (sym v.is_refused.ensures ∙ v.if-not-is_refused.false)));
                  refuses = λ named e. before.refuses named (kept named w.refused-is e);
                }
            | goal.else-covers-via-else-covers v ↦
                record {
                  passed = λ method.
                      before.passed method
                      ∙ passed _ c.args.catches.now i none c.loop-catch-test.true
                      (not-first _ _ (sym (c.covers.ensures c.args.class method)
                      ∙ v.if-covers.false));
                  refuses = λ named e. before.refuses named (kept named w.refused-is e);
                }
          ]
    ]

pub returns : goal.returns
returns c = λ method.
    sym (
    c.loop-catch.invariant.passed method
    ∙ over _ c.args.catches.now c.loop-catch.catch-index (omega (arith, c.loop-catch-test.false)))
