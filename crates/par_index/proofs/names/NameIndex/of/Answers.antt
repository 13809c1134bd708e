use Rattle.std.proofs.Common.{ap, length, ◌∙◌, sym, arith}
use Rattle.std.specs.Borrow.{Bor}
use Rattle.std.specs.List.{position}
use Rattle.std.specs.Str.{bytes_eq}
use Rattle.std.specs.Prelude.{List, ℕ}
use Rattle.par_index.specs.Texts.{same_text}
use Rattle.par_index.proofs.Places.{position-map}
use Rattle.par_index.proofs.names.NameIndex.of.Goals as goal

pub invariant_of-result : goal.invariant_of-result
invariant_of-result c =
    record {
      placed = λ many. record {
        places = λ name.
            c.in_ok-firsts.ensures (omega (arith, many, ap length c.as_slice.ensures.value)) name
            ∙ ap (position (same_text name)) c.as_slice.ensures.value
            ∙ sym (position-map (bytes_eq name.now)
            (λ (n : Bor (List ℕ)). n.now) c.args.names.items);
      };
    }
