-- What is said of an answer whose line is not put whole.
use Rattle.std.proofs.Common.{◌≡◌, [], Option, refl, subst, arith}
use Rattle.std.specs.Prelude.{IsTrue}
use Rattle.par_io.specs.Causes.{SinkCounts, Rose, raised, AppendsFront}
use Rattle.par_io.specs.Saying.{cut, unsaid}
use Rattle.par_io.proofs.Appending.{appended-nothing}
use Rattle.par_tool.specs.declared.answer.Answer.{Answer}
use Rattle.par_tool.specs.Texts.{text, is_fault}
use Rattle.par_tool.specs.Outside.{Text}
use Rattle.par_tool.specs.Answers.{IsSaid}

-- the put failed
pub put_fails : (a : Answer) (bytes : Text) (old new : Option Text) (before after : SinkCounts)
    → bytes ≡ text a → Rose before.faults after.faults → after.puts ≡ raised before.puts
    → AppendsFront old new bytes → IsSaid a 6 old new before after
put_fails a bytes old new before after is rose counts front = record {
  said = cut refl (record {
    first = [];
    line = text a;
    rest = [];
    among = refl;
    rose = rose;
    puts = counts;
    front =
        subst (λ (h : Option Text). AppendsFront h new (text a)) (appended-nothing old)
        (subst (AppendsFront old new) is front);
  });
  firm = λ fault seven. absurd (omega arith);
}

-- memory is wanting for the line, which is none of a fault
pub lacks_line : (a : Answer) (old : Option Text) (counts : SinkCounts) → (IsTrue (is_fault a) → ⊥)
    → IsSaid a 7 old old counts counts
lacks_line a old counts other = record {
  said =
      unsaid refl (record {
        first = [];
        line = text a;
        rest = [];
        among = refl;
        puts = refl;
        held = appended-nothing old;
      });
  firm = λ fault seven. other fault;
}
