use Rattle.std.proofs.Common.{sym, ◌∙◌}
use Rattle.std.proofs.lemmas.Bool.{OnTrue_at}
use Rattle.par_given_frames.specs.Sizes.{framed}
use Rattle.par_given_frames.proofs.Meeting.{met-alike, alike-met}
use Rattle.par_given_frames.proofs.methods.are_right.Goals as goal

pub returns-then-place_all : goal.returns-then-place_all
returns-then-place_all c =
    let told = framed c.args.entries.now 0 c.args.listed c.args.forms.now in
    let alike = OnTrue_at c.if-place_all.true c.place_all.ensures.framed in (
      λ t. record {
        placed_ = sym c.place_all.ensures.placed ∙ c.if-place_all.true;
        needed = met-alike _ told c.args.code.now alike (c.are_met.ensures.0 t);
      },
      λ right. c.are_met.ensures.1 (alike-met _ told c.args.code.now alike right.needed),
    )

pub returns-else-place_all : goal.returns-else-place_all
returns-else-place_all c = (
  λ t. absurd (cc (sym c.if-place_all.false ∙ t)),
  λ right. c.place_all.ensures.placed ∙ right.placed_,
)
