-- What sets of numbers stand for, whichever policies have the numbers.
use Rattle.std.proofs.Common.{List, refl}
use Rattle.par_bits.specs.Sets.{union}
use Rattle.par_program_laws.specs.Lattice.{Seen}
use Rattle.par_pass_laws.proofs.Order.{union_l, union_r}
use Rattle.std.proofs.lemmas.Bool.{and_from}
use Rattle.par_pass_laws.proofs.Along.{StandsFor}
use Rattle.par_pass_laws.proofs.Instances.{in_both_l, in_both_r}
use Rattle.par_pass_laws.specs.Seens.{join_of, seen_as}
use Rattle.par_infer.proofs.Seens.{join_order, join_given}

unfoldable pub stand_for : (ps : List Seen) → StandsFor (seen_as ps)
stand_for ps = record {
  meant = join_of ps;
  refl = λ p actor locks h. h;
  trans = λ p q r f g actor locks h. f actor locks (g actor locks h);
  both =
      λ p q r s f g actor locks h.
      and_from (p actor locks) (q actor locks)
      (f actor locks (in_both_l (r actor locks) (s actor locks) h))
      (g actor locks (in_both_r (r actor locks) (s actor locks) h));
  order = λ s t f. join_order ps s t f;
  join =
      λ s t actor locks h. and_from (join_of ps s actor locks) (join_of ps t actor locks)
      (join_order ps s (union s t) (union_l s t) actor locks h)
      (join_order ps t (union s t) (union_r s t) actor locks h);
  least = λ p actor locks h. refl;
  given = join_given ps;
}
