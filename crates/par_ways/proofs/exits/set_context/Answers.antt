use Rattle.std.proofs.Common.{◌≡◌, ◌∙◌, sym, ap, arith, subst, get_or, set}
use Rattle.std.proofs.lemmas.List.Elements.{All-set}
use Rattle.par_bits.specs.Sets.{has}
use Rattle.par_nodes.specs.Seen.{seen_kind}
use Rattle.par_pass_laws.specs.par_except.Seen.{seen, HasLocals}
use Rattle.par_ways.specs.Seen.{AreWide}
use Rattle.par_ways.proofs.Lists.{half_set, half_keep}
use Rattle.par_ways.proofs.exits.set_context.Goals as goal
use Rattle.par_ways.proofs.exits.set_context.Goals.{then-is_same, else-is_same}

pub loop-place-preserved : goal.loop-place-preserved
loop-place-preserved c =
    let xs = c.loop-place.exits in let i = c.loop-place.place in let x = c.index-exits-place in
    elim c.if-is_same.branch [
      | then-is_same w ↦
          let y = w.index-exits-place-then-is_same in
          let old = get_or xs i y.result in
          let z = record old { way = w.set_context.new.self } in
          let e : c.if-is_same.exits ≡ set xs i z = w.exits-is in
          let s : z.way ≡ record old.way { context = c.args.context } = w.set_context.ensures in
          record {
            half =
                half_set (has c.args.context) xs c.if-is_same.exits i x.result y.result z _
                (omega arith) x.is y.is (sym c.is_same.ensures ∙ w.if-is_same.true) e
                (ap (λ v. record { kind = seen_kind old.kind; way = seen v }) s)
                c.loop-place.invariant.half;
            wide =
                λ n h. subst (AreWide n) (sym e)
                (All-set (λ g. HasLocals n g.way) xs i z
                (subst (HasLocals n) (sym s)
                (c.loop-place.invariant.wide n h i y.result (omega arith)))
                (c.loop-place.invariant.wide n h));
          }
      | else-is_same w ↦ record {
        half =
            half_keep (has c.args.context) xs c.if-is_same.exits i x.result _ (omega arith) x.is
            (sym c.is_same.ensures ∙ w.if-is_same.false) w.exits-is c.loop-place.invariant.half;
        wide = λ n h. subst (AreWide n) (sym w.exits-is) (c.loop-place.invariant.wide n h);
      }
    ]
