use Rattle.std.proofs.Common.{◌≡◌, map, sym, subst, arith, None}
use Rattle.std.specs.List.{All}
use Rattle.par_link.proofs.Smallness.{spelled-small}
use Rattle.par_link.specs.Channels.{AreSpread}
use Rattle.par_references.specs.Conditions.{IsSmall}
use Rattle.par_references.specs.Named.{names_of}
use Rattle.par_link.specs.Order.{first_broken}
use Rattle.par_link.proofs.linker.link.Goals as goal

-- each file is small, since it is spelled
pub linked_list-requires-clause-small : goal.linked_list-requires-clause-small
linked_list-requires-clause-small c =
    subst (λ files. All IsSmall files) (sym c.as_slice.ensures)
    (λ k d within. let spells = c.requires.spelled k d within in spelled-small _ spells.0 spells.1)

pub of-requires-clause-small : goal.of-requires-clause-small
of-requires-clause-small c =
    subst (λ files. All IsSmall files) (sym c.as_slice-2.ensures)
    (λ k d within. let spells = c.requires.spelled k d within in spelled-small _ spells.0 spells.1)

pub invariant_of-result : goal.invariant_of-result
invariant_of-result c =
    let same = c.as_slice.ensures in
    record {
      few = omega (arith, c.requires.few);
      small = λ k d within. let spells = c.requires.spelled k d within in
          spelled-small _ spells.0 spells.1;
      spelled = c.requires.named;
      unbroken = subst (λ files. first_broken files ≡ None) same c.in_ok-names.ensures.unbroken;
      spread =
          subst (λ files. AreSpread files c.in_ok-channels.channels.buckets.items)
          c.as_slice-2.ensures c.in_ok-channels.ensures;
      named =
          subst (λ files. c.in_ok-names.names ≡ map (names_of files) files) same
          c.in_ok-names.ensures.names;
    }
