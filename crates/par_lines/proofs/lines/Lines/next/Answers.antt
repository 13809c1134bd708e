use Rattle.std.proofs.Common.{rules, FitsSigned, w32, length, refl, sym}
use Rattle.std.proofs.lemmas.Int.{to_z-of_z}
use Rattle.std.proofs.lemmas.Option.{slice_get_read}
use Rattle.par_lines.proofs.Taking.{no_line, number_there, one_taken, spent_zero, spent_same}
use Rattle.par_lines.proofs.lines.Lines.next.Goals as goal

pub returns-in_default-get-clause-number : goal.returns-in_default-get-clause-number
returns-in_default-get-clause-number c =
    let none =
    no_line c.self.inside.channels c.self.inside.taken.items c.in-Some.place
    (sym c.in_default-get.ensures.item) in
    rw (c.in-Some.is, ← c.self.view_is, none) refl

pub returns-in_default-get-clause-left : goal.returns-in_default-get-clause-left
returns-in_default-get-clause-left c =
    let none =
    no_line c.self.inside.channels c.self.inside.taken.items c.in-Some.place
    (sym c.in_default-get.ensures.item) in
    rw (c.in-Some.is, ← c.self.view_is, none) refl

pub returns-in_default-number_at-clause-number : goal.returns-in_default-number_at-clause-number
returns-in_default-number_at-clause-number c =
    let inside = c.self.inside in
    let there =
    slice_get_read inside.taken.items
    (length inside.channels) c.in-Some.place c.index-taken.result.now
    (sym c.self.invariant) c.in-Some-get.ensures.in_range c.index-taken.ensures in
    rw (c.in-Some.is, ← c.self.view_is)
    (spent_zero inside.channels inside.taken.items c.in-Some.place c.index-taken.result.now
    c.in-Some-get.channel.now (sym c.in-Some-get.ensures.item) there
    (sym c.in_default-number_at.ensures.item))

pub returns-in_default-number_at-clause-left : goal.returns-in_default-number_at-clause-left
returns-in_default-number_at-clause-left c =
    let inside = c.self.inside in
    let there =
    slice_get_read inside.taken.items
    (length inside.channels) c.in-Some.place c.index-taken.result.now
    (sym c.self.invariant) c.in-Some-get.ensures.in_range c.index-taken.ensures in
    rw (c.in-Some.is, ← c.self.view_is)
    (spent_same inside.channels inside.taken.items c.in-Some.place c.index-taken.result.now
    c.in-Some-get.channel.now (sym c.in-Some-get.ensures.item) there
    (sym c.in_default-number_at.ensures.item))

pub returns-clause-number : goal.returns-clause-number
returns-clause-number c =
    let inside = c.self.inside in
    let there =
    slice_get_read inside.taken.items
    (length inside.channels) c.in-Some.place c.index-taken.result.now
    (sym c.self.invariant) c.in-Some-get.ensures.in_range c.index-taken.ensures in
    let fits : FitsSigned w32 c.in-Some-number_at.number = search rules in
    rw (to_z-of_z w32 c.in-Some-number_at.number fits, c.in-Some.is, ← c.self.view_is)
    (number_there inside.channels inside.taken.items c.in-Some.place c.index-taken.result.now
    c.in-Some-get.channel.now (sym c.in-Some-get.ensures.item) there _
    (sym c.in-Some-number_at.ensures.item))

pub returns-clause-left : goal.returns-clause-left
returns-clause-left c =
    let inside = c.self.inside in
    let there =
    slice_get_read inside.taken.items
    (length inside.channels) c.in-Some.place c.index-taken.result.now
    (sym c.self.invariant) c.in-Some-get.ensures.in_range c.index-taken.ensures in
    rw (c.in-Some.is, ← c.self.view_is)
    (one_taken inside.channels inside.taken.items c.in-Some.place c.index-taken.result.now
    c.in-Some-get.channel.now (sym c.in-Some-get.ensures.item) there)
