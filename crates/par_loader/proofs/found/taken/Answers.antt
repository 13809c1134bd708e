use Rattle.std.proofs.Common.{◌≡◌, ◌∙◌, rules}
use Rattle.std.specs.Str.{bytes_eq}
use Rattle.par_single.specs.Members.{own_name}
use Rattle.par_loader.specs.Found.{Finds}
use Rattle.par_loader.proofs.Finding.{taken_file, taken_other, taken_refused}
use Rattle.par_loader.proofs.found.taken.Goals as goal

pub returns-then-eq-clause-taken : goal.returns-then-eq-clause-taken
unfolding Finds
returns-then-eq-clause-taken c =
    let owned : bytes_eq (own_name c.in-Ok.file) c.args.class.now ≡ c.eq.result = search rules in
    taken_file c.args.class.now c.args.bytes.now c.in-Ok.file c.in-Ok.ensures.exact
    (owned ∙ c.if-eq.true)

pub returns-else-eq-clause-taken : goal.returns-else-eq-clause-taken
unfolding Finds
returns-else-eq-clause-taken c =
    let owned : bytes_eq (own_name c.in-Ok.file) c.args.class.now ≡ c.eq.result = search rules in
    taken_other c.args.class.now c.args.bytes.now c.in-Ok.file c.in-Ok.ensures.exact
    (owned ∙ c.if-eq.false)

pub returns-in-Err-clause-taken : goal.returns-in-Err-clause-taken
returns-in-Err-clause-taken c =
    taken_refused c.args.class.now c.args.bytes.now c.in-Err.error c.refusal.result
    c.refusal.ensures.memory c.in-Err.ensures.exact c.refusal.ensures.refused
