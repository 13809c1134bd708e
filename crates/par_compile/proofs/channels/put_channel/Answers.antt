use Rattle.std.proofs.Common.{None, refl, subst, sym, arith, List, ℕ}
use Rattle.par_pool.specs.Spelling.{IsText}
use Rattle.par_compile.specs.Own.{channel_in}
use Rattle.par_compile.specs.Drafts.{PutsMember}
use Rattle.par_compile.proofs.Texts.{name_text}
use Rattle.par_compile.proofs.Growing.{grows_nothing}
use Rattle.par_compile.proofs.Members.{IsItsCode, puts_member}
use Rattle.par_compile.proofs.channels.put_channel.Goals as goal

pub put-requires-clause-name : goal.put-requires-clause-name
put-requires-clause-name c =
    subst IsText (sym c.bytes.ensures.bytes) (name_text c.args.name.now c.bytes.ensures.spelled)

pub returns-clause-puts : goal.returns-clause-puts
returns-clause-puts c = λ frames.
    let m = channel_in c.args.is_input c.args.name.now in
    let start = c.args.draft.now in
    puts_member frames m None start start c.put.new.self refl
    (grows_nothing (IsItsCode m) start.pool start.pool refl) (λ later e. tt) (λ later e. tt) tt
    (omega arith) refl
    (subst (λ (t : List ℕ). PutsMember 0x0109 c.args.name.now t None start c.put.new.self)
    c.descriptor.ensures.is
    (subst (λ (t : List ℕ). PutsMember 0x0109 t c.descriptor.result.now None start c.put.new.self)
    c.bytes.ensures.bytes c.in_ok-put.ensures.puts))
