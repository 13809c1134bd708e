use Rattle.par_envs.specs.Numbered.{envs, Extends}
use Rattle.par_rounds.specs.par_ways.Seen.{seen_exits}
use Rattle.par_flow.proofs.Ways.{all_exits, extends_all, may_still}
use Rattle.par_flow.proofs.Used.{exits_add}
use Rattle.par_flow.proofs.keep.keep_exits.Goals as goal

pub returns-clause-more : goal.returns-clause-more
returns-clause-more c = λ i e h.
    c.in_ok-throws.ensures.more i e
    (c.in_ok-cont.ensures.more i e
    (c.in_ok-brk.ensures.more i e
    (c.in_ok-ret.ensures.more i e (c.in_ok-normal.ensures.more i e h))))

pub returns-clause-exits : goal.returns-clause-exits
returns-clause-exits c =
    let a = envs c.keep_exit.new.numbered.entries.items in
    let b = envs c.keep_exit-2.new.numbered.entries.items in
    let d = envs c.keep_exit-3.new.numbered.entries.items in
    let e = envs c.keep_exit-4.new.numbered.entries.items in
    let f = envs c.keep_throws.new.numbered.entries.items in
    let ef : Extends e f = c.in_ok-throws.ensures.more in
    let df : Extends d f = extends_all d e f c.in_ok-cont.ensures.more ef in
    let bf : Extends b f = extends_all b d f c.in_ok-brk.ensures.more df in
    let af : Extends a f = extends_all a b f c.in_ok-ret.ensures.more bf in
    all_exits f (seen_exits c.args.exits.now) _
    (may_still a f af _ _ c.in_ok-normal.ensures.way) (may_still b f bf _ _ c.in_ok-ret.ensures.way)
    (may_still d f df _ _ c.in_ok-brk.ensures.way) (may_still e f ef _ _ c.in_ok-cont.ensures.way)
    c.in_ok-throws.ensures.throws

pub returns-clause-adds : goal.returns-clause-adds
returns-clause-adds c =
    exits_add (envs c.args.numbered.now.entries.items) (envs c.keep_exit.new.numbered.entries.items)
    (envs c.keep_exit-2.new.numbered.entries.items) (envs c.keep_exit-3.new.numbered.entries.items)
    (envs c.keep_exit-4.new.numbered.entries.items) (envs c.keep_throws.new.numbered.entries.items)
    _ c.in_ok-normal.ensures.adds c.in_ok-ret.ensures.adds c.in_ok-brk.ensures.adds
    c.in_ok-cont.ensures.adds c.in_ok-throws.ensures.adds

pub returns-clause-long : goal.returns-clause-long
returns-clause-long c = λ n wide h.
    c.in_ok-throws.ensures.long n wide
    (c.in_ok-cont.ensures.long n wide
    (c.in_ok-brk.ensures.long n wide
    (c.in_ok-ret.ensures.long n wide (c.in_ok-normal.ensures.long n wide h))))
