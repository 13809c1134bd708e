use Rattle.std.proofs.Common.{sym, arith}
use Rattle.par_compile.specs.Own.{channel_in}
use Rattle.par_compile.proofs.Members.{puts_nothing, puts_more, puts_done}
use Rattle.par_compile.proofs.channels.put_channels.Goals as goal

pub loop-name-init : goal.loop-name-init
loop-name-init c =
    record { puts = λ frames. puts_nothing frames c.args.draft.now; few = omega arith }

pub loop-name-preserved : goal.loop-name-preserved
loop-name-preserved c = record {
  puts = λ frames.
      puts_more frames (channel_in c.args.is_input) c.args.names.now c.loop-name.name-index
      c.name-item.result c.args.draft.now c.loop-name.draft c.put_channel.new.draft
      c.loop-name-test.true (sym c.name-item.is) (c.loop-name.invariant.puts frames)
      (c.in_ok-put_channel.ensures.puts frames);
  few = omega (arith, c.loop-name.invariant.few, c.in_ok-put_channel.ensures.few);
}

pub returns-clause-puts : goal.returns-clause-puts
returns-clause-puts c = λ frames.
    puts_done frames (channel_in c.args.is_input) c.args.names.now c.loop-name.name-index
    c.args.draft.now c.loop-name.draft
    (omega (arith, c.loop-name-test.false, c.loop-name.auto.name-index-end))
    (c.loop-name.invariant.puts frames)
